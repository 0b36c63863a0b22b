use Rattle.std.proofs.Common.{◌≡◌, ◌∙◌, false, length, replicate, ap, rules}
use Rattle.tally_keeper.proofs.OpeningLemmas.{opened-is}
use Rattle.tally_keeper.proofs.views.opening_view.Goals as goal

pub returns : goal.returns
returns c =
    let con = c.args.con.now in
    let stations : c.len.result ≡ length con.stations = search rules in
    let lists : c.len-2.result ≡ length con.lists = search rules in
    let votes : c.in_ok-vec.field-0.items ≡ replicate c.len-2.result 0 = search rules in
    (λ i. record {
      edition = 1;
      certified = false;
      note = c.new.ensures.bytes i;
      lot = c.new-2.ensures.items i;
      stations = stations i;
      received = 0;
      queried = 0;
      corrected = 0;
      closed = 0;
      votes = (votes ∙ ap (λ n. replicate n 0) lists) i;
      blank = 0;
      spoiled = 0;
      seats = c.new-3.ensures.items i;
      gone = c.new-4.ensures.items i;
      past = c.new-5.ensures.items i;
    })
    ∙ opened-is con
