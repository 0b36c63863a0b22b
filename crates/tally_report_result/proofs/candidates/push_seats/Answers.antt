use Rattle.std.proofs.Common.{◌≡◌, ◌∙◌, ℕ, length, ap, arith, string_bytes}
use Rattle.std.proofs.lemmas.List.{length-map}
use Rattle.tally_machine_law.specs.Holders.{holders}
use Rattle.tally_setup.specs.Constituency.{ListEntry}
use Rattle.tally_report.proofs.HolderLemmas.{holder-within}
use Rattle.tally_report_result.proofs.candidates.push_seats.Goals as goal

pub push_held-requires-clause-from_one : goal.push_held-requires-clause-from_one
push_held-requires-clause-from_one c = λ i lt.
    let is : c.deref.result.now ≡ holders c.len.result c.args.seats c.args.gone.now = c.deref.ensures.value ∙ c.in_ok-held.ensures in
    rw is (holder-within c.len.result c.args.seats c.args.gone.now i (rw is at lt)).0

pub push_held-requires-clause-candidates : goal.push_held-requires-clause-candidates
push_held-requires-clause-candidates c = λ i lt.
    let is : c.deref.result.now ≡ holders c.len.result c.args.seats c.args.gone.now = c.deref.ensures.value ∙ c.in_ok-held.ensures in
    let held = (holder-within c.len.result c.args.seats c.args.gone.now i (rw is at lt)).1 in
    let count : length c.args.list.now.candidates ≡ c.len.result =
    omega (arith, c.len.ensures, c.list.inside.candidates.ok.0, length-map c.list.inside.candidates.items string_bytes, ap (λ (l : ListEntry). length l.candidates) c.list.view_is) in
    rw (is, count) held
