use Rattle.std.proofs.Common.{◌≡◌, ◌∙◌, length, ap, sym, subst, arith}
use Rattle.std.specs.Prelude.{⊤}
use Rattle.sqlite.specs.State.{HasCleanDisk}
use Rattle.sqlite.specs.Held.{state}
use Rattle.tally_setup.specs.Constituency.{Constituency}
use Rattle.tally_returns.specs.Counts.{VoteCounts}
use Rattle.tally_store_entries.specs.internal.Constituencies.{ChangesSums, FindsSums}
use Rattle.tally_store_commands.proofs.TotalLemmas.{moved-long, sums-written}
use Rattle.tally_store_schema.specs.Office.{IsInside}
use Rattle.tally_store_schema.proofs.StaysLemmas.{clean_first, stays-then}
use Rattle.tally_store_commands.proofs.sums.move_sums.Goals as goal

pub put_sums-requires : goal.put_sums-requires
put_sums-requires g c =
    let found = c.in_ok-sums.sums in
    let votes : length c.sums.inside.votes.items ≡ length found.votes = ap (λ (v : VoteCounts). length v.votes) c.sums.view_is in
    let lists : length c.con.inside.lists.items ≡ length c.args.con.now.lists = ap (λ (k : Constituency). length k.lists) c.con.view_is in
    let long : length c.in-Some.sums.votes ≡ length found.votes = moved-long found c.args.counts.now c.in-Some.sums c.args.add c.in-Some.ensures.1 in
    record {
      few = omega (arith, votes, lists, long, c.len.ensures, c.len-2.ensures, c.sums.inside.votes.ok.0, c.con.inside.lists.ok.0, c.if-len.false, c.requires.few);
      lists = c.in-Some.ensures.0.votes.lists ∙ sym long;
    }

pub returns-clause-stays : goal.returns-clause-stays
returns-clause-stays g c = stays-then IsInside (λ _. ⊤) g.S.Store c.args.tx.now c.find_sums.new.tx c.put_sums.new.tx (λ _ _. tt) c.find_sums.ensures.reads.stays c.put_sums.ensures.stays

pub returns-clause-moved : goal.returns-clause-moved
returns-clause-moved g c clean inside =
    let con = c.args.con.now in
    let found = c.in_ok-sums.sums in
    let now = c.in-Some.sums in
    let old = state g.S.Store c.args.tx.now.conn.now in
    let mid = state g.S.Store c.find_sums.new.tx.conn.now in
    let new = state g.S.Store c.put_sums.new.tx.conn.now in
    let early : HasCleanDisk mid = clean_first c.put_sums.ensures.stays.survives clean in
    let votes : length c.sums.inside.votes.items ≡ length found.votes = ap (λ (v : VoteCounts). length v.votes) c.sums.view_is in
    let lists : length c.con.inside.lists.items ≡ length con.lists = ap (λ (k : Constituency). length k.lists) c.con.view_is in
    let many : length found.votes ≡ length con.lists = omega (arith, votes, lists, c.len.ensures, c.len-2.ensures, c.sums.inside.votes.ok.0, c.con.inside.lists.ok.0, c.if-len.false) in
    let first : c.as_str.result.now ≡ con.code = c.as_str.ensures.text ∙ ap (λ (k : Constituency). k.code) c.con.view_is in
    let second : c.as_str-2.result.now ≡ con.code = c.as_str-2.ensures.text ∙ ap (λ (k : Constituency). k.code) c.con.view_is in
    sums-written con c.args.counts.now found now c.args.add old mid new c.put_sums.result c.requires.few clean inside (c.in_ok-sums.ensures.reads.same early inside)
    (subst (λ key. FindsSums key old found) first (c.in_ok-sums.ensures.found early inside)) many c.in-Some.ensures.1
    (subst (λ key. ChangesSums key c.args.counts.now now mid new c.put_sums.result) second c.put_sums.ensures.written)
