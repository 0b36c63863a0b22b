use Rattle.std.proofs.Common.{◌≡◌, ◌∙◌, length, sym, subst, arith}
use Rattle.std.specs.Prelude.{vec_len}
use Rattle.std.proofs.lemmas.Bool.{eqb-true}
use Rattle.sqlite.specs.State.{HasCleanDisk, IsUnchanged}
use Rattle.sqlite.specs.Held.{state}
use Rattle.tally_store_schema.specs.declared.table.KeyedTable.TheVariants.{Returns, Counts}
use Rattle.tally_store_schema.specs.Office.{IsFound}
use Rattle.tally_store_entries.proofs.FindLemmas.{finds_none, finds_return, inside_still, found_before}
use Rattle.tally_store_schema.proofs.StaysLemmas.{clean_first}
use Rattle.tally_store_entries.proofs.LookLemmas.{look_as, look_fails, look_then}
use Rattle.tally_store_entries.proofs.find.find_return.Goals as goal

pub returns-in_err-heads-clause-reads : goal.returns-in_err-heads-clause-reads
returns-in_err-heads-clause-reads g c = look_fails g.S.Store c.args.tx.now c.rows_of_key.new.tx _ c.from_residual.ensures.0 c.rows_of_key.ensures.reads.stays

pub returns-then-is_empty-clause-reads : goal.returns-then-is_empty-clause-reads
returns-then-is_empty-clause-reads g c = look_as g.S.Store c.args.tx.now c.rows_of_key.new.tx _ _ c.in_ok-heads.ensures.reads

pub returns-in_err-counts-clause-reads : goal.returns-in_err-counts-clause-reads
returns-in_err-counts-clause-reads g c =
    let both = look_then g.S.Store c.args.tx.now c.rows_of_key.new.tx c.rows_of_key-2.new.tx _ _ c.in_ok-heads.ensures.reads c.rows_of_key-2.ensures.reads in
    look_fails g.S.Store c.args.tx.now c.rows_of_key-2.new.tx _ c.from_residual-in_err-counts.ensures.0 both.stays

pub returns-clause-reads : goal.returns-clause-reads
returns-clause-reads g c =
    look_as g.S.Store c.args.tx.now c.rows_of_key-2.new.tx _ _ (look_then g.S.Store c.args.tx.now c.rows_of_key.new.tx c.rows_of_key-2.new.tx _ _ c.in_ok-heads.ensures.reads c.in_ok-counts.ensures.reads)

pub returns-then-is_empty-clause-found : goal.returns-then-is_empty-clause-found
returns-then-is_empty-clause-found g c clean inside =
    let old = state g.S.Store c.args.tx.now.conn.now in
    let none : length c.in_ok-heads.heads.items ≡ 0 = omega (arith, eqb-true (vec_len c.in_ok-heads.heads) 0 (sym c.is_empty.ensures ∙ c.if-is_empty.true), c.in_ok-heads.heads.ok.0) in
    let heads : IsFound Returns c.args.station old c.in_ok-heads.heads.items = subst (λ k. IsFound Returns k old c.in_ok-heads.heads.items) c.as_str.ensures.text (c.in_ok-heads.ensures.found clean inside) in
    finds_none c.args.setup.now c.args.station old c.in_ok-heads.heads.items none heads

pub returns-clause-found : goal.returns-clause-found
returns-clause-found g c clean inside =
    let old = state g.S.Store c.args.tx.now.conn.now in
    let mid = state g.S.Store c.rows_of_key.new.tx.conn.now in
    let early : HasCleanDisk mid = clean_first c.rows_of_key-2.ensures.reads.stays.survives clean in
    let same : IsUnchanged old mid = c.in_ok-heads.ensures.reads.same early inside in
    let heads : IsFound Returns c.args.station old c.in_ok-heads.heads.items = subst (λ k. IsFound Returns k old c.in_ok-heads.heads.items) c.as_str.ensures.text (c.in_ok-heads.ensures.found early inside) in
    let counts : IsFound Counts c.args.station mid c.in_ok-counts.counts.items = subst (λ k. IsFound Counts k mid c.in_ok-counts.counts.items) c.as_str-2.ensures.text (c.in_ok-counts.ensures.found clean (inside_still old mid same inside)) in
    finds_return c.args.setup.now c.args.station old c.in_ok-heads.heads.items c.in_ok-counts.counts.items c.return_in.result c.as_str.ensures.code heads (found_before Counts c.args.station old mid c.in_ok-counts.counts.items same counts)
    (rw (c.deref.ensures.value, c.deref-2.ensures.value) at c.return_in.ensures.none) (rw (c.deref.ensures.value, c.deref-2.ensures.value) at c.return_in.ensures.one)
