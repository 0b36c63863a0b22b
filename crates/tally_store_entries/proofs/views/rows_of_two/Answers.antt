use Rattle.std.proofs.Common.{subst, sym}
use Rattle.sqlite.specs.State.{HasCleanDisk, IsUnchanged}
use Rattle.sqlite.specs.Held.{state}
use Rattle.tally_store_entries.specs.internal.Found.{IsFoundIf}
use Rattle.tally_store_entries.proofs.FindLemmas.{inside_still, found_before}
use Rattle.tally_store_schema.proofs.StaysLemmas.{clean_first}
use Rattle.tally_store_entries.proofs.LookLemmas.{look_as, look_fails, look_then}
use Rattle.tally_store_entries.proofs.views.rows_of_two.Goals as goal

pub returns-in_err-of_first-clause-reads : goal.returns-in_err-of_first-clause-reads
returns-in_err-of_first-clause-reads g c = look_fails g.S.Store c.args.tx.now c.rows_of_key.new.tx _ c.from_residual.ensures.0 c.rows_of_key.ensures.reads.stays

pub returns-in_err-of_second-clause-reads : goal.returns-in_err-of_second-clause-reads
returns-in_err-of_second-clause-reads g c =
    let both = look_then g.S.Store c.args.tx.now c.rows_of_key.new.tx c.rows_of_key-2.new.tx _ _ c.in_ok-of_first.ensures.reads c.rows_of_key-2.ensures.reads in
    look_fails g.S.Store c.args.tx.now c.rows_of_key-2.new.tx _ c.from_residual-in_err-of_second.ensures.0 both.stays

pub returns-clause-reads : goal.returns-clause-reads
returns-clause-reads g c =
    look_as g.S.Store c.args.tx.now c.rows_of_key-2.new.tx _ _ (look_then g.S.Store c.args.tx.now c.rows_of_key.new.tx c.rows_of_key-2.new.tx _ _ c.in_ok-of_first.ensures.reads c.in_ok-of_second.ensures.reads)

pub returns-clause-found : goal.returns-clause-found
returns-clause-found g c clean inside =
    let old = state g.S.Store c.args.tx.now.conn.now in
    let mid = state g.S.Store c.rows_of_key.new.tx.conn.now in
    let early : HasCleanDisk mid = clean_first c.rows_of_key-2.ensures.reads.stays.survives clean in
    let same : IsUnchanged old mid = c.in_ok-of_first.ensures.reads.same early inside in (
      c.in_ok-of_first.ensures.found early inside,
      subst (λ b. IsFoundIf b c.args.second c.args.key.now old c.in_ok-of_second.of_second.items) (sym c.if-not-with_second.false)
          (found_before c.args.second c.args.key.now old mid _ same (c.in_ok-of_second.ensures.found clean (inside_still old mid same inside))),
    )

pub returns-then-not-with_second-clause-reads : goal.returns-then-not-with_second-clause-reads
returns-then-not-with_second-clause-reads g c = look_as g.S.Store c.args.tx.now c.rows_of_key.new.tx _ _ c.in_ok-of_first.ensures.reads

pub returns-then-not-with_second-clause-found : goal.returns-then-not-with_second-clause-found
returns-then-not-with_second-clause-found g c clean inside = (
  c.in_ok-of_first.ensures.found clean inside,
  subst (λ b. IsFoundIf b c.args.second c.args.key.now (state g.S.Store c.args.tx.now.conn.now) c.new.result.items) (sym c.if-not-with_second.true) c.new.ensures.items,
)
