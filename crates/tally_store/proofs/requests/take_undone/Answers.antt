use Rattle.std.proofs.Common.{◌≡◌, Some, refl, rules, subst, sym, true}
use Rattle.std.proofs.lemmas.Result.{IfOk-weaker, on_ok_weaker}
use Rattle.sqlite.specs.State.{HasCleanDisk}
use Rattle.sqlite.specs.Held.{state}
use Rattle.tally_store_schema.specs.Office.{IsInside}
use Rattle.tally_store_rows.specs.TablesOfState.{AreTables}
use Rattle.tally_store_open.specs.internal.Ending.{EndsUnchanged}
use Rattle.tally_store_schema.proofs.StaysLemmas.{clean_first}
use Rattle.tally_store.proofs.TrialLemmas.{undone_ends}
use Rattle.tally_store.proofs.requests.take_undone.Goals as goal

pub returns-clause-ends : goal.returns-clause-ends
returns-clause-ends g c =
    let old = state g.S.Store c.args.conn.now in
    let bare = state g.S.Store c.transaction-tx.result.conn.now in
    let last = state g.S.Store c.take_open-taken.new.tx.conn.now in
    let new = state g.S.Store c.rollback.new.self.0 in
    let begun : bare ≡ record old { in_transaction = true } = rw c.transaction-tx.ensures.begun refl in
    let stays = c.take_open-taken.ensures.stays in
    let ends : c.rollback.new.self.0 ≡ c.conn-1.given.0 = search rules in
    subst (λ (h : _). EndsUnchanged old (state g.S.Store h)) ends
    (undone_ends c.args.setup.now old bare last new c.requires.office begun stays.was_open stays.kept stays.survives c.rollback.ensures.ended c.rollback.ensures.undone c.rollback.ensures.survives)

pub returns-clause-tried : goal.returns-clause-tried
returns-clause-tried g c clean text s lawful has =
    let bare = state g.S.Store c.transaction-tx.result.conn.now in
    let last = state g.S.Store c.take_open-taken.new.tx.conn.now in
    let begun = c.transaction-tx.ensures.begun in
    let ends : c.rollback.new.self.0 ≡ c.conn-1.given.0 = search rules in
    let clean_end : HasCleanDisk (state g.S.Store c.rollback.new.self.0) = subst (λ (h : _). HasCleanDisk (state g.S.Store h)) (sym ends) clean in
    let early : HasCleanDisk last = clean_first c.rollback.ensures.survives clean_end in
    let here : IsInside bare = rw begun (record { schema = has.schema; sound = has.sound; distinct = has.distinct; inside = refl }) in
    let held : AreTables c.args.setup.now text s bare.now.trees = rw begun has.tables in
    IfOk-weaker c.take_open-taken.result _ _ (λ count all. let done = (all text s lawful held).0 in (Some done.state, done.imported)) (c.take_open-taken.ensures.lodges.imported early here)

pub returns-clause-named : goal.returns-clause-named
returns-clause-named g c clean text s lawful has =
    let bare = state g.S.Store c.transaction-tx.result.conn.now in
    let last = state g.S.Store c.take_open-taken.new.tx.conn.now in
    let begun = c.transaction-tx.ensures.begun in
    let ends : c.rollback.new.self.0 ≡ c.conn-1.given.0 = search rules in
    let clean_end : HasCleanDisk (state g.S.Store c.rollback.new.self.0) = subst (λ (h : _). HasCleanDisk (state g.S.Store h)) (sym ends) clean in
    let early : HasCleanDisk last = clean_first c.rollback.ensures.survives clean_end in
    let here : IsInside bare = rw begun (record { schema = has.schema; sound = has.sound; distinct = has.distinct; inside = refl }) in
    let held : AreTables c.args.setup.now text s bare.now.trees = rw begun has.tables in
    on_ok_weaker c.take_open-taken.result (λ names. names text s lawful held) (c.take_open-taken.ensures.named early here)
