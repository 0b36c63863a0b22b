use Rattle.std.proofs.Common.{◌≡◌, ◌∙◌, [], ◌∷◌, true, sym, ap, subst}
use Rattle.std.specs.Prelude.{⊤}
use Rattle.sqlite.specs.Held.{state}
use Rattle.sqlite.specs.State.{HasCleanDisk}
use Rattle.tally_returns.specs.Return.{StationReturn}
use Rattle.tally_store_entries.specs.internal.Entries.{ChangesReturn}
use Rattle.tally_store_commands.specs.internal.Moves.{CountsSo}
use Rattle.tally_store_commands.proofs.MovedLemmas.{closed_moved, closed_so, not_closed}
use Rattle.tally_store_schema.specs.Office.{IsInside}
use Rattle.tally_store_schema.proofs.StaysLemmas.{clean_first, stays-then}
use Rattle.tally_store_commands.proofs.moves.put_closed.Goals as goal

pub returns-clause-put : goal.returns-clause-put
returns-clause-put g c clean inside setup place text s limits at lawful not_certified stood tables =
    let con = c.args.con.now in
    let station = c.args.station in
    let before = c.args.before.now in
    let standing = c.args.standing.now in
    let old = state g.S.Store c.args.tx.now.conn.now in
    let mid = state g.S.Store c.move_sums.new.tx.conn.now in
    let new = state g.S.Store c.change_return.new.tx.conn.now in
    let early : HasCleanDisk mid = clean_first c.change_return.ensures.stays.survives clean in
    let counts : standing.counts ≡ c.standing.inside.counts = sym (ap (λ (r : StationReturn). r.counts) c.standing.view_is) in
    let so : CountsSo true c.standing.inside.counts before standing = (not_closed before c.requires.open, closed_so standing c.requires.closed ∙ ap (λ k. k ∷ []) counts) in
    closed_moved setup text s con place station before standing old mid new c.change_return.result clean limits at not_certified stood c.requires.same_counts tables
    (c.in_ok-move_sums.ensures.moved early inside setup s station place before standing limits at lawful stood so tables.totals)
    (subst (λ k. ChangesReturn k standing mid new c.change_return.result) c.as_str.ensures.text c.change_return.ensures.changed)

pub returns-clause-stays : goal.returns-clause-stays
returns-clause-stays g c = stays-then IsInside (λ _. ⊤) g.S.Store c.args.tx.now c.move_sums.new.tx c.change_return.new.tx (λ _ _. tt) c.move_sums.ensures.stays c.change_return.ensures.stays
