use Rattle.std.proofs.Common.{◌≡◌, ◌∙◌, [], ◌∷◌, sym, ap}
use Rattle.tally_returns.specs.Return.{StationReturn}
use Rattle.tally_returns.specs.declared.returns.Status.TheVariants.{Closed}
use Rattle.sqlite.specs.Held.{state}
use Rattle.tally_store_commands.proofs.MovedLemmas.{closed_so, not_closed, sums_stay}
use Rattle.tally_store_commands.proofs.moves.uncount.Goals as goal

pub returns-in-Closed-clause-uncounted : goal.returns-in-Closed-clause-uncounted
returns-in-Closed-clause-uncounted g c clean inside setup s station place standing limits at lawful stood uncounted were =
    let before = c.args.before.now in
    let status : before.status ≡ Closed = sym (ap (λ (r : StationReturn). r.status) c.before-2.view_is) ∙ c.in-Closed.is in
    let counts : before.counts ≡ c.before-2.inside.counts = sym (ap (λ (r : StationReturn). r.counts) c.before-2.view_is) in
    c.move_sums.ensures.moved clean inside setup s station place before standing limits at lawful stood
    (closed_so before status ∙ ap (λ k. k ∷ []) counts, uncounted) were

pub returns-in_default-clause-uncounted : goal.returns-in_default-clause-uncounted
returns-in_default-clause-uncounted g c clean inside setup s station place standing limits at lawful stood uncounted were =
    let before = c.args.before.now in
    sums_stay setup s station before standing (state g.S.Store c.args.tx.now.conn.now) inside stood
    (not_closed before (λ is. c.in_default.not-Closed (ap (λ (r : StationReturn). r.status) c.before-2.view_is ∙ is))) uncounted were
