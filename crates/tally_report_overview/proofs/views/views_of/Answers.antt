use Rattle.std.proofs.Common.{◌≡◌, List, Some, Ok, Err, inl, refl, subst, sym}
use Rattle.std.specs.List.{AllZip}
use Rattle.tally_setup.specs.Constituency.{Constituency}
use Rattle.tally_setup.specs.Setup.{constituency_with}
use Rattle.tally_returns.specs.View.{FitsView}
use Rattle.tally_keeper.specs.Shown.{AnswersShowCon}
use Rattle.tally_keeper.proofs.StaysLemmas.{stays-then}
use Rattle.tally_report_overview.proofs.CountryLemmas.{AreViewsOf, all-refused, all-taken, at-first, con-at, fits-more, not-store, shown-more}
use Rattle.tally_report_overview.proofs.ViewLemmas.{kept-shown}
use Rattle.tally_report_overview.proofs.views.views_of.Goals as goal

pub returns-in-Err-push-clause-stays : goal.returns-in-Err-push-clause-stays
returns-in-Err-push-clause-stays g c =
    stays-then g.K.Keeper c.args.keeper.now c.loop-code.keeper c.show_con.new.self c.loop-code.invariant.stays c.show_con.ensures.stays

pub returns-in-Err-push-clause-shows : goal.returns-in-Err-push-clause-shows
returns-in-Err-push-clause-shows g c sure =
    let k = g.K.Keeper in
    let setup = k.constituencies c.args.keeper.now in
    let old = k.content c.args.keeper.now in
    let new = k.content c.show_con.new.self in
    let was = c.loop-code.invariant in
    let code = c.code-item.result in
    let shows = at-first setup (k.constituencies c.loop-code.keeper) old (k.content c.loop-code.keeper) new code c.show_con.result (Ok c.in-Ok.view) was.stays.setup (was.kept (c.show_con.ensures.stays.trusted sure)) c.in-Ok.is (c.show_con.ensures.shows sure) in
    inl (refl, kept-shown setup old new code (Ok c.in-Ok.view) shows)

pub returns-in-Err-push-clause-store : goal.returns-in-Err-push-clause-store
returns-in-Err-push-clause-store g c is = not-store (g.K.Keeper.HasDatabase c.args.keeper.now) is

pub returns-in-Err-clause-stays : goal.returns-in-Err-clause-stays
returns-in-Err-clause-stays g c =
    stays-then g.K.Keeper c.args.keeper.now c.loop-code.keeper c.show_con.new.self c.loop-code.invariant.stays c.show_con.ensures.stays

pub returns-in-Err-clause-shows : goal.returns-in-Err-clause-shows
returns-in-Err-clause-shows g c sure =
    let k = g.K.Keeper in
    let setup = k.constituencies c.args.keeper.now in
    let old = k.content c.args.keeper.now in
    let new = k.content c.show_con.new.self in
    let was = c.loop-code.invariant in
    let i = c.loop-code.code-index in
    let code = c.code-item.result in
    let why = c.in-Err.refusal in
    let at = con-at setup c.args.codes.now i code c.requires.codes c.loop-code-test.true c.code-item.is in
    let shows = at-first setup (k.constituencies c.loop-code.keeper) old (k.content c.loop-code.keeper) new code c.show_con.result (Err why) was.stays.setup (was.kept (c.show_con.ensures.stays.trusted sure)) c.in-Err.is (c.show_con.ensures.shows sure) in
    all-refused setup old new i code why c.requires.limits at shows

pub returns-in-Err-clause-store : goal.returns-in-Err-clause-store
returns-in-Err-clause-store g c is = c.loop-code.invariant.stays.database ((rw c.in-Err.is at c.show_con.ensures.store) is)

pub loop-code-preserved : goal.loop-code-preserved
loop-code-preserved g c =
    let k = g.K.Keeper in
    let setup = k.constituencies c.args.keeper.now in
    let old = k.content c.args.keeper.now in
    let new = k.content c.show_con.new.self in
    let was = c.loop-code.invariant in
    let i = c.loop-code.code-index in
    let code = c.code-item.result in
    let view = c.in-Ok.view in
    let at = con-at setup c.args.codes.now i code c.requires.codes c.loop-code-test.true c.code-item.is in
    let fits = rw c.in-Ok.is at c.show_con.ensures.fits in
    let shows : k.IsTrusted c.show_con.new.self → AnswersShowCon setup old code (Ok view) new = λ sure.
    at-first setup (k.constituencies c.loop-code.keeper) old (k.content c.loop-code.keeper) new code c.show_con.result (Ok view) was.stays.setup (was.kept (c.show_con.ensures.stays.trusted sure)) c.in-Ok.is (c.show_con.ensures.shows sure) in
    record {
      stays = stays-then k c.args.keeper.now c.loop-code.keeper c.show_con.new.self was.stays c.show_con.ensures.stays;
      fits = rw c.in-Ok-push.ensures.items (fits-more setup i code c.loop-code.views.items view c.requires.limits at
          (λ (found : Constituency) is. fits found (subst (λ s. constituency_with code s ≡ Some found) (sym was.stays.setup) is)) was.fits);
      kept = λ sure. kept-shown setup old new code (Ok view) (shows sure);
      shows = λ sure. rw c.in-Ok-push.ensures.items (shown-more setup old i code c.loop-code.views.items view at
          (subst (λ s. AnswersShowCon setup old code (Ok view) s) (kept-shown setup old new code (Ok view) (shows sure)) (shows sure))
          (was.shows (c.show_con.ensures.stays.trusted sure)));
    }

pub returns-clause-fits : goal.returns-clause-fits
returns-clause-fits g c =
    subst (λ (l : List Constituency). AllZip FitsView l c.loop-code.views.items)
    (all-taken (g.K.Keeper.constituencies c.args.keeper.now) c.args.codes.now c.loop-code.code-index c.requires.codes c.loop-code-test.false) c.loop-code.invariant.fits

pub returns-clause-shows : goal.returns-clause-shows
returns-clause-shows g c sure =
    let k = g.K.Keeper in
    let setup = k.constituencies c.args.keeper.now in
    let was = c.loop-code.invariant in (
      subst (λ (l : List Constituency). AreViewsOf setup (k.content c.args.keeper.now) l c.loop-code.views.items)
          (all-taken setup c.args.codes.now c.loop-code.code-index c.requires.codes c.loop-code-test.false) (was.shows sure),
      was.kept sure,
    )
