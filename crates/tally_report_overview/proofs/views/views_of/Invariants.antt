use Rattle.std.proofs.Common.{◌≡◌, take}
use Rattle.std.specs.List.{AllZip}
use Rattle.tally_returns.specs.View.{FitsView}
use Rattle.tally_keeper.specs.StaysKeeper.{StaysKeeper}
use Rattle.tally_report_overview.proofs.CountryLemmas.{AreViewsOf}
use Rattle.tally_report_overview.proofs.views.views_of.Given as goal

-- the views so far are those of the constituencies so far, and the state has stayed
abbrev pub invariant-loop-code : goal.invariant-loop-code
invariant-loop-code g l =
    let k = g.K.Keeper in
    let setup = k.constituencies l.fn.keeper in
    record {
      stays : StaysKeeper k l.fn.keeper l.keeper;
      fits : AllZip FitsView (take l.code-index setup) l.views.items;
      kept : k.IsTrusted l.keeper → k.content l.keeper ≡ k.content l.fn.keeper;
      shows : k.IsTrusted l.keeper → AreViewsOf setup (k.content l.fn.keeper) (take l.code-index setup) l.views.items;
    }
