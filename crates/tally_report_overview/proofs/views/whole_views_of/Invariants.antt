use Rattle.std.proofs.Common.{◌≡◌, take}
use Rattle.std.specs.List.{AllZip}
use Rattle.tally_machine_law.specs.Outcome.{IsLawfulView}
use Rattle.tally_returns.specs.View.{FitsView}
use Rattle.tally_keeper.specs.StaysKeeper.{StaysKeeper}
use Rattle.tally_report_overview.proofs.CountryLemmas.{AreWholeOf}
use Rattle.tally_report_overview.proofs.views.whole_views_of.Given as goal

-- the views so far are those of the constituencies so far, and the state has stayed
abbrev pub invariant-loop-code : goal.invariant-loop-code
invariant-loop-code g l =
    let k = g.K.Keeper in
    let setup = k.constituencies l.fn.keeper in
    record {
      stays : StaysKeeper k l.fn.keeper l.keeper;
      fits : AllZip FitsView (take l.code-index setup) l.views.items;
      kept : k.IsTrusted l.keeper → k.content l.keeper ≡ k.content l.fn.keeper;
      lawful : k.IsTrusted l.keeper → AllZip IsLawfulView (take l.code-index setup) l.views.items;
      shows : k.IsTrusted l.keeper → AreWholeOf setup (k.content l.fn.keeper) (take l.code-index setup) l.views.items;
    }
