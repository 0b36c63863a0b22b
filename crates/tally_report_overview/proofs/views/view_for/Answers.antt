use Rattle.std.proofs.Common.{◌≡◌, false, rules, subst}
use Rattle.tally_setup.specs.Limits.{IsSetup}
use Rattle.tally_report_overview.specs.Views.{is_past}
use Rattle.tally_report_overview.proofs.ViewLemmas.{enough-for, shown-bare}
use Rattle.tally_report_overview.proofs.views.view_for.Goals as goal

pub returns-then-not-shows_past-clause-enough : goal.returns-then-not-shows_past-clause-enough
returns-then-not-shows_past-clause-enough g c sure =
    let k = g.K.Keeper in
    let setup = k.constituencies c.args.keeper.now in
    let old = k.content c.args.keeper.now in
    let new = k.content c.show_con.new.self in
    let bare : is_past c.args.which ≡ false = search rules in
    let limits = subst IsSetup c.setup.ensures.setup c.cons-cons.ensures.limits in
    let lawful = c.setup.ensures.lawful (c.show_con.ensures.stays.trusted sure) in
    let shows = shown-bare setup old new c.args.con c.args.which c.show_con.result bare c.show_con.ensures.bare (c.show_con.ensures.shows sure) in
    enough-for c.a_constituency_has_a_view.ensures.lawful setup old new c.args.con c.args.which c.show_con.result limits lawful shows
