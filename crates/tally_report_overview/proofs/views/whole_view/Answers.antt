use Rattle.std.proofs.Common.{rules, subst, Ok}
use Rattle.tally_setup.specs.Limits.{IsSetup}
use Rattle.tally_keeper.specs.Keeper.{Happens, request}
use Rattle.tally_returns.specs.declared.ask.Ask.TheVariants.{ShowCon}
use Rattle.tally_returns.specs.declared.reply.Reply.TheVariants as reply
use Rattle.tally_report_overview.proofs.ViewLemmas.{shown-lawful}
use Rattle.tally_report_overview.proofs.views.whole_view.Goals as goal

pub returns-in-Ok-Con-clause-lawful : goal.returns-in-Ok-Con-clause-lawful
returns-in-Ok-Con-clause-lawful g c sure =
    let k = g.K.Keeper in
    let setup = k.constituencies c.args.keeper.now in
    let old = k.content c.args.keeper.now in
    let new = k.content c.answer.new.self in
    let limits = subst IsSetup c.setup.ensures.setup c.cons-cons.ensures.limits in
    let lawful = c.setup.ensures.lawful (c.answer.ensures.stays.trusted sure) in
    let happens : k.IsTrusted c.answer.new.self → Happens setup old (request (ShowCon c.args.con) (Ok (reply.Con c.in-Ok-Con.view))) new = search rules in
    λ found there. shown-lawful c.a_constituency_has_a_view.ensures.lawful setup old new c.args.con c.in-Ok-Con.view found limits lawful there (happens sure)
