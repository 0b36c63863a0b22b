use Rattle.std.proofs.Common.{◌∙◌, Option, ap, sym, subst}
use Rattle.tally_returns.specs.declared.ask.Ask.{Ask}
use Rattle.tally_desk_answer.specs.Outcome.{outcome_text}
use Rattle.tally_desk.specs.internal.Gives.{OrdersRead}
use Rattle.tally_desk.specs.internal.Named.{lists_of}
use Rattle.tally_desk.specs.Requests.{Commands}
use Rattle.tally_desk.proofs.command.order.Goals as goal

pub returns-clause-orders : goal.returns-clause-orders
returns-clause-orders g c sure =
    let setup = g.K.Keeper.constituencies c.args.keeper.now in
    let old = g.K.Keeper.content c.args.keeper.now in
    let new = g.K.Keeper.content c.answer-outcome.new.self in
    let lists = lists_of setup c.args.subject in
    let commands : Commands setup old lists c.in-Some.ask c.outcome.result.items new = (
      c.answer-outcome.result,
      c.answer-outcome.ensures.step sure,
      c.outcome.ensures
          ∙ ap (λ lists. outcome_text lists c.answer-outcome.result)
          (c.lists_of.ensures.lists ∙ ap (λ setup. lists_of setup c.args.subject) (c.setup.ensures.setup ∙ c.answer-outcome.ensures.stays.setup)),
    ) in
    subst (λ (asked : Option Ask). OrdersRead setup old lists asked c.outcome.result.items new) (sym c.in-Some.is) commands
