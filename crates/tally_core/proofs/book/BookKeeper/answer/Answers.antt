use Rattle.std.proofs.Common.{IfOk, subst}
use Rattle.tally_machine_law.specs.Kinds.{IsReplyTo}
use Rattle.tally_machine_law.specs.Step.{IsAnswered}
use Rattle.tally_keeper.specs.Kept.{state_in}
use Rattle.tally_keeper.specs.Held.{Held}
use Rattle.tally_keeper.proofs.StoreLemmas.{memory-answered, memory-kind, memory-own}
use Rattle.tally_core.proofs.book.BookKeeper.answer.Goals as goal

pub returns-clause-step : goal.returns-clause-step
returns-clause-step c =
    let old = c.self.inside.ledger in
    let r = c.answer_in.result in
    let new = state_in c.answer_in.new.ledger in
    λ trusted. subst (λ (b : Held). IsAnswered b.setup b.state c.args.ask.now r new) c.self.view_is (memory-answered old.setup (state_in old) c.args.ask.now r new c.answer_in.ensures.step)

pub returns-clause-store : goal.returns-clause-store
returns-clause-store c =
    let old = c.self.inside.ledger in
    memory-own old.setup (state_in old) c.args.ask.now c.answer_in.result (state_in c.answer_in.new.ledger) c.answer_in.ensures.step

pub returns-clause-kind : goal.returns-clause-kind
returns-clause-kind c =
    let old = c.self.inside.ledger in
    let r = c.answer_in.result in
    subst (λ (b : Held). IfOk r (IsReplyTo b.setup c.args.ask.now)) c.self.view_is
    (memory-kind old.setup (state_in old) c.args.ask.now r (state_in c.answer_in.new.ledger) c.self.invariant.limits c.self.invariant.lawful c.answer_in.ensures.step)
