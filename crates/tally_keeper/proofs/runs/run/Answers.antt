use Rattle.std.specs.Prelude.{IfErr, Result, Ok}
use Rattle.tally_returns.specs.declared.refusal.Refusal.{Refusal}
use Rattle.tally_returns.specs.declared.reply.Reply.{Reply}
use Rattle.std.proofs.lemmas.List.Elements.{All-push}
use Rattle.tally_returns.specs.declared.refusal.Refusal.TheVariants.{Store}
use Rattle.std.proofs.Common.{Err, ◌≡◌, arith, subst}
use Rattle.std.proofs.lemmas.List.{take_all}
use Rattle.tally_keeper.specs.Keeper.{Happens, Runs, request}
use Rattle.tally_keeper.proofs.RunLemmas.{runs_more}
use Rattle.tally_keeper.proofs.StaysLemmas.{stays-then}
use Rattle.tally_keeper.proofs.runs.run.Goals as goal

-- a request that is answered Store was answered so by a keeper with a database
own : {Has : Type 0} (r : Result Reply Refusal) → IfErr r (λ e. e ≡ Store → Has) → r ≡ Err Store → Has
own (Ok reply) store is = cc
own (Err e) store is = let same : e ≡ Store = cc in store same

pub loop-ask-preserved : goal.loop-ask-preserved
loop-ask-preserved g c =
    let k = g.K.Keeper in
    let was = c.loop-ask.invariant in
    record {
      room = omega (arith, was.room, c.in-Ok.ensures.capacity);
      count = omega (arith, was.count, c.in-Ok.ensures.len);
      stays = stays-then k c.args.keeper.now c.loop-ask.keeper c.answer-answer.new.self was.stays c.answer-answer.ensures.stays;
      store = rw c.in-Ok.ensures.items (All-push (λ r. r ≡ Err Store → k.HasDatabase c.args.keeper.now) c.loop-ask.answers.items c.answer-answer.result was.store (λ is. was.stays.database (own c.answer-answer.result c.answer-answer.ensures.store is)));
      runs = λ sure. rw c.in-Ok.ensures.items (runs_more (k.constituencies c.args.keeper.now) (k.content c.args.keeper.now) (k.content c.loop-ask.keeper) (k.content c.answer-answer.new.self) c.args.asks.now c.loop-ask.answers.items c.loop-ask.ask-index c.ask-item.result c.answer-answer.result
          (omega (arith, c.loop-ask-test.true)) c.ask-item.is (was.runs (c.answer-answer.ensures.stays.trusted sure))
          (subst (λ setup. Happens setup (k.content c.loop-ask.keeper) (request c.ask-item.result c.answer-answer.result) (k.content c.answer-answer.new.self)) was.stays.setup (c.answer-answer.ensures.step sure)));
    }

pub returns-clause-runs : goal.returns-clause-runs
returns-clause-runs g c = λ sure.
    let k = g.K.Keeper in
    subst (λ asks. Runs (k.constituencies c.args.keeper.now) (k.content c.args.keeper.now) asks c.loop-ask.answers.items (k.content c.loop-ask.keeper))
    (take_all c.loop-ask.ask-index c.args.asks.now c.loop-ask-test.false) (c.loop-ask.invariant.runs sure)
