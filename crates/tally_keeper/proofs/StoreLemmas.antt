-- What a keeper in memory answers is of the machine, and of the command's kind.
use Rattle.std.proofs.Common.{◌≡◌, List, Result, Ok, Err, IfOk, inl, inr, subst, sym}
use Rattle.std.specs.Prelude.{◌≢◌, IfErr}
use Rattle.tally_setup.specs.Constituency.{Constituency}
use Rattle.tally_setup.specs.Limits.{IsSetup}
use Rattle.tally_returns.specs.State.{State}
use Rattle.tally_returns.specs.declared.ask.Ask.{Ask}
use Rattle.tally_returns.specs.declared.refusal.Refusal.{Refusal}
use Rattle.tally_returns.specs.declared.refusal.Refusal.TheVariants.{Memory, Store}
use Rattle.tally_returns.specs.declared.reply.Reply.{Reply}
use Rattle.tally_machine_law.specs.Kinds.{IsReplyTo}
use Rattle.tally_machine_law.specs.LawfulState.{IsLawfulState}
use Rattle.tally_machine_law.specs.Step.{IsAnswered, IsStep, answer_seen}
use Rattle.tally_machine_law.proofs.KindLemmas.{step-kind}
use Rattle.tally_machine_law.proofs.OwnLemmas.{steps-own}
use Rattle.tally_keeper.specs.internal.Held.{IsAnsweredInMemory}

-- a keeper in memory answers requests as the machine does, and never Store
pub memory-answered : (setup : List Constituency) (s : State) (ask : Ask) (r : Result Reply Refusal) (t : State) → IsAnsweredInMemory setup s ask r t → IsAnswered setup s ask r t
memory-answered setup s ask r t (inl step) = inl step
memory-answered setup s ask r t (inr refused) = inr (inl refused.0, refused.1)

pub memory-own : (setup : List Constituency) (s : State) (ask : Ask) (r : Result Reply Refusal) (t : State) → IsAnsweredInMemory setup s ask r t → IfErr r (λ e. e ≢ Store)
memory-own setup s ask r t (inl step) = go r step
  where
    go : (x : Result Reply Refusal) → IsStep setup s ask x t → IfErr x (λ e. e ≢ Store)
    go (Ok reply) step = tt
    go (Err e) step = (steps-own setup s t ask e step).1
memory-own setup s ask r t (inr refused) = subst (λ (x : Result Reply Refusal). IfErr x (λ e. e ≢ Store)) (sym refused.0) (λ (same : Memory ≡ Store). cc)

-- and in the command's kind
pub memory-kind : (setup : List Constituency) (s : State) (ask : Ask) (r : Result Reply Refusal) (t : State) → IsSetup setup → IsLawfulState setup s → IsAnsweredInMemory setup s ask r t
    → IfOk r (IsReplyTo setup ask)
memory-kind setup s ask r t ok lawful (inl step) = go r step
  where
    go : (x : Result Reply Refusal) → IsStep setup s ask x t → IfOk x (IsReplyTo setup ask)
    go (Ok reply) step = step-kind setup s t ask (answer_seen reply) ok lawful step
    go (Err e) step = tt
memory-kind setup s ask r t ok lawful (inr refused) = subst (λ (x : Result Reply Refusal). IfOk x (IsReplyTo setup ask)) (sym refused.0) tt
