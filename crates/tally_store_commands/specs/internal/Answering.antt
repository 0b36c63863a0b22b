-- What a call does that answers a request by what was looked up before.
use Rattle.std.specs.Prelude.{List, Result, IfOk}
use Rattle.sqlite_trees.specs.declared.store.Store.{Ghosts}
use Rattle.sqlite.specs.declared.error.Error.{Error}
use Rattle.sqlite.specs.declared.transaction.Transaction.{Transaction}
use Rattle.sqlite.specs.State.{State as Seen}
use Rattle.tally_setup.specs.Constituency.{Constituency}
use Rattle.tally_returns.specs.declared.ask.Ask.{Ask}
use Rattle.tally_returns.specs.declared.refusal.Refusal.{Refusal}
use Rattle.tally_returns.specs.declared.reply.Reply.{Reply}
use Rattle.tally_machine_law.specs.Kinds.{IsReplyTo}
use Rattle.tally_store_schema.specs.internal.Inside.{InDatabase}
use Rattle.tally_store_commands.specs.internal.Requests.{WritesOnlyActs}

-- The reply is of the request's kind, whatever the tables are. The request is carried out so. One
-- that does not act writes nothing.
pub record AnswersSo {S : Type 0} (g : Ghosts S) (setup : List Constituency) (ask : Ask)
    (Carries : Seen → Seen → Result (Result Reply Refusal) Error → Type 0) (old new : Transaction S)
    (result : Result (Result Reply Refusal) Error) : Type 0 where
  pub kind : IfOk result (λ r. IfOk r (IsReplyTo setup ask))
  pub step : InDatabase g Carries old new result
  pub unwritten : InDatabase g WritesOnlyActs old new result
