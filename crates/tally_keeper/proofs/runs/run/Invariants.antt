use Rattle.std.specs.Prelude.{All}
use Rattle.tally_returns.specs.declared.refusal.Refusal.TheVariants.{Store}
use Rattle.std.proofs.Common.{Err, ◌≡◌, ◌≤◌, take, length}
use Rattle.std.specs.Vec.{vec_len, vec_capacity}
use Rattle.tally_keeper.specs.Keeper.{Runs}
use Rattle.tally_keeper.specs.StaysKeeper.{StaysKeeper}
use Rattle.tally_keeper.proofs.runs.run.Given as goal

-- the answers so far are a run of the requests so far
abbrev pub invariant-loop-ask : goal.invariant-loop-ask
invariant-loop-ask g l =
    let k = g.K.Keeper in
    record {
      room : length l.asks ≤ vec_capacity l.answers;
      count : vec_len l.answers ≡ l.ask-index;
      stays : StaysKeeper k l.fn.keeper l.keeper;
      store : All (λ r. r ≡ Err Store → k.HasDatabase l.fn.keeper) l.answers.items;
      runs : k.IsTrusted l.keeper → Runs (k.constituencies l.fn.keeper) (k.content l.fn.keeper) (take l.ask-index l.asks) l.answers.items (k.content l.keeper);
    }
