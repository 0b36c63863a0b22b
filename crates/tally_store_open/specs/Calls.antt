-- What a call on the connection of an office answers, and what it does.
use Rattle.std.specs.Prelude.{Result, IfOk, IfErr}
use Rattle.sqlite_trees.specs.declared.store.Store.{Ghosts}
use Rattle.sqlite.specs.Effect.{Database}
use Rattle.sqlite.specs.Held.{Held, state}
use Rattle.sqlite.specs.State.{State as Seen, HasCleanDisk}

-- As long as the disk returned what was written: how the database before the call, the one after it
-- and the answer belong together.
abbrev pub OnDisk : {S X : Type 0} (g : Ghosts S) → (Seen → Seen → X → Type 0)
    → Held S → Held S → X → Type 0
OnDisk g Act old new result = HasCleanDisk (state g new) → Act (state g old) (state g new) result

-- what is so of an answer with Ok, by what was there
abbrev pub Accepts : {X E : Type 0} → (X → Database → Type 0) → Seen → Seen → Result X E → Type 0
Accepts Is old new result = IfOk result (λ x. Is x old.now)

-- and by what is there after the call
abbrev pub Yields : {X E : Type 0} → (X → Seen → Seen → Type 0) → Seen → Seen → Result X E → Type 0
Yields Is old new result = IfOk result (λ x. Is x old new)

-- why the answer is a fault, by what was there
abbrev pub Rejects : {X E : Type 0} → (Database → E → Type 0) → Seen → Seen → Result X E → Type 0
Rejects IsFault old new result = IfErr result (IsFault old.now)
