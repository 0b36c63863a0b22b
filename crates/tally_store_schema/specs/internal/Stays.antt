-- What a call in a transaction keeps, whatever it answers, and what it does.
use Rattle.std.specs.Prelude.{◌≡◌, ⊤, IsTrue, Result}
use Rattle.sqlite_trees.specs.declared.store.Store.{Ghosts}
use Rattle.sqlite.specs.declared.error.Error.{Error}
use Rattle.sqlite.specs.declared.transaction.Transaction.{Transaction}
use Rattle.sqlite.specs.Held.{state}
use Rattle.sqlite.specs.State.{State as Seen, HasCleanDisk, KeepsCommit, Survives}

-- The transaction is on the same connection. If that is open, it was open before. Where the
-- transaction was as it has to be, nothing was committed. A crash leaves what it could have left
-- before.
pub record StaysFrom (starts : Seen → Type 0) {S : Type 0} (g : Ghosts S) (old new : Transaction S)
    : Type 0 where
  pub same_reference : new.conn.ghost_name ≡ old.conn.ghost_name
  pub was_open : HasCleanDisk (state g new.conn.now) → IsTrue (state g new.conn.now).is_open
      → IsTrue (state g old.conn.now).is_open
  pub kept : HasCleanDisk (state g new.conn.now) → starts (state g old.conn.now)
      → KeepsCommit (state g old.conn.now) (state g new.conn.now)
  pub survives : Survives (state g old.conn.now) (state g new.conn.now) (λ _. ⊥)

-- what a call keeps in any transaction
abbrev pub Stays : {S : Type 0} (g : Ghosts S) → Transaction S → Transaction S → Type 0
Stays g old new = StaysFrom (λ _. ⊤) g old new

-- What a call does to the database of its transaction: how the state before the call, the one after
-- it and the answer belong together.
abbrev pub InDatabase : {S X : Type 0} (g : Ghosts S) → (Seen → Seen → Result X Error → Type 0)
    → Transaction S → Transaction S → Result X Error → Type 0
InDatabase g Act old new result = Act (state g old.conn.now) (state g new.conn.now) result
