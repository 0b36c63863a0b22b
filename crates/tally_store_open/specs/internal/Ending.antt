-- A connection before an office is made or opened in it, and after a call that wrote nothing. No
-- public contract speaks of this.
use Rattle.std.specs.Prelude.{◌≡◌, IsTrue, false}
use Rattle.sqlite.specs.State.{State as Seen, HasCleanDisk, Survives}
use Rattle.tally_store_open.specs.Create.{IsAsBefore}

-- all that is there was committed
abbrev pub IsSettled : Seen → Type 0
IsSettled s = IsTrue s.is_open → s.now ≡ s.committed

-- Nothing was committed, and no transaction is open. Where the connection is open, it was open
-- before, and what is there is as it was.
pub record EndsUnchanged (old new : Seen) : Type 0 where
  pub ended : new.in_transaction ≡ false
  pub was_open : HasCleanDisk new → IsTrue new.is_open → IsTrue old.is_open
  pub same : HasCleanDisk new → IsTrue new.is_open → IsAsBefore old new
  pub survives : Survives old new (λ _. ⊥)
