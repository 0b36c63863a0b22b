-- What the end of a transaction leaves of a connection.
use Rattle.std.proofs.Common.{◌≡◌, ◌∙◌, sym, IsTrue, Result, Ok, Err, OnErr, IfErr, true≢false, inl, inr, true}
use Rattle.sqlite.specs.State.{State as Seen, IsRolledBack, KeepsCommit, Survives}
use Rattle.sqlite.specs.Steps.{FailsToCommit}
use Rattle.sqlite.specs.declared.error.Error.{Error}
use Rattle.tally_store_open.specs.Create.{IsAsBefore}
use Rattle.tally_store_open.specs.internal.Ending.{IsSettled}

-- a transaction that began where all was committed, and committed nothing
pub record Began (old last : Seen) : Type 0 where
  pub settled : IsTrue old.is_open → old.now ≡ old.committed
  pub was_open : IsTrue last.is_open → IsTrue old.is_open
  pub committed : IsTrue last.is_open → last.committed ≡ old.committed

-- a database that went back to the last commit
pub rolled_back : (old last new : Seen) → Began old last → IsRolledBack last new → IsTrue new.is_open → IsAsBefore old new
rolled_back old last new began undone now =
    let open_last = undone.was_open now in
    let same = began.committed open_last in
    let shown = undone.undone now in
    record { now = shown.0 ∙ same ∙ sym (began.settled (began.was_open open_last)); committed = shown.1 ∙ same }

pub failed : (old last new : Seen) (e : Error) → Began old last → IsTrue last.in_transaction → FailsToCommit last new e → IsTrue new.is_open → IsAsBefore old new
failed old last new e began inside (inl fails) now = rolled_back old last new began fails.3 now
failed old last new e began inside (inr late) now = absurd (true≢false (sym inside ∙ late.1))

-- a commit that failed
pub failed_commit : (old last new : Seen) (r : Result Unit Error) → Began old last → IsTrue last.in_transaction → IfErr r (FailsToCommit last new) → IsTrue new.is_open → OnErr r (IsAsBefore old new)
failed_commit old last new (Ok done) began inside fails now = tt
failed_commit old last new (Err e) began inside fails now = failed old last new e began inside fails now

-- ---- a transaction that began there

module _ {old bare last : Seen} (begun : bare ≡ record old { in_transaction = true }) where
  pub has_begun : IsSettled old → KeepsCommit bare last → Began old last
  has_begun settled kept =
      let was_open = rw begun at kept.was_open in
      let committed = rw begun at kept.committed in
      record { settled = settled; was_open = was_open; committed = committed }

  pub survives_begun : Survives bare last (λ _. ⊥) → Survives old last (λ _. ⊥)
  survives_begun stays =
      let s = rw begun at stays in
      record { clean = s.clean; shield = s.shield; counts = s.counts; limit = s.limit; closes = s.closes; crash = s.crash }
