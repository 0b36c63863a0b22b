-- A call that wrote nothing.
use Rattle.std.proofs.Common.{◌≡◌, Bool, true, false, not, ◌∙◌, inl, inr, IsTrue, OnErr, OnOk, Result, Ok, Err, sym, ap, refl, arith}
use Rattle.std.specs.Prelude.{IfOk}
use Rattle.sqlite.specs.Effect.{Database, IsDatabase}
use Rattle.sqlite.specs.State.{State as Seen, HasCleanDisk, IsRolledBack, IsUnchanged, KeepsCommit, KeepsCounts, Survives}
use Rattle.sqlite.proofs.StateLemmas.{survives_then}
use Rattle.sqlite_trees.specs.Tree.{Trees}
use Rattle.tally_store_schema.specs.Tables.{office_schema}
use Rattle.tally_store_schema.specs.Office.{HasTables}
use Rattle.tally_store_open.specs.Crash.{CountsNothing, IsUnwritten, IsWholeOrNothing}
use Rattle.tally_store_open.specs.Create.{IsAsBefore}
use Rattle.tally_store_open.specs.internal.Ending.{EndsUnchanged, IsSettled}
use Rattle.tally_store_schema.proofs.StaysLemmas.{clean_first}
use Rattle.tally_store_open.proofs.EndingLemmas.{Began, has_begun, rolled_back, survives_begun}

-- a crash leaves the last commit of a connection that is open, and
-- nothing else: a law of every store
abbrev pub LeavesCommit : Seen → Type 0
LeavesCommit seen = (db : Trees) → IsTrue seen.is_open → seen.may_leave db → db ≡ seen.committed.trees

-- all that is there was committed, on a connection in no transaction
pub settled_outside : (seen : Seen) (commits : Bool) → commits ≡ not seen.in_transaction → (IsTrue commits → IsSettled seen) → seen.in_transaction ≡ false → IsSettled seen
settled_outside seen commits is so outside = so (is ∙ ap not outside)

-- a call that committed nothing, and left what it found
pub unwritten_by : (old new : Seen) → LeavesCommit old → IsSettled old → Survives old new (λ _. ⊥) → (HasCleanDisk new → IsTrue new.is_open → IsAsBefore old new) → IsUnwritten old new
unwritten_by old new law settled survives same = record {
  survives = survives;
  crash = λ clean was_open db may. elim (survives.crash clean db may) [
    | inl before ↦ law db was_open before ∙ sym (ap (λ (d : Database). d.trees) (settled was_open))
    | inr none ↦ absurd none
  ];
  same = same;
}

pub on_err : {X E P : Type 0} (r : Result X E) → P → OnErr r P
on_err (Ok x) p = tt
on_err (Err e) p = p

-- a database that was not touched
still : (seen : Seen) (Leaves : Trees → Type 0) → Survives seen seen Leaves
still seen Leaves = record {
  clean = omega arith;
  shield = λ shielded. shielded;
  counts = omega arith;
  limit = refl;
  closes = λ _ now. inl now;
  crash = λ _ db may. inl may;
}

pub untouched : (seen : Seen) → LeavesCommit seen → IsSettled seen → IsUnwritten seen seen
untouched seen law settled = unwritten_by seen seen law settled (still seen (λ _. ⊥)) (λ _ _. record { now = refl; committed = refl })

pub ends_untouched : {X E : Type 0} (Leaves : Trees → Type 0) (r : Result X E) (seen : Seen) → seen.in_transaction ≡ false → IsWholeOrNothing Leaves r seen seen
ends_untouched Leaves r seen outside = record { ended = outside; same = λ _ _. on_err r (record { now = refl; committed = refl }); crash = still seen Leaves }

-- reads that were answered, and a rollback
pub counts_after : (old last new : Seen) → IsUnchanged old last → IsRolledBack last new → KeepsCounts old new
counts_after old last new same undone = record {
  changes = undone.counts.changes ∙ same.1.changes;
  last_rowid = undone.counts.last_rowid ∙ same.1.last_rowid;
}

-- a call that counted no change where it answered
pub counts_nothing : {X E : Type 0} (r : Result X E) (old new : Seen) → (HasCleanDisk new → IfOk r (λ _. KeepsCounts old new)) → OnOk r (CountsNothing old new)
counts_nothing (Ok x) old new ensured = λ _ clean. ensured clean
counts_nothing (Err e) old new ensured = tt

-- a call that wrote nothing is whole or nothing
pub ends_whole : {X E : Type 0} (Leaves : Trees → Type 0) (r : Result X E) (old new : Seen) → EndsUnchanged old new → IsWholeOrNothing Leaves r old new
ends_whole Leaves r old new ends = record {
  ended = ends.ended;
  same = λ clean now. on_err r (ends.same clean now);
  crash = record {
    clean = ends.survives.clean;
    shield = ends.survives.shield;
    counts = ends.survives.counts;
    limit = ends.survives.limit;
    closes = ends.survives.closes;
    crash = λ clean db may. elim (ends.survives.crash clean db may) [
      | inl before ↦ inl before
      | inr none ↦ absurd none
    ];
  };
}

-- the tables of today's version in a transaction that has begun
pub begun_tables : (old bare : Seen) → bare ≡ record old { in_transaction = true } → old.now.schema ≡ office_schema → (IsTrue old.is_open → IsDatabase old.now) → HasTables bare
begun_tables old bare begun schema sound = rw begun (record { schema = schema; sound = sound; inside = refl })

-- what was read there, and undone, counts nothing
pub counts_undone : {X E F : Type 0} (r : Result (Result X E) F) (old bare last new : Seen) → bare ≡ record old { in_transaction = true } → OnOk r (IsUnchanged bare last) → IsRolledBack last new → IfOk r (λ answer. IfOk answer (λ _. KeepsCounts old new))
counts_undone (Err e) old bare last new begun same undone = tt
counts_undone (Ok (Err e)) old bare last new begun same undone = tt
counts_undone (Ok (Ok x)) old bare last new begun same undone =
    let kept = counts_after bare last new same undone in
    let moved = rw begun at kept in
    record { changes = moved.changes; last_rowid = moved.last_rowid }

-- and ends with nothing changed
pub ends_undone : (old bare last new : Seen) → bare ≡ record old { in_transaction = true } → IsSettled old → (HasCleanDisk last → KeepsCommit bare last) → Survives bare last (λ _. ⊥)
    → new.in_transaction ≡ false → (HasCleanDisk new → IsRolledBack last new) → Survives last new (λ _. ⊥) → EndsUnchanged old new
ends_undone old bare last new begun settled kept stays ended undone survives = record {
  ended = ended;
  was_open = λ clean now. (began clean).was_open ((undone clean).was_open now);
  same = λ clean now. rolled_back old last new (began clean) (undone clean) now;
  survives = survives_then old last new _ _ (λ _. ⊥) (λ _ db none. none) (λ _ db none. none) (survives_begun begun stays) survives;
}
  where
    began : HasCleanDisk new → Began old last
    began clean = has_begun begun settled (kept (clean_first survives clean))
