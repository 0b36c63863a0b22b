-- Calls in a transaction, one after the other.
use Rattle.std.proofs.Common.{◌∙◌, refl, arith, rules}
use Rattle.std.specs.Prelude.{⊤}
use Rattle.sqlite_trees.specs.Tree.{Trees}
use Rattle.sqlite_trees.specs.declared.store.Store.{Ghosts}
use Rattle.sqlite.specs.declared.transaction.Transaction.{Transaction}
use Rattle.sqlite.specs.Held.{state}
use Rattle.sqlite.specs.State.{State as Seen, HasCleanDisk, KeepsCommit, Survives}
use Rattle.sqlite.proofs.StateLemmas.{survives_then}
use Rattle.tally_store_schema.specs.internal.Inside.{Stays, StaysFrom}

pub keeps_then : (a b c : Seen) → KeepsCommit a b → KeepsCommit b c → KeepsCommit a c
keeps_then a b c p q = record { was_open = λ now. p.was_open (q.was_open now); committed = λ now. q.committed now ∙ p.committed (q.was_open now) }

pub keeps_same : (a : Seen) → KeepsCommit a a
keeps_same a = record { was_open = λ now. now; committed = λ _. refl }

-- the disk was clean before a call after which it is
pub clean_first : {a b : Seen} {P : Trees → Type 0} → Survives a b P → HasCleanDisk b → HasCleanDisk a
clean_first s clean = omega (arith, s.clean, clean)

pub stays-same : {S : Type 0} (starts : Seen → Type 0) (g : Ghosts S) (a : Transaction S) → StaysFrom starts g a a
stays-same starts g a = record {
  same_reference = refl;
  was_open = λ clean live. live;
  kept = λ clean at. keeps_same _;
  survives = search rules;
}

pub stays-then : {S : Type 0} (starts later : Seen → Type 0) (g : Ghosts S) (a b c : Transaction S) → (HasCleanDisk (state g b.conn.now) → starts (state g a.conn.now) → later (state g b.conn.now))
    → StaysFrom starts g a b → StaysFrom later g b c → StaysFrom starts g a c
stays-then starts later g a b c goes_on one two = record {
  same_reference = two.same_reference ∙ one.same_reference;
  was_open = λ clean live. one.was_open (omega (arith, clean, two.survives.clean)) (two.was_open clean live);
  kept = λ clean at.
      let early : HasCleanDisk (state g b.conn.now) = omega (arith, clean, two.survives.clean) in
      keeps_then _ _ _ (one.kept early at) (two.kept clean (goes_on early at));
  survives = survives_then _ _ _ _ _ _ (λ _ db none. none) (λ _ db none. none) one.survives two.survives;
}

pub stays-both : {S : Type 0} (g : Ghosts S) (a b c : Transaction S) → Stays g a b → Stays g b c → Stays g a c
stays-both g a b c one two = stays-then (λ _. ⊤) (λ _. ⊤) g a b c (λ _ _. tt) one two
