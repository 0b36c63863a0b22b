-- Look-ups in a transaction, one after the other.
use Rattle.std.proofs.Common.{Bool, true, false, ℕ, List, Ok, Err, Result, sym, true≢false}
use Rattle.std.specs.Prelude.{IsErr, OnOk}
use Rattle.sqlite_value.specs.Order.{Row}
use Rattle.sqlite_trees.specs.declared.store.Store.{Ghosts}
use Rattle.sqlite.specs.declared.error.Error.{Error}
use Rattle.sqlite.specs.declared.transaction.Transaction.{Transaction}
use Rattle.sqlite.specs.State.{State as Seen, IsUnchanged}
use Rattle.sqlite.proofs.Callers.{unchanged_then}
use Rattle.tally_store_schema.specs.declared.table.KeyedTable.{KeyedTable}
use Rattle.tally_store_schema.specs.Office.{IsInside}
use Rattle.tally_store_schema.specs.internal.Inside.{IsOpenInside, OnlyReads, StaysFrom}
use Rattle.tally_store_schema.proofs.StaysLemmas.{clean_first, stays-then}
use Rattle.tally_store_entries.specs.internal.Entries.{ChangesNothing}
use Rattle.tally_store_entries.specs.internal.Found.{IsFoundIf}
use Rattle.tally_store_entries.proofs.FindLemmas.{inside_still, found_before}

so_answered : {X P : Type 0} (r : Result X Error) → P → OnOk r P
so_answered (Ok x) p = p
so_answered (Err e) p = tt

both_unchanged : {X : Type 0} (a b c : Seen) (r : Result X Error) → IsUnchanged a b → OnOk r (IsUnchanged b c) → OnOk r (IsUnchanged a c)
both_unchanged a b c (Ok x) first second = unchanged_then a b c first second
both_unchanged a b c (Err e) first second = tt

pub look_then : {S X Y : Type 0} (g : Ghosts S) (a b c : Transaction S) (first : X) (r : Result Y Error) → OnlyReads g a b (Ok first) → OnlyReads g b c r → OnlyReads g a c r
look_then g a b c first r one two = record {
  stays = stays-then IsInside IsInside g a b c (λ early inside. inside_still _ _ (one.same early inside) inside) one.stays two.stays;
  same = λ clean inside.
      let same = one.same (clean_first two.stays.survives clean) inside in
      both_unchanged _ _ _ r same (two.same clean (inside_still _ _ same inside));
  answered_open = λ clean. so_answered r (one.answered_open (clean_first two.stays.survives clean));
}

-- the same where the second starts on a connection that is open
pub look_open : {S X Y : Type 0} (g : Ghosts S) (a b c : Transaction S) (first : X) (r : Result Y Error) → OnlyReads g a b (Ok first) → StaysFrom IsOpenInside g b c → ChangesNothing g b c r → OnlyReads g a c r
look_open g a b c first r one stays nothing = record {
  stays = stays-then IsInside IsOpenInside g a b c (λ early inside. let same = one.same early inside in (inside_still _ _ same inside, same.0.is_open)) one.stays stays;
  same = λ clean inside.
      let same = one.same (clean_first stays.survives clean) inside in
      both_unchanged _ _ _ r same (nothing clean (inside_still _ _ same inside, same.0.is_open));
  answered_open = λ clean. so_answered r (one.answered_open (clean_first stays.survives clean));
}

-- the same of another answer
pub look_as : {S X Y : Type 0} (g : Ghosts S) (a b : Transaction S) (x : X) (r : Result Y Error) → OnlyReads g a b (Ok x) → OnlyReads g a b r
look_as g a b x r one = record {
  stays = one.stays;
  same = λ clean inside. so_answered r (one.same clean inside);
  answered_open = λ clean. so_answered r (one.answered_open clean);
}

-- the same of an error
pub look_fails : {S Y : Type 0} (g : Ghosts S) (a b : Transaction S) (r : Result Y Error) → IsErr r → StaysFrom IsInside g a b → OnlyReads g a b r
look_fails g a b (Ok x) wrong stays = absurd (true≢false (sym wrong))
look_fails g a b (Err e) is stays = record { stays = stays; same = λ _ _. tt; answered_open = λ _. tt }

pub found_if_before : (asked : Bool) (t : KeyedTable) (key : List ℕ) (old new : Seen) (answer : List Row) → IsUnchanged old new → IsFoundIf asked t key new answer → IsFoundIf asked t key old answer
found_if_before true t key old new answer same found = found_before t key old new answer same found
found_if_before false t key old new answer same none = none
