-- What a SELECT leaves, whether it answers or fails.
use Rattle.std.proofs.Common.{◌≡◌, ◌⊎◌, inl, inr, ℕ, List, IsTrue, Option, Some, None, Result, Ok, Err, IfOk, IfErr, OnOk, sym, ap, subst, ◌∙◌}
use Rattle.sqlite_value.specs.Order.{Row}
use Rattle.sqlite_schema.specs.declared.schema.Schema.{Schema}
use Rattle.sqlite_schema.specs.declared.command.Returning.{Returning}
use Rattle.sqlite_resolve.specs.declared.compiled.Compiled.{Compiled}
use Rattle.sqlite.specs.Listing.{understood}
use Rattle.sqlite.specs.State.{State, Shown, ShowsRows, IsUnchanged, IsRolledBack, KeepsCommit, FailsToQuery, FailsToShow, IsNotRun, IsTooLate}
use Rattle.sqlite.specs.declared.error.Error.{Error}
use Rattle.sqlite.specs.Clock.{timed}
use Rattle.sqlite.proofs.Callers.{IsPlain}

-- a SELECT leaves the connection as it was
pub shown_same : (sql : List ℕ) (params : Row) (old new : State) (rows : List Row) (schema : Schema) → old.now.schema ≡ schema → IsPlain (understood schema sql) → Shown sql params old new rows → IsUnchanged old new
unfolding Shown
shown_same sql params old new rows schema has plain h =
    let known = sym h.1.is ∙ ap (λ s. understood s sql) has in
    let bare = subst IsPlain (sym known) plain in
    let it = subst (λ w. ShowsRows old new sql h.0 (timed params h.0.formats h.1.now) rows w) bare.0 h.2 in
    it.3

-- ---- what a SELECT that fails leaves

pub unchanged_keeps : (old new : State) → IsUnchanged old new → KeepsCommit old new
unchanged_keeps old new same = record { was_open = λ _. same.0.was_open; committed = λ _. same.0.committed_is }

pub rolled_keeps : (old new : State) → IsRolledBack old new → KeepsCommit old new
rolled_keeps old new back = record { was_open = back.was_open; committed = λ open_now. (back.undone open_now).1 }

pub query_keeps : (schema : Schema) (sql : List ℕ) (params : Row) (old new : State) (e : Error) → old.now.schema ≡ schema → IsPlain (understood schema sql) → FailsToQuery sql params old new e ⊎ IsTooLate sql params old new e → KeepsCommit old new
unfolding FailsToQuery IsNotRun
query_keeps schema sql params old new e has plain (inl (inl (inl none))) = unchanged_keeps old new none.1
query_keeps schema sql params old new e has plain (inl (inl (inr fails))) = rolled_keeps old new fails.3
query_keeps schema sql params old new e has plain (inl (inr h)) =
    let known = sym h.1.is ∙ ap (λ s. understood s sql) has in
    let bare = subst IsPlain (sym known) plain in
    let it = subst (λ w. FailsToShow old new sql h.0 (timed params h.0.formats h.1.now) e w) bare.0 h.2 in
    unchanged_keeps old new it.3
query_keeps schema sql params old new e has plain (inr late) = unchanged_keeps old new late.5

-- ---- a connection that is open was open before, whatever the text means

rows_open : (old new : State) (sql : List ℕ) (c : Compiled) (params : Row) (rows : List Row) (w : Option Returning) → ShowsRows old new sql c params rows w → IsTrue old.is_open
rows_open old new sql c params rows None h = h.3.0.was_open
rows_open old new sql c params rows (Some what) h = h.1.shown.was_open

pub shown_open : (sql : List ℕ) (params : Row) (old new : State) (rows : List Row) → Shown sql params old new rows → IsTrue old.is_open
unfolding Shown
shown_open sql params old new rows h = rows_open old new sql h.0 _ rows h.0.returning h.2

fails_open : (old new : State) (sql : List ℕ) (c : Compiled) (params : Row) (e : Error) (w : Option Returning) → FailsToShow old new sql c params e w → IsTrue new.is_open → IsTrue old.is_open
fails_open old new sql c params e None h now = h.3.0.was_open
fails_open old new sql c params e (Some what) (inl same) now = same.1.0.was_open
fails_open old new sql c params e (Some what) (inr fails) now = fails.3.was_open now

pub query_open : (sql : List ℕ) (params : Row) (old new : State) (e : Error) → FailsToQuery sql params old new e ⊎ IsTooLate sql params old new e → IsTrue new.is_open → IsTrue old.is_open
unfolding FailsToQuery IsNotRun
query_open sql params old new e (inl (inl (inl none))) now = none.1.0.was_open
query_open sql params old new e (inl (inl (inr fails))) now = fails.3.was_open now
query_open sql params old new e (inl (inr h)) now = fails_open old new sql h.0 _ e h.0.returning h.2 now
query_open sql params old new e (inr late) now = late.5.0.was_open

-- ---- a whole call of `query_all`, where the schema is known

module _ {X : Type 0} (items : X → List Row) (sql : List ℕ) (params : Row) (old new : State) where
  abbrev pub Answered : Result X Error → Type 0
  Answered r = IfOk r (λ x. Shown sql params old new (items x))

  abbrev pub Failed : Result X Error → Type 0
  Failed r = IfErr r (λ e. FailsToQuery sql params old new e ⊎ IsTooLate sql params old new e)

  pub read_keeps : (schema : Schema) (r : Result X Error) → old.now.schema ≡ schema → IsPlain (understood schema sql) → Answered r → Failed r → KeepsCommit old new
  read_keeps schema (Ok x) has plain ok err = unchanged_keeps old new (shown_same sql params old new (items x) schema has plain ok)
  read_keeps schema (Err e) has plain ok err = query_keeps schema sql params old new e has plain err

  pub read_changes_nothing : (schema : Schema) (r : Result X Error) → old.now.schema ≡ schema → IsPlain (understood schema sql) → Answered r → OnOk r (IsUnchanged old new)
  read_changes_nothing schema (Ok x) has plain ok = shown_same sql params old new (items x) schema has plain ok
  read_changes_nothing schema (Err e) has plain ok = tt

  pub read_was_open : (r : Result X Error) → Answered r → Failed r → IsTrue new.is_open → IsTrue old.is_open
  read_was_open (Ok x) ok err now = shown_open sql params old new (items x) ok
  read_was_open (Err e) ok err now = query_open sql params old new e err now

  pub answered_was_open : (r : Result X Error) → Answered r → OnOk r (IsTrue old.is_open)
  answered_was_open (Ok x) ok = shown_open sql params old new (items x) ok
  answered_was_open (Err e) ok = tt
