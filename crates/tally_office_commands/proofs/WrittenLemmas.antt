-- What a command writes: nothing where it had a trouble before, and a
-- text of a kind where it wrote one that is of the kind.
use Rattle.std.proofs.Common.{◌≡◌, ℕ, Bool, List, Result, Ok, Err, IfOk, IfErr, OnOk, refl, sym, subst, true, false, ◌⊎◌, inl, inr}
use Rattle.std.specs.Prelude.{IsOk}
use Rattle.tally_office_trouble.specs.declared.trouble.Trouble.{Trouble}
use Rattle.tally_office_trouble.specs.declared.trouble.Trouble.TheVariants as trouble
use Rattle.tally_office_trouble.specs.Troubles.{IsTroubleOfEnding}
use Rattle.tally_office_trouble.specs.Written.{Bytes, IsWritten}

-- where nothing was written there may have been any trouble but a failed write
pub not-begun : {W : Type 0} (held : Bytes W) (IsText : List ℕ → Type 0) (w : W) (t : Trouble) → (t ≡ trouble.Write → ⊥) → IsWritten held IsText w w (Err t)
not-begun held IsText w trouble.Write other = absurd (other refl)
not-begun held IsText w (trouble.Setup fault place) other = refl
not-begun held IsText w trouble.NotEmpty other = refl
not-begun held IsText w trouble.NoTables other = refl
not-begun held IsText w trouble.BadTables other = refl
not-begun held IsText w trouble.BadSetup other = refl
not-begun held IsText w trouble.NoConstituency other = refl
not-begun held IsText w trouble.BadHeader other = refl
not-begun held IsText w trouble.TooLong other = refl
not-begun held IsText w trouble.NotCertified other = refl
not-begun held IsText w trouble.OtherMethod other = refl
not-begun held IsText w trouble.Memory other = refl
not-begun held IsText w trouble.Store other = refl
not-begun held IsText w trouble.File other = refl
not-begun held IsText w trouble.Read other = refl
not-begun held IsText w trouble.Port other = refl

-- what is written of a text that is of a kind once an office is closed, where it was closed before
-- any of it was written
pub of_kind : {W : Type 0} (held : Bytes W) (IsText : List ℕ → Type 0) (Closed : Type 0) (text : List ℕ) → (Closed → IsText text) → (old new : W) (r : Result (Unit {0}) Trouble)
    → OnOk r Closed → (r ≡ Err trouble.Write → Closed)
    → IsWritten held (λ written. written ≡ text) old new r → IsWritten held IsText old new r
of_kind held IsText Closed text is old new (Ok done) closed cut (written, same, appends) = (written, subst IsText (sym same) (is closed), appends)
of_kind held IsText Closed text is old new (Err trouble.Write) closed cut (written, n, same, appends) = (written, n, subst IsText (sym same) (is (cut refl)), appends)
of_kind held IsText Closed text is old new (Err (trouble.Setup fault place)) closed cut keeps = keeps
of_kind held IsText Closed text is old new (Err trouble.NotEmpty) closed cut keeps = keeps
of_kind held IsText Closed text is old new (Err trouble.NoTables) closed cut keeps = keeps
of_kind held IsText Closed text is old new (Err trouble.BadTables) closed cut keeps = keeps
of_kind held IsText Closed text is old new (Err trouble.BadSetup) closed cut keeps = keeps
of_kind held IsText Closed text is old new (Err trouble.NoConstituency) closed cut keeps = keeps
of_kind held IsText Closed text is old new (Err trouble.BadHeader) closed cut keeps = keeps
of_kind held IsText Closed text is old new (Err trouble.TooLong) closed cut keeps = keeps
of_kind held IsText Closed text is old new (Err trouble.NotCertified) closed cut keeps = keeps
of_kind held IsText Closed text is old new (Err trouble.OtherMethod) closed cut keeps = keeps
of_kind held IsText Closed text is old new (Err trouble.Memory) closed cut keeps = keeps
of_kind held IsText Closed text is old new (Err trouble.Store) closed cut keeps = keeps
of_kind held IsText Closed text is old new (Err trouble.File) closed cut keeps = keeps
of_kind held IsText Closed text is old new (Err trouble.Read) closed cut keeps = keeps
of_kind held IsText Closed text is old new (Err trouble.Port) closed cut keeps = keeps

-- what a command that ended has written, by what it came to
pub ended : {W S : Type 0} (held : Bytes W) (IsText : List ℕ → Type 0) (Closed : Type 0) (bytes : S → List ℕ)
    (old new : W) (outcome : Result S Trouble) (r : Result (Unit {0}) Trouble) → IfErr outcome (λ t. t ≡ trouble.Write → ⊥)
    → IfOk outcome (λ text. Closed → IsText (bytes text))
    → IfOk outcome (λ text. IsWritten held (λ written. written ≡ bytes text) old new r)
    → OnOk r Closed → (IsOk outcome → r ≡ Err trouble.Write → Closed)
    → IfErr outcome (λ t. (r ≡ Err t) × (new ≡ old)) → IsWritten held IsText old new r
ended held IsText Closed bytes old new (Ok text) r other is writes closed cut fails =
    of_kind held IsText Closed (bytes text) is old new r closed (cut refl) writes
ended held IsText Closed bytes old new (Err t) r other is writes closed cut fails =
    subst (λ (r : Result (Unit {0}) Trouble). IsWritten held IsText old new r) (sym fails.0)
    (subst (λ w. IsWritten held IsText old w (Err t)) (sym fails.1) (not-begun held IsText old t other))

-- a trouble of a part is one of the whole
pub named-weaker : (Own Whole : Trouble → Type 0) → ((t : Trouble) → Own t → Whole t) → (r : Result (Unit {0}) Trouble) → IfErr r Own → IfErr r Whole
named-weaker Own Whole part (Ok done) named = tt
named-weaker Own Whole part (Err t) named = part t named

-- which trouble a command has that ended, by those of its work and of its ending
pub ended-named : {S : Type 0} (Same : Type 0) (Own Whole : Trouble → Type 0) → ((t : Trouble) → Own t → Whole t)
    → ((t : Trouble) → IsTroubleOfEnding t → Whole t) → (outcome : Result S Trouble) (r : Result (Unit {0}) Trouble)
    → IfErr outcome Own → OnOk outcome (IfErr r IsTroubleOfEnding) → IfErr outcome (λ t. (r ≡ Err t) × Same) → IfErr r Whole
ended-named Same Own Whole own ending (Ok text) r named ends fails = named-weaker IsTroubleOfEnding Whole ending r ends
ended-named Same Own Whole own ending (Err t) r named ends fails =
    subst (λ (r : Result (Unit {0}) Trouble). IfErr r Whole) (sym fails.0) (own t named)

-- what closing an office came to, where it did not fail
pub on-closed : {S : Type 0} (Closes : Bool → Type 0) (closed : Bool) (r : Result S Trouble) → Closes closed → OnOk r (closed ≡ true) → OnOk r (Closes true)
on-closed Closes closed (Ok done) closes is = subst Closes is closes
on-closed Closes closed (Err t) closes is = tt

pub printed-closed : (Same : Type 0) (Closes : Bool → Type 0) (closed : Bool) → Closes closed → Same ⊎ (closed ≡ true) → Same ⊎ Closes true
printed-closed Same Closes closed closes (inl same) = inl same
printed-closed Same Closes closed closes (inr is) = inr (subst Closes is closes)

-- the same of a write that failed
pub cut-closed : {S : Type 0} (Closes : Bool → Type 0) (closed : Bool) (r : Result S Trouble) → Closes closed → (r ≡ Err trouble.Write → closed ≡ true) → r ≡ Err trouble.Write → Closes true
cut-closed Closes closed r closes is failed = subst Closes (is failed) closes

-- and of one that was not begun, since not all of the office was there
pub unclosed : {S : Type 0} (Closes : Bool → Type 0) (closed : Bool) (r : Result S Trouble) → Closes closed → (r ≡ Err trouble.Store → closed ≡ false) → r ≡ Err trouble.Store → Closes false
unclosed Closes closed r closes is failed = subst Closes (is failed) closes
