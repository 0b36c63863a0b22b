-- What a check answers, by what was found.
use Rattle.std.proofs.Common.{◌≡◌, ◌∷◌, ℕ, List, [], Bool, true, false, Option, Some, None, Result, Ok, Err, length, refl, sym, subst, inl, inr}
use Rattle.std.specs.Prelude.{◌≢◌, ◌⊎◌, IfSome, OnOk, if◌then◌else◌, nat_lt}
use Rattle.std.specs.Io.KnownBytes.{Appends, Keeps}
use Rattle.tally_returns_rows.specs.Source.{row_limit}
use Rattle.tally_import.specs.Header.{header_lists}
use Rattle.tally_import_records.specs.Input.{Gave, complete_records}
use Rattle.tally_import_check.specs.Check.{Checked, Checks, Found, check_result, records_result, no_header, under_header, result_at_end, text_of}
use Rattle.tally_import.specs.Faults.{check_fault}
use Rattle.tally_import_check.specs.internal.Rounds.{IsWrittenOf}
use Rattle.tally_import_records.specs.declared.end.Stop.{Stop}
use Rattle.tally_import_records.specs.declared.end.Stop.TheVariants as stopped
use Rattle.tally_import.specs.declared.fault.CheckFault.{CheckFault}
use Rattle.tally_import.specs.declared.fault.CheckFault.TheVariants.{BadHeader, TooLong, Read, Memory, Write}
use Rattle.tally_import_records.specs.declared.separator.Sep.{Sep}

-- a fault of writing is found nowhere
not-write : (records : List (List (List ℕ))) (stop : Option Stop) → ◌≡◌ {A = Result Checked CheckFault} (records_result records stop) (Err Write) → ⊥
not-write records stop e = go records e
  where
    own : (s : Stop) → check_fault s ≢ Write
    own stopped.TooLong same = cc
    own stopped.Read same = cc

    after : (lists : List (List ℕ)) (behind : List (List (List ℕ))) (s : Option Stop) → ◌≡◌ {A = Result Checked CheckFault} (result_at_end lists behind s) (Err Write) → ⊥
    after lists behind None same = cc
    after lists behind (Some s) same = own s (let is : ◌≡◌ {A = CheckFault} (check_fault s) Write = cc in is)

    none : (s : Option Stop) → ◌≡◌ {A = Result Checked CheckFault} (no_header s) (Err Write) → ⊥
    none None same = cc
    none (Some s) same = own s (let is : ◌≡◌ {A = CheckFault} (check_fault s) Write = cc in is)

    many : (b : Bool) (lists : List (List ℕ)) (behind : List (List (List ℕ)))
        → ◌≡◌ {A = Result Checked CheckFault} (if b then Err TooLong else result_at_end lists behind stop) (Err Write) → ⊥
    many true lists behind same = cc
    many false lists behind same = after lists behind stop same

    under : (o : Option (List (List ℕ))) (behind : List (List (List ℕ))) → ◌≡◌ {A = Result Checked CheckFault} (under_header o behind stop) (Err Write) → ⊥
    under None behind same = cc
    under (Some lists) behind same = many (nat_lt row_limit (length behind)) lists behind same

    go : (all : List (List (List ℕ))) → ◌≡◌ {A = Result Checked CheckFault} (records_result all stop) (Err Write) → ⊥
    go [] same = none stop same
    go (header ∷ behind) same = under (header_lists header) behind same

-- a text is found only where nothing stopped it
pub found-text : (records : List (List (List ℕ))) (stop : Option Stop) (t : Checked) → records_result records stop ≡ Ok t → stop ≡ None
found-text [] None t e = refl
found-text [] (Some stop) t e = cc
found-text (header ∷ records) stop t e = under (header_lists header) e
  where
    after : (lists : List (List ℕ)) (s : Option Stop) → result_at_end lists records s ≡ Ok t → s ≡ None
    after lists None e = refl
    after lists (Some s) e = cc

    many : (b : Bool) (lists : List (List ℕ)) → (if b then Err TooLong else result_at_end lists records stop) ≡ Ok t → stop ≡ None
    many true lists e = cc
    many false lists e = after lists stop e

    under : (o : Option (List (List ℕ))) → under_header o records stop ≡ Ok t → stop ≡ None
    under None e = cc
    under (Some lists) e = many (nat_lt row_limit (length records)) lists e

-- the first fault, with nothing written
pub Checks-fault : (lines : Bool) (sep : Sep) (text : Option (List ℕ)) (left old new : Option (List ℕ)) (fault : CheckFault)
    → IfSome text (λ t. (fault ≡ Memory) ⊎ Found sep t left (λ f. f ≡ Err fault)) → Keeps old new
    → IfSome text (λ t. Checks lines sep t left old new (Err fault))
Checks-fault lines sep None left old new fault found keeps = tt
Checks-fault lines sep (Some t) left old new fault (inl memory) keeps = subst (λ f. Checks lines sep t left old new (Err f)) (sym memory) keeps
Checks-fault lines sep (Some t) left old new BadHeader (inr found) keeps = (found, keeps)
Checks-fault lines sep (Some t) left old new TooLong (inr found) keeps = (found, keeps)
Checks-fault lines sep (Some t) left old new Read (inr found) keeps = (found, keeps)
Checks-fault lines sep (Some t) left old new Memory (inr found) keeps = keeps
Checks-fault lines sep (Some t) left old new Write (inr found) keeps = absurd (not-write (complete_records sep found.0 found.1) found.1 found.3)

pub Keeps-same : (known : Option (List ℕ)) → Keeps known known
Keeps-same None = tt
Keeps-same (Some bytes) = refl

-- what is written of a text that was found is that of the whole text
pub written-text : (lines : Bool) (sep : Sep) (text left old new : Option (List ℕ)) (written : List ℕ)
    → IfSome text (λ t. Found sep t left (IsWrittenOf lines written)) → Appends old new written
    → IfSome text (λ t. (c : Checked) × (check_result sep t None ≡ Ok c) × Appends old new (text_of lines c))
written-text lines sep None left old new written is appends = tt
written-text lines sep (Some t) left old new written is appends =
    let none = found-text (complete_records sep is.0 is.1) is.1 is.3.0 is.3.1 in
    let whole = subst (Gave t left is.0) none is.2 in
    (is.3.0, subst (λ b. check_result sep b None ≡ Ok is.3.0) whole.0 (subst (λ stop. check_result sep is.0 stop ≡ Ok is.3.0) none is.3.1), subst (Appends old new) is.3.2 appends)

pub OnOk-then : {T E : Type 0} {P Q : Type 0} (r : Result T E) → OnOk r P → (P → Q) → OnOk r Q
OnOk-then (Ok x) p more = more p
OnOk-then (Err e) p more = tt

-- ---- faults of reading
