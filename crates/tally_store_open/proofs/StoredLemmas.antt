-- What is shown of the table `setup`.
use Rattle.std.proofs.Common.{◌≡◌, ◌∙◌, ◌==◌, ℕ, pos, negsuc, true, false, Bool, nat_lt, ◌^◌, List, [], ◌∷◌, Option, Some, None, map, length, inl, inr, refl, ap, subst, sym, arith, Result, Ok, Err}
use Rattle.std.specs.List.Sorted.{IsPermutation}
use Rattle.std.specs.Prelude.{if◌then◌else◌, IfErr, IfOk, option_and_then, option_map, unwrap_or}
use Rattle.std.proofs.lemmas.Bool.{eqb-true}
use Rattle.std.proofs.lemmas.Result.{IfErr-weaker}
use Rattle.sqlite.proofs.Callers.{one_permutation}
use Rattle.sqlite.specs.State.{State as Seen}
use Rattle.sqlite.specs.declared.error.Error.{Error}
use Rattle.sqlite.specs.Effect.{Database}
use Rattle.sqlite_value.specs.Order.{Row, column}
use Rattle.sqlite_value.specs.declared.value.Value.{Value}
use Rattle.sqlite_value.specs.declared.value.Value.TheVariants.{Blob, Int, Null, Real, Text}
use Rattle.tally_store_schema.specs.Values.{number_of, text_of}
use Rattle.tally_setup.specs.Constituency.{Constituency}
use Rattle.tally_store_schema.specs.Cells.{setup_row}
use Rattle.tally_store_schema.specs.Tables.{setup_tree}
use Rattle.tally_store_schema.specs.Office.{ShowsSetup, shown_setup, stored_setup}
use Rattle.tally_store_rows.specs.TablesOfState.{version}
use Rattle.tally_store_open.specs.internal.Opening.{HasSetupRow, IsAnswerOf, IsJudgedFault, IsTodayFault, HasShownRow, HasStoredRow, IsSetupFault, IsShownFault, IsShownSetup, IsTablesFault, OrFails, setup_shown, shown_of_row}
use Rattle.tally_keeper.specs.declared.fault.OpenFault.{OpenFault}
use Rattle.tally_keeper.specs.declared.fault.OpenFault.TheVariants.{BadTables, Memory, NoTables, Setup, Store}

-- the one row of `setup` is shown
pub row_shown : (number : ℕ) (text : List ℕ) (seen : Seen) (answer : List Row) → nat_lt number (2 ^ 32) ≡ true → ShowsSetup seen answer → seen.now.trees setup_tree ≡ setup_row number text ∷ []
    → setup_shown answer ≡ Some (number, text)
row_shown number text seen answer fits shown is =
    let rows = one_permutation (shown_setup (setup_row number text)) answer (subst (λ l. IsPermutation (map shown_setup l) answer) is shown.shown) in
    ap setup_shown rows ∙ read
  where
    read : setup_shown (shown_setup (setup_row number text) ∷ []) ≡ Some (number, text)
    read = rw fits refl

-- a version and a text, where both are there
abbrev paired : Option ℕ → Option (List ℕ) → Option (ℕ × List ℕ)
paired number text = option_and_then (λ n. option_map (λ t. (n, t)) text) number

abbrev with_one : Option ℕ → Option (ℕ × List ℕ) → Option (ℕ × List ℕ)
with_one id found = option_and_then (λ n. if n == 1 then found else None) id

-- the row that is shown is the one row of `setup`
pub row_stored : (number : ℕ) (text : List ℕ) (seen : Seen) (answer : List Row) → ShowsSetup seen answer → setup_shown answer ≡ Some (number, text) → seen.now.trees setup_tree ≡ setup_row number text ∷ []
row_stored number text seen answer shown is = go answer shown.stored is
  where
    number_is : (v : Value) (n : ℕ) → number_of v ≡ Some n → v ≡ Int (pos n)
    number_is Null n e = cc
    number_is (Int (pos m)) n e = by_test (nat_lt m (2 ^ 32)) e
      where
        by_test : (b : Bool) → (if b then Some m else None) ≡ Some n → Int (pos m) ≡ Int (pos n)
        by_test true e = let k : m ≡ n = cc in ap (λ x. Int (pos x)) k
        by_test false e = cc
    number_is (Int (negsuc m)) n e = cc
    number_is (Real x) n e = cc
    number_is (Text t) n e = cc
    number_is (Blob b) n e = cc

    text_is : (v : Value) (t : List ℕ) → text_of v ≡ Some t → v ≡ Text t
    text_is Null t e = cc
    text_is (Int n) t e = cc
    text_is (Real x) t e = cc
    text_is (Text u) t e = let k : u ≡ t = cc in ap Text k
    text_is (Blob b) t e = cc

    of_row : (r : Row) → shown_of_row r ≡ Some (number, text) → stored_setup r ≡ setup_row number text
    of_row r e = with_id (number_of (column r 0)) refl e
      where
        parts : (n : ℕ) → (v : Option ℕ) → number_of (column r 1) ≡ v → (t : Option (List ℕ)) → text_of (column r 2) ≡ t → paired v t ≡ Some (number, text) → (column r 1 ≡ Int (pos number)) × (column r 2 ≡ Text text)
        parts n (Some m) v_is (Some x) t_is e =
            let a : m ≡ number = ap (λ (o : Option (ℕ × List ℕ)). (unwrap_or o (0, [])).0) e in let b : x ≡ text = ap (λ (o : Option (ℕ × List ℕ)). (unwrap_or o (0, [])).1) e in
            (number_is (column r 1) number (v_is ∙ ap Some a), text_is (column r 2) text (t_is ∙ ap Some b))
        parts n None v_is t t_is e = cc
        parts n (Some m) v_is None t_is e = cc

        with_id : (id : Option ℕ) → number_of (column r 0) ≡ id → with_one id (paired (number_of (column r 1)) (text_of (column r 2))) ≡ Some (number, text) → stored_setup r ≡ setup_row number text
        with_id None is e = cc
        with_id (Some n) is e = by_test (n == 1) refl e
          where
            by_test : (b : Bool) → (n == 1) ≡ b → (if b then paired (number_of (column r 1)) (text_of (column r 2)) else None) ≡ Some (number, text) → stored_setup r ≡ setup_row number text
            by_test false same e = cc
            by_test true same e =
                let first : column r 0 ≡ Int (pos 1) = number_is (column r 0) 1 (is ∙ ap Some (eqb-true n 1 same)) in
                let both = parts n (number_of (column r 1)) refl (text_of (column r 2)) refl e in
                λ i. first i ∷ Null ∷ both.0 i ∷ both.1 i ∷ []

    go : (answer : List Row) → IsPermutation (map stored_setup answer) (seen.now.trees setup_tree) → setup_shown answer ≡ Some (number, text) → seen.now.trees setup_tree ≡ setup_row number text ∷ []
    go [] perm e = cc
    go (r ∷ []) perm e = one_permutation (stored_setup r) (seen.now.trees setup_tree) perm ∙ ap (λ x. x ∷ []) (of_row r e)
    go (r ∷ q ∷ rest) perm e = by_length (length (r ∷ q ∷ rest) == 1) refl e
      where
        by_length : (b : Bool) → (length (r ∷ q ∷ rest) == 1) ≡ b → (if b then shown_of_row r else None) ≡ Some (number, text) → seen.now.trees setup_tree ≡ setup_row number text ∷ []
        by_length true same e = absurd (omega (arith, eqb-true (length (r ∷ q ∷ rest)) 1 same))
        by_length false same e = cc

-- the setup that is shown is the one that is stored
pub stored_shown : (number : ℕ) (setup : List Constituency) (seen : Seen) (answer : List Row) → ShowsSetup seen answer → IsShownSetup number answer setup → HasSetupRow number setup seen.now
stored_shown number setup seen answer shown is = record { text = is.0; reads = is.2; row = row_stored number is.0 seen answer shown is.1 }

-- ---- why tables are not taken

-- a fault by one way of knowing the row of `setup` is one by another way
pub fault_as : (number : ℕ) (HasRow HasOther : ℕ → List ℕ → Type 0) (Unlawful Otherwise : Type 0) (fault : OpenFault) → ((n : ℕ) (text : List ℕ) → HasRow n text → HasOther n text)
    → ((text : List ℕ) → HasOther number text → HasRow number text) → ((text : List ℕ) → HasOther version text → HasRow version text) → (Unlawful → Otherwise) → IsTablesFault number HasRow Unlawful fault
    → IsTablesFault number HasOther Otherwise fault
fault_as number HasRow HasOther Unlawful Otherwise NoTables other back today so ensured = (ensured.0, ensured.1, other version ensured.1 ensured.2)
fault_as number HasRow HasOther Unlawful Otherwise BadTables other back today so (inl none) = inl (λ text row. none.0 text (back text row), λ text row. none.1 text (today text row))
fault_as number HasRow HasOther Unlawful Otherwise BadTables other back today so (inr unlawful) = inr (so unlawful)
fault_as number HasRow HasOther Unlawful Otherwise (Setup fault) other back today so ensured = (ensured.0, other number ensured.0 ensured.1, ensured.2)
fault_as number HasRow HasOther Unlawful Otherwise Memory other back today so ensured = (ensured.0, other number ensured.0 ensured.1, ensured.2)
fault_as number HasRow HasOther Unlawful Otherwise Store other back today so ensured = (ensured.0, other number ensured.0 ensured.1, ensured.2)

-- of the rows that are shown, and of the table
pub fault_shown : (number : ℕ) (seen : Seen) (answer : List Row) (fault : OpenFault) → nat_lt number (2 ^ 32) ≡ true → ShowsSetup seen answer → IsShownFault number answer fault → IsSetupFault number seen.now fault
fault_shown number seen answer fault fits shown ensured =
    fault_as number (HasShownRow answer) (HasStoredRow seen.now) ⊥ ⊥ fault (λ n text is. row_stored n text seen answer shown is) (λ text row. row_shown number text seen answer fits shown row)
    (λ text row. row_shown version text seen answer refl shown row) (λ none. none) ensured

pub or_fails : (IsFault : OpenFault → Type 0) (fault : OpenFault) → IsFault fault → OrFails IsFault fault
or_fails IsFault NoTables ensured = ensured
or_fails IsFault BadTables ensured = ensured
or_fails IsFault (Setup fault) ensured = ensured
or_fails IsFault Memory ensured = tt
or_fails IsFault Store ensured = tt

-- ---- what was answered in a transaction

pub ok_answered : {X : Type 0} (got : Result (Result X OpenFault) Error) (r : Result X OpenFault) (Is : X → Type 0) → IsAnswerOf got r → IfOk got (λ answer. IfOk answer Is) → IfOk r Is
ok_answered (Ok answer) r Is is so = subst (λ x. IfOk x Is) (sym is) so
ok_answered (Err e) r Is (inl is) so = subst (λ x. IfOk x Is) (sym is) tt
ok_answered (Err e) r Is (inr is) so = subst (λ x. IfOk x Is) (sym is) tt

pub today_answered : {X : Type 0} (db : Database) (got : Result (Result X OpenFault) Error) (r : Result X OpenFault) → IsAnswerOf got r → IfOk got (λ answer. IfErr answer (IsJudgedFault version db)) → IfErr r (IsTodayFault db)
today_answered db (Ok answer) r is so = subst (λ x. IfErr x (IsTodayFault db)) (sym is) (IfErr-weaker answer _ _ (or_fails (IsJudgedFault version db)) so)
today_answered db (Err e) r (inl is) so = subst (λ x. IfErr x (IsTodayFault db)) (sym is) tt
today_answered db (Err e) r (inr is) so = subst (λ x. IfErr x (IsTodayFault db)) (sym is) tt
