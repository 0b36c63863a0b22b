-- The complete records of a text that was stopped are the first of
-- those of a longer one, which was stopped too.
use Rattle.std.proofs.Common.{◌≡◌, ◌<◌, ◌+◌, ◌++◌, ◌∷◌, ◌∙◌, ℕ, zero, suc, List, [], Bool, true, false, Option, Some, None, length, refl, sym, ap, subst, arith, append_assoc}
use Rattle.std.specs.Prelude.{if◌then◌else◌}
use Rattle.std.specs.Cmp.{first_so, second_so}
use Rattle.std.proofs.lemmas.Bool.{eqb-true}
use Rattle.csv.specs.Machine.{Read, ends_at_end, next_record}
use Rattle.csv.specs.Reading.{records, records_from, records_next, strip_bom, is_bom}
use Rattle.csv.specs.declared.parser.State.{State}
use Rattle.csv.specs.declared.parser.State.TheVariants as st
use Rattle.tally_import_records.specs.Input.{BeginsWith, complete_records, without_last}
use Rattle.tally_import_records.specs.Separator.{separator, config}
use Rattle.tally_import_records.specs.declared.end.Stop.{Stop}
use Rattle.tally_import_records.specs.declared.separator.Sep.{Sep}
use Rattle.tally_import_records.proofs.FrontLemmas.{EndsBefore, next_record-ends_before, records_from-nothing, no-mark, none-of-nothing, none-of-one, none-of-two, begins-nothing}
use Rattle.tally_import_records.proofs.PieceLemmas.{HasFirst, all-found}
use Rattle.tally_import_records.proofs.RecordLemmas.{next_record-after, next_record-takes, records_from-enough}

-- one record more in front of both, where another one follows it in the longer
begins-more : (r : List (List ℕ)) (longer front : List (List (List ℕ))) → HasFirst longer
    → BeginsWith (without_last longer) (without_last front) → BeginsWith (without_last (r ∷ longer)) (without_last (r ∷ front))
begins-more r longer [] some h = (without_last (r ∷ longer), refl)
begins-more r [] (q ∷ front) some h = absurd (let none = some.2 in cc)
begins-more r (x ∷ longer) (q ∷ front) some h = (h.0, ap (λ l. r ∷ l) h.1)

pub records_from-stopped : (sep : Sep) (n m : ℕ) (s : State) (xs rest : List ℕ)
    → ends_at_end s ≡ false → length (xs ++ (rest ++ separator sep ∷ [])) < m
    → BeginsWith (without_last (records_from (config sep) m s (xs ++ (rest ++ separator sep ∷ [])))) (without_last (records_from (config sep) n s (xs ++ separator sep ∷ [])))
unfolding records_from
records_from-stopped sep zero m s xs rest between enough = (without_last (records_from (config sep) m s (xs ++ (rest ++ separator sep ∷ []))), refl)
records_from-stopped sep (suc n) zero s xs rest between enough = absurd (omega arith)
records_from-stopped sep (suc n) (suc m) s xs rest between enough =
    go (λ s2 ys. records_from-stopped sep n m s2 ys rest) (next_record (config sep) s [] [] (xs ++ separator sep ∷ [])) refl
  where
    more : List ℕ
    more = rest ++ separator sep ∷ []

    longer : List (List (List ℕ))
    longer = records_next (records_from (config sep) m) (next_record (config sep) s [] [] (xs ++ more))

    Later : Type 0
    Later = (s2 : State) (ys : List ℕ) → ends_at_end s2 ≡ false → length (ys ++ more) < m
        → BeginsWith (without_last (records_from (config sep) m s2 (ys ++ more))) (without_last (records_from (config sep) n s2 (ys ++ separator sep ∷ [])))

    found : (s2 : State) (ys : List ℕ) → ends_at_end s2 ≡ false → length (ys ++ more) < m → HasFirst (records_from (config sep) m s2 (ys ++ more))
    found s2 ys after few =
        let first = all-found sep s2 (ys ++ rest) after in
        let text : (ys ++ rest) ++ separator sep ∷ [] ≡ ys ++ more = append_assoc ys rest (separator sep ∷ []) in
        let same : records_from (config sep) (length (ys ++ more) + 1) s2 (ys ++ more) ≡ records_from (config sep) m s2 (ys ++ more) =
        records_from-enough (config sep) (length (ys ++ more) + 1) m s2 (ys ++ more) after (omega arith) few in
        (first.0, first.1, sym same ∙ ap (λ t. records_from (config sep) (length t + 1) s2 t) (sym text) ∙ first.2)

    under : Later → (p : Read) → EndsBefore (config sep) s [] [] xs (separator sep) p → next_record (config sep) s [] [] (xs ++ separator sep ∷ []) ≡ Some p
        → BeginsWith (without_last longer) (without_last (p.0 ∷ records_from (config sep) n p.1 p.2))
    under later p ends e =
        let ys = ends.0 in
        let same = ends.2 more in
        let after = (next_record-after (config sep) s [] [] (xs ++ separator sep ∷ []) p e).1 in
        let less = next_record-takes (config sep) s (xs ++ more) (p.0, p.1, ys ++ more) between same in
        let few : length (ys ++ more) < m = omega (arith, less, enough) in
        let there = later p.1 ys after few in
        let moved = subst (λ l. BeginsWith (without_last (records_from (config sep) m p.1 (ys ++ more))) (without_last (records_from (config sep) n p.1 l))) (sym ends.1) there in
        let here = begins-more p.0 _ _ (found p.1 ys after few) moved in
        (here.0, ap (λ o. without_last (records_next (records_from (config sep) m) o)) same ∙ here.1)

    last : Later → (p : Read) (left : List ℕ) → left ≡ p.2 → next_record (config sep) s [] [] (xs ++ separator sep ∷ []) ≡ Some p
        → BeginsWith (without_last longer) (without_last (p.0 ∷ records_from (config sep) n p.1 p.2))
    last later p [] is e =
        let after = (next_record-after (config sep) s [] [] (xs ++ separator sep ∷ []) p e).1 in
        let none : records_from (config sep) n p.1 p.2 ≡ [] = ap (records_from (config sep) n p.1) (sym is) ∙ records_from-nothing (config sep) n p.1 after in
        (without_last longer, sym (ap (λ l. without_last (p.0 ∷ l) ++ without_last longer) none))
    last later p (c ∷ left) is e =
        let some : 0 < length p.2 = subst (λ l. 0 < length l) is (omega arith) in
        under later p (next_record-ends_before (config sep) s [] [] xs (separator sep) p e some) e

    go : Later → (o : Option Read) → next_record (config sep) s [] [] (xs ++ separator sep ∷ []) ≡ o
        → BeginsWith (without_last longer) (without_last (records_next (records_from (config sep) n) o))
    go later None e = (without_last longer, refl)
    go later (Some p) e = last later p p.2 refl e

records-stopped : (sep : Sep) (xs rest : List ℕ)
    → BeginsWith (without_last (records (config sep) (xs ++ (rest ++ separator sep ∷ [])))) (without_last (records (config sep) (xs ++ separator sep ∷ [])))
records-stopped sep xs rest = records_from-stopped sep _ _ st.StartRecord xs rest refl (omega arith)

pub complete_records-stopped : (sep : Sep) (bytes rest : List ℕ) (fault stop : Stop)
    → BeginsWith (complete_records sep (bytes ++ rest) (Some stop)) (complete_records sep bytes (Some fault))
unfolding strip_bom
complete_records-stopped sep [] rest fault stop = begins-nothing _ _ (none-of-nothing sep)
complete_records-stopped sep (a ∷ []) [] fault stop = records-stopped sep (a ∷ []) []
complete_records-stopped sep (a ∷ []) (b ∷ []) fault stop =
    subst (λ m. BeginsWith (without_last (records (config sep) (if m then [] else a ∷ b ∷ separator sep ∷ []))) (without_last (records (config sep) (a ∷ separator sep ∷ []))))
    (sym (no-mark sep a b)) (records-stopped sep (a ∷ []) (b ∷ []))
complete_records-stopped sep (a ∷ []) (b ∷ c ∷ rest) fault stop = go (is_bom a b c) refl
  where
    go : (m : Bool) → is_bom a b c ≡ m
        → BeginsWith (without_last (records (config sep) (if m then rest ++ separator sep ∷ [] else a ∷ b ∷ c ∷ (rest ++ separator sep ∷ []))))
        (without_last (records (config sep) (a ∷ separator sep ∷ [])))
    go true e =
        let is : a ≡ 0xEF = eqb-true _ _ (first_so _ _ (first_so _ _ e)) in
        begins-nothing _ _ (ap (λ x. without_last (records (config sep) (x ∷ separator sep ∷ []))) is ∙ none-of-one sep)
    go false e = records-stopped sep (a ∷ []) (b ∷ c ∷ rest)
complete_records-stopped sep (a ∷ b ∷ []) [] fault stop =
    subst (λ m. BeginsWith (without_last (records (config sep) (if m then [] else a ∷ b ∷ separator sep ∷ []))) (without_last (records (config sep) (if m then [] else a ∷ b ∷ separator sep ∷ []))))
    (sym (no-mark sep a b)) (records-stopped sep (a ∷ b ∷ []) [])
complete_records-stopped sep (a ∷ b ∷ []) (c ∷ rest) fault stop =
    subst (λ m. BeginsWith (complete_records sep (a ∷ b ∷ c ∷ rest) (Some stop)) (without_last (records (config sep) (if m then [] else a ∷ b ∷ separator sep ∷ []))))
    (sym (no-mark sep a b)) (go (is_bom a b c) refl)
  where
    go : (m : Bool) → is_bom a b c ≡ m
        → BeginsWith (without_last (records (config sep) (if m then rest ++ separator sep ∷ [] else a ∷ b ∷ c ∷ (rest ++ separator sep ∷ []))))
        (without_last (records (config sep) (a ∷ b ∷ separator sep ∷ [])))
    go true e =
        let mark = first_so _ _ e in
        let is_a : a ≡ 0xEF = eqb-true _ _ (first_so _ _ mark) in
        let is_b : b ≡ 0xBB = eqb-true _ _ (second_so _ _ mark) in
        begins-nothing _ _
        (ap (λ x. without_last (records (config sep) (x ∷ b ∷ separator sep ∷ []))) is_a
        ∙ ap (λ x. without_last (records (config sep) (0xEF ∷ x ∷ separator sep ∷ []))) is_b
        ∙ none-of-two sep)
    go false e = records-stopped sep (a ∷ b ∷ []) (c ∷ rest)
complete_records-stopped sep (a ∷ b ∷ c ∷ bytes) rest fault stop = go (is_bom a b c) (append_assoc bytes rest (separator sep ∷ []))
  where
    go : (m : Bool) → (bytes ++ rest) ++ separator sep ∷ [] ≡ bytes ++ (rest ++ separator sep ∷ [])
        → BeginsWith (without_last (records (config sep) (if m then (bytes ++ rest) ++ separator sep ∷ [] else a ∷ b ∷ c ∷ ((bytes ++ rest) ++ separator sep ∷ []))))
        (without_last (records (config sep) (if m then bytes ++ separator sep ∷ [] else a ∷ b ∷ c ∷ (bytes ++ separator sep ∷ []))))
    go true same =
        subst (λ t. BeginsWith (without_last (records (config sep) t)) (without_last (records (config sep) (bytes ++ separator sep ∷ []))))
        (sym same) (records-stopped sep bytes rest)
    go false same =
        subst (λ t. BeginsWith (without_last (records (config sep) (a ∷ b ∷ c ∷ t))) (without_last (records (config sep) (a ∷ b ∷ c ∷ (bytes ++ separator sep ∷ [])))))
        (sym same) (records-stopped sep (a ∷ b ∷ c ∷ bytes) rest)
