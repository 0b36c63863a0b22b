-- The need of a lot, with a mark for each of 60 places, is one.
use Rattle.std.proofs.Common.{◌≡◌, ◌≤◌, ◌<◌, ◌⊎◌, ◌∙◌, ℕ, suc, ◌+◌, List, [], ◌∷◌, Bool, true, false, get_or, length, map, refl, sym, ap, subst, inl, inr, arith}
use Rattle.std.specs.List.{range_with_len}
use Rattle.std.proofs.lemmas.Bool.{cases_lt}
use Rattle.std.proofs.lemmas.List.{ext_get_or, get_or_past}
use Rattle.std.proofs.lemmas.List.FromFn.{get_or-map-range_with_len, length-map-range_with_len}
use Rattle.tally_law.specs.Allotment.{Rule}
use Rattle.tally_law.specs.LotNeed.{IsNeed}
use Rattle.tally_law.specs.Poll.{Poll, sum_marked}
use Rattle.tally_machine_law.proofs.CertificationLemmas.{group-within, need-same}

-- ---- marks

bools-same : (a b : Bool) → (a ≡ true → b ≡ true) → (b ≡ true → a ≡ true) → a ≡ b
bools-same true b to from = sym (to refl)
bools-same false true to from = from refl
bools-same false false to from = refl

marked-none : (bs : List Bool) → sum_marked bs [] ≡ 0
marked-none [] = refl
marked-none (b ∷ bs) = refl

-- numbers that are the same where they are marked have the same sum there
sum_marked-agree : (bs : List Bool) (ns ms : List ℕ) → ((l : ℕ) → get_or bs l false ≡ true → get_or ns l 0 ≡ get_or ms l 0) → sum_marked bs ns ≡ sum_marked bs ms
sum_marked-agree [] ns ms agree = refl
sum_marked-agree (b ∷ bs) [] [] agree = refl
sum_marked-agree (true ∷ bs) [] (m ∷ ms) agree =
    let here : 0 ≡ m = agree 0 refl in
    let rest = sum_marked-agree bs [] ms (λ l marked. agree (suc l) marked) in
    omega (arith, here, rest, marked-none bs)
sum_marked-agree (false ∷ bs) [] (m ∷ ms) agree = sym (marked-none bs) ∙ sum_marked-agree bs [] ms (λ l marked. agree (suc l) marked)
sum_marked-agree (true ∷ bs) (n ∷ ns) [] agree =
    let here : n ≡ 0 = agree 0 refl in
    let rest = sum_marked-agree bs ns [] (λ l marked. agree (suc l) marked) in
    omega (arith, here, rest, marked-none bs)
sum_marked-agree (false ∷ bs) (n ∷ ns) [] agree = sum_marked-agree bs ns [] (λ l marked. agree (suc l) marked) ∙ marked-none bs
sum_marked-agree (true ∷ bs) (n ∷ ns) (m ∷ ms) agree =
    let here : n ≡ m = agree 0 refl in
    let rest = sum_marked-agree bs ns ms (λ l marked. agree (suc l) marked) in
    omega (arith, here, rest)
sum_marked-agree (false ∷ bs) (n ∷ ns) (m ∷ ms) agree = sum_marked-agree bs ns ms (λ l marked. agree (suc l) marked)

-- two needs of one poll with 60 marks each are one
pub need-one : (rule : Rule) (poll : Poll) (seats : ℕ) (group other : List Bool) (m n : ℕ) → length group ≡ 60 → length other ≡ 60 → IsNeed rule poll seats group m → IsNeed rule poll seats other n → (group ≡ other) × (m ≡ n)
need-one rule poll seats group other m n first second need again = (same, number)
  where
    same : group ≡ other
    same = ext_get_or false group other (first ∙ sym second)
        (λ l lt. bools-same (get_or group l false) (get_or other l false) (need-same rule poll seats group other m n need again l) (need-same rule poll seats other group n m again need l))

    leasts : (l : ℕ) → get_or group l false ≡ true → get_or need.in_question_is.0 l 0 ≡ get_or again.in_question_is.0 l 0
    leasts l marked =
        let in_it = (need.group_is l).0 marked in
        let a = need.in_question_is.1 l in_it in
        let b = again.in_question_is.1 l in_it in
        let ab : get_or need.in_question_is.0 l 0 ≤ get_or again.in_question_is.0 l 0 = subst (λ k. get_or need.in_question_is.0 l 0 ≤ k) b.0.2 (a.1 b.0.0 b.0.1) in
        let ba : get_or again.in_question_is.0 l 0 ≤ get_or need.in_question_is.0 l 0 = subst (λ k. get_or again.in_question_is.0 l 0 ≤ k) a.0.2 (b.1 a.0.0 a.0.1) in
        omega (arith, ab, ba)

    number : m ≡ n
    number =
        let a = need.needed in
        let here : sum_marked group a.0 ≡ sum_marked group need.in_question_is.0 + m = need.in_question_is.2 a.0 a.2 in
        let there : sum_marked other a.0 ≡ sum_marked other again.in_question_is.0 + n = again.in_question_is.2 a.0 a.2 in
        let turned : sum_marked group a.0 ≡ sum_marked group again.in_question_is.0 + n = subst (λ (g : List Bool). sum_marked g a.0 ≡ sum_marked g again.in_question_is.0 + n) (sym same) there in
        let least : sum_marked group need.in_question_is.0 ≡ sum_marked group again.in_question_is.0 = sum_marked-agree group need.in_question_is.0 again.in_question_is.0 leasts in
        omega (arith, here, turned, least)

-- ---- 60 marks

-- equal marks, whatever their lengths
sum_marked-marks : (bs cs : List Bool) (ns : List ℕ) → ((l : ℕ) → get_or bs l false ≡ get_or cs l false) → sum_marked bs ns ≡ sum_marked cs ns
sum_marked-marks [] [] ns same = refl
sum_marked-marks [] (c ∷ cs) [] same = refl
sum_marked-marks [] (true ∷ cs) (n ∷ ns) same = let no : false ≡ true = same 0 in cc
sum_marked-marks [] (false ∷ cs) (n ∷ ns) same = sum_marked-marks [] cs ns (λ l. same (suc l))
sum_marked-marks (b ∷ bs) [] [] same = refl
sum_marked-marks (true ∷ bs) [] (n ∷ ns) same = let no : true ≡ false = same 0 in cc
sum_marked-marks (false ∷ bs) [] (n ∷ ns) same = sum_marked-marks bs [] ns (λ l. same (suc l))
sum_marked-marks (b ∷ bs) (c ∷ cs) [] same = refl
sum_marked-marks (true ∷ bs) (true ∷ cs) (n ∷ ns) same = ap (λ k. n + k) (sum_marked-marks bs cs ns (λ l. same (suc l)))
sum_marked-marks (true ∷ bs) (false ∷ cs) (n ∷ ns) same = let no : true ≡ false = same 0 in cc
sum_marked-marks (false ∷ bs) (true ∷ cs) (n ∷ ns) same = let no : false ≡ true = same 0 in cc
sum_marked-marks (false ∷ bs) (false ∷ cs) (n ∷ ns) same = sum_marked-marks bs cs ns (λ l. same (suc l))

-- the marks of 60 places
abbrev pub marks_60 : List Bool → List Bool
marks_60 group = map (λ l. get_or group l false) (range_with_len 0 60)

pub length-marks_60 : (group : List Bool) → length (marks_60 group) ≡ 60
length-marks_60 group = length-map-range_with_len (λ l. get_or group l false) 0 60

-- where there are at most 60 lists, they are those of the need
pub need-marked : (rule : Rule) (poll : Poll) (seats : ℕ) (group : List Bool) (n : ℕ) → length poll.votes ≤ 60 → IsNeed rule poll seats group n → IsNeed rule poll seats (marks_60 group) n
need-marked rule poll seats group n few need = record {
  needed = need.needed;
  group_is = λ l. (λ marked. (need.group_is l).0 (sym (same l) ∙ marked), λ in_it. same l ∙ (need.group_is l).1 in_it);
  in_question_is = (
    need.in_question_is.0,
    need.in_question_is.1,
    λ a by. sum_marked-marks (marks_60 group) group a same ∙ need.in_question_is.2 a by ∙ ap (λ k. k + n) (sym (sum_marked-marks (marks_60 group) group need.in_question_is.0 same)),
  );
}
  where
    same : (l : ℕ) → get_or (marks_60 group) l false ≡ get_or group l false
    same l = go (cases_lt l 60)
      where
        go : (l < 60) ⊎ (60 ≤ l) → get_or (marks_60 group) l false ≡ get_or group l false
        go (inl lt) = get_or-map-range_with_len (λ k. get_or group k false) 0 60 l l false lt (omega arith)
        go (inr ge) =
            get_or_past (marks_60 group) l false (omega (arith, ge, length-marks_60 group))
            ∙ sym (group-within rule poll seats group n need l (omega (arith, ge, few)))
