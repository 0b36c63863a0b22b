-- Sums over the first lists.
use Rattle.std.proofs.Common.{◌≡◌, ℕ, zero, suc, ◌+◌, ◌*◌, ◌<◌, ◌≤◌, ◌⊎◌, List, [], ◌∷◌, Bool, true, false, cond, length, get_or, sum, refl, sym, ◌∙◌, inl, inr, ap, arith, add-one}
use Rattle.std.proofs.lemmas.Bool.{cases_lt, cases_Bool}
use Rattle.tally_law.specs.Poll.{sum_marked}
use Rattle.tally_allot_award.specs.internal.Sums.{sum_before}
use Rattle.tally_allot_award.proofs.Vectors.{sum-cons}

pub sum_before-shift : (f : ℕ → ℕ) (n : ℕ) → sum_before f (suc n) ≡ f 0 + sum_before (λ i. f (suc i)) n
sum_before-shift f zero = omega arith
sum_before-shift f (suc n) = omega (arith, sum_before-shift f n)

pub sum_before-add : (f g h : ℕ → ℕ) (n : ℕ) → ((i : ℕ) → i < n → f i ≡ g i + h i) → sum_before f n ≡ sum_before g n + sum_before h n
sum_before-add f g h zero e = omega arith
sum_before-add f g h (suc n) e = omega (arith, e n (omega arith), sum_before-add f g h n (λ i lt. e i (omega arith)))

pub sum_before-same : (f g : ℕ → ℕ) (n : ℕ) → ((i : ℕ) → i < n → f i ≡ g i) → sum_before f n ≡ sum_before g n
sum_before-same f g zero e = refl
sum_before-same f g (suc n) e = omega (arith, e n (omega arith), sum_before-same f g n (λ i lt. e i (omega arith)))

pub sum_before-le : (f g : ℕ → ℕ) (n : ℕ) → ((i : ℕ) → i < n → f i ≤ g i) → sum_before f n ≤ sum_before g n
sum_before-le f g zero e = omega arith
sum_before-le f g (suc n) e = omega (arith, e n (omega arith), sum_before-le f g n (λ i lt. e i (omega arith)))

pub sum_before-mul : (f : ℕ → ℕ) (c n : ℕ) → sum_before (λ i. f i * c) n ≡ sum_before f n * c
sum_before-mul f c zero = omega arith
sum_before-mul f c (suc n) = omega (arith, sum_before-mul f c n)

-- one of the numbers is within the sum
pub at-le-sum_before : (f : ℕ → ℕ) (n i : ℕ) → i < n → f i ≤ sum_before f n
at-le-sum_before f zero i lt = absurd (omega arith)
at-le-sum_before f (suc n) i lt = by_cases (at-le-sum_before f n i) (cases_lt i n)
  where
    by_cases : (i < n → f i ≤ sum_before f n) → (i < n) ⊎ (n ≤ i) → f i ≤ sum_before f n + f n
    by_cases before (inl h) = omega (arith, before h)
    by_cases before (inr h) = let e : i ≡ n = omega arith in let e' : f i ≡ f n = ap f e in omega arith

pub sum_before-mono : (f : ℕ → ℕ) (m n : ℕ) → m ≤ n → sum_before f m ≤ sum_before f n
sum_before-mono f m zero le = let e : m ≡ 0 = omega arith in let e' : sum_before f m ≡ sum_before f 0 = ap (sum_before f) e in omega arith
sum_before-mono f m (suc n) le = by_cases (sum_before-mono f m n) (cases_lt m (suc n))
  where
    by_cases : (m ≤ n → sum_before f m ≤ sum_before f n) → (m < suc n) ⊎ (suc n ≤ m) → sum_before f m ≤ sum_before f n + f n
    by_cases before (inl h) = omega (arith, before (omega arith))
    by_cases before (inr h) = let e : m ≡ suc n = omega arith in let e' : sum_before f m ≡ sum_before f (suc n) = ap (sum_before f) e in omega arith

-- the sum of a list
pub sum-is : (a : List ℕ) → sum a ≡ sum_before (λ i. get_or a i 0) (length a)
sum-is [] = refl
sum-is (x ∷ xs) = omega (arith, sum-cons x xs, sum-is xs, sum_before-shift (λ i. get_or (x ∷ xs) i 0) (length xs))

-- the number at a marked place, and elsewhere 0
abbrev pub marked_at : List Bool → List ℕ → ℕ → ℕ
marked_at bs ns i = cond (get_or bs i false) (get_or ns i 0) 0

pub sum_marked-is : (bs : List Bool) (ns : List ℕ) → sum_marked bs ns ≡ sum_before (marked_at bs ns) (length ns)
sum_marked-is [] ns = sym (zeros (length ns))
  where
    zeros : (n : ℕ) → sum_before (marked_at [] ns) n ≡ 0
    zeros zero = refl
    zeros (suc n) = omega (arith, zeros n)
sum_marked-is (b ∷ bs) [] = refl
sum_marked-is (true ∷ bs) (x ∷ xs) = omega (arith, sum_marked-is bs xs, sum_before-shift (marked_at (true ∷ bs) (x ∷ xs)) (length xs))
sum_marked-is (false ∷ bs) (x ∷ xs) = omega (arith, sum_marked-is bs xs, sum_before-shift (marked_at (false ∷ bs) (x ∷ xs)) (length xs))

-- the number at a place that is not marked, and elsewhere 0
abbrev pub unmarked_at : List Bool → List ℕ → ℕ → ℕ
unmarked_at bs ns i = cond (get_or bs i false) 0 (get_or ns i 0)

parts : (b : Bool) (n : ℕ) → n ≡ cond b n 0 + cond b 0 n
parts true n = omega arith
parts false n = omega arith

-- Two vectors of one sum that agree where nothing is marked have one sum where something is.
pub sum_marked-same : (bs : List Bool) (a b : List ℕ) → length a ≡ length b → sum a ≡ sum b → ((i : ℕ) → get_or bs i false ≡ false → get_or a i 0 ≡ get_or b i 0) → sum_marked bs a ≡ sum_marked bs b
sum_marked-same bs a b long whole same =
    let n = length b in
    let e : sum_before (λ i. get_or a i 0) (length a) ≡ sum_before (λ i. get_or a i 0) n = ap (sum_before (λ i. get_or a i 0)) long in
    let m : sum_before (marked_at bs a) (length a) ≡ sum_before (marked_at bs a) n = ap (sum_before (marked_at bs a)) long in
    let pa = sum_before-add (λ i. get_or a i 0) (marked_at bs a) (unmarked_at bs a) n (λ i _. parts (get_or bs i false) (get_or a i 0)) in
    let pb = sum_before-add (λ i. get_or b i 0) (marked_at bs b) (unmarked_at bs b) n (λ i _. parts (get_or bs i false) (get_or b i 0)) in
    let u : sum_before (unmarked_at bs a) n ≡ sum_before (unmarked_at bs b) n = sum_before-same (unmarked_at bs a) (unmarked_at bs b) n (λ i _. at_unmarked i (cases_Bool (get_or bs i false))) in
    omega (arith, sum-is a, sum-is b, sum_marked-is bs a, sum_marked-is bs b)
  where
    at_unmarked : (i : ℕ) → (get_or bs i false ≡ true) ⊎ (get_or bs i false ≡ false) → unmarked_at bs a i ≡ unmarked_at bs b i
    at_unmarked i (inl t) = ap (λ c. cond c 0 (get_or a i 0)) t ∙ sym (ap (λ c. cond c 0 (get_or b i 0)) t)
    at_unmarked i (inr f) = ap (λ c. cond c 0 (get_or a i 0)) f ∙ same i f ∙ sym (ap (λ c. cond c 0 (get_or b i 0)) f)

-- what is marked so far is within the whole
pub marked-le-sum : (bs : List Bool) (ns : List ℕ) (i : ℕ) → i ≤ length ns → sum_before (marked_at bs ns) i ≤ sum ns
marked-le-sum bs ns i le =
    omega (arith, sum-is ns, sum_before-le (marked_at bs ns) (λ j. get_or ns j 0) i (λ j _. part (get_or bs j false) (get_or ns j 0)), sum_before-mono (λ j. get_or ns j 0) i (length ns) le)
  where
    part : (b : Bool) (n : ℕ) → cond b n 0 ≤ n
    part true n = omega arith
    part false n = omega arith

-- one number more
pub sum_before-more : (f : ℕ → ℕ) (n : ℕ) → sum_before f (n + 1) ≡ sum_before f n + f n
sum_before-more f n = rw add-one refl

pub marked_more_yes : (bs : List Bool) (ns : List ℕ) (i : ℕ) → get_or bs i false ≡ true → sum_before (marked_at bs ns) (i + 1) ≡ sum_before (marked_at bs ns) i + get_or ns i 0
marked_more_yes bs ns i b = sum_before-more (marked_at bs ns) i ∙ ap (λ c. sum_before (marked_at bs ns) i + cond c (get_or ns i 0) 0) b
