-- The first of those who stay, found before all candidates are looked at.
use Rattle.std.proofs.Common.{◌≡◌, ◌≤◌, ◌∙◌, ℕ, zero, suc, ◌+◌, ◌-◌, List, ◌∷◌, [], Bool, true, false, length, take, refl, sym, ap, arith}
use Rattle.std.proofs.lemmas.List.{length_push, take-append-le, take_all}
use Rattle.tally_machine_law.specs.Holders.{holders, is_among, remaining_candidates}
use Rattle.tally_machine_law.proofs.HolderLemmas.{staying-more, staying-same}

-- with one candidate more there are as many, and the first are the same
one_more : (seats n : ℕ) (gone : List ℕ) → seats ≤ length (remaining_candidates n gone) → (take seats (remaining_candidates (n + 1) gone) ≡ take seats (remaining_candidates n gone)) × (seats ≤ length (remaining_candidates (n + 1) gone))
one_more seats n gone enough = by_mark (is_among (n + 1) gone) refl
  where
    by_mark : (b : Bool) → is_among (n + 1) gone ≡ b → (take seats (remaining_candidates (n + 1) gone) ≡ take seats (remaining_candidates n gone)) × (seats ≤ length (remaining_candidates (n + 1) gone))
    by_mark true e =
        let same = staying-same n gone e in
        (ap (take seats) same, omega (arith, enough, ap length same))
    by_mark false e =
        let more = staying-more n gone e in
        (ap (take seats) more ∙ take-append-le seats (remaining_candidates n gone) ((n + 1) ∷ []) enough, omega (arith, enough, ap length more, length_push (remaining_candidates n gone) (n + 1)))

-- and so with any number more
first_stay : (seats k n : ℕ) (gone : List ℕ) → seats ≤ length (remaining_candidates n gone) → take seats (remaining_candidates (n + k) gone) ≡ take seats (remaining_candidates n gone)
first_stay seats zero n gone enough = ap (λ m. take seats (remaining_candidates m gone)) (let e : n + 0 ≡ n = omega arith in e)
first_stay seats (suc k) n gone enough =
    let more = one_more seats n gone enough in
    let e : n + suc k ≡ n + 1 + k = omega arith in
    ap (λ m. take seats (remaining_candidates m gone)) e ∙ first_stay seats k (n + 1) gone more.1 ∙ more.0

-- where this many stay as there are seats, they are the holders
pub all_seats : (candidates seats n : ℕ) (gone : List ℕ) → n ≤ candidates → length (remaining_candidates n gone) ≡ seats → remaining_candidates n gone ≡ holders candidates seats gone
all_seats candidates seats n gone le full =
    let e : n + (candidates - n) ≡ candidates = omega (arith, le) in
    sym (take_all seats (remaining_candidates n gone) (omega (arith, full)))
    ∙ sym (first_stay seats (candidates - n) n gone (omega (arith, full)))
    ∙ ap (λ m. take seats (remaining_candidates m gone)) e
