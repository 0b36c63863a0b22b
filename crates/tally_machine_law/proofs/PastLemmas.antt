-- Certificates that were reopened: one more of them is put on record, and the edition goes on.
use Rattle.std.proofs.Common.{◌≡◌, ◌∙◌, ◌+◌, ◌∷◌, ℕ, List, [], Bool, true, false, cond, length, map, Some, refl, sym, ap, subst, arith}
use Rattle.std.specs.Prelude.{All}
use Rattle.std.specs.FinMap as fin
use Rattle.std.specs.FinMap.Entries.{by_order, put}
use Rattle.std.specs.Cmp.{Equal-is, nat_cmp_total}
use Rattle.std.specs.Ordering.{eq_by_cmp, nat_cmp}
use Rattle.std.specs.declared.cmp.Ordering.{Ordering}
use Rattle.std.specs.declared.cmp.Ordering.TheVariants.{Less, Equal, Greater}
use Rattle.std.proofs.lemmas.List.Elements.{All-cons, All-head, All-tail}
use Rattle.tally_setup.specs.Constituency.{Constituency}
use Rattle.tally_returns.specs.PastSeats.{PastSeats}
use Rattle.tally_returns.specs.State.{PastRecords, opening_con}
use Rattle.tally_returns.specs.View.{past_record, past_records}
use Rattle.tally_machine_law.specs.Outcome.{IsLawfulPast}

-- certificates that were reopened before an edition were so before the next
pub past-later : (con : Constituency) (edition : ℕ) (past : List PastSeats) → All (IsLawfulPast con edition) past → All (IsLawfulPast con (edition + 1)) past
past-later con edition past all k d lt =
    let before = all k d lt in record { first = before.first; before = omega (arith, before.before); lists = before.lists; exactly = before.exactly }

-- one more, among those that are on record
put-past : (con : Constituency) (edition key : ℕ) (seats : List ℕ) (es : List (ℕ × List ℕ)) → IsLawfulPast con edition (past_record (key, seats)) → All (IsLawfulPast con edition) (map past_record es)
    → All (IsLawfulPast con edition) (map past_record (put nat_cmp key seats es))
put-past con edition key seats [] is all = All-cons (IsLawfulPast con edition) (past_record (key, seats)) [] is all
put-past con edition key seats (e ∷ es) is all =
    go (nat_cmp key e.0) (put-past con edition key seats es is (All-tail (IsLawfulPast con edition) (past_record e) (map past_record es) all))
  where
    here : IsLawfulPast con edition (past_record e)
    here = All-head (IsLawfulPast con edition) (past_record e) (map past_record es) all

    go : (o : Ordering) → All (IsLawfulPast con edition) (map past_record (put nat_cmp key seats es))
        → All (IsLawfulPast con edition) (map past_record (by_order o ((key, seats) ∷ e ∷ es) ((e.0, seats) ∷ es) (e ∷ put nat_cmp key seats es)))
    go Less rest = All-cons (IsLawfulPast con edition) (past_record (key, seats)) (map past_record (e ∷ es)) is all
    go Equal rest =
        All-cons (IsLawfulPast con edition) (past_record (e.0, seats)) (map past_record es) (record { first = here.first; before = here.before; lists = is.lists; exactly = is.exactly })
        (All-tail (IsLawfulPast con edition) (past_record e) (map past_record es) all)
    go Greater rest = All-cons (IsLawfulPast con edition) (past_record e) (map past_record (put nat_cmp key seats es)) here rest

pub insert-past : (con : Constituency) (edition key : ℕ) (seats : List ℕ) (past : PastRecords) → IsLawfulPast con edition (past_record (key, seats)) → All (IsLawfulPast con edition) (past_records past)
    → All (IsLawfulPast con edition) (past_records (fin.insert past key seats))
insert-past con edition key seats past is all =
    subst (λ es. All (IsLawfulPast con edition) (map past_record es)) (sym (fin.entries-insert nat_cmp_total past key seats)) (put-past con edition key seats (fin.entries past) is all)

-- what is found on record
found-past : (con : Constituency) (edition key : ℕ) (seats : List ℕ) (es : List (ℕ × List ℕ)) → fin.find nat_cmp key es ≡ Some seats → All (IsLawfulPast con edition) (map past_record es)
    → IsLawfulPast con edition (past_record (key, seats))
found-past con edition key seats [] is all = cc
found-past con edition key seats (e ∷ es) is all = go (eq_by_cmp nat_cmp key e.0) refl is (found-past con edition key seats es)
  where
    go : (b : Bool) → eq_by_cmp nat_cmp key e.0 ≡ b → cond b (Some e.1) (fin.find nat_cmp key es) ≡ Some seats
        → (fin.find nat_cmp key es ≡ Some seats → All (IsLawfulPast con edition) (map past_record es) → IsLawfulPast con edition (past_record (key, seats)))
        → IsLawfulPast con edition (past_record (key, seats))
    go true tied some later =
        let same : e.1 ≡ seats = cc in
        let at : key ≡ e.0 = fin.nat_cmp-IsAntisymmetric key e.0 ((Equal-is (nat_cmp key e.0)).0 tied) in
        subst (λ (n : ℕ). IsLawfulPast con edition (past_record (n, seats))) (sym at)
        (subst (λ (s : List ℕ). IsLawfulPast con edition (past_record (e.0, s))) same (All-head (IsLawfulPast con edition) (past_record e) (map past_record es) all))
    go false apart some later = later some (All-tail (IsLawfulPast con edition) (past_record e) (map past_record es) all)

pub past-lawful : (con : Constituency) (edition key : ℕ) (seats : List ℕ) (past : PastRecords) → fin.get past key ≡ Some seats → All (IsLawfulPast con edition) (past_records past)
    → IsLawfulPast con edition (past_record (key, seats))
past-lawful con edition key seats past is all = found-past con edition key seats (fin.entries past) (sym (fin.get-entries past key) ∙ is) all

-- an office opens with no certificate on record
pub no-past : past_records opening_con.past ≡ []
no-past = ap (map past_record) (none (fin.entries opening_con.past) (sym (fin.len-entries opening_con.past) ∙ fin.len-empty nat_cmp (List ℕ)))
  where
    none : (es : List (ℕ × List ℕ)) → length es ≡ 0 → es ≡ []
    none [] is = refl
    none (e ∷ es) is = absurd (omega (arith, is))
