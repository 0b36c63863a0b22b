-- What votes and a lot come to, and what is decided by it.
use Rattle.std.proofs.Common.{◌≡◌, ◌≢◌, ◌≤◌, ◌⊎◌, ◌∙◌, ℕ, List, [], ◌∷◌, Bool, true, false, Option, Some, None, Result, Ok, Err, IfOk, IfErr, OnOk, length, get_or, refl, sym, subst, inl, inr, arith}
use Rattle.std.proofs.lemmas.Bool.{false_from_ne_true}
use Rattle.std.proofs.lemmas.List.{get_or_past}
use Rattle.tally_setup.specs.Constituency.{Constituency}
use Rattle.tally_setup.specs.Limits.{IsConstituency}
use Rattle.tally_law.specs.Conditions.{AreLimitsKept}
use Rattle.tally_law.specs.Allotment.{Rule, divisors, hare, IsAllotmentByVotes}
use Rattle.tally_law.specs.LotNeed.{IsDecidedByVotes, IsLotNeeded, IsLotTaken, IsLotWrong, IsNeed}
use Rattle.tally_law.specs.Poll.{Poll}
use Rattle.tally_machine_law.specs.Certification.{ByOutcome, ByOutcomeOrWrongLot, Certifies, Draws, RefusedOr, seats_by_outcome, count_checks, lot_in_view, drawn_places, lot_where_recorded, list_places}
use Rattle.tally_returns.specs.Checks.{first_refusal}
use Rattle.tally_machine_law.specs.LawStatements.{WrongLotsLeadToNoOutcome}
use Rattle.tally_machine_law.specs.Outcome.{Outcome, HasWrongLot, IsLawfulView, IsOutcome, HasLawfulLot, allotted, lot_missing, nobody, poll_in, rule_in}
use Rattle.tally_machine_law.specs.Step.{Decides, IsConRefusal}
use Rattle.tally_returns.specs.View.{FitsView, View}
use Rattle.tally_returns.specs.declared.ask.Ask.{Ask}
use Rattle.tally_returns.specs.declared.ask.Ask.TheVariants.{Certify, Draw}
use Rattle.tally_returns.specs.declared.refusal.Refusal.{Refusal}
use Rattle.tally_returns.specs.declared.refusal.Refusal.TheVariants.{LotMissing, LotNotNeeded, LotStands, Memory, Store}
use Rattle.tally_machine_law.proofs.LotLemmas.{order-same}

-- ---- limits

-- the limits of an allotment are kept where the view fits
pub fits-limits : (con : Constituency) (view : View) → IsConstituency con → FitsView con view → AreLimitsKept con.profile con.seats view.votes view.blank
fits-limits con view limits fits = record {
  some_list = omega (arith, fits.lists, limits.some_list);
  few_lists = omega (arith, fits.lists, limits.lists);
  few_votes = fits.votes;
  some_seat = limits.some_seat;
  few_seats = limits.seats;
  whole_at_most = limits.profile;
}

-- ---- the lot

-- where the votes decide no lot is needed
decided-needs_none : (rule : Rule) (poll : Poll) (seats : ℕ) → IsDecidedByVotes rule poll seats → IsLotNeeded rule poll seats → ⊥
decided-needs_none rule poll seats decided needed = needed.4 (decided.2 needed.0 needed.2 ∙ sym (decided.2 needed.1 needed.3))

-- two needs of one poll are of the same lists
pub need-same : (rule : Rule) (poll : Poll) (seats : ℕ) (group other : List Bool) (m n : ℕ) → IsNeed rule poll seats group m → IsNeed rule poll seats other n
    → (l : ℕ) → get_or group l false ≡ true → get_or other l false ≡ true
need-same rule poll seats group other m n need again l marked = (again.group_is l).1 ((need.group_is l).0 marked)

-- a lot that is to be taken is not wrong
taken-right : (rule : Rule) (poll : Poll) (seats : ℕ) (lot : List ℕ) → IsLotTaken rule poll seats lot → IsLotWrong rule poll seats lot → ⊥
taken-right rule poll seats lot (inl taken) (inl wrong) = wrong.1 taken.1
taken-right rule poll seats lot (inl taken) (inr wrong) = wrong.3 taken.1
taken-right rule poll seats lot (inr taken) (inl wrong) = decided-needs_none rule poll seats wrong.0 taken.2.needed
taken-right rule poll seats lot (inr taken) (inr wrong) =
    wrong.4 (
    order-same taken.0 wrong.0 lot
    (need-same rule poll seats taken.0 wrong.0 taken.1 wrong.1 taken.2 wrong.2)
    (need-same rule poll seats wrong.0 taken.0 wrong.1 taken.1 wrong.2 taken.2)
    taken.3
    )

some_lot-wrong : (rule : Rule) (poll : Poll) (seats : ℕ) (lot : List ℕ) → lot ≡ [] → IsLotWrong rule poll seats lot → ⊥
some_lot-wrong rule poll seats lot none (inl wrong) = wrong.1 none
some_lot-wrong rule poll seats lot none (inr wrong) = wrong.3 none

-- the lot that is recorded in a lawful view is not wrong
pub lot-right : (con : Constituency) (view : View) → (view.lot ≡ []) ⊎ HasLawfulLot con view → HasWrongLot con view → ⊥
lot-right con view (inl none) wrong = some_lot-wrong (rule_in con) (poll_in con view) con.seats view.lot none wrong
lot-right con view (inr may) wrong = taken-right (rule_in con) (poll_in con view) con.seats view.lot may.2 wrong

-- and under a wrong lot the votes come to no outcome
pub wrong-none : WrongLotsLeadToNoOutcome
wrong-none con view nobody has wrong is = is has
wrong-none con view (lot_missing group n) has wrong is = some_lot-wrong (rule_in con) (poll_in con view) con.seats view.lot is.2 wrong
wrong-none con view (allotted seats) has wrong is = taken-right (rule_in con) (poll_in con view) con.seats view.lot is.1 wrong

-- a refusal that no wrong lot has to do with
refused-right : (con : Constituency) (view : View) (gives : Outcome → Result (List ℕ) Refusal) (ensured : Refusal) (refusal : Option Refusal) (result : Result (List ℕ) Refusal) → (HasWrongLot con view → ⊥)
    → RefusedOr refusal (ByOutcomeOrWrongLot con view gives ensured) result → RefusedOr refusal (ByOutcome con view gives) result
refused-right con view gives ensured (Some e) result right is = is
refused-right con view gives ensured None result right (inl by) = by
refused-right con view gives ensured None result right (inr wrong) = absurd (right wrong.1)

-- so a refusal of a command on it is the one that is decided
pub refused-lawful : (con : Constituency) (view : View) (ask : Ask) (refusal : Refusal) → IsLawfulView con view → IsConRefusal con view ask refusal
    → refusal ≢ Memory → Decides con view ask (Err refusal)
refused-lawful con view (Draw code edition order) e lawful refused other =
    (Err e, refused-right con view (lot_in_view con view order.items) LotStands (first_refusal (count_checks view edition)) (Err e) (lot-right con view lawful.lawful.lot) (refused other), refl)
refused-lawful con view (Certify code edition) e lawful refused other =
    (Err e, refused-right con view seats_by_outcome Store (first_refusal (count_checks view edition)) (Err e) (lot-right con view lawful.lawful.lot) (refused other), refl)
refused-lawful con view ask e lawful refused other = refused other

-- what is decided is so where the lot may be wrong, too
pub reported-by_outcome : (con : Constituency) (view : View) (gives : Outcome → Result (List ℕ) Refusal) (ensured : Refusal) (refusal : Option Refusal) (result : Result (List ℕ) Refusal)
    → RefusedOr refusal (ByOutcome con view gives) result → RefusedOr refusal (ByOutcomeOrWrongLot con view gives ensured) result
reported-by_outcome con view gives ensured None result by = inl by
reported-by_outcome con view gives ensured (Some e) result is = is

allotted-length : (rule : Rule) (poll : Poll) (seats : ℕ) (a : List ℕ) → IsAllotmentByVotes rule poll seats a → length a ≡ length poll.votes
allotted-length (divisors nth unit lot_rule) poll seats a is = is.shares.one_each
allotted-length hare poll seats a is = is.shares.one_each

-- the lists of a group are in the poll
pub group-within : (rule : Rule) (poll : Poll) (seats : ℕ) (group : List Bool) (n : ℕ) → IsNeed rule poll seats group n → (l : ℕ) → length poll.votes ≤ l → get_or group l false ≡ false
group-within rule poll seats group n need l past =
    false_from_ne_true (get_or group l false) (λ marked.
    let g = (need.group_is l).0 marked in
    let a : length g.0 ≤ l = omega (arith, allotted-length rule poll seats g.0 g.2) in
    let b : length g.1 ≤ l = omega (arith, allotted-length rule poll seats g.1 g.3) in
    g.4 (get_or_past g.0 l 0 a ∙ sym (get_or_past g.1 l 0 b)))

-- ---- seats

-- what is said of the parts that an allotment is made of, said of equal ones
pub carried : {A B C D E : Type 0} (P : A → B → C → D → E → Type 0) → {a a' : A} → a ≡ a' → {b b' : B} → b ≡ b' → {c c' : C} → c ≡ c' → {d d' : D} → d ≡ d' → {e e' : E} → e ≡ e' → P a b c d e → P a' b' c' d' e'
carried P {a = a} {a' = a'} ea {b = b} {b' = b'} eb {c = c} {c' = c'} ec {d = d} {d' = d'} ed {e = e} {e' = e'} ee h =
    subst (P a' b' c' d') ee (subst (λ x. P a' b' c' x e) ed (subst (λ x. P a' b' x d e) ec (subst (λ x. P a' x c d e) eb (subst (λ x. P x b c d e) ea h))))

pub all_three : {X E : Type 0} (r : Result X E) (P Q : Type 0) (R : X → Type 0) → OnOk r P → OnOk r Q → IfOk r R → IfOk r (λ x. P × Q × R x)
all_three (Ok x) P Q R p q s = (p, q, s)
all_three (Err e) P Q R p q s = tt

pub on_fault : {X E : Type 0} (r : Result X E) (P Q : E → Type 0) → ((e : E) → P e → Q e) → IfErr r P → IfErr r Q
on_fault (Ok x) P Q to p = tt
on_fault (Err e) P Q to p = to e p

pub on_ok : {X E : Type 0} (r : Result X E) (P Q : X → Type 0) → ((x : X) → P x → Q x) → IfOk r P → IfOk r Q
on_ok (Ok x) P Q to p = to x p
on_ok (Err e) P Q to p = tt

pub none_long : (xs : List ℕ) → length xs ≡ 0 → xs ≡ []
none_long [] e = refl
none_long (x ∷ xs) e = absurd (omega arith)

-- ---- what is decided

-- where no check fails
pub not_refused : {X : Type 0} (refusal : Option Refusal) (P : Result X Refusal → Type 0) (result : Result X Refusal) → refusal ≡ None → P result → RefusedOr refusal P result
not_refused None P result none h = h
not_refused (Some e) P result none h = cc

-- where a check fails
pub refused : {X : Type 0} (refusal : Option Refusal) (e : Refusal) (P : Result X Refusal → Type 0) → refusal ≡ Some e → RefusedOr refusal P (Err e)
refused None e P some = cc
refused (Some f) e P some = cc

pub certifies : (con : Constituency) (view : View) (edition : ℕ) (seats : List ℕ) → first_refusal (count_checks view edition) ≡ None → IsOutcome con view (allotted seats)
    → Certifies con view edition (Ok seats)
certifies con view edition seats none is =
    not_refused (first_refusal (count_checks view edition)) (ByOutcome con view seats_by_outcome) (Ok seats) none (allotted seats, is, refl)

pub certifies-missing : (con : Constituency) (view : View) (edition : ℕ) (group : List Bool) (n : ℕ) → first_refusal (count_checks view edition) ≡ None → IsOutcome con view (lot_missing group n)
    → Certifies con view edition (Err (LotMissing group n))
certifies-missing con view edition group n none is =
    not_refused (first_refusal (count_checks view edition)) (ByOutcome con view seats_by_outcome) (Err (LotMissing group n)) none
    (lot_missing group n, is, refl)

drawn-decided : (lot : List ℕ) (seats : List ℕ) (places : Option (List ℕ)) → lot ≡ [] → Err LotNotNeeded ≡ lot_where_recorded lot (allotted seats) places
drawn-decided [] seats places none = refl
drawn-decided (place ∷ lot) seats places none = cc

drawn-stands : (lot : List ℕ) (seats : List ℕ) (places : Option (List ℕ)) → lot ≢ [] → Err LotStands ≡ lot_where_recorded lot (allotted seats) places
drawn-stands [] seats places some = absurd (some refl)
drawn-stands (place ∷ lot) seats places some = refl

drawn-missing : (lot : List ℕ) (group : List Bool) (n : ℕ) (places : Option (List ℕ)) → lot ≡ [] → drawn_places group places ≡ lot_where_recorded lot (lot_missing group n) places
drawn-missing [] group n places none = refl
drawn-missing (place ∷ lot) group n places none = cc

draws : (con : Constituency) (view : View) (edition : ℕ) (order : List (List ℕ)) (result : Result (List ℕ) Refusal) (outcome : Outcome)
    → first_refusal (count_checks view edition) ≡ None → IsOutcome con view outcome → result ≡ lot_where_recorded view.lot outcome (list_places con order) → Draws con view edition order result
draws con view edition order result outcome none is gives =
    not_refused (first_refusal (count_checks view edition)) (ByOutcome con view (lot_in_view con view order)) result none
    (outcome, is, gives)

pub draws-decided : (con : Constituency) (view : View) (edition : ℕ) (order : List (List ℕ)) (seats : List ℕ) → first_refusal (count_checks view edition) ≡ None
    → IsOutcome con view (allotted seats) → view.lot ≡ [] → Draws con view edition order (Err LotNotNeeded)
draws-decided con view edition order seats none is lot =
    draws con view edition order (Err LotNotNeeded) (allotted seats) none is (drawn-decided view.lot seats (list_places con order) lot)

pub draws-stands : (con : Constituency) (view : View) (edition : ℕ) (order : List (List ℕ)) (seats : List ℕ) → first_refusal (count_checks view edition) ≡ None
    → IsOutcome con view (allotted seats) → view.lot ≢ [] → Draws con view edition order (Err LotStands)
draws-stands con view edition order seats none is lot =
    draws con view edition order (Err LotStands) (allotted seats) none is (drawn-stands view.lot seats (list_places con order) lot)

pub draws-missing : (con : Constituency) (view : View) (edition : ℕ) (order : List (List ℕ)) (group : List Bool) (n : ℕ) (result : Result (List ℕ) Refusal)
    → first_refusal (count_checks view edition) ≡ None → IsOutcome con view (lot_missing group n) → drawn_places group (list_places con order) ≡ result → Draws con view edition order result
draws-missing con view edition order group n result none is gives =
    draws con view edition order result (lot_missing group n) none is (sym gives ∙ drawn-missing view.lot group n (list_places con order) is.2)
