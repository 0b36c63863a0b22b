-- What Draw and Certify leave is lawful.
use Rattle.std.proofs.Common.{◌≡◌, ◌∙◌, ◌+◌, ◌-◌, ◌==◌, ◌∷◌, ℕ, List, [], Bool, true, false, Option, Some, None, Result, Ok, Err, refl, sym, subst, inr, arith}
use Rattle.std.specs.Prelude.{not, if◌then◌else◌}
use Rattle.std.proofs.lemmas.Bool.{eqb-true, eqb-false, not-true}
use Rattle.tally_setup.specs.Constituency.{Constituency}
use Rattle.tally_law.specs.Lot.{IsOrderOf}
use Rattle.tally_machine_law.specs.Certification.{ByOutcome, Certifies, Draws, RefusedOr, seats_by_outcome, count_checks, lot_in_view, drawn_places, lot_where_recorded, list_places, names_group}
use Rattle.tally_returns.specs.Checks.{check, first_refusal}
use Rattle.tally_machine_law.specs.Outcome.{Outcome, HasSeats, IsLawfulView, IsOutcome, allotted, lot_missing, nobody, poll_in, rule_in}
use Rattle.tally_returns.specs.State.{last_edition}
use Rattle.tally_returns.specs.View.{View}
use Rattle.tally_returns.specs.declared.refusal.Refusal.{Refusal}
use Rattle.tally_returns.specs.declared.refusal.Refusal.TheVariants.{Certified, Exhausted, LotWrongGroup, NotAllClosed, Stale}
use Rattle.tally_returns.proofs.DecideLemmas.{passed-first, passed-rest}
use Rattle.tally_machine_law.proofs.LotLemmas.{order-from}
use Rattle.tally_machine_law.proofs.PastLemmas.{past-later}
use Rattle.tally_machine_law.proofs.VacancyLemmas.{allotted-long}

-- ---- where something is given, no check failed

pub given : {X : Type 0} (refusal : Option Refusal) (P : Result X Refusal → Type 0) (x : X) → RefusedOr refusal P (Ok x) → (refusal ≡ None) × P (Ok x)
given None P x h = (refl, h)
given (Some e) P x h = cc

-- what the checks before the votes say where none fails
pub record ArePassed (view : View) : Type 0 where
  pub not_certified : view.certified ≡ false
  pub not_last : view.edition ≡ last_edition → ⊥
  pub all_closed : view.closed ≡ view.stations

pub passed : (view : View) (edition : ℕ) → first_refusal (count_checks view edition) ≡ None → ArePassed view
passed view edition none =
    let left = view.stations - view.closed in
    let fourth = check (view.closed == view.stations) (NotAllClosed left) ∷ [] in
    let third = check (not (view.edition == last_edition)) Exhausted ∷ fourth in
    let second = check (view.edition == edition) (Stale view.edition) ∷ third in
    let after_first : first_refusal second ≡ None = passed-rest (not view.certified) Certified second none in
    let after_second : first_refusal third ≡ None = passed-rest (view.edition == edition) (Stale view.edition) third after_first in
    let after_third : first_refusal fourth ≡ None = passed-rest (not (view.edition == last_edition)) Exhausted fourth after_second in record {
      not_certified = not-true view.certified (passed-first (not view.certified) Certified second none);
      not_last = eqb-false view.edition last_edition (not-true (view.edition == last_edition) (passed-first (not (view.edition == last_edition)) Exhausted fourth after_second));
      all_closed = eqb-true view.closed view.stations (passed-first (view.closed == view.stations) (NotAllClosed left) [] after_third);
    }

-- ---- Certify

by_outcome : (con : Constituency) (view : View) (seats : List ℕ) (outcome : Outcome) → IsOutcome con view outcome → Ok seats ≡ seats_by_outcome outcome → IsOutcome con view (allotted seats)
by_outcome con view seats nobody is e = cc
by_outcome con view seats (lot_missing group n) is e = cc
by_outcome con view seats (allotted given) is e =
    let same : given ≡ seats = cc in
    subst (λ (s : List ℕ). IsOutcome con view (allotted s)) same is

-- the seats that Certify gives are those of the allotment
pub certified-seats : (con : Constituency) (view : View) (edition : ℕ) (seats : List ℕ) → Certifies con view edition (Ok seats) → IsOutcome con view (allotted seats)
certified-seats con view edition seats certifies =
    let g = given (first_refusal (count_checks view edition)) (ByOutcome con view seats_by_outcome) seats certifies in
    by_outcome con view seats g.1.0 g.1.1 g.1.2

-- a lawful view is lawful once it is certified with the seats that Certify gives
pub certified-lawful : (con : Constituency) (view : View) (edition : ℕ) (seats : List ℕ) → IsLawfulView con view → Certifies con view edition (Ok seats)
    → IsLawfulView con (record view { edition = view.edition + 1; certified = true; seats = seats })
certified-lawful con view edition seats lawful certifies =
    let g = given (first_refusal (count_checks view edition)) (ByOutcome con view seats_by_outcome) seats certifies in
    let p = passed view edition g.0 in
    let given_seats = certified-seats con view edition seats certifies in record {
      fits = record {
        lists = lawful.fits.lists;
        votes = lawful.fits.votes;
        edition = omega (arith, lawful.fits.edition, p.not_last);
        stations = lawful.fits.stations;
        seats = λ _. allotted-long (rule_in con) (poll_in con view) view.lot con.seats seats given_seats.2 ∙ lawful.fits.lists;
        past = lawful.fits.past;
      };
      few = lawful.few;
      lawful = record {
        first = omega (arith, lawful.lawful.first);
        last = omega (arith, lawful.lawful.last, p.not_last);
        note = lawful.lawful.note;
        lot = lawful.lawful.lot;
        certified = λ _. (p.all_closed, given_seats.0, given_seats.1);
        gone = lawful.lawful.gone;
        past = past-later con view.edition view.past lawful.lawful.past;
      };
      seats = given_seats;
    }

-- ---- Draw

-- places that were drawn, and the group that they are an order of
pub record IsDrawn (con : Constituency) (view : View) (places : List ℕ) : Type 0 where
  pub group : List Bool
  pub in_question : ℕ
  pub missing : IsOutcome con view (lot_missing group in_question)
  pub named : names_group group places ≡ true

drawn-named : (group : List Bool) (found : Option (List ℕ)) (places : List ℕ) → drawn_places group found ≡ Ok places → names_group group places ≡ true
drawn-named group None places e = cc
drawn-named group (Some found) places e = by_cases (names_group group found) refl e
  where
    by_cases : (b : Bool) → names_group group found ≡ b → (if b then Ok found else Err (LotWrongGroup group)) ≡ Ok places → names_group group places ≡ true
    by_cases true named e =
        let same : found ≡ places = cc in
        subst (λ (ps : List ℕ). names_group group ps ≡ true) same named
    by_cases false named e = cc

drawn-by : (con : Constituency) (view : View) (found : Option (List ℕ)) (places lot : List ℕ) (outcome : Outcome) → IsOutcome con view outcome → Ok places ≡ lot_where_recorded lot outcome found → IsDrawn con view places
drawn-by con view found places [] nobody is e = cc
drawn-by con view found places [] (lot_missing group n) is e = record { group = group; in_question = n; missing = is; named = drawn-named group found places (sym e) }
drawn-by con view found places [] (allotted seats) is e = cc
drawn-by con view found places (place ∷ lot) nobody is e = cc
drawn-by con view found places (place ∷ lot) (lot_missing group n) is e = cc
drawn-by con view found places (place ∷ lot) (allotted seats) is e = cc

-- where Draw gives places a lot is needed, and they name each list of its group once and no other
pub drawn-group : (con : Constituency) (view : View) (edition : ℕ) (order : List (List ℕ)) (places : List ℕ) → Draws con view edition order (Ok places) → IsDrawn con view places
drawn-group con view edition order places draws =
    let g = given (first_refusal (count_checks view edition)) (ByOutcome con view (lot_in_view con view order)) places draws in
    drawn-by con view (list_places con order) places view.lot g.1.0 g.1.1 g.1.2

pub drawn-order : (con : Constituency) (view : View) (edition : ℕ) (order : List (List ℕ)) (places : List ℕ) → (draws : Draws con view edition order (Ok places))
    → IsOrderOf (drawn-group con view edition order places draws).group places
drawn-order con view edition order places draws =
    let d = drawn-group con view edition order places draws in
    order-from d.group places d.named

-- and the constituency is not certified
pub drawn-open : (con : Constituency) (view : View) (edition : ℕ) (order : List (List ℕ)) (places : List ℕ) → Draws con view edition order (Ok places) → view.certified ≡ false
drawn-open con view edition order places draws =
    let g = given (first_refusal (count_checks view edition)) (ByOutcome con view (lot_in_view con view order)) places draws in
    (passed view edition g.0).not_certified

-- a lawful view is lawful once the lot is recorded that Draw gives
pub drawn-lawful : (con : Constituency) (view : View) (edition : ℕ) (order : List (List ℕ)) (places : List ℕ) → IsLawfulView con view → Draws con view edition order (Ok places)
    → IsLawfulView con (record view { edition = view.edition + 1; lot = places })
drawn-lawful con view edition order places lawful draws =
    let g = given (first_refusal (count_checks view edition)) (ByOutcome con view (lot_in_view con view order)) places draws in
    let p = passed view edition g.0 in
    let d = drawn-group con view edition order places draws in
    let none : HasSeats con view false = subst (λ (b : Bool). HasSeats con view b) p.not_certified lawful.seats in record {
      fits = record {
        lists = lawful.fits.lists;
        votes = lawful.fits.votes;
        edition = omega (arith, lawful.fits.edition, p.not_last);
        stations = lawful.fits.stations;
        seats = lawful.fits.seats;
        past = lawful.fits.past;
      };
      few = lawful.few;
      lawful = record {
        first = omega (arith, lawful.lawful.first);
        last = omega (arith, lawful.lawful.last, p.not_last);
        note = lawful.lawful.note;
        lot = inr (p.all_closed, d.missing.0, inr (d.group, d.in_question, d.missing.1, order-from d.group places d.named));
        certified = λ certified. let never : false ≡ true = sym p.not_certified ∙ certified in cc;
        gone = lawful.lawful.gone;
        past = past-later con view.edition view.past lawful.lawful.past;
      };
      seats = subst (λ (b : Bool). HasSeats con (record view { edition = view.edition + 1; lot = places }) b) (sym p.not_certified) none;
    }
