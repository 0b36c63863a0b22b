-- What a decision on a constituency says of the numbers that it writes.
use Rattle.std.proofs.Common.{◌≡◌, ◌≢◌, ◌∙◌, ◌+◌, ◌<◌, ◌≤◌, ℕ, zero, suc, List, [], ◌∷◌, Bool, true, false, Option, Some, None, Ok, AllPairs, eqb, length, get_or, refl, sym, ap, subst, arith}
use Rattle.std.specs.Prelude.{◌==◌, not, string_bytes}
use Rattle.std.specs.List.{list_any}
use Rattle.std.proofs.lemmas.Bool.{eqb-true, false≢true}
use Rattle.std.proofs.lemmas.Bool.Decides.{Decides-eqb}
use Rattle.std.proofs.lemmas.List.{get_or_default}
use Rattle.std.proofs.lemmas.List.Folds.{Any-from_list_any}
use Rattle.std.proofs.lemmas.Map.Made.{IsDistinct-from_AllPairs}
use Rattle.std.proofs.lemmas.Map.Steps.{length-le_from_distinct_below}
use Rattle.tally_frac.specs.ListSet.{has_place}
use Rattle.tally_law.specs.Lot.{IsOrderOf}
use Rattle.tally_setup.specs.Constituency.{Constituency}
use Rattle.tally_setup.specs.Text.{is_note}
use Rattle.tally_returns.specs.Checks.{check, first_refusal, refused_or}
use Rattle.tally_returns.specs.GoneCandidate.{GoneCandidate}
use Rattle.tally_returns.specs.PastSeats.{PastSeats}
use Rattle.tally_returns.specs.State.{last_edition}
use Rattle.tally_returns.specs.View.{FitsView, View}
use Rattle.tally_returns.specs.declared.ask.Ask.{Ask}
use Rattle.tally_returns.specs.declared.ask.Ask.TheVariants.{Lodge, Query, Correct, Close, Confirm, ShowReturn, Draw, Certify, Reopen, Vacate, ShowCon, ShowProgress}
use Rattle.tally_returns.specs.declared.refusal.Refusal.{Refusal}
use Rattle.tally_returns.specs.declared.refusal.Refusal.TheVariants.{BadNote, Exhausted, NotCertified, Stale}
use Rattle.tally_returns.proofs.DecideLemmas.{passed-first, passed-rest}
use Rattle.tally_machine_law.specs.Certification.{Certifies, Draws, certificate_of, reopen_checks, reopen_result, vacate_result}
use Rattle.tally_machine_law.specs.Outcome.{poll_in, rule_in}
use Rattle.tally_machine_law.specs.Step.{Decides, certified_with, gone_for_good, lot_set, open_again}
use Rattle.tally_machine_law.proofs.DecisionLemmas.{given-by}
use Rattle.tally_machine_law.proofs.LawfulViewLemmas.{certified-seats, drawn-group, drawn-order}
use Rattle.tally_machine_law.proofs.VacancyLemmas.{allotted-long}

-- ---- of which command it is

-- a lot was drawn
abbrev pub IsDrawing : Constituency → View → List ℕ → Type 0
IsDrawing con view lot = (edition : ℕ) × (order : List (List ℕ)) × Draws con view edition order (Ok lot)

pub drawing : (con : Constituency) (view : View) (ask : Ask) (lot : List ℕ) → Decides con view ask (Ok (lot_set lot)) → IsDrawing con view lot
drawing con view (Draw code edition order) lot decides =
    let by = given-by lot_set decides.0 (lot_set lot) decides.2 in
    let e : lot_set lot ≡ lot_set by.0 = by.2 in
    let same : by.0 ≡ lot = cc in
    (edition, order.items, subst (λ places. Draws con view edition order.items (Ok places)) same (subst (Draws con view edition order.items) by.1 decides.1))
drawing con view (Certify code edition) lot decides = let by = given-by certified_with decides.0 (lot_set lot) decides.2 in let e : lot_set lot ≡ certified_with by.0 = by.2 in cc
drawing con view (Reopen code edition note) lot decides =
    let by = given-by (λ (r : List ℕ × PastSeats). open_again r.0 r.1) (reopen_result view edition (string_bytes note)) (lot_set lot) decides in
    let e : lot_set lot ≡ open_again by.0.0 by.0.1 = by.2 in cc
drawing con view (Vacate code list place note) lot decides =
    let by = given-by (λ (v : GoneCandidate × Option ℕ). gone_for_good v.0 v.1) (vacate_result con view list place (string_bytes note)) (lot_set lot) decides in
    let e : lot_set lot ≡ gone_for_good by.0.0 by.0.1 = by.2 in cc
drawing con view (ShowCon code) lot decides = cc
drawing con view (Lodge station slip counts) lot decides = absurd decides
drawing con view (Query station rev note) lot decides = absurd decides
drawing con view (Correct station rev slip counts) lot decides = absurd decides
drawing con view (Close station rev) lot decides = absurd decides
drawing con view (Confirm station rev slip counts) lot decides = absurd decides
drawing con view (ShowReturn station) lot decides = absurd decides
drawing con view ShowProgress lot decides = absurd decides

-- a constituency was certified
abbrev pub IsCertifying : Constituency → View → List ℕ → Type 0
IsCertifying con view seats = (edition : ℕ) × Certifies con view edition (Ok seats)

pub certifying : (con : Constituency) (view : View) (ask : Ask) (seats : List ℕ) → Decides con view ask (Ok (certified_with seats)) → IsCertifying con view seats
certifying con view (Certify code edition) seats decides =
    let by = given-by certified_with decides.0 (certified_with seats) decides.2 in
    let e : certified_with seats ≡ certified_with by.0 = by.2 in
    let same : by.0 ≡ seats = cc in
    (edition, subst (λ given. Certifies con view edition (Ok given)) same (subst (Certifies con view edition) by.1 decides.1))
certifying con view (Draw code edition order) seats decides = let by = given-by lot_set decides.0 (certified_with seats) decides.2 in let e : certified_with seats ≡ lot_set by.0 = by.2 in cc
certifying con view (Reopen code edition note) seats decides =
    let by = given-by (λ (r : List ℕ × PastSeats). open_again r.0 r.1) (reopen_result view edition (string_bytes note)) (certified_with seats) decides in
    let e : certified_with seats ≡ open_again by.0.0 by.0.1 = by.2 in cc
certifying con view (Vacate code list place note) seats decides =
    let by = given-by (λ (v : GoneCandidate × Option ℕ). gone_for_good v.0 v.1) (vacate_result con view list place (string_bytes note)) (certified_with seats) decides in
    let e : certified_with seats ≡ gone_for_good by.0.0 by.0.1 = by.2 in cc
certifying con view (ShowCon code) seats decides = cc
certifying con view (Lodge station slip counts) seats decides = absurd decides
certifying con view (Query station rev note) seats decides = absurd decides
certifying con view (Correct station rev slip counts) seats decides = absurd decides
certifying con view (Close station rev) seats decides = absurd decides
certifying con view (Confirm station rev slip counts) seats decides = absurd decides
certifying con view (ShowReturn station) seats decides = absurd decides
certifying con view ShowProgress seats decides = absurd decides

-- a certificate was reopened
pub record IsReopening (view : View) (past : PastSeats) : Type 0 where
  pub certified : view.certified ≡ true
  pub past_is : past ≡ certificate_of view

passed_certified : (view : View) (edition : ℕ) (note : List ℕ) → first_refusal (reopen_checks view edition note) ≡ None → view.certified ≡ true
passed_certified view edition note none =
    let rest = check (view.edition == edition) (Stale view.edition) ∷ check (not (view.edition == last_edition)) Exhausted ∷ [] in
    passed-first view.certified NotCertified rest (passed-rest (is_note note) BadNote (check view.certified NotCertified ∷ rest) none)

reopened_by : (view : View) (edition : ℕ) (note : List ℕ) (refusal : Option Refusal) (given : List ℕ × PastSeats) → first_refusal (reopen_checks view edition note) ≡ refusal
    → refused_or refusal (Ok (note, certificate_of view)) ≡ Ok given → IsReopening view given.1
reopened_by view edition note None given none ok =
    let made : (note, certificate_of view) ≡ given = cc in
    record { certified = passed_certified view edition note none; past_is = sym (ap (λ (g : List ℕ × PastSeats). g.1) made) }
reopened_by view edition note (Some e) given some ok = cc

pub reopening : (con : Constituency) (view : View) (ask : Ask) (note : List ℕ) (past : PastSeats) → Decides con view ask (Ok (open_again note past)) → IsReopening view past
reopening con view (Reopen code edition text) note past decides =
    let by = given-by (λ (r : List ℕ × PastSeats). open_again r.0 r.1) (reopen_result view edition (string_bytes text)) (open_again note past) decides in
    let e : open_again note past ≡ open_again by.0.0 by.0.1 = by.2 in
    let same : by.0.1 ≡ past = cc in
    subst (IsReopening view) same (reopened_by view edition (string_bytes text) (first_refusal (reopen_checks view edition (string_bytes text))) by.0 refl by.1)
reopening con view (Draw code edition order) note past decides = let by = given-by lot_set decides.0 (open_again note past) decides.2 in let e : open_again note past ≡ lot_set by.0 = by.2 in cc
reopening con view (Certify code edition) note past decides = let by = given-by certified_with decides.0 (open_again note past) decides.2 in let e : open_again note past ≡ certified_with by.0 = by.2 in cc
reopening con view (Vacate code list place text) note past decides =
    let by = given-by (λ (v : GoneCandidate × Option ℕ). gone_for_good v.0 v.1) (vacate_result con view list place (string_bytes text)) (open_again note past) decides in
    let e : open_again note past ≡ gone_for_good by.0.0 by.0.1 = by.2 in cc
reopening con view (ShowCon code) note past decides = cc
reopening con view (Lodge station slip counts) note past decides = absurd decides
reopening con view (Query station rev text) note past decides = absurd decides
reopening con view (Correct station rev slip counts) note past decides = absurd decides
reopening con view (Close station rev) note past decides = absurd decides
reopening con view (Confirm station rev slip counts) note past decides = absurd decides
reopening con view (ShowReturn station) note past decides = absurd decides
reopening con view ShowProgress note past decides = absurd decides

-- ---- how many numbers there are

-- numbers of which no two are equal, all from 1 to n, are at most n
few_distinct : (n : ℕ) (lot : List ℕ) → ((i : ℕ) → i < length lot → (1 ≤ get_or lot i 0) × (get_or lot i 0 ≤ n)) → ((i j : ℕ) → i < j → j < length lot → get_or lot i 0 ≢ get_or lot j 0) → length lot ≤ n
few_distinct n lot range once = omega (arith, length-le_from_distinct_below (0 ∷ lot) (n + 1) (IsDistinct-from_AllPairs Decides-eqb (0 ∷ lot) differ) below)
  where
    same : (i : ℕ) (d : ℕ) → i < length lot → get_or lot i d ≡ get_or lot i 0
    same i d lt = get_or_default lot i d 0 lt

    differ : AllPairs (λ x y. x ≢ y) (0 ∷ lot)
    differ zero zero d lt end = absurd (omega arith)
    differ zero (suc j) d lt end = λ e. omega (arith, e, same j d (omega arith), (range j (omega arith)).0)
    differ (suc i) zero d lt end = absurd (omega arith)
    differ (suc i) (suc j) d lt end = λ e. once i j (omega arith) (omega arith) (sym (same i d (omega arith)) ∙ e ∙ same j d (omega arith))

    by_place : (q k x : ℕ) → k < length (0 ∷ lot) → get_or (0 ∷ lot) k x ≡ x → eqb q x ≡ true → q < n + 1
    by_place q zero x lt at p = omega (arith, at, eqb-true q x p)
    by_place q (suc i) x lt at p = omega (arith, at, same i x (omega arith), (range i (omega arith)).1, eqb-true q x p)

    below : (q : ℕ) → list_any (eqb q) (0 ∷ lot) ≡ true → q < n + 1
    below q t = let w = Any-from_list_any (eqb q) (0 ∷ lot) t in by_place q w.0 w.1 w.2 w.3 w.4

-- a place that is marked is one of the marks
marked_at : (marks : List Bool) (l : ℕ) → get_or marks l false ≡ true → l < length marks
marked_at [] l is = absurd (false≢true is)
marked_at (m ∷ marks) zero is = omega arith
marked_at (m ∷ marks) (suc l) is = let rest : l < length marks = marked_at marks l is in omega (arith, rest)

marked_within : (marks : List Bool) (place : ℕ) → has_place marks place ≡ true → (1 ≤ place) × (place ≤ length marks)
marked_within marks zero is = absurd (false≢true is)
marked_within marks (suc l) is = let low : l < length marks = marked_at marks l is in (omega arith, omega (arith, low))

order_few : (group : List Bool) (lot : List ℕ) → IsOrderOf group lot → length lot ≤ length group
order_few group lot order = few_distinct (length group) lot (λ i lt. marked_within group (get_or lot i 0) (order.no_other i lt)) order.once

pub lot_few : (con : Constituency) (view : View) (ask : Ask) (lot : List ℕ) → Decides con view ask (Ok (lot_set lot)) → length lot ≤ 60
lot_few con view ask lot decides =
    let by = drawing con view ask lot decides in
    let group = (drawn-group con view by.0 by.1 lot by.2).group in
    let all : length group ≡ 60 = (drawn-group con view by.0 by.1 lot by.2).missing.3 in
    let few : length lot ≤ length group = order_few group lot (drawn-order con view by.0 by.1 lot by.2) in
    omega (arith, all, few)

pub seats_few : (con : Constituency) (view : View) (ask : Ask) (seats : List ℕ) → length con.lists ≤ 60 → FitsView con view → Decides con view ask (Ok (certified_with seats)) → length seats ≤ 60
seats_few con view ask seats few fits decides =
    let by = certifying con view ask seats decides in
    let given = certified-seats con view by.0 seats by.1 in
    let long : length seats ≡ length view.votes = allotted-long (rule_in con) (poll_in con view) view.lot con.seats seats given.2 in
    omega (arith, few, long, fits.lists)

pub record_few : (con : Constituency) (view : View) (ask : Ask) (note : List ℕ) (past : PastSeats) → length con.lists ≤ 60 → FitsView con view → Decides con view ask (Ok (open_again note past)) → length past.seats ≤ 60
record_few con view ask note past few fits decides =
    let by = reopening con view ask note past decides in
    let long : length past.seats ≡ length con.lists = ap (λ (p : PastSeats). length p.seats) by.past_is ∙ fits.seats by.certified in
    omega (arith, few, long)
