-- What is decided of a Vacate, where the list of its code was found.
use Rattle.std.proofs.Common.{◌≡◌, ◌≤◌, ◌<◌, ◌+◌, ◌-◌, ◌∙◌, ◌∷◌, ℕ, List, [], Bool, true, false, Option, Some, None, Ok, Err, cond, length, sym, ap, arith}
use Rattle.std.specs.Prelude.{nat_le, not, slice_index, sum}
use Rattle.std.specs.Str.{bytes_eq}
use Rattle.std.proofs.lemmas.Bool.{and_from, le-leb}
use Rattle.tally_setup.specs.Constituency.{Constituency, ListEntry}
use Rattle.tally_setup.specs.Text.{is_note}
use Rattle.tally_law.specs.Allotment.{Rule, divisors, hare, IsAllotment}
use Rattle.tally_law.specs.Poll.{Poll}
use Rattle.tally_machine_law.specs.Certification.{ListFound, list_found_from, gone_of, has_candidate, holders_of, list_found, vacate_checks, vacancy, vacate_result}
use Rattle.tally_returns.specs.Checks.{check, first_refusal, refused_or}
use Rattle.tally_machine_law.specs.Holders.{holders, is_among, newcomer}
use Rattle.tally_returns.specs.View.{FitsView, View}
use Rattle.tally_returns.specs.declared.refusal.Refusal.{Refusal}
use Rattle.tally_returns.specs.declared.refusal.Refusal.TheVariants.{NoCandidate, BadNote, NotCertified, AlreadyGone, NotHolder}
use Rattle.tally_returns.proofs.DecideLemmas.{first_refusal-passed}

-- ---- the list that was found

found-from : (p : ℕ) (code : List ℕ) (lists : List ListEntry) (f : ListFound) → list_found_from p code lists ≡ Some f → (p ≤ f.place) × (f.place < p + length lists)
found-from p code [] f is = cc
found-from p code (list ∷ lists) f is = by_cases (bytes_eq code list.code) is (found-from (p + 1) code lists f)
  where
    by_cases : (b : Bool) → cond b (Some (record { place = p; candidates = length list.candidates })) (list_found_from (p + 1) code lists) ≡ Some f
        → (list_found_from (p + 1) code lists ≡ Some f → (p + 1 ≤ f.place) × (f.place < p + 1 + length lists)) → (p ≤ f.place) × (f.place < p + length (list ∷ lists))
    by_cases true is rest =
        let here : p ≡ f.place = cc in
        (omega arith, omega arith)
    by_cases false is rest =
        let r = rest is in
        (omega (arith, r.0), omega (arith, r.1))

pub found-place : (con : Constituency) (code : List ℕ) (f : ListFound) → list_found con code ≡ Some f → 1 ≤ f.place
found-place con code f is = (found-from 1 code con.lists f is).0

pub allotted-long : (rule : Rule) (poll : Poll) (lot : List ℕ) (seats : ℕ) (a : List ℕ) → IsAllotment rule poll lot seats a → length a ≡ length poll.votes
allotted-long (divisors nth unit lot_rule) poll lot seats a is = is.shares.one_each
allotted-long hare poll lot seats a is = is.shares.one_each

pub allotted-sum : (rule : Rule) (poll : Poll) (lot : List ℕ) (seats : ℕ) (a : List ℕ) → IsAllotment rule poll lot seats a → sum a ≡ seats
allotted-sum (divisors nth unit lot_rule) poll lot seats a is = is.shares.whole
allotted-sum hare poll lot seats a is = is.shares.whole

-- a certified constituency has seats for the list
pub found-seats : (con : Constituency) (view : View) (code : List ℕ) (f : ListFound) → FitsView con view → view.certified ≡ true → list_found con code ≡ Some f → f.place ≤ length view.seats
found-seats con view code f fits certified is =
    let long = fits.seats certified in
    let r = found-from 1 code con.lists f is in
    omega (arith, long, r.0, r.1)

-- ---- the holders of its seats

pub holders-found : (view : View) (f : ListFound) (candidates seats : ℕ) (gone held : List ℕ) → candidates ≡ f.candidates → seats ≡ slice_index view.seats (f.place - 1) → gone ≡ held
    → holders candidates seats gone ≡ holders_of view f held
holders-found view f candidates seats gone held many given same =
    ap (λ (n : ℕ). holders n seats gone) many
    ∙ ap (λ (n : ℕ). holders f.candidates n gone) given
    ∙ ap (λ (g : List ℕ). holders f.candidates (slice_index view.seats (f.place - 1)) g) same

pub candidate-is : (f : ListFound) (candidates place : ℕ) → candidates ≡ f.candidates → 1 ≤ place → place ≤ candidates → has_candidate place f ≡ true
candidate-is f candidates place same first last =
    and_from (nat_le 1 place) (nat_le place f.candidates) (le-leb 1 place first) (le-leb place f.candidates (omega arith))

-- ---- the checks

-- the checks once the list was found
abbrev checks_at : Bool → Bool → Bool → Bool → Bool → List (Option Refusal)
checks_at candidate note certified stays holds =
    check candidate NoCandidate ∷ check note BadNote ∷ check certified NotCertified ∷ check stays AlreadyGone ∷ check holds NotHolder ∷ []

last-two : (candidate note certified stays holds : Bool) → candidate ≡ true → note ≡ true → certified ≡ true
    → first_refusal (checks_at candidate note certified stays holds) ≡ first_refusal (check stays AlreadyGone ∷ check holds NotHolder ∷ [])
last-two candidate note certified stays holds a b c =
    let last = check stays AlreadyGone ∷ check holds NotHolder ∷ [] in
    first_refusal-passed candidate NoCandidate (check note BadNote ∷ check certified NotCertified ∷ last) a
    ∙ first_refusal-passed note BadNote (check certified NotCertified ∷ last) b
    ∙ first_refusal-passed certified NotCertified last c

-- what Vacate comes to where the first checks pass
rest-is : (con : Constituency) (view : View) (code : List ℕ) (place : ℕ) (note : List ℕ) (f : ListFound) → list_found con code ≡ Some f → has_candidate place f ≡ true → is_note note ≡ true → view.certified ≡ true
    → (refusal : Option Refusal)
    → first_refusal (check (not (is_among place (gone_of view f.place))) AlreadyGone ∷ check (is_among place (holders_of view f (gone_of view f.place))) NotHolder ∷ []) ≡ refusal
    → vacate_result con view code place note ≡ refused_or refusal (vacancy view (Some f) place note)
rest-is con view code place note f is candidate good certified refusal gives =
    let stays = not (is_among place (gone_of view f.place)) in
    let holds = is_among place (holders_of view f (gone_of view f.place)) in
    ap (λ (o : Option ListFound). refused_or (first_refusal (vacate_checks view o place note)) (vacancy view o place note)) is
    ∙ ap (λ (r : Option Refusal). refused_or r (vacancy view (Some f) place note)) (last-two (has_candidate place f) (is_note note) view.certified stays holds candidate good certified ∙ gives)

pub vacates-gone : (con : Constituency) (view : View) (code : List ℕ) (place : ℕ) (note : List ℕ) (f : ListFound) → list_found con code ≡ Some f → has_candidate place f ≡ true → is_note note ≡ true → view.certified ≡ true
    → is_among place (gone_of view f.place) ≡ true → vacate_result con view code place note ≡ Err AlreadyGone
vacates-gone con view code place note f is candidate good certified gone =
    rest-is con view code place note f is candidate good certified (Some AlreadyGone)
    (ap (λ (b : Bool). first_refusal (check (not b) AlreadyGone ∷ check (is_among place (holders_of view f (gone_of view f.place))) NotHolder ∷ [])) gone)

pub vacates-no_holder : (con : Constituency) (view : View) (code : List ℕ) (place : ℕ) (note : List ℕ) (f : ListFound) → list_found con code ≡ Some f → has_candidate place f ≡ true → is_note note ≡ true → view.certified ≡ true
    → is_among place (gone_of view f.place) ≡ false → is_among place (holders_of view f (gone_of view f.place)) ≡ false → vacate_result con view code place note ≡ Err NotHolder
vacates-no_holder con view code place note f is candidate good certified stays none =
    rest-is con view code place note f is candidate good certified (Some NotHolder)
    (
    ap (λ (b : Bool). first_refusal (check (not b) AlreadyGone ∷ check (is_among place (holders_of view f (gone_of view f.place))) NotHolder ∷ [])) stays
    ∙ ap (λ (b : Bool). first_refusal (check b NotHolder ∷ [])) none
    )

pub vacates-seat : (con : Constituency) (view : View) (code : List ℕ) (place : ℕ) (note : List ℕ) (f : ListFound) → list_found con code ≡ Some f → has_candidate place f ≡ true → is_note note ≡ true → view.certified ≡ true
    → is_among place (gone_of view f.place) ≡ false → is_among place (holders_of view f (gone_of view f.place)) ≡ true
    → (list : ℕ) (next : Option ℕ) → list ≡ f.place → next ≡ newcomer (holders_of view f (gone_of view f.place)) (holders_of view f (place ∷ gone_of view f.place))
    → vacate_result con view code place note ≡ Ok (record { list = list; place = place; note = note }, next)
vacates-seat con view code place note f is candidate good certified stays holds list next place_is next_is =
    rest-is con view code place note f is candidate good certified None
    (
    ap (λ (b : Bool). first_refusal (check (not b) AlreadyGone ∷ check (is_among place (holders_of view f (gone_of view f.place))) NotHolder ∷ [])) stays
    ∙ ap (λ (b : Bool). first_refusal (check b NotHolder ∷ [])) holds
    )
    ∙ ap (λ (n : Option ℕ). Ok (record { list = f.place; place = place; note = note }, n)) (sym next_is)
    ∙ ap (λ (l : ℕ). Ok (record { list = l; place = place; note = note }, next)) (sym place_is)
