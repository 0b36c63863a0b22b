-- The most seats of a list, and the columns of its quotients.
use Rattle.std.proofs.Common.{◌≡◌, ◌≤◌, ◌∙◌, ℕ, zero, suc, ◌+◌, List, [], ◌∷◌, ◌++◌, true, Result, Ok, Err, IfOk, get_or, sym, ap, subst, append_assoc, arith}
use Rattle.std.specs.Prelude.{max, sum}
use Rattle.std.specs.List.{flat_map, range_with_len}
use Rattle.std.proofs.lemmas.Grind.{flat_map-append}
use Rattle.std.proofs.lemmas.List.{append-nil}
use Rattle.std.proofs.lemmas.List.Sums.{sum_by-cons}
use Rattle.tally_law.specs.Allotment.{IsAllotment, Rule, divisors, hare}
use Rattle.tally_law.specs.Poll.{Poll}
use Rattle.tally_machine_law.specs.Outcome.{HasSeats, IsLawfulView, poll_in, rule_in}
use Rattle.tally_returns.specs.View.{View}
use Rattle.tally_setup.specs.Constituency.{Constituency, ListEntry}
use Rattle.tally_report_lines.specs.Columns.{code_width, left_cell, line_end}
use Rattle.tally_report.specs.QuotientsText.{greatest_of, quotient_column}

-- one more number
pub most-more : (ns : List ℕ) (n : ℕ) → greatest_of (ns ++ n ∷ []) ≡ max (greatest_of ns) n
most-more [] n = omega arith
most-more (x ∷ ns) n = let e = most-more ns n in omega (arith, e)

pub most-sum : (ns : List ℕ) → greatest_of ns ≤ sum ns
most-sum [] = omega arith
most-sum (n ∷ ns) = omega (arith, sum_by-cons (λ n. n) n ns, most-sum ns)

range-more : (a n : ℕ) → range_with_len a (n + 1) ≡ range_with_len a n ++ (a + n) ∷ []
range-more a zero = let s : a + 0 ≡ a = omega arith in sym (ap (λ k. k ∷ []) s)
range-more a (suc n) =
    let s : suc n + 1 ≡ suc (n + 1) = omega arith in
    let t : a + 1 + n ≡ a + suc n = omega arith in
    ap (range_with_len a) s ∙ ap (λ r. a ∷ r) (range-more (a + 1) n ∙ ap (λ k. range_with_len (a + 1) n ++ k ∷ []) t)

-- one more column
pub columns-more : (column : ℕ → List ℕ) (n : ℕ) → flat_map column (range_with_len 1 (n + 1)) ≡ flat_map column (range_with_len 1 n) ++ column (n + 1)
columns-more column n =
    let s : 1 + n ≡ n + 1 = omega arith in
    ap (flat_map column) (range-more 1 n)
    ∙ flat_map-append column (range_with_len 1 n) ((1 + n) ∷ [])
    ∙ ap (λ c. flat_map column (range_with_len 1 n) ++ c) (append-nil (column (1 + n)) ∙ ap column s)

allotted-sum : (rule : Rule) (poll : Poll) (lot : List ℕ) (seats : ℕ) (a : List ℕ) → IsAllotment rule poll lot seats a → sum a ≡ seats
allotted-sum (divisors nth unit lot_rule) poll lot seats a is = is.shares.whole
allotted-sum hare poll lot seats a is = is.shares.whole

-- a list of a lawful view has no more seats than the constituency
pub most-lawful : (con : Constituency) (view : View) → con.seats ≤ 500 → view.certified ≡ true → IsLawfulView con view → greatest_of view.seats ≤ 500
most-lawful con view few certified lawful =
    let has : HasSeats con view true = subst (HasSeats con view) certified lawful.seats in
    omega (arith, few, most-sum view.seats, allotted-sum (rule_in con) (poll_in con view) view.lot con.seats view.seats has.2)

pub IfOk-then : {T E : Type 0} {P Q : T → Type 0} (r : Result T E) → IfOk r P → ((x : T) → P x → Q x) → IfOk r Q
IfOk-then (Ok x) p f = f x p
IfOk-then (Err e) p f = tt

three : (before a b c one two after : List ℕ) → one ≡ before ++ a → two ≡ one ++ b → after ≡ two ++ c → after ≡ before ++ (a ++ b ++ c)
three before a b c one two after first second third =
    third
    ∙ ap (λ t. t ++ c) (second ∙ ap (λ t. t ++ b) first ∙ append_assoc before a b)
    ∙ append_assoc before (a ++ b) c

-- the columns of the list at a place
abbrev pub columns : (ℕ → ℕ) → ℕ → ℕ → View → ℕ → ListEntry → List ℕ
columns nth unit last view place list =
    left_cell code_width list.code ++ flat_map (quotient_column nth unit (get_or view.votes place 0) (get_or view.seats place 0)) (range_with_len 1 last) ++ line_end

pub columns_are : (nth : ℕ → ℕ) (unit last : ℕ) (view : View) (place : ℕ) (list : ListEntry) (votes seats : ℕ) (code before one two after : List ℕ)
    → votes ≡ get_or view.votes place 0 → seats ≡ get_or view.seats place 0 → code ≡ list.code
    → one ≡ before ++ left_cell code_width code → two ≡ one ++ flat_map (quotient_column nth unit votes seats) (range_with_len 1 last) → after ≡ two ++ line_end
    → after ≡ before ++ columns nth unit last view place list
columns_are nth unit last view place list votes seats code before one two after votes_is seats_is code_is first second third =
    three before (left_cell code_width code) (all votes seats) line_end one two after first second third
    ∙ ap (λ c. before ++ (left_cell code_width c ++ all votes seats ++ line_end)) code_is
    ∙ ap (λ v. before ++ (left_cell code_width list.code ++ all v seats ++ line_end)) votes_is
    ∙ ap (λ s. before ++ (left_cell code_width list.code ++ all (get_or view.votes place 0) s ++ line_end)) seats_is
  where
    all : ℕ → ℕ → List ℕ
    all v s = flat_map (quotient_column nth unit v s) (range_with_len 1 last)
