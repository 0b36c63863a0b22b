-- The totals of lists: one list and one constituency more, and the lines of what is left.
use Rattle.std.proofs.Common.{◌≡◌, ◌<◌, ◌≤◌, ◌∙◌, ℕ, zero, suc, ◌+◌, ◌*◌, List, [], ◌∷◌, ◌++◌, Bool, true, false, cond, Option, Some, None, is_some, drop, take, get_or, length, sum, refl, sym, ap, subst, ⊎_elim, append_assoc, drop-cons, arith}
use Rattle.std.specs.Prelude.{◌||◌, ◌&&◌, not, sum_by, if◌then◌else◌}
use Rattle.std.specs.BTreeMap.{Updates, get, is_at}
use Rattle.std.specs.List.{AllZip, filter, flat_map}
use Rattle.std.specs.Map.{lookup}
use Rattle.std.specs.Option.{option_map_or}
use Rattle.std.specs.Str.{bytes_eq}
use Rattle.std.proofs.Math.Bool.{or_assoc}
use Rattle.std.proofs.lemmas.Bool.{cases_lt}
use Rattle.std.proofs.lemmas.List.{drop_all, get_or_past}
use Rattle.std.proofs.lemmas.List.Elements.{filter_agree}
use Rattle.std.proofs.lemmas.List.Folds.{list_any-append}
use Rattle.std.proofs.lemmas.List.Sums.{sum_by_more}
use Rattle.std.proofs.lemmas.Map.Text.{is_eq-slice_cmp}
use Rattle.std.proofs.lemmas.Slice.Eq.{bytes_eq-Decides}
use Rattle.tally_setup.specs.Code.{code_cmp}
use Rattle.tally_setup.specs.Constituency.{Constituency, ListEntry}
use Rattle.tally_frac.specs.Limits.{most_votes}
use Rattle.tally_returns.specs.View.{FitsView, View}
use Rattle.tally_report_overview.specs.CountryText.{all_lists, certified_seats, country_line, firsts, list_line, seats_in, sum_of_code, sum_over, votes_in}
use Rattle.tally_report_overview.specs.internal.Totals.{AreAdded, AreAddedOver, AreTotals, AreWithin, AreWithinOf, Found, IsAdded, IsCount, IsCountWithin, IsCountWithinOf, IsCountedMore, Totals, has_code, most_of_con, lines_left, seats_at, stands, total_line, votes_at, without}
use Rattle.tally_report_overview.specs.declared.country.Counted.{Counted}
use Rattle.tally_report_overview.specs.declared.country.Total.{Total}

same-code : (a b : List ℕ) → bytes_eq a b ≡ bytes_eq b a
same-code a b = by_case (bytes_eq a b) (bytes_eq b a) (bytes_eq-Decides a b) (bytes_eq-Decides b a)
  where
    by_case : (s t : Bool) → (s ≡ true → a ≡ b) × (a ≡ b → s ≡ true) → (t ≡ true → b ≡ a) × (b ≡ a → t ≡ true) → s ≡ t
    by_case true true e f = refl
    by_case false false e f = refl
    by_case true false e f = sym (f.1 (sym (e.0 refl)))
    by_case false true e f = e.1 (sym (f.0 refl))

-- ---- one list more

-- what a look-up finds after a total is put at a code
module _ (added : List ℕ) (old new : Totals) (more : Total) (updates : Updates code_cmp old new added (Some more)) where
  found-after : (code : List ℕ) → get code_cmp new code ≡ cond (bytes_eq added code) (Some more) (get code_cmp old code)
  found-after code = updates.0 code ∙ ap (λ b. cond b (Some more) (get code_cmp old code)) (is_eq-slice_cmp added code)

  pub added-is : (seats votes : ℕ) → more.seats ≡ seats_at old added + seats → more.votes ≡ votes_at old added + votes → IsAdded added seats votes old new
  added-is seats votes s v = record {
    seats = λ code. ap (λ o. option_map_or (λ (t : Total). t.seats) o 0) (found-after code) ∙ seats-by code (bytes_eq added code) (bytes_eq-Decides added code).0;
    votes = λ code. ap (λ o. option_map_or (λ (t : Total). t.votes) o 0) (found-after code) ∙ votes-by code (bytes_eq added code) (bytes_eq-Decides added code).0;
    codes = λ code. ap is_some (found-after code) ∙ codes-by (bytes_eq added code) (get code_cmp old code);
  }
    where
      seats-by : (code : List ℕ) (b : Bool) → (b ≡ true → added ≡ code) → option_map_or (λ (t : Total). t.seats) (cond b (Some more) (get code_cmp old code)) 0 ≡ seats_at old code + (if b then seats else 0)
      seats-by code true same = s ∙ ap (λ k. seats_at old k + seats) (same refl)
      seats-by code false same = omega arith

      votes-by : (code : List ℕ) (b : Bool) → (b ≡ true → added ≡ code) → option_map_or (λ (t : Total). t.votes) (cond b (Some more) (get code_cmp old code)) 0 ≡ votes_at old code + (if b then votes else 0)
      votes-by code true same = v ∙ ap (λ k. votes_at old k + votes) (same refl)
      votes-by code false same = omega arith

      codes-by : (b : Bool) (o : Option Total) → is_some (cond b (Some more) o) ≡ (is_some o || b)
      codes-by true None = refl
      codes-by true (Some t) = refl
      codes-by false None = refl
      codes-by false (Some t) = refl

-- ---- places

-- what is left at a place is the item there and what is left after it
pub drop-at : {X : Type 0} (xs : List X) (i : ℕ) (x : X) → i < length xs → x ≡ get_or xs i x → drop i xs ≡ x ∷ drop (i + 1) xs
drop-at xs i x lt is =
    let next : suc i ≡ i + 1 = omega arith in
    drop-cons xs i x lt ∙ ap (λ k. get_or xs i x ∷ drop k xs) next ∙ ap (λ y. y ∷ drop (i + 1) xs) (sym is)

-- what holds of each pair holds of the one at a place
zip-at : {A B : Type 0} (R : A → B → Type 0) (xs : List A) (ys : List B) (i : ℕ) (d : A) (e : B) → AllZip R xs ys → i < length xs → R (get_or xs i d) (get_or ys i e)
zip-at R [] ys i d e all lt = absurd (omega (arith, lt))
zip-at R (x ∷ xs) [] i d e all lt = absurd all
zip-at R (x ∷ xs) (y ∷ ys) zero d e all lt = all.0
zip-at R (x ∷ xs) (y ∷ ys) (suc i) d e all lt = zip-at R xs ys i d e all.1 (omega (arith, lt))

pub fits-at : (cons : List Constituency) (views : List View) (i : ℕ) (con : Constituency) (view : View) → AllZip FitsView cons views → i < length cons → con ≡ get_or cons i con → view ≡ get_or views i view → FitsView con view
fits-at cons views i con view all lt con-is view-is =
    subst (λ v. FitsView con v) (sym view-is) (subst (λ k. FitsView k (get_or views i view)) (sym con-is) (zip-at FitsView cons views i con view all lt))

-- ---- the lists of a constituency

nothing : (b : Bool) (code : List ℕ) (lists : List ListEntry) → 0 ≡ (if b then 0 else 0) + sum_of_code code lists []
nothing true code [] = refl
nothing true code (list ∷ lists) = refl
nothing false code [] = refl
nothing false code (list ∷ lists) = refl

-- the first of the lists that are left, and the others
sum_of_code-next : (code : List ℕ) (lists : List ListEntry) (numbers : List ℕ) (i : ℕ) (list : ListEntry) → i < length lists → list ≡ get_or lists i list
    → sum_of_code code (drop i lists) (drop i numbers) ≡ (if bytes_eq list.code code then get_or numbers i 0 else 0) + sum_of_code code (drop (i + 1) lists) (drop (i + 1) numbers)
sum_of_code-next code lists numbers i list lt is = ap (λ ls. sum_of_code code ls (drop i numbers)) (drop-at lists i list lt is) ∙ ⊎_elim inside past (cases_lt i (length numbers))
  where
    inside : i < length numbers → sum_of_code code (list ∷ drop (i + 1) lists) (drop i numbers) ≡ (if bytes_eq list.code code then get_or numbers i 0 else 0) + sum_of_code code (drop (i + 1) lists) (drop (i + 1) numbers)
    inside few =
        let next : suc i ≡ i + 1 = omega arith in
        ap (sum_of_code code (list ∷ drop (i + 1) lists)) (drop-cons numbers i 0 few ∙ ap (λ k. get_or numbers i 0 ∷ drop k numbers) next)

    past : length numbers ≤ i → sum_of_code code (list ∷ drop (i + 1) lists) (drop i numbers) ≡ (if bytes_eq list.code code then get_or numbers i 0 else 0) + sum_of_code code (drop (i + 1) lists) (drop (i + 1) numbers)
    past few =
        ap (sum_of_code code (list ∷ drop (i + 1) lists)) (drop_all i numbers few)
        ∙ nothing (bytes_eq list.code code) code (drop (i + 1) lists)
        ∙ ap (λ n. (if bytes_eq list.code code then n else 0) + sum_of_code code (drop (i + 1) lists) []) (sym (get_or_past numbers i 0 few))
        ∙ ap (λ ns. (if bytes_eq list.code code then get_or numbers i 0 else 0) + sum_of_code code (drop (i + 1) lists) ns) (sym (drop_all (i + 1) numbers (omega (arith, few))))

if-same : {a b : List ℕ} {n m : ℕ} (code : List ℕ) → a ≡ b → n ≡ m → (if bytes_eq a code then n else 0) ≡ (if bytes_eq b code then m else 0)
if-same {b = b} {n = n} code same equal = ap (λ k. if bytes_eq k code then n else 0) same ∙ ap (λ k. if bytes_eq b code then k else 0) equal

-- one list more, and then the others
pub added-next : (lists : List ListEntry) (list_seats list_votes : List ℕ) (i : ℕ) (list : ListEntry) (code : List ℕ) (seats votes : ℕ) (old mid new : Totals)
    → i < length lists → list ≡ get_or lists i list → code ≡ list.code → seats ≡ get_or list_seats i 0 → votes ≡ get_or list_votes i 0 → IsAdded code seats votes old mid
    → AreAdded (drop (i + 1) lists) (drop (i + 1) list_seats) (drop (i + 1) list_votes) mid new → AreAdded (drop i lists) (drop i list_seats) (drop i list_votes) old new
added-next lists list_seats list_votes i list code seats votes old mid new lt is code-is seats-are votes-are one rest = record {
  seats = λ q. omega (arith, rest.seats q, one.seats q, sum_of_code-next q lists list_seats i list lt is, if-same q code-is seats-are);
  votes = λ q. omega (arith, rest.votes q, one.votes q, sum_of_code-next q lists list_votes i list lt is, if-same q code-is votes-are);
  codes = λ q.
      rest.codes q
      ∙ ap (λ b. b || stands q (drop (i + 1) lists)) (one.codes q)
      ∙ or_assoc (has_code old q) (bytes_eq code q) (stands q (drop (i + 1) lists))
      ∙ ap (λ k. has_code old q || (bytes_eq k q || stands q (drop (i + 1) lists))) code-is
      ∙ ap (λ ls. has_code old q || stands q ls) (sym (drop-at lists i list lt is));
}

-- ---- bounds

if-within : (b : Bool) (n most : ℕ) → n ≤ most → (if b then n else 0) ≤ most
if-within true n most le = le
if-within false n most le = omega arith

pub added-within : (code : List ℕ) (seats votes most : ℕ) (old new : Totals) → seats ≤ most → votes ≤ most → IsAdded code seats votes old new → AreWithinOf most old new
added-within code seats votes most old new few-seats few-votes one = record {
  seats = λ q. omega (arith, one.seats q, if-within (bytes_eq code q) seats most few-seats);
  votes = λ q. omega (arith, one.votes q, if-within (bytes_eq code q) votes most few-votes);
}

pub votes-more : (i : ℕ) (first old new : Totals) → AreWithinOf (i * most_votes) first old → AreWithinOf most_votes old new → AreWithinOf ((i + 1) * most_votes) first new
votes-more i first old new before more = record {
  seats = λ q. omega (arith, before.seats q, more.seats q);
  votes = λ q. omega (arith, before.votes q, more.votes q);
}

pub con-more : (i : ℕ) (old new : Totals) → AreWithin (i * most_of_con) old → AreWithinOf most_of_con old new → AreWithin ((i + 1) * most_of_con) new
con-more i old new before more = record {
  seats = λ q. omega (arith, before.seats q, more.seats q);
  votes = λ q. omega (arith, before.votes q, more.votes q);
}

pub count-within : (i : ℕ) (old new : Counted) → IsCountWithin (i * most_of_con) old → IsCountWithinOf most_of_con old new → IsCountWithin ((i + 1) * most_of_con) new
count-within i old new before more = record {
  certified = omega (arith, before.certified, more.certified);
  stations = omega (arith, before.stations, more.stations);
  closed = omega (arith, before.closed, more.closed);
  seats = omega (arith, before.seats, more.seats);
  votes = omega (arith, before.votes, more.votes);
}

-- ---- what is counted

pub count-more : (views : List View) (i : ℕ) (view : View) (old new : Counted) → i < length views → view ≡ get_or views i view → IsCount (take i views) old → IsCountedMore view old new → IsCount (take (i + 1) views) new
count-more views i view old new lt is before more = record {
  certified = step (λ (v : View). cond v.certified 1 0) more.certified before.certified;
  stations = step (λ (v : View). v.stations) more.stations before.stations;
  closed = step (λ (v : View). v.closed) more.closed before.closed;
  seats = step (λ (v : View). sum (certified_seats v)) more.seats before.seats;
  votes = step (λ (v : View). sum v.votes) more.votes before.votes;
}
  where
    step : (f : View → ℕ) {o n : ℕ} → n ≡ o + f view → o ≡ sum_by f (take i views) → n ≡ sum_by f (take (i + 1) views)
    step f one so-far = one ∙ ap (λ k. k + f view) so-far ∙ ap (λ v. sum_by f (take i views) + f v) is ∙ sym (sum_by_more f views i view lt)

-- ---- all constituencies

pub over-next : (con : Constituency) (cons : List Constituency) (view : View) (views : List View) (old mid new : Totals)
    → AreAdded con.lists (certified_seats view) view.votes old mid → AreAddedOver cons views mid new → AreAddedOver (con ∷ cons) (view ∷ views) old new
over-next con cons view views old mid new one rest = record {
  seats = λ code. omega (arith, one.seats code, rest.seats code);
  votes = λ code. omega (arith, one.votes code, rest.votes code);
  codes = λ code.
      rest.codes code
      ∙ ap (λ b. b || stands code (all_lists cons)) (one.codes code)
      ∙ or_assoc (has_code old code) (stands code con.lists) (stands code (all_lists cons))
      ∙ ap (λ b. has_code old code || b) (sym (list_any-append (λ (list : ListEntry). bytes_eq list.code code) con.lists (all_lists cons)));
}

pub over-at : (cons : List Constituency) (views : List View) (i : ℕ) (con : Constituency) (view : View) (old mid new : Totals)
    → i < length cons → i < length views → con ≡ get_or cons i con → view ≡ get_or views i view → AreAdded con.lists (certified_seats view) view.votes old mid
    → AreAddedOver (drop (i + 1) cons) (drop (i + 1) views) mid new → AreAddedOver (drop i cons) (drop i views) old new
over-at cons views i con view old mid new lt few con-is view-is one rest =
    subst (λ ks. AreAddedOver ks (drop i views) old new) (sym (drop-at cons i con lt con-is)) (
    subst (λ vs. AreAddedOver (con ∷ drop (i + 1) cons) vs old new) (sym (drop-at views i view few view-is))
    (over-next con (drop (i + 1) cons) view (drop (i + 1) views) old mid new one rest))

-- no constituency is left
pub over-none : (cons : List Constituency) (views : List View) (i : ℕ) (totals : Totals) → length cons ≤ i → AreAddedOver (drop i cons) (drop i views) totals totals
over-none cons views i totals le = subst (λ ks. AreAddedOver ks (drop i views) totals totals) (sym (drop_all i cons le)) none
  where
    or-false : (b : Bool) → b ≡ (b || false)
    or-false true = refl
    or-false false = refl

    none : AreAddedOver [] (drop i views) totals totals
    none = record { seats = λ q. omega arith; votes = λ q. omega arith; codes = λ q. or-false (has_code totals q) }

-- nothing is known of any list at first
module _ (empty : Totals) (is : empty.entries ≡ []) where
  at-first : (code : List ℕ) → get code_cmp empty code ≡ None
  at-first code = ap (lookup (is_at (code_cmp code))) is

  no-seats : (code : List ℕ) → seats_at empty code ≡ 0
  no-seats code = ap (λ o. option_map_or (λ (t : Total). t.seats) o 0) (at-first code)

  no-votes : (code : List ℕ) → votes_at empty code ≡ 0
  no-votes code = ap (λ o. option_map_or (λ (t : Total). t.votes) o 0) (at-first code)

  pub totals-from : (cons : List Constituency) (views : List View) (new : Totals) → AreAddedOver cons views empty new → AreTotals cons views new
  totals-from cons views new over = record {
    seats = λ q. omega (arith, over.seats q, no-seats q);
    votes = λ q. omega (arith, over.votes q, no-votes q);
    codes = λ q. over.codes q ∙ ap (λ o. is_some o || stands q (all_lists cons)) (at-first q);
  }

  pub within-first : (most : ℕ) → AreWithin most empty
  within-first most = record { seats = λ q. omega (arith, no-seats q); votes = λ q. omega (arith, no-votes q) }

-- ---- the lines

pub without-is : (code : List ℕ) (old new : Totals) → Updates code_cmp old new code None → get code_cmp new ≡ without code (get code_cmp old)
without-is code old new updates = λ i q. (updates.0 q ∙ ap (λ b. cond b None (get code_cmp old q)) (is_eq-slice_cmp code q)) i

filter-both : (p q : ListEntry → Bool) (xs : List ListEntry) → filter p (filter q xs) ≡ filter (λ x. q x && p x) xs
filter-both p q [] = refl
filter-both p q (x ∷ xs) = by_case (q x) (filter-both p q xs)
  where
    by_case : (b : Bool) → filter p (filter q xs) ≡ filter (λ (y : ListEntry). q y && p y) xs
        → filter p (cond b (x ∷ filter q xs) (filter q xs)) ≡ cond (b && p x) (x ∷ filter (λ (y : ListEntry). q y && p y) xs) (filter (λ (y : ListEntry). q y && p y) xs)
    by_case true e = ap (λ r. cond (p x) (x ∷ r) r) e
    by_case false e = e

abbrev keeps : Found → ListEntry → Bool
keeps found list = is_some (found list.code)

-- those of another code
abbrev differs : ListEntry → ListEntry → Bool
differs list other = not (bytes_eq other.code list.code)

-- the line of a list of which something is found, and then what is left
pub line-next : (list : ListEntry) (found after : Found) (total : Total) (old new : List ℕ) → after ≡ without list.code found → found list.code ≡ Some total
    → new ≡ old ++ list_line list total.seats total.votes → (rest : List ListEntry) → new ++ lines_left after rest ≡ old ++ lines_left found (list ∷ rest)
line-next list found after total old new left is text rest =
    ap (λ f. new ++ lines_left f rest) left
    ∙ ap (λ t. t ++ lines_left (without list.code found) rest) text
    ∙ append_assoc old (list_line list total.seats total.votes) (lines_left (without list.code found) rest)
    ∙ ap (λ o. old ++ (total_line list o ++ lines_left (without list.code found) rest)) (sym is)

-- a list of which something is found is the first of its code that is left
lines-kept : (line : ListEntry → List ℕ) (found : Found) → ((list : ListEntry) → keeps found list ≡ true → total_line list (found list.code) ≡ line list)
    → (lists : List ListEntry) → lines_left found lists ≡ flat_map line (filter (keeps found) (firsts lists))
lines-kept line found is [] = refl
lines-kept line found is (x ∷ xs) =
    ap (λ r. total_line x (found x.code) ++ r) (lines-kept line (without x.code found) is-left xs ∙ ap (flat_map line) (sym same))
    ∙ by_case (found x.code) refl
  where
    by_bool : (o : Option Total) (b : Bool) → (not b && is_some o) ≡ is_some (if b then None else o)
    by_bool o true = refl
    by_bool o false = refl

    same : filter (keeps found) (filter (differs x) (firsts xs)) ≡ filter (keeps (without x.code found)) (firsts xs)
    same =
        filter-both (keeps found) (differs x) (firsts xs)
        ∙ filter_agree (λ (o : ListEntry). differs x o && keeps found o) (keeps (without x.code found))
        (λ o. ap (λ b. not b && keeps found o) (same-code o.code x.code) ∙ by_bool (found o.code) (bytes_eq x.code o.code)) (firsts xs)

    left-by : (list : ListEntry) (b : Bool) → is_some (if b then None else found list.code) ≡ true → total_line list (if b then None else found list.code) ≡ line list
    left-by list true e = cc
    left-by list false e = is list e

    is-left : (list : ListEntry) → keeps (without x.code found) list ≡ true → total_line list (without x.code found list.code) ≡ line list
    is-left list e = left-by list (bytes_eq x.code list.code) e

    by_case : (o : Option Total) → found x.code ≡ o
        → total_line x o ++ flat_map line (filter (keeps found) (filter (differs x) (firsts xs))) ≡ flat_map line (cond (is_some o) (x ∷ filter (keeps found) (filter (differs x) (firsts xs))) (filter (keeps found) (filter (differs x) (firsts xs))))
    by_case None e = refl
    by_case (Some t) e = ap (λ r. r ++ flat_map line (filter (keeps found) (filter (differs x) (firsts xs)))) (ap (total_line x) (sym e) ∙ is x (ap is_some e))

-- where something is found of each, none is left out
all-kept : (found : Found) (lists : List ListEntry) → ((code : List ℕ) → stands code lists ≡ true → is_some (found code) ≡ true) → filter (keeps found) (firsts lists) ≡ firsts lists
all-kept found [] each = refl
all-kept found (x ∷ xs) each =
    ap (λ b. cond b (x ∷ filter (keeps found) (filter (differs x) (firsts xs))) (filter (keeps found) (filter (differs x) (firsts xs)))) (each x.code here)
    ∙ ap (λ r. x ∷ r) (commute ∙ ap (filter (differs x)) (all-kept found xs (λ code e. each code (later code e))))
  where
    here : stands x.code (x ∷ xs) ≡ true
    here = ap (λ b. b || stands x.code xs) ((bytes_eq-Decides x.code x.code).1 refl)

    or-true : (b : Bool) → (b || true) ≡ true
    or-true true = refl
    or-true false = refl

    later : (code : List ℕ) → stands code xs ≡ true → stands code (x ∷ xs) ≡ true
    later code e = ap (λ b. bytes_eq x.code code || b) e ∙ or-true (bytes_eq x.code code)

    and-flip : (a b : Bool) → (a && b) ≡ (b && a)
    and-flip true true = refl
    and-flip true false = refl
    and-flip false true = refl
    and-flip false false = refl

    commute : filter (keeps found) (filter (differs x) (firsts xs)) ≡ filter (differs x) (filter (keeps found) (firsts xs))
    commute =
        filter-both (keeps found) (differs x) (firsts xs)
        ∙ filter_agree (λ (o : ListEntry). differs x o && keeps found o) (λ (o : ListEntry). keeps found o && differs x o) (λ o. and-flip (differs x o) (keeps found o)) (firsts xs)
        ∙ sym (filter-both (differs x) (keeps found) (firsts xs))

-- the lines of the totals are those of the country
pub lines_are : (cons : List Constituency) (views : List View) (totals : Totals) → AreTotals cons views totals
    → lines_left (get code_cmp totals) (all_lists cons) ≡ flat_map (country_line cons views) (firsts (all_lists cons))
lines_are cons views totals are =
    lines-kept (country_line cons views) (get code_cmp totals) line-is (all_lists cons)
    ∙ ap (flat_map (country_line cons views)) (all-kept (get code_cmp totals) (all_lists cons) (λ code e. are.codes code ∙ e))
  where
    by_case : (list : ListEntry) (o : Option Total) → is_some o ≡ true
        → option_map_or (λ (t : Total). t.seats) o 0 ≡ sum_over (seats_in list.code) cons views → option_map_or (λ (t : Total). t.votes) o 0 ≡ sum_over (votes_in list.code) cons views
        → total_line list o ≡ country_line cons views list
    by_case list None e s v = cc
    by_case list (Some t) e s v = ap (λ n. list_line list n t.votes) s ∙ ap (list_line list (sum_over (seats_in list.code) cons views)) v

    line-is : (list : ListEntry) → keeps (get code_cmp totals) list ≡ true → total_line list (get code_cmp totals list.code) ≡ country_line cons views list
    line-is list e = by_case list (get code_cmp totals list.code) e (are.seats list.code) (are.votes list.code)
