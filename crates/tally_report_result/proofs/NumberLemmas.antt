-- No number of a result is a float, so its text is known.
use Rattle.std.proofs.Common.{◌≡◌, ◌∙◌, ℕ, zero, suc, ◌+◌, ◌-◌, List, [], ◌∷◌, ◌++◌, Bool, true, false, ◌||◌, Option, Some, None, Result, Ok, Err, IfOk, String, Global, map, replicate, string_bytes, refl, sym, ap, subst, length}
use Rattle.std.specs.Prelude.{if◌then◌else◌, slice_index, slice_index_or}
use Rattle.std.specs.declared.alloc.AllocError.{AllocError}
use Rattle.serde_json.specs.Data.{Data, null}
use Rattle.serde_json.specs.View.{items_of}
use Rattle.serde_json.specs.Written.{compact_text, has_float, items_have_float}
use Rattle.tally_setup.specs.Constituency.{Constituency, ListEntry}
use Rattle.tally_law.specs.Poll.{Poll}
use Rattle.tally_machine_law.specs.Certification.{gone_of}
use Rattle.tally_machine_law.specs.Holders.{holders}
use Rattle.tally_machine_law.specs.Outcome.{poll_in}
use Rattle.tally_returns.specs.PastSeats.{PastSeats}
use Rattle.tally_returns.specs.View.{View}
use Rattle.tally_report.specs.declared.status.ProvisionalStatus.{ProvisionalStatus}
use Rattle.tally_report.specs.declared.status.ProvisionalStatus.TheVariants as status
use Rattle.tally_report_result.specs.Members.{result_value}
use Rattle.tally_report_result.specs.Parts.{ResultParts, shows_quotas}
use Rattle.tally_report_result.specs.Result.{AreResults}
use Rattle.tally_report_result.specs.Values.{all_holders, array_of, award_value, code_value, each_list, empty_seat, gone_value, group_codes, holder_value, holder_values, list_object, list_values, member_code, past_value, quota_value, quota_values, seats_value, short_value, values_from, whole, wholes}

-- ---- arrays

abbrev pub AreFree : List Data → Type 0
AreFree values = items_have_float (items_of values) ≡ false

first : (a b : Bool) → (a || b) ≡ false → a ≡ false
first false b is = refl
first true b is = is

second : (a b : Bool) → (a || b) ≡ false → b ≡ false
second false b is = is
second true b is = absurd (let no : true ≡ false = is in cc)

neither : (a b : Bool) → a ≡ false → b ≡ false → (a || b) ≡ false
neither a b p q = ap (λ (x : Bool). x || b) p ∙ q

both : (xs ys : List Data) → AreFree xs → AreFree ys → AreFree (xs ++ ys)
both [] ys p q = q
both (x ∷ xs) ys p q =
    neither (has_float x) (items_have_float (items_of (xs ++ ys))) (first (has_float x) (items_have_float (items_of xs)) p)
    (both xs ys (second (has_float x) (items_have_float (items_of xs)) p) q)

each : {T : Type 0} (f : T → Data) → ((x : T) → has_float (f x) ≡ false) → (xs : List T) → AreFree (map f xs)
each f free [] = refl
each {T} f free (x ∷ xs) = neither (has_float (f x)) (items_have_float (items_of (map f xs))) (free x) (each f free xs)

again : (n : ℕ) (d : Data) → has_float d ≡ false → AreFree (replicate n d)
again zero d free = refl
again (suc n) d free = neither (has_float d) (items_have_float (items_of (replicate n d))) free (again n d free)

of_lists : (f : ℕ → ListEntry → List Data) → ((place : ℕ) (list : ListEntry) → AreFree (f place list)) → (place : ℕ) (lists : List ListEntry) → AreFree (values_from f place lists)
of_lists f free place [] = refl
of_lists f free place (list ∷ lists) = both (f place list) (values_from f (place + 1) lists) (free place list) (of_lists f free (place + 1) lists)

if_free : (b : Bool) (xs : List Data) → AreFree xs → AreFree (if b then xs else [])
if_free true xs free = free
if_free false xs free = refl

-- ---- the values of a result

group_free : (con : Constituency) (state : ProvisionalStatus) → AreFree (group_codes con state)
group_free con status.Certified = refl
group_free con status.Open = refl
group_free con (status.LotNeeded group in_question) =
    of_lists (member_code group) (λ place list. if_free (slice_index_or group place false) (_ ∷ []) refl) 0 con.lists
group_free con status.NoEligible = refl

seats_free : (b : Bool) (n : ℕ) → has_float (if b then whole n else null) ≡ false
seats_free true n = refl
seats_free false n = refl

short_free : (o : Option ℕ) → has_float (short_value o) ≡ false
short_free None = refl
short_free (Some n) = refl

list_free : (con : Constituency) (view : View) (parts : ResultParts) (place : ℕ) (list : ListEntry) → AreFree (each_list con view parts place list)
list_free con view parts place list =
    let seats = seats_free view.certified (slice_index view.seats place) in
    let short = short_free (slice_index_or parts.short place None) in
    let s = has_float (seats_value view place) in
    let t = has_float (short_value (slice_index_or parts.short place None)) in
    neither (s || (t || false)) false (neither s (t || false) seats (neither t false short refl)) refl

quota_free : (poll : Poll) (seats : ℕ) (held : List ℕ) (place : ℕ) (list : ListEntry) → AreFree (quota_value poll seats held place list)
quota_free poll seats held place list = if_free (slice_index_or poll.eligible place false) (_ ∷ []) refl

quotas_free : (con : Constituency) (view : View) (parts : ResultParts) → AreFree (quota_values con view parts)
quotas_free con view parts =
    if_free (shows_quotas con parts.status) (list_values (quota_value (poll_in con view) con.seats parts.seats) con)
    (of_lists (quota_value (poll_in con view) con.seats parts.seats) (quota_free (poll_in con view) con.seats parts.seats) 0 con.lists)

holder_free : (view : View) (place : ℕ) (list : ListEntry) → AreFree (holder_values view place list)
holder_free view place list =
    let seats = slice_index view.seats place in
    let held = holders (length list.candidates) seats (gone_of view (place + 1)) in
    both (map (holder_value list) held) (replicate (seats - length held) (empty_seat list)) (each (holder_value list) (λ held. refl) held) (again (seats - length held) (empty_seat list) refl)

holders_free : (con : Constituency) (view : View) → AreFree (all_holders con view)
holders_free con view = if_free view.certified (list_values (holder_values view) con) (of_lists (holder_values view) (holder_free view) 0 con.lists)

past_free : (past : PastSeats) → has_float (past_value past) ≡ false
past_free past = neither (has_float (wholes past.seats)) false (each whole (λ n. refl) past.seats) refl

eight : (a b c d e f g h : Bool) → a ≡ false → b ≡ false → c ≡ false → d ≡ false → e ≡ false → f ≡ false → g ≡ false → h ≡ false → (a || (b || (c || (d || (e || (f || (g || (h || false)))))))) ≡ false
eight a b c d e f g h pa pb pc pd pe pf pg ph =
    neither a _ pa (neither b _ pb (neither c _ pc (neither d _ pd (neither e _ pe (neither f _ pf (neither g _ pg (neither h false ph refl)))))))

pub result_free : (con : Constituency) (view : View) (parts : ResultParts) → has_float (result_value con view parts) ≡ false
result_free con view parts =
    eight _ _ _ _ _ _ _ _
    (each (award_value con) (λ award. refl) parts.awards)
    (each (gone_value con) (λ gone. refl) view.gone)
    (group_free con parts.status)
    (holders_free con view)
    (of_lists (each_list con view parts) (list_free con view parts) 0 con.lists)
    (each (code_value con) (λ place. refl) view.lot)
    (each past_value past_free view.past)
    (quotas_free con view parts)

pub results_free : (cons : List Constituency) (views : List View) (values : List Data) → AreResults cons views values → AreFree values
results_free [] [] [] are = refl
results_free (con ∷ cons) (view ∷ views) (value ∷ values) are =
    neither (has_float value) (items_have_float (items_of values)) (ap has_float are.0.2 ∙ result_free con view are.0.0) (results_free cons views values are.1)
results_free [] [] (value ∷ values) are = absurd are
results_free [] (view ∷ views) values are = absurd are
results_free (con ∷ cons) [] values are = absurd are
results_free (con ∷ cons) (view ∷ views) [] are = absurd are
