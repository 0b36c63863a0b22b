-- The rows of a lawful state can be read again, and are judged to be those of one.
use Rattle.std.proofs.Common.{◌≡◌, ◌<◌, ◌≤◌, ◌^◌, ◌-◌, ◌&&◌, ◌⊎◌, inl, inr, ℕ, zero, suc, Bool, true, false, List, [], ◌∷◌, length, get_or, true≢false, refl, sym, subst, ◌∙◌, arith}
use Rattle.std.specs.Prelude.{sum, nat_le, slice_index, slice_get}
use Rattle.std.specs.Option.{option_map_or}
use Rattle.std.specs.List.{AllByRecursion}
use Rattle.std.proofs.lemmas.Bool.{and_parts, false≢true, leb-true, leb-false}
use Rattle.std.proofs.lemmas.List.Sums.{sum_by-cons}
use Rattle.std.proofs.lemmas.List.Elements.{recursion_from_All}
use Rattle.sqlite_keyed.proofs.ListLemmas.{all_weaker}
use Rattle.tally_setup.specs.Constituency.{Constituency, ListEntry}
use Rattle.tally_setup.specs.Limits.{IsConstituency, IsListEntry}
use Rattle.tally_setup.specs.Text.{is_note}
use Rattle.std.specs.Str.{is_utf8}
use Rattle.tally_frac.specs.ListSet.{has_place}
use Rattle.tally_law.specs.LotNeed.{IsLotTaken}
use Rattle.tally_machine_law.specs.Outcome.{HasSeats, IsLawfulGone, IsLawfulPast, IsLawfulView, HasLawfulLot, poll_in, rule_in}
use Rattle.tally_machine_law.proofs.CertificationLemmas.{group-within}
use Rattle.tally_machine_law.proofs.VacancyLemmas.{allotted-sum}
use Rattle.tally_returns.specs.GoneCandidate.{GoneCandidate}
use Rattle.tally_returns.specs.PastSeats.{PastSeats}
use Rattle.tally_returns.specs.View.{View}
use Rattle.tally_store_schema.specs.Values.{number_of}
use Rattle.tally_store_rows.proofs.ItemLemmas.{number_reads, IsRead}
use Rattle.tally_store_rows.proofs.ConLemmas.{IsReadableGone, IsReadablePast, IsReadableView}
use Rattle.tally_store_rows.proofs.LawfulLemmas.{note_is_text}

-- ---- small numbers

each_small : (ns : List ℕ) → sum ns < 2 ^ 32 → AllByRecursion (IsRead number_of) ns
each_small [] h = tt
each_small (n ∷ ns) h = (number_reads n (omega (arith, h, sum_by-cons (λ (x : ℕ). x) n ns)), each_small ns (omega (arith, h, sum_by-cons (λ (x : ℕ). x) n ns)))

-- ---- the lot

place_small : (group : List Bool) (lists place : ℕ) → ((l : ℕ) → lists ≤ l → get_or group l false ≡ false) → lists ≤ 60 → has_place group place ≡ true → IsRead number_of place
place_small group lists zero within few h = number_reads zero (omega arith)
place_small group lists (suc l) within few h = go (nat_le lists l) refl
  where
    go : (b : Bool) → nat_le lists l ≡ b → IsRead number_of (suc l)
    go true past = absurd (true≢false (sym h ∙ within l (leb-true lists l past)))
    go false low = number_reads (suc l) (omega (arith, few, leb-false lists l low))

all_places : (group : List Bool) (lot : List ℕ) → ((i : ℕ) → i < length lot → has_place group (slice_index lot i) ≡ true) → AllByRecursion (λ place. has_place group place ≡ true) lot
all_places group [] h = tt
all_places group (place ∷ lot) h = (h 0 (omega arith), all_places group lot (λ i low. h (suc i) (omega (arith, low))))

lot_small : (con : Constituency) (v : View) → IsConstituency con → length v.votes ≡ length con.lists → (v.lot ≡ []) ⊎ HasLawfulLot con v → AllByRecursion (IsRead number_of) v.lot
lot_small con v limits long (inl none) = subst (AllByRecursion (IsRead number_of)) (sym none) tt
lot_small con v limits long (inr may) = taken may.2
  where
    taken : IsLotTaken (rule_in con) (poll_in con v) con.seats v.lot → AllByRecursion (IsRead number_of) v.lot
    taken (inl decided) = subst (AllByRecursion (IsRead number_of)) (sym decided.1) tt
    taken (inr need) =
        all_weaker _ (IsRead number_of) (λ place h. place_small need.0 (length v.votes) place (group-within (rule_in con) (poll_in con v) con.seats need.0 need.1 need.2) (omega (arith, long, limits.lists)) h) v.lot (all_places need.0 v.lot need.3.no_other)

-- ---- those who are gone

found_list : {X : Type 0} (P : X → Type 0) (xs : List X) (i : ℕ) (q : X → Bool) → AllByRecursion P xs → option_map_or q (slice_get xs i) false ≡ true → (x : X) × P x × (q x ≡ true) × (i < length xs)
found_list P [] i q all h = absurd (false≢true h)
found_list P (x ∷ xs) zero q all h = (x, all.0, h, omega arith)
found_list P (x ∷ xs) (suc i) q all h = let it = found_list P xs i q all.1 h in (it.0, it.1, it.2, omega (arith, it.3))

gone_small : (con : Constituency) (g : GoneCandidate) → IsConstituency con → IsLawfulGone con g → IsReadableGone g
gone_small con g limits h =
    let parts = and_parts (nat_le 1 g.list) _ h.candidate in
    let it = found_list IsListEntry con.lists (g.list - 1) (λ (l : ListEntry). nat_le 1 g.place && nat_le g.place (length l.candidates)) (recursion_from_All IsListEntry con.lists limits.each_list) parts.1 in
    let place = and_parts (nat_le 1 g.place) (nat_le g.place (length it.0.candidates)) it.2 in
    record {
      list = omega (arith, it.3, limits.lists);
      place = omega (arith, leb-true g.place (length it.0.candidates) place.1, it.1.candidates);
      note = (and_parts (is_note g.note) (is_utf8 g.note) h.note).1;
    }

-- ---- certificates that were reopened

past_small : (con : Constituency) (edition : ℕ) (p : PastSeats) → IsConstituency con → edition ≤ 9999 → IsLawfulPast con edition p → IsReadablePast (length con.lists) p
past_small con edition p limits last h = record { edition = omega (arith, h.before, last); seats = each_small p.seats (omega (arith, h.exactly, limits.seats)); long = h.lists }

-- ---- what is seen of a constituency

seats_small : (con : Constituency) (v : View) → IsConstituency con → (b : Bool) → HasSeats con v b → AllByRecursion (IsRead number_of) v.seats
seats_small con v limits true h = each_small v.seats (omega (arith, allotted-sum (rule_in con) (poll_in con v) v.lot con.seats v.seats h.2, limits.seats))
seats_small con v limits false h = subst (AllByRecursion (IsRead number_of)) (sym h) tt

pub lawful_readable : (con : Constituency) (v : View) → IsConstituency con → IsLawfulView con v → IsReadableView (length con.lists) v
lawful_readable con v limits h = record {
  edition = omega (arith, h.lawful.last);
  note = note_is_text v.note h.lawful.note;
  lot = lot_small con v limits h.fits.lists h.lawful.lot;
  seats = seats_small con v limits v.certified h.seats;
  gone = all_weaker _ IsReadableGone (λ g is. gone_small con g limits is) v.gone (recursion_from_All (IsLawfulGone con) v.gone h.lawful.gone);
  past = all_weaker _ (IsReadablePast (length con.lists)) (λ p is. past_small con v.edition p limits h.lawful.last is) v.past (recursion_from_All (IsLawfulPast con v.edition) v.past h.lawful.past);
}
