-- The return of a lawful state can be read again.
use Rattle.std.proofs.Common.{◌≡◌, ◌&&◌, ℕ, Bool, true, false, cond, Some, List, [], ◌∷◌, length, refl, sym, ap, subst, ◌∙◌, arith}
use Rattle.std.specs.Prelude.{◌==◌}
use Rattle.std.specs.List.{AllByRecursion, list_all, find}
use Rattle.std.specs.Str.{bytes_eq, is_utf8, chars}
use Rattle.std.proofs.lemmas.Bool.{and_parts, eqb-true, leb-true}
use Rattle.std.proofs.lemmas.Slice.Eq.{bytes_eq-Decides}
use Rattle.tally_setup.specs.Code.{is_code}
use Rattle.tally_setup.specs.Constituency.{Constituency}
use Rattle.tally_setup.specs.Setup.{all_stations, station_with}
use Rattle.tally_setup.specs.Text.{is_note}
use Rattle.tally_setup.specs.declared.constituency.Station.{Station}
use Rattle.tally_returns.specs.Counts.{VoteCounts, are_counts, is_number}
use Rattle.tally_returns.specs.Decide.{limits_of}
use Rattle.tally_returns.specs.Lawful.{IsLawful, is_note_or_empty}
use Rattle.tally_returns.specs.Lodge.{StationLimits}
use Rattle.tally_returns.specs.Return.{StationReturn}
use Rattle.tally_returns.specs.State.{stations_of}
use Rattle.tally_store_schema.specs.Values.{number_of}
use Rattle.tally_store_rows.proofs.ItemLemmas.{map_some, number_reads, IsRead}
use Rattle.tally_store_rows.proofs.EntryLemmas.{AreRead, IsPlaced}

numbers_small : (ns : List ℕ) → list_all is_number ns ≡ true → AllByRecursion (IsRead number_of) ns
numbers_small [] h = tt
numbers_small (n ∷ ns) h =
    let parts = and_parts (is_number n) (list_all is_number ns) h in
    (number_reads n (omega (arith, leb-true n 1000000 parts.0)), numbers_small ns parts.1)

counts_fit : (lists : ℕ) (c : VoteCounts) → are_counts lists c ≡ true → (length c.votes ≡ lists) × AreRead number_of c
counts_fit lists c h =
    let spoiled = and_parts ((length c.votes == lists) && list_all is_number c.votes && is_number c.blank) (is_number c.spoiled) h in
    let blank = and_parts ((length c.votes == lists) && list_all is_number c.votes) (is_number c.blank) spoiled.0 in
    let votes = and_parts (length c.votes == lists) (list_all is_number c.votes) blank.0 in
    (eqb-true (length c.votes) lists votes.0, record { votes = numbers_small c.votes votes.1; blank = number_reads c.blank (omega (arith, leb-true c.blank 1000000 blank.1)); spoiled = number_reads c.spoiled (omega (arith, leb-true c.spoiled 1000000 spoiled.1)) })

nothing_is_text : is_utf8 [] ≡ true
unfolding is_utf8 chars
nothing_is_text = refl

pub note_is_text : (note : List ℕ) → is_note_or_empty note ≡ true → is_utf8 note ≡ true
note_is_text [] h = nothing_is_text
note_is_text (byte ∷ note) h = (and_parts (is_note (byte ∷ note)) (is_utf8 (byte ∷ note)) h).1

found_passes : {X : Type 0} (p : X → Bool) (xs : List X) (x : X) → find p xs ≡ Some x → p x ≡ true
found_passes p [] x h = absurd (let e = h in cc)
found_passes p (y ∷ xs) x h = go (p y) refl h (found_passes p xs x)
  where
    go : (b : Bool) → p y ≡ b → cond b (Some y) (find p xs) ≡ Some x → (find p xs ≡ Some x → p x ≡ true) → p x ≡ true
    go true is e later = subst (λ z. p z ≡ true) (let same : y ≡ x = (let k = e in cc) in same) is
    go false is e later = later e

pub lawful_is_placed : (setup : List Constituency) (e : List ℕ × StationReturn) (limits : StationLimits) → is_code e.0 ≡ true → stations_of setup e.0 ≡ Some limits → IsLawful limits e.1 → IsPlaced setup e
lawful_is_placed setup e limits code known lawful =
    let place = map_some (λ (p : Constituency × Station). limits_of p.0 p.1) (station_with e.0 setup) limits known in
    let counts = counts_fit limits.lists e.1.counts lawful.counts in
    let passes = found_passes (λ (p : Constituency × Station). bytes_eq e.0 p.1.code) (all_stations setup) place.0 place.1 in
    record {
      place = place.0;
      found = place.1;
      same = sym ((bytes_eq-Decides e.0 place.0.1.code).0 passes);
      code = code;
      lists = counts.0 ∙ ap (λ (l : StationLimits). l.lists) (sym place.2);
      fine = record { rev = omega (arith, lawful.last); slip = lawful.slip; note = note_is_text e.1.note lawful.note; counts = counts.1 };
    }
