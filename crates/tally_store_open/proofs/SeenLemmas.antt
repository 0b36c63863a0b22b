-- What is seen of a constituency is lawful, by the tests that it
-- passed, and passes them where it is.
use Rattle.std.proofs.Common.{◌≡◌, ◌≢◌, ◌≤◌, inr, ℕ, Bool, true, false, true≢false, List, [], refl, sym, subst, ◌∙◌}
use Rattle.std.specs.Prelude.{◌&&◌, nat_le}
use Rattle.std.specs.Str.{IsUtf8, is_utf8}
use Rattle.std.proofs.lemmas.Bool.{and_from, and_parts, le-leb, leb-true}
use Rattle.std.proofs.lemmas.Str.{is_utf8-from_IsUtf8}
use Rattle.tally_allot.specs.AllotFault.{IsFaultOf}
use Rattle.tally_allot.specs.declared.fault.AllotFault.{AllotFault}
use Rattle.tally_allot.specs.declared.fault.AllotFault.TheVariants.{NoEligible, LotMissing, WrongLot, Memory}
use Rattle.tally_machine_law.specs.Outcome.{HasSeats, IsLawfulView, poll_in, rule_in}
use Rattle.tally_machine_law.proofs.CertificationLemmas.{lot-right}
use Rattle.tally_returns.specs.Lawful.{is_kept_note, is_note_or_empty}
use Rattle.tally_returns.specs.View.{View}
use Rattle.tally_setup.specs.Constituency.{Constituency}
use Rattle.tally_setup.specs.Text.{is_note}
use Rattle.tally_store_open.specs.internal.Seen.{HasLawfulFrame, IsCertified, IsLotRight, IsOpen, is_in_range}

-- a text is a note that is kept where it may be a note
pub kept_is : (note : List ℕ) → IsUtf8 note → is_note note ≡ is_kept_note note
kept_is note text = go (is_note note) (is_utf8 note) (is_utf8-from_IsUtf8 note text)
  where
    go : (a b : Bool) → b ≡ true → a ≡ (a && b)
    go true b is = sym is
    go false b is = refl

-- a lot is not refused where it is the one to be taken
pub not_refused : (con : Constituency) (view : View) (f : AllotFault) → f ≢ Memory → IsFaultOf (rule_in con) (poll_in con view) con.seats view.lot f → view.lot ≢ [] → IsLotRight con view → ⊥
not_refused con view NoEligible real says some right = says right.0
not_refused con view (LotMissing group in_question) real says some right = some says.2
not_refused con view WrongLot real says some right = lot-right con (record view { stations = view.closed }) (inr (refl, right.0, right.1)) says.1
not_refused con view Memory real says some right = real refl

-- ---- a lawful view, by its parts

record IsInRange (view : View) : Type 0 where
  pub few : view.stations ≤ 20000
  pub first : 1 ≤ view.edition
  pub last : view.edition ≤ 9999
  pub note : is_note_or_empty view.note ≡ true

in_range : (view : View) → is_in_range view ≡ true → IsInRange view
in_range view h =
    let note = and_parts (nat_le view.stations 20000 && nat_le 1 view.edition && nat_le view.edition 9999) (is_note_or_empty view.note) h in
    let last = and_parts (nat_le view.stations 20000 && nat_le 1 view.edition) (nat_le view.edition 9999) note.0 in
    let first = and_parts (nat_le view.stations 20000) (nat_le 1 view.edition) last.0 in record {
      few = leb-true view.stations 20000 first.0;
      first = leb-true 1 view.edition first.1;
      last = leb-true view.edition 9999 last.1;
      note = note.1;
    }

pub frame_of : (con : Constituency) (view : View) → IsLawfulView con view → HasLawfulFrame con view
frame_of con view h = record {
  fits = h.fits;
  range =
      and_from (nat_le view.stations 20000 && nat_le 1 view.edition && nat_le view.edition 9999) (is_note_or_empty view.note)
      (and_from (nat_le view.stations 20000 && nat_le 1 view.edition) (nat_le view.edition 9999)
      (and_from (nat_le view.stations 20000) (nat_le 1 view.edition) (le-leb view.stations 20000 h.few) (le-leb 1 view.edition h.lawful.first)) (le-leb view.edition 9999 h.lawful.last)) h.lawful.note;
  gone = h.lawful.gone;
  past = h.lawful.past;
}

pub certified_view : (con : Constituency) (view : View) → HasLawfulFrame con view → view.certified ≡ true → IsCertified con view → IsLawfulView con view
certified_view con view h is may = let r = in_range view h.range in record {
  fits = h.fits;
  few = r.few;
  lawful = record { first = r.first; last = r.last; note = r.note; lot = inr may.0; certified = λ e. may.0; gone = h.gone; past = h.past };
  seats = subst (HasSeats con view) (sym is) may.1;
}

pub open_view : (con : Constituency) (view : View) → HasLawfulFrame con view → view.certified ≡ false → IsOpen con view → IsLawfulView con view
open_view con view h is open_is = let r = in_range view h.range in record {
  fits = h.fits;
  few = r.few;
  lawful = record { first = r.first; last = r.last; note = r.note; lot = open_is.1; certified = λ e. absurd (true≢false (sym e ∙ is)); gone = h.gone; past = h.past };
  seats = subst (HasSeats con view) (sym is) open_is.0;
}

pub certificate_of : (con : Constituency) (view : View) → view.certified ≡ true → IsLawfulView con view → IsCertified con view
certificate_of con view is h = (h.lawful.certified is, subst (HasSeats con view) is h.seats)

pub open_of : (con : Constituency) (view : View) → view.certified ≡ false → IsLawfulView con view → IsOpen con view
open_of con view is h = (subst (HasSeats con view) is h.seats, h.lawful.lot)
