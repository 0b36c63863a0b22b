-- How what is kept is held in trees: the returns by station, and by constituency what is seen of
-- it. No public contract speaks of it.
use Rattle.std.specs.Prelude.{◌≡◌, ◌+◌, ◌++◌, ℕ, true, false, List, [], ◌∷◌, take, drop, Option}
use Rattle.std.specs.Prelude.{Some, None, is_some}
use Rattle.std.specs.BTreeMap.{BTreeMap}
use Rattle.std.specs.FinMap.{FinMap, get, empty, entries, from_entries, insert}
use Rattle.std.specs.List.{prefix_len}
use Rattle.std.specs.Option.{ForSome}
use Rattle.tally_setup.specs.Code.{code_cmp}
use Rattle.tally_setup.specs.Constituency.{Constituency}
use Rattle.tally_setup.specs.Setup.{constituency_with}
use Rattle.tally_returns.specs.GoneCandidate.{GoneCandidate}
use Rattle.tally_returns.specs.Lawful.{IsLawfulAt}
use Rattle.tally_returns.specs.PastSeats.{PastSeats}
use Rattle.tally_returns.specs.Return.{StationReturn, Returns}
use Rattle.tally_returns.specs.State.{ConState, GoneCandidates, PastRecords, opening_con}
use Rattle.tally_returns.specs.View.{View, is_before, view_with}
use Rattle.tally_returns.specs.declared.progress.ProgressRow.{ProgressRow}
use Rattle.tally_keeper.specs.Kept.{Seats}
use Rattle.tally_keeper.specs.MapOf.{map_of}
use Rattle.tally_keeper.specs.internal.Sums.{with_return_counted}

-- the returns that a tree holds
abbrev pub returns_of : BTreeMap (List ℕ) StationReturn → Returns
returns_of tree = from_entries tree.entries

-- what a tree holds is seen of each constituency
abbrev pub Views : Type 0
Views = FinMap code_cmp View

abbrev pub views_of : BTreeMap (List ℕ) View → Views
views_of tree = from_entries tree.entries

abbrev pub gone_by_places : List GoneCandidate → GoneCandidates
gone_by_places gone = map_of (λ (g : GoneCandidate). g.list ∷ g.place ∷ []) (λ g. g.note) gone

abbrev pub past_by_edition : List PastSeats → PastRecords
past_by_edition past = map_of (λ (p : PastSeats). p.edition) (λ p. p.seats) past

-- what a constituency has come to, of what is seen of it
abbrev pub con_of : View → ConState
con_of view = record {
  edition = view.edition;
  certified = view.certified;
  note = view.note;
  lot = view.lot;
  gone = gone_by_places view.gone;
  past = past_by_edition view.past;
}

abbrev pub cons_of : Views → FinMap code_cmp ConState
cons_of views = map_of (λ (e : List ℕ × View). e.0) (λ e. con_of e.1) (entries views)

abbrev pub seats_of : Views → Seats
seats_of views = map_of (λ (e : List ℕ × View). e.0) (λ e. e.1.seats) (entries views)

abbrev pub AreLawfulReturns : List Constituency → Returns → Type 0
AreLawfulReturns setup returns =
    (station : List ℕ) → ForSome (get returns station) (IsLawfulAt setup station)

-- what is held of the constituency of a code is what is seen of it
abbrev pub IsSeen : List Constituency → Returns → List ℕ → View → Type 0
IsSeen setup returns code view =
    (con : Constituency) × (constituency_with code setup ≡ Some con)
    × (view ≡ view_with con (con_of view) returns view.seats)

-- Each return is lawful at its station; and what is held of each constituency is what is seen of
-- it, its sums those of its closed returns.
pub record IsTallied (setup : List Constituency) (returns : Returns) (views : Views) : Type 0 where
  pub lawful : AreLawfulReturns setup returns
  pub seen : (code : List ℕ) → ForSome (get views code) (IsSeen setup returns code)
  pub known : (code : List ℕ) → is_some (get views code) ≡ is_some (constituency_with code setup)

-- ---- changes

-- what is seen of the constituency of a code, changed
abbrev pub with_changed : Views → List ℕ → (View → View) → Option View → Views
with_changed views code change None = views
with_changed views code change (Some view) = insert views code (change view)

abbrev pub with_view : Views → List ℕ → (View → View) → Views
with_view views code change = with_changed views code change (get views code)

-- an earlier return, if there is one, is no longer counted
abbrev pub without_former : Views → List ℕ → Option StationReturn → Views
without_former views code None = views
without_former views code (Some standing) =
    with_view views code (λ view. with_return_counted view standing false)

-- what is seen of a constituency as it opens
abbrev pub opening_view : Constituency → View
opening_view con = view_with con opening_con empty []

abbrev pub opening_views : List Constituency → Views
opening_views setup = map_of (λ (con : Constituency). con.code) opening_view setup

-- how many come before a candidate
abbrev pub gone_place : GoneCandidate → List GoneCandidate → ℕ
gone_place candidate gone = prefix_len (λ g. is_before g candidate) gone

-- one more is gone, at its place
abbrev pub with_gone : GoneCandidate → List GoneCandidate → List GoneCandidate
with_gone candidate gone =
    take (gone_place candidate gone) gone ++ candidate ∷ drop (gone_place candidate gone) gone

-- a lot is recorded, the constituency is certified with these seats, or a candidate is gone
abbrev pub with_lot : List ℕ → View → View
with_lot lot view = record view { edition = view.edition + 1; lot = lot }

abbrev pub with_certificate : List ℕ → View → View
with_certificate seats view =
    record view { edition = view.edition + 1; certified = true; seats = seats }

abbrev pub with_one_gone : GoneCandidate → View → View
with_one_gone candidate view = record view { gone = with_gone candidate view.gone }

-- open again, with this note, and with the certificate that was reopened on record after the
-- others
abbrev pub with_reopening : List ℕ → PastSeats → View → View
with_reopening note past view = record view {
  edition = view.edition + 1;
  certified = false;
  note = note;
  seats = [];
  past = view.past ++ past ∷ [];
}

-- how far a constituency has come, of what is seen of it
abbrev pub progress_row_of : List ℕ → View → ProgressRow
progress_row_of code view = record {
  con = code;
  stations = view.stations;
  received = view.received;
  queried = view.queried;
  corrected = view.corrected;
  closed = view.closed;
  edition = view.edition;
  certified = view.certified;
}
