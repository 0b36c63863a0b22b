-- Which returns that were read are those of a lawful state.
use Rattle.std.specs.Prelude.{◌≡◌, ◌&&◌, ℕ, All, Bool, true, Some, List, [], ◌∷◌}
use Rattle.std.specs.FinMap.{entries, from_entries, get}
use Rattle.std.specs.List.{flat_map}
use Rattle.std.specs.Option.{ForSome}
use Rattle.std.specs.Ordering.{is_lt}
use Rattle.std.specs.declared.cmp.Ordering.{Ordering}
use Rattle.sqlite_value.specs.Order.{Row}
use Rattle.tally_keeper.specs.Kept.{Kept, opening_kept}
use Rattle.tally_store_schema.specs.Rows.{text_cmp}
use Rattle.tally_setup.specs.Constituency.{Constituency}
use Rattle.tally_returns.specs.Lawful.{IsLawful}
use Rattle.tally_returns.specs.Lodge.{StationLimits}
use Rattle.tally_returns.specs.Return.{StationReturn, Returns}
use Rattle.tally_returns.specs.State.{stations_of}
use Rattle.tally_store_rows.specs.Cells.{return_rows, count_rows}
use Rattle.tally_store_rows.specs.Reading.{entries_in}

-- by their keys, each is below the next
abbrev pub rises_on : {X K : Type 0} → (X → K) → (K → K → Ordering) → List X → Bool
rises_on key cmp [] = true
rises_on key cmp (a ∷ []) = true
rises_on key cmp (a ∷ b ∷ xs) = is_lt (cmp (key a) (key b)) && rises_on key cmp (b ∷ xs)

-- entries whose keys are texts
abbrev pub key_of : {X : Type 0} → List ℕ × X → List ℕ
key_of e = e.0

abbrev pub is_below : {X : Type 0} → List ℕ × X → List ℕ × X → Bool
is_below a b = is_lt (text_cmp a.0 b.0)

abbrev pub rises : {X : Type 0} → List (List ℕ × X) → Bool
rises = rises_on key_of text_cmp

-- a return of a station of the setup, and lawful there
abbrev pub IsLawfulEntry : List Constituency → List ℕ × StationReturn → Type 0
IsLawfulEntry setup e =
    (limits : StationLimits) × (stations_of setup e.0 ≡ Some limits) × IsLawful limits e.1

-- The rows of `returns` and `counts` read as these returns, which are in the order of their
-- stations and lawful there.
pub record AreLawfulEntries (setup : List Constituency) (rows counts : List Row)
    (es : List (List ℕ × StationReturn)) : Type 0 where
  pub read : Some es ≡ entries_in setup rows counts
  pub rise : rises es ≡ true
  pub lawful : All (IsLawfulEntry setup) es

-- A ledger has the returns that the rows of `returns` and `counts` read as, which are lawful.
pub record IsLedgerOf (setup : List Constituency) (rows counts : List Row)
    (kept : Kept) : Type 0 where
  pub es : List (List ℕ × StationReturn)
  pub entries : AreLawfulEntries setup rows counts es
  pub kept_is : kept ≡ record (opening_kept setup) { returns = from_entries es }

-- The rows of `returns` and `counts` are those of these returns, in the order of their keys, and
-- each return is lawful at its station.
pub record AreReturnsOf (setup : List Constituency) (rows counts : List Row)
    (returns : Returns) : Type 0 where
  pub lawful : (station : List ℕ) → ForSome (get returns station)
      (λ standing. IsLawfulEntry setup (station, standing))
  pub rows_are : rows ≡ flat_map (return_rows setup) (entries returns)
  pub counts_are : counts ≡ flat_map count_rows (entries returns)
