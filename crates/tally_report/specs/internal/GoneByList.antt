-- Those who are gone, list by list. No public contract speaks of it.
use Rattle.std.specs.Prelude.{◌≡◌, ◌+◌, ◌<◌, ◌++◌, ◌==◌, if◌then◌else◌, ℕ, List, [], ◌∷◌, length}
use Rattle.std.specs.Prelude.{map, slice_index_or}
use Rattle.std.specs.List.{filter}
use Rattle.tally_returns.specs.GoneCandidate.{GoneCandidate}

-- the places of those of a list
abbrev pub places_of_list : List GoneCandidate → ℕ → List ℕ
places_of_list gone list =
    map (λ (g : GoneCandidate). g.place) (filter (λ (g : GoneCandidate). g.list == list) gone)

-- for each of this many lists the places of those of it, in order
pub record AreByList (gone : List GoneCandidate) (lists : ℕ) (places : List (List ℕ)) : Type 0 where
  pub count : length places ≡ lists
  pub each : (l : ℕ) → l < lists → slice_index_or places l [] ≡ places_of_list gone (l + 1)

-- one more place, after those of its list
pub record IsOneMore (list place : ℕ) (old new : List (List ℕ)) : Type 0 where
  pub count : length new ≡ length old
  pub each : (l : ℕ) → l < length old
      → slice_index_or new l [] ≡ slice_index_or old l [] ++
      (if list == l + 1 then place ∷ [] else [])
