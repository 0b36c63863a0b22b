-- The rows of the lists under Hare's rule.
use Rattle.std.specs.Prelude.{ℕ, zero, suc, ◌≡◌, ◌+◌, List, [], ◌∷◌, ◌++◌, false, nat_lt, length}
use Rattle.std.specs.Prelude.{slice_index, slice_index_or, if◌then◌else◌}
use Rattle.tally_allot.specs.declared.quota_row.QuotaRow.{QuotaRow}
use Rattle.tally_law.specs.Poll.{Poll}
use Rattle.tally_law.specs.HareAllotment.{IsHareAllotment, whole_quotas, remainder}

-- the row of list l: its whole quotas and its remainder, and whether it holds more
abbrev pub quota_row : Poll → ℕ → List ℕ → ℕ → QuotaRow
quota_row poll seats a l = record {
  list = l + 1;
  whole = whole_quotas poll seats l;
  rem = remainder poll seats l;
  extra = nat_lt (whole_quotas poll seats l) (slice_index a l);
}

-- the rows of the eligible ones among the first n lists
abbrev pub quota_rows : Poll → ℕ → List ℕ → ℕ → List QuotaRow
quota_rows poll seats a zero = []
quota_rows poll seats a (suc n) =
    if slice_index_or poll.eligible n false
    then quota_rows poll seats a n ++ quota_row poll seats a n ∷ []
    else quota_rows poll seats a n

-- the rows of the eligible lists, where the seats are those of the Hare allotment
abbrev pub AreQuotaRows : Poll → List ℕ → ℕ → List QuotaRow → Type 0
AreQuotaRows poll lot seats rows =
    (a : List ℕ) × IsHareAllotment poll lot seats a ×
    (rows ≡ quota_rows poll seats a (length poll.votes))
