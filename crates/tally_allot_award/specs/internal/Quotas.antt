-- What lists hold by their quotas. No promise to a caller speaks of it.
use Rattle.std.specs.Prelude.{ℕ, false, slice_index_or, if◌then◌else◌}
use Rattle.tally_law.specs.HareAllotment.{remainder}
use Rattle.tally_law.specs.Poll.{Poll}
use Rattle.tally_allot_award.specs.internal.Terms.{quotas_for, most_for}
use Rattle.tally_allot_award.specs.declared.quota.Quota.{Quota}

-- the remainder of an eligible list, and 0 for another
abbrev pub remainder_for : Poll → ℕ → ℕ → ℕ
remainder_for poll seats l =
    if slice_index_or poll.eligible l false then remainder poll seats l else 0

abbrev pub quota_of : Poll → ℕ → ℕ → Quota
quota_of poll seats l =
    record {
      floor = quotas_for poll seats l;
      cap = most_for poll seats l;
      remainder = remainder_for poll seats l;
    }
