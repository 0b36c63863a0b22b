-- The lot that a contest needs. No promise to a caller speaks of it.
use Rattle.std.specs.Prelude.{Option, MatchOption}
use Rattle.tally_law.specs.LotNeed.{IsDecidedByVotes, IsNeed}
use Rattle.tally_allot_award.specs.declared.need.Need.{Need}
use Rattle.tally_allot_award.specs.internal.Terms.{Terms}

-- No lot, where the votes decide on these terms, and else the lot that is needed.
abbrev pub IsNeedOn : Terms → Option Need → Type 0
IsNeedOn terms need = MatchOption need (IsDecidedByVotes terms.rule terms.poll terms.seats)
    (λ need. IsNeed terms.rule terms.poll terms.seats need.group need.seats)
