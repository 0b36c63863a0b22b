-- The terms of the contests under each rule. No promise to a caller speaks of them.
use Rattle.std.specs.Prelude.{ℕ, List}
use Rattle.tally_law.specs.Allotment.{Rule, divisors, hare}
use Rattle.tally_allot_award.specs.internal.KeptPoll.{kept_poll}
use Rattle.tally_allot_award.specs.internal.Terms.{Terms}
use Rattle.tally_allot_award.specs.declared.divisor_contest.DivisorContest.{DivisorContest}
use Rattle.tally_allot_award.specs.declared.hare_contest.HareContest.{HareContest}
use Rattle.tally_allot_award.specs.declared.poll.Poll.{Poll as PollCode}

-- a rule, the votes, a lot and this many seats
abbrev pub terms_under : Rule → PollCode → List ℕ → ℕ → Terms
terms_under rule poll lot seats =
    record { rule = rule; poll = kept_poll poll; lot = lot; seats = seats }

-- under a divisor rule, by its divisors and their unit
abbrev pub divisor_terms : {D : Type 0} → (D → ℕ → ℕ) → (D → ℕ) → DivisorContest D → Terms
divisor_terms divisor unit_of c =
    record {
      rule = divisors (divisor c.divisors) (unit_of c.divisors) c.lot_rule;
      poll = kept_poll c.poll;
      lot = c.lot.now;
      seats = c.seats;
    }

-- under Hare's rule
abbrev pub hare_terms : HareContest → Terms
hare_terms c = record { rule = hare; poll = kept_poll c.poll; lot = c.lot.now; seats = c.seats }
