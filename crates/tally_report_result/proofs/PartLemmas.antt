-- What a result rests on where its seats are decided.
use Rattle.std.proofs.Common.{◌≡◌, ◌∙◌, ◌&&◌, ℕ, List, Bool, true, false, Option, sym, ap, subst}
use Rattle.std.proofs.lemmas.Bool.{false≢true}
use Rattle.tally_setup.specs.Constituency.{Constituency}
use Rattle.tally_machine_law.specs.Outcome.{IsLawfulView, IsOutcome, allotted, poll_in, rule_in}
use Rattle.tally_returns.specs.View.{View}
use Rattle.tally_report.specs.ProvisionalSeats.{AreProvisionalSeats}
use Rattle.tally_report.specs.declared.status.ProvisionalStatus.{ProvisionalStatus}
use Rattle.tally_report.specs.declared.status.ProvisionalStatus.TheVariants as status
use Rattle.tally_report.proofs.AwardLemmas.{certified-outcome}
use Rattle.tally_report.specs.ShortText.{AreVotesShortIn}
use Rattle.tally_allot.specs.Awards.{AreAwardsBy}
use Rattle.tally_allot.specs.declared.award.Award.{Award}
use Rattle.tally_report_result.specs.Parts.{AreAwardsIf, AreResultParts, AreVotesShortIf, has_divisors, is_decided, shows_awards}

-- decided seats are an outcome of the closed votes and the lot
pub decided-outcome : (con : Constituency) (view : View) (state : ProvisionalStatus) (seats : List ℕ) → IsLawfulView con view → is_decided state ≡ true
    → AreProvisionalSeats con view state seats → IsOutcome con view (allotted seats)
decided-outcome con view status.Certified seats lawful decided are =
    subst (λ (s : List ℕ). IsOutcome con view (allotted s)) (sym are.1) (certified-outcome con view lawful are.0)
decided-outcome con view status.Open seats lawful decided are = are.1
decided-outcome con view (status.LotNeeded group in_question) seats lawful decided are = absurd (false≢true decided)
decided-outcome con view status.NoEligible seats lawful decided are = absurd (false≢true decided)

-- the parts where the seats are decided by a rule that has divisors
pub decided-parts : (con : Constituency) (view : View) (state : ProvisionalStatus) (seats : List ℕ) (short : List (Option ℕ)) (awards : List Award) → IsLawfulView con view → is_decided state ≡ true → has_divisors con ≡ true
    → AreProvisionalSeats con view state seats
    → ((a : List ℕ) → IsOutcome con view (allotted a) → AreVotesShortIn con view short)
    → ((a : List ℕ) → IsOutcome con view (allotted a) → AreAwardsBy (rule_in con) (poll_in con view) view.lot con.seats awards)
    → AreResultParts con view (record { status = state; seats = seats; short = short; awards = awards })
decided-parts con view state seats short awards lawful decided divisors are short_are awards_are =
    let shown : shows_awards con state ≡ true = ap (λ (b : Bool). b && has_divisors con) decided ∙ divisors in
    let outcome = decided-outcome con view state seats lawful decided are in record {
      seats = are;
      short = subst (λ (b : Bool). AreVotesShortIf b con view short) (sym shown) (short_are seats outcome);
      awards = subst (λ (b : Bool). AreAwardsIf b con view awards) (sym shown) (awards_are seats outcome);
    }
