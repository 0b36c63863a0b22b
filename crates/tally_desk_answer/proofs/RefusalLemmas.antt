-- What is said of a refusal that has a number.
use Rattle.std.proofs.Common.{◌≡◌, ◌≢◌, List, refl}
use Rattle.tally_setup.specs.Constituency.{ListEntry}
use Rattle.tally_returns.specs.declared.refusal.Refusal.{Refusal}
use Rattle.tally_returns.specs.declared.refusal.Refusal.TheVariants as refusal
use Rattle.tally_desk_answer.specs.Outcome.{refusal_body, refusal_members}

pub body-numbered : (lists : List ListEntry) (why : Refusal) → why ≢ refusal.Memory → why ≢ refusal.Store → refusal_body lists why ≡ refusal_members lists why
body-numbered lists refusal.NoStation memory store = refl
body-numbered lists refusal.NoConstituency memory store = refl
body-numbered lists refusal.NoCandidate memory store = refl
body-numbered lists refusal.BadCounts memory store = refl
body-numbered lists refusal.BadNote memory store = refl
body-numbered lists refusal.TooManyVotes memory store = refl
body-numbered lists (refusal.Differs rev) memory store = refl
body-numbered lists refusal.NoReturn memory store = refl
body-numbered lists refusal.Certified memory store = refl
body-numbered lists refusal.NotCertified memory store = refl
body-numbered lists (refusal.Stale now) memory store = refl
body-numbered lists refusal.Exhausted memory store = refl
body-numbered lists (refusal.WrongStatus status) memory store = refl
body-numbered lists (refusal.NotAllClosed left) memory store = refl
body-numbered lists refusal.NoEligible memory store = refl
body-numbered lists refusal.LotStands memory store = refl
body-numbered lists refusal.LotNotNeeded memory store = refl
body-numbered lists (refusal.LotWrongGroup group) memory store = refl
body-numbered lists (refusal.LotMissing group seats) memory store = refl
body-numbered lists refusal.AlreadyGone memory store = refl
body-numbered lists refusal.NotHolder memory store = refl
body-numbered lists refusal.NotConfirmed memory store = refl
body-numbered lists refusal.Memory memory store = absurd (memory refl)
body-numbered lists refusal.Store memory store = absurd (store refl)
