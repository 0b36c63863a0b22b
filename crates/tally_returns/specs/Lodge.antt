-- Lodging a return: what is answered, and the returns that are then recorded.
use Rattle.std.specs.Prelude.{◌&&◌, if◌then◌else◌, ℕ, Bool, nat_eq, nat_le, List, [], ◌∷◌, Option}
use Rattle.std.specs.Prelude.{Some, None, Result, Ok, Err}
use Rattle.std.specs.Cmp.Lexicographic.{pointwise}
use Rattle.std.specs.FinMap.{get, insert}
use Rattle.tally_setup.specs.declared.constituency.Entry.{Entry}
use Rattle.tally_returns.specs.Counts.{VoteCounts, are_counts, all_votes, same_counts}
use Rattle.tally_returns.specs.Return.{StationReturn, Returns, first_return}
use Rattle.tally_returns.specs.Checks.{check, first_refusal, refused_or}
use Rattle.tally_returns.specs.declared.refusal.Refusal.{Refusal}
use Rattle.tally_returns.specs.declared.refusal.Refusal.TheVariants.{NoStation, BadCounts}
use Rattle.tally_returns.specs.declared.refusal.Refusal.TheVariants.{TooManyVotes, Differs}
use Rattle.tally_returns.specs.declared.reply.LodgeReply.{LodgeReply}
use Rattle.tally_returns.specs.declared.reply.LodgeReply.TheVariants.{Lodged, Same}

-- what a setup says of a station: how many lists its constituency has, how many may vote at it, and
-- whether its returns are entered once or twice
pub record StationLimits : Type 0 where
  pub lists : ℕ
  pub entitled : ℕ
  pub entry : Entry

abbrev pub limits_for : ℕ → ℕ → Entry → StationLimits
limits_for lists entitled entry = record { lists = lists; entitled = entitled; entry = entry }

-- the same of each code that is a station
abbrev pub Stations : Type 0
Stations = List ℕ → Option StationLimits

-- the checks on what was counted, in their order
abbrev pub counts_checks : StationLimits → VoteCounts → List (Option Refusal)
counts_checks station counts =
    check (are_counts station.lists counts) BadCounts
    ∷ check (nat_le (all_votes counts) station.entitled) TooManyVotes
    ∷ []

-- the return has this slip and these counts
abbrev pub is_return_of : List ℕ → VoteCounts → StationReturn → Bool
is_return_of slip counts standing =
    pointwise nat_eq standing.slip slip && same_counts standing.counts counts

-- a return that comes where one is recorded: the same slip and counts again, or another return
abbrev pub reply_where_recorded : StationReturn → List ℕ → VoteCounts → Result LodgeReply Refusal
reply_where_recorded standing slip counts =
    if is_return_of slip counts standing
    then Ok (Same standing.rev)
    else Err (Differs standing.rev)

-- what is answered where the counts pass their checks, by the recorded return
abbrev pub reply_after_checks : Option StationReturn → List ℕ → VoteCounts
    → Result LodgeReply Refusal
reply_after_checks None slip counts = Ok (Lodged 1)
reply_after_checks (Some standing) slip counts = reply_where_recorded standing slip counts

-- what is answered at a station
abbrev pub reply_at_station : StationLimits → Option StationReturn → List ℕ → VoteCounts
    → Result LodgeReply Refusal
reply_at_station station found slip counts =
    refused_or (first_refusal (counts_checks station counts)) (reply_after_checks found slip counts)

-- what is answered at a code, which may be no station
abbrev pub reply_at_code : Option StationLimits → Option StationReturn → List ℕ → VoteCounts
    → Result LodgeReply Refusal
reply_at_code None found slip counts = Err NoStation
reply_at_code (Some station) found slip counts = reply_at_station station found slip counts

-- the returns after an answer: one more where it was lodged
abbrev pub after_lodge : Returns → List ℕ → List ℕ → VoteCounts → Result LodgeReply Refusal
    → Returns
after_lodge returns station slip counts (Ok (Lodged rev)) =
    insert returns station (first_return slip counts)
after_lodge returns station slip counts (Ok (Same rev)) = returns
after_lodge returns station slip counts (Err refusal) = returns

-- what Lodge answers
abbrev pub lodge_answer : Stations → Returns → List ℕ → List ℕ → VoteCounts
    → Result LodgeReply Refusal
lodge_answer stations returns station slip counts =
    reply_at_code (stations station) (get returns station) slip counts

-- the returns that Lodge leaves
abbrev pub lodge : Stations → Returns → List ℕ → List ℕ → VoteCounts → Returns
lodge stations returns station slip counts =
    after_lodge returns station slip counts (lodge_answer stations returns station slip counts)
