-- What a Lodge that was answered says.
use Rattle.std.proofs.Common.{◌≡◌, List, ℕ, Bool, true, false, Option, Some, None, Result, Ok, Err, refl}
use Rattle.std.specs.Prelude.{if◌then◌else◌}
use Rattle.std.specs.FinMap.{get}
use Rattle.tally_returns.specs.Checks.{first_refusal, refused_or}
use Rattle.tally_returns.specs.Counts.{VoteCounts}
use Rattle.tally_returns.specs.Lodge.{StationLimits, Stations, counts_checks, is_return_of, reply_at_code, lodge_answer}
use Rattle.tally_returns.specs.Return.{StationReturn, Returns}
use Rattle.tally_returns.specs.declared.refusal.Refusal.{Refusal}
use Rattle.tally_returns.specs.declared.refusal.Refusal.TheVariants.{Differs}
use Rattle.tally_returns.specs.declared.reply.LodgeReply.{LodgeReply}
use Rattle.tally_returns.specs.declared.reply.LodgeReply.TheVariants.{Lodged, Same}

-- a return is lodged only where none was recorded
pub lodged-none : (stations : Stations) (m : Returns) (station slip : List ℕ) (counts : VoteCounts) (rev : ℕ)
    → lodge_answer stations m station slip counts ≡ Ok (Lodged rev) → get m station ≡ None
lodged-none stations m station slip counts rev is = go (stations station) (get m station) refl is
  where
    again : {X : Type 0} (same : Bool) (at : ℕ) (e : Refusal) → ◌≡◌ {A = Result LodgeReply Refusal} (if same then Ok (Same at) else Err e) (Ok (Lodged rev)) → X
    again true at e ok = cc
    again false at e ok = cc

    standing-lodged : {X : Type 0} (refused : Option Refusal) (standing : StationReturn)
        → refused_or refused (if is_return_of slip counts standing then Ok (Same standing.rev) else Err (Differs standing.rev)) ≡ Ok (Lodged rev)
        → X
    standing-lodged (Some e) standing ok = cc
    standing-lodged None standing ok = again (is_return_of slip counts standing) standing.rev (Differs standing.rev) ok

    go : (limits : Option StationLimits) (found : Option StationReturn) → get m station ≡ found → reply_at_code limits found slip counts ≡ Ok (Lodged rev) → get m station ≡ None
    go None found at ok = cc
    go (Some limits) None at ok = at
    go (Some limits) (Some standing) at ok = standing-lodged (first_refusal (counts_checks limits counts)) standing ok
