-- What the check on counts says.
use Rattle.std.proofs.Common.{◌≡◌, ◌≤◌, ◌*◌, ◌∷◌, ℕ, List, [], Bool, true, false, length, arith}
use Rattle.std.specs.Prelude.{◌==◌, ◌&&◌, sum, nat_le}
use Rattle.std.specs.List.{list_all}
use Rattle.std.specs.Cmp.{first_so, second_so}
use Rattle.std.proofs.lemmas.Bool.{leb-true, eqb-true}
use Rattle.std.proofs.lemmas.List.Sums.{sum_by-cons}
use Rattle.std.proofs.Common.{refl, Ok, Option}
use Rattle.tally_returns.specs.Checks.{check, first_refusal, refused_or}
use Rattle.tally_returns.specs.Lodge.{StationLimits, reply_at_station, reply_after_checks}
use Rattle.tally_returns.specs.Return.{StationReturn}
use Rattle.tally_returns.specs.declared.refusal.Refusal.TheVariants.{BadCounts, TooManyVotes}
use Rattle.tally_returns.specs.declared.reply.LodgeReply.TheVariants.{Lodged}
use Rattle.tally_returns.specs.Counts.{VoteCounts, is_number, are_counts, all_votes}

sum-numbers : (votes : List ℕ) → list_all is_number votes ≡ true → sum votes ≤ length votes * 1000000
sum-numbers [] e = omega arith
sum-numbers (n ∷ votes) e =
    omega (arith, sum_by-cons (λ x. x) n votes, leb-true n 1000000 (first_so _ _ e), sum-numbers votes (second_so _ _ e))

-- at most 60 numbers for lists and two more, each at most 1,000,000
pub all_votes-counts : (lists : ℕ) (c : VoteCounts) → lists ≤ 60 → are_counts lists c ≡ true → all_votes c ≤ 62000000
all_votes-counts lists c few e =
    let numbers : ((length c.votes == lists) && list_all is_number c.votes && is_number c.blank) ≡ true = first_so _ _ e in
    let votes : ((length c.votes == lists) && list_all is_number c.votes) ≡ true = first_so _ _ numbers in
    let same : length c.votes ≡ lists = eqb-true _ _ (first_so _ _ votes) in
    let each : sum c.votes ≤ length c.votes * 1000000 = sum-numbers c.votes (second_so _ _ votes) in
    let blank : c.blank ≤ 1000000 = leb-true c.blank 1000000 (second_so _ _ numbers) in
    let spoiled : c.spoiled ≤ 1000000 = leb-true c.spoiled 1000000 (second_so _ _ e) in
    omega arith

-- counts that were lodged pass their check
pub are_counts-lodged : (station : StationLimits) (found : Option StationReturn) (slip : List ℕ) (c : VoteCounts) (rev : ℕ)
    → reply_at_station station found slip c ≡ Ok (Lodged rev) → are_counts station.lists c ≡ true
are_counts-lodged station found slip c rev e = go (are_counts station.lists c) e
  where
    go : (b : Bool)
        → refused_or (first_refusal (check b BadCounts ∷ check (nat_le (all_votes c) station.entitled) TooManyVotes ∷ [])) (reply_after_checks found slip c) ≡ Ok (Lodged rev)
        → b ≡ true
    go true e = refl
    go false e = cc

pub length-counts : (lists : ℕ) (c : VoteCounts) → are_counts lists c ≡ true → length c.votes ≡ lists
length-counts lists c e = eqb-true _ _ (first_so _ _ (first_so _ _ (first_so _ _ e)))
