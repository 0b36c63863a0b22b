-- The votes of a list.
use Rattle.std.proofs.Common.{◌≡◌, ◌≤◌, ◌<◌, ◌∙◌, ℕ, List, Bool, ◌++◌, length, get_or, ap, subst, arith}
use Rattle.std.proofs.lemmas.List.{get_or_read}
use Rattle.std.proofs.lemmas.List.Sums.{get_or-le-sum_by}
use Rattle.tally_frac.specs.Limits.{most_votes}
use Rattle.tally_setup.specs.Constituency.{Constituency, ListEntry}
use Rattle.tally_setup.specs.Threshold.{IsWithinVotes, base_of}
use Rattle.tally_returns.specs.View.{View}
use Rattle.tally_report.specs.TallyText.{tally_columns, tally_line}
use Rattle.tally_report.specs.EligibleAt.{is_eligible_at}

pub votes_at : (votes items : List ℕ) (i n : ℕ) → items ≡ votes → n ≡ get_or items i n → i < length votes → n ≡ get_or votes i 0
votes_at votes items i n same is lt = get_or_read votes i n lt (subst (λ (ns : List ℕ). n ≡ get_or ns i n) same is) 0

-- no list has more votes than the constituency
pub few_at : (votes items : List ℕ) (blank i n : ℕ) → items ≡ votes → n ≡ get_or items i n → IsWithinVotes votes blank → i < length votes → n ≤ most_votes
few_at votes items blank i n same is within lt = omega (arith, within, votes_at votes items i n same is lt, get_or-le-sum_by (λ (k : ℕ). k) votes i 0 lt)

pub line_is : (con : Constituency) (view : View) (place : ℕ) (list : ListEntry) (votes base : ℕ) (mark : Bool) (before after : List ℕ)
    → votes ≡ get_or view.votes place 0 → base ≡ base_of con.profile.base view.votes view.blank → mark ≡ is_eligible_at con view place
    → after ≡ before ++ tally_columns list votes base mark → after ≡ before ++ tally_line con view place list
line_is con view place list votes base mark before after at whole marked more =
    more
    ∙ ap (λ n. before ++ tally_columns list n base mark) at
    ∙ ap (λ n. before ++ tally_columns list (get_or view.votes place 0) n mark) whole
    ∙ ap (λ m. before ++ tally_columns list (get_or view.votes place 0) (base_of con.profile.base view.votes view.blank) m) marked
