-- The code of the list at a place.
use Rattle.std.proofs.Common.{◌≡◌, ◌<◌, ◌∙◌, ℕ, List, [], length, get_or, ap, subst, sym}
use Rattle.std.proofs.lemmas.List.{get_or-map}
use Rattle.tally_setup.specs.Constituency.{Constituency, ListEntry}
use Rattle.tally_report.specs.AwardsText.{code_at_index}

pub code_at : (con : Constituency) (items : List ListEntry) (place : ℕ) (entry : ListEntry) (code : List ℕ)
    → items ≡ con.lists → place < length con.lists → entry ≡ get_or items place entry → code ≡ entry.code → code ≡ code_at_index con place
code_at con items place entry code same lt is code_is =
    code_is
    ∙ ap (λ (e : ListEntry). e.code) (subst (λ (es : List ListEntry). entry ≡ get_or es place entry) same is)
    ∙ sym (get_or-map (λ (e : ListEntry). e.code) con.lists place entry [] lt)
