use Rattle.std.proofs.Common.{◌≡◌, ◌++◌, ◌∷◌, ℕ, List, [], OnOk, append_assoc, string_bytes, subst}
use Rattle.std.specs.Fmt.{decimal}
use Rattle.tally_report_overview.proofs.country.push_pair.Goals as goal

pair-is : (a n b m : List ℕ) → a ++ (32 ∷ (n ++ (32 ∷ (b ++ (32 ∷ (m ++ (10 ∷ []))))))) ≡ a ++ (32 ∷ []) ++ n ++ (32 ∷ []) ++ b ++ (32 ∷ []) ++ m ++ (10 ∷ [])
pair-is a n b m = simp append_assoc

pub returns : goal.returns
returns c =
    subst (λ (line : List ℕ). OnOk c.writeln.result (string_bytes c.writeln.new.self ≡ string_bytes c.args.text.now ++ line))
    (pair-is c.args.name.now (decimal c.args.n) c.args.other.now (decimal c.args.m)) c.writeln.ensures.bytes
