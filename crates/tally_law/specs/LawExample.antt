-- The example that the law prints (LOREG article 163.1 c)): 480,000 valid votes for six lists, and
-- eight seats. What the definitions give for it, for the same votes by the other methods, and for
-- votes by which the methods differ. No pair that wins a seat ties with one that does not, so they
-- show nothing of ties and lots.
use Rattle.std.specs.Prelude.{List, [], ◌∷◌, ℕ}
use Rattle.tally_setup.specs.declared.profile.Base.TheVariants.{Valid}
use Rattle.tally_setup.specs.declared.profile.LotRule.TheVariants.{Fixed}
use Rattle.tally_setup.specs.declared.profile.Method.{Method}
use Rattle.tally_setup.specs.declared.profile.Method.TheVariants.{DHondt, SainteLague}
use Rattle.tally_setup.specs.declared.profile.Method.TheVariants.{ModifiedSainteLague, Hare}
use Rattle.tally_setup.specs.declared.profile.Profile.{Profile}
use Rattle.tally_law.specs.Allotment.{IsAllotment}
use Rattle.tally_law.specs.Rules.{rule_of, poll_of}

-- the profile of a method, with the law's threshold of 3 per cent of the valid votes
abbrev pub profile_of : Method → Profile
profile_of method = record { method = method; threshold = 300; base = Valid; lot = Fixed }

-- Of this many seats and these votes, with no blank ones, these seats are the allotment by a
-- method.
abbrev pub Allots : Method → List ℕ → ℕ → List ℕ → Type 0
Allots method votes seats a =
    IsAllotment (rule_of (profile_of method)) (poll_of (profile_of method) votes 0) [] seats a

abbrev pub votes_of_the_example : List ℕ
votes_of_the_example = 168000 ∷ 104000 ∷ 72000 ∷ 64000 ∷ 40000 ∷ 32000 ∷ []

-- by D'Hondt, as the law prints it
abbrev pub TheExampleOfTheLaw : Type 0
TheExampleOfTheLaw = Allots DHondt votes_of_the_example 8 (4 ∷ 2 ∷ 1 ∷ 1 ∷ 0 ∷ 0 ∷ [])

-- by the other methods
abbrev pub TheExampleByOtherMethods : Type 0
TheExampleByOtherMethods =
    Allots SainteLague votes_of_the_example 8 (3 ∷ 2 ∷ 1 ∷ 1 ∷ 1 ∷ 0 ∷ []) ×
    Allots ModifiedSainteLague votes_of_the_example 8 (3 ∷ 2 ∷ 1 ∷ 1 ∷ 1 ∷ 0 ∷ []) ×
    Allots Hare votes_of_the_example 8 (3 ∷ 2 ∷ 1 ∷ 1 ∷ 1 ∷ 0 ∷ [])

abbrev pub votes_apart : List ℕ
votes_apart = 53 ∷ 24 ∷ 23 ∷ []

-- Of two seats the first list has both by two of the methods, and one by the two others.
abbrev pub TheMethodsDiffer : Type 0
TheMethodsDiffer =
    Allots DHondt votes_apart 2 (2 ∷ 0 ∷ 0 ∷ []) ×
    Allots SainteLague votes_apart 2 (1 ∷ 1 ∷ 0 ∷ []) ×
    Allots ModifiedSainteLague votes_apart 2 (2 ∷ 0 ∷ 0 ∷ []) ×
    Allots Hare votes_apart 2 (1 ∷ 1 ∷ 0 ∷ [])
