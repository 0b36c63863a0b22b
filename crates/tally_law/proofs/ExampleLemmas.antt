-- The examples. Each `refl` is arithmetic that could be done on paper, done by the prover.
use Rattle.std.proofs.Common.{ℕ, ◌≡◌, List, [], ◌∷◌, true, length, sum, refl}
use Rattle.tally_setup.specs.declared.profile.LotRule.TheVariants.{Fixed}
use Rattle.tally_setup.specs.declared.profile.Method.{Method}
use Rattle.tally_setup.specs.declared.profile.Method.TheVariants.{DHondt, SainteLague, ModifiedSainteLague, Hare}
use Rattle.tally_frac.specs.Divisors.{dhondt_divisor, sainte_lague_divisor, modified_sainte_lague_divisor}
use Rattle.tally_law.specs.Poll.{Poll, SharesOut}
use Rattle.tally_law.specs.Rules.{poll_of}
use Rattle.tally_law.specs.LawExample.{profile_of, votes_of_the_example, votes_apart, TheExampleOfTheLaw, TheExampleByOtherMethods, TheMethodsDiffer}
use Rattle.tally_law.proofs.ByTrial.{each, takes_part_or_has_none, eligible_alone, by_divisors, by_quotas}

abbrev poll : Method → List ℕ → Poll
poll method votes = poll_of (profile_of method) votes 0

shared : (method : Method) (votes : List ℕ) (seats : ℕ) (a : List ℕ) → length a ≡ length votes → each (takes_part_or_has_none (poll method votes) a) (length a) ≡ true → sum a ≡ seats → SharesOut (poll method votes) seats a
shared method votes seats a one_each e whole = record { one_each = one_each; eligible_only = eligible_alone (poll method votes) a e; whole = whole }

pub as_printed : TheExampleOfTheLaw
as_printed = by_divisors (poll DHondt votes_of_the_example) _ dhondt_divisor 1 Fixed [] 8 (shared DHondt _ _ _ refl refl refl) refl

pub by_other_methods : TheExampleByOtherMethods
by_other_methods = (
  by_divisors (poll SainteLague votes_of_the_example) _ sainte_lague_divisor 1 Fixed [] 8 (shared SainteLague _ _ _ refl refl refl) refl,
  by_divisors (poll ModifiedSainteLague votes_of_the_example) _ modified_sainte_lague_divisor 5 Fixed [] 8 (shared ModifiedSainteLague _ _ _ refl refl refl) refl,
  by_quotas (poll Hare votes_of_the_example) _ 8 [] (shared Hare _ _ _ refl refl refl) refl refl,
)

pub methods_differ : TheMethodsDiffer
methods_differ = (
  by_divisors (poll DHondt votes_apart) _ dhondt_divisor 1 Fixed [] 2 (shared DHondt _ _ _ refl refl refl) refl,
  by_divisors (poll SainteLague votes_apart) _ sainte_lague_divisor 1 Fixed [] 2 (shared SainteLague _ _ _ refl refl refl) refl,
  by_divisors (poll ModifiedSainteLague votes_apart) _ modified_sainte_lague_divisor 5 Fixed [] 2 (shared ModifiedSainteLague _ _ _ refl refl refl) refl,
  by_quotas (poll Hare votes_apart) _ 2 [] (shared Hare _ _ _ refl refl refl) refl refl,
)
