-- The trouble of a text that is not a setup.
use Rattle.std.proofs.Common.{◌≡◌, ◌+◌, ◌<◌, ℕ, true, List, length, replicate, Option, Some, None, Err, codes, nat_lt, inl, inr, refl, ap, sym, arith, ◌∙◌, IfSome}
use Rattle.std.proofs.lemmas.Bool.{lt-ltb}
use Rattle.std.proofs.lemmas.List.{length-replicate}
use Rattle.tally_rules.specs.Fault.{IsPlacedFaultIn, over_limit}
use Rattle.tally_rules.specs.Place.{IsPlaceIn}
use Rattle.tally_rules.specs.Reading.{setup_of_text}
use Rattle.tally_rules.specs.declared.fault.SetupFault.{SetupFault}
use Rattle.tally_rules.specs.declared.fault.SetupFault.TheVariants as setup
use Rattle.tally_rules.specs.declared.place.Place.{Place}
use Rattle.tally_office_trouble.specs.SetupFile.{GivesTooLong, IsJudged, IsTextOf, IsTooLong, IsTroubleOfSetupFile, setup_limit}
use Rattle.tally_office_trouble.specs.Trouble.{IsTroubleOfMaking}
use Rattle.tally_office_trouble.specs.Troubles.{IsOverLimit, IsTroubleOfReading}
use Rattle.tally_office_trouble.specs.declared.trouble.Trouble.{Trouble}
use Rattle.tally_office_trouble.specs.declared.trouble.Trouble.TheVariants as trouble
use Rattle.tally_office_trouble.specs.internal.Judged.{placed_trouble}

pub judged : (text : List ℕ) (fault : SetupFault) (place : Option Place) → IsPlacedFaultIn (setup_of_text text) (fault, place)
    → (fault ≡ setup.NotToml → IsPlaceIn text place) → IsJudged text (placed_trouble fault place)
judged text setup.NotToml place is toml = (is, toml)
judged text (setup.Missing key) place is toml = (is, toml)
judged text (setup.BadValue key) place is toml = (is, toml)
judged text (setup.OverLimit key) place is toml = (is, toml)
judged text (setup.Duplicate code) place is toml = (is, toml)
judged text setup.UnknownProfile place is toml = (is, toml)
judged text setup.Memory place is toml = tt

pub making : (fault : SetupFault) (place : Option Place) → IsTroubleOfMaking (placed_trouble fault place)
making setup.NotToml place = inl (setup.NotToml, place, refl, λ e. cc)
making (setup.Missing key) place = inl (setup.Missing key, place, refl, λ e. cc)
making (setup.BadValue key) place = inl (setup.BadValue key, place, refl, λ e. cc)
making (setup.OverLimit key) place = inl (setup.OverLimit key, place, refl, λ e. cc)
making (setup.Duplicate code) place = inl (setup.Duplicate code, place, refl, λ e. cc)
making setup.UnknownProfile place = inl (setup.UnknownProfile, place, refl, λ e. cc)
making setup.Memory place = inr (inr (inl refl))

-- a text that is over the limit is no setup
long-judged : (text : List ℕ) → IsTooLong text → setup_of_text text ≡ Err (over_limit (codes "text"), None)
unfolding setup_of_text
long-judged text long =
    let is : nat_lt 8388608 (length text) ≡ true = lt-ltb 8388608 (length text) long in
    rw is refl

over-judged : (text : List ℕ) (t : Trouble) → IsTooLong text → IsOverLimit t → IsJudged text t
over-judged text (trouble.Setup (setup.OverLimit key) place) long over =
    (long-judged text long ∙ ap (λ k. Err (over_limit k, None)) (sym over.0) ∙ ap (λ p. Err (over_limit key.now, p)) (sym over.1), λ e. cc)
over-judged text other long over = absurd over

longer : (n : ℕ) → (text : List ℕ) × (n < length text)
longer n = (replicate (n + 1) 0, omega (arith, length-replicate {A = ℕ} (n + 1) 0))

-- a text that a file gave is over the limit
given-judged : (Gives : Option (List ℕ) → Type 0) (t : Trouble) (bytes : Option (List ℕ)) → Gives bytes → IfSome bytes IsTooLong → IsOverLimit t
    → (text : List ℕ) × IsTextOf Gives text × IsJudged text t
given-judged Gives t (Some text) gives long over = (text, (Some text, gives, refl), over-judged text t long over)
given-judged Gives t None gives long over =
    let it = longer setup_limit in
    (it.0, (None, gives, tt), over-judged it.0 t it.1 over)

pub reading : (Gives : Option (List ℕ) → Type 0) (t : Trouble) → IsTroubleOfReading t → (IsOverLimit t → GivesTooLong Gives) → IsTroubleOfSetupFile Gives t
reading Gives t (inl file) over = inl file
reading Gives t (inr (inl is)) over = let given = over is in inr (inr (given-judged Gives t given.0 given.1 given.2 is))
reading Gives t (inr (inr (inl memory))) over = inl (inl memory)
reading Gives t (inr (inr (inr read))) over = inr (inl read)
