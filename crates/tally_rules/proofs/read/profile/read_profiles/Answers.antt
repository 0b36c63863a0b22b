use Rattle.std.proofs.Common.{◌≡◌, ◌++◌, ◌∷◌, [], Ok, ℕ, ap, ◌∙◌, sym, List, Result}
use Rattle.std.proofs.lemmas.List.{map-append}
use Rattle.std.proofs.lemmas.List.Elements.{All-push}
use Rattle.std.proofs.lemmas.Result.{err_from_is_err_and}
use Rattle.toml.specs.Data.{Data}
use Rattle.toml.specs.View.{view}
use Rattle.tally_rules.specs.Fault.{Placed}
use Rattle.tally_setup.specs.Limits.{IsProfile}
use Rattle.tally_rules.specs.Place.{nowhere}
use Rattle.tally_rules.specs.Reading.{read_profiles, profile_entry, profile_codes}
use Rattle.tally_setup.specs.declared.profile.Profile.{Profile}
use Rattle.tally_rules.proofs.ReadLemmas.{read-more, array-fault, array-end, IsFoundAt-same}
use Rattle.tally_rules.proofs.read.profile.read_profiles.Goals as goal

abbrev read : List (List ℕ × Profile) → Data → Result (List ℕ × Profile) Placed
read before = profile_entry (profile_codes before)

pub returns-in_err-profile_entry-clause-fault : goal.returns-in_err-profile_entry-clause-fault
unfolding read_profiles
returns-in_err-profile_entry-clause-fault c =
    let p = err_from_is_err_and c.from_residual-in_err-profile_entry.result c.from_residual-in_err-profile_entry.ensures.1 in
    let before = ap (λ taken. profile_entry taken (view c.profile-item.result)) (sym c.loop-profile.invariant.1) in
    let found = IsFoundAt-same _ _ _ _ before c.in_err-profile_entry.ensures.fault in
    rw (p.1, p.2) (array-fault read _ _ _ _ _ _ _ (ap nowhere c.in_ok-entries.ensures.array) c.loop-profile.invariant.0 c.loop-profile-test.true c.profile-item.is found)

pub loop-profile-preserved : goal.loop-profile-preserved
loop-profile-preserved c =
    let profile = c.in_ok-profile_entry.field-0 in
    let one : read c.loop-profile.profiles.items (view c.profile-item.result) ≡ Ok profile = ap (λ taken. profile_entry taken (view c.profile-item.result)) (sym c.loop-profile.invariant.1) ∙ c.in_ok-profile_entry.ensures.profile in
    let codes : c.profile_entry.new.taken ≡ profile_codes (c.loop-profile.profiles.items ++ profile ∷ []) =
    c.in_ok-profile_entry.ensures.taken ∙ ap (λ taken. taken ++ profile.0 ∷ []) c.loop-profile.invariant.1 ∙ sym (map-append (λ (p : List ℕ × Profile). p.0) c.loop-profile.profiles.items (profile ∷ [])) in
    rw c.push_reserved.ensures.items (
      read-more read _ _ _ _ _ c.loop-profile.invariant.0 c.loop-profile-test.true c.profile-item.is one,
      codes,
      All-push (λ (p : List ℕ × Profile). IsProfile p.1) _ _ c.loop-profile.invariant.2 c.in_ok-profile_entry.ensures.threshold,
      rw c.push_reserved.ensures.capacity c.loop-profile.invariant.3,
    )

pub returns-clause-profiles : goal.returns-clause-profiles
unfolding read_profiles
returns-clause-profiles c = array-end read _ _ _ _ (ap nowhere c.in_ok-entries.ensures.array) c.loop-profile.invariant.0 c.loop-profile-test.false
