use Rattle.std.proofs.Common.{◌≡◌, Option, Some, None, ap, ◌∙◌, sym, option_copied, option_map, ℕ, List}
use Rattle.std.specs.List.{slice_get}
use Rattle.std.specs.Option.{option_and_then}
use Rattle.tally_setup.specs.Codes.{index_of}
use Rattle.tally_rules.specs.Reading.{profile_with, profile_codes}
use Rattle.tally_setup.specs.declared.profile.Profile.{Profile}
use Rattle.tally_rules.proofs.ProfileLemmas.{lookup-index_of}
use Rattle.tally_setup.proofs.SetupLemmas.{slice_get-lookup}
use Rattle.tally_rules.proofs.read.profile.Profiles.find.Goals as goal

abbrev found_at : List (List ℕ × Profile) → Option ℕ → Option Profile
found_at profiles place = option_map (λ (p : List ℕ × Profile). p.1) (option_and_then (slice_get profiles) place)

pub returns-in_err-index_of-clause-profile : goal.returns-in_err-index_of-clause-profile
returns-in_err-index_of-clause-profile c =
    let place : index_of c.args.code (profile_codes c.self.inside.profiles.items) ≡ None = ap (index_of c.args.code) (sym c.self.invariant.0) ∙ sym c.in_err-index_of.ensures.place in
    c.from_residual.ensures
    ∙ sym (
    ap (profile_with c.args.code) (sym c.self.view_is)
    ∙ lookup-index_of c.args.code c.self.inside.profiles.items
    ∙ ap (found_at c.self.inside.profiles.items) place
    )

pub returns-in-Some-clause-profile : goal.returns-in-Some-clause-profile
returns-in-Some-clause-profile c =
    let i = c.in_ok-index_of.field-0 in
    let place : index_of c.args.code (profile_codes c.self.inside.profiles.items) ≡ Some i = ap (index_of c.args.code) (sym c.self.invariant.0) ∙ sym c.in_ok-index_of.ensures.place in
    let at : slice_get c.self.inside.profiles.items i ≡ Some c.in-Some.field-0.now =
    ap (λ ps. slice_get ps i) (sym c.deref.ensures.value) ∙ slice_get-lookup _ _ _ c.get.ensures.lookup ∙ ap option_copied c.in-Some.is in
    sym (
    ap (profile_with c.args.code) (sym c.self.view_is)
    ∙ lookup-index_of c.args.code c.self.inside.profiles.items
    ∙ ap (found_at c.self.inside.profiles.items) place
    ∙ ap (option_map (λ (p : List ℕ × Profile). p.1)) at
    )

pub returns-in-None-clause-profile : goal.returns-in-None-clause-profile
returns-in-None-clause-profile c =
    let i = c.in_ok-index_of.field-0 in
    let place : index_of c.args.code (profile_codes c.self.inside.profiles.items) ≡ Some i = ap (index_of c.args.code) (sym c.self.invariant.0) ∙ sym c.in_ok-index_of.ensures.place in
    let at : slice_get c.self.inside.profiles.items i ≡ None =
    ap (λ ps. slice_get ps i) (sym c.deref.ensures.value) ∙ slice_get-lookup _ _ _ c.get.ensures.lookup ∙ ap option_copied c.in-None.is in
    sym (
    ap (profile_with c.args.code) (sym c.self.view_is)
    ∙ lookup-index_of c.args.code c.self.inside.profiles.items
    ∙ ap (found_at c.self.inside.profiles.items) place
    ∙ ap (option_map (λ (p : List ℕ × Profile). p.1)) at
    )
