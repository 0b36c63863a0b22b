use Rattle.std.proofs.Common.{◌≡◌, ◌≤◌, ℕ, List, All, length, vec_capacity}
use Rattle.tally_setup.specs.Limits.{IsProfile}
use Rattle.tally_setup.specs.declared.profile.Profile.{Profile}
use Rattle.tally_rules.specs.Reading.{profile_codes, profile_entry}
use Rattle.tally_rules.proofs.ReadLemmas.{IsReadTo}
use Rattle.tally_rules.proofs.read.profile.read_profiles.Given as goal

abbrev pub invariant-loop-profile : goal.invariant-loop-profile
invariant-loop-profile l =
    IsReadTo (λ before. profile_entry (profile_codes before)) l.entries l.profiles.items l.profile-index
    × (l.codes ≡ profile_codes l.profiles.items)
    × All (λ (p : List ℕ × Profile). IsProfile p.1) l.profiles.items
    × (length l.entries ≤ vec_capacity l.profiles)
