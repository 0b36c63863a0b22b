use Rattle.std.proofs.Common.{◌≡◌, ◌∙◌, Option, Some, None, Result, Ok, Err, ap, refl, subst, sym}
use Rattle.std.specs.Prelude.{IfErr}
use Rattle.std.specs.Option.{ok_or}
use Rattle.tally_rules.specs.Fault.{Fault, unknown_profile}
use Rattle.tally_rules.specs.Place.{in_entry}
use Rattle.tally_rules.specs.Reading.{rest_of_constituency}
use Rattle.tally_rules.specs.internal.Found.{IsFoundIn}
use Rattle.tally_rules.specs.declared.read.fault.KeyFault.{KeyFault as Found}
use Rattle.tally_rules.specs.declared.read.fault.KeyFault.TheVariants.{UnknownProfile}
use Rattle.tally_rules.proofs.StepLemmas.{placed-passed, placed-first, placed-after, placed-in_entry, read-after}
use Rattle.tally_rules.proofs.read.entry.rest_of_constituency.Goals as goal

-- the fault where there is no profile
no-profile : {A : Type 0} (profile : Option A) → IfErr (ok_or profile UnknownProfile) (IsFoundIn (ok_or profile unknown_profile))
no-profile (Some p) = tt
no-profile None = refl

-- a profile that is looked for, and found or not
profile-fault : {A : Type 0} (found known : Option A) (read : Result A Found) → read ≡ ok_or found UnknownProfile → found ≡ known → IfErr read (IsFoundIn (ok_or known unknown_profile))
profile-fault found known read is same = subst (λ r. IfErr r (IsFoundIn (ok_or known unknown_profile))) (sym (is ∙ ap (λ o. ok_or o UnknownProfile) same)) (no-profile known)

profile-found : {A : Type 0} (found known : Option A) (read : Result A Found) (p : A) → read ≡ ok_or found UnknownProfile → found ≡ known → read ≡ Ok p → ◌≡◌ {A = Result A Fault} (ok_or known unknown_profile) (Ok p)
profile-found found (Some q) read p is same ok = let e : ◌≡◌ {A = Result _ Found} (Ok q) (Ok p) = sym (is ∙ ap (λ o. ok_or o UnknownProfile) same) ∙ ok in ap Ok (let here : q ≡ p = cc in here)
profile-found found None read p is same ok = let e : ◌≡◌ {A = Result _ Found} (Err UnknownProfile) (Ok p) = sym (is ∙ ap (λ o. ok_or o UnknownProfile) same) ∙ ok in cc

pub returns-in_err-name-clause-fault : goal.returns-in_err-name-clause-fault
unfolding rest_of_constituency
returns-in_err-name-clause-fault c =
    placed-passed _ _ _ c.from_residual.ensures.1
    (placed-first _ _ _ (placed-in_entry _ _ _ _ _ c.constituency_way-here.ensures c.read_name.ensures.fault c.in_err-name.ensures.fault c.in_err-name.ensures.place))

pub returns-in_err-seats-clause-fault : goal.returns-in_err-seats-clause-fault
unfolding rest_of_constituency
returns-in_err-seats-clause-fault c =
    let name = rw c.in_ok-name.ensures.value at c.read_name.ensures.name in
    placed-passed _ _ _ c.from_residual-in_err-seats.ensures.1
    (placed-after _ _ _ _ (ap (in_entry _) name)
    (placed-first _ _ _ (placed-in_entry _ _ _ _ _ c.constituency_way-here.ensures c.read_number.ensures.fault c.in_err-seats.ensures.fault c.in_err-seats.ensures.place)))

pub returns-in_err-profile_code-clause-fault : goal.returns-in_err-profile_code-clause-fault
unfolding rest_of_constituency
returns-in_err-profile_code-clause-fault c =
    let name = rw c.in_ok-name.ensures.value at c.read_name.ensures.name in
    let seats = rw c.in_ok-seats.ensures.value at c.read_number.ensures.number in
    placed-passed _ _ _ c.from_residual-in_err-profile_code.ensures.1
    (placed-after _ _ _ _ (ap (in_entry _) name)
    (placed-after _ _ _ _ (ap (in_entry _) seats)
    (placed-first _ _ _ (placed-in_entry _ _ _ _ _ c.constituency_way-here.ensures c.read_code.ensures.fault c.in_err-profile_code.ensures.fault c.in_err-profile_code.ensures.place))))

pub returns-in_err-profile-clause-fault : goal.returns-in_err-profile-clause-fault
unfolding rest_of_constituency
returns-in_err-profile-clause-fault c =
    let name = rw c.in_ok-name.ensures.value at c.read_name.ensures.name in
    let seats = rw c.in_ok-seats.ensures.value at c.read_number.ensures.number in
    let code = rw c.in_ok-profile_code.ensures.value at c.read_code.ensures.code in
    placed-passed _ _ _ c.from_residual-in_err-profile.ensures.1
    (placed-after _ _ _ _ (ap (in_entry _) name)
    (placed-after _ _ _ _ (ap (in_entry _) seats)
    (placed-after _ _ _ _ (ap (in_entry _) code)
    (placed-first _ _ _ (placed-in_entry _ _ _ _ _ c.constituency_way-here.ensures (profile-fault _ _ _ c.ok_or-profile.ensures.value c.find.ensures.profile) c.in_err-profile.ensures.fault c.in_err-profile.ensures.place)))))

pub returns-in_err-needed-clause-fault : goal.returns-in_err-needed-clause-fault
unfolding rest_of_constituency
returns-in_err-needed-clause-fault c =
    let name = rw c.in_ok-name.ensures.value at c.read_name.ensures.name in
    let seats = rw c.in_ok-seats.ensures.value at c.read_number.ensures.number in
    let code = rw c.in_ok-profile_code.ensures.value at c.read_code.ensures.code in
    let profile = profile-found _ _ _ _ c.ok_or-profile.ensures.value c.find.ensures.profile c.in_ok-profile.ensures.value in
    placed-passed _ _ _ c.from_residual-in_err-needed.ensures.1
    (placed-after _ _ _ _ (ap (in_entry _) name)
    (placed-after _ _ _ _ (ap (in_entry _) seats)
    (placed-after _ _ _ _ (ap (in_entry _) code)
    (placed-after _ _ _ _ (ap (in_entry _) profile)
    (placed-first _ _ _ (placed-in_entry _ _ _ _ _ c.constituency_way-here.ensures c.read_entry.ensures.fault c.in_err-needed.ensures.fault c.in_err-needed.ensures.place))))))

pub returns-in_err-limit-clause-fault : goal.returns-in_err-limit-clause-fault
unfolding rest_of_constituency
returns-in_err-limit-clause-fault c =
    let name = rw c.in_ok-name.ensures.value at c.read_name.ensures.name in
    let seats = rw c.in_ok-seats.ensures.value at c.read_number.ensures.number in
    let code = rw c.in_ok-profile_code.ensures.value at c.read_code.ensures.code in
    let profile = profile-found _ _ _ _ c.ok_or-profile.ensures.value c.find.ensures.profile c.in_ok-profile.ensures.value in
    let needed = rw c.in_ok-needed.ensures.value at c.read_entry.ensures.entry in
    placed-passed _ _ _ c.from_residual-in_err-limit.ensures.1
    (placed-after _ _ _ _ (ap (in_entry _) name)
    (placed-after _ _ _ _ (ap (in_entry _) seats)
    (placed-after _ _ _ _ (ap (in_entry _) code)
    (placed-after _ _ _ _ (ap (in_entry _) profile)
    (placed-after _ _ _ _ (ap (in_entry _) needed)
    (placed-first _ _ _ (placed-in_entry _ _ _ _ _ c.constituency_way-here.ensures c.read_station_limit.ensures.fault c.in_err-limit.ensures.fault c.in_err-limit.ensures.place)))))))

pub returns-in_err-read_lists-clause-fault : goal.returns-in_err-read_lists-clause-fault
unfolding rest_of_constituency
returns-in_err-read_lists-clause-fault c =
    let name = rw c.in_ok-name.ensures.value at c.read_name.ensures.name in
    let seats = rw c.in_ok-seats.ensures.value at c.read_number.ensures.number in
    let code = rw c.in_ok-profile_code.ensures.value at c.read_code.ensures.code in
    let profile = profile-found _ _ _ _ c.ok_or-profile.ensures.value c.find.ensures.profile c.in_ok-profile.ensures.value in
    let needed = rw c.in_ok-needed.ensures.value at c.read_entry.ensures.entry in
    let limit = rw c.in_ok-limit.ensures.value at c.read_station_limit.ensures.limit in
    placed-passed _ _ _ c.from_residual-in_err-read_lists.ensures.1
    (placed-after _ _ _ _ (ap (in_entry _) name)
    (placed-after _ _ _ _ (ap (in_entry _) seats)
    (placed-after _ _ _ _ (ap (in_entry _) code)
    (placed-after _ _ _ _ (ap (in_entry _) profile)
    (placed-after _ _ _ _ (ap (in_entry _) needed)
    (placed-after _ _ _ _ (ap (in_entry _) limit)
    (placed-first _ _ _ c.in_err-read_lists.ensures.fault)))))))

pub returns-in_err-read_stations-clause-fault : goal.returns-in_err-read_stations-clause-fault
unfolding rest_of_constituency
returns-in_err-read_stations-clause-fault c =
    let name = rw c.in_ok-name.ensures.value at c.read_name.ensures.name in
    let seats = rw c.in_ok-seats.ensures.value at c.read_number.ensures.number in
    let code = rw c.in_ok-profile_code.ensures.value at c.read_code.ensures.code in
    let profile = profile-found _ _ _ _ c.ok_or-profile.ensures.value c.find.ensures.profile c.in_ok-profile.ensures.value in
    let needed = rw c.in_ok-needed.ensures.value at c.read_entry.ensures.entry in
    let limit = rw c.in_ok-limit.ensures.value at c.read_station_limit.ensures.limit in
    placed-passed _ _ _ c.from_residual-in_err-read_stations.ensures.1
    (placed-after _ _ _ _ (ap (in_entry _) name)
    (placed-after _ _ _ _ (ap (in_entry _) seats)
    (placed-after _ _ _ _ (ap (in_entry _) code)
    (placed-after _ _ _ _ (ap (in_entry _) profile)
    (placed-after _ _ _ _ (ap (in_entry _) needed)
    (placed-after _ _ _ _ (ap (in_entry _) limit)
    (placed-after _ _ _ _ c.in_ok-read_lists.ensures.lists
    (placed-first _ _ _ c.in_err-read_stations.ensures.fault))))))))

pub returns-clause-constituency : goal.returns-clause-constituency
unfolding rest_of_constituency
returns-clause-constituency c =
    let name = rw c.in_ok-name.ensures.value at c.read_name.ensures.name in
    let seats = rw c.in_ok-seats.ensures.value at c.read_number.ensures.number in
    let code = rw c.in_ok-profile_code.ensures.value at c.read_code.ensures.code in
    let profile = profile-found _ _ _ _ c.ok_or-profile.ensures.value c.find.ensures.profile c.in_ok-profile.ensures.value in
    let needed = rw c.in_ok-needed.ensures.value at c.read_entry.ensures.entry in
    let limit = rw c.in_ok-limit.ensures.value at c.read_station_limit.ensures.limit in
    read-after _ _ _ _ (ap (in_entry _) name)
    (read-after _ _ _ _ (ap (in_entry _) seats)
    (read-after _ _ _ _ (ap (in_entry _) code)
    (read-after _ _ _ _ (ap (in_entry _) profile)
    (read-after _ _ _ _ (ap (in_entry _) needed)
    (read-after _ _ _ _ (ap (in_entry _) limit)
    (read-after _ _ _ _ c.in_ok-read_lists.ensures.lists
    (read-after _ _ _ _ c.in_ok-read_stations.ensures.stations
    refl)))))))
