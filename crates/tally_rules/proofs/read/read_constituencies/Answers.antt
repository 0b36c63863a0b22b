use Rattle.std.proofs.Common.{◌≡◌, ◌++◌, ◌∷◌, [], Ok, ap, ◌∙◌, sym, arith, refl}
use Rattle.std.proofs.lemmas.List.{map-append}
use Rattle.std.proofs.lemmas.List.Elements.{All-push, All-nil}
use Rattle.std.proofs.lemmas.Result.{err_from_is_err_and}
use Rattle.toml.specs.View.{view}
use Rattle.tally_setup.specs.Constituency.{Constituency, station_codes}
use Rattle.tally_setup.specs.Limits.{IsConstituency}
use Rattle.tally_rules.specs.Place.{nowhere}
use Rattle.tally_rules.specs.Reading.{read_constituencies, constituency_entry}
use Rattle.tally_setup.specs.Setup.{constituency_codes, all_station_codes}
use Rattle.tally_rules.proofs.ReadLemmas.{read-more, array-fault, array-end, IsFoundAt-same}
use Rattle.tally_setup.proofs.SetupLemmas.{all_station_codes-push}
use Rattle.tally_rules.proofs.StepLemmas.{placed-passed, placed-first, placed-nowhere}
use Rattle.tally_rules.proofs.read.read_constituencies.Goals as goal

pub returns-in_err-entries-clause-fault : goal.returns-in_err-entries-clause-fault
unfolding read_constituencies
returns-in_err-entries-clause-fault c =
    placed-passed _ _ _ c.from_residual.ensures.1 (placed-first _ _ _ (placed-nowhere _ _ c.in_err-entries.ensures.fault))

pub returns-in_err-con-clause-fault : goal.returns-in_err-con-clause-fault
unfolding read_constituencies
returns-in_err-con-clause-fault c =
    let p = err_from_is_err_and c.from_residual-in_err-con.result c.from_residual-in_err-con.ensures.1 in
    let before = ap (λ cons. constituency_entry c.args.profiles.now cons (view c.con-item.result)) (sym c.deref.ensures.value) in
    let found = IsFoundAt-same _ _ _ _ before c.in_err-con.ensures.fault in
    rw (p.1, p.2) (array-fault (constituency_entry c.args.profiles.now) _ _ _ _ _ _ _ (ap nowhere c.in_ok-entries.ensures.array) c.loop-con.invariant.0 c.loop-con-test.true c.con-item.is found)

pub loop-con-preserved : goal.loop-con-preserved
loop-con-preserved c =
    let profiles = c.args.profiles.now in
    let con = c.in_ok-con.con in
    let one : constituency_entry profiles c.loop-con.cons.items (view c.con-item.result) ≡ Ok con = ap (λ cons. constituency_entry profiles cons (view c.con-item.result)) (sym c.deref.ensures.value) ∙ c.in_ok-con.ensures.constituency in
    let codes : c.constituency_entry.new.taken ≡ constituency_codes (c.loop-con.cons.items ++ con ∷ []) =
    c.in_ok-con.ensures.taken ∙ ap (λ taken. taken ++ con.code ∷ []) c.loop-con.invariant.1 ∙ sym (map-append (λ (v : Constituency). v.code) c.loop-con.cons.items (con ∷ [])) in
    let stations : c.constituency_entry.new.stations ≡ all_station_codes (c.loop-con.cons.items ++ con ∷ []) =
    c.in_ok-con.ensures.stations ∙ ap (λ taken. taken ++ station_codes con.stations) c.loop-con.invariant.2 ∙ sym (all_station_codes-push c.loop-con.cons.items con) in
    rw c.push_reserved.ensures.items (
      read-more (constituency_entry profiles) _ _ _ _ _ c.loop-con.invariant.0 c.loop-con-test.true c.con-item.is one,
      codes,
      stations,
      c.in_ok-con.ensures.distinct,
      c.in_ok-con.ensures.distinct_stations,
      All-push IsConstituency _ _ c.loop-con.invariant.5 c.in_ok-con.ensures.limits,
      rw c.push_reserved.ensures.capacity c.loop-con.invariant.6,
    )

pub returns-clause-setup : goal.returns-clause-setup
unfolding read_constituencies
returns-clause-setup c =
    array-end (constituency_entry c.args.profiles.now) _ _ _ _ (ap nowhere c.in_ok-entries.ensures.array) c.loop-con.invariant.0 c.loop-con-test.false ∙ ap Ok (sym c.in_ok-new.ensures)

pub new-requires-clause-limits : goal.new-requires-clause-limits
new-requires-clause-limits c = record {
  some_constituency = omega (arith, c.in_ok-entries.ensures.some, c.loop-con.invariant.0.count);
  constituencies = omega (arith, c.in_ok-entries.ensures.limit, c.loop-con.invariant.0.count);
  each_constituency = c.loop-con.invariant.5;
  codes = rw c.loop-con.invariant.1 at c.loop-con.invariant.3;
  station_codes = rw c.loop-con.invariant.2 at c.loop-con.invariant.4;
}

pub loop-con-init : goal.loop-con-init
loop-con-init c =
    rw (c.in_ok-cons.ensures.items, c.new-codes.ensures, c.new-stations.ensures) (
      record { whole = refl; count = refl },
      refl,
      refl,
      λ i j d _ within _. absurd (omega arith),
      λ i j d _ within _. absurd (omega arith),
      All-nil IsConstituency,
      c.in_ok-cons.ensures.capacity,
    )
