use Rattle.std.proofs.Common.{◌≡◌, ◌∙◌, Some, ap, arith, map, refl, rules, subst, sym}
use Rattle.std.proofs.lemmas.List.{take_all}
use Rattle.std.specs.Option.{option_copied}
use Rattle.sqlite.proofs.Callers.{unchanged_then}
use Rattle.sqlite.proofs.StateLemmas.{unchanged}
use Rattle.sqlite.specs.State.{HasCleanDisk, IsUnchanged}
use Rattle.sqlite.specs.Held.{state}
use Rattle.tally_setup.specs.Constituency.{Constituency}
use Rattle.tally_setup.specs.Limits.{IsConstituency}
use Rattle.tally_setup.specs.Setup.{constituency_with}
use Rattle.tally_returns.specs.StationRows.{station_row}
use Rattle.tally_store_schema.specs.Office.{IsInside}
use Rattle.tally_store_schema.proofs.StaysLemmas.{clean_first, stays-same, stays-then}
use Rattle.tally_store_entries.proofs.FindLemmas.{inside_still}
use Rattle.tally_store_entries.proofs.LookLemmas.{look_as, look_fails}
use Rattle.tally_store_commands.proofs.AnswerLemmas.{rows-more}
use Rattle.tally_store_commands.proofs.StationLemmas.{known-stations, some-station, station-row, unknown-stations}
use Rattle.tally_store_commands.proofs.stations.show_returns_in.Goals as goal

pub returns-in_default-clause-refused : goal.returns-in_default-clause-refused
returns-in_default-clause-refused g c = (refl, sym c.con.ensures.found ∙ ap option_copied c.in_default.is)

pub returns-in_default-clause-shown : goal.returns-in_default-clause-shown
returns-in_default-clause-shown g c clean inside =
    unknown-stations c.args.setup.now c.args.code (state g.S.Store c.args.tx.now.conn.now) (sym c.con.ensures.found ∙ ap option_copied c.in_default.is)

pub returns-in_err-see_open-clause-reads : goal.returns-in_err-see_open-clause-reads
returns-in_err-see_open-clause-reads g c = look_fails g.S.Store c.args.tx.now c.see_open.new.tx _ c.from_residual.ensures.0 c.see_open.ensures.reads.stays

pub returns-in_default-clause-reads : goal.returns-in_default-clause-reads
returns-in_default-clause-reads g c = look_as g.S.Store c.args.tx.now c.see_open.new.tx _ _ c.in_ok-see_open.ensures.reads

pub loop-station-init : goal.loop-station-init
loop-station-init g c =
    let old = state g.S.Store c.args.tx.now.conn.now in
    record {
      stays = stays-same IsInside g.S.Store c.args.tx.now;
      inside = λ _ inside. inside;
      same = λ _ at. unchanged old at.1;
      found = search rules;
      was_open = λ none. absurd (omega (arith, none));
    }

pub loop-station-preserved : goal.loop-station-preserved
loop-station-preserved g c =
    let setup = c.args.setup.now in
    let stations = c.as_slice-stations.result.now in
    let old = state g.S.Store c.args.tx.now.conn.now in
    let mid = state g.S.Store c.loop-station.tx.conn.now in
    let new = state g.S.Store c.find_return.new.tx.conn.now in
    let was = c.loop-station.invariant in
    let ensured = c.find_return.ensures.reads in
    let i = c.loop-station.station-index in
    let station = c.station-item.result in
    let before : HasCleanDisk new → HasCleanDisk mid = clean_first ensured.stays.survives in
    record {
      stays = stays-then IsInside IsInside g.S.Store c.args.tx.now c.loop-station.tx c.find_return.new.tx was.inside was.stays ensured.stays;
      inside = λ clean inside. let there = was.inside (before clean) inside in inside_still mid new (c.in_ok-found.ensures.reads.same clean there) there;
      same = λ clean at.
          let same : IsUnchanged old mid = was.same (before clean) at in
          unchanged_then old mid new same (c.in_ok-found.ensures.reads.same clean (inside_still old mid same at.0));
      found = λ clean at text s lawful tables.
          let same : IsUnchanged old mid = was.same (before clean) at in
          let row = station-row setup text s station old mid c.in_ok-found.found c.con.ensures.limits lawful same at.0 tables (c.in_ok-found.ensures.found clean (inside_still old mid same at.0)) in
          rows-more (station_row s.returns) stations i station c.loop-station.rows.items c.push.new.self.items (record { station = station.code; electors = station.electors; found = c.in_ok-found.found }) c.loop-station-test.true c.station-item.is
          (was.found (before clean) at text s lawful tables) row c.in_ok-push.ensures.items;
      was_open = λ _ clean. was.stays.was_open (before clean) (c.in_ok-found.ensures.reads.answered_open clean);
    }

pub returns-in_err-found-clause-reads : goal.returns-in_err-found-clause-reads
returns-in_err-found-clause-reads g c =
    let was = c.loop-station.invariant in
    look_fails g.S.Store c.args.tx.now c.find_return.new.tx _ c.from_residual-in_err-found.ensures.0
    (stays-then IsInside IsInside g.S.Store c.args.tx.now c.loop-station.tx c.find_return.new.tx was.inside was.stays c.find_return.ensures.reads.stays)

pub returns-in_err-push-clause-reads : goal.returns-in_err-push-clause-reads
returns-in_err-push-clause-reads g c =
    let was = c.loop-station.invariant in
    look_fails g.S.Store c.args.tx.now c.find_return.new.tx _ c.from_residual-in_err-push.ensures.0
    (stays-then IsInside IsInside g.S.Store c.args.tx.now c.loop-station.tx c.find_return.new.tx was.inside was.stays c.find_return.ensures.reads.stays)

pub returns-clause-reads : goal.returns-clause-reads
returns-clause-reads g c =
    let stations = c.as_slice-stations.result.now in
    let all : stations ≡ c.in-Some.con.now.stations = c.as_slice-stations.ensures.value ∙ ap (λ (x : Constituency). x.stations) c.con-2.view_is in
    let some = some-station c.in-Some.con.now stations (subst IsConstituency c.con-2.view_is c.con-2.invariant) all in
    let was = c.loop-station.invariant in
    let opened = was.was_open (omega (arith, some, c.loop-station-test.false)) in
    record {
      stays = was.stays;
      same = λ clean inside. was.same clean (inside, opened clean);
      answered_open = opened;
    }

pub returns-clause-shown : goal.returns-clause-shown
returns-clause-shown g c clean inside =
    let setup = c.args.setup.now in
    let con = c.in-Some.con.now in
    let stations = c.as_slice-stations.result.now in
    let old = state g.S.Store c.args.tx.now.conn.now in
    let found : constituency_with c.args.code setup ≡ Some con = sym c.con.ensures.found ∙ ap option_copied c.in-Some.is in
    let all : stations ≡ con.stations = c.as_slice-stations.ensures.value ∙ ap (λ (x : Constituency). x.stations) c.con-2.view_is in
    let some = some-station con stations (subst IsConstituency c.con-2.view_is c.con-2.invariant) all in
    let was = c.loop-station.invariant in
    let whole = take_all c.loop-station.station-index stations c.loop-station-test.false ∙ all in
    known-stations setup c.args.code con old c.loop-station.rows found
    (λ text s lawful tables. was.found clean (inside, was.was_open (omega (arith, some, c.loop-station-test.false)) clean) text s lawful tables ∙ ap (map (station_row s.returns)) whole)
