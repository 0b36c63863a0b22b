use Rattle.std.proofs.Common.{◌≡◌, ◌+◌, ◌∙◌, length, sym, ap, subst, take, arith}
use Rattle.sqlite.specs.State.{HasCleanDisk, IsUnchanged}
use Rattle.sqlite.specs.Held.{state}
use Rattle.sqlite.proofs.Callers.{unchanged_then}
use Rattle.sqlite.proofs.StateLemmas.{unchanged}
use Rattle.tally_store_schema.specs.Office.{IsInside}
use Rattle.tally_setup.specs.Constituency.{Constituency}
use Rattle.tally_setup.specs.Limits.{IsConstituency}
use Rattle.tally_store_entries.specs.internal.Found.{AreWithin, FindsStatus, FindsStatuses}
use Rattle.tally_store_entries.specs.internal.Statuses.{statuses_in}
use Rattle.tally_store_entries.proofs.FindLemmas.{inside_still}
use Rattle.tally_store_schema.specs.internal.Inside.{IsOpenInside}
use Rattle.tally_store_schema.proofs.StaysLemmas.{clean_first, stays-same, stays-then}
use Rattle.tally_store_entries.proofs.StatusLemmas.{finds_all, finds_first, finds_more, status_before, within_more, within_most}
use Rattle.tally_store_entries.proofs.views.find_known.Goals as goal

pub loop-station-init : goal.loop-station-init
loop-station-init g c =
    let old = state g.S.Store c.args.tx.now.conn.now in
    record {
      stays = stays-same IsOpenInside g.S.Store c.args.tx.now;
      within = record { stations = omega arith; received = omega arith; queried = omega arith; corrected = omega arith; closed = omega arith };
      same = λ _ at. unchanged old at.1;
      found = λ _ at. finds_first c.as_slice-stations.result.now old;
    }

pub with_station-found-requires : goal.with_station-found-requires
with_station-found-requires g c =
    let few = (subst IsConstituency c.con.view_is c.con.invariant).stations in
    let all = ap length c.as_slice-stations.ensures.value ∙ ap (λ (x : Constituency). length x.stations) c.con.view_is in
    record { room = within_most c.loop-station.station-index 20000 c.loop-station.found (omega (arith, few, all, c.loop-station-test.true)) c.loop-station.invariant.within }

pub loop-station-preserved : goal.loop-station-preserved
loop-station-preserved g c =
    let old = state g.S.Store c.args.tx.now.conn.now in
    let mid = state g.S.Store c.loop-station.tx.conn.now in
    let new = state g.S.Store c.find_status.new.tx.conn.now in
    let was = c.loop-station.invariant in
    let ensured = c.find_status.ensures.reads in
    let i = c.loop-station.station-index in
    let station = c.station-item.result in
    let before : HasCleanDisk new → HasCleanDisk mid = clean_first ensured.stays.survives in
    record {
      stays = stays-then IsOpenInside IsInside g.S.Store c.args.tx.now c.loop-station.tx c.find_status.new.tx (λ early at. inside_still old mid (was.same early at) at.0) was.stays ensured.stays;
      within = subst (AreWithin (i + 1)) (sym c.with_station-found.ensures) (within_more i c.loop-station.found c.in_ok-status.status was.within);
      same = λ clean at.
          let there : IsUnchanged old mid = was.same (before clean) at in
          unchanged_then old mid new there (c.in_ok-status.ensures.reads.same clean (inside_still old mid there at.0));
      found = λ clean at.
          let there : IsUnchanged old mid = was.same (before clean) at in
          let so_far = was.found (before clean) at in
          let one : FindsStatus station.code mid c.in_ok-status.status = subst (λ k. FindsStatus k mid c.in_ok-status.status) c.as_str.ensures.text (c.in_ok-status.ensures.found clean (inside_still old mid there at.0)) in
          subst (FindsStatuses (take (i + 1) c.as_slice-stations.result.now) old) (sym c.with_station-found.ensures)
          (finds_more c.as_slice-stations.result.now i station c.loop-station.found c.in_ok-status.status old (omega (arith, c.loop-station-test.true)) c.station-item.is so_far (status_before station.code old mid c.in_ok-status.status there one));
    }

pub returns-in_err-status-clause-stays : goal.returns-in_err-status-clause-stays
returns-in_err-status-clause-stays g c =
    let old = state g.S.Store c.args.tx.now.conn.now in
    let mid = state g.S.Store c.loop-station.tx.conn.now in
    let was = c.loop-station.invariant in
    stays-then IsOpenInside IsInside g.S.Store c.args.tx.now c.loop-station.tx c.find_status.new.tx (λ early at. inside_still old mid (was.same early at) at.0) was.stays c.find_status.ensures.reads.stays

pub returns-clause-stays : goal.returns-clause-stays
returns-clause-stays g c = c.loop-station.invariant.stays

pub returns-clause-found : goal.returns-clause-found
returns-clause-found g c clean at setup returns known held =
    let stations = c.as_slice-stations.result.now in
    let old = state g.S.Store c.args.tx.now.conn.now in
    let all : stations ≡ c.args.con.now.stations = c.as_slice-stations.ensures.value ∙ ap (λ (x : Constituency). x.stations) c.con.view_is in
    subst (λ l. c.loop-station.found ≡ statuses_in returns l) all (finds_all stations c.loop-station.station-index c.loop-station.found old (omega (arith, c.loop-station-test.false)) (c.loop-station.invariant.found clean at) setup returns held)
