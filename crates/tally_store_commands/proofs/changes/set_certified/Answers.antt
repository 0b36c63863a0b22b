use Rattle.std.proofs.Common.{◌≡◌, ◌∙◌, ◌+◌, true, Ok, ap, subst}
use Rattle.sqlite.specs.State.{HasCleanDisk}
use Rattle.sqlite.specs.Held.{state}
use Rattle.tally_setup.specs.Constituency.{Constituency}
use Rattle.tally_setup.specs.Limits.{IsConstituency}
use Rattle.tally_returns.specs.State.{con_state}
use Rattle.tally_returns.specs.View.{View, past_records}
use Rattle.tally_store_commands.specs.internal.Changes.{HasWrittenSeats}
use Rattle.tally_store_entries.specs.internal.Constituencies.{with_past_of}
use Rattle.tally_machine_law.specs.Step.{certified_with}
use Rattle.tally_store_schema.proofs.StaysLemmas.{clean_first, stays-both}
use Rattle.tally_store_commands.proofs.RecordLemmas.{decides-whole}
use Rattle.tally_store_commands.proofs.ChangeLemmas.{holds, certified_carried}
use Rattle.tally_store_commands.proofs.DecidedLemmas.{seats_few}
use Rattle.tally_store_commands.proofs.WriteLemmas.{con_moved, seats_written}
use Rattle.tally_store_commands.proofs.changes.set_certified.Goals as goal

pub put_seats-requires : goal.put_seats-requires
put_seats-requires g c = record { few = seats_few c.args.con.now c.args.view.now c.args.ask.now c.args.seats.now (subst IsConstituency c.con.view_is c.con.invariant).lists c.requires.fits c.requires.decided }

pub returns-in_err-put_seats-clause-stays : goal.returns-in_err-put_seats-clause-stays
returns-in_err-put_seats-clause-stays g c = stays-both g.S.Store c.args.tx.now c.put_con.new.tx c.put_seats.new.tx c.put_con.ensures.stays c.put_seats.ensures.stays

pub returns-clause-stays : goal.returns-clause-stays
returns-clause-stays g c = stays-both g.S.Store c.args.tx.now c.put_con.new.tx c.put_seats.new.tx c.put_con.ensures.stays c.put_seats.ensures.stays

pub returns-clause-carried_out : goal.returns-clause-carried_out
returns-clause-carried_out g c clean inside text s lawful seen tables =
    let setup = c.args.setup.now in
    let con = c.args.con.now in
    let whole_past = past_records (con_state s con.code).past in
    let old = state g.S.Store c.args.tx.now.conn.now in
    let mid = state g.S.Store c.put_con.new.tx.conn.now in
    let new = state g.S.Store c.put_seats.new.tx.conn.now in
    let edition = c.view.inside.edition + 1 in
    let note = c.as_str.result.now in
    let key = c.as_str-code.result.now in
    let seats = c.args.seats.now in
    let view = c.args.view.now in
    let key_is : key ≡ con.code = c.as_str-code.ensures.text ∙ ap (λ (x : Constituency). x.code) c.con.view_is in
    let edition_is : edition ≡ view.edition + 1 = ap (λ (v : View). v.edition + 1) c.view.view_is in
    let note_is : note ≡ view.note = c.as_str.ensures.value ∙ ap (λ (v : View). v.note) c.view.view_is in
    let early : HasCleanDisk mid = clean_first c.put_seats.ensures.stays.survives clean in
    let first = con_moved key edition true note old mid (holds setup text s con key old key_is c.requires.found lawful tables) (c.in_ok-put_con.ensures.written early inside) in
    let written = seats_written key edition true note seats old mid new first (c.in_ok-put_seats.ensures.seats clean first.0.inside) in
    certified_carried setup text s con (with_past_of con s view) c.args.ask.now seats key edition old new c.requires.found (decides-whole con view whole_past c.args.ask.now (Ok (certified_with seats)) c.requires.decided) (record { key_is = key_is; edition_is = edition_is }) lawful seen tables
    (subst (λ n. HasWrittenSeats key edition true n seats old new) note_is written)
