use Rattle.std.proofs.Common.{◌≡◌, ◌∙◌, ◌+◌, [], false, Ok, ap, subst}
use Rattle.sqlite.specs.State.{HasCleanDisk}
use Rattle.sqlite.specs.Held.{state}
use Rattle.tally_setup.specs.Constituency.{Constituency}
use Rattle.tally_setup.specs.Limits.{IsConstituency}
use Rattle.tally_returns.specs.State.{con_state}
use Rattle.tally_returns.specs.View.{View, past_records}
use Rattle.tally_store_entries.specs.internal.Constituencies.{with_past_of}
use Rattle.tally_machine_law.specs.Step.{open_again}
use Rattle.tally_store_schema.proofs.StaysLemmas.{clean_first, stays-both}
use Rattle.tally_store_commands.proofs.RecordLemmas.{decides-whole}
use Rattle.tally_store_commands.proofs.ChangeLemmas.{holds, reopened_carried}
use Rattle.tally_store_commands.proofs.DecidedLemmas.{record_few}
use Rattle.tally_store_commands.proofs.WriteLemmas.{con_moved, record_written, seats_written}
use Rattle.tally_store_commands.proofs.changes.set_reopened.Goals as goal

pub put_record-requires : goal.put_record-requires
put_record-requires g c = record { few = record_few c.args.con.now c.args.view.now c.args.ask.now c.args.note.now c.args.past.now (subst IsConstituency c.con.view_is c.con.invariant).lists c.requires.fits c.requires.decided }

pub returns-in_err-put_seats-clause-stays : goal.returns-in_err-put_seats-clause-stays
returns-in_err-put_seats-clause-stays g c = stays-both g.S.Store c.args.tx.now c.put_con.new.tx c.put_seats.new.tx c.put_con.ensures.stays c.put_seats.ensures.stays

pub returns-in_err-put_record-clause-stays : goal.returns-in_err-put_record-clause-stays
returns-in_err-put_record-clause-stays g c =
    stays-both g.S.Store c.args.tx.now c.put_seats.new.tx c.put_record.new.tx (stays-both g.S.Store c.args.tx.now c.put_con.new.tx c.put_seats.new.tx c.put_con.ensures.stays c.put_seats.ensures.stays) c.put_record.ensures.stays

pub returns-clause-stays : goal.returns-clause-stays
returns-clause-stays g c =
    stays-both g.S.Store c.args.tx.now c.put_seats.new.tx c.put_record.new.tx (stays-both g.S.Store c.args.tx.now c.put_con.new.tx c.put_seats.new.tx c.put_con.ensures.stays c.put_seats.ensures.stays) c.put_record.ensures.stays

pub returns-clause-carried_out : goal.returns-clause-carried_out
returns-clause-carried_out g c clean inside text s lawful seen tables =
    let setup = c.args.setup.now in
    let con = c.args.con.now in
    let whole_past = past_records (con_state s con.code).past in
    let old = state g.S.Store c.args.tx.now.conn.now in
    let mid = state g.S.Store c.put_con.new.tx.conn.now in
    let last = state g.S.Store c.put_seats.new.tx.conn.now in
    let new = state g.S.Store c.put_record.new.tx.conn.now in
    let edition = c.view.inside.edition + 1 in
    let key = c.as_str-code.result.now in
    let note = c.args.note.now in
    let past = c.args.past.now in
    let view = c.args.view.now in
    let key_is : key ≡ con.code = c.as_str-code.ensures.text ∙ ap (λ (x : Constituency). x.code) c.con.view_is in
    let edition_is : edition ≡ view.edition + 1 = ap (λ (v : View). v.edition + 1) c.view.view_is in
    let later : HasCleanDisk last = clean_first c.put_record.ensures.stays.survives clean in
    let early : HasCleanDisk mid = clean_first c.put_seats.ensures.stays.survives later in
    let first = con_moved key edition false note old mid (holds setup text s con key old key_is c.requires.found lawful tables) (c.in_ok-put_con.ensures.written early inside) in
    let second = seats_written key edition false note [] old mid last first (c.in_ok-put_seats.ensures.seats later first.0.inside) in
    let written = record_written key edition note past old last new second (c.in_ok-put_record.ensures.written clean second.only.inside) in
    reopened_carried setup text s con (with_past_of con s view) c.args.ask.now note key past edition old new c.requires.found (decides-whole con view whole_past c.args.ask.now (Ok (open_again note past)) c.requires.decided)
    (record { key_is = key_is; edition_is = edition_is }) lawful seen tables written
