use Rattle.std.proofs.Common.{◌≡◌, ◌∙◌, ◌+◌, Ok, ap, subst}
use Rattle.sqlite.specs.State.{HasCleanDisk}
use Rattle.sqlite.specs.Held.{state}
use Rattle.tally_setup.specs.Constituency.{Constituency}
use Rattle.tally_returns.specs.State.{con_state}
use Rattle.tally_returns.specs.View.{View, past_records}
use Rattle.tally_store_commands.specs.internal.Changes.{HasWrittenLot}
use Rattle.tally_store_entries.specs.internal.Constituencies.{with_past_of}
use Rattle.tally_machine_law.specs.Step.{lot_set}
use Rattle.tally_store_schema.proofs.StaysLemmas.{clean_first, stays-both}
use Rattle.tally_store_commands.proofs.RecordLemmas.{decides-whole}
use Rattle.tally_store_commands.proofs.ChangeLemmas.{holds, lot_carried}
use Rattle.tally_store_commands.proofs.DecidedLemmas.{lot_few}
use Rattle.tally_store_commands.proofs.WriteLemmas.{con_moved, lot_written}
use Rattle.tally_store_commands.proofs.changes.set_lot.Goals as goal

pub put_lot-requires : goal.put_lot-requires
put_lot-requires g c = record { few = lot_few c.args.con.now c.args.view.now c.args.ask.now c.args.lot.now c.requires.decided }

pub returns-in_err-put_lot-clause-stays : goal.returns-in_err-put_lot-clause-stays
returns-in_err-put_lot-clause-stays g c = stays-both g.S.Store c.args.tx.now c.put_con.new.tx c.put_lot.new.tx c.put_con.ensures.stays c.put_lot.ensures.stays

pub returns-clause-stays : goal.returns-clause-stays
returns-clause-stays g c = stays-both g.S.Store c.args.tx.now c.put_con.new.tx c.put_lot.new.tx c.put_con.ensures.stays c.put_lot.ensures.stays

pub returns-clause-carried_out : goal.returns-clause-carried_out
returns-clause-carried_out g c clean inside text s lawful seen tables =
    let setup = c.args.setup.now in
    let con = c.args.con.now in
    let whole_past = past_records (con_state s con.code).past in
    let old = state g.S.Store c.args.tx.now.conn.now in
    let mid = state g.S.Store c.put_con.new.tx.conn.now in
    let new = state g.S.Store c.put_lot.new.tx.conn.now in
    let edition = c.view.inside.edition + 1 in
    let certified = c.view.inside.certified in
    let note = c.as_str.result.now in
    let key = c.as_str-code.result.now in
    let lot = c.args.lot.now in
    let view = c.args.view.now in
    let key_is : key ≡ con.code = c.as_str-code.ensures.text ∙ ap (λ (x : Constituency). x.code) c.con.view_is in
    let edition_is : edition ≡ view.edition + 1 = ap (λ (v : View). v.edition + 1) c.view.view_is in
    let certified_is : certified ≡ view.certified = ap (λ (v : View). v.certified) c.view.view_is in
    let note_is : note ≡ view.note = c.as_str.ensures.value ∙ ap (λ (v : View). v.note) c.view.view_is in
    let early : HasCleanDisk mid = clean_first c.put_lot.ensures.stays.survives clean in
    let first = con_moved key edition certified note old mid (holds setup text s con key old key_is c.requires.found lawful tables) (c.in_ok-put_con.ensures.written early inside) in
    let written = lot_written key edition certified note lot old mid new first (c.in_ok-put_lot.ensures.lots clean first.0.inside) in
    lot_carried setup text s con (with_past_of con s view) c.args.ask.now lot key edition old new c.requires.found (decides-whole con view whole_past c.args.ask.now (Ok (lot_set lot)) c.requires.decided) (record { key_is = key_is; edition_is = edition_is }) lawful seen tables
    (subst (λ b. HasWrittenLot key edition b view.note lot old new) certified_is (subst (λ n. HasWrittenLot key edition certified n lot old new) note_is written))
