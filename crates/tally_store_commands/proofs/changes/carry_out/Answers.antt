use Rattle.std.proofs.Common.{Ok, ap, subst, sym}
use Rattle.std.specs.Prelude.{string_bytes}
use Rattle.sqlite.specs.Held.{state}
use Rattle.tally_machine_law.specs.Step.{Decides, certified_with, con_change, gone_for_good, lot_set, open_again}
use Rattle.tally_store_commands.specs.internal.Changes.{CarriesDecided}
use Rattle.tally_store_commands.proofs.ChangeLemmas.{change_carried, decided-as}
use Rattle.tally_store_commands.proofs.changes.carry_out.Goals as goal

pub returns-in-SetLot-clause-carried_out : goal.returns-in-SetLot-clause-carried_out
returns-in-SetLot-clause-carried_out g c =
    let setup = c.args.setup.now in
    let con = c.args.con.now in
    let view = c.args.view.now in
    let old = state g.S.Store c.args.tx.now.conn.now in
    let new = state g.S.Store c.set_lot.new.tx.conn.now in
    let r = c.set_lot.result in
    change_carried setup con view c.args.change (lot_set c.in-SetLot.lot.items) old new r (ap con_change c.in-SetLot.is)
    (subst (λ l. CarriesDecided setup con view (lot_set l) old new r) c.deref.ensures.value c.set_lot.ensures.carried_out)

pub returns-in-SetCertified-clause-carried_out : goal.returns-in-SetCertified-clause-carried_out
returns-in-SetCertified-clause-carried_out g c =
    let setup = c.args.setup.now in
    let con = c.args.con.now in
    let view = c.args.view.now in
    let old = state g.S.Store c.args.tx.now.conn.now in
    let new = state g.S.Store c.set_certified.new.tx.conn.now in
    let r = c.set_certified.result in
    change_carried setup con view c.args.change (certified_with c.in-SetCertified.seats.items) old new r (ap con_change c.in-SetCertified.is)
    (subst (λ l. CarriesDecided setup con view (certified_with l) old new r) c.deref-in-SetCertified.ensures.value c.set_certified.ensures.carried_out)

pub returns-in-SetReopened-clause-carried_out : goal.returns-in-SetReopened-clause-carried_out
returns-in-SetReopened-clause-carried_out g c =
    let setup = c.args.setup.now in
    let con = c.args.con.now in
    let view = c.args.view.now in
    let past = c.in-SetReopened.past in
    let old = state g.S.Store c.args.tx.now.conn.now in
    let new = state g.S.Store c.set_reopened.new.tx.conn.now in
    let r = c.set_reopened.result in
    change_carried setup con view c.args.change (open_again (string_bytes c.in-SetReopened.note) past) old new r (ap con_change c.in-SetReopened.is)
    (subst (λ n. CarriesDecided setup con view (open_again n past) old new r) c.as_str.ensures.value c.set_reopened.ensures.carried_out)

pub returns-in-SetGone-clause-carried_out : goal.returns-in-SetGone-clause-carried_out
returns-in-SetGone-clause-carried_out g c =
    let old = state g.S.Store c.args.tx.now.conn.now in
    let new = state g.S.Store c.set_gone.new.tx.conn.now in
    change_carried c.args.setup.now c.args.con.now c.args.view.now c.args.change (gone_for_good c.in-SetGone.gone c.in-SetGone.next) old new c.set_gone.result (ap con_change c.in-SetGone.is) c.set_gone.ensures.carried_out

pub set_lot-requires-clause-decided : goal.set_lot-requires-clause-decided
set_lot-requires-clause-decided g c =
    subst (λ l. Decides c.args.con.now c.args.view.now c.args.ask.now (Ok (lot_set l))) (sym c.deref.ensures.value)
    (decided-as c.args.con.now c.args.view.now c.args.ask.now c.args.change (lot_set c.in-SetLot.lot.items) (ap con_change c.in-SetLot.is) c.requires.decided)

pub set_certified-requires-clause-decided : goal.set_certified-requires-clause-decided
set_certified-requires-clause-decided g c =
    subst (λ l. Decides c.args.con.now c.args.view.now c.args.ask.now (Ok (certified_with l))) (sym c.deref-in-SetCertified.ensures.value)
    (decided-as c.args.con.now c.args.view.now c.args.ask.now c.args.change (certified_with c.in-SetCertified.seats.items) (ap con_change c.in-SetCertified.is) c.requires.decided)

pub set_reopened-requires-clause-decided : goal.set_reopened-requires-clause-decided
set_reopened-requires-clause-decided g c =
    subst (λ l. Decides c.args.con.now c.args.view.now c.args.ask.now (Ok (open_again l c.in-SetReopened.past))) (sym c.as_str.ensures.value)
    (decided-as c.args.con.now c.args.view.now c.args.ask.now c.args.change (open_again (string_bytes c.in-SetReopened.note) c.in-SetReopened.past) (ap con_change c.in-SetReopened.is) c.requires.decided)

pub set_gone-requires-clause-decided : goal.set_gone-requires-clause-decided
set_gone-requires-clause-decided g c = decided-as c.args.con.now c.args.view.now c.args.ask.now c.args.change (gone_for_good c.in-SetGone.gone c.in-SetGone.next) (ap con_change c.in-SetGone.is) c.requires.decided
