use Rattle.std.proofs.Common.{◌∙◌, Ok, Err, refl, sym, ap, subst, true≢false}
use Rattle.std.specs.Prelude.{⊤}
use Rattle.sqlite.specs.State.{HasCleanDisk}
use Rattle.sqlite.specs.Held.{state}
use Rattle.tally_keeper.specs.Events.{as_answer}
use Rattle.tally_machine_law.specs.Runs.{is_act}
use Rattle.tally_setup.specs.Constituency.{Constituency}
use Rattle.tally_returns.specs.declared.refusal.Refusal.TheVariants.{NoStation}
use Rattle.tally_store_commands.specs.internal.Known.{known_of}
use Rattle.tally_store_commands.specs.internal.Counting.{known_after_lodge}
use Rattle.tally_store_commands.specs.internal.Lodging.{IsLodgeAnswer}
use Rattle.tally_store_commands.proofs.KnownLemmas.{lodge-counted}
use Rattle.tally_store_commands.proofs.LodgedLemmas.{answer-nowhere, lodged-first, lodged-refused, lodged-same, still}
use Rattle.tally_store_schema.specs.Office.{IsInside}
use Rattle.tally_store_schema.proofs.StaysLemmas.{clean_first, stays-then}
use Rattle.tally_store_commands.proofs.returns.lodge.Goals as goal

pub returns-in_default-clause-lodged : goal.returns-in_default-clause-lodged
returns-in_default-clause-lodged g c clean inside text s lawful tables =
    lodged-refused c.args.setup.now text s c.args.station c.args.slip c.args.counts.now (Err NoStation) NoStation (state g.S.Store c.args.tx.now.conn.now) (state g.S.Store c.see_open.new.tx.conn.now)
    (λ text s lawful tables. answer-nowhere c.args.setup.now s.returns c.args.station c.args.slip c.args.counts.now (sym c.in_default.ensures.found)) refl (c.in_ok-see_open.ensures.reads.same clean inside) inside lawful tables

pub returns-in_default-answer-clause-lodged : goal.returns-in_default-answer-clause-lodged
returns-in_default-answer-clause-lodged g c clean inside text s lawful tables =
    let done = c.in_ok-answer.ensures in
    lodged-refused c.args.setup.now text s c.args.station c.args.slip c.args.counts.now c.in_ok-answer.answer c.in_default-answer.field-0 (state g.S.Store c.args.tx.now.conn.now) (state g.S.Store c.decide_first.new.tx.conn.now)
    (done.decided clean inside) c.in_default-answer.is (done.reads.same clean inside) inside lawful tables

pub returns-in_default-reply-clause-lodged : goal.returns-in_default-reply-clause-lodged
returns-in_default-reply-clause-lodged g c clean inside text s lawful tables =
    let old = state g.S.Store c.args.tx.now.conn.now in
    let done = c.in_ok-answer.ensures in
    let answers = subst (IsLodgeAnswer c.args.setup.now c.args.station c.args.slip c.args.counts.now old) c.in-Ok.is (done.decided clean inside) in
    lodged-same c.args.setup.now text s c.args.station c.args.slip c.args.counts.now (Ok c.in-Ok.reply) c.in_default-reply.field-0 old (state g.S.Store c.decide_first.new.tx.conn.now)
    answers (ap Ok c.in_default-reply.is) (done.reads.same clean inside) inside lawful tables

pub returns-clause-lodged : goal.returns-clause-lodged
returns-clause-lodged g c clean inside text s lawful tables =
    let setup = c.args.setup.now in
    let old = state g.S.Store c.args.tx.now.conn.now in
    let mid = state g.S.Store c.decide_first.new.tx.conn.now in
    let new = state g.S.Store c.put_first.new.tx.conn.now in
    let early : HasCleanDisk mid = clean_first c.put_first.ensures.stays.survives clean in
    let done = c.in_ok-answer.ensures in
    let answers = subst (IsLodgeAnswer setup c.args.station c.args.slip c.args.counts.now old) c.in-Ok.is (done.decided early inside) in
    lodged-first setup text s c.args.station c.args.slip c.args.counts.now c.in-Some.con.now c.in-Some.place.now (Ok c.in-Ok.reply) c.in-Lodged.rev mid new clean (sym c.in-Some.ensures.found)
    (answers text s lawful tables) (ap Ok c.in-Lodged.is) (still setup text s old mid (done.reads.same early inside) inside tables) c.in_ok-put_first.ensures.added

pub returns-in_default-answer-clause-known : goal.returns-in_default-answer-clause-known
returns-in_default-answer-clause-known g c = sym (ap (λ r. known_after_lodge c.args.setup.now c.args.station r (known_of c.args.known.now)) c.in_default-answer.is)

pub returns-in_default-reply-clause-known : goal.returns-in_default-reply-clause-known
returns-in_default-reply-clause-known g c = sym (ap (λ r. known_after_lodge c.args.setup.now c.args.station (Ok r) (known_of c.args.known.now)) c.in_default-reply.is)

pub returns-clause-known : goal.returns-clause-known
returns-clause-known g c =
    lodge-counted c.args.setup.now c.args.station c.con.inside.code c.in-Some.con.now c.in-Some.place.now c.in-Ok.reply c.in-Lodged.rev (known_of c.args.known.now) (known_of c.count_move.new.known) (sym c.in-Some.ensures.found)
    (ap (λ (x : Constituency). x.code) c.con.view_is) c.in-Lodged.is c.count_move.ensures

pub returns-in_default-clause-unwritten : goal.returns-in_default-clause-unwritten
returns-in_default-clause-unwritten g c clean at acts = c.in_ok-see_open.ensures.reads.same clean at.0

pub returns-in_default-answer-clause-unwritten : goal.returns-in_default-answer-clause-unwritten
returns-in_default-answer-clause-unwritten g c clean at acts = c.in_ok-answer.ensures.reads.same clean at.0

pub returns-in_default-reply-clause-unwritten : goal.returns-in_default-reply-clause-unwritten
returns-in_default-reply-clause-unwritten g c clean at acts = c.in_ok-answer.ensures.reads.same clean at.0

pub returns-clause-unwritten : goal.returns-clause-unwritten
returns-clause-unwritten g c clean at acts = absurd (true≢false (sym (ap (λ r. is_act (as_answer (Ok r))) c.in-Lodged.is) ∙ acts))

pub returns-clause-answered_open : goal.returns-clause-answered_open
returns-clause-answered_open g c clean = c.in_ok-answer.ensures.reads.answered_open (clean_first c.put_first.ensures.stays.survives clean)

pub returns-in_err-put_first-clause-stays : goal.returns-in_err-put_first-clause-stays
returns-in_err-put_first-clause-stays g c =
    stays-then IsInside (λ _. ⊤) g.S.Store c.args.tx.now c.decide_first.new.tx c.put_first.new.tx (λ _ _. tt) c.decide_first.ensures.reads.stays c.put_first.ensures.stays

pub returns-clause-stays : goal.returns-clause-stays
returns-clause-stays g c =
    stays-then IsInside (λ _. ⊤) g.S.Store c.args.tx.now c.decide_first.new.tx c.put_first.new.tx (λ _ _. tt) c.decide_first.ensures.reads.stays c.put_first.ensures.stays
