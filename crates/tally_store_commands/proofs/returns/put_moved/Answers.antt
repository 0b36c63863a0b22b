use Rattle.std.proofs.Common.{sym, subst, arith}
use Rattle.sqlite.specs.Held.{state}
use Rattle.tally_store_entries.specs.internal.Entries.{CorrectsReturn}
use Rattle.tally_store_commands.specs.internal.Found.{MovesTo, after_move}
use Rattle.tally_store_commands.specs.internal.Moves.{PutsMoved}
use Rattle.tally_store_commands.proofs.MovedLemmas.{corrected_moved, corrected_so, queried_so}
use Rattle.tally_store_commands.proofs.returns.put_moved.Goals as goal

pub put_queried-requires : goal.put_queried-requires
put_queried-requires g c =
    let moves = subst (λ a. MovesTo c.args.con.now a c.args.before.now c.args.standing.now) c.in-Query.is c.requires.moves in
    record { few = c.requires.few; queried = moves.0; same_counts = moves.1 }

pub returns-in-Query-clause-put : goal.returns-in-Query-clause-put
returns-in-Query-clause-put g c =
    let con = c.args.con.now in
    let before = c.args.before.now in
    let old = state g.S.Store c.args.tx.now.conn.now in
    let new = state g.S.Store c.put_queried.new.tx.conn.now in
    subst (λ a. PutsMoved (after_move con c.args.station a c.args.standing.now) con c.args.station before old new c.put_queried.result) (sym c.in-Query.is) c.put_queried.ensures.put

pub correct_return-requires : goal.correct_return-requires
correct_return-requires g c =
    let moves = subst (λ a. MovesTo c.args.con.now a c.args.before.now c.args.standing.now) c.in-Correct.is c.requires.moves in
    record { few = omega (arith, moves.2, c.requires.few) }

pub returns-in-Correct-clause-put : goal.returns-in-Correct-clause-put
returns-in-Correct-clause-put g c =
    let con = c.args.con.now in
    let station = c.args.station in
    let before = c.args.before.now in
    let standing = c.args.standing.now in
    let old = state g.S.Store c.args.tx.now.conn.now in
    let new = state g.S.Store c.correct_return.new.tx.conn.now in
    let moves = subst (λ a. MovesTo con a before standing) c.in-Correct.is c.requires.moves in
    let corrects = subst (λ k. CorrectsReturn k standing old new c.correct_return.result) c.as_str.ensures.text c.correct_return.ensures.corrected in
    subst (λ a. PutsMoved (after_move con station a standing) con station before old new c.correct_return.result) (sym c.in-Correct.is)
    (λ clean inside setup place text s limits at lawful is_open stood tables.
    corrected_moved setup text s con place station before standing old new c.correct_return.result clean inside at lawful stood (queried_so before moves.0) (corrected_so standing moves.1) moves.2 tables corrects)

pub put_closed-requires : goal.put_closed-requires
put_closed-requires g c =
    let moves = subst (λ a. MovesTo c.args.con.now a c.args.before.now c.args.standing.now) c.in-Close.is c.requires.moves in
    record { few = c.requires.few; «open» = moves.0; closed = moves.1; same_counts = moves.2 }

pub returns-in-Close-clause-put : goal.returns-in-Close-clause-put
returns-in-Close-clause-put g c =
    let con = c.args.con.now in
    let before = c.args.before.now in
    let old = state g.S.Store c.args.tx.now.conn.now in
    let new = state g.S.Store c.put_closed.new.tx.conn.now in
    subst (λ a. PutsMoved (after_move con c.args.station a c.args.standing.now) con c.args.station before old new c.put_closed.result) (sym c.in-Close.is) c.put_closed.ensures.put

pub put_closed-requires-in-Confirm : goal.put_closed-requires-in-Confirm
put_closed-requires-in-Confirm g c =
    let moves = subst (λ a. MovesTo c.args.con.now a c.args.before.now c.args.standing.now) c.in-Confirm.is c.requires.moves in
    record { few = c.requires.few; «open» = moves.0; closed = moves.1; same_counts = moves.2 }

pub returns-in-Confirm-clause-put : goal.returns-in-Confirm-clause-put
returns-in-Confirm-clause-put g c =
    let con = c.args.con.now in
    let before = c.args.before.now in
    let old = state g.S.Store c.args.tx.now.conn.now in
    let new = state g.S.Store c.put_closed-in-Confirm.new.tx.conn.now in
    subst (λ a. PutsMoved (after_move con c.args.station a c.args.standing.now) con c.args.station before old new c.put_closed-in-Confirm.result) (sym c.in-Confirm.is) c.put_closed-in-Confirm.ensures.put
