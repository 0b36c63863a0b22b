use Rattle.std.proofs.Common.{◌≡◌, ◌++◌, IfOk, sym, subst}
use Rattle.sqlite.specs.Held.{state}
use Rattle.tally_returns_rows.specs.Import.{IsCodedRow}
use Rattle.tally_returns_rows.specs.NamedRows.{named_row}
use Rattle.tally_store_commands.specs.internal.Counting.{CountsRow}
use Rattle.tally_store_commands.specs.internal.Lodging.{TakesRow}
use Rattle.tally_store_commands.proofs.rows.take_row.Goals as goal

pub returns-in-Lodge-clause-codes : goal.returns-in-Lodge-clause-codes
returns-in-Lodge-clause-codes g c = subst IsCodedRow (sym c.in-Lodge.is) c.take_ask.ensures.codes

pub returns-in-Lodge-clause-taken : goal.returns-in-Lodge-clause-taken
returns-in-Lodge-clause-taken g c =
    let old = state g.S.Store c.args.tx.now.conn.now in
    let new = state g.S.Store c.take_ask.new.tx.conn.now in
    subst (λ r. TakesRow c.args.setup.now r old new c.take_ask.result) (sym c.in-Lodge.is) c.take_ask.ensures.taken

pub returns-in-Lodge-clause-known : goal.returns-in-Lodge-clause-known
returns-in-Lodge-clause-known g c = subst (λ r. CountsRow c.args.setup.now r c.args.known.now c.take_ask.new.known c.take_ask.result) (sym c.in-Lodge.is) c.take_ask.ensures.known

pub returns-in-Lodge-clause-named : goal.returns-in-Lodge-clause-named
returns-in-Lodge-clause-named g c =
    subst (λ r. IfOk c.take_ask.result (λ answer. c.take_ask.new.named.items ≡ c.args.named.now.items ++ named_row c.args.number r answer)) (sym c.in-Lodge.is) c.take_ask.ensures.named
