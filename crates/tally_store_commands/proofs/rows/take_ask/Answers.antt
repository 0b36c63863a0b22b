use Rattle.std.proofs.Common.{◌≡◌, ◌∙◌, ◌++◌, Some, ap, subst, sym}
use Rattle.tally_returns_rows.specs.declared.import.Row.TheVariants as row
use Rattle.tally_store_commands.specs.internal.Known.{known_of}
use Rattle.tally_store_commands.specs.internal.Counting.{known_after_row}
use Rattle.tally_store_commands.proofs.LodgeLemmas.{lodged-taken}
use Rattle.tally_store_commands.proofs.RowLemmas.{other-coded, other-taken, unanswered}
use Rattle.tally_store_commands.proofs.UnwrittenLemmas.{row-acts}
use Rattle.tally_returns_rows.specs.Import.{IsCodedRow}
use Rattle.sqlite.specs.Held.{state}
use Rattle.tally_returns_rows.specs.NamedRows.{named_row}
use Rattle.tally_store_commands.proofs.rows.take_ask.Goals as goal

pub returns-clause-taken : goal.returns-clause-taken
returns-clause-taken g c clean inside text s lawful tables =
    let way = c.in-Lodge in
    lodged-taken c.args.setup.now text s c.args.ask way.station way.slip way.counts c.in-Ok.answer _ way.is (c.in-Ok.ensures.lodged clean inside text s lawful tables)

pub returns-clause-known : goal.returns-clause-known
returns-clause-known g c =
    c.in-Ok.ensures.known ∙ sym (ap (λ a. known_after_row c.args.setup.now (row.Lodge a) (Some c.in-Ok.answer) (known_of c.args.known.now)) c.in-Lodge.is)

pub returns-clause-unwritten : goal.returns-clause-unwritten
returns-clause-unwritten g c clean at none = c.in-Ok.ensures.unwritten clean at (row-acts c.in-Ok.answer none)

pub returns-in_default-clause-named : goal.returns-in_default-clause-named
returns-in_default-clause-named g c = unanswered c.args.number c.args.named.now.items c.args.ask

pub returns-in_default-clause-codes : goal.returns-in_default-clause-codes
returns-in_default-clause-codes g c = other-coded c.args.ask c.in_default.not-Lodge

pub returns-in_default-clause-taken : goal.returns-in_default-clause-taken
returns-in_default-clause-taken g c clean inside text s lawful tables =
    other-taken c.args.setup.now text s c.args.ask (state g.S.Store c.args.tx.now.conn.now) c.in_default.not-Lodge (record { inside = inside; tables = tables })

pub returns-in-Err-clause-codes : goal.returns-in-Err-clause-codes
returns-in-Err-clause-codes g c = subst (λ a. IsCodedRow (row.Lodge a)) (sym c.in-Lodge.is) c.as_bytes-slip.ensures.code

pub returns-in_err-name_refused-clause-codes : goal.returns-in_err-name_refused-clause-codes
returns-in_err-name_refused-clause-codes g c = subst (λ a. IsCodedRow (row.Lodge a)) (sym c.in-Lodge.is) c.as_bytes-slip.ensures.code

pub returns-clause-codes : goal.returns-clause-codes
returns-clause-codes g c = subst (λ a. IsCodedRow (row.Lodge a)) (sym c.in-Lodge.is) c.as_bytes-slip.ensures.code

pub returns-clause-named : goal.returns-clause-named
returns-clause-named g c =
    subst (λ a. c.name_refused.new.named.items ≡ c.args.named.now.items ++ named_row c.args.number (row.Lodge a) (Some c.in-Ok.answer)) (sym c.in-Lodge.is)
    (c.in_ok-name_refused.ensures c.in-Lodge.slip c.in-Lodge.counts)
