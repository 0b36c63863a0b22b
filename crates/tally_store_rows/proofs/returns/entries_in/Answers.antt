use Rattle.std.proofs.Common.{◌≡◌, rules, arith, ap, ap₂, sym, ◌∙◌, ◌+◌, length, take, drop}
use Rattle.tally_setup.specs.Constituency.{Constituency}
use Rattle.tally_setup.specs.declared.constituency.Station.{Station}
use Rattle.tally_store_rows.specs.Reading.{entry_of}
use Rattle.tally_store_rows.proofs.EntryLemmas.{Reading, one_entry, no_station, too_few, no_entry, too_many, none_left}
use Rattle.tally_store_rows.proofs.returns.entries_in.Goals as goal

pub loop-row-preserved : goal.loop-row-preserved
loop-row-preserved c =
    let setup = c.args.setup.now in
    let rows = c.args.rows.now in
    let left = c.loop-row.left.now in
    let i = c.loop-row.row-index in
    let place : Constituency × Station = (c.in-Some.con.now, c.in-Some.station.now) in
    let items : c.len-items.result + 2 ≡ length place.0.lists + 2 = search rules in
    let mine = c.split_at.ensures.front ∙ ap (λ n. take n left) items in
    let rest = c.split_at.ensures.back ∙ ap (λ n. drop n left) items in
    let found = sym c.in-Some-2.is ∙ c.in_ok-entry.ensures ∙ ap (entry_of place.0.code place.1.code c.row-item.result) mine in
    ap₂ (λ es l. Reading setup es (drop (i + 1) rows) l) c.in_ok-push-in-Some-2.ensures.items rest
    ∙ sym (one_entry setup c.loop-row.entries.items rows left i c.row-item.result place _ c.loop-row-test.true c.row-item.is c.in-Some.ensures (omega (arith, items, c.if-left-items.false)) found) ∙ c.loop-row.invariant

pub returns-then-left-items : goal.returns-then-left-items
returns-then-left-items c =
    let place : Constituency × Station = (c.in-Some.con.now, c.in-Some.station.now) in
    let items : c.len-items.result + 2 ≡ length place.0.lists + 2 = search rules in
    sym (too_few c.args.setup.now c.loop-row.entries.items c.args.rows.now c.loop-row.left.now c.loop-row.row-index c.row-item.result place c.loop-row-test.true c.row-item.is c.in-Some.ensures (omega (arith, items, c.if-left-items.true))) ∙ c.loop-row.invariant

pub returns-in-None : goal.returns-in-None
returns-in-None c =
    let left = c.loop-row.left.now in
    let place : Constituency × Station = (c.in-Some.con.now, c.in-Some.station.now) in
    let items : c.len-items.result + 2 ≡ length place.0.lists + 2 = search rules in
    let mine = c.split_at.ensures.front ∙ ap (λ n. take n left) items in
    let none = sym c.in-None.is ∙ c.in_ok-entry.ensures ∙ ap (entry_of place.0.code place.1.code c.row-item.result) mine in
    sym (no_entry c.args.setup.now c.loop-row.entries.items c.args.rows.now left c.loop-row.row-index c.row-item.result place c.loop-row-test.true c.row-item.is c.in-Some.ensures (omega (arith, items, c.if-left-items.false)) none) ∙ c.loop-row.invariant

pub returns-then-is_empty : goal.returns-then-is_empty
returns-then-is_empty c =
    sym (none_left c.args.setup.now c.loop-row.entries.items c.args.rows.now c.loop-row.left.now c.loop-row.row-index c.loop-row-test.false (sym c.is_empty.ensures ∙ c.if-is_empty.true)) ∙ c.loop-row.invariant

pub returns-else-is_empty : goal.returns-else-is_empty
returns-else-is_empty c =
    sym (too_many c.args.setup.now c.loop-row.entries.items c.args.rows.now c.loop-row.left.now c.loop-row.row-index c.loop-row-test.false (sym c.is_empty.ensures ∙ c.if-is_empty.false)) ∙ c.loop-row.invariant

pub returns-in_default : goal.returns-in_default
returns-in_default c =
    sym (no_station c.args.setup.now c.loop-row.entries.items c.args.rows.now c.loop-row.left.now c.loop-row.row-index c.row-item.result c.loop-row-test.true c.row-item.is c.in_default.ensures) ∙ c.loop-row.invariant
