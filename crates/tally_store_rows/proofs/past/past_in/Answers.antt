use Rattle.std.proofs.Common.{◌∙◌, ◌+◌, ◌-◌, length, ap, ap₂, sym, arith}
use Rattle.tally_store_rows.specs.Reading.{record_of}
use Rattle.tally_store_rows.proofs.PastLemmas.{Reading, one_record, no_record, none_left, too_many, some_left}
use Rattle.tally_store_rows.proofs.past.past_in.Goals as goal

pub loop-preserved : goal.loop-preserved
loop-preserved c =
    let con = c.args.con.now in
    let lists = c.args.lists in
    let rows = c.args.rows.now in
    let left = c.loop.left.now in
    let i = c.loop.counter in
    let some = some_left left (sym c.is_empty.ensures ∙ c.if-is_empty.false) in
    let found = sym c.in-Some.is ∙ c.in_ok-certificate.ensures ∙ ap (record_of con) c.split_at.ensures.front in
    ap₂ (λ ps l. Reading con lists ps (length rows - (i + 1)) l) c.in_ok-push-in-Some.ensures.items c.split_at.ensures.back
    ∙ sym (one_record con lists c.loop.past.items (length rows) i left _ c.loop-test.true some c.if-left-lists.false found) ∙ c.loop.invariant

pub returns-then-is_empty : goal.returns-then-is_empty
returns-then-is_empty c =
    sym (none_left c.args.con.now c.args.lists c.loop.past.items (length c.args.rows.now - c.loop.counter) c.loop.left.now (sym c.is_empty.ensures ∙ c.if-is_empty.true)) ∙ c.loop.invariant

pub returns-in-None : goal.returns-in-None
returns-in-None c =
    let con = c.args.con.now in
    let left = c.loop.left.now in
    let some = some_left left (sym c.is_empty.ensures ∙ c.if-is_empty.false) in
    let none = sym c.in-None.is ∙ c.in_ok-certificate.ensures ∙ ap (record_of con) c.split_at.ensures.front in
    sym (no_record con c.args.lists c.loop.past.items (length c.args.rows.now) c.loop.counter left c.loop-test.true some c.if-left-lists.false none) ∙ c.loop.invariant

pub returns-then-is_empty-2 : goal.returns-then-is_empty-2
returns-then-is_empty-2 c =
    sym (none_left c.args.con.now c.args.lists c.loop.past.items (length c.args.rows.now - c.loop.counter) c.loop.left.now (sym c.is_empty-2.ensures ∙ c.if-is_empty-2.true)) ∙ c.loop.invariant

pub returns-else-is_empty-2 : goal.returns-else-is_empty-2
returns-else-is_empty-2 c =
    sym (too_many c.args.con.now c.args.lists c.loop.past.items (length c.args.rows.now - c.loop.counter) c.loop.left.now (omega (arith, c.loop-test.false)) (sym c.is_empty-2.ensures ∙ c.if-is_empty-2.false)) ∙ c.loop.invariant
