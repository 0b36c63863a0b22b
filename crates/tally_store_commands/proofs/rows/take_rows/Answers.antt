use Rattle.std.proofs.Common.{[], ◌+◌, Ok, refl, subst, arith}
use Rattle.sqlite.proofs.Callers.{unchanged_then}
use Rattle.sqlite.proofs.StateLemmas.{unchanged}
use Rattle.sqlite.specs.State.{HasCleanDisk}
use Rattle.sqlite.specs.Held.{state}
use Rattle.tally_keeper.proofs.TakenLemmas.{GivesAt}
use Rattle.tally_returns_rows.specs.Delivery.{delivery, source_at}
use Rattle.tally_store_schema.specs.Office.{IsInside}
use Rattle.tally_store_commands.specs.internal.Inside.{IsLawfulInside}
use Rattle.tally_store_commands.specs.internal.Known.{known_of}
use Rattle.tally_store_commands.proofs.KnownLemmas.{forgets-row, forgets-then}
use Rattle.tally_store_commands.proofs.RowLemmas.{came-end, came-fault, came-long, came-next, came-own, came-start, counted-below, counted-next, lodges-failed, none-named, rows-end, rows-named, rows-next, rows-start}
use Rattle.tally_store_entries.proofs.FindLemmas.{inside_still}
use Rattle.tally_store_commands.proofs.UnwrittenLemmas.{none-lodged}
use Rattle.tally_store_schema.proofs.StaysLemmas.{clean_first, stays-same, stays-then}
use Rattle.tally_store_commands.proofs.rows.take_rows.Goals as goal

pub loop-before-init : goal.loop-before-init
loop-before-init g c =
    let all = source_at g.R.RowSource c.args.source.now in
    let old = state g.S.Store c.args.tx.now.conn.now in
    record {
      stays = stays-same (IsLawfulInside c.args.setup.now) g.S.Store c.args.tx.now;
      came = came-start all;
      counted = ([], c.new-count.ensures, refl);
      taken = λ clean inside text s lawful tables. rows-start c.args.setup.now text s all c.new-count.result (known_of c.args.known.now) c.args.named.now.items old c.new-count.ensures lawful (record { inside = inside; tables = tables });
      forgets = λ code had. had;
      unwritten = λ clean at none. unchanged old at.1;
    }

pub returns-in_err-answer-clause-stays : goal.returns-in_err-answer-clause-stays
returns-in_err-answer-clause-stays g c =
    let was = c.loop-before.invariant in
    stays-then (IsLawfulInside c.args.setup.now) IsInside g.S.Store c.args.tx.now c.loop-before.tx c.take_row.new.tx
    (λ early at. (was.taken early at.inside at.text at.office at.lawful at.tables).in_state.inside) was.stays c.take_row.ensures.stays

pub add_row-requires : goal.add_row-requires
add_row-requires g c = record { below = counted-below c.loop-before.count c.loop-before.before c.loop-before.invariant.counted }

pub loop-before-preserved : goal.loop-before-preserved
loop-before-preserved g c =
    let left = source_at g.R.RowSource in
    let setup = c.args.setup.now in
    let all = left c.args.source.now in
    let old = state g.S.Store c.args.tx.now.conn.now in
    let mid = state g.S.Store c.loop-before.tx.conn.now in
    let new = state g.S.Store c.take_row.new.tx.conn.now in
    let row = c.in-Some.row in
    let came = left c.loop-before.source in
    let comes = left c.next_row.new.self in
    let ensured = c.in_ok-row.ensures in
    let given = subst (λ r. GivesAt came (Ok r) comes) c.in-Some.is (ensured.gives, ensured.gave, ensured.ends) in
    let was = c.loop-before.invariant in
    record {
      stays = stays-then (IsLawfulInside setup) IsInside g.S.Store c.args.tx.now c.loop-before.tx c.take_row.new.tx
          (λ early at. (was.taken early at.inside at.text at.office at.lawful at.tables).in_state.inside) was.stays c.take_row.ensures.stays;
      came = came-next all came comes c.loop-before.before row was.came c.take_row.ensures.codes given;
      counted = counted-next c.loop-before.count c.add_row.new.self c.loop-before.before c.in_ok-answer.answer was.counted c.add_row.ensures;
      taken = λ clean inside text s lawful tables.
          let early : HasCleanDisk mid = clean_first c.take_row.ensures.stays.survives clean in
          let so_far = was.taken early inside text s lawful tables in
          rows-next setup text s all came comes c.loop-before.count c.add_row.new.self c.loop-before.before row c.in_ok-answer.answer (known_of c.args.known.now) (known_of c.loop-before.known) (known_of c.take_row.new.known)
          c.args.named.now.items c.loop-before.named.items c.take_row.new.named.items mid new c.cons-cons.ensures.limits so_far c.take_row.ensures.codes given
          (c.in_ok-answer.ensures.taken clean so_far.in_state.inside text (record s { returns = so_far.returns }) so_far.lawful so_far.in_state.tables) c.in_ok-answer.ensures.known c.add_row.ensures c.in_ok-answer.ensures.named;
      forgets =
          let known = known_of c.loop-before.known in
          let after = known_of c.take_row.new.known in
          forgets-then (known_of c.args.known.now) known after was.forgets (forgets-row setup row c.in_ok-answer.answer known after c.in_ok-answer.ensures.known);
      unwritten = λ clean at none.
          let early : HasCleanDisk mid = clean_first c.take_row.ensures.stays.survives clean in
          let both = none-lodged c.loop-before.count c.add_row.new.self (c.loop-before.before + 1) c.in_ok-answer.answer c.add_row.ensures none in
          let same = was.unwritten early at both.0 in
          unchanged_then old mid new same (c.in_ok-answer.ensures.unwritten clean (inside_still old mid same at.0, same.0.is_open) both.1);
    }

pub returns-in_default-clause-lodges : goal.returns-in_default-clause-lodges
returns-in_default-clause-lodges g c =
    let left = source_at g.R.RowSource in
    let ensured = c.in_ok-row.ensures in
    let was = c.loop-before.invariant in
    let given = subst (λ r. GivesAt (left c.loop-before.source) (Ok r) (left c.next_row.new.self)) c.in_default.is (ensured.gives, ensured.gave, ensured.ends) in
    record {
      imported = λ clean inside text s lawful tables.
          rows-end c.args.setup.now text s (left c.args.source.now) (left c.loop-before.source) (left c.next_row.new.self) c.loop-before.count c.loop-before.before (known_of c.args.known.now) (known_of c.loop-before.known) c.args.named.now.items c.loop-before.named.items _
          (was.taken clean inside text s lawful tables) (omega (arith, c.loop-before-test.true)) given;
      gave = came-end (left c.args.source.now) (left c.loop-before.source) (left c.next_row.new.self) c.loop-before.before was.came (omega (arith, c.loop-before-test.true)) given;
      fault = tt;
      forgets = was.forgets;
      unwritten = λ clean at. was.unwritten clean at;
    }

pub returns-in_err-row-clause-lodges : goal.returns-in_err-row-clause-lodges
returns-in_err-row-clause-lodges g c =
    let left = source_at g.R.RowSource in
    let ensured = c.in_err-row.ensures in
    lodges-failed {d = delivery g.R.RowSource c.args.source.now c.next_row.new.self} {after = c.loop-before.known} {new = c.loop-before.tx} _ c.in_err-row.field-0.0 c.from_residual.ensures.1
    (came-fault (left c.args.source.now) (left c.loop-before.source) (left c.next_row.new.self) c.loop-before.before c.in_err-row.field-0.0 c.loop-before.invariant.came (ensured.gives, ensured.gave, ensured.ends))

pub returns-in_err-answer-clause-lodges : goal.returns-in_err-answer-clause-lodges
returns-in_err-answer-clause-lodges g c =
    let left = source_at g.R.RowSource in
    let came = left c.loop-before.source in
    let comes = left c.next_row.new.self in
    let ensured = c.in_ok-row.ensures in
    let given = subst (λ r. GivesAt came (Ok r) comes) c.in-Some.is (ensured.gives, ensured.gave, ensured.ends) in
    lodges-failed {d = delivery g.R.RowSource c.args.source.now c.next_row.new.self} {after = c.take_row.new.known} {new = c.take_row.new.tx} _ c.in_err-answer.field-0.0 c.from_residual-in_err-answer.ensures.1
    (came-own (left c.args.source.now) came comes c.loop-before.before c.in-Some.row c.in_err-answer.field-0.0 c.loop-before.invariant.came given c.in_err-answer.ensures.own)

pub returns-clause-lodges : goal.returns-clause-lodges
returns-clause-lodges g c =
    let left = source_at g.R.RowSource in
    record {
      imported = λ _ _. tt;
      unwritten = λ _ _. tt;
      gave = tt;
      fault = came-long (left c.args.source.now) (left c.loop-before.source) c.loop-before.before c.loop-before.invariant.came (omega (arith, c.loop-before-test.false)) (g.met.R.RowSource.within c.args.source.now);
      forgets = tt;
    }

pub returns-in_err-row-clause-named : goal.returns-in_err-row-clause-named
returns-in_err-row-clause-named g c clean inside = none-named _ _ c.from_residual.ensures.0

pub returns-in_err-answer-clause-named : goal.returns-in_err-answer-clause-named
returns-in_err-answer-clause-named g c clean inside = none-named _ _ c.from_residual-in_err-answer.ensures.0

pub returns-clause-named : goal.returns-clause-named
returns-clause-named g c = λ _ _. tt

pub returns-in_default-clause-named : goal.returns-in_default-clause-named
returns-in_default-clause-named g c clean inside text s lawful tables =
    let left = source_at g.R.RowSource in
    let ensured = c.in_ok-row.ensures in
    let was = c.loop-before.invariant in
    let given = subst (λ r. GivesAt (left c.loop-before.source) (Ok r) (left c.next_row.new.self)) c.in_default.is (ensured.gives, ensured.gave, ensured.ends) in
    rows-named c.args.setup.now text s (left c.args.source.now) (left c.loop-before.source) (left c.next_row.new.self) c.loop-before.count c.loop-before.before (known_of c.args.known.now) (known_of c.loop-before.known)
    c.args.named.now.items c.loop-before.named.items _ (was.taken clean inside text s lawful tables) (omega (arith, c.loop-before-test.true)) given

pub returns-in_default-clause-stays : goal.returns-in_default-clause-stays
returns-in_default-clause-stays g c = c.loop-before.invariant.stays

pub returns-in_err-row-clause-stays : goal.returns-in_err-row-clause-stays
returns-in_err-row-clause-stays g c = c.loop-before.invariant.stays

pub returns-clause-stays : goal.returns-clause-stays
returns-clause-stays g c = c.loop-before.invariant.stays
