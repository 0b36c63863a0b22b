use Rattle.std.proofs.Common.{◌≡◌, ◌∙◌, Ok, Some, inl, refl, subst}
use Rattle.std.proofs.lemmas.Result.{err_from_is_err_and}
use Rattle.tally_returns.specs.State.{stations_of}
use Rattle.tally_returns_rows.specs.Delivery.{source_at}
use Rattle.tally_keeper.specs.internal.Held.{returns_without}
use Rattle.tally_returns_rows.specs.declared.source.ImportFault.TheVariants.{Memory}
use Rattle.tally_keeper.proofs.TakenLemmas.{GivesAt, NamedSoFar-start, NamedSoFar-taken, SoFar-below, SoFar-fault, SoFar-own, kept-next}
use Rattle.tally_core.proofs.book.rows.take_source.Goals as goal

pub loop-before-init : goal.loop-before-init
loop-before-init g c =
    let old = c.args.ledger.now in
    record {
      so_far = NamedSoFar-start (stations_of old.setup) old.returns (source_at g.R.RowSource c.args.source.now) c.new-count.result c.args.named.now.items c.new-count.ensures;
      kept = refl;
      undone = refl;
    }

pub add_row-requires : goal.add_row-requires
add_row-requires g c =
    let left = source_at g.R.RowSource in
    let old = c.args.ledger.now in
    record {
      below = SoFar-below (stations_of old.setup) old.returns c.loop-before.ledger.returns (left c.args.source.now) (left c.loop-before.source) c.loop-before.count c.loop-before.before
          c.loop-before.invariant.so_far.so_far;
    }

pub loop-before-preserved : goal.loop-before-preserved
loop-before-preserved g c =
    let left = source_at g.R.RowSource in
    let row = c.in-Some.row in
    let old = c.args.ledger.now in
    let mid = c.loop-before.ledger in
    let new = c.take_row.new.ledger in
    let came = left c.loop-before.source in
    let comes = left c.next_row.new.self in
    let ensured = c.in_ok-row.ensures in
    let given : GivesAt came (Ok (Some row)) comes = subst (λ r. GivesAt came (Ok r) comes) c.in-Some.is (ensured.gives, ensured.gave, ensured.ends) in
    let was = c.loop-before.invariant in
    let undone : returns_without c.take_row.new.lodged.items new.returns ≡ returns_without c.loop-before.lodged.items mid.returns = c.in_ok-answer.ensures.undone in
    record {
      so_far =
          NamedSoFar-taken old mid new.returns (left c.args.source.now) came comes c.loop-before.count c.add_row.new.self c.loop-before.before
          c.args.named.now.items c.loop-before.named.items c.take_row.new.named.items row c.in_ok-answer.answer
          was.so_far was.kept c.take_row.ensures.codes given c.in_ok-answer.ensures.answer c.in_ok-answer.ensures.returns c.add_row.ensures c.in_ok-answer.ensures.named;
      kept = kept-next old mid new was.kept c.in_ok-answer.ensures.kept;
      undone = undone ∙ was.undone;
    }

pub returns-in_err-row-clause-fault : goal.returns-in_err-row-clause-fault
returns-in_err-row-clause-fault g c =
    let left = source_at g.R.RowSource in
    let old = c.args.ledger.now in
    let ensured = c.in_err-row.ensures in
    let p = err_from_is_err_and c.from_residual.result c.from_residual.ensures.1 in
    rw (p.1, p.2) (
    SoFar-fault (stations_of old.setup) old.returns c.loop-before.ledger.returns (left c.args.source.now) (left c.loop-before.source) (left c.next_row.new.self) c.loop-before.count c.loop-before.before
    c.in_err-row.field-0.0 c.loop-before.invariant.so_far.so_far (ensured.gives, ensured.gave, ensured.ends))

pub returns-in_err-answer-clause-fault : goal.returns-in_err-answer-clause-fault
returns-in_err-answer-clause-fault g c =
    let left = source_at g.R.RowSource in
    let old = c.args.ledger.now in
    let came = left c.loop-before.source in
    let comes = left c.next_row.new.self in
    let ensured = c.in_ok-row.ensures in
    let given : GivesAt came (Ok (Some c.in-Some.row)) comes = subst (λ r. GivesAt came (Ok r) comes) c.in-Some.is (ensured.gives, ensured.gave, ensured.ends) in
    let p = err_from_is_err_and c.from_residual-in_err-answer.result c.from_residual-in_err-answer.ensures.1 in
    rw (p.1, p.2) (
    SoFar-own (stations_of old.setup) old.returns c.loop-before.ledger.returns (left c.args.source.now) came comes c.loop-before.count c.loop-before.before
    c.in-Some.row Memory c.loop-before.invariant.so_far.so_far given (inl refl))
