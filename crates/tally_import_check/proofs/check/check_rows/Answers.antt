use Rattle.std.proofs.Common.{◌≡◌, ◌+◌, ◌++◌, ◌∷◌, ◌∙◌, [], None, refl, sym, ap, subst, arith, length-append, append_assoc, inl, inr}
use Rattle.std.proofs.lemmas.List.{append-nil}
use Rattle.csv.specs.Records.{fields_of}
use Rattle.tally_import_check.specs.Check.{rows_of_records}
use Rattle.tally_import_records.specs.Input.{AreAll}
use Rattle.tally_import_records.specs.Given.{HasGiven, sep_of}
use Rattle.tally_import_records.specs.Watch.{WatchAgreesAtEnd}
use Rattle.tally_import_check.specs.internal.Rounds.{AreRecordsAfter, ImportsRecords}
use Rattle.tally_import_check.proofs.FoundLemmas.{Imports-ended}
use Rattle.tally_import_check.proofs.RoundsLemmas.{more-taken, taken-next}
use Rattle.tally_import_records.proofs.WorkLemmas.{HasGiven-partly}
use Rattle.tally_import_check.proofs.check.check_rows.Goals as goal

pub loop-end-init : goal.loop-end-init
loop-end-init g c = record {
  reading = c.requires.reading;
  sep = refl;
  agrees = λ before ensured. ensured;
  within = omega arith;
  given = ([], refl, c.requires.none, λ text before has. subst (λ l. HasGiven text (g.R.Read.remaining c.args.reader.now) l c.args.records.now) (sym (append-nil before)) has);
}

pub returns-in-Some-clause-imports : goal.returns-in-Some-clause-imports
returns-in-Some-clause-imports g c =
    let inv = c.loop-end.invariant in
    let given = inv.given in
    let AreRows = AreRecordsAfter (g.R.Read.remaining c.args.reader.now) (g.R.Read.remaining c.next.new.input) c.args.records.now in
    subst (ImportsRecords c.args.import.now.lists AreRows c.loop-end.import) (sym c.ended.ensures.end)
    (Imports-ended c.args.import.now.lists AreRows c.loop-end.import given.0 c.in-Some.end.stop
    (λ text before has. subst (λ s. AreAll s text (g.R.Read.remaining c.next.new.input) (before ++ given.0) c.in-Some.end.stop) inv.sep
    (c.in_ok-end.ensures.all c.in-Some.end c.in-Some.is text (before ++ given.0) (given.3 text before has)))
    given.2 (omega (arith, given.1, inv.within)))

pub returns-in-Some-clause-read : goal.returns-in-Some-clause-read
returns-in-Some-clause-read g c before ensured =
    c.ended.ensures.read before c.next.new.watch.failed
    (subst (λ e. WatchAgreesAtEnd before e c.next.new.watch.failed) c.in-Some.is (c.in_ok-end.ensures.failed before (c.loop-end.invariant.agrees before ensured)))

pub returns-in-Some-clause-all_read : goal.returns-in-Some-clause-all_read
returns-in-Some-clause-all_read g c before ensured =
    c.ended.ensures.all_read before c.next.new.watch.failed
    (subst (λ e. WatchAgreesAtEnd before e c.next.new.watch.failed) c.in-Some.is (c.in_ok-end.ensures.failed before (c.loop-end.invariant.agrees before ensured)))

pub returns-then-taken-eq-ROW_LIMIT-clause-imports : goal.returns-then-taken-eq-ROW_LIMIT-clause-imports
returns-then-taken-eq-ROW_LIMIT-clause-imports g c =
    let inv = c.loop-end.invariant in
    let given = inv.given in
    let fields = fields_of c.next.new.into in
    let partly = HasGiven-partly c.next.new.self in
    let left = g.R.Read.remaining c.next.new.input in
    let rows = given.0 ++ (fields ∷ partly.0) in
    inr (
      rows,
      partly.1,
      (λ text before has.
          subst (λ s. AreAll s text left (before ++ rows) partly.1) (c.next.ensures.sep ∙ inv.sep)
          (subst (λ l. AreAll (sep_of c.next.new.self) text left l partly.1)
          (append_assoc (before ++ given.0) (fields ∷ []) partly.0 ∙ append_assoc before given.0 (fields ∷ partly.0))
          (partly.2 text left ((before ++ given.0) ++ fields ∷ []) (c.in_ok-end.ensures.record c.in_default.is text (before ++ given.0) (given.3 text before has))))),
      inl (refl, omega (arith, given.1, c.if-taken-eq-ROW_LIMIT.true, length-append given.0 (fields ∷ partly.0))),
    )

pub take_record-requires-clause-so_far : goal.take_record-requires-clause-so_far
take_record-requires-clause-so_far g c =
    let given = c.loop-end.invariant.given in
    let lists = c.args.import.now.lists in
    (record { lists = lists; rows = rows_of_records lists given.0 }, given.2, taken-next lists given.0 c.loop-end.taken given.1)

pub loop-end-preserved : goal.loop-end-preserved
loop-end-preserved g c =
    let inv = c.loop-end.invariant in
    let given = inv.given in
    let none : c.in_ok-end.field-0 ≡ None = c.in_default.is in
    let fields = fields_of c.next.new.into in
    let lists = c.args.import.now.lists in
    let left = g.R.Read.remaining c.next.new.input in
    record {
      reading = c.in_ok-end.ensures.reading none;
      sep = c.next.ensures.sep ∙ inv.sep;
      within = omega (arith, inv.within, c.if-taken-eq-ROW_LIMIT.false);
      agrees = λ before ensured. c.in_ok-end.ensures.agrees before (inv.agrees before ensured);
      given = (
        given.0 ++ fields ∷ [],
        length-append given.0 (fields ∷ []) ∙ ap (λ n. n + 1) given.1,
        more-taken lists given.0 c.take_record.new.self fields
            (c.in_ok-take_record.ensures (record { lists = lists; rows = rows_of_records lists given.0 }) given.2 (taken-next lists given.0 c.loop-end.taken given.1)),
        (λ text before has. subst (λ l. HasGiven text left l c.next.new.self) (append_assoc before given.0 (fields ∷ []))
            (c.in_ok-end.ensures.record none text (before ++ given.0) (given.3 text before has))),
      );
    }
