use Rattle.std.proofs.Common.{◌≡◌, ◌<◌, ◌∙◌, refl, sym, subst}
use Rattle.tally_import_records.specs.Input.{AreAll}
use Rattle.tally_import_records.specs.internal.Pieces.{HasGivenAt, left_size}
use Rattle.tally_import_records.specs.Watch.{flag_after_end}
use Rattle.tally_import_records.specs.declared.end.End.{End}
use Rattle.tally_import_records.specs.declared.work.Work.{Work}
use Rattle.tally_import_records.proofs.FieldLemmas.{none_some}
use Rattle.tally_import_records.proofs.WorkLemmas.{HasGiven-all}
use Rattle.tally_import_records.proofs.work.Work.next.Goals as goal

pub returns-in-Some-clause-all : goal.returns-in-Some-clause-all
returns-in-Some-clause-all g c e is text given has =
    let left = g.R.Read.remaining c.pieces.input in
    let self = c.next_in_piece.new.self in
    let read = c.in_ok-next_in_piece.ensures in
    let here = subst (HasGivenAt text left given) (sym (read.same c.if-not-branch.true)) (c.pieces.invariant.given text given has) in
    let all = HasGiven-all text left given self c.in-Some.end (read.spent c.if-not-branch.true) c.in-Some.is here in
    let end : c.in-Some.end ≡ e = cc is in
    subst (λ (x : End). AreAll c.args.self.now.sep text left given x.stop) end
    (subst (λ s. AreAll s text left given c.in-Some.end.stop) (c.next_in_piece.ensures.sep ∙ c.pieces.invariant.sep) all)

pub pieces-preserved : goal.pieces-preserved
pieces-preserved g c =
    let left = g.R.Read.remaining c.pieces.input in
    let read = c.in_ok-next_in_piece.ensures in
    record {
      reading = c.in_ok-self.ensures.reading;
      given = λ text given has. c.in_ok-self.ensures.given text given
          (subst (HasGivenAt text left given) (sym (read.same c.if-not-branch.true)) (c.pieces.invariant.given text given has));
      agrees = λ before ensured. subst (λ flag. c.read_on.new.watch.failed ≡ flag_after_end c.in_ok-self.field-0.end flag)
          (subst (λ e. c.pieces.watch.failed ≡ flag_after_end e before) (sym c.next_in_piece.ensures.end ∙ c.in_default.is) (c.pieces.invariant.agrees before ensured))
          c.in_ok-self.ensures.failed;
      sep = c.in_ok-self.ensures.sep ∙ c.next_in_piece.ensures.sep ∙ c.pieces.invariant.sep;
    }

pub pieces-init : goal.pieces-init
pieces-init g c = record { reading = c.requires; given = λ text given has. has; sep = refl; agrees = λ before ensured. ensured }

pub pieces-smaller : goal.pieces-smaller
pieces-smaller g c =
    subst (λ (r : Work). left_size c.in_ok-self.field-0 < left_size r) (c.in_ok-next_in_piece.ensures.same c.if-not-branch.true) c.in_ok-self.ensures.goes_on

pub read_on-requires : goal.read_on-requires
read_on-requires g c = record { spent = c.in_ok-next_in_piece.ensures.spent c.if-not-branch.true; more = c.in_default.is }

pub returns-in-Some-clause-reading : goal.returns-in-Some-clause-reading
returns-in-Some-clause-reading g c never = absurd (none_some _ (sym never))

pub returns-in-Some-clause-record : goal.returns-in-Some-clause-record
returns-in-Some-clause-record g c never = absurd (none_some _ (sym never))

pub returns-in-Some-clause-sep : goal.returns-in-Some-clause-sep
returns-in-Some-clause-sep g c = c.next_in_piece.ensures.sep ∙ c.pieces.invariant.sep

pub returns-in-Some-clause-failed : goal.returns-in-Some-clause-failed
returns-in-Some-clause-failed g c before ensured =
    subst (λ e. c.pieces.watch.failed ≡ flag_after_end e before) (sym c.next_in_piece.ensures.end ∙ c.in-Some.is) (c.pieces.invariant.agrees before ensured)

pub returns-in-Some-clause-agrees : goal.returns-in-Some-clause-agrees
returns-in-Some-clause-agrees g c before ensured =
    subst (λ e. c.pieces.watch.failed ≡ flag_after_end e before) (sym c.next_in_piece.ensures.end) (c.pieces.invariant.agrees before ensured)

pub returns-clause-sep : goal.returns-clause-sep
returns-clause-sep g c = c.next_in_piece.ensures.sep ∙ c.pieces.invariant.sep

pub returns-clause-reading : goal.returns-clause-reading
returns-clause-reading g c none = c.in_ok-next_in_piece.ensures.reading c.if-not-branch.false

pub returns-clause-record : goal.returns-clause-record
returns-clause-record g c none text given has = c.in_ok-next_in_piece.ensures.given c.if-not-branch.false _ text given (c.pieces.invariant.given text given has)

pub returns-clause-agrees : goal.returns-clause-agrees
returns-clause-agrees g c before ensured =
    subst (λ e. c.pieces.watch.failed ≡ flag_after_end e before) (sym c.next_in_piece.ensures.end) (c.pieces.invariant.agrees before ensured)
