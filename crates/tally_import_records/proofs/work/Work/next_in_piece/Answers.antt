use Rattle.std.proofs.Common.{◌≡◌, ◌∙◌, ◌+◌, ◌++◌, ◌∷◌, [], sym, ap, subst, arith, true, false}
use Rattle.csv.specs.Records.{fields_of}
use Rattle.tally_import_records.specs.internal.Pieces.{HasGivenAt}
use Rattle.tally_import_records.specs.internal.Reading.{rows_left}
use Rattle.tally_import_records.specs.declared.piece.Rest.{Rest}
use Rattle.tally_import_records.proofs.WorkLemmas.{HasGiven-next, IsReadingOn-next, given-few, given_record}
use Rattle.tally_import_records.proofs.work.Work.next_in_piece.Goals as goal

pub overflow_add-self : goal.overflow_add-self
overflow_add-self c =
    let few = given-few c.args.self.now _ _ c.requires (ap rows_left (sym c.deref_mut.ensures.value) ∙ rw c.if-not-branch.false at c.in_ok-next_record.ensures.record) in
    let held = c.args.self.now.held in
    omega (arith, few, c.requires.few, held.counted.1)

pub returns-then-not-ended_itself-clause-reading : goal.returns-then-not-ended_itself-clause-reading
returns-then-not-ended_itself-clause-reading c found =
    let rest : Rest = record { ahead = c.swap.new.y; reader = record c.args.self.now.rest.reader { reader = record c.args.self.now.rest.reader.reader { value = c.next_record.new.reader } } } in
    IsReadingOn-next c.args.self.now rest (fields_of c.next_record.new.into) c.requires (c.in_ok-next_record.ensures.reading c.if-not-branch.false)
    (ap rows_left (sym c.deref_mut.ensures.value) ∙ rw c.if-not-branch.false at c.in_ok-next_record.ensures.record) (λ whole. ap fields_of c.swap.ensures.y_after)

pub returns-then-not-ended_itself-clause-given : goal.returns-then-not-ended_itself-clause-given
returns-then-not-ended_itself-clause-given c found left text given has =
    let old = c.args.self.now in
    let fields = fields_of c.next_record.new.into in
    let rest : Rest = record { ahead = c.swap.new.y; reader = record c.args.self.now.rest.reader { reader = record c.args.self.now.rest.reader.reader { value = c.next_record.new.reader } } } in
    let is = ap (λ b. given_record b (fields_of old.rest.ahead) fields) (sym c.ended_itself.ensures ∙ c.if-not-ended_itself.true) ∙ ap fields_of (sym c.swap.ensures.x_after) in
    subst (λ f. HasGivenAt text left (given ++ f ∷ []) (record old { given = old.given + 1; rest = rest })) is
    (HasGiven-next text left given old rest fields _ c.requires (ap rows_left (sym c.deref_mut.ensures.value) ∙ rw c.if-not-branch.false at c.in_ok-next_record.ensures.record) has)

pub returns-else-not-ended_itself-clause-reading : goal.returns-else-not-ended_itself-clause-reading
returns-else-not-ended_itself-clause-reading c found =
    let rest : Rest = record { ahead = c.args.self.now.rest.ahead; reader = record c.args.self.now.rest.reader { reader = record c.args.self.now.rest.reader.reader { value = c.next_record.new.reader } } } in
    let whole = sym c.ended_itself.ensures ∙ c.if-not-ended_itself.false in
    IsReadingOn-next c.args.self.now rest (fields_of c.next_record.new.into) c.requires (c.in_ok-next_record.ensures.reading c.if-not-branch.false)
    (ap rows_left (sym c.deref_mut.ensures.value) ∙ rw c.if-not-branch.false at c.in_ok-next_record.ensures.record) (λ not. let never : false ≡ true = sym not ∙ whole in cc never)

pub returns-else-not-ended_itself-clause-given : goal.returns-else-not-ended_itself-clause-given
returns-else-not-ended_itself-clause-given c found left text given has =
    let old = c.args.self.now in
    let fields = fields_of c.next_record.new.into in
    let rest : Rest = record { ahead = old.rest.ahead; reader = record c.args.self.now.rest.reader { reader = record c.args.self.now.rest.reader.reader { value = c.next_record.new.reader } } } in
    let is = ap (λ b. given_record b (fields_of old.rest.ahead) fields) (sym c.ended_itself.ensures ∙ c.if-not-ended_itself.false) in
    subst (λ f. HasGivenAt text left (given ++ f ∷ []) (record old { given = old.given + 1; rest = rest })) is
    (HasGiven-next text left given old rest fields _ c.requires (ap rows_left (sym c.deref_mut.ensures.value) ∙ rw c.if-not-branch.false at c.in_ok-next_record.ensures.record) has)
