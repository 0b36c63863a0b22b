use Rattle.std.proofs.Common.{◌≡◌, ◌<◌, ◌≤◌, ◌++◌, ◌∙◌, ◌∷◌, [], ℕ, List, Option, None, Some, Result, Ok, Err, IfOk, true, length, take, drop, refl, sym, ap, subst, arith, length-append, length-drop}
use Rattle.std.proofs.lemmas.List.{length-take, length-take-le, take-take}
use Rattle.tally_import_records.specs.internal.Pieces.{Begun, Fills, HoldsAllThatCame, bytes_of, ends_line, left_size, nothing, piece_rows, size_left}
use Rattle.tally_import_records.specs.declared.end.End.{End}
use Rattle.tally_import_records.specs.declared.held.HeldText.{HeldText}
use Rattle.tally_import_records.specs.declared.work.Work.{Work}
use Rattle.tally_import_records.proofs.WorkLemmas.{Begun-spent, HasGiven-dropped, HasGiven-grown, IfOk-both, IfOk-then, bytes_of-open}
use Rattle.tally_import_records.proofs.work.Work.read_on.Goals as goal

IfOk-three : {T E : Type 0} {P Q R S : T → Type 0} (r : Result T E) → IfOk r P → IfOk r Q → IfOk r R → ((x : T) → P x → Q x → R x → S x) → IfOk r S
IfOk-three (Ok x) p q r all = all x p q r
IfOk-three (Err e) p q r all = tt

-- less is left once records are dropped
less-dropped : (old new : Work) (middle : HeldText) (done : ℕ) (came : List ℕ) → old.end ≡ None → 1 < done → done ≤ length old.held.bytes.items
    → middle.bytes.items ≡ 10 ∷ drop done old.held.bytes.items → middle.taken ≡ old.held.taken → bytes_of new ≡ middle.bytes.items ++ came
    → (new.end ≡ None → HoldsAllThatCame middle new.held) → left_size new < left_size old
less-dropped old new middle done came goes some within front taken more count =
    subst (λ e. left_size new < size_left e old.held.taken (length old.held.bytes.items)) (sym goes) (go new.end refl)
  where
    go : (end : Option End) → new.end ≡ end → size_left end new.held.taken (length new.held.bytes.items) < size_left None old.held.taken (length old.held.bytes.items)
    go None is =
        let held : new.held.bytes.items ≡ middle.bytes.items ++ came = bytes_of-open new is ∙ more in
        omega (arith, count is, ap length held, length-append middle.bytes.items came, ap length front, length-drop done old.held.bytes.items, new.held.counted.1)
    go (Some e) is = omega arith

-- something is left before the end
some-left : (r : Work) → r.end ≡ None → 0 < left_size r
some-left r goes = subst (λ e. 0 < size_left e r.held.taken (length r.held.bytes.items)) (sym goes) (omega arith)

-- what is dropped is held
inside : (piece done : ℕ) (held bytes : List ℕ) → held ≡ bytes → done ≤ length (take piece held) → done ≤ length bytes
inside piece done held bytes is within = omega (arith, within, length-take piece held, ap length is)

pub drop_front-requires-clause-within : goal.drop_front-requires-clause-within
drop_front-requires-clause-within g c =
    inside c.args.self.now.piece c.in_ok-done.done _ _ (c.deref.ensures.value ∙ ap (λ (h : HeldText). h.bytes.items) (sym c.replace-held.ensures.value)) c.in_ok-done.ensures.within

pub read_all-requires-clause-begun : goal.read_all-requires-clause-begun
read_all-requires-clause-begun g c =
    let old = c.args.self.now in
    subst (λ (h : HeldText). Begun old.sep h.bytes.items old.given) (sym c.replace-held.ensures.value)
    (subst (λ bytes. Begun old.sep bytes old.given) (sym (bytes_of-open old c.requires.more)) (Begun-spent old c.requires.spent c.requires.more))

pub returns-then-done-gt1-clause-given : goal.returns-then-done-gt1-clause-given
returns-then-done-gt1-clause-given g c =
    let old = c.args.self.now in
    let done = c.in_ok-done.done in
    let bytes = bytes_of old in
    let same : old.held.bytes.items ≡ bytes = bytes_of-open old c.requires.more in
    let inside : old.piece ≤ length bytes = c.requires.spent.within c.requires.more in
    let some : 0 < done = omega (arith, c.if-done-gt1.true) in
    let slice = ap (take old.piece) (c.deref.ensures.value ∙ same) in
    let within : done ≤ length (take old.piece bytes) = subst (λ l. done ≤ length l) slice c.in_ok-done.ensures.within in
    let size = length-take-le old.piece bytes inside in
    let front : take done (take old.piece bytes) ≡ take done bytes = take-take done old.piece bytes (omega (arith, within, size)) in
    let is = ap (take done) slice ∙ front in
    let done_rows = c.in_ok-done.ensures.given some in
    IfOk-three c.read.result c.read.ensures.fills c.read.ensures.sep c.read.ensures.given (λ new fills sep none text given has.
    HasGiven-dropped text (g.R.Read.remaining c.args.input.now) (g.R.Read.remaining c.read.new.input) given old new c.drop_front.new.self done
    c.requires.more some (omega (arith, within, size, inside))
    (subst (λ l. ends_line l ≡ true) is done_rows.0)
    (subst (λ l. drop old.given (piece_rows old.sep None l) ≡ nothing ∷ []) is done_rows.1)
    (c.in_ok-drop_front.ensures.bytes ∙ ap (λ (h : HeldText). 10 ∷ drop done h.bytes.items) c.replace-held.ensures.value ∙ ap (λ l. 10 ∷ drop done l) same)
    (c.in_ok-drop_front.ensures.taken ∙ ap (λ (h : HeldText). h.taken) c.replace-held.ensures.value)
    fills sep none has)

pub returns-then-done-gt1-clause-goes_on : goal.returns-then-done-gt1-clause-goes_on
returns-then-done-gt1-clause-goes_on g c =
    let old = c.args.self.now in
    let done = c.in_ok-done.done in
    IfOk-both c.read.result c.read.ensures.fills c.read.ensures.count (λ new fills count.
    less-dropped old new c.drop_front.new.self done fills.0 c.requires.more c.if-done-gt1.true (inside old.piece done _ _ c.deref.ensures.value c.in_ok-done.ensures.within)
    (c.in_ok-drop_front.ensures.bytes ∙ ap (λ (h : HeldText). 10 ∷ drop done h.bytes.items) c.replace-held.ensures.value)
    (c.in_ok-drop_front.ensures.taken ∙ ap (λ (h : HeldText). h.taken) c.replace-held.ensures.value)
    fills.1 count)

pub returns-clause-given : goal.returns-clause-given
returns-clause-given g c =
    let old = c.args.self.now in
    let old_left = g.R.Read.remaining c.args.input.now in
    let left = g.R.Read.remaining c.read_all.new.input in
    IfOk-three c.read_all.result c.read_all.ensures.fills c.read_all.ensures.sep c.read_all.ensures.given (λ new fills sep same text given has.
    HasGiven-grown text old_left left given old new c.requires.more
    (subst (λ l. Fills old_left left l old.held.taken (bytes_of new) new.held.taken new.end) (bytes_of-open old c.requires.more)
    (subst (λ (h : HeldText). Fills old_left left h.bytes.items h.taken (bytes_of new) new.held.taken new.end) c.replace-held.ensures.value fills))
    sep same has)

pub returns-clause-goes_on : goal.returns-clause-goes_on
returns-clause-goes_on g c =
    let old = c.args.self.now in
    IfOk-then c.read_all.result c.read_all.ensures.ended (λ new none. subst (λ n. n < left_size old) (sym none) (some-left old c.requires.more))
