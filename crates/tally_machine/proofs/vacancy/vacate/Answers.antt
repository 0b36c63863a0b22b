use Rattle.std.proofs.Common.{◌≡◌, ◌∙◌, ◌∷◌, ℕ, List, true, false, Ok, sym, ap, arith}
use Rattle.tally_machine_law.specs.Certification.{ListFound, gone_of, has_candidate, holders_of}
use Rattle.tally_machine_law.specs.Holders.{is_among, newcomer}
use Rattle.tally_returns.specs.View.{View}
use Rattle.tally_machine_law.proofs.LotLemmas.{among-turned}
use Rattle.tally_machine_law.proofs.VacancyLemmas.{candidate-is, found-place, found-seats, vacates-gone, vacates-no_holder, vacates-seat}
use Rattle.tally_machine.proofs.vacancy.vacate.Goals as goal

pub returns-then-contains-clause-refused : goal.returns-then-contains-clause-refused
returns-then-contains-clause-refused c = λ _.
    let view = c.args.view.now in
    let f = c.in-Some.found in
    let place = c.args.place in
    let certified : view.certified ≡ true = sym (ap (λ (v : View). v.certified) c.view.view_is) ∙ c.if-not-view.false in
    let candidate : has_candidate place f ≡ true =
    candidate-is f c.found.inside.candidates place (ap (λ (g : ListFound). g.candidates) c.found.view_is) (omega (arith, c.if-place-lt1.false)) (omega (arith, c.if-place-found.false)) in
    let gone : c.in_ok-gone.gone.items ≡ gone_of view f.place = c.in_ok-gone.ensures ∙ ap (λ (g : ListFound). gone_of view g.place) c.found.view_is in
    let left : is_among place (gone_of view f.place) ≡ true =
    ap (is_among place) (sym (c.deref.ensures.value ∙ gone)) ∙ sym (among-turned place c.deref.result.now) ∙ sym c.contains.ensures.value ∙ c.if-contains.true in
    vacates-gone c.args.con.now view c.args.list place c.args.note.now f (sym c.in-Some.ensures) candidate (sym c.good_note.ensures ∙ c.if-not-good_note.false) certified left

pub holders_of-requires-clause-place : goal.holders_of-requires-clause-place
holders_of-requires-clause-place c = found-place c.args.con.now c.args.list c.in-Some.found (sym c.in-Some.ensures)

pub holders_of-requires-clause-seats : goal.holders_of-requires-clause-seats
holders_of-requires-clause-seats c =
    let certified : c.args.view.now.certified ≡ true = sym (ap (λ (v : View). v.certified) c.view.view_is) ∙ c.if-not-view.false in
    found-seats c.args.con.now c.args.view.now c.args.list c.in-Some.found c.requires certified (sym c.in-Some.ensures)

pub returns-then-not-contains-clause-refused : goal.returns-then-not-contains-clause-refused
returns-then-not-contains-clause-refused c = λ _.
    let view = c.args.view.now in
    let f = c.in-Some.found in
    let place = c.args.place in
    let certified : view.certified ≡ true = sym (ap (λ (v : View). v.certified) c.view.view_is) ∙ c.if-not-view.false in
    let candidate : has_candidate place f ≡ true =
    candidate-is f c.found.inside.candidates place (ap (λ (g : ListFound). g.candidates) c.found.view_is) (omega (arith, c.if-place-lt1.false)) (omega (arith, c.if-place-found.false)) in
    let gone : c.in_ok-gone.gone.items ≡ gone_of view f.place = c.in_ok-gone.ensures ∙ ap (λ (g : ListFound). gone_of view g.place) c.found.view_is in
    let stays : is_among place (gone_of view f.place) ≡ false =
    ap (is_among place) (sym (c.deref.ensures.value ∙ gone)) ∙ sym (among-turned place c.deref.result.now) ∙ sym c.contains.ensures.value ∙ c.if-contains.false in
    let held : c.in_ok-before.before.items ≡ holders_of view f (gone_of view f.place) = c.in_ok-before.ensures ∙ ap (holders_of view f) (c.deref-2.ensures.value ∙ gone) in
    let none : is_among place (holders_of view f (gone_of view f.place)) ≡ false =
    ap (is_among place) (sym (c.deref-3.ensures.value ∙ held)) ∙ sym (among-turned place c.deref-3.result.now) ∙ sym c.contains-2.ensures.value ∙ c.if-not-contains.true in
    vacates-no_holder c.args.con.now view c.args.list place c.args.note.now f (sym c.in-Some.ensures) candidate (sym c.good_note.ensures ∙ c.if-not-good_note.false) certified stays none

pub next_holder-requires-clause-place : goal.next_holder-requires-clause-place
next_holder-requires-clause-place c = found-place c.args.con.now c.args.list c.in-Some.found (sym c.in-Some.ensures)

pub next_holder-requires-clause-seats : goal.next_holder-requires-clause-seats
next_holder-requires-clause-seats c =
    let certified : c.args.view.now.certified ≡ true = sym (ap (λ (v : View). v.certified) c.view.view_is) ∙ c.if-not-view.false in
    found-seats c.args.con.now c.args.view.now c.args.list c.in-Some.found c.requires certified (sym c.in-Some.ensures)

pub returns-clause-vacated : goal.returns-clause-vacated
returns-clause-vacated c =
    let view = c.args.view.now in
    let f = c.in-Some.found in
    let place = c.args.place in
    let certified : view.certified ≡ true = sym (ap (λ (v : View). v.certified) c.view.view_is) ∙ c.if-not-view.false in
    let candidate : has_candidate place f ≡ true =
    candidate-is f c.found.inside.candidates place (ap (λ (g : ListFound). g.candidates) c.found.view_is) (omega (arith, c.if-place-lt1.false)) (omega (arith, c.if-place-found.false)) in
    let gone : c.in_ok-gone.gone.items ≡ gone_of view f.place = c.in_ok-gone.ensures ∙ ap (λ (g : ListFound). gone_of view g.place) c.found.view_is in
    let stays : is_among place (gone_of view f.place) ≡ false =
    ap (is_among place) (sym (c.deref.ensures.value ∙ gone)) ∙ sym (among-turned place c.deref.result.now) ∙ sym c.contains.ensures.value ∙ c.if-contains.false in
    let held : c.in_ok-before.before.items ≡ holders_of view f (gone_of view f.place) = c.in_ok-before.ensures ∙ ap (holders_of view f) (c.deref-2.ensures.value ∙ gone) in
    let holds : is_among place (holders_of view f (gone_of view f.place)) ≡ true =
    ap (is_among place) (sym (c.deref-3.ensures.value ∙ held)) ∙ sym (among-turned place c.deref-3.result.now) ∙ sym c.contains-2.ensures.value ∙ c.if-not-contains.false in
    let next : c.in_ok-next.next ≡ newcomer (holders_of view f (gone_of view f.place)) (holders_of view f (place ∷ gone_of view f.place)) =
    c.in_ok-next.ensures
    ∙ ap (λ (before : List ℕ). newcomer before (holders_of view f (place ∷ c.in_ok-gone.gone.items))) (c.deref-4.ensures.value ∙ held)
    ∙ ap (λ (g : List ℕ). newcomer (holders_of view f (gone_of view f.place)) (holders_of view f (place ∷ g))) gone in
    vacates-seat c.args.con.now view c.args.list place c.args.note.now f (sym c.in-Some.ensures) candidate (sym c.good_note.ensures ∙ c.if-not-good_note.false) certified stays holds
    c.found.inside.place c.in_ok-next.next (ap (λ (g : ListFound). g.place) c.found.view_is) next
    ∙ ap (λ (n : List ℕ). Ok (record { list = c.found.inside.place; place = place; note = n }, c.in_ok-next.next)) (sym c.in_ok-note.ensures.ok)
