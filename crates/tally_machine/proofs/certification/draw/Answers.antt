use Rattle.std.proofs.Common.{◌≡◌, ◌≢◌, ◌∙◌, ℕ, List, [], ◌∷◌, Option, Ok, Err, length, refl, sym, ap, subst, arith}
use Rattle.std.specs.Prelude.{vec_len}
use Rattle.std.proofs.lemmas.Bool.{eqb-true, eqb-false}
use Rattle.tally_allot.specs.AllotFault.{IsFaultOf}
use Rattle.tally_allot.specs.declared.fault.AllotFault.{AllotFault}
use Rattle.tally_machine_law.specs.Certification.{ByOutcome, Draws, IsDrawRefusal, count_checks, lot_in_view, lot_where_recorded, drawn_places, list_places}
use Rattle.tally_machine_law.specs.Outcome.{IsOutcome, lot_missing, nobody, poll_in, rule_in}
use Rattle.tally_returns.specs.Checks.{first_refusal}
use Rattle.tally_returns.specs.View.{View}
use Rattle.tally_returns.specs.declared.refusal.Refusal.TheVariants.{LotNotNeeded, LotStands, Memory, NoEligible}
use Rattle.tally_machine_law.proofs.CertificationLemmas.{draws-decided, draws-missing, draws-stands, group-within, none_long, not_refused, on_fault, on_ok, reported-by_outcome}
use Rattle.tally_machine.proofs.certification.draw.Goals as goal

pub returns-in-Ok-clause-refused : goal.returns-in-Ok-clause-refused
returns-in-Ok-clause-refused c = λ _.
    let none : length c.view.inside.lot.items ≡ 0 = omega (arith, eqb-true (vec_len c.view.inside.lot) 0 (sym c.is_empty.ensures ∙ c.if-is_empty.true), c.view.inside.lot.ok.0) in
    reported-by_outcome c.args.con.now c.args.view.now (lot_in_view c.args.con.now c.args.view.now c.args.order.now) LotStands (first_refusal (count_checks c.args.view.now c.args.edition)) (Err LotNotNeeded)
    (draws-decided c.args.con.now c.args.view.now c.args.edition c.args.order.now c.in-Ok.field-0.items c.in_ok-check_count.ensures.passed c.in-Ok.ensures.seats
    (sym (ap (λ (v : View). v.lot) c.view.view_is) ∙ none_long c.view.inside.lot.items none))

pub returns-in-Ok-2-clause-refused : goal.returns-in-Ok-2-clause-refused
returns-in-Ok-2-clause-refused c = λ _.
    let some : vec_len c.view.inside.lot ≡ 0 → ⊥ = eqb-false (vec_len c.view.inside.lot) 0 (sym c.is_empty.ensures ∙ c.if-is_empty.false) in
    reported-by_outcome c.args.con.now c.args.view.now (lot_in_view c.args.con.now c.args.view.now c.args.order.now) LotStands (first_refusal (count_checks c.args.view.now c.args.edition)) (Err LotStands)
    (draws-stands c.args.con.now c.args.view.now c.args.edition c.args.order.now c.in-Ok.field-0.items c.in_ok-check_count.ensures.passed c.in-Ok.ensures.seats
    (λ none. let e : length c.view.inside.lot.items ≡ 0 = ap length (ap (λ (v : View). v.lot) c.view.view_is ∙ none) in some (omega (arith, e, c.view.inside.lot.ok.0))))

-- where no list is eligible, whatever lot is recorded
drawn-nobody : (lot : List ℕ) (places : Option (List ℕ)) → Err NoEligible ≡ lot_where_recorded lot nobody places
drawn-nobody [] places = refl
drawn-nobody (place ∷ lot) places = refl

pub returns-in-NoEligible-clause-refused : goal.returns-in-NoEligible-clause-refused
returns-in-NoEligible-clause-refused c = λ _.
    let con = c.args.con.now in
    let view = c.args.view.now in
    let gives = lot_in_view con view c.args.order.now in
    let refusal = first_refusal (count_checks view c.args.edition) in
    let nobody_is = subst (λ (f : AllotFault). IsFaultOf (rule_in con) (poll_in con view) con.seats view.lot f) c.in-NoEligible.is c.in-Err.ensures.fault in
    reported-by_outcome con view gives LotStands refusal (Err NoEligible)
    (not_refused refusal (ByOutcome con view gives) (Err NoEligible) c.in_ok-check_count.ensures.passed (nobody, nobody_is, drawn-nobody view.lot (list_places con c.args.order.now)))

pub drawn_places-requires : goal.drawn_places-requires
drawn_places-requires c = λ l past.
    let con = c.args.con.now in
    let view = c.args.view.now in
    let missing =
    subst (λ (f : AllotFault). IsFaultOf (rule_in con) (poll_in con view) con.seats view.lot f) c.in-LotMissing.is c.in-Err.ensures.fault in
    group-within (rule_in con) (poll_in con view) con.seats c.in-LotMissing.group c.in-LotMissing.seats missing.1 l (omega (arith, past, c.requires.lists))

pub returns-in-LotMissing-clause-places :
    goal.returns-in-LotMissing-clause-places
returns-in-LotMissing-clause-places c =
    let con = c.args.con.now in
    let view = c.args.view.now in
    let group = c.in-LotMissing.group in
    let fault = subst (λ (f : AllotFault). IsFaultOf (rule_in con) (poll_in con view) con.seats view.lot f) c.in-LotMissing.is c.in-Err.ensures.fault in
    let missing : IsOutcome con view (lot_missing group c.in-LotMissing.seats) = (fault.0, fault.1, fault.2, c.drawn_places.ensures.marks) in
    on_ok c.drawn_places.result (λ places. drawn_places group (list_places con c.args.order.now) ≡ Ok places.items) (λ places. Draws con view c.args.edition c.args.order.now (Ok places.items))
    (λ places gives. draws-missing con view c.args.edition c.args.order.now group c.in-LotMissing.seats (Ok places.items) c.in_ok-check_count.ensures.passed missing gives)
    c.drawn_places.ensures.places

pub returns-in-LotMissing-clause-refused :
    goal.returns-in-LotMissing-clause-refused
returns-in-LotMissing-clause-refused c =
    let con = c.args.con.now in
    let view = c.args.view.now in
    let group = c.in-LotMissing.group in
    let fault = subst (λ (f : AllotFault). IsFaultOf (rule_in con) (poll_in con view) con.seats view.lot f) c.in-LotMissing.is c.in-Err.ensures.fault in
    let missing : IsOutcome con view (lot_missing group c.in-LotMissing.seats) = (fault.0, fault.1, fault.2, c.drawn_places.ensures.marks) in
    on_fault c.drawn_places.result (λ refusal. refusal ≢ Memory → drawn_places group (list_places con c.args.order.now) ≡ Err refusal)
    (IsDrawRefusal con view c.args.edition c.args.order.now)
    (λ refusal gives other. reported-by_outcome con view (lot_in_view con view c.args.order.now) LotStands (first_refusal (count_checks view c.args.edition)) (Err refusal)
    (draws-missing con view c.args.edition c.args.order.now group c.in-LotMissing.seats (Err refusal) c.in_ok-check_count.ensures.passed missing (gives other)))
    c.drawn_places.ensures.refused
