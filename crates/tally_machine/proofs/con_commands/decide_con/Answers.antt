use Rattle.std.proofs.Common.{◌≡◌, Ok, Err, IfErr, List, ℕ, refl, sym, ap, subst, string_bytes, rules}
use Rattle.tally_machine_law.specs.Certification.{Draws, IsDrawRefusal, reopen_result, vacate_result}
use Rattle.tally_machine_law.specs.Step.{Decides, IsConRefusal, certified_with, change_of_result, gone_for_good, lot_set, open_again}
use Rattle.tally_returns.specs.declared.ask.Ask.{Ask}
use Rattle.tally_machine.proofs.con_commands.decide_con.Goals as goal

pub returns-in_ok-draw-in-Draw-clause-decided : goal.returns-in_ok-draw-in-Draw-clause-decided
returns-in_ok-draw-in-Draw-clause-decided c =
    let con = c.args.con.now in
    let view = c.args.view.now in
    let places = c.in_ok-draw-in-Draw.field-0.items in
    let drawn : Draws con view c.in-Draw.edition c.in-Draw.order.items (Ok places) =
    subst (λ (order : List (List ℕ)). Draws con view c.in-Draw.edition order (Ok places)) c.deref.ensures.value c.in_ok-draw-in-Draw.ensures.places in
    (lot_set places, refl, subst (λ (ask : Ask). Decides con view ask (Ok (lot_set places))) (sym c.in-Draw.is) (Ok places, drawn, refl))

pub returns-in_ok-certify-in-Certify-clause-decided :
    goal.returns-in_ok-certify-in-Certify-clause-decided
returns-in_ok-certify-in-Certify-clause-decided c =
    let con = c.args.con.now in
    let view = c.args.view.now in
    let seats = c.in_ok-certify-in-Certify.field-0.items in
    (certified_with seats, refl, subst (λ (ask : Ask). Decides con view ask (Ok (certified_with seats))) (sym c.in-Certify.is) (Ok seats, c.in_ok-certify-in-Certify.ensures.seats, refl))

pub returns-in_ok-reopening-in-Reopen-clause-decided :
    goal.returns-in_ok-reopening-in-Reopen-clause-decided
returns-in_ok-reopening-in-Reopen-clause-decided c =
    let con = c.args.con.now in
    let view = c.args.view.now in
    let note = string_bytes c.in_ok-reopening-in-Reopen.reopening.note in
    let past = c.in_ok-reopening-in-Reopen.reopening.past in
    let kept : reopen_result view c.in-Reopen.edition (string_bytes c.in-Reopen.note) ≡ Ok (note, past) =
    subst (λ (n : List ℕ). reopen_result view c.in-Reopen.edition n ≡ Ok (note, past)) c.deref-in-Reopen.ensures c.in_ok-reopening-in-Reopen.ensures.reopened in
    (open_again note past, refl, subst (λ (ask : Ask). Decides con view ask (Ok (open_again note past))) (sym c.in-Reopen.is) (sym (ap (change_of_result (λ r. open_again r.0 r.1)) kept)))

pub returns-in_ok-vacancy-in-Vacate-clause-decided :
    goal.returns-in_ok-vacancy-in-Vacate-clause-decided
returns-in_ok-vacancy-in-Vacate-clause-decided c =
    let con = c.args.con.now in
    let view = c.args.view.now in
    let gone = c.in_ok-vacancy-in-Vacate.vacancy.gone in
    let next = c.in_ok-vacancy-in-Vacate.vacancy.next in
    let left : vacate_result con view c.in-Vacate.list c.in-Vacate.place (string_bytes c.in-Vacate.note) ≡ Ok (gone, next) =
    subst (λ (n : List ℕ). vacate_result con view c.in-Vacate.list c.in-Vacate.place n ≡ Ok (gone, next)) c.deref-in-Vacate.ensures c.in_ok-vacancy-in-Vacate.ensures.vacated in
    (gone_for_good gone next, refl, subst (λ (ask : Ask). Decides con view ask (Ok (gone_for_good gone next))) (sym c.in-Vacate.is) (sym (ap (change_of_result (λ v. gone_for_good v.0 v.1)) left)))

pub returns-in_err-draw-in-Draw-clause-refused : goal.returns-in_err-draw-in-Draw-clause-refused
returns-in_err-draw-in-Draw-clause-refused c =
    let con = c.args.con.now in
    let view = c.args.view.now in
    let e = c.in_err-draw-in-Draw.field-0.0 in
    let is : c.from_residual.result ≡ Err e = search rules in
    let refused : IsDrawRefusal con view c.in-Draw.edition c.in-Draw.order.items e =
    subst (λ (order : List (List ℕ)). IsDrawRefusal con view c.in-Draw.edition order e) c.deref.ensures.value c.in_err-draw-in-Draw.ensures.refused in
    subst (λ r. IfErr r (IsConRefusal con view c.args.ask.now)) (sym is)
    (subst (λ (ask : Ask). IsConRefusal con view ask e) (sym c.in-Draw.is) refused)

pub returns-in_err-certify-in-Certify-clause-refused :
    goal.returns-in_err-certify-in-Certify-clause-refused
returns-in_err-certify-in-Certify-clause-refused c =
    let con = c.args.con.now in
    let view = c.args.view.now in
    let e = c.in_err-certify-in-Certify.field-0.0 in
    let is : c.from_residual-in_err-certify-in-Certify.result ≡ Err e = search rules in
    subst (λ r. IfErr r (IsConRefusal con view c.args.ask.now)) (sym is)
    (subst (λ (ask : Ask). IsConRefusal con view ask e) (sym c.in-Certify.is) c.in_err-certify-in-Certify.ensures.refused)
