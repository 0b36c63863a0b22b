use Rattle.std.proofs.Common.{rules, ◌≡◌, ◌∙◌, IfErr, length, ap, subst, string_bytes}
use Rattle.std.proofs.lemmas.List.{length-map}
use Rattle.tally_allot.specs.AllotFault.{IsFaultOf}
use Rattle.tally_setup.specs.Constituency.{ListEntry}
use Rattle.tally_report_allotment.specs.AllotmentText.{AreDetailsBy}
use Rattle.tally_report_allotment.specs.Question.{Question, poll_asked, question, rule_asked}
use Rattle.tally_report_allotment.specs.Recount.{recounted}
use Rattle.tally_report_allotment.specs.RecountText.{recount_lines}
use Rattle.tally_report_allotment.specs.internal.Allotments.{AreSeatsOf, details_of}
use Rattle.tally_report_allotment.proofs.recount.recount_text.Goals as goal

pub returns-in_err-seats-clause-fault : goal.returns-in_err-seats-clause-fault
returns-in_err-seats-clause-fault c =
    let Says : Question → Type 0 = λ q. IfErr c.from_residual-in_err-seats.result (IsFaultOf (rule_asked q) (poll_asked q) q.seats q.lot) in
    let here : Says (question c.in_ok-asked.asked) = rw (← c.deref.ensures.value, ← c.deref-2.ensures.value) (search rules) in
    subst Says c.in_ok-asked.ensures here

pub returns-in_err-found-clause-fault : goal.returns-in_err-found-clause-fault
returns-in_err-found-clause-fault c =
    let Says : Question → Type 0 = λ q. IfErr c.from_residual-in_err-found.result (IsFaultOf (rule_asked q) (poll_asked q) q.seats q.lot) in
    let here : Says (question c.in_ok-asked.asked) = search rules in
    subst Says c.in_ok-asked.ensures here

pub text_of-requires-clause-lists : goal.text_of-requires-clause-lists
text_of-requires-clause-lists c =
    ap (λ (q : Question). length q.lists) c.in_ok-asked.ensures ∙ length-map c.args.con.now.lists (λ (list : ListEntry). list.code)

pub returns-clause-text : goal.returns-clause-text
returns-clause-text c =
    let con = c.args.con.now in
    let r = recounted c.args.recount.now in
    let seats = c.in_ok-seats.seats.items in
    let details = details_of c.in_ok-found.found in
    let same = c.in_ok-asked.ensures in
    let under : AreSeatsOf (question c.in_ok-asked.asked) seats = search rules in
    let Found : Question → Type 0 = λ q. AreDetailsBy (rule_asked q) (poll_asked q) q.lot q.seats r.awards seats details in
    let found : Found (question c.in_ok-asked.asked) = search rules in
    let Is : Question → Type 0 = λ q. string_bytes c.in_ok-text_of.field-0 ≡ recount_lines con r q seats details c.in_ok-marks.marks.items in
    let is : Is (question c.in_ok-asked.asked) =
    c.in_ok-text_of.ensures
    ∙ ap (λ s. recount_lines con r (question c.in_ok-asked.asked) s details c.deref-6.result.now) c.deref-5.ensures.value
    ∙ ap (λ m. recount_lines con r (question c.in_ok-asked.asked) seats details m) c.deref-6.ensures.value in
    record {
      seats = seats;
      details = details;
      marks = c.in_ok-marks.marks.items;
      allotment = subst (λ (q : Question). AreSeatsOf q seats) same under;
      found = subst Found same found;
      decisive = search rules;
      is = subst Is same is;
    }
