use Rattle.std.proofs.Common.{sym}
use Rattle.tally_import_options.specs.Wanted.{wanted}
use Rattle.tally_import_votes.proofs.AnswerLemmas.{asked-end, found-trouble, notes-end, notes-fault, notes-trouble}
use Rattle.tally_report_allotment.specs.Question.{question}
use Rattle.tally_import_votes.proofs.allot.text_of_whole.Goals as goal

pub returns-in-Err-clause-read : goal.returns-in-Err-clause-read
returns-in-Err-clause-read c before failed notes =
    notes-fault (wanted c.args.options.now) c.args.whole.bytes.items c.args.whole.stop c.in-Err.fault c.in-Err.ensures before failed notes

pub returns-in-Ok-allotment_text-clause-all_read : goal.returns-in-Ok-allotment_text-clause-all_read
returns-in-Ok-allotment_text-clause-all_read c before failed notes =
    notes-end c.args.whole.stop before failed (asked-end (wanted c.args.options.now) c.args.whole.bytes.items c.args.whole.stop (question c.in-Ok.asked) c.in-Ok.ensures) notes

pub returns-clause-finds : goal.returns-clause-finds
returns-clause-finds c =
    let q = question c.in-Ok.asked in
    found-trouble q c.trouble_of.result _ c.in-Ok.ensures (c.trouble_of.ensures q (sym c.deref.ensures.value) c.in-Err-allotment_text.ensures.fault)

pub returns-clause-read : goal.returns-clause-read
returns-clause-read c before failed notes =
    let q = question c.in-Ok.asked in
    notes-trouble q c.trouble_of.result failed (c.trouble_of.ensures q (sym c.deref.ensures.value) c.in-Err-allotment_text.ensures.fault)
