use Rattle.std.proofs.Common.{sym, ap, subst, rules}
use Rattle.tally_allot.specs.AllotFault.{IsFaultOf}
use Rattle.tally_import_votes.specs.Lot.{words_given}
use Rattle.tally_report_allotment.specs.Question.{poll_asked, rule_asked}
use Rattle.tally_report_allotment.specs.Recount.{AreReturnsOf, Recounted, question_counted}
use Rattle.tally_import_recount.specs.Counted.{recounted_rows}
use Rattle.tally_import_options.specs.WantedRecount.{wanted}
use Rattle.tally_import_recount.proofs.LawfulLemmas.{returns-of}
use Rattle.tally_import_recount.proofs.recount.text_counted.Goals as goal

pub recount_text-requires : goal.recount_text-requires
recount_text-requires c =
    let taken = c.requires.taken in
    subst (AreReturnsOf c.args.con.now) (sym (ap (λ (r : Recounted). r.returns) (c.in-Ok.ensures taken.0 taken.1)))
    (returns-of c.args.con.now (words_given (wanted c.args.options.now).without) taken.0 c.requires.setup)

pub returns : goal.returns
returns c rows h =
    let con = c.args.con.now in
    c.trouble_of.ensures (question_counted con (recounted_rows con (wanted c.args.options.now) rows)) (search rules)
    (subst (λ (r : Recounted). IsFaultOf (rule_asked (question_counted con r)) (poll_asked (question_counted con r)) con.seats r.lot c.in-Err.fault) (c.in-Ok.ensures rows h) c.in-Err.ensures.fault)
