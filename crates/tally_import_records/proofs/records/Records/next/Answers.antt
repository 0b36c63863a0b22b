use Rattle.std.proofs.Common.{subst, sym}
use Rattle.tally_import_records.specs.Given.{HasGiven, sep_of}
use Rattle.tally_import_records.specs.Input.{AreAll}
use Rattle.tally_import_records.proofs.records.Records.next.Goals as goal

pub returns-clause-record : goal.returns-clause-record
returns-clause-record g c none text given has =
    let old = g.R.Read.remaining c.args.input.now in
    c.in_ok-end.ensures.record none text given (subst (λ r. HasGiven text old given r) (sym c.self.view_is) has)

pub returns-clause-all : goal.returns-clause-all
returns-clause-all g c e is text given has =
    let old = g.R.Read.remaining c.args.input.now in
    let left = g.R.Read.remaining c.next.new.input in
    subst (λ r. AreAll (sep_of r) text left given e.stop) c.self.view_is
    (c.in_ok-end.ensures.all e is text given (subst (λ r. HasGiven text old given r) (sym c.self.view_is) has))
