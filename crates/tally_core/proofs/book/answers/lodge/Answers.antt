use Rattle.std.proofs.Common.{◌∙◌, Ok, ap, sym}
use Rattle.tally_returns.specs.Lawful.{IsLawful}
use Rattle.tally_returns.specs.Return.{first_return}
use Rattle.tally_returns.specs.State.{stations_of}
use Rattle.std.proofs.Common.{subst}
use Rattle.tally_keeper.proofs.StepLemmas.{first-lawful}
use Rattle.tally_core.proofs.book.answers.lodge.Goals as goal

pub put-requires : goal.put-requires
put-requires c =
    let k = c.args.ledger.now in
    let put = first-lawful (stations_of k.setup) k.returns c.args.station c.args.slip c.args.counts.now c.in-Lodged.rev c.as_bytes-slip.ensures.code (sym c.in_ok-reply.ensures ∙ ap Ok c.in-Lodged.is) in
    let same = c.lodged-first.ensures ∙ ap (first_return c.args.slip) c.in_ok-try_copy.ensures in
    record { lawful = (put.0, put.1, subst (IsLawful put.0) (sym same) put.2) }
