use Rattle.std.proofs.Common.{refl, subst}
use Rattle.tally_returns.specs.Named.{BringsCode}
use Rattle.tally_keeper.proofs.HeldLemmas.{lodged-held, moved-held}
use Rattle.tally_keeper.proofs.StepLemmas.{lodged-answered, lodged-setup}
use Rattle.tally_core.proofs.book.answers.answer_in.Goals as goal

pub returns-in-Lodge : goal.returns-in-Lodge
returns-in-Lodge c =
    let k = c.args.ledger.now in
    let new = c.lodge.new.ledger in
    let way = c.in-Lodge in
    record {
      step = lodged-answered k new c.args.ask.now way.station way.slip way.counts c.lodge.result way.is c.lodge.ensures;
      setup = lodged-setup k new way.station way.slip way.counts c.lodge.result c.lodge.ensures;
      held = lodged-held k new way.station way.slip way.counts c.lodge.result (subst BringsCode way.is c.slip-slip.ensures.code way.slip refl) c.requires.held c.lodge.ensures;
    }

pub returns-in-Query-clause-held : goal.returns-in-Query-clause-held
returns-in-Query-clause-held c = moved-held c.args.ledger.now c.move_on.new.ledger c.args.ask.now c.move_on.result c.slip-slip.ensures.code c.requires.held c.move_on.ensures

pub returns-in-Correct-clause-held : goal.returns-in-Correct-clause-held
returns-in-Correct-clause-held c =
    moved-held c.args.ledger.now c.move_on-in-Correct.new.ledger c.args.ask.now c.move_on-in-Correct.result c.slip-slip.ensures.code c.requires.held c.move_on-in-Correct.ensures

pub returns-in-Close-clause-held : goal.returns-in-Close-clause-held
returns-in-Close-clause-held c = moved-held c.args.ledger.now c.move_on-in-Close.new.ledger c.args.ask.now c.move_on-in-Close.result c.slip-slip.ensures.code c.requires.held c.move_on-in-Close.ensures

pub returns-in-Confirm-clause-held : goal.returns-in-Confirm-clause-held
returns-in-Confirm-clause-held c = moved-held c.args.ledger.now c.move_on-in-Confirm.new.ledger c.args.ask.now c.move_on-in-Confirm.result c.slip-slip.ensures.code c.requires.held c.move_on-in-Confirm.ensures
