use Rattle.tally_test_core.proofs.decide.decided.Goals as goal

pub decide_return-requires-clause-lawful : goal.decide_return-requires-clause-lawful
decide_return-requires-clause-lawful c = c.may_decide.ensures.lawful c.if-not-may_decide.false
