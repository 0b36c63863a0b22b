use Rattle.tally_allot_award.proofs.heap_award.keyed_pair.Goals as goal

pub key_of-requires-clause-within : goal.key_of-requires-clause-within
key_of-requires-clause-within g c = c.requires.keys c.args.list c.args.seat c.requires.eligible c.requires.first c.requires.last
