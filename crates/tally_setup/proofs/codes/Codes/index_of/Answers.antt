use Rattle.std.proofs.Common.{◌≡◌, ◌<◌, ◌^◌, length, arith, rules}
use Rattle.tally_setup.specs.Codes.{index_of}
use Rattle.tally_setup.proofs.CodesLemmas.{index_of-fits}
use Rattle.tally_setup.proofs.codes.Codes.index_of.Goals as goal

pub returns-clause-bound : goal.returns-clause-bound
returns-clause-bound c =
    let place : c.copied.result ≡ index_of c.args.code c.args.self.now = search rules in
    let count : length c.args.self.now < 2 ^ 63 = omega (arith, c.len-count.ensures.count, c.len-count.ensures.bound) in
    index_of-fits c.args.code c.args.self.now c.copied.result (2 ^ 63) place count
