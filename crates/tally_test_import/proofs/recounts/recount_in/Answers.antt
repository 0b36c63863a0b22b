use Rattle.std.proofs.Common.{◌∙◌, ap, sym}
use Rattle.std.specs.Option.{option_copied}
use Rattle.tally_test_import.proofs.recounts.recount_in.Goals as goal

pub recount_csv-requires : goal.recount_csv-requires
recount_csv-requires g c = (c.args.setup.now, c.args.code, c.con.ensures.limits, sym c.con.ensures.found ∙ ap option_copied c.in-Some.is)
