use Rattle.std.proofs.Common.{sym, ◌∙◌}
use Rattle.tally_store_schema.specs.Rows.{text_cmp}
use Rattle.tally_store_open.specs.internal.Entries.{key_of}
use Rattle.tally_store_open.proofs.RiseLemmas.{rises_end}
use Rattle.tally_store_open.proofs.cons.codes_rise.Goals as goal

pub returns : goal.returns
returns c = sym (rises_end text_cmp key_of c.args.found.now c.loop-i.i c.loop-i-test.false) ∙ c.loop-i.invariant
