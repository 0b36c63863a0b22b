use Rattle.std.proofs.Common.{◌+◌, ap, take}
use Rattle.tally_import_records.proofs.InputLemmas.{Consumes-on}
use Rattle.tally_import_records.proofs.held.HeldText.read_once.Goals as goal

pub returns-clause-came : goal.returns-clause-came
returns-clause-came g c none =
    let came = take c.in-Ok.came c.read.new.buf in (
      came,
      c.in_ok-extend_from_slice.ensures.items,
      ap (λ n. c.args.self.now.taken + n) c.in-Ok.ensures.bound.1,
      λ text bytes given. Consumes-on text (g.R.Read.remaining c.args.input.now) (g.R.Read.remaining c.read.new.reader) bytes came given c.in-Ok.ensures.bytes.0,
    )
