use Rattle.std.proofs.Common.{ℕ, List, refl, subst, take}
use Rattle.std.specs.Io.KnownBytes.{Appends}
use Rattle.tally_office_commands.proofs.ending.print_if_closed.Goals as goal

pub returns-in-Ok-clause-written : goal.returns-in-Ok-clause-written
returns-in-Ok-clause-written g c = (c.args.text.now, refl, subst (Appends _ _) c.as_bytes.ensures.value c.in-Ok.ensures.ok)

pub returns-in-Err-clause-written : goal.returns-in-Err-clause-written
returns-in-Err-clause-written g c =
    let old = g.W.Write.contents c.args.output.now in
    let new = g.W.Write.contents c.write_text.new.writer in
    let front = c.in-Err.ensures.err in
    (c.args.text.now, front.0, refl, subst (λ (bytes : List ℕ). Appends old new (take front.0 bytes)) c.as_bytes.ensures.value front.1)
