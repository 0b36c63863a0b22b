use Rattle.std.proofs.Common.{◌∙◌, subst}
use Rattle.tally_office_trouble.specs.Reported.{IsReported}
use Rattle.tally_office_program.proofs.serve.serve_on.Goals as goal

pub returns-clause-said : goal.returns-clause-said
returns-clause-said g c =
    subst (IsReported (g.E.Write.contents c.args.errors.now) (g.E.Write.contents c.tell.new.errors)) (c.as_str.ensures.value ∙ c.in-Ok-where_listening.ensures.line) c.tell.ensures
