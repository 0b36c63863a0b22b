use Rattle.std.proofs.lemmas.Result.{IfOk-weaker}
use Rattle.clap.specs.Words.{new_app}
use Rattle.tally_office_line.specs.internal.Commands.{Offers}
use Rattle.tally_office_line.proofs.AppLemmas.{with_args}
use Rattle.tally_office_line.proofs.line.described_command.Goals as goal

pub returns : goal.returns
returns c =
    let app = new_app c.args.name.now in
    let offers : Offers app c.after_long_help.result = rw (c.after_long_help.ensures, c.long_about.ensures, c.about.ensures) (c.new.ensures.app, c.new.ensures.local) in
    IfOk-weaker c.args-2.result _ _ (λ command adds. with_args app _ command _ offers adds) c.args-2.ensures
