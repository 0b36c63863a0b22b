use Rattle.std.proofs.Common.{map, string_bytes}
use Rattle.tally_office_streams.proofs.LineLemmas.{refused-streams}
use Rattle.tally_office_streams.proofs.performing.perform_streams.Goals as goal

pub returns : goal.returns
returns g c =
    refused-streams (g.F.NamedFiles.Gives c.args.files.now) g.R.Read.remaining g.W.Write.contents g.E.Write.contents (map string_bytes c.args.words.now) c.in-Err.fault
    c.args.input.now c.args.output.now c.args.errors.now c.report_fault.new.errors c.report_fault.result
    c.in-Err.ensures.fault c.report_fault.ensures.status c.report_fault.ensures.reported c.report_fault.ensures.no_con
