use Rattle.tally_import_options.specs.WantedRecount.{wanted}
use Rattle.tally_office_streams.proofs.RecountLemmas.{without-con, without-setup}
use Rattle.tally_office_streams.proofs.recounting.recount_streams.Goals as goal

pub returns-in-Err : goal.returns-in-Err
returns-in-Err g c =
    without-setup (g.F.NamedFiles.Gives c.args.files.now c.args.setup.now) g.R.Read.remaining g.W.Write.contents g.E.Write.contents c.args.con.now (wanted c.args.options.now) c.args.input.now c.args.output.now
    c.args.errors.now c.report.new.errors c.in-Err.trouble c.report.result c.in-Err.ensures.trouble c.report.ensures.reported c.report.ensures.status

pub returns-in_default : goal.returns-in_default
returns-in_default g c =
    without-con (g.F.NamedFiles.Gives c.args.files.now c.args.setup.now) g.R.Read.remaining g.W.Write.contents g.E.Write.contents c.args.con.now (wanted c.args.options.now) c.in-Ok.setup c.args.input.now c.args.output.now
    c.args.errors.now c.report-in_default.new.errors c.report-in_default.result c.in-Ok.ensures.setup c.in_default.ensures.found c.report-in_default.ensures.reported c.report-in_default.ensures.status
