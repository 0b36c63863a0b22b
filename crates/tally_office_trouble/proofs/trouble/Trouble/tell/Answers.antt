use Rattle.std.proofs.Common.{◌++◌}
use Rattle.tally_office_trouble.specs.Place.{place_lines}
use Rattle.tally_office_trouble.specs.Trouble.{setup_line}
use Rattle.tally_office_trouble.proofs.PutLemmas.{put_reported}
use Rattle.tally_office_trouble.proofs.trouble.Trouble.tell.Goals as goal

pub returns-in-Setup : goal.returns-in-Setup
returns-in-Setup g c =
    rw c.in-Setup.is (put_reported (g.E.Write.contents c.args.errors.now) (g.E.Write.contents c.put_setup.new.errors) (setup_line c.in-Setup.fault ++ place_lines c.in-Setup.place) c.put_setup.result c.put_setup.ensures)
