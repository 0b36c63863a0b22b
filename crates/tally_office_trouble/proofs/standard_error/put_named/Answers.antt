use Rattle.std.proofs.Common.{◌++◌, codes}
use Rattle.tally_office_trouble.proofs.PutLemmas.{put_both, put_on}
use Rattle.tally_office_trouble.proofs.standard_error.put_named.Goals as goal

pub returns : goal.returns
returns g c =
    let held = g.E.Write.contents in
    let old = held c.args.errors.now in
    let s1 = held c.put-done.new.errors in
    let s2 = held c.put_after-done.new.errors in
    let new = held c.put_after.new.errors in
    put_on old s1 new c.args.words.now (c.args.name.now ++ codes "\n") c.put-done.result c.put_after.result c.put-done.ensures
    (put_both s1 s2 new c.args.name.now (codes "\n") c.put-done.result c.put_after-done.result c.put_after.result c.put_after-done.ensures c.put_after.ensures)
