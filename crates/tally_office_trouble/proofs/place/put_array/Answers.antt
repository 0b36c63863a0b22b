use Rattle.std.proofs.Common.{◌++◌, List, ℕ, Some, append_assoc, codes, subst}
use Rattle.tally_office_trouble.specs.Place.{entry_words, holder_words}
use Rattle.tally_office_trouble.specs.internal.Put.{IsPutAfter}
use Rattle.tally_office_trouble.proofs.PutLemmas.{put_both}
use Rattle.tally_office_trouble.proofs.place.put_array.Goals as goal

pub returns-in-Profiles : goal.returns-in-Profiles
returns-in-Profiles g c = rw c.in-Profiles.is c.put_after.ensures

pub returns-in-Constituencies : goal.returns-in-Constituencies
returns-in-Constituencies g c = rw c.in-Constituencies.is c.put_after-in-Constituencies.ensures

pub returns-in-Lists : goal.returns-in-Lists
returns-in-Lists g c = rw c.in-Lists.is c.put_coded.ensures

pub returns-in-Candidates : goal.returns-in-Candidates
returns-in-Candidates g c =
    let held = g.E.Write.contents in
    let old = held c.args.errors.now in
    let mid = held c.put_coded-done.new.errors in
    let new = held c.put_coded-in-Candidates.new.errors in
    let con = holder_words (codes "constituency ") c.in-Candidates.con in
    let list = entry_words c.in-Candidates.list.number (Some c.in-Candidates.list.code) ++ codes ", candidate " in
    let both = put_both old mid new (con ++ codes ", list ") list c.args.done c.put_coded-done.result c.put_coded-in-Candidates.result c.put_coded-done.ensures c.put_coded-in-Candidates.ensures in
    rw c.in-Candidates.is (subst (λ (t : List ℕ). IsPutAfter old new c.args.done t c.put_coded-in-Candidates.result) (append_assoc con (codes ", list ") list) both)

pub returns-in-Stations : goal.returns-in-Stations
returns-in-Stations g c = rw c.in-Stations.is c.put_coded-in-Stations.ensures
