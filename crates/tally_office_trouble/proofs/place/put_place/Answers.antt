use Rattle.std.proofs.Common.{◌++◌, List, ℕ, append_assoc, codes, subst}
use Rattle.tally_office_trouble.specs.Place.{way_words}
use Rattle.tally_office_trouble.specs.internal.Put.{IsPut}
use Rattle.tally_office_trouble.proofs.PutLemmas.{put_both, put_on}
use Rattle.tally_office_trouble.proofs.place.put_place.Goals as goal

pub returns-in-Some : goal.returns-in-Some
returns-in-Some g c =
    let held = g.E.Write.contents in
    let old = held c.args.errors.now in
    let s1 = held c.put-done.new.errors in
    let s2 = held c.put_way-done.new.errors in
    let new = held c.put_way.new.errors in
    let way = way_words c.in-Entry.way in
    let other = way_words c.in-Some.first ++ codes "\n" in
    let both = put_both s1 s2 new (way ++ codes "; first at ") other c.put-done.result c.put_way-done.result c.put_way.result c.put_way-done.ensures c.put_way.ensures in
    let all = put_on old s1 new (codes "at ") (way ++ codes "; first at " ++ other) c.put-done.result c.put_way.result c.put-done.ensures both in
    rw (c.in-Entry.is, c.in-Some.is) (subst (λ (t : List ℕ). IsPut old new (codes "at " ++ t) c.put_way.result) (append_assoc way (codes "; first at ") other) all)

pub returns-in-None : goal.returns-in-None
returns-in-None g c =
    let held = g.E.Write.contents in
    rw (c.in-Entry.is, c.in-None.is) (put_on (held c.args.errors.now) (held c.put-done.new.errors) (held c.put_way-in-None.new.errors) (codes "at ") (way_words c.in-Entry.way ++ codes "\n") c.put-done.result c.put_way-in-None.result c.put-done.ensures c.put_way-in-None.ensures)
