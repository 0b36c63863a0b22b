use Rattle.std.proofs.Common.{◌≡◌, length, ap, arith}
use Rattle.std.specs.Option.{option_copied}
use Rattle.sqlite.specs.Held.{state}
use Rattle.tally_setup.specs.Constituency.{Constituency}
use Rattle.tally_store_entries.proofs.LookLemmas.{look_as, look_fails}
use Rattle.tally_store_commands.proofs.LodgedLemmas.{decided-is, reply-few}
use Rattle.tally_store_commands.proofs.FoundLemmas.{few-lists}
use Rattle.tally_store_commands.proofs.returns.decide_first.Goals as goal

pub returns-clause-decided : goal.returns-clause-decided
returns-clause-decided g c clean inside text s lawful tables =
    let con = c.args.con.now in
    let lists = c.len-lists.result in
    let same : length c.con.inside.lists.items ≡ length con.lists = ap (λ (k : Constituency). length k.lists) c.con.view_is in
    let many : lists ≡ length con.lists = omega (arith, same, c.len-lists.ensures, c.con.inside.lists.ok.0) in
    decided-is c.args.setup.now text s c.args.station c.args.slip c.args.counts.now con c.args.place.now lists c.entitled.result (state g.S.Store c.args.tx.now.conn.now) c.in_ok-found.found (option_copied c.as_ref.result) c.decide_lodge.result c.requires.limits lawful tables c.requires.known many c.entitled.ensures
    (c.in_ok-found.ensures.found clean inside) c.as_ref.ensures.value c.decide_lodge.ensures

pub decide_lodge-requires : goal.decide_lodge-requires
decide_lodge-requires g c =
    let con = c.args.con.now in
    let same : length c.con.inside.lists.items ≡ length con.lists = ap (λ (k : Constituency). length k.lists) c.con.view_is in
    let few = few-lists c.args.setup.now c.args.station con c.args.place.now c.requires.limits c.requires.known in
    omega (arith, same, few, c.len-lists.ensures, c.con.inside.lists.ok.0)

pub returns-in_err-found-clause-reads : goal.returns-in_err-found-clause-reads
returns-in_err-found-clause-reads g c = look_fails g.S.Store c.args.tx.now c.find_return.new.tx _ c.from_residual.ensures.0 c.find_return.ensures.reads.stays

pub returns-clause-reads : goal.returns-clause-reads
returns-clause-reads g c = look_as g.S.Store c.args.tx.now c.find_return.new.tx _ _ c.in_ok-found.ensures.reads

pub returns-clause-few : goal.returns-clause-few
returns-clause-few g c rev lodged =
    let con = c.args.con.now in
    let same : length c.con.inside.lists.items ≡ length con.lists = ap (λ (k : Constituency). length k.lists) c.con.view_is in
    let few = few-lists c.args.setup.now c.args.station con c.args.place.now c.requires.limits c.requires.known in
    reply-few c.len-lists.result c.entitled.result (option_copied c.as_ref.result) c.args.slip c.args.counts.now c.decide_lodge.result rev c.decide_lodge.ensures (omega (arith, same, few, c.len-lists.ensures, c.con.inside.lists.ok.0)) lodged
