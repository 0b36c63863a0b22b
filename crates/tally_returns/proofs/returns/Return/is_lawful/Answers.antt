use Rattle.std.proofs.Common.{◌≡◌, ◌∙◌, length, ap, rules, sym, subst}
use Rattle.tally_setup.specs.Constituency.{entitled}
use Rattle.tally_returns.specs.Decide.{limits_of}
use Rattle.tally_returns.specs.Lawful.{IsLawful}
use Rattle.tally_returns.specs.Lodge.{StationLimits, limits_for}
use Rattle.tally_returns.proofs.returns.Return.is_lawful.Goals as goal

pub returns-clause-lawful : goal.returns-clause-lawful
returns-clause-lawful c test =
    let con = c.args.con.now in
    let lists : c.len.result ≡ length con.lists = search rules in
    let same : limits_for c.len.result c.entitled.result con.entry ≡ limits_of con c.args.station.now =
    ap (λ n. limits_for n c.entitled.result con.entry) lists ∙ ap (λ n. limits_for (length con.lists) n con.entry) c.entitled.ensures in
    subst (λ (l : StationLimits). IsLawful l c.args.self.now) same (c.is_lawful_for.ensures.lawful con.entry test)

pub returns-clause-otherwise : goal.returns-clause-otherwise
returns-clause-otherwise c lawful =
    let con = c.args.con.now in
    let lists : c.len.result ≡ length con.lists = search rules in
    let same : limits_for c.len.result c.entitled.result con.entry ≡ limits_of con c.args.station.now =
    ap (λ n. limits_for n c.entitled.result con.entry) lists ∙ ap (λ n. limits_for (length con.lists) n con.entry) c.entitled.ensures in
    c.is_lawful_for.ensures.otherwise con.entry (subst (λ (l : StationLimits). IsLawful l c.args.self.now) (sym same) lawful)
