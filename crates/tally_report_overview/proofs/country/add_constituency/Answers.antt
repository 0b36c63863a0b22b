use Rattle.std.proofs.Common.{◌≡◌, ◌<◌, ◌∙◌, ap, arith, get_or, length}
use Rattle.std.proofs.lemmas.List.{get_or_default}
use Rattle.tally_returns.specs.View.{View}
use Rattle.tally_setup.specs.Constituency.{Constituency, ListEntry}
use Rattle.tally_report_overview.proofs.TotalLemmas.{added-next, votes-more}
use Rattle.tally_report_overview.proofs.country.add_constituency.Goals as goal

pub loop-place-preserved : goal.loop-place-preserved
loop-place-preserved c =
    let con = c.args.con.now in
    let votes = c.args.view.now.votes in
    let seats = c.certificate-seats.result.now in
    let i = c.loop-place.place in
    let old = c.loop-place.totals in
    let mid = c.add_list.new.totals in
    let list = c.list-item.result in
    let lists : c.deref-list-items.result.now ≡ con.lists = c.deref-list-items.ensures.value ∙ ap (λ (k : Constituency). k.lists) c.con.view_is in
    let lt : i < length con.lists = omega (arith, c.loop-place-test.true, ap length lists) in
    let few : i < length votes = omega (arith, lt, c.requires.view.lists) in
    let list-is : list ≡ get_or con.lists i list = c.list-item.is ∙ ap (λ ls. get_or ls i list) lists in
    let code-is : c.list.inside.code ≡ list.code = ap (λ (l : ListEntry). l.code) c.list.view_is in
    let votes-are : c.index.result.now ≡ get_or votes i 0 =
    c.index.ensures ∙ ap (λ (v : View). get_or v.votes i c.index.result.now) c.view.view_is ∙ get_or_default votes i c.index.result.now 0 few in record {
      rest = λ new rest.
          c.loop-place.invariant.rest new
          (added-next con.lists seats votes i list c.list.inside.code c.number_at.result c.index.result.now old mid new lt list-is code-is c.number_at.ensures.number votes-are c.in_ok-add_list.ensures.added rest);
      within = votes-more i c.args.totals.now old mid c.loop-place.invariant.within c.in_ok-add_list.ensures.within;
    }
