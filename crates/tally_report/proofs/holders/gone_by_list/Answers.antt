use Rattle.std.proofs.Common.{◌≡◌, ◌≤◌, ◌∙◌, ℕ, List, Vec, Global, length, map, ap, subst}
use Rattle.std.proofs.lemmas.List.{take_all}
use Rattle.tally_returns.specs.GoneCandidate.{GoneCandidate}
use Rattle.tally_returns.specs.View.{View}
use Rattle.tally_report.specs.internal.GoneByList.{AreByList, IsOneMore}
use Rattle.tally_report.proofs.GoneLemmas.{none_gone, one_more_gone}
use Rattle.tally_report.proofs.holders.gone_by_list.Goals as goal

pub loop-candidate-init : goal.loop-candidate-init
loop-candidate-init c = none_gone c.args.view.now.gone c.args.lists (map (λ (places : Vec ℕ Global). places.items) c.in_ok-gone.gone.items) c.in_ok-gone.ensures

pub loop-candidate-preserved : goal.loop-candidate-preserved
loop-candidate-preserved c =
    let old = map (λ (places : Vec ℕ Global). places.items) c.loop-candidate.gone.items in
    let new = map (λ (places : Vec ℕ Global). places.items) c.add_gone.new.gone.items in
    let all : c.deref-candidate-items.result.now ≡ c.args.view.now.gone = c.deref-candidate-items.ensures.value ∙ ap (λ (v : View). v.gone) c.view.view_is in
    let more : IsOneMore c.candidate-item.result.list c.candidate-item.result.place old new = subst (λ (g : GoneCandidate). IsOneMore g.list g.place old new) c.candidate.view_is c.in_ok-add_gone.ensures in
    one_more_gone c.args.view.now.gone c.deref-candidate-items.result.now c.loop-candidate.candidate-index c.candidate-item.result c.args.lists old new
    all c.candidate-item.is c.loop-candidate-test.true c.loop-candidate.invariant more

pub returns : goal.returns
returns c =
    let all : c.deref-candidate-items.result.now ≡ c.args.view.now.gone = c.deref-candidate-items.ensures.value ∙ ap (λ (v : View). v.gone) c.view.view_is in
    let end : length c.args.view.now.gone ≤ c.loop-candidate.candidate-index = subst (λ (gs : List GoneCandidate). length gs ≤ c.loop-candidate.candidate-index) all c.loop-candidate-test.false in
    subst (λ (gs : List GoneCandidate). AreByList gs c.args.lists (map (λ (places : Vec ℕ Global). places.items) c.loop-candidate.gone.items))
    (take_all c.loop-candidate.candidate-index c.args.view.now.gone end) c.loop-candidate.invariant
