use Rattle.std.proofs.Common.{◌≡◌, ◌∙◌, Some, arith, ap, subst, sym, take}
use Rattle.std.specs.Prelude.{All}
use Rattle.tally_setup.specs.Constituency.{Constituency}
use Rattle.tally_setup.specs.Limits.{IsSetup}
use Rattle.tally_setup.specs.Setup.{constituency_with}
use Rattle.tally_setup.proofs.NamedLemmas.{Has, con-only, has-at}
use Rattle.tally_store_open.specs.Numbers.{numbers_of}
use Rattle.tally_store_open.specs.internal.Tree.{IsNumbered}
use Rattle.tally_store_open.proofs.AllLemmas.{all_end, all_more}
use Rattle.tally_store_open.proofs.NumberLemmas.{numbered-all, numbered-others, numbered-own}
use Rattle.tally_store_open.proofs.numbers.put_all.Goals as goal

pub loop-con-preserved : goal.loop-con-preserved
loop-con-preserved c =
    let kept = c.args.ledger.now in
    let cons = c.cons-cons.result.now in
    let i = c.loop-con.con-index in
    let con = c.con-item.result in
    let before = numbers_of c.loop-con.known in
    let after = numbers_of c.put_one.new.known in
    let own : c.con.inside.code ≡ con.code = ap (λ (x : Constituency). x.code) c.con.view_is in
    let is = c.cons-cons.ensures.cons ∙ c.setup.ensures in
    let limits = subst IsSetup c.setup.ensures c.cons-cons.ensures.limits in
    let has : Has con kept.setup = subst (Has con) is (subst (λ (x : Constituency). Has x cons) (sym c.con-item.is) (has-at cons i con c.loop-con-test.true)) in
    let there : constituency_with con.code kept.setup ≡ Some con = con-only kept.setup con limits has in
    all_more (IsNumbered kept after) cons i con (omega (arith, c.loop-con-test.true)) c.con-item.is (numbered-own kept c.con.inside.code before after con c.in_ok-put_one.ensures own there)
    (numbered-others kept c.con.inside.code before after (take i cons) c.in_ok-put_one.ensures c.loop-con.invariant)

pub returns : goal.returns
returns c =
    let kept = c.args.ledger.now in
    let numbers = numbers_of c.loop-con.known in
    let all = all_end (IsNumbered kept numbers) c.cons-cons.result.now c.loop-con.con-index (omega (arith, c.loop-con-test.false)) c.loop-con.invariant in
    numbered-all kept numbers (subst (All (IsNumbered kept numbers)) (c.cons-cons.ensures.cons ∙ c.setup.ensures) all)
