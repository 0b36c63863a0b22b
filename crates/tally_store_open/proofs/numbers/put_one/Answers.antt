use Rattle.std.proofs.Common.{◌∙◌, ap, sym}
use Rattle.std.specs.FinMap.{insert}
use Rattle.std.specs.Option.{option_copied}
use Rattle.std.specs.Prelude.{option_map}
use Rattle.tally_keeper.proofs.TreeLemmas.{tree-insert}
use Rattle.tally_setup.specs.Setup.{constituency_with}
use Rattle.tally_store_rows.specs.Views.{statuses_of}
use Rattle.tally_store_open.specs.Numbers.{numbers_of}
use Rattle.tally_store_open.specs.internal.Tree.{with_numbers}
use Rattle.tally_store_open.proofs.NumberLemmas.{numbers_seen}
use Rattle.tally_store_open.proofs.numbers.put_one.Goals as goal

pub returns-in_default : goal.returns-in_default
returns-in_default c =
    let kept = c.args.ledger.now in
    let at = numbers_seen kept (constituency_with c.args.con kept.setup) (option_copied c.view.result) c.view.ensures ∙ ap (λ o. option_map statuses_of (option_copied o)) c.in_default.is in
    sym (ap (λ o. with_numbers c.args.con o (numbers_of c.args.known.now)) at)

pub returns : goal.returns
returns c =
    let kept = c.args.ledger.now in
    let before = numbers_of c.args.known.now in
    let at = numbers_seen kept (constituency_with c.args.con kept.setup) (option_copied c.view.result) c.view.ensures ∙ ap (λ o. option_map statuses_of (option_copied o)) c.in-Some.is in
    tree-insert c.args.known.now c.insert.new.self c.args.con c.statuses_of.result c.in_ok-insert.ensures.updates
    ∙ ap (insert before c.args.con) c.statuses_of.ensures ∙ sym (ap (λ o. with_numbers c.args.con o before) at)
