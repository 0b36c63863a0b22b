use Rattle.std.proofs.Common.{◌≡◌, ◌∙◌, Some, Err, ap, subst, sym, rules}
use Rattle.std.specs.Option.{option_copied}
use Rattle.tally_setup.specs.Setup.{constituency_with}
use Rattle.tally_returns.specs.View.{View}
use Rattle.tally_returns.proofs.ClosedLemmas.{constituency_with-code}
use Rattle.tally_machine_law.proofs.CertificationLemmas.{refused-lawful}
use Rattle.tally_keeper.specs.Kept.{view_in}
use Rattle.tally_keeper.specs.internal.Held.{IsAnsweredOn}
use Rattle.tally_keeper.proofs.CarryLemmas.{can-carry-out, carried, carried-done, decided-seen, held-view, refused-done, shown-done}
use Rattle.tally_keeper.proofs.StepLemmas.{view-found, view-none}
use Rattle.tally_core.proofs.book.constituencies.answer_on_con.Goals as goal

pub decide_con-requires-clause-named : goal.decide_con-requires-clause-named
decide_con-requires-clause-named c =
    let k = c.args.ledger.now in
    let found : constituency_with c.args.code k.setup ≡ Some c.in-Some.con.now =
    ap (constituency_with c.args.code) (sym c.setup.ensures) ∙ sym c.con.ensures.found ∙ ap option_copied c.in-Some.is in
    c.requires.named ∙ ap Some (sym (constituency_with-code k.setup c.args.code c.in-Some.con.now found))

pub decide_con-requires-clause-fits : goal.decide_con-requires-clause-fits
decide_con-requires-clause-fits c =
    let k = c.args.ledger.now in
    let con = c.in-Some.con.now in
    let found : constituency_with c.args.code k.setup ≡ Some con =
    ap (constituency_with c.args.code) (sym c.setup.ensures) ∙ sym c.con.ensures.found ∙ ap option_copied c.in-Some.is in
    (held-view k c.args.code con c.in-Some-view.view.now c.requires.held found (view-found k c.args.code con c.view.result c.in-Some-view.view found c.view.ensures c.in-Some-view.is)).fits

pub carry_out-requires : goal.carry_out-requires
carry_out-requires c =
    let k = c.args.ledger.now in
    let con = c.in-Some.con.now in
    let view = c.in-Some-view.view.now in
    let ask = c.args.ask.now in
    let found : constituency_with c.args.code k.setup ≡ Some con =
    ap (constituency_with c.args.code) (sym c.setup.ensures) ∙ sym c.con.ensures.found ∙ ap option_copied c.in-Some.is in
    let seen : view ≡ view_in k con = view-found k c.args.code con c.view.result c.in-Some-view.view found c.view.ensures c.in-Some-view.is in
    let edition_is = ap (λ (v : View). v.edition) (c.view-2.view_is ∙ seen) in
    let d = decided-seen k con view ask c.in_ok-change.change seen c.in_ok-change.ensures.decided in
    can-carry-out k c.args.code con ask c.view-2.inside.edition c.in_ok-change.change d.decided c.requires.held found c.requires.named edition_is d.is d.decides c.in_default-2.not-Same

pub returns-in_default-2 : goal.returns-in_default-2
returns-in_default-2 c =
    let k = c.args.ledger.now in
    let con = c.in-Some.con.now in
    let view = c.in-Some-view.view.now in
    let ask = c.args.ask.now in
    let found : constituency_with c.args.code k.setup ≡ Some con =
    ap (constituency_with c.args.code) (sym c.setup.ensures) ∙ sym c.con.ensures.found ∙ ap option_copied c.in-Some.is in
    let seen : view ≡ view_in k con = view-found k c.args.code con c.view.result c.in-Some-view.view found c.view.ensures c.in-Some-view.is in
    let edition_is = ap (λ (v : View). v.edition) (c.view-2.view_is ∙ seen) in
    let d = decided-seen k con view ask c.in_ok-change.change seen c.in_ok-change.ensures.decided in
    let done = carried-done k c.carry_out.new.ledger c.args.code con ask c.view-2.inside.edition c.in_ok-change.change d.decided c.carry_out.result c.requires.held found c.requires.named edition_is d.is d.decides
    c.in_default-2.not-Same (carried k c.carry_out.new.ledger c.args.code c.view-2.inside.edition c.in_ok-change.change d.decided c.carry_out.result d.is c.carry_out.ensures.reply c.carry_out.ensures.carried_out
    c.carry_out.ensures.refused c.carry_out.ensures.stays) in
    record { step = done.step; setup = done.setup; held = done.held }

pub unreachable-requires : goal.unreachable-requires
unreachable-requires c =
    let k = c.args.ledger.now in
    let con = c.in-Some.con.now in
    let found : constituency_with c.args.code k.setup ≡ Some con =
    ap (constituency_with c.args.code) (sym c.setup.ensures) ∙ sym c.con.ensures.found ∙ ap option_copied c.in-Some.is in
    view-none k c.args.code con c.view.result found c.view.ensures c.in_default-view.is

pub returns-in_err-change : goal.returns-in_err-change
returns-in_err-change c =
    let k = c.args.ledger.now in
    let con = c.in-Some.con.now in
    let found : constituency_with c.args.code k.setup ≡ Some con =
    ap (constituency_with c.args.code) (sym c.setup.ensures) ∙ sym c.con.ensures.found ∙ ap option_copied c.in-Some.is in
    let view = c.in-Some-view.view.now in
    let seen : view ≡ view_in k con = view-found k c.args.code con c.view.result c.in-Some-view.view found c.view.ensures c.in-Some-view.is in
    let e = c.in_err-change.field-0.0 in
    let is : c.from_residual.result ≡ Err e = search rules in
    let lawful = held-view k c.args.code con view c.requires.held found seen in
    let done = refused-done k c.args.code con c.args.ask.now view e c.requires.held found seen (refused-lawful con view c.args.ask.now e lawful c.in_err-change.ensures.refused) in
    record { step = subst (λ r. IsAnsweredOn c.args.code k c.args.ask.now r k) (sym is) done.step; setup = done.setup; held = done.held }

pub returns-in_ok-try_copy-in-Same : goal.returns-in_ok-try_copy-in-Same
returns-in_ok-try_copy-in-Same c =
    let k = c.args.ledger.now in
    let con = c.in-Some.con.now in
    let found : constituency_with c.args.code k.setup ≡ Some con =
    ap (constituency_with c.args.code) (sym c.setup.ensures) ∙ sym c.con.ensures.found ∙ ap option_copied c.in-Some.is in
    let view = c.in-Some-view.view.now in
    let ask = c.args.ask.now in
    let seen : view ≡ view_in k con = view-found k c.args.code con c.view.result c.in-Some-view.view found c.view.ensures c.in-Some-view.is in
    let d = decided-seen k con view ask c.in_ok-change.change seen c.in_ok-change.ensures.decided in
    let done = shown-done k c.args.code con ask c.in_ok-change.change d.decided c.in_ok-try_copy-in-Same.field-0 c.requires.held found d.is d.decides c.in-Same.is (c.in_ok-try_copy-in-Same.ensures ∙ seen) in
    record { step = done.step; setup = done.setup; held = done.held }
