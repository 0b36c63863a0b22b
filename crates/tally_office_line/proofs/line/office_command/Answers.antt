use Rattle.std.proofs.Common.{◌∷◌, [], sym, subst}
use Rattle.std.proofs.lemmas.Result.{IfOk-weaker}
use Rattle.tally_office_line.specs.Line.{allot_app, bare_office_app, check_app, import_app, new_office_app, recount_app, serve_app, show_app}
use Rattle.tally_office_line.proofs.AppLemmas.{OfferEach, offer-more, with_subs}
use Rattle.tally_office_line.proofs.line.office_command.Goals as goal

pub returns : goal.returns
returns c =
    let none = subst (OfferEach []) (sym c.new-commands.ensures.items) tt in
    let one = offer-more [] check_app _ _ _ none c.check_command.ensures c.in_ok-push_command.ensures in
    let two = offer-more (check_app ∷ []) allot_app _ _ _ one c.allot_command.ensures c.in_ok-push_command-2.ensures in
    let three = offer-more (check_app ∷ allot_app ∷ []) recount_app _ _ _ two c.recount_command.ensures c.in_ok-push_command-3.ensures in
    let four = offer-more (check_app ∷ allot_app ∷ recount_app ∷ []) new_office_app _ _ _ three c.new_command.ensures c.in_ok-push_command-4.ensures in
    let five = offer-more (check_app ∷ allot_app ∷ recount_app ∷ new_office_app ∷ []) import_app _ _ _ four c.import_command.ensures c.in_ok-push_command-5.ensures in
    let first = check_app ∷ allot_app ∷ recount_app ∷ new_office_app ∷ import_app ∷ [] in
    let six = offer-more first show_app _ _ _ five c.show_command.ensures c.in_ok-push_command-6.ensures in
    let apps = check_app ∷ allot_app ∷ recount_app ∷ new_office_app ∷ import_app ∷ show_app ∷ serve_app ∷ [] in
    let seven = offer-more (check_app ∷ allot_app ∷ recount_app ∷ new_office_app ∷ import_app ∷ show_app ∷ []) serve_app _ _ _ six c.serve_command.ensures c.in_ok-push_command-7.ensures in
    IfOk-weaker c.subcommands.result _ _ (λ office adds. with_subs bare_office_app c.bare_office_command.result office apps _ c.bare_office_command.ensures seven adds)
    c.subcommands.ensures
