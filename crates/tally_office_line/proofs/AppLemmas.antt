-- What a command comes to once arguments and subcommands are added to it.
use Rattle.std.proofs.Common.{◌≡◌, ◌++◌, ◌∙◌, sym, ap, subst, fold, List, [], ◌∷◌, Result, Ok, Err, IfOk}
use Rattle.std.proofs.lemmas.Result.{IfOk-weaker}
use Rattle.clap.specs.Words.{AddsArg, AddsInTurn, AddsSubcommand, App, Rule, app_of, rule_of, with_rule, with_subcommand}
use Rattle.clap.specs.declared.builder.arg.Arg.{Arg}
use Rattle.clap.specs.declared.builder.command.Command.{Command}
use Rattle.tally_office_line.specs.internal.Commands.{AddsMade, HasRule, HaveRules, Offers, OffersAll}

with_arg : (app : App) (rule : Rule) (old new : Command) (a : Arg) → Offers app old → HasRule rule a → AddsArg old a new → Offers (with_rule app rule) new
with_arg app rule old new a is has adds = (
  adds.shape has.1 ∙ (ap (λ (p : App). with_rule p (rule_of a)) is.0 ∙ ap (λ (r : Rule). with_rule app r) has.0),
  rw (is.1, has.1) at adds.globals,
)

-- a command with these arguments in turn
pub with_args : (app : App) (old new : Command) (args : List Arg) → Offers app old → AddsInTurn AddsArg old args new → OffersAll app args new
with_args app old new [] is adds [] have = subst (Offers app) adds is
with_args app old new (a ∷ rest) is adds (rule ∷ rules) have =
    with_args (with_rule app rule) adds.0 new rest (with_arg app rule old adds.0 a is have.0 adds.1) adds.2 rules have.1
with_args app old new [] is adds (rule ∷ rules) have = absurd have
with_args app old new (a ∷ rest) is adds [] have = absurd have

-- one whose arguments have these rules
pub offered : {E : Type 0} (app : App) (rules : List Rule) (given xs : List Arg) (r : Result Command E) → given ≡ xs → HaveRules rules xs → IfOk r (OffersAll app given)
    → IfOk r (Offers (fold with_rule app rules))
offered app rules given xs r same have all = IfOk-weaker r _ _ (λ command offers. offers rules (subst (HaveRules rules) (sym same) have)) all

-- a command that has more of them
pub offered_more : {E : Type 0} (app : App) (rules : List Rule) (old : Command) (given xs : List Arg) (r : Result Command E) → Offers app old → given ≡ xs → HaveRules rules xs
    → IfOk r (AddsInTurn AddsArg old given) → IfOk r (Offers (fold with_rule app rules))
offered_more app rules old given xs r offers same have adds =
    IfOk-weaker r _ _ (λ command added. with_args app old command given offers added rules (subst (HaveRules rules) (sym same) have)) adds

with_sub : (app sub_app : App) (old sub new : Command) → app_of old ≡ app → Offers sub_app sub → AddsSubcommand old sub new → app_of new ≡ with_subcommand app sub_app.top
with_sub app sub_app old sub new is offers adds =
    adds.shape offers.1 ∙ (ap (λ (p : App). with_subcommand p (app_of sub).top) is ∙ ap (λ (p : App). with_subcommand app p.top) offers.0)

-- the commands are these, one by one
abbrev pub OfferEach : List App → List Command → Type 0
OfferEach [] [] = Unit {0}
OfferEach [] (sub ∷ subs) = ⊥
OfferEach (app ∷ apps) [] = ⊥
OfferEach (app ∷ apps) (sub ∷ subs) = Offers app sub × OfferEach apps subs

offer-last : (apps : List App) (app : App) (subs : List Command) (sub : Command) → OfferEach apps subs → Offers app sub → OfferEach (apps ++ app ∷ []) (subs ++ sub ∷ [])
offer-last [] app [] sub each offers = (offers, tt)
offer-last (a ∷ apps) app (first ∷ subs) sub each offers = (each.0, offer-last apps app subs sub each.1 offers)
offer-last [] app (first ∷ subs) sub each offers = absurd each
offer-last (a ∷ apps) app [] sub each offers = absurd each

-- one command more
pub offer-more : {E : Type 0} (apps : List App) (app : App) (old new : List Command) (made : Result Command E)
    → OfferEach apps old → IfOk made (Offers app) → AddsMade old made new → OfferEach (apps ++ app ∷ []) new
offer-more apps app old new (Ok sub) each offers adds = subst (OfferEach (apps ++ app ∷ [])) (sym adds) (offer-last apps app old sub each offers)
offer-more apps app old new (Err e) each offers adds = absurd adds

-- a program with these commands in turn
pub with_subs : (app : App) (old new : Command) (apps : List App) (subs : List Command) → app_of old ≡ app → OfferEach apps subs → AddsInTurn AddsSubcommand old subs new
    → app_of new ≡ fold (λ (a : App) (sub : App). with_subcommand a sub.top) app apps
with_subs app old new [] [] is offer adds = ap app_of (sym adds) ∙ is
with_subs app old new (a ∷ apps) (sub ∷ subs) is offer adds =
    with_subs (with_subcommand app a.top) adds.0 new apps subs (with_sub app a old sub adds.0 is offer.0 adds.1) offer.1 adds.2
with_subs app old new [] (sub ∷ subs) is offer adds = absurd offer
with_subs app old new (a ∷ apps) [] is offer adds = absurd offer
