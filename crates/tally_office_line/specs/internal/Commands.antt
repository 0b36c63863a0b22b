-- What a command and an argument come to, each for its own command alone.
use Rattle.std.specs.Prelude.{◌≡◌, ◌++◌, List, [], ◌∷◌, Result, false, fold}
use Rattle.std.specs.Result.{IsOkAnd}
use Rattle.clap.specs.Words.{App, Rule, app_of, rule_of, with_rule}
use Rattle.clap.specs.declared.builder.arg.Arg.{Arg}
use Rattle.clap.specs.declared.builder.command.Command.{Command}
use Rattle.clap.specs.declared.builder.command.Command.TheViews.{out-Command}

-- the command is this, and no argument of it is one of its subcommands too
abbrev pub Offers : App → Command → Type 0
Offers app command = (app_of command ≡ app) × ((out-Command command).has_globals ≡ false)

-- the argument has this rule, and is no argument of subcommands
abbrev pub HasRule : Rule → Arg → Type 0
HasRule rule arg = (rule_of arg ≡ rule) × (arg.global ≡ false)

-- the arguments have these rules, one by one
abbrev pub HaveRules : List Rule → List Arg → Type 0
HaveRules [] [] = Unit {0}
HaveRules [] (arg ∷ args) = ⊥
HaveRules (rule ∷ rules) [] = ⊥
HaveRules (rule ∷ rules) (arg ∷ args) = HasRule rule arg × HaveRules rules args

-- the command is this one with the arguments in turn, whatever their rules
abbrev pub OffersAll : App → List Arg → Command → Type 0
OffersAll app args command =
    (rules : List Rule) → HaveRules rules args → Offers (fold with_rule app rules) command

-- the commands have this one more, which was made
abbrev pub AddsMade : {E : Type 0} → List Command → Result Command E → List Command → Type 0
AddsMade old made new = IsOkAnd made (λ command. new ≡ old ++ command ∷ [])
