-- What the office shows of results, as lines of JSON, and why it does not.
use Rattle.std.specs.Prelude.{◌≡◌, ℕ, ◌++◌, List, Option, Some, None, Ok, Err, Vec, codes}
use Rattle.std.specs.declared.alloc.Global.{Global}
use Rattle.tally_setup.specs.Constituency.{Constituency}
use Rattle.tally_setup.specs.Setup.{constituency_with}
use Rattle.tally_returns.specs.State.{State}
use Rattle.tally_returns.specs.View.{View}
use Rattle.tally_returns.specs.declared.ask.Ask.TheVariants.{ShowCon}
use Rattle.tally_returns.specs.declared.refusal.Refusal.TheVariants as refusal
use Rattle.tally_returns.specs.declared.reply.Reply.TheVariants as reply
use Rattle.tally_keeper.specs.Keeper.{Happens, request}
use Rattle.tally_report_overview.specs.Views.{ShowsAllWhole}
use Rattle.tally_report_result.specs.Result.{AreResultsText, IsResultText}
use Rattle.tally_office_commands.specs.Show.{Shows}
use Rattle.tally_office_trouble.specs.declared.trouble.Trouble.{Trouble}
use Rattle.tally_office_trouble.specs.declared.trouble.Trouble.TheVariants as trouble

-- such a text and a line end
abbrev pub IsLineOf : (List ℕ → Type 0) → List ℕ → Type 0
IsLineOf IsText line = (text : List ℕ) × IsText text × (line ≡ text ++ codes "\n")

-- The line is the result of the constituency of this code, by what it has come to.
abbrev pub IsResultShown : List Constituency → Option State → List ℕ → List ℕ → Option State
    → Type 0
IsResultShown setup old code line new =
    (con : Constituency) × (view : View) × (constituency_with code setup ≡ Some con)
    × Shows setup old (ShowCon code) (reply.Con view) new × IsLineOf (IsResultText con view) line

-- No constituency has the code, it is out of memory, or the database failed.
abbrev pub IsResultTrouble : List Constituency → Option State → List ℕ → Trouble → Option State
    → Type 0
IsResultTrouble setup old code trouble.NoConstituency new =
    (constituency_with code setup ≡ None) × (new ≡ old)
IsResultTrouble setup old code trouble.Memory new =
    Happens setup old (request (ShowCon code) (Err refusal.Memory)) new
IsResultTrouble setup old code trouble.Store new =
    Happens setup old (request (ShowCon code) (Err refusal.Store)) new
IsResultTrouble setup old code other new = ⊥

-- The line is the results of all constituencies, by what each has come to in one state.
abbrev pub AreResultsShown : List Constituency → Option State → List ℕ → Option State → Type 0
AreResultsShown setup old line new =
    (views : Vec View Global) × ShowsAllWhole setup old (Ok views) new
    × IsLineOf (AreResultsText setup views.items) line

-- It is out of memory, or the database failed.
abbrev pub IsResultsTrouble : List Constituency → Option State → Trouble → Option State → Type 0
IsResultsTrouble setup old trouble.Memory new = ShowsAllWhole setup old (Err refusal.Memory) new
IsResultsTrouble setup old trouble.Store new = ShowsAllWhole setup old (Err refusal.Store) new
IsResultsTrouble setup old other new = ⊥
