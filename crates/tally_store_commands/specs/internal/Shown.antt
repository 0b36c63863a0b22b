-- What is found of a constituency that is shown without its certificates on record.
use Rattle.std.specs.Prelude.{ℕ, List, Result}
use Rattle.sqlite.specs.State.{State as Seen}
use Rattle.tally_setup.specs.Constituency.{Constituency}
use Rattle.tally_returns.specs.PastSeats.{PastSeats}
use Rattle.tally_returns.specs.State.{State}
use Rattle.tally_returns.specs.View.{View}
use Rattle.tally_returns.specs.declared.ask.Ask.TheVariants.{ShowCon}
use Rattle.tally_returns.specs.declared.refusal.Refusal.{Refusal}
use Rattle.tally_machine_law.specs.LawfulState.{IsLawfulState}
use Rattle.tally_machine_law.specs.Step.{IsAnswered}
use Rattle.tally_keeper.specs.Shown.{con_with}
use Rattle.tally_store_rows.specs.TablesOfState.{AreTables}
use Rattle.tally_store_commands.specs.internal.Known.{AreKnown, Known}

-- A ShowCon is answered, as in this state, with what is shown and some certificates on record.
abbrev pub IsShownIn : List Constituency → State → List ℕ → Result View Refusal → Type 0
IsShownIn setup s con shown =
    (past : List PastSeats) × IsAnswered setup s (ShowCon con) (con_with past shown) s

-- and so of every lawful state whose tables are there, where all that is known is true of it
abbrev pub FindsShown : List Constituency → Known → List ℕ → Seen → Result View Refusal → Type 0
FindsShown setup known con seen shown =
    (text : List ℕ) (s : State) → IsLawfulState setup s → AreKnown setup s.returns known
    → AreTables setup text s seen.now.trees → IsShownIn setup s con shown

-- What is known then is true as well.
abbrev pub FindsKnown : List Constituency → Known → Known → Seen → Type 0
FindsKnown setup before after seen =
    (text : List ℕ) (s : State) → IsLawfulState setup s → AreKnown setup s.returns before
    → AreTables setup text s seen.now.trees → AreKnown setup s.returns after
