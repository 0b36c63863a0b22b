-- What a request does to the tables of an office by what was seen of a constituency.
use Rattle.std.specs.Prelude.{◌≡◌, ℕ, Bool, true, false, List, Result, IfOk}
use Rattle.sqlite.specs.declared.error.Error.{Error}
use Rattle.sqlite.specs.State.{State as Seen, HasCleanDisk}
use Rattle.tally_setup.specs.Constituency.{Constituency}
use Rattle.tally_returns.specs.State.{State}
use Rattle.tally_returns.specs.View.{View}
use Rattle.tally_returns.specs.declared.ask.Ask.{Ask}
use Rattle.tally_returns.specs.declared.ask.Ask.TheVariants.{ShowCon}
use Rattle.tally_returns.specs.declared.refusal.Refusal.{Refusal}
use Rattle.tally_returns.specs.declared.reply.Reply.{Reply}
use Rattle.tally_machine_law.specs.LawfulState.{IsLawfulState}
use Rattle.tally_store_schema.specs.Office.{IsInside}
use Rattle.tally_store_rows.specs.TablesOfState.{AreTables}
use Rattle.tally_store_entries.specs.internal.Constituencies.{IsViewWith}
use Rattle.tally_store_commands.specs.internal.Requests.{IsCarriedOut}

-- whether a request shows a constituency, with its certificates on record; a command needs none of
-- them
abbrev pub shows_con : Ask → Bool
shows_con (ShowCon code) = true
shows_con other = false

-- What holds after a call that answers a request, where the disk returned what was written. It
-- holds for every lawful state whose tables were there and of which this was seen.
abbrev pub CarriesOutSeen : List Constituency → Constituency → View → Ask → Seen → Seen →
    Result (Result Reply Refusal) Error → Type 0
CarriesOutSeen setup con view ask old new result =
    HasCleanDisk new → IsInside old →
    IfOk result (λ r. (text : List ℕ) (s : State) → IsLawfulState setup s →
    IsViewWith (shows_con ask) con s view → AreTables setup text s old.now.trees →
    IsCarriedOut setup text s ask r new)

-- The office's tables are open in a transaction, and they are what they were.
pub record IsStill (old new : Seen) : Type 0 where
  pub inside : IsInside new
  pub same : new.now ≡ old.now
