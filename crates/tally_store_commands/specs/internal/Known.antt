-- What is known of constituencies: how many of their returns are in each status.
use Rattle.std.specs.Prelude.{◌≡◌, ℕ, List, Some, IsSome}
use Rattle.std.specs.BTreeMap.{BTreeMap}
use Rattle.std.specs.FinMap.{FinMap, from_entries, get}
use Rattle.tally_setup.specs.Code.{code_cmp}
use Rattle.tally_setup.specs.Constituency.{Constituency}
use Rattle.tally_setup.specs.Setup.{constituency_with}
use Rattle.tally_returns.specs.Return.{Returns}
use Rattle.tally_store_rows.specs.declared.views.Statuses.{Statuses}
use Rattle.tally_store_entries.specs.internal.Constituencies.{IsKnown}

-- by the code of the constituency; nothing is known of one that is not there
abbrev pub Known : Type 0
Known = FinMap code_cmp Statuses

abbrev pub known_of : BTreeMap (List ℕ) Statuses → Known
known_of tree = from_entries tree.entries

-- All that is known is true of these returns.
abbrev pub AreKnown : List Constituency → Returns → Known → Type 0
AreKnown setup returns known =
    (con : Constituency) → constituency_with con.code setup ≡ Some con
    → IsKnown con returns (get known con.code)

-- Of whichever constituency something was known, something is known still.
abbrev pub ForgetsNone : Known → Known → Type 0
ForgetsNone before after = (code : List ℕ) → IsSome (get before code) → IsSome (get after code)
