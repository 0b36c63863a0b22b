-- The numbers of constituencies, put into a tree one by one.
use Rattle.std.specs.Prelude.{◌≡◌, ℕ, List, Option, None, Some, option_map}
use Rattle.std.specs.FinMap.{get, insert}
use Rattle.tally_keeper.specs.Kept.{Kept, view_in}
use Rattle.tally_setup.specs.Constituency.{Constituency}
use Rattle.tally_setup.specs.Setup.{constituency_with}
use Rattle.tally_store_rows.specs.Views.{statuses_of}
use Rattle.tally_store_rows.specs.declared.views.Statuses.{Statuses}
use Rattle.tally_store_open.specs.Numbers.{Numbers}

-- the numbers of the constituency of a code, by the returns that are kept
abbrev pub numbers_at : Kept → List ℕ → Option Statuses
numbers_at kept code =
    option_map (λ con. statuses_of (view_in kept con)) (constituency_with code kept.setup)

-- with those of one more, if there are any
abbrev pub with_numbers : List ℕ → Option Statuses → Numbers → Numbers
with_numbers code None numbers = numbers
with_numbers code (Some statuses) numbers = insert numbers code statuses

-- those of a constituency are there
abbrev pub IsNumbered : Kept → Numbers → Constituency → Type 0
IsNumbered kept numbers con = get numbers con.code ≡ numbers_at kept con.code

-- those of each constituency of the setup are there
abbrev pub AreNumbered : Kept → Numbers → Type 0
AreNumbered kept numbers =
    (con : Constituency) → constituency_with con.code kept.setup ≡ Some con
    → get numbers con.code ≡ Some (statuses_of (view_in kept con))
