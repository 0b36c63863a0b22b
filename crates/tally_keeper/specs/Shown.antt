-- What a keeper shows of a constituency: without its certificates on record, and its returns.
use Rattle.std.specs.Prelude.{◌≡◌, ◌⊎◌, List, ℕ, Option, Some, None, Vec, Result, Ok, Err}
use Rattle.std.specs.declared.alloc.Global.{Global}
use Rattle.tally_setup.specs.Constituency.{Constituency}
use Rattle.tally_returns.specs.PastSeats.{PastSeats}
use Rattle.tally_returns.specs.State.{State}
use Rattle.tally_returns.specs.StationRows.{station_rows}
use Rattle.tally_returns.specs.View.{View}
use Rattle.tally_returns.specs.declared.ask.Ask.TheVariants.{ShowCon}
use Rattle.tally_returns.specs.declared.refusal.Refusal.{Refusal}
use Rattle.tally_returns.specs.declared.refusal.Refusal.TheVariants.{NoConstituency, Memory, Store}
use Rattle.tally_returns.specs.declared.reply.Reply.{Reply}
use Rattle.tally_returns.specs.declared.reply.Reply.TheVariants.{Con}
use Rattle.tally_returns.specs.declared.station_row.StationRow.{StationRow}
use Rattle.tally_setup.specs.Setup.{constituency_with}
use Rattle.tally_keeper.specs.Keeper.{Happens, request}

-- the reply that shows this with these certificates on record, or the same refusal
abbrev pub con_with : List PastSeats → Result View Refusal → Result Reply Refusal
con_with past (Ok shown) = Ok (Con (record shown { past = past }))
con_with past (Err why) = Err why

-- A ShowCon happens to a keeper. It is answered with what is shown and some certificates on record.
abbrev pub AnswersShowCon : List Constituency → Option State → List ℕ → Result View Refusal
    → Option State → Type 0
AnswersShowCon setup old con shown new =
    (past : List PastSeats) × Happens setup old (request (ShowCon con) (con_with past shown)) new

-- ---- the returns of a constituency

-- a refusal of a keeper's own: out of memory, or a database that refuses
abbrev pub IsOwnRefusal : Refusal → Type 0
IsOwnRefusal why = (why ≡ Memory) ⊎ (why ≡ Store)

-- why a keeper that is not shut shows no returns of the constituency of a code
abbrev pub IsReturnsRefusal : List Constituency → List ℕ → Refusal → Type 0
IsReturnsRefusal setup con why =
    ((why ≡ NoConstituency) × (constituency_with con setup ≡ None)) ⊎ IsOwnRefusal why

-- The stations of the constituency of a code are shown with the returns of the keeper's content,
-- which stays. A keeper that is shut shows none, nor does one that a failed disk shuts then, which
-- says that its database failed.
abbrev pub ShowsReturns : List Constituency → Option State → List ℕ
    → Result (Vec StationRow Global) Refusal → Option State → Type 0
ShowsReturns setup (Some s) con (Ok rows) (Some t) =
    (t ≡ s) × (found : Constituency) × (constituency_with con setup ≡ Some found)
    × (rows.items ≡ station_rows s.returns found)
ShowsReturns setup (Some s) con (Err why) (Some t) = (t ≡ s) × IsReturnsRefusal setup con why
ShowsReturns setup (Some s) con (Err why) None = why ≡ Store
ShowsReturns setup None con (Err why) None = IsOwnRefusal why
ShowsReturns setup (Some s) con (Ok rows) None = ⊥
ShowsReturns setup None con (Ok rows) new = ⊥
ShowsReturns setup None con (Err why) (Some t) = ⊥
