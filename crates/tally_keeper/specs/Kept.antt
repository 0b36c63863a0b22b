-- What is kept in memory of an election.
use Rattle.std.specs.Prelude.{◌<◌, ℕ, All, List, [], unwrap_or}
use Rattle.std.specs.FinMap.{FinMap, get, empty, insert}
use Rattle.tally_setup.specs.Code.{code_cmp}
use Rattle.tally_setup.specs.Constituency.{Constituency}
use Rattle.tally_machine_law.specs.Step.{ConChange, certified_with, open_again, con_state_after}
use Rattle.tally_returns.specs.PastSeats.{PastSeats}
use Rattle.tally_returns.specs.Return.{Returns}
use Rattle.tally_returns.specs.State.{State, ConState, PastRecords, con_state, opening_cons}
use Rattle.tally_returns.specs.View.{View, past_records, view_of}
use Rattle.tally_keeper.specs.MapOf.{map_of}

-- the seats of each constituency, by its code: none where it is not certified
abbrev pub Seats : Type 0
Seats = FinMap code_cmp (List ℕ)

-- a setup, the returns, what each constituency has come to, and the seats that its certificate gave
pub record Kept : Type 0 where
  pub setup : List Constituency
  pub returns : Returns
  pub cons : FinMap code_cmp ConState
  pub seats : Seats

-- the office's state
abbrev pub state_in : Kept → State
state_in k = record { returns = k.returns; cons = k.cons }

abbrev pub seats_in : Kept → List ℕ → List ℕ
seats_in k code = unwrap_or (get k.seats code) []

-- what is seen of a constituency
abbrev pub view_in : Kept → Constituency → View
view_in k con = view_of con (state_in k) (seats_in k con.code)

-- no return, each constituency as it opens, and no seats
abbrev pub opening_kept : List Constituency → Kept
opening_kept setup = record {
  setup = setup;
  returns = empty;
  cons = opening_cons setup;
  seats = map_of (λ (con : Constituency). con.code) (λ con. []) setup;
}

-- each certificate on record is of an earlier edition
abbrev pub AreEarlier : PastRecords → ℕ → Type 0
AreEarlier past edition = All (λ (p : PastSeats). p.edition < edition) (past_records past)

-- a certificate gives seats, and a reopening takes them
abbrev pub seats_after : Seats → List ℕ → ConChange → Seats
seats_after seats code (certified_with given) = insert seats code given
seats_after seats code (open_again note past) = insert seats code []
seats_after seats code other = seats

-- a change of the constituency of a code
abbrev pub with_change : Kept → List ℕ → ConChange → Kept
with_change k code change = record k {
  cons = insert k.cons code (con_state_after (con_state (state_in k) code) change);
  seats = seats_after k.seats code change;
}

-- without the lot of this constituency
abbrev pub with_no_lot : Kept → List ℕ → Kept
with_no_lot k code =
    record k { cons = insert k.cons code (record (con_state (state_in k) code) { lot = [] }) }
