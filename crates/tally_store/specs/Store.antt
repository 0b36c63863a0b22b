-- What a store holds, and what it keeps true of it.
use Rattle.std.specs.Prelude.{◌≡◌, false, List, ℕ, IsTrue, refl}
use Rattle.std.specs.Coded.{Coded, code_by, coded×}
use Rattle.sqlite.specs.Held.{Held, held_code}
use Rattle.sqlite.specs.State.{State as Seen, HasCleanDisk}
use Rattle.tally_setup.specs.Constituency.{Constituency}
use Rattle.tally_setup.specs.Limits.{IsSetup}
use Rattle.tally_setup.specs.contracts.setup.Setup.{the_row as setup_row}
use Rattle.tally_returns.specs.State.{State}
use Rattle.tally_machine_law.specs.LawfulState.{IsLawfulState}
use Rattle.tally_store_open.specs.Office.{HasState, IsOffice}

-- a connection to the tables of an office, and the constituencies of its setup
pub record Stored (S : Type 0) : Type 0 where
  pub conn : Held S
  pub setup : List Constituency

abbrev pub stored_code : {S : Type 0} → Coded S → Coded (Stored S)
stored_code {S} store =
    code_by (Held S × List Constituency) (coded× (held_code store) setup_row.coded)
    (λ h. (h.conn, h.setup)) (λ p. record { conn = p.0; setup = p.1 }) (λ _. refl)

-- as long as the disk has returned what was written, and has not failed, the database is that of a
-- lawful state
abbrev pub IsOfLawfulState : List Constituency → Seen → Type 0
IsOfLawfulState setup seen =
    HasCleanDisk seen → IsTrue seen.is_open
    → (s : State) × IsLawfulState setup s × IsOffice setup s seen

-- No transaction is open, and the database is that of a lawful state.
pub record IsStored (setup : List Constituency) (seen : Seen) : Type 0 where
  pub limits : IsSetup setup
  pub autocommit : seen.in_transaction ≡ false
  pub office : IsOfLawfulState setup seen

-- The text of the setup that is on record stays, byte for byte. Where the database was that of a
-- lawful state over this text, it is that of some state over the same text.
abbrev pub KeepsText : List Constituency → Seen → Seen → Type 0
KeepsText setup old new =
    (text : List ℕ) (s : State) → IsLawfulState setup s → HasState setup text s old
    → (t : State) × HasState setup text t new
