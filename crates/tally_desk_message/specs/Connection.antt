-- What is known of a door's connections: the bytes that each still gives, the room of its writes,
-- and what was written.
use Rattle.std.specs.Prelude.{◌≡◌, ℕ, ◌-◌, ◌<◌, ◌≤◌, Bool, true, false, List, [], ◌∷◌, ◌++◌, length}
use Rattle.std.specs.Prelude.{take, Option, Some, None, option_to_list, Result, Ok, Err, ⊤}
use Rattle.tally_desk_message.specs.declared.door.DoorFault.{DoorFault}

-- A connection: the bytes that its reads still give, whether a read fails after them, whether one
-- has failed, how many bytes its writes still take, and what was written.
pub record Connection : Type 0 where
  pub input : List ℕ
  pub fails : Bool
  pub read_failed : Bool
  pub room : ℕ
  pub written : List ℕ

-- A door's connections in order: those that ended, the current one, and those to come.
pub record Connections : Type 0 where
  pub ended : List Connection
  pub current : Option Connection
  pub coming : List Connection

abbrev pub connections : List Connection → Option Connection → List Connection → Connections
connections ended current coming = record { ended = ended; current = current; coming = coming }

abbrev pub all_connections : Connections → List Connection
all_connections all = all.ended ++ (option_to_list all.current ++ all.coming)

-- A read of a connection `c` into a buffer, which leaves it as `d`: some of the input, or none at
-- its end or into an empty buffer, or the failure after it, which is noted. Nothing else of the
-- connection changes.
abbrev pub HasRead : Connection → List ℕ → Result ℕ DoorFault → Connection → Type 0
HasRead c buf (Ok n) d =
    (n ≤ length buf) × (c.input ≡ take n buf ++ d.input) × (d ≡ record c { input = d.input })
    × (n ≡ 0 → 0 < length buf → (c.input ≡ []) × (c.fails ≡ false))
HasRead c buf (Err fault) d =
    (c.input ≡ []) × (c.fails ≡ true) × (d ≡ record c { read_failed = true })

-- a connection that took these bytes
abbrev pub after_write : Connection → List ℕ → Connection
after_write c bytes = record c { room = c.room - length bytes; written = c.written ++ bytes }

-- A write to a connection `c`, which leaves it as `d`: some of the bytes are taken, or it fails
-- since there is no room.
abbrev pub HasWritten : Connection → List ℕ → Result ℕ DoorFault → Connection → Type 0
HasWritten c bytes (Ok n) d =
    (n ≤ length bytes) × (n ≤ c.room) × (0 < length bytes → 0 < n)
    × (d ≡ after_write c (take n bytes))
HasWritten c bytes (Err fault) d = (0 < length bytes) × (c.room ≡ 0) × (d ≡ c)

-- a connection to which a whole text was written: it took as much as it had room for
abbrev pub after_text : Connection → List ℕ → Connection
after_text c text =
    record c { room = c.room - length text; written = c.written ++ take c.room text }

-- Where the connections are known and one is current, it changes as `P` says, and the others stay
-- as they were.
abbrev pub ChangesCurrent :
    Option Connections → Option Connections → (Connection → Connection → Type 0) → Type 0
ChangesCurrent old new P =
    (ended coming : List Connection) (c : Connection)
    → old ≡ Some (connections ended (Some c) coming)
    → (d : Connection) × (new ≡ Some (connections ended (Some d) coming)) × P c d

-- The current connection ended, and the next one is current; the call fails where none is to come.
abbrev pub TakesNext : Option Connections → Result ⊤ DoorFault → Option Connections → Type 0
TakesNext old (Ok _) new =
    (all : Connections) → old ≡ Some all
    → (c : Connection) × (rest : List Connection) × (all.coming ≡ c ∷ rest)
    × (new ≡ Some (connections (all.ended ++ option_to_list all.current) (Some c) rest))
TakesNext old (Err _) new =
    (all : Connections) → old ≡ Some all → (all.coming ≡ [])
    × (new ≡ Some (connections (all.ended ++ option_to_list all.current) None []))
