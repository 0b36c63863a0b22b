-- Connections in memory: how one begins, and what is known of a list of them by the place of the
-- current one.
use Rattle.std.specs.Prelude.{ℕ, Bool, true, false, nat_le, List, [], ◌∷◌, length, take, drop}
use Rattle.std.specs.Prelude.{Option, Some, None}
use Rattle.tally_desk_message.specs.Connection.{Connection, Connections, connections}

-- the bytes that come before a read fails
abbrev pub input_until : Option ℕ → List ℕ → List ℕ
input_until None input = input
input_until (Some count) input = take count input

-- whether a read fails after them: where the input is shorter than that, its end comes first
abbrev pub fails_within : Option ℕ → List ℕ → Bool
fails_within None input = false
fails_within (Some count) input = nat_le count (length input)

-- A connection that gives this input, whose reads fail once this many bytes were given, and whose
-- writes take this many bytes in all.
abbrev pub new_connection : List ℕ → Option ℕ → ℕ → Connection
new_connection input read_fails room = record {
  input = input_until read_fails input;
  fails = fails_within read_fails input;
  read_failed = false;
  room = room;
  written = [];
}

-- the connections from a place on, of which the first may be current
abbrev pub connections_from : List Connection → List Connection → Bool → Connections
connections_from ended [] connected = connections ended None []
connections_from ended (c ∷ rest) true = connections ended (Some c) rest
connections_from ended (c ∷ rest) false = connections ended None (c ∷ rest)

abbrev pub connections_at : List Connection → ℕ → Bool → Connections
connections_at all at connected = connections_from (take at all) (drop at all) connected
