-- The next connection of a door.
use Rattle.std.specs.Prelude.{◌≡◌, Bool, false, List, [], ◌∷◌, Option, Some, None}
use Rattle.tally_desk_message.specs.Connection.{Connection, Connections, connections}
use Rattle.tally_desk.specs.Serving.{Answering, IsExchange, connections_taken_up}

-- The next connection was taken and answered; or there is none, which counts as failed and changes
-- nothing.
abbrev pub IsNextConnection :
    List Connection → List Connection → Connections → Bool → (Connection → Connection → Type 0)
    → Type 0 → Type 0
IsNextConnection ended [] after answered P Kept =
    (answered ≡ false) × (after ≡ connections ended None []) × Kept
IsNextConnection ended (c ∷ rest) after answered P Kept =
    (d : Connection) × (after ≡ connections ended (Some d) rest) × P c d

-- The next connection of a door whose connections are known was served over a content, which is
-- then `new`, where the keeper is trusted.
abbrev pub IsNextServed : {C : Type 0}
    → Answering C → Type 0 → Bool → Option Connections → Option Connections → C → C → Type 0
IsNextServed Answers IsTrusted answered known known_new old new =
    (before : Connections) → known ≡ Some before
    → (after : Connections) × (known_new ≡ Some after)
    × IsNextConnection (connections_taken_up before) before.coming after answered
    (λ c d. IsTrusted → IsExchange Answers old c answered d new) (new ≡ old)
