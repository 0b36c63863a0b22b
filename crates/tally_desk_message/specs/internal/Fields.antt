-- What the steps of looking at a head's fields say.
use Rattle.std.specs.Prelude.{◌≡◌, ℕ, List, map, Option, option_map, Result, Ok, Err, MatchResult}
use Rattle.std.specs.Borrow.{Bor}
use Rattle.httparse.specs.Spans.{header_bytes}
use Rattle.httparse.specs.declared.spans.HeaderSpan.{HeaderSpan}
use Rattle.tally_desk_message.specs.Message.{values_of}
use Rattle.tally_desk_message.specs.declared.message.MessageFault.{MessageFault}

-- the values of the fields of this name, whose places in the bytes are given
abbrev pub values_in : List ℕ → List HeaderSpan → List ℕ → List (List ℕ)
values_in bytes headers name = values_of name (map (header_bytes bytes) headers)

-- What was found, as contracts see it, is this value, or none; the fault is this one.
abbrev pub SeenAs :
    Result (Option (Bor (List ℕ))) MessageFault → Result (Option (List ℕ)) MessageFault → Type 0
SeenAs result value =
    MatchResult result (λ found. value ≡ Ok (option_map (λ v. v.now) found))
    (λ fault. value ≡ Err fault)
