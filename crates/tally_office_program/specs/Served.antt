-- What a server says when it listens, and what is reported of one that has ended.
use Rattle.std.specs.Prelude.{◌≡◌, ◌+◌, ◌++◌, ℕ, List, codes}
use Rattle.std.specs.Fmt.{decimal}

-- where a server listens: this machine, at this port
abbrev pub listening_at : ℕ → List ℕ
listening_at port = codes "listening on 127.0.0.1:" ++ decimal port

-- for this many connections
abbrev pub for_connections : ℕ → List ℕ
for_connections count = codes " for " ++ decimal count ++ codes " connections\n"

-- the line of a server that listens at this port for this many connections
abbrev pub listening_line : ℕ → ℕ → List ℕ
listening_line port count = listening_at port ++ for_connections count

-- the line of this many connections that were answered, and this many that failed
abbrev pub served_line : ℕ → ℕ → List ℕ
served_line answered failed =
    codes "answered " ++ decimal answered ++ codes " failed " ++ decimal failed ++ codes "\n"

-- Of this many connections each was answered or failed.
abbrev pub IsServedText : ℕ → List ℕ → Type 0
IsServedText count text =
    (answered : ℕ) × (failed : ℕ) × (answered + failed ≡ count)
    × (text ≡ served_line answered failed)
