-- What is reported of the connections of a door that were served.
use Rattle.std.specs.Prelude.{◌≡◌, ◌+◌, ℕ, List, Option}
use Rattle.tally_desk_message.specs.Connection.{Connections}
use Rattle.tally_desk.specs.Serving.{IsServing}
use Rattle.tally_desk.specs.Respond.{Answers, Office}
use Rattle.tally_office_program.specs.Served.{served_line}

-- The text is the line of a server: of this many connections this many were answered, and the
-- others failed.
pub record IsReportOfServing (Trusted : Type 0) (count : ℕ) (known knows : Option Connections)
    (old new : Office) (text : List ℕ) : Type 0 where
  pub answered : ℕ
  pub failed : ℕ
  pub all : answered + failed ≡ count
  pub line : text ≡ served_line answered failed
  pub serves : IsServing Answers Trusted count answered known knows old new
