-- What the code finds, as definitions see it.
use Rattle.std.specs.Prelude.{ℕ, List, [], map}
use Rattle.serde_json.specs.Data.{Data}
use Rattle.serde_json.specs.View.{view}
use Rattle.serde_json.specs.declared.value.Value.{Value}
use Rattle.tally_report.specs.declared.status.ProvisionalStatus.{ProvisionalStatus}
use Rattle.tally_report_result.specs.Parts.{ResultParts}
use Rattle.tally_report_result.specs.declared.parts.Parts.{Parts}

abbrev pub parts_of : Parts → ResultParts
parts_of parts = record {
  status = parts.status;
  seats = parts.seats.items;
  short = parts.short.items;
  awards = parts.awards.items;
}

abbrev pub data_of : List Value → List Data
data_of values = map view values

-- seats of this status, with no votes short and no awards
abbrev pub bare_parts : ProvisionalStatus → List ℕ → ResultParts
bare_parts state seats = record { status = state; seats = seats; short = []; awards = [] }
