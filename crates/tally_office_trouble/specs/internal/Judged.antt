-- The trouble of a text that is not a setup.
use Rattle.std.specs.Prelude.{Option}
use Rattle.tally_rules.specs.declared.fault.SetupFault.{SetupFault}
use Rattle.tally_rules.specs.declared.fault.SetupFault.TheVariants as setup
use Rattle.tally_rules.specs.declared.place.Place.{Place}
use Rattle.tally_office_trouble.specs.declared.trouble.Trouble.{Trouble}
use Rattle.tally_office_trouble.specs.declared.trouble.Trouble.TheVariants as trouble

-- its fault, and where that is; or out of memory
abbrev pub placed_trouble : SetupFault → Option Place → Trouble
placed_trouble setup.Memory place = trouble.Memory
placed_trouble fault place = trouble.Setup fault place
