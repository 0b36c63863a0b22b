-- Why no office was made in a database.
use Rattle.std.proofs.Common.{ℕ, List, refl}
use Rattle.sqlite_schema.specs.declared.schema.Schema.{Schema}
use Rattle.tally_rules.specs.declared.fault.SetupFault.TheVariants as setup
use Rattle.tally_keeper.specs.declared.fault.CreateFault.{CreateFault}
use Rattle.tally_keeper.specs.declared.fault.CreateFault.TheVariants as create
use Rattle.tally_store_open.specs.Create.{IsCreateFault}
use Rattle.tally_office_trouble.specs.Trouble.{create_trouble}
use Rattle.tally_office_commands.specs.Made.{IsMakingTrouble}

pub of-create : (text : List ℕ) (schema : Schema) (fault : CreateFault) → IsCreateFault text schema fault → IsMakingTrouble text (create_trouble fault)
of-create text schema (create.Setup setup.NotToml) is = (is.0, is.1, refl)
of-create text schema (create.Setup (setup.Missing key)) is = (is.0, is.1, refl)
of-create text schema (create.Setup (setup.BadValue key)) is = (is.0, is.1, refl)
of-create text schema (create.Setup (setup.OverLimit key)) is = (is.0, is.1, refl)
of-create text schema (create.Setup (setup.Duplicate code)) is = (is.0, is.1, refl)
of-create text schema (create.Setup setup.UnknownProfile) is = (is.0, is.1, refl)
of-create text schema (create.Setup setup.Memory) is = tt
of-create text schema create.NotEmpty is = is.0
of-create text schema create.Memory is = tt
of-create text schema create.Store is = tt
