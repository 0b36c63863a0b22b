use Rattle.std.specs.Prelude.{◌-◌, [], ◌∷◌, take, Some, None, Ok, Err}
use Rattle.tally_returns.specs.declared.refusal.Refusal.TheVariants.{Differs}
use Rattle.tally_returns.specs.declared.reply.LodgeReply.TheVariants.{Lodged, Same}
use Rattle.tally_test_import.proofs.import.counted.Given as goal

-- the rows before this one
abbrev pub ghost-add : goal.ghost-add
ghost-add a = take (a.row - 1) (Some (Ok (Lodged 1)) ∷ Some (Ok (Same 1)) ∷ Some (Err (Differs 2)) ∷ None ∷ [])
