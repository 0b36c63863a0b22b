-- What stays true of a keeper over any call, of any kind of keeper.
use Rattle.tally_keeper.specs.Stays.{StaysBy}
use Rattle.tally_keeper.specs.declared.keeper.Keeper.{Ghosts}

-- the same, by the members of the trait
abbrev pub StaysKeeper : {K : Type 0} (g : Ghosts K) → K → K → Type 0
StaysKeeper g old new = StaysBy g.constituencies g.content g.IsTrusted g.HasDatabase old new
