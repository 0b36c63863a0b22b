-- What stays true of a keeper over one call, and over two.
use Rattle.std.proofs.Common.{◌⊎◌, ◌∙◌, inl, inr}
use Rattle.tally_keeper.specs.StaysKeeper.{StaysKeeper}
use Rattle.tally_keeper.specs.declared.keeper.Keeper.{Ghosts}

-- a call shuts what was not shut before only where it is on a database
still : {Shut ShutBefore Database DatabaseBefore : Type 0} → Shut ⊎ Database → (Shut → ShutBefore ⊎ DatabaseBefore) → (Database → DatabaseBefore) → ShutBefore ⊎ DatabaseBefore
still (inl shut) before was_on = before shut
still (inr on) before was_on = inr (was_on on)

pub stays-then : {K : Type 0} (g : Ghosts K) (a b c : K) → StaysKeeper g a b → StaysKeeper g b c → StaysKeeper g a c
stays-then g a b c first second =
    record {
      setup = second.setup ∙ first.setup;
      trusted = λ sure. first.trusted (second.trusted sure);
      shut = λ none. still (second.shut none) first.shut first.database;
      database = λ has. first.database (second.database has);
    }
