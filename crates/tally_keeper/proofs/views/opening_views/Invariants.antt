use Rattle.std.proofs.Common.{◌≡◌, take}
use Rattle.tally_keeper.specs.internal.Rows.{opening_views, views_of}
use Rattle.tally_keeper.proofs.views.opening_views.Given as goal

-- what is seen of the constituencies so far
abbrev pub invariant-loop-con : goal.invariant-loop-con
invariant-loop-con l = views_of l.views ≡ opening_views (take l.con-index l.cons)
