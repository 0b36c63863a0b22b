-- What a source gives within a call, of any kind of source.
use Rattle.tally_returns_rows.specs.Source.{Delivery, SourceAt}
use Rattle.tally_returns_rows.specs.declared.source.RowSource.{Ghosts}

-- how far it is
abbrev pub source_at : {R : Type 0} (g : Ghosts R) → R → SourceAt
source_at g source = record {
  coming = g.coming source;
  given = g.given source;
  ended = g.ended source;
}

-- how far it was before a call, and how far it is after it
abbrev pub delivery : {R : Type 0} (g : Ghosts R) → R → R → Delivery
delivery g old new = record { start = source_at g old; finish = source_at g new }
