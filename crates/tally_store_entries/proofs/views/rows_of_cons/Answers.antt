use Rattle.tally_store_schema.specs.Office.{HasTables, IsInside}
use Rattle.sqlite.specs.State.{State}
use Rattle.sqlite.specs.Held.{state}
use Rattle.tally_store_entries.proofs.views.rows_of_cons.Goals as goal

has-tables : (s : State) → IsInside s → HasTables s
has-tables s inside = record { schema = inside.schema; sound = λ _. inside.sound; inside = inside.inside }

pub returns-clause-reads : goal.returns-clause-reads
returns-clause-reads g c =
    let old = state g.S.Store c.args.tx.now.conn.now in
    let ensured = c.all_rows.ensures.reads in
    record {
      stays = record {
        same_reference = ensured.stays.same_reference;
        was_open = ensured.stays.was_open;
        kept = λ clean inside. ensured.stays.kept clean (has-tables old inside);
        survives = ensured.stays.survives;
      };
      same = λ clean inside. ensured.same clean (has-tables old inside);
      answered_open = ensured.answered_open;
    }

pub returns-clause-found : goal.returns-clause-found
returns-clause-found g c clean inside =
    c.all_rows.ensures.shown clean (has-tables (state g.S.Store c.args.tx.now.conn.now) inside)
