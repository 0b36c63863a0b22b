use Rattle.std.proofs.Common.{[], ◌∷◌}
use Rattle.std.proofs.lemmas.Result.{IfOk-weaker}
use Rattle.sqlite_value.specs.declared.value.Value.TheVariants.{Text}
use Rattle.sqlite.specs.Held.{state}
use Rattle.tally_store_schema.proofs.ReadLemmas.{read_keeps, read_changes_nothing, read_was_open, answered_was_open}
use Rattle.tally_store_schema.specs.Tables.{office_schema}
use Rattle.tally_store_schema.specs.internal.StatementTexts.{rows_of_text}
use Rattle.tally_store_schema.proofs.SelectLemmas.{finds, rows_of_means}
use Rattle.tally_store_schema.proofs.select.rows_of_key.Goals as goal

pub returns-clause-found : goal.returns-clause-found
returns-clause-found g c clean inside =
    IfOk-weaker c.query_all.result _ _ (λ rows shown. finds c.args.table c.args.key.now (state g.S.Store c.args.tx.now.conn.now) (state g.S.Store c.query_all.new.self.conn.now) rows.items inside shown) (rw (c.text_of.ensures, c.params-to_sql.ensures) at (c.query_all.ensures.ok clean))

pub returns-clause-reads : goal.returns-clause-reads
returns-clause-reads g c = record {
  stays = record {
    same_reference = c.query_all.ensures.same_reference;
    was_open = λ clean now.
        read_was_open (λ v. v.items) _ _ (state g.S.Store c.args.tx.now.conn.now) (state g.S.Store c.query_all.new.self.conn.now) c.query_all.result (c.query_all.ensures.ok clean) (c.query_all.ensures.err clean) now;
    kept = λ clean inside.
        read_keeps (λ v. v.items) (rows_of_text c.args.table) (Text c.args.key.now ∷ []) (state g.S.Store c.args.tx.now.conn.now) (state g.S.Store c.query_all.new.self.conn.now) office_schema c.query_all.result inside.schema (rows_of_means c.args.table).plain
        (rw (c.text_of.ensures, c.params-to_sql.ensures) at (c.query_all.ensures.ok clean)) (rw (c.text_of.ensures, c.params-to_sql.ensures) at (c.query_all.ensures.err clean));
    survives = c.query_all.ensures.survives;
  };
  same = λ clean inside.
      read_changes_nothing (λ v. v.items) (rows_of_text c.args.table) (Text c.args.key.now ∷ []) (state g.S.Store c.args.tx.now.conn.now) (state g.S.Store c.query_all.new.self.conn.now) office_schema c.query_all.result inside.schema (rows_of_means c.args.table).plain
      (rw (c.text_of.ensures, c.params-to_sql.ensures) at (c.query_all.ensures.ok clean));
  answered_open = λ clean.
      answered_was_open (λ v. v.items) _ _ (state g.S.Store c.args.tx.now.conn.now) (state g.S.Store c.query_all.new.self.conn.now) c.query_all.result (c.query_all.ensures.ok clean);
}
