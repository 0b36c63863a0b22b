use Rattle.std.proofs.Common.{[]}
use Rattle.std.proofs.lemmas.Result.{IfOk-weaker}
use Rattle.sqlite.specs.Held.{state}
use Rattle.tally_store_schema.proofs.ReadLemmas.{read_keeps, read_changes_nothing, read_was_open, answered_was_open}
use Rattle.tally_store_schema.specs.Tables.{office_schema}
use Rattle.tally_store_schema.specs.internal.StatementTexts.{all_setup_text}
use Rattle.tally_store_schema.proofs.SetupLemmas.{shows_setup, all_setup_means}
use Rattle.tally_store_schema.proofs.setup.all_setup.Goals as goal

pub returns-clause-shown : goal.returns-clause-shown
returns-clause-shown g c clean has =
    IfOk-weaker c.query_all.result _ _ (λ rows shown. shows_setup (state g.S.Store c.args.tx.now.conn.now) (state g.S.Store c.query_all.new.self.conn.now) rows.items has shown) (c.query_all.ensures.ok clean)

pub returns-clause-reads : goal.returns-clause-reads
returns-clause-reads g c = record {
  stays = record {
    same_reference = c.query_all.ensures.same_reference;
    was_open = λ clean now.
        read_was_open (λ v. v.items) _ _ (state g.S.Store c.args.tx.now.conn.now) (state g.S.Store c.query_all.new.self.conn.now) c.query_all.result (c.query_all.ensures.ok clean) (c.query_all.ensures.err clean) now;
    kept = λ clean has.
        read_keeps (λ v. v.items) all_setup_text [] (state g.S.Store c.args.tx.now.conn.now) (state g.S.Store c.query_all.new.self.conn.now) office_schema c.query_all.result has.schema all_setup_means.plain
        (c.query_all.ensures.ok clean) (c.query_all.ensures.err clean);
    survives = c.query_all.ensures.survives;
  };
  same = λ clean has.
      read_changes_nothing (λ v. v.items) all_setup_text [] (state g.S.Store c.args.tx.now.conn.now) (state g.S.Store c.query_all.new.self.conn.now) office_schema c.query_all.result has.schema all_setup_means.plain
      (c.query_all.ensures.ok clean);
  answered_open = λ clean.
      answered_was_open (λ v. v.items) _ _ (state g.S.Store c.args.tx.now.conn.now) (state g.S.Store c.query_all.new.self.conn.now) c.query_all.result (c.query_all.ensures.ok clean);
}
