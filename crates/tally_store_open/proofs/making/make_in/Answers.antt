use Rattle.std.proofs.Common.{◌≡◌, refl, sym, subst, rules, IsTrue, OnErr}
use Rattle.sqlite.specs.State.{HasCleanDisk}
use Rattle.sqlite.specs.Held.{state}
use Rattle.tally_store_schema.specs.Made.{HasEmptyTables}
use Rattle.tally_store_open.specs.Create.{IsAsBefore}
use Rattle.tally_store_schema.proofs.StaysLemmas.{clean_first}
use Rattle.tally_store_open.proofs.EndingLemmas.{Began, failed_commit, rolled_back}
use Rattle.tally_store_open.proofs.making.make_in.Goals as goal

pub returns-in-Ok-clause-ends : goal.returns-in-Ok-clause-ends
returns-in-Ok-clause-ends g c =
    record {
      ended = search rules;
      same = λ clean now.
          let old = state g.S.Store c.args.conn.now in
          let last = state g.S.Store c.make_office.new.tx.conn.now in
          let begun = c.transaction-tx.ensures.begun in
          let same : c.commit.new.self.0 ≡ c.conn-1.given.0 = search rules in
          let clean_end : HasCleanDisk (state g.S.Store c.commit.new.self.0) = subst (λ (h : _). HasCleanDisk (state g.S.Store h)) (sym same) clean in
          let open_end : IsTrue (state g.S.Store c.commit.new.self.0).is_open = subst (λ (h : _). IsTrue (state g.S.Store h).is_open) (sym same) now in
          let early : HasCleanDisk last = clean_first c.commit.ensures.survives clean_end in
          let bare : HasEmptyTables 0 (state g.S.Store c.transaction-tx.result.conn.now) = rw begun (record { tables = record { schema = c.requires.unset; inside = refl }; empty = tt }) in
          let made = c.in-Ok.ensures.made early bare in
          let kept = c.make_office.ensures.stays.kept early tt in
          let was_open = rw begun at kept.was_open in
          let committed = rw begun at kept.committed in
          let began : Began old last = record { settled = c.requires.settled; was_open = was_open; committed = committed } in
          subst (λ (h : _). OnErr c.commit.result (IsAsBefore old (state g.S.Store h))) same
          (failed_commit old last (state g.S.Store c.commit.new.self.0) c.commit.result began made.inside.inside (c.commit.ensures.err clean_end) open_end);
      crash = search rules;
    }

pub returns-in-Err-clause-ends : goal.returns-in-Err-clause-ends
returns-in-Err-clause-ends g c =
    record {
      ended = search rules;
      same = λ clean now.
          let old = state g.S.Store c.args.conn.now in
          let last = state g.S.Store c.make_office.new.tx.conn.now in
          let begun = c.transaction-tx.ensures.begun in
          let same : c.rollback.new.self.0 ≡ c.conn-in-Err-1.given.0 = search rules in
          let clean_end : HasCleanDisk (state g.S.Store c.rollback.new.self.0) = subst (λ (h : _). HasCleanDisk (state g.S.Store h)) (sym same) clean in
          let open_end : IsTrue (state g.S.Store c.rollback.new.self.0).is_open = subst (λ (h : _). IsTrue (state g.S.Store h).is_open) (sym same) now in
          let early : HasCleanDisk last = clean_first c.rollback.ensures.survives clean_end in
          let kept = c.make_office.ensures.stays.kept early tt in
          let was_open = rw begun at kept.was_open in
          let committed = rw begun at kept.committed in
          let began : Began old last = record { settled = c.requires.settled; was_open = was_open; committed = committed } in
          subst (λ (h : _). IsAsBefore old (state g.S.Store h)) same (rolled_back old last (state g.S.Store c.rollback.new.self.0) began (c.rollback.ensures.undone clean_end) open_end);
      crash = search rules;
    }
