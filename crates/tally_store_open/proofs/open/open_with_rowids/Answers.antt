use Rattle.std.proofs.Common.{◌≡◌, ◌∙◌, sym, ap, true, true≢false}
use Rattle.std.specs.Prelude.{codes}
use Rattle.std.proofs.lemmas.Result.{IfErr-weaker, IfOk-weaker}
use Rattle.sqlite.specs.Held.{state}
use Rattle.tally_store_schema.specs.Made.{has_former_tables, has_table}
use Rattle.tally_store_schema.specs.Tables.{former_schema, office_schema}
use Rattle.tally_store_open.proofs.OpenedLemmas.{fault_today, numbers_former, numbers_today, today_each}
use Rattle.tally_store_open.specs.Crash.{LeavesTakenOver}
use Rattle.tally_store_open.proofs.JudgingLemmas.{so_answered}
use Rattle.tally_store_open.proofs.UnwrittenLemmas.{counts_nothing, ends_untouched, ends_whole, settled_outside, untouched, unwritten_by}
use Rattle.tally_store_open.proofs.open.open_with_rowids.Goals as goal

pub returns-in-Ok-true-clause-ends : goal.returns-in-Ok-true-clause-ends
returns-in-Ok-true-clause-ends g c =
    let old = state g.S.Store c.args.conn.now in
    ends_whole (LeavesTakenOver old.now) c.open_today.result old (state g.S.Store c.open_today.new.conn) c.open_today.ensures.ends

pub returns-in-Ok-true-clause-opened : goal.returns-in-Ok-true-clause-opened
returns-in-Ok-true-clause-opened g c clean =
    let old = state g.S.Store c.args.conn.now in
    let new = state g.S.Store c.open_today.new.conn in
    let today = c.in-Ok-true.ensures.today c.in-Ok-true.field-0-test in
    let schema : old.now.schema ≡ office_schema = sym c.schema.ensures.value ∙ today.0 in
    let ensured = c.open_today.ensures in
    today_each c.open_today.result old new schema (λ now. (c.schema.ensures.live now).0) (settled_outside (state g.S.Store c.args.conn.now) c.is_autocommit-settled.result c.is_autocommit-settled.ensures.value c.is_autocommit-settled.ensures.settled c.requires.autocommit) (ensured.ends.was_open clean) (ensured.ends.same clean) (λ now. c.requires.rowids.today now schema) (ensured.stored clean) (ensured.judged clean)

pub returns-in-Ok-true-clause-fault : goal.returns-in-Ok-true-clause-fault
returns-in-Ok-true-clause-fault g c clean =
    let old = state g.S.Store c.args.conn.now in
    let today = c.in-Ok-true.ensures.today c.in-Ok-true.field-0-test in
    let value = sym c.schema.ensures.value in
    let schema : old.now.schema ≡ office_schema = value ∙ today.0 in
    let names : has_former_tables old.now.schema ≡ true = ap has_former_tables value ∙ today.1 in
    let past : has_table old.now.schema (codes "past") ≡ true = ap (λ s. has_table s (codes "past")) value ∙ today.2 in
    IfErr-weaker c.open_today.result _ _ (λ fault ensured. fault_today old fault schema names past ensured) (c.open_today.ensures.fault clean)

pub returns-in-Ok-true-clause-unwritten : goal.returns-in-Ok-true-clause-unwritten
returns-in-Ok-true-clause-unwritten g c past =
    let ensured = c.open_today.ensures in
    unwritten_by (state g.S.Store c.args.conn.now) (state g.S.Store c.open_today.new.conn) (λ db now may. g.met.S.Store.settled c.args.conn.now.store db now may)
    (settled_outside (state g.S.Store c.args.conn.now) c.is_autocommit-settled.result c.is_autocommit-settled.ensures.value c.is_autocommit-settled.ensures.settled c.requires.autocommit) ensured.ends.survives ensured.ends.same

pub returns-in-Ok-false-clause-unwritten : goal.returns-in-Ok-false-clause-unwritten
returns-in-Ok-false-clause-unwritten g c past =
    let former = c.in-Ok-false.ensures.former c.in-Ok-false.field-0-test in
    absurd (true≢false (sym past ∙ ap (λ s. has_table s (codes "past")) (sym c.schema.ensures.value) ∙ former.2))

pub returns-in-Ok-true-clause-counts : goal.returns-in-Ok-true-clause-counts
returns-in-Ok-true-clause-counts g c =
    counts_nothing c.open_today.result (state g.S.Store c.args.conn.now) (state g.S.Store c.open_today.new.conn) c.open_today.ensures.counts

pub returns-in-Ok-false-clause-counts : goal.returns-in-Ok-false-clause-counts
returns-in-Ok-false-clause-counts g c =
    let former = c.in-Ok-false.ensures.former c.in-Ok-false.field-0-test in
    so_answered c.open_former.result (λ past clean. absurd (true≢false (sym past ∙ ap (λ s. has_table s (codes "past")) (sym c.schema.ensures.value) ∙ former.2)))

pub returns-in-Err-clause-unwritten : goal.returns-in-Err-clause-unwritten
returns-in-Err-clause-unwritten g c past =
    untouched (state g.S.Store c.args.conn.now) (λ db now may. g.met.S.Store.settled c.args.conn.now.store db now may) (settled_outside (state g.S.Store c.args.conn.now) c.is_autocommit-settled.result c.is_autocommit-settled.ensures.value c.is_autocommit-settled.ensures.settled c.requires.autocommit)

pub returns-in-Ok-true-clause-numbers : goal.returns-in-Ok-true-clause-numbers
returns-in-Ok-true-clause-numbers g c clean =
    let old = state g.S.Store c.args.conn.now in
    let today = c.in-Ok-true.ensures.today c.in-Ok-true.field-0-test in
    let schema : old.now.schema ≡ office_schema = sym c.schema.ensures.value ∙ today.0 in
    IfOk-weaker c.open_today.result _ _ (λ setup ensured. numbers_today setup old c.open_today.new.known schema ensured) (c.open_today.ensures.numbers clean)

pub returns-in-Ok-false-clause-numbers : goal.returns-in-Ok-false-clause-numbers
returns-in-Ok-false-clause-numbers g c clean =
    let old = state g.S.Store c.args.conn.now in
    let former = c.in-Ok-false.ensures.former c.in-Ok-false.field-0-test in
    let schema : old.now.schema ≡ former_schema = sym c.schema.ensures.value ∙ former.0 in
    IfOk-weaker c.open_former.result _ _ (λ setup ensured. numbers_former setup old c.open_former.new.known schema ensured) (c.open_former.ensures.numbers clean)

pub open_former-requires-clause-rowids : goal.open_former-requires-clause-rowids
open_former-requires-clause-rowids g c now =
    let former = c.in-Ok-false.ensures.former c.in-Ok-false.field-0-test in
    c.requires.rowids.former now (sym c.schema.ensures.value ∙ former.0)

pub returns-in-Err-clause-ends : goal.returns-in-Err-clause-ends
returns-in-Err-clause-ends g c =
    let old = state g.S.Store c.args.conn.now in
    ends_untouched (LeavesTakenOver old.now) _ old c.requires.autocommit
