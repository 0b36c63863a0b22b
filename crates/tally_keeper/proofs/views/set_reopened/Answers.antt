use Rattle.std.proofs.Common.{◌<◌, ◌+◌, ◌^◌, ◌∙◌, string_bytes, Result, Ok, Err}
use Rattle.std.specs.Prelude.{OnErr, OnOk}
use Rattle.tally_returns.specs.View.{View}
use Rattle.tally_keeper.specs.internal.Rows.{views_of, with_reopening}
use Rattle.tally_keeper.proofs.TreeLemmas.{not_written, of_lent, with_view-same, written}
use Rattle.tally_keeper.proofs.views.set_reopened.Goals as goal

pub returns-in_default-clause-reopened : goal.returns-in_default-clause-reopened
returns-in_default-clause-reopened c =
    not_written c.args.views.now c.get_mut.follows.lender-at-none c.args.con (with_reopening (string_bytes c.args.note) c.args.past) c.in_default.ensures.value c.get_mut.follows.holds-at-none

pub open_again-requires : goal.open_again-requires
open_again-requires c = of_lent c.args.views.now c.args.con c.in-Some.view.now (λ (view : View). view.edition + 1 < 2 ^ 32) c.in-Some.ensures.value c.requires

on_ok : {X E A B : Type 0} (r : Result X E) → OnOk r A → (A → B) → OnOk r B
on_ok (Ok x) ok f = f ok
on_ok (Err e) ok f = tt

on_err : {X E A B : Type 0} (r : Result X E) → OnErr r A → (A → B) → OnErr r B
on_err (Ok x) err f = tt
on_err (Err e) err f = f err

pub returns-clause-reopened : goal.returns-clause-reopened
returns-clause-reopened c =
    on_ok c.open_again.result c.open_again.ensures.reopened
    (λ reopened. written c.args.views.now (c.get_mut.follows.lender c.open_again.new.view) c.args.con c.in-Some.view.now (with_reopening (string_bytes c.args.note) c.args.past) c.open_again.new.view
    c.in-Some.ensures.value reopened (c.get_mut.follows.holds c.open_again.new.view))

pub returns-clause-kept : goal.returns-clause-kept
returns-clause-kept c =
    on_err c.open_again.result c.open_again.ensures.kept
    (λ same. written c.args.views.now (c.get_mut.follows.lender c.open_again.new.view) c.args.con c.in-Some.view.now (λ view. view) c.open_again.new.view
    c.in-Some.ensures.value same (c.get_mut.follows.holds c.open_again.new.view)
    ∙ with_view-same (views_of c.args.views.now) c.args.con)
