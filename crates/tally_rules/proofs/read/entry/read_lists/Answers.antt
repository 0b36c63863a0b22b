use Rattle.std.proofs.Common.{◌≡◌, ◌++◌, ◌∷◌, [], Ok, ap, ◌∙◌, sym, List, Result, arith, refl}
use Rattle.std.proofs.lemmas.List.{map-append}
use Rattle.std.proofs.lemmas.List.Elements.{All-push, All-nil}
use Rattle.std.proofs.lemmas.Result.{err_from_is_err_and}
use Rattle.toml.specs.Data.{Data}
use Rattle.toml.specs.View.{view}
use Rattle.tally_setup.specs.Constituency.{ListEntry, list_codes}
use Rattle.tally_rules.specs.Fault.{Placed}
use Rattle.tally_setup.specs.Limits.{IsListEntry}
use Rattle.tally_rules.specs.declared.place.Holder.{Holder}
use Rattle.tally_rules.specs.Reading.{read_lists, list_entry}
use Rattle.tally_rules.proofs.ReadLemmas.{read-more, array-fault, array-end, IsFoundAt-same}
use Rattle.tally_rules.proofs.StepLemmas.{placed-passed, placed-first}
use Rattle.tally_rules.proofs.read.entry.read_lists.Goals as goal

abbrev read : Holder → List ListEntry → Data → Result ListEntry Placed
read con before = list_entry con (list_codes before)

pub returns-in_err-entries-clause-fault : goal.returns-in_err-entries-clause-fault
unfolding read_lists
returns-in_err-entries-clause-fault c =
    placed-passed _ _ _ c.from_residual.ensures.1 (placed-first _ _ _ (rw c.constituency_way-here.ensures at c.in_err-entries.ensures.fault))

pub returns-in_err-list_entry-clause-fault : goal.returns-in_err-list_entry-clause-fault
unfolding read_lists
returns-in_err-list_entry-clause-fault c =
    let p = err_from_is_err_and c.from_residual-in_err-list_entry.result c.from_residual-in_err-list_entry.ensures.1 in
    let before = ap (λ taken. list_entry c.args.con.now taken (view c.list-item.result)) (sym c.loop-list.invariant.1) in
    let found = IsFoundAt-same _ _ _ _ before c.in_err-list_entry.ensures.fault in
    rw (p.1, p.2) (array-fault (read c.args.con.now) _ _ _ _ _ _ _ (rw c.constituency_way-here.ensures at c.in_ok-entries.ensures.array) c.loop-list.invariant.0 c.loop-list-test.true c.list-item.is found)

pub loop-list-preserved : goal.loop-list-preserved
loop-list-preserved c =
    let list = c.in_ok-list_entry.field-0 in
    let one : read c.args.con.now c.loop-list.lists.items (view c.list-item.result) ≡ Ok list = ap (λ taken. list_entry c.args.con.now taken (view c.list-item.result)) (sym c.loop-list.invariant.1) ∙ c.in_ok-list_entry.ensures.list in
    let codes : c.list_entry.new.taken ≡ list_codes (c.loop-list.lists.items ++ list ∷ []) =
    c.in_ok-list_entry.ensures.taken ∙ ap (λ taken. taken ++ list.code ∷ []) c.loop-list.invariant.1 ∙ sym (map-append (λ (l : ListEntry). l.code) c.loop-list.lists.items (list ∷ [])) in
    rw c.push_reserved.ensures.items (
      read-more (read c.args.con.now) _ _ _ _ _ c.loop-list.invariant.0 c.loop-list-test.true c.list-item.is one,
      codes,
      c.in_ok-list_entry.ensures.distinct,
      All-push IsListEntry _ _ c.loop-list.invariant.3 c.in_ok-list_entry.ensures.limits,
      rw c.push_reserved.ensures.capacity c.loop-list.invariant.4,
    )

pub returns-clause-lists : goal.returns-clause-lists
unfolding read_lists
returns-clause-lists c = array-end (read c.args.con.now) _ _ _ _ (rw c.constituency_way-here.ensures at c.in_ok-entries.ensures.array) c.loop-list.invariant.0 c.loop-list-test.false

pub returns-clause-some : goal.returns-clause-some
returns-clause-some c = omega (arith, c.in_ok-entries.ensures.some, c.loop-list.invariant.0.count)

pub returns-clause-limit : goal.returns-clause-limit
returns-clause-limit c = omega (arith, c.in_ok-entries.ensures.limit, c.loop-list.invariant.0.count)

pub returns-clause-distinct : goal.returns-clause-distinct
returns-clause-distinct c = rw c.loop-list.invariant.1 at c.loop-list.invariant.2

pub loop-list-init : goal.loop-list-init
loop-list-init c =
    rw (c.in_ok-lists.ensures.items, c.new-codes.ensures) (
      record { whole = refl; count = refl },
      refl,
      λ i j d _ within _. absurd (omega arith),
      All-nil IsListEntry,
      c.in_ok-lists.ensures.capacity,
    )
