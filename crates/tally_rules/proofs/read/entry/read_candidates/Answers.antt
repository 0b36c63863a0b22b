use Rattle.std.proofs.Common.{◌≡◌, ◌+◌, ◌++◌, ◌∷◌, [], ap, ◌∙◌, sym, length, map, string_bytes, rules, arith, List, ℕ, Result, Ok}
use Rattle.std.proofs.lemmas.List.{length-map, map-append}
use Rattle.std.proofs.lemmas.List.Elements.{All-push}
use Rattle.std.proofs.lemmas.Result.{err_from_is_err_and}
use Rattle.toml.specs.Data.{Data}
use Rattle.toml.specs.View.{view}
use Rattle.tally_rules.specs.Fault.{Placed}
use Rattle.tally_rules.specs.Reading.{read_candidates, candidate}
use Rattle.tally_setup.specs.Text.{IsName}
use Rattle.tally_rules.specs.declared.place.Holder.{Holder}
use Rattle.tally_rules.proofs.ReadLemmas.{read-more, array-fault, array-end, IsFoundAt-same}
use Rattle.tally_rules.proofs.StepLemmas.{placed-passed, placed-first}
use Rattle.tally_rules.proofs.read.entry.read_candidates.Goals as goal

abbrev read : Holder → Holder → List (List ℕ) → Data → Result (List ℕ) Placed
read con list before = candidate con list (length before + 1)

pub returns-in_err-entries-clause-fault : goal.returns-in_err-entries-clause-fault
unfolding read_candidates
returns-in_err-entries-clause-fault c =
    placed-passed _ _ _ c.from_residual.ensures.1 (placed-first _ _ _ (rw c.list_way-here.ensures at c.in_err-entries.ensures.fault))

pub returns-in_err-name-clause-fault : goal.returns-in_err-name-clause-fault
unfolding read_candidates
returns-in_err-name-clause-fault c =
    let p = err_from_is_err_and c.from_residual-in_err-name.result c.from_residual-in_err-name.ensures.1 in
    let len : c.len.result ≡ length c.loop-name.names.items = search rules in
    let before = ap (λ n. candidate c.args.con.now c.args.list.now (n + 1) (view c.name-item.result)) (length-map c.loop-name.names.items string_bytes ∙ sym len) in
    let found = IsFoundAt-same _ _ _ _ before c.in_err-name.ensures.fault in
    rw (p.1, p.2) (array-fault (read c.args.con.now c.args.list.now) _ _ _ _ _ _ _ (rw c.list_way-here.ensures at c.in_ok-entries.ensures.array) c.loop-name.invariant.0 c.loop-name-test.true c.name-item.is found)

pub loop-name-preserved : goal.loop-name-preserved
loop-name-preserved c =
    let items : map string_bytes c.push_reserved.new.self.items ≡ map string_bytes c.loop-name.names.items ++ string_bytes c.in_ok-name.name ∷ [] =
    ap (map string_bytes) c.push_reserved.ensures.items ∙ map-append string_bytes c.loop-name.names.items (c.in_ok-name.name ∷ []) in
    let len : c.len.result ≡ length c.loop-name.names.items = search rules in
    let before = ap (λ n. candidate c.args.con.now c.args.list.now (n + 1) (view c.name-item.result)) (length-map c.loop-name.names.items string_bytes ∙ sym len) in
    let one : read c.args.con.now c.args.list.now (map string_bytes c.loop-name.names.items) (view c.name-item.result) ≡ Ok (string_bytes c.in_ok-name.name) = before ∙ c.in_ok-name.ensures.name in
    rw items (
      read-more (read c.args.con.now c.args.list.now) _ _ _ _ _ c.loop-name.invariant.0 c.loop-name-test.true c.name-item.is one,
      All-push IsName _ _ c.loop-name.invariant.1 c.in_ok-name.ensures.limits,
      rw c.push_reserved.ensures.capacity c.loop-name.invariant.2,
    )

pub returns-clause-candidates : goal.returns-clause-candidates
unfolding read_candidates
returns-clause-candidates c = array-end (read c.args.con.now c.args.list.now) _ _ _ _ (rw c.list_way-here.ensures at c.in_ok-entries.ensures.array) c.loop-name.invariant.0 c.loop-name-test.false

pub returns-clause-some : goal.returns-clause-some
returns-clause-some c = omega (arith, c.in_ok-entries.ensures.some, c.loop-name.invariant.0.count, length-map c.loop-name.names.items string_bytes)

pub returns-clause-limit : goal.returns-clause-limit
returns-clause-limit c = omega (arith, c.in_ok-entries.ensures.limit, c.loop-name.invariant.0.count, length-map c.loop-name.names.items string_bytes)

pub overflow_add-len : goal.overflow_add-len
overflow_add-len c =
    let len : c.len.result ≡ length c.loop-name.names.items = search rules in
    omega (arith, len, c.loop-name.invariant.0.count, length-map c.loop-name.names.items string_bytes)
