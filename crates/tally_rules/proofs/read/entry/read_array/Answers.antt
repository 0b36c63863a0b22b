use Rattle.std.proofs.Common.{◌≡◌, Some, ap, ◌∙◌, sym, true, false, length, arith}
use Rattle.std.specs.Prelude.{◌==◌, nat_lt}
use Rattle.std.specs.List.{list_all}
use Rattle.std.proofs.lemmas.Bool.{lt-ltb, le-ltb}
use Rattle.toml.specs.Data.{as_array}
use Rattle.toml.specs.View.{view, items_view}
use Rattle.tally_rules.specs.internal.Found.{is_kind}
use Rattle.tally_rules.proofs.ReadLemmas.{read_array-checked}
use Rattle.tally_rules.proofs.read.entry.read_array.Goals as goal

pub returns-then-not-are-clause-fault : goal.returns-then-not-are-clause-fault
returns-then-not-are-clause-fault c =
    let array : Some (items_view c.as_slice-items.result.now) ≡ as_array (view c.in_ok-read_value.field-0.now) = ap (λ vs. Some (items_view vs)) c.as_slice-items.ensures.value ∙ c.in-Some.ensures in
    let some : (length c.as_slice-items.result.now == 0) ≡ false = sym c.is_empty.ensures ∙ c.if-is_empty.false in
    let kinds : list_all (λ v. is_kind c.args.kind (view v)) c.as_slice-items.result.now ≡ false = sym c.are.ensures ∙ c.if-not-are.true in
    read_array-checked (is_kind c.args.kind) _ c.args.limit _ _ _ c.in_ok-read_value.ensures.value array ∙ rw (some, kinds)

pub returns-then-items-limit-clause-fault : goal.returns-then-items-limit-clause-fault
returns-then-items-limit-clause-fault c =
    let array : Some (items_view c.as_slice-items.result.now) ≡ as_array (view c.in_ok-read_value.field-0.now) = ap (λ vs. Some (items_view vs)) c.as_slice-items.ensures.value ∙ c.in-Some.ensures in
    let some : (length c.as_slice-items.result.now == 0) ≡ false = sym c.is_empty.ensures ∙ c.if-is_empty.false in
    let kinds : list_all (λ v. is_kind c.args.kind (view v)) c.as_slice-items.result.now ≡ true = sym c.are.ensures ∙ c.if-not-are.false in
    let many : nat_lt c.args.limit (length c.as_slice-items.result.now) ≡ true = lt-ltb _ _ (omega arith) in
    read_array-checked (is_kind c.args.kind) _ c.args.limit _ _ _ c.in_ok-read_value.ensures.value array ∙ rw (some, kinds, many)

pub returns-else-items-limit-clause-array : goal.returns-else-items-limit-clause-array
returns-else-items-limit-clause-array c =
    let array : Some (items_view c.as_slice-items.result.now) ≡ as_array (view c.in_ok-read_value.field-0.now) = ap (λ vs. Some (items_view vs)) c.as_slice-items.ensures.value ∙ c.in-Some.ensures in
    let some : (length c.as_slice-items.result.now == 0) ≡ false = sym c.is_empty.ensures ∙ c.if-is_empty.false in
    let kinds : list_all (λ v. is_kind c.args.kind (view v)) c.as_slice-items.result.now ≡ true = sym c.are.ensures ∙ c.if-not-are.false in
    let few : nat_lt c.args.limit (length c.as_slice-items.result.now) ≡ false = le-ltb _ _ (omega arith) in
    read_array-checked (is_kind c.args.kind) _ c.args.limit _ _ _ c.in_ok-read_value.ensures.value array ∙ rw (some, kinds, few)
