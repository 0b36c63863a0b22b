use Rattle.std.proofs.Common.{◌≡◌, ◌∙◌, Bool, true, false, Option, IsTrue, ap, refl, subst, sym, true≢false}
use Rattle.std.specs.Prelude.{IfSome, IsSome}
use Rattle.std.specs.Bool.{then_some}
use Rattle.tally_keeper.specs.Kept.{Kept}
use Rattle.tally_store_open.specs.Numbers.{HasNumbersOfRows, numbers_of}
use Rattle.tally_store_open.specs.OfficeRows.{AreRowsOfOneState, rows_in_order}
use Rattle.tally_store_open.proofs.VerdictLemmas.{must_be_lawful, returns_of_state, rows_passed}
use Rattle.tally_store_open.proofs.NumberLemmas.{numbers_stated}
use Rattle.tally_store_open.proofs.OneStateLemmas.{rows_of_one}
use Rattle.tally_store_open.proofs.office.accept_rows.Goals as goal

-- what is given where a test passes
if_where : {X : Type 0} (b : Bool) (x : X) (found : Option X) (P : X → Type 0) → found ≡ then_some b x → (IsTrue b → P x) → IfSome found P
if_where true x found P is so = subst (λ o. IfSome o P) (sym is) (so refl)
if_where false x found P is so = subst (λ o. IfSome o P) (sym is) tt

some_where : {X : Type 0} (b : Bool) (x : X) (found : Option X) → found ≡ then_some b x → IsTrue b → IsSome found
some_where true x found is passed = subst IsSome (sym is) refl
some_where false x found is passed = absurd (true≢false (sym passed))

pub returns-in_default-clause-must_pass : goal.returns-in_default-clause-must_pass
returns-in_default-clause-must_pass c lawful =
    let must = c.in_ok-ledger.ensures.must_read lawful.0.returns (returns_of_state c.args.setup (rows_in_order c.args.rows.now) lawful.0 lawful.1 lawful.2) in
    rw c.in_default.is at must

pub returns-clause-must_pass : goal.returns-clause-must_pass
returns-clause-must_pass c lawful =
    let read = rw c.in-Some.is at c.in_ok-ledger.ensures.read in
    let must = must_be_lawful c.args.setup (rows_in_order c.args.rows.now) c.in-Some.ledger c.cons-cons.ensures.limits c.a_constituency_has_a_view.ensures.lawful read lawful in
    some_where c.in_ok-lawful.lawful c.into_setup.result c.then_some.result c.then_some.ensures (c.in_ok-lawful.ensures.otherwise must)

pub returns-clause-passed : goal.returns-clause-passed
returns-clause-passed c =
    let setup = c.args.setup in
    let rows = rows_in_order c.args.rows.now in
    let read = rw c.in-Some.is at c.in_ok-ledger.ensures.read in
    if_where c.in_ok-lawful.lawful c.into_setup.result c.then_some.result (λ _. AreRowsOfOneState setup rows) c.then_some.ensures
    (λ passed. rows_of_one setup rows c.cons-cons.ensures.limits c.a_constituency_has_a_view.ensures.lawful (rows_passed setup rows c.in-Some.ledger read (c.in_ok-lawful.ensures.lawful passed)))

pub returns-clause-setup : goal.returns-clause-setup
returns-clause-setup c =
    let read = rw c.in-Some.is at c.in_ok-ledger.ensures.read in
    if_where c.in_ok-lawful.lawful c.into_setup.result c.then_some.result (λ again. again ≡ c.args.setup) c.then_some.ensures (λ _. c.into_setup.ensures ∙ ap (λ (k : Kept). k.setup) read.kept_is)

pub returns-clause-numbers : goal.returns-clause-numbers
returns-clause-numbers c =
    let rows = rows_in_order c.args.rows.now in
    let known = numbers_of c.accept_cons.new.known in
    let read = rw c.in-Some.is at c.in_ok-ledger.ensures.read in
    if_where c.in_ok-lawful.lawful c.into_setup.result c.then_some.result (λ _. HasNumbersOfRows c.args.setup rows known) c.then_some.ensures
    (λ passed. numbers_stated c.args.setup rows c.in-Some.ledger known c.cons-cons.ensures.limits read (c.in_ok-lawful.ensures.numbers passed))
