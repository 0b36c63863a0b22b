use Rattle.std.proofs.Common.{refl, sym, true≢false}
use Rattle.tally_store_open.proofs.judging.accept.Goals as goal

pub returns-in-Ok-Some-clause-passed : goal.returns-in-Ok-Some-clause-passed
returns-in-Ok-Some-clause-passed c = rw (c.in-Ok-Some.field-0-is, c.lent.ensures) at c.in-Ok-Some.ensures.passed

pub returns-in-Ok-Some-clause-setup : goal.returns-in-Ok-Some-clause-setup
returns-in-Ok-Some-clause-setup c = rw c.in-Ok-Some.field-0-is at c.in-Ok-Some.ensures.setup

pub returns-in-Ok-Some-clause-numbers : goal.returns-in-Ok-Some-clause-numbers
returns-in-Ok-Some-clause-numbers c = rw (c.in-Ok-Some.field-0-is, c.lent.ensures) at c.in-Ok-Some.ensures.numbers

pub returns-in-Ok-None-clause-refused : goal.returns-in-Ok-None-clause-refused
returns-in-Ok-None-clause-refused c =
    let must = rw (c.in-Ok-None.field-0-is, c.lent.ensures) at c.in-Ok-None.ensures.must_pass in
    (refl, λ lawful. true≢false (sym (must lawful)))
