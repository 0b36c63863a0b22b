use Rattle.std.proofs.Common.{refl}
use Rattle.tally_store.proofs.requests.answer_after.Goals as goal

pub returns-in-Err : goal.returns-in-Err
returns-in-Err g c = rw c.in-Err.is (record { said = c.unless_shut.result; is = refl; one = c.unless_shut.ensures.one; ends = c.unless_shut.ensures.ends; shut = c.unless_shut.ensures.shut })
