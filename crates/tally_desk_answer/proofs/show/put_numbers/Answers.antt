use Rattle.tally_desk_answer.specs.Shown.{whole_value}
use Rattle.tally_desk_answer.proofs.ShownLemmas.{shown_next}
use Rattle.tally_desk_answer.proofs.show.put_numbers.Goals as goal

pub loop-number-preserved : goal.loop-number-preserved
loop-number-preserved c =
    shown_next whole_value c.args.numbers.now c.loop-number.number-index 0 c.loop-number.items.items _ c.from.result c.loop-number-test.true c.in_ok-push.ensures.items c.from.ensures c.loop-number.invariant
