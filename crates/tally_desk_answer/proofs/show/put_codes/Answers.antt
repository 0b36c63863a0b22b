use Rattle.std.proofs.Common.{◌∙◌, ap}
use Rattle.serde_json.specs.Data.{string}
use Rattle.tally_desk_answer.specs.Shown.{code_at_place}
use Rattle.tally_desk_answer.proofs.ShownLemmas.{shown_next}
use Rattle.tally_desk_answer.proofs.show.put_codes.Goals as goal

pub loop-place-preserved : goal.loop-place-preserved
loop-place-preserved c =
    let lists = c.args.lists.now in
    shown_next (λ place. string (code_at_place lists place)) c.args.places.now c.loop-place.place-index 0 c.loop-place.items.items _ c.in_ok-try_from_str.field-0 c.loop-place-test.true c.in_ok-push.ensures.items
    (c.in_ok-try_from_str.ensures ∙ ap string c.code_at_place.ensures) c.loop-place.invariant
