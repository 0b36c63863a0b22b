use Rattle.std.proofs.Common.{◌≡◌, ◌<◌, ◌++◌, ◌∷◌, [], List, length, get_or, map, take, sym, ap, ◌∙◌, subst, arith}
use Rattle.std.proofs.lemmas.List.{map-append, take_all, take_more}
use Rattle.tally_allot.specs.declared.award.Award.{Award}
use Rattle.tally_allot.specs.Awards.{AreAwardsOf, award_of}
use Rattle.tally_allot_award.specs.declared.won.WonSeat.{WonSeat}
use Rattle.tally_allot_award.specs.internal.KeptPoll.{kept_poll}
use Rattle.tally_allot_award.specs.internal.Terms.{AreDivisors}
use Rattle.tally_allot_award.proofs.PollLemmas.{sound_under}
use Rattle.tally_allot.proofs.AwardLemmas.{awards_of_won}
use Rattle.tally_allot.proofs.award_table.awards_of.Goals as goal

pub loop-row-preserved : goal.loop-row-preserved
loop-row-preserved g c =
    let f = award_of (g.D.Divisors.divisor c.args.divisors.now) (g.D.Divisors.unit_of c.args.divisors.now) (kept_poll c.args.poll.now) in
    let pairs = c.args.awarded.now.pairs.items in
    let i = c.loop-row.row-index in
    let none : WonSeat = record { list = 0; seat = 0 } in
    let rows : c.deref-row-items.result.now ≡ pairs = c.deref-row-items.ensures.value in
    let low : i < length pairs = omega (arith, c.loop-row-test.true, ap length rows) in
    c.in_ok-push.ensures.items ∙ ap (λ a. c.loop-row.awards.items ++ a ∷ []) c.award_of.ensures
    ∙ ap (λ xs. xs ++ f (get_or c.deref-row-items.result.now i none) ∷ []) c.loop-row.invariant
    ∙ ap (λ xs. map f (take i pairs) ++ f (get_or xs i none) ∷ []) rows
    ∙ sym (map-append f (take i pairs) (get_or pairs i none ∷ [])) ∙ ap (map f) (sym (take_more pairs i none low))

pub returns : goal.returns
returns g c =
    let p = c.args.poll.now in
    let nth = g.D.Divisors.divisor c.args.divisors.now in
    let unit = g.D.Divisors.unit_of c.args.divisors.now in
    let poll = kept_poll p in
    let awarded = c.args.awarded.now in
    let d : AreDivisors nth = record { positive = g.met.D.Divisors.positive c.args.divisors.now; rises = g.met.D.Divisors.rises c.args.divisors.now } in
    λ lot_rule lot seats proper allotment won.
    let all = take_all c.loop-row.row-index awarded.pairs.items (omega (arith, c.loop-row-test.false, ap length c.deref-row-items.ensures.value)) in
    let e : map (award_of nth unit poll) awarded.pairs.items ≡ c.loop-row.awards.items = ap (map (award_of nth unit poll)) (sym all) ∙ sym c.loop-row.invariant in
    let P : List Award → Type 0 = AreAwardsOf nth unit lot_rule poll lot awarded.seats.items in
    (awarded.seats.items, allotment, subst P e (awards_of_won nth unit lot_rule d (g.met.D.Divisors.unit_from_one c.args.divisors.now) poll (sound_under p.threshold p.base p.votes.now) lot proper seats awarded.seats.items awarded.pairs.items won))
