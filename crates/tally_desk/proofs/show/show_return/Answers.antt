use Rattle.std.proofs.Common.{◌≡◌, Ok, Err, subst}
use Rattle.serde_json.specs.Written.{compact_text}
use Rattle.tally_desk_answer.specs.Answer.{answer_text}
use Rattle.tally_desk_answer.specs.Shown.{shown_return}
use Rattle.tally_desk_answer.specs.declared.status.AnswerStatus.TheVariants as status
use Rattle.tally_desk_answer.specs.declared.status.BodyType.TheVariants as body
use Rattle.tally_keeper.specs.Keeper.{Happens, request}
use Rattle.tally_returns.specs.declared.ask.Ask.TheVariants.{ShowReturn}
use Rattle.tally_returns.specs.declared.reply.Reply.TheVariants as reply
use Rattle.tally_desk.specs.internal.Gives.{as_return}
use Rattle.tally_desk.specs.Requests.{AtStation, ShowsReturn}
use Rattle.tally_desk.proofs.DeskLemmas.{gives, station-answer}
use Rattle.tally_desk.proofs.show.show_return.Goals as goal

pub returns-in-Err-clause-gives : goal.returns-in-Err-clause-gives
returns-in-Err-clause-gives g c sure =
    let k = g.K.Keeper in
    let setup = k.constituencies c.args.keeper.now in
    let old = k.content c.args.keeper.now in
    let new = k.content c.return_of.new.keeper in
    let m = c.args.message.now in
    station-answer c.setup.result.now setup old new m c.deref.result.now c.in-Some.station c.station_in_target.result (λ code con. ShowsReturn setup old code) c.refusal-in-Err.result.items
    c.station_in_target.ensures c.setup.ensures.setup c.deref.ensures.value c.in-Some.is
    (λ place found. (Err c.in-Err.refusal, subst (λ r. Happens setup old (request (ShowReturn c.in-Some.station) (as_return r)) new) c.in-Err.is (c.return_of.ensures.shows sure), c.refusal-in-Err.ensures))

pub returns-in-Ok-clause-gives : goal.returns-in-Ok-clause-gives
returns-in-Ok-clause-gives g c sure =
    let k = g.K.Keeper in
    let setup = k.constituencies c.args.keeper.now in
    let old = k.content c.args.keeper.now in
    let new = k.content c.return_of.new.keeper in
    let m = c.args.message.now in
    let kept = rw c.in-Ok.is at c.return_of.ensures.kept sure in
    gives (AtStation setup old m (λ code con. ShowsReturn setup old code)) (λ text. text ≡ answer_text status.Done body.Json (compact_text (shown_return c.in-Some.station c.in-Ok.kept)))
    old new c.return_answer.result c.return_answer.ensures
    (λ text is. station-answer c.setup.result.now setup old new m c.deref.result.now c.in-Some.station c.station_in_target.result (λ code con. ShowsReturn setup old code) text
    c.station_in_target.ensures c.setup.ensures.setup c.deref.ensures.value c.in-Some.is
    (λ place found. (Ok (reply.Return c.in-Ok.kept), subst (λ r. Happens setup old (request (ShowReturn c.in-Some.station) (as_return r)) new) c.in-Ok.is (c.return_of.ensures.shows sure), is)))
    kept
