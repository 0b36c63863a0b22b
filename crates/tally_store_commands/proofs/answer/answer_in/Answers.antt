use Rattle.std.proofs.Common.{◌∙◌, Ok, Err, ap, rules, subst, sym}
use Rattle.sqlite.specs.Held.{state}
use Rattle.tally_returns.specs.declared.ask.Ask.TheVariants.{ShowReturn}
use Rattle.tally_keeper.specs.Events.{as_answer}
use Rattle.tally_machine_law.specs.Runs.{is_act}
use Rattle.tally_machine_law.specs.Step.{lodge_reply, reply_seen}
use Rattle.tally_store_commands.specs.internal.Known.{known_of}
use Rattle.tally_store_commands.proofs.AnswerLemmas.{answers-failed, carries-known, shown-keeps}
use Rattle.tally_store_commands.proofs.KnownLemmas.{forgets-answered, forgets-lodged, lodged-known}
use Rattle.tally_store_commands.proofs.LodgeLemmas.{lodged-carried, seen-reply}
use Rattle.tally_keeper.specs.internal.Held.{moves_return}
use Rattle.tally_returns.specs.Named.{station_named}
use Rattle.tally_store_commands.specs.internal.Requests.{AnswersIn}
use Rattle.tally_store_commands.proofs.answer.answer_in.Goals as goal

pub returns-in-ShowReturn-clause-answers : goal.returns-in-ShowReturn-clause-answers
returns-in-ShowReturn-clause-answers g c =
    let setup = c.args.setup.now in
    let known = known_of c.args.known.now in
    let station = c.in-ShowReturn.station in
    let old = state g.S.Store c.args.tx.now.conn.now in
    let new = state g.S.Store c.show_return.new.tx.conn.now in
    let shown = c.show_return.result in
    record {
      kind = search rules;
      step = carries-known setup known (ShowReturn station) c.args.ask.now old new shown c.in-ShowReturn.is c.show_return.ensures.answers.step;
      known = shown-keeps setup known station c.args.ask.now old new shown c.in-ShowReturn.is;
      forgets = forgets-answered shown known known (λ code had. had);
      unwritten = c.show_return.ensures.answers.unwritten;
      answered_open = c.show_return.ensures.answered_open;
    }

pub move_on-requires : goal.move_on-requires
move_on-requires g c = record { named = ap station_named c.in-Query.is; moves = ap moves_return c.in-Query.is }

pub move_on-requires-in-Correct : goal.move_on-requires-in-Correct
move_on-requires-in-Correct g c = record { named = ap station_named c.in-Correct.is; moves = ap moves_return c.in-Correct.is }

pub move_on-requires-in-Close : goal.move_on-requires-in-Close
move_on-requires-in-Close g c = record { named = ap station_named c.in-Close.is; moves = ap moves_return c.in-Close.is }

pub move_on-requires-in-Confirm : goal.move_on-requires-in-Confirm
move_on-requires-in-Confirm g c = record { named = ap station_named c.in-Confirm.is; moves = ap moves_return c.in-Confirm.is }

pub returns-in_err-reply-in-Lodge-clause-answers : goal.returns-in_err-reply-in-Lodge-clause-answers
returns-in_err-reply-in-Lodge-clause-answers g c = answers-failed _ c.from_residual.ensures.0

pub returns-in-Ok-clause-answers : goal.returns-in-Ok-clause-answers
returns-in-Ok-clause-answers g c =
    let setup = c.args.setup.now in
    let station = c.in-Lodge.station in
    let slip = c.in-Lodge.slip in
    let counts = c.in-Lodge.counts in
    let before = known_of c.args.known.now in
    let after = known_of c.lodge.new.known in
    let ensured = c.in_ok-reply-in-Lodge.ensures in
    let r = c.in_ok-reply-in-Lodge.field-0 in
    let seen = ap (λ q. reply_seen (Ok q)) c.from.ensures ∙ seen-reply c.in-Ok.reply ∙ ap lodge_reply (sym c.in-Ok.is) in
    subst (λ a. AnswersIn g.S.Store setup a c.args.known.now c.lodge.new.known c.args.tx.now c.lodge.new.tx (Ok (Ok c.from.result))) (sym c.in-Lodge.is) (record {
      kind = search rules;
      step = λ clean inside text s lawful held tables. lodged-carried setup text s station slip counts r (Ok c.from.result) _ seen (ensured.lodged clean inside text s lawful tables);
      known = λ clean inside text s t lawful held tables answered.
          lodged-known setup s t station slip counts r (Ok c.from.result) before after ensured.limits (ensured.lodged clean inside text s lawful tables).answered seen ensured.known held answered;
      forgets = forgets-lodged setup station r before after ensured.known;
      unwritten = λ clean at acts. ensured.unwritten clean at (ap (λ q. is_act (as_answer q)) c.in-Ok.is ∙ sym (ap (λ q. is_act (Ok q)) c.from.ensures) ∙ acts);
      answered_open = ensured.answered_open;
    })

pub returns-in-Err-clause-answers : goal.returns-in-Err-clause-answers
returns-in-Err-clause-answers g c =
    let setup = c.args.setup.now in
    let station = c.in-Lodge.station in
    let slip = c.in-Lodge.slip in
    let counts = c.in-Lodge.counts in
    let before = known_of c.args.known.now in
    let after = known_of c.lodge.new.known in
    let ensured = c.in_ok-reply-in-Lodge.ensures in
    let r = c.in_ok-reply-in-Lodge.field-0 in
    let seen = ap lodge_reply (sym c.in-Err.is) in
    subst (λ a. AnswersIn g.S.Store setup a c.args.known.now c.lodge.new.known c.args.tx.now c.lodge.new.tx (Ok (Err c.in-Err.refusal))) (sym c.in-Lodge.is) (record {
      kind = tt;
      step = λ clean inside text s lawful held tables. lodged-carried setup text s station slip counts r (Err c.in-Err.refusal) _ seen (ensured.lodged clean inside text s lawful tables);
      known = λ clean inside text s t lawful held tables answered.
          lodged-known setup s t station slip counts r (Err c.in-Err.refusal) before after ensured.limits (ensured.lodged clean inside text s lawful tables).answered seen ensured.known held answered;
      forgets = forgets-lodged setup station r before after ensured.known;
      unwritten = λ clean at acts. ensured.unwritten clean at (ap (λ q. is_act (as_answer q)) c.in-Err.is);
      answered_open = ensured.answered_open;
    })

pub returns-in-ShowProgress-clause-answers : goal.returns-in-ShowProgress-clause-answers
returns-in-ShowProgress-clause-answers g c =
    subst (λ a. AnswersIn g.S.Store c.args.setup.now a c.args.known.now c.show_progress.new.known c.args.tx.now c.show_progress.new.tx c.show_progress.result) (sym c.in-ShowProgress.is) c.show_progress.ensures.answers
