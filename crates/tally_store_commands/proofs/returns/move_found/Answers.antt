use Rattle.std.proofs.Common.{◌≡◌, ◌∙◌, Ok, Err, Some, None, ap, sym, subst, true≢false}
use Rattle.std.specs.Option.{ForSome}
use Rattle.sqlite.proofs.StateLemmas.{unchanged}
use Rattle.sqlite.specs.Held.{state}
use Rattle.tally_returns.specs.Decide.{IsUnlessMemory, return_change_at, limits_of}
use Rattle.tally_returns.specs.Lawful.{IsLawful}
use Rattle.tally_returns.specs.Return.{StationReturn}
use Rattle.tally_returns.specs.declared.reply.Reply.TheVariants.{Moved}
use Rattle.tally_store_commands.specs.internal.Requests.{IsCarriedOut}
use Rattle.tally_store_commands.proofs.AnswerLemmas.{so-failed}
use Rattle.tally_store_commands.proofs.FoundLemmas.{few-lists, move-carried, move-refused, moved-kind, put-decided, put-only}
use Rattle.tally_store_commands.proofs.returns.move_found.Goals as goal

pub decide_at-requires : goal.decide_at-requires
decide_at-requires g c = record { lawful = subst (λ f. ForSome f (IsLawful (limits_of c.args.con.now c.args.place.now))) (sym c.as_ref.ensures.value) c.requires.lawful }

pub returns-in-Err-clause-answers : goal.returns-in-Err-clause-answers
returns-in-Err-clause-answers g c =
    let con = c.args.con.now in
    let place = c.args.place.now in
    let ask = c.args.ask.now in
    let old = state g.S.Store c.args.tx.now.conn.now in
    record {
      kind = tt;
      step = λ clean inside text s lawful flag found tables.
          move-refused c.args.setup.now text s ask c.args.station con place c.args.certified c.args.found c.in-Err.refusal old c.requires.named c.requires.moves
          (record { known = c.requires.known; certified_is = flag; found_is = found })
          (subst (λ f. IsUnlessMemory (Err c.in-Err.refusal) (return_change_at con place c.args.certified f ask)) c.as_ref.ensures.value c.in-Err.ensures.decided)
          (record { inside = inside; tables = tables });
      unwritten = λ clean at acts. unchanged old at.1;
    }

pub returns-in_err-put_moved-clause-answers : goal.returns-in_err-put_moved-clause-answers
returns-in_err-put_moved-clause-answers g c = so-failed _ c.from_residual.ensures.0 (λ _ _ _. tt)

pub unreachable-requires : goal.unreachable-requires
unreachable-requires g c =
    let con = c.args.con.now in
    let place = c.args.place.now in
    let decided = subst (λ f. return_change_at con place c.args.certified f c.args.ask.now ≡ Ok c.in-Ok.change) c.as_ref.ensures.value c.in-Ok.ensures.decided in
    let put = put-decided con place c.args.certified c.args.found c.args.ask.now c.in-Ok.change c.requires.moves decided in
    c.in_default.not-PutReturn put.standing put.change_is

pub unreachable-requires-in_default-found : goal.unreachable-requires-in_default-found
unreachable-requires-in_default-found g c =
    let con = c.args.con.now in
    let place = c.args.place.now in
    let decided = subst (λ f. return_change_at con place c.args.certified f c.args.ask.now ≡ Ok c.in-Ok.change) c.as_ref.ensures.value c.in-Ok.ensures.decided in
    let put = put-decided con place c.args.certified c.args.found c.args.ask.now c.in-Ok.change c.requires.moves decided in
    let e : None ≡ Some put.before = sym c.in_default-found.is ∙ put.found_is in cc

pub put_moved-requires-clause-few : goal.put_moved-requires-clause-few
put_moved-requires-clause-few g c = few-lists c.args.setup.now c.args.station c.args.con.now c.args.place.now c.requires.limits c.requires.known

pub put_moved-requires-clause-moves : goal.put_moved-requires-clause-moves
put_moved-requires-clause-moves g c =
    let con = c.args.con.now in
    let place = c.args.place.now in
    let decided = subst (λ f. return_change_at con place c.args.certified f c.args.ask.now ≡ Ok c.in-Ok.change) c.as_ref.ensures.value c.in-Ok.ensures.decided in
    let put = put-decided con place c.args.certified c.args.found c.args.ask.now c.in-Ok.change c.requires.moves decided in
    put-only con c.args.certified c.args.found c.args.ask.now c.in-Ok.change c.in-Some.before c.in-PutReturn.standing put c.in-Some.is c.in-PutReturn.is

pub returns-clause-answers : goal.returns-clause-answers
returns-clause-answers g c =
    let setup = c.args.setup.now in
    let con = c.args.con.now in
    let place = c.args.place.now in
    let ask = c.args.ask.now in
    let station = c.args.station in
    let certified = c.args.certified in
    let new = state g.S.Store c.put_moved.new.tx.conn.now in
    let standing = c.in-PutReturn.standing in
    let decided = subst (λ f. return_change_at con place certified f ask ≡ Ok c.in-Ok.change) c.as_ref.ensures.value c.in-Ok.ensures.decided in
    let put = put-decided con place certified c.args.found ask c.in-Ok.change c.requires.moves decided in
    record {
      kind = moved-kind setup ask c.standing.inside.rev c.requires.moves;
      step = λ clean inside text s lawful flag found tables.
          subst (λ (r : StationReturn). IsCarriedOut setup text s ask (Ok (Moved r.rev)) new) (sym c.standing.view_is)
          (move-carried setup text s ask station con place certified c.args.found standing new c.requires.named c.requires.moves (record { known = c.requires.known; certified_is = flag; found_is = found })
          (decided ∙ ap Ok c.in-PutReturn.is)
          (c.in_ok-put_moved.ensures.put clean inside setup place text s c.requires.limits c.requires.known lawful (sym flag ∙ put.is_open) (sym found ∙ c.in-Some.is) tables));
      unwritten = λ clean at acts. absurd (true≢false acts);
    }
