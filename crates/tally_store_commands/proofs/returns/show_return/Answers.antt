use Rattle.std.proofs.Common.{◌∙◌, Ok, Err, rules, sym}
use Rattle.sqlite.specs.Held.{state}
use Rattle.tally_returns.specs.declared.refusal.Refusal.TheVariants.{NoReturn, NoStation}
use Rattle.tally_returns.specs.declared.reply.Reply.TheVariants.{Return}
use Rattle.tally_store_commands.proofs.AnswerLemmas.{so-failed}
use Rattle.tally_store_commands.proofs.LodgedLemmas.{found-is, mapped-none, mapped-some, shown-carried, shown-none, shown-nowhere, shown-some, still}
use Rattle.tally_store_commands.proofs.returns.show_return.Goals as goal

pub returns-in_err-see_open-clause-answers : goal.returns-in_err-see_open-clause-answers
returns-in_err-see_open-clause-answers g c = so-failed _ c.from_residual.ensures.0 (λ _ _ _. tt)

pub returns-in_err-standing-clause-answers : goal.returns-in_err-standing-clause-answers
returns-in_err-standing-clause-answers g c = so-failed _ c.from_residual-in_err-standing.ensures.0 (λ _ _ _. tt)

pub returns-then-is_none-clause-answers : goal.returns-then-is_none-clause-answers
returns-then-is_none-clause-answers g c =
    let setup = c.args.setup.now in
    let station = c.args.station in
    let old = state g.S.Store c.args.tx.now.conn.now in
    let new = state g.S.Store c.see_open.new.tx.conn.now in
    let opened = c.in_ok-see_open.ensures.reads in
    let none = mapped-none (λ place. (place.0.now, place.1.now)) c.station.result _ c.is_none.result c.station.ensures.found c.is_none.ensures c.if-is_none.true in
    record {
      kind = tt;
      step = λ clean inside text s lawful tables. shown-carried setup text s station (Err NoStation) new (shown-nowhere setup s station none) (still setup text s old new (opened.same clean inside) inside tables);
      unwritten = λ clean at acts. opened.same clean at.0;
    }

pub returns-in_default-clause-answers : goal.returns-in_default-clause-answers
returns-in_default-clause-answers g c =
    let setup = c.args.setup.now in
    let station = c.args.station in
    let old = state g.S.Store c.args.tx.now.conn.now in
    let new = state g.S.Store c.find_return.new.tx.conn.now in
    let ensured = c.in_ok-standing.ensures in
    let place = mapped-some (λ place. (place.0.now, place.1.now)) c.station.result _ c.is_none.result c.station.ensures.found c.is_none.ensures c.if-is_none.false in
    record {
      kind = tt;
      step = λ clean inside text s lawful tables.
          let found = found-is setup text s station old c.in_ok-standing.field-0 c.station.ensures.limits lawful tables (ensured.found clean inside) in
          shown-carried setup text s station (Err NoReturn) new (shown-none setup s station place.0 place.1 (sym c.in_default.is ∙ found)) (still setup text s old new (ensured.reads.same clean inside) inside tables);
      unwritten = λ clean at acts. ensured.reads.same clean at.0;
    }

pub returns-clause-answers : goal.returns-clause-answers
returns-clause-answers g c =
    let setup = c.args.setup.now in
    let station = c.args.station in
    let old = state g.S.Store c.args.tx.now.conn.now in
    let new = state g.S.Store c.find_return.new.tx.conn.now in
    let ensured = c.in_ok-standing.ensures in
    let place = mapped-some (λ place. (place.0.now, place.1.now)) c.station.result _ c.is_none.result c.station.ensures.found c.is_none.ensures c.if-is_none.false in
    record {
      kind = search rules;
      step = λ clean inside text s lawful tables.
          let found = found-is setup text s station old c.in_ok-standing.field-0 c.station.ensures.limits lawful tables (ensured.found clean inside) in
          shown-carried setup text s station (Ok (Return c.in-Some.standing)) new (shown-some setup s station place.0 c.in-Some.standing place.1 (sym c.in-Some.is ∙ found)) (still setup text s old new (ensured.reads.same clean inside) inside tables);
      unwritten = λ clean at acts. ensured.reads.same clean at.0;
    }
