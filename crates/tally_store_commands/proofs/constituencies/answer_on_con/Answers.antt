use Rattle.std.proofs.Common.{◌≡◌, ◌∙◌, IsTrue, Some, ap, subst, sym}
use Rattle.std.specs.FinMap.{get}
use Rattle.std.specs.Option.{option_copied}
use Rattle.sqlite.specs.State.{HasCleanDisk}
use Rattle.sqlite.specs.Held.{state}
use Rattle.tally_setup.specs.Constituency.{Constituency}
use Rattle.tally_setup.specs.Setup.{constituency_with}
use Rattle.tally_returns.specs.Return.{Returns}
use Rattle.tally_returns.proofs.ClosedLemmas.{constituency_with-code, constituency_with-own}
use Rattle.tally_store_commands.proofs.AnswerLemmas.{answers-failed, on-answer, seen-carries, seen-known, still-state, still-unchanged, unknown-carried}
use Rattle.tally_store_commands.specs.internal.Known.{AreKnown, known_of}
use Rattle.tally_store_commands.proofs.KnownLemmas.{con-returns, forgets-answered, forgets-remembered}
use Rattle.tally_store_commands.proofs.UnwrittenLemmas.{unwritten-then}
use Rattle.tally_store_schema.specs.Office.{IsInside}
use Rattle.tally_store_schema.proofs.StaysLemmas.{clean_first, stays-then}
use Rattle.tally_store_commands.proofs.constituencies.answer_on_con.Goals as goal

pub returns-in_default-clause-answers : goal.returns-in_default-clause-answers
returns-in_default-clause-answers g c =
    let setup = c.args.setup.now in
    let old = state g.S.Store c.args.tx.now.conn.now in
    let new = state g.S.Store c.see_open.new.tx.conn.now in
    let opened = c.in_ok-see_open.ensures.reads in
    record {
      kind = tt;
      step = λ clean inside text s lawful held tables.
          unknown-carried setup text s c.args.code c.args.ask.now new c.requires.named (sym c.con.ensures.found ∙ ap option_copied c.in_default.is) (still-state setup text s old new (still-unchanged old new (opened.same clean inside) inside) tables);
      known = λ clean inside text s t lawful held tables answered.
          subst (λ (m : Returns). AreKnown setup m (known_of c.args.known.now)) (sym (con-returns setup s t c.args.ask.now c.args.code _ c.requires.named answered)) held;
      forgets = λ code had. had;
      unwritten = λ clean at acts. opened.same clean at.0;
      answered_open = opened.answered_open;
    }

pub returns-in_err-see_open-clause-answers : goal.returns-in_err-see_open-clause-answers
returns-in_err-see_open-clause-answers g c = answers-failed _ c.from_residual.ensures.0

pub returns-in_err-view-clause-answers : goal.returns-in_err-view-clause-answers
returns-in_err-view-clause-answers g c = answers-failed _ c.from_residual-in_err-view.ensures.0

pub returns-in_err-remember-clause-answers : goal.returns-in_err-remember-clause-answers
returns-in_err-remember-clause-answers g c = answers-failed _ c.from_residual-in_err-remember.ensures.0

pub answer_seen-requires-clause-found : goal.answer_seen-requires-clause-found
answer_seen-requires-clause-found g c =
    constituency_with-own c.args.setup.now c.args.code c.in-Some.con.now (sym c.con.ensures.found ∙ ap option_copied c.in-Some.is)

pub answer_seen-requires-clause-named : goal.answer_seen-requires-clause-named
answer_seen-requires-clause-named g c =
    c.requires.named ∙ ap Some (sym (constituency_with-code c.args.setup.now c.args.code c.in-Some.con.now (sym c.con.ensures.found ∙ ap option_copied c.in-Some.is)))

pub returns-clause-answers : goal.returns-clause-answers
returns-clause-answers g c =
    let setup = c.args.setup.now in
    let ask = c.args.ask.now in
    let con = c.in-Some.con.now in
    let code = c.con-2.inside.code in
    let before = known_of c.args.known.now in
    let after = known_of c.remember.new.known in
    let own : code ≡ con.code = ap (λ (x : Constituency). x.code) c.con-2.view_is in
    let old = state g.S.Store c.args.tx.now.conn.now in
    let mid = state g.S.Store c.find_view.new.tx.conn.now in
    let new = state g.S.Store c.answer_seen.new.tx.conn.now in
    let earlier : (HasCleanDisk new → HasCleanDisk mid) = clean_first c.answer_seen.ensures.stays.survives in
    let found : constituency_with c.args.code setup ≡ Some con = sym c.con.ensures.found ∙ ap option_copied c.in-Some.is in
    let here = constituency_with-own setup c.args.code con found in
    let known_here = c.known_at.ensures ∙ ap (get before) own in
    record {
      kind = c.answer_seen.ensures.answers.kind;
      step = λ clean inside.
          let early = earlier clean in
          seen-carries setup con before c.known_at.result c.shows_con.result c.in_ok-view.view ask old mid new c.answer_seen.result c.shows_con.ensures clean (still-unchanged old mid (c.in_ok-view.ensures.reads.same early inside) inside) here known_here
          (c.in_ok-view.ensures.found early inside) c.answer_seen.ensures.answers.step;
      known = λ clean inside.
          let named = c.requires.named ∙ ap Some (sym (constituency_with-code setup c.args.code con found)) in
          seen-known setup con before after c.known_at.result code c.statuses_of.result c.shows_con.result c.in_ok-view.view ask old c.answer_seen.result here named known_here (c.in_ok-view.ensures.found (earlier clean) inside) own c.statuses_of.ensures
          c.in_ok-remember.ensures;
      forgets = forgets-answered c.answer_seen.result before after (forgets-remembered before after code c.statuses_of.result c.in_ok-remember.ensures);
      unwritten = unwritten-then old mid new c.answer_seen.result earlier (λ early inside. c.in_ok-view.ensures.reads.same early inside) c.answer_seen.ensures.answers.unwritten;
      answered_open = λ clean. on-answer {P = IsTrue old.is_open} c.answer_seen.result (c.in_ok-view.ensures.reads.answered_open (earlier clean));
    }

pub returns-clause-stays : goal.returns-clause-stays
returns-clause-stays g c =
    let old = state g.S.Store c.args.tx.now.conn.now in
    let mid = state g.S.Store c.find_view.new.tx.conn.now in
    stays-then IsInside IsInside g.S.Store c.args.tx.now c.find_view.new.tx c.answer_seen.new.tx
    (λ early inside. (still-unchanged old mid (c.in_ok-view.ensures.reads.same early inside) inside).inside)
    c.find_view.ensures.reads.stays c.answer_seen.ensures.stays
