use Rattle.std.proofs.Common.{◌≡◌, ◌∙◌, Ok, ap, sym}
use Rattle.sqlite.specs.State.{HasCleanDisk}
use Rattle.sqlite.specs.Held.{state}
use Rattle.tally_setup.specs.Constituency.{Constituency}
use Rattle.tally_returns.specs.declared.refusal.Refusal.TheVariants.{NoStation}
use Rattle.tally_store_commands.specs.internal.Known.{known_of}
use Rattle.tally_store_commands.specs.internal.Counting.{after_command}
use Rattle.tally_store_schema.specs.Office.{IsInside}
use Rattle.tally_store_schema.proofs.StaysLemmas.{clean_first, stays-then}
use Rattle.tally_store_entries.proofs.FindLemmas.{inside_still}
use Rattle.tally_store_entries.proofs.LookLemmas.{look_then}
use Rattle.tally_store_commands.proofs.AnswerLemmas.{answers-failed, still-state, still-unchanged}
use Rattle.tally_store_commands.proofs.FoundLemmas.{few-lists, found-carries, move-nowhere}
use Rattle.tally_store_commands.proofs.KnownLemmas.{command-known, forgets-commanded, nowhere-known}
use Rattle.tally_store_commands.proofs.LodgedLemmas.{found-is}
use Rattle.tally_store_commands.proofs.UnwrittenLemmas.{unwritten-then}
use Rattle.tally_store_commands.proofs.returns.move_on.Goals as goal

pub returns-in_default-clause-answers : goal.returns-in_default-clause-answers
returns-in_default-clause-answers g c =
    let setup = c.args.setup.now in
    let ask = c.args.ask.now in
    let old = state g.S.Store c.args.tx.now.conn.now in
    let new = state g.S.Store c.see_open.new.tx.conn.now in
    let opened = c.in_ok-see_open.ensures.reads in
    record {
      kind = tt;
      step = λ clean inside text s lawful held tables. move-nowhere setup text s ask c.args.station new c.requires.named (sym c.in_default.ensures.found) (still-state setup text s old new (still-unchanged old new (opened.same clean inside) inside) tables);
      known = λ clean inside text s t lawful held tables answered. nowhere-known setup s t ask NoStation (known_of c.args.known.now) c.requires.moves held answered;
      forgets = λ code had. had;
      unwritten = λ clean at acts. opened.same clean at.0;
      answered_open = opened.answered_open;
    }

pub returns-in_err-see_open-clause-answers : goal.returns-in_err-see_open-clause-answers
returns-in_err-see_open-clause-answers g c = answers-failed _ c.from_residual.ensures.0

pub returns-in_err-certified-clause-answers : goal.returns-in_err-certified-clause-answers
returns-in_err-certified-clause-answers g c = answers-failed _ c.from_residual-in_err-certified.ensures.0

pub returns-in_err-found-clause-answers : goal.returns-in_err-found-clause-answers
returns-in_err-found-clause-answers g c = answers-failed _ c.from_residual-in_err-found.ensures.0

pub returns-in_err-answer-clause-answers : goal.returns-in_err-answer-clause-answers
returns-in_err-answer-clause-answers g c = answers-failed _ c.from_residual-in_err-answer.ensures.0

pub find_lawful-requires : goal.find_lawful-requires
find_lawful-requires g c = record { few = few-lists c.args.setup.now c.args.station c.in-Some.con.now c.in-Some.place.now c.in-Some.ensures.limits (sym c.in-Some.ensures.found) }

pub returns-in_err-found-clause-stays : goal.returns-in_err-found-clause-stays
returns-in_err-found-clause-stays g c =
    (look_then g.S.Store c.args.tx.now c.find_certified.new.tx c.find_lawful.new.tx c.in_ok-certified.certified c.find_lawful.result c.in_ok-certified.ensures.reads c.find_lawful.ensures.reads).stays

pub returns-in_err-answer-clause-stays : goal.returns-in_err-answer-clause-stays
returns-in_err-answer-clause-stays g c =
    let both = look_then g.S.Store c.args.tx.now c.find_certified.new.tx c.find_lawful.new.tx c.in_ok-certified.certified (Ok c.in_ok-found.found) c.in_ok-certified.ensures.reads c.in_ok-found.ensures.reads in
    stays-then IsInside IsInside g.S.Store c.args.tx.now c.find_lawful.new.tx c.move_found.new.tx (λ early inside. inside_still _ _ (both.same early inside) inside) both.stays c.move_found.ensures.stays

pub returns-clause-stays : goal.returns-clause-stays
returns-clause-stays g c =
    let both = look_then g.S.Store c.args.tx.now c.find_certified.new.tx c.find_lawful.new.tx c.in_ok-certified.certified (Ok c.in_ok-found.found) c.in_ok-certified.ensures.reads c.in_ok-found.ensures.reads in
    stays-then IsInside IsInside g.S.Store c.args.tx.now c.find_lawful.new.tx c.move_found.new.tx (λ early inside. inside_still _ _ (both.same early inside) inside) both.stays c.move_found.ensures.stays

pub returns-clause-answers : goal.returns-clause-answers
returns-clause-answers g c =
    let setup = c.args.setup.now in
    let ask = c.args.ask.now in
    let station = c.args.station in
    let con = c.in-Some.con.now in
    let code = c.con.inside.code in
    let place = c.in-Some.place.now in
    let limits = c.in-Some.ensures.limits in
    let found = c.in_ok-found.found in
    let status = c.status_found-before.result in
    let answer = c.in_ok-answer.answer in
    let known = known_of c.args.known.now in
    let after = known_of c.count_command.new.known in
    let own : code ≡ con.code = ap (λ (x : Constituency). x.code) c.con.view_is in
    let old = state g.S.Store c.args.tx.now.conn.now in
    let mid = state g.S.Store c.find_certified.new.tx.conn.now in
    let last = state g.S.Store c.find_lawful.new.tx.conn.now in
    let new = state g.S.Store c.move_found.new.tx.conn.now in
    let later : (HasCleanDisk new → HasCleanDisk last) = clean_first c.move_found.ensures.stays.survives in
    let earlier : (HasCleanDisk new → HasCleanDisk mid) = λ clean. clean_first c.find_lawful.ensures.reads.stays.survives (later clean) in
    let both = look_then g.S.Store c.args.tx.now c.find_certified.new.tx c.find_lawful.new.tx c.in_ok-certified.certified (Ok found) c.in_ok-certified.ensures.reads c.in_ok-found.ensures.reads in
    record {
      kind = c.in_ok-answer.ensures.answers.kind;
      step = λ clean inside text s lawful held tables.
          let one = still-unchanged old mid (c.in_ok-certified.ensures.reads.same (earlier clean) inside) inside in
          let two = still-unchanged mid last (c.in_ok-found.ensures.reads.same (later clean) one.inside) one.inside in
          found-carries setup con place station c.as_str.result.now c.in_ok-certified.certified found ask old mid last new (Ok answer) clean limits (sym c.in-Some.ensures.found) (c.as_str.ensures.text ∙ own) one two
          (c.in_ok-certified.ensures.found (earlier clean) inside) (c.in_ok-found.ensures.found (later clean) one.inside) c.in_ok-answer.ensures.answers.step text s lawful tables;
      known = λ clean inside text s t lawful held tables answered.
          let one = still-unchanged old mid (c.in_ok-certified.ensures.reads.same (earlier clean) inside) inside in
          let there = (still-state setup text s old mid one tables).tables in
          command-known setup s t ask station code con place found status answer known after limits c.requires.named c.requires.moves (sym c.in-Some.ensures.found) own
          (found-is setup text s station mid found limits lawful there (c.in_ok-found.ensures.found (later clean) one.inside)) c.status_found-before.ensures
          (c.count_command.ensures ∙ ap (λ b. after_command code ask status b known) c.is_ok.ensures.value) held answered;
      forgets = forgets-commanded code ask status c.is_ok.result known after c.count_command.ensures;
      unwritten = unwritten-then old last new (Ok answer) later both.same c.in_ok-answer.ensures.answers.unwritten;
      answered_open = λ clean. both.answered_open (later clean);
    }
