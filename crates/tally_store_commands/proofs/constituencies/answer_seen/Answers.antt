use Rattle.std.proofs.Common.{◌∙◌, rules, subst, sym, true≢false}
use Rattle.sqlite.proofs.StateLemmas.{unchanged}
use Rattle.sqlite.specs.Held.{state}
use Rattle.tally_machine_law.specs.Step.{IsConDecision}
use Rattle.tally_store_commands.specs.internal.Seen.{shows_con}
use Rattle.tally_store_commands.proofs.RecordLemmas.{whole-view}
use Rattle.tally_store_commands.proofs.AnswerLemmas.{changed-carried, refused-carried, shown-carried}
use Rattle.tally_store_commands.proofs.constituencies.answer_seen.Goals as goal

pub returns-in-Err-clause-answers : goal.returns-in-Err-clause-answers
returns-in-Err-clause-answers g c =
    let old = state g.S.Store c.args.tx.now.conn.now in
    record {
      kind = tt;
      step = λ clean inside text s lawful seen tables.
          refused-carried c.args.setup.now text s c.args.con.now c.args.view c.args.ask.now c.in-Err.refusal old c.requires.limits lawful c.requires.found c.requires.named seen c.in-Err.ensures.refused (record { inside = inside; tables = tables });
      unwritten = λ clean at acts. unchanged old at.1;
    }

pub returns-in-Same-clause-answers : goal.returns-in-Same-clause-answers
returns-in-Same-clause-answers g c =
    let con = c.args.con.now in
    let ask = c.args.ask.now in
    let old = state g.S.Store c.args.tx.now.conn.now in
    record {
      kind = search rules;
      step = λ clean inside text s lawful seen tables.
          shown-carried c.args.setup.now text s con c.args.view ask old c.requires.found c.requires.named seen
          (subst (IsConDecision con c.args.view ask) c.in-Same.is c.in-Ok.ensures.decided) (record { inside = inside; tables = tables });
      unwritten = λ clean at acts. unchanged old at.1;
    }

pub returns-in_ok-carry_out-in_default : goal.returns-in_ok-carry_out-in_default
returns-in_ok-carry_out-in_default g c =
    let ensured = c.in_ok-carry_out-in_default.ensures in
    let by = c.in-Ok.ensures.decided in
    record {
      stays = ensured.stays;
      answers = record {
        kind = ensured.kind;
        step = λ clean inside text s lawful seen tables.
            let all = whole-view (shows_con c.args.ask.now) c.args.con.now s c.args.view seen in
            changed-carried c.args.setup.now text s c.args.con.now c.args.view c.args.ask.now by.0 c.in_ok-carry_out-in_default.field-0 (state g.S.Store c.carry_out.new.tx.conn.now) c.requires.found c.requires.named all by.2
            (ensured.carried_out clean inside text s by.0 by.1 lawful all tables);
        unwritten = λ clean at acts. absurd (true≢false (sym ensured.acts ∙ acts));
      };
    }
