use Rattle.std.proofs.Common.{IsOk, refl, string_bytes, subst, sym, true, ◌∙◌}
use Rattle.tally_rules.specs.Reading.{setup_of_text}
use Rattle.tally_office_trouble.specs.SetupFile.{IsTextOf}
use Rattle.tally_office_commands.proofs.MakeLemmas.{no-memory, no-setup, unended, unmade, unread}
use Rattle.tally_office_commands.proofs.OtherLemmas.{of-making, of-memory, of-reading}
use Rattle.tally_office_commands.proofs.WrittenLemmas.{of_kind, not-begun}
use Rattle.tally_office_commands.proofs.make.make_at.Goals as goal

pub returns-in-Err-clause-written : goal.returns-in-Err-clause-written
returns-in-Err-clause-written g c = not-begun g.W.Write.contents _ c.args.output.now c.in-Err.trouble (of-reading _ c.in-Err.ensures.named)

pub returns-in-Err-judge_setup-clause-written : goal.returns-in-Err-judge_setup-clause-written
returns-in-Err-judge_setup-clause-written g c = not-begun g.W.Write.contents _ c.args.output.now c.in-Err-judge_setup.trouble (of-making _ c.in-Err-judge_setup.ensures.named)

pub returns-in-Err-line_room-clause-written : goal.returns-in-Err-line_room-clause-written
returns-in-Err-line_room-clause-written g c = not-begun g.W.Write.contents _ c.args.output.now c.in-Err-line_room.trouble (of-memory _ c.in-Err-line_room.ensures.trouble)

pub returns-in-Err-make_office-clause-written : goal.returns-in-Err-make_office-clause-written
returns-in-Err-make_office-clause-written g c = not-begun g.W.Write.contents _ c.args.output.now c.in-Err-make_office.trouble (of-making _ c.in-Err-make_office.ensures.named)

pub returns-clause-written : goal.returns-clause-written
returns-clause-written g c =
    of_kind g.W.Write.contents _ (g.O.Offices.Closes c.args.offices.now c.args.db.now c.in-Ok-make_office.office true) (string_bytes c.made_text-text.result)
    (λ closed. record {
      text = c.as_slice-2.result.now;
      made = c.in-Ok-make_office.office;
      gives = subst (IsTextOf (g.O.NamedFiles.Gives c.args.offices.now c.args.setup.now)) (sym c.as_slice-2.ensures.value) c.in-Ok.ensures.text;
      makes = c.in-Ok-make_office.ensures.makes;
      is = c.in-Ok-make_office.ensures.setup;
      says = c.made_text-text.ensures;
      closed = closed;
    })
    c.args.output.now c.close_and_print.new.output c.close_and_print.result c.close_and_print.ensures.closed (c.close_and_print.ensures.cut refl) c.close_and_print.ensures.text

pub returns-in-Err-clause-trouble : goal.returns-in-Err-clause-trouble
returns-in-Err-clause-trouble g c =
    unread (g.O.NamedFiles.Gives c.args.offices.now c.args.setup.now) c.in-Err.trouble c.in-Err.ensures.named c.in-Err.ensures.over_limit

pub returns-in-Err-judge_setup-clause-trouble : goal.returns-in-Err-judge_setup-clause-trouble
returns-in-Err-judge_setup-clause-trouble g c =
    let gives = g.O.NamedFiles.Gives c.args.offices.now c.args.setup.now in
    no-setup gives c.as_slice.result.now c.in-Err-judge_setup.trouble (subst (IsTextOf gives) (sym c.as_slice.ensures.value) c.in-Ok.ensures.text)
    c.in-Err-judge_setup.ensures.named c.in-Err-judge_setup.ensures.fault

pub returns-in-Err-line_room-clause-trouble : goal.returns-in-Err-line_room-clause-trouble
returns-in-Err-line_room-clause-trouble g c =
    no-memory (g.O.NamedFiles.Gives c.args.offices.now c.args.setup.now) c.in-Err-line_room.trouble c.in-Err-line_room.ensures.trouble

pub returns-in-Err-make_office-clause-trouble : goal.returns-in-Err-make_office-clause-trouble
returns-in-Err-make_office-clause-trouble g c =
    let gives = g.O.NamedFiles.Gives c.args.offices.now c.args.setup.now in
    unmade gives c.as_slice-2.result.now c.in-Err-make_office.trouble (subst (IsTextOf gives) (sym c.as_slice-2.ensures.value) c.in-Ok.ensures.text)
    (subst (λ text. IsOk (setup_of_text text)) (c.as_slice.ensures.value ∙ sym c.as_slice-2.ensures.value) c.in-Ok-judge_setup.ensures.setup)
    c.in-Err-make_office.ensures.named c.in-Err-make_office.ensures.trouble

pub returns-clause-trouble : goal.returns-clause-trouble
returns-clause-trouble g c =
    let gives = g.O.NamedFiles.Gives c.args.offices.now c.args.setup.now in
    unended gives c.as_slice-2.result.now c.close_and_print.result (subst (IsTextOf gives) (sym c.as_slice-2.ensures.value) c.in-Ok.ensures.text)
    (subst (λ text. IsOk (setup_of_text text)) (c.as_slice.ensures.value ∙ sym c.as_slice-2.ensures.value) c.in-Ok-judge_setup.ensures.setup)
    c.close_and_print.ensures.named
