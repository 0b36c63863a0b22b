use Rattle.std.proofs.Common.{◌≡◌, ◌∙◌, Ok, ap, subst}
use Rattle.sqlite.specs.Held.{state}
use Rattle.tally_setup.specs.Constituency.{Constituency}
use Rattle.tally_returns.specs.State.{con_state}
use Rattle.tally_returns.specs.View.{past_records}
use Rattle.tally_store_entries.specs.internal.Constituencies.{with_past_of}
use Rattle.tally_machine_law.specs.Step.{gone_for_good}
use Rattle.tally_store_commands.proofs.RecordLemmas.{decides-whole}
use Rattle.tally_store_commands.proofs.ChangeLemmas.{HasGoneMoved, gone_carried}
use Rattle.tally_store_commands.proofs.changes.set_gone.Goals as goal

pub returns-clause-carried_out : goal.returns-clause-carried_out
returns-clause-carried_out g c clean inside text s lawful seen tables =
    let whole_past = past_records (con_state s c.args.con.now.code).past in
    let old = state g.S.Store c.args.tx.now.conn.now in
    let new = state g.S.Store c.put_gone.new.tx.conn.now in
    let key : c.as_str.result.now ≡ c.args.con.now.code = c.as_str.ensures.text ∙ ap (λ (x : Constituency). x.code) c.con.view_is in
    gone_carried c.args.setup.now text s c.args.con.now (with_past_of c.args.con.now s c.args.view.now) c.args.ask.now c.args.gone.now c.args.next old new c.requires.found c.requires.named (decides-whole c.args.con.now c.args.view.now whole_past c.args.ask.now (Ok (gone_for_good c.args.gone.now c.args.next)) c.requires.decided) lawful seen tables
    (subst (λ k. HasGoneMoved k c.args.gone.now old new) key (c.in_ok-put_gone.ensures.written clean inside))
