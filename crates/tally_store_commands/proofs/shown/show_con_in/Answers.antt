use Rattle.std.proofs.Common.{◌≡◌, ◌∙◌, Some, Ok, ap, subst, sym}
use Rattle.std.specs.FinMap.{get}
use Rattle.std.specs.Option.{option_copied}
use Rattle.sqlite.specs.Held.{state}
use Rattle.tally_setup.specs.Constituency.{Constituency}
use Rattle.tally_setup.specs.Setup.{constituency_with}
use Rattle.tally_returns.specs.View.{View}
use Rattle.tally_store_commands.specs.internal.Known.{known_of}
use Rattle.tally_store_commands.specs.internal.Shown.{FindsShown}
use Rattle.tally_store_entries.proofs.LookLemmas.{look_as, look_fails}
use Rattle.tally_store_commands.proofs.KnownLemmas.{forgets-remembered}
use Rattle.tally_store_commands.proofs.ShownLemmas.{unknown-shown, view-known, view-shown}
use Rattle.tally_store_commands.proofs.shown.show_con_in.Goals as goal

pub returns-in_default-clause-shown : goal.returns-in_default-clause-shown
returns-in_default-clause-shown g c clean inside text s lawful held tables =
    unknown-shown c.args.setup.now s c.args.code (sym c.con.ensures.found ∙ ap option_copied c.in_default.is)

pub returns-in_default-clause-known : goal.returns-in_default-clause-known
returns-in_default-clause-known g c clean inside text s lawful held tables = held

pub returns-clause-shown : goal.returns-clause-shown
returns-clause-shown g c clean inside =
    let setup = c.args.setup.now in
    let con = c.in-Some.con.now in
    let known = known_of c.args.known.now in
    let own : c.con-2.inside.code ≡ con.code = ap (λ (x : Constituency). x.code) c.con-2.view_is in
    let old = state g.S.Store c.args.tx.now.conn.now in
    let found : constituency_with c.args.code setup ≡ Some con = sym c.con.ensures.found ∙ ap option_copied c.in-Some.is in
    subst (λ (v : View). FindsShown setup known c.args.code old (Ok v)) (sym c.without_past.ensures)
    (view-shown setup con c.args.code known c.known_at.result c.in_ok-view.view old found (c.known_at.ensures ∙ ap (get known) own) (c.in_ok-view.ensures.found clean inside))

pub returns-clause-known : goal.returns-clause-known
returns-clause-known g c clean inside =
    let setup = c.args.setup.now in
    let con = c.in-Some.con.now in
    let known = known_of c.args.known.now in
    let own : c.con-2.inside.code ≡ con.code = ap (λ (x : Constituency). x.code) c.con-2.view_is in
    let old = state g.S.Store c.args.tx.now.conn.now in
    let found : constituency_with c.args.code setup ≡ Some con = sym c.con.ensures.found ∙ ap option_copied c.in-Some.is in
    view-known setup con c.args.code c.con-2.inside.code known (known_of c.remember.new.known) c.known_at.result c.statuses_of.result c.in_ok-view.view old found (c.known_at.ensures ∙ ap (get known) own) (c.in_ok-view.ensures.found clean inside)
    own c.statuses_of.ensures c.in_ok-remember.ensures

pub returns-clause-forgets : goal.returns-clause-forgets
returns-clause-forgets g c =
    forgets-remembered (known_of c.args.known.now) (known_of c.remember.new.known) c.con-2.inside.code c.statuses_of.result c.in_ok-remember.ensures

pub returns-clause-reads : goal.returns-clause-reads
returns-clause-reads g c = look_as g.S.Store c.args.tx.now c.find_view.new.tx _ _ c.in_ok-view.ensures.reads

pub returns-in_default-clause-reads : goal.returns-in_default-clause-reads
returns-in_default-clause-reads g c = look_as g.S.Store c.args.tx.now c.see_open.new.tx _ _ c.in_ok-see_open.ensures.reads

pub returns-in_err-see_open-clause-reads : goal.returns-in_err-see_open-clause-reads
returns-in_err-see_open-clause-reads g c = look_fails g.S.Store c.args.tx.now c.see_open.new.tx _ c.from_residual.ensures.0 c.see_open.ensures.reads.stays

pub returns-in_err-view-clause-reads : goal.returns-in_err-view-clause-reads
returns-in_err-view-clause-reads g c = look_fails g.S.Store c.args.tx.now c.find_view.new.tx _ c.from_residual-in_err-view.ensures.0 c.find_view.ensures.reads.stays

pub returns-in_err-remember-clause-reads : goal.returns-in_err-remember-clause-reads
returns-in_err-remember-clause-reads g c = look_fails g.S.Store c.args.tx.now c.find_view.new.tx _ c.from_residual-in_err-remember.ensures.0 c.find_view.ensures.reads.stays
