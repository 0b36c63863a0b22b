use Rattle.std.proofs.Common.{◌≡◌, ◌∙◌, Ok, sym, ap, subst}
use Rattle.std.specs.FinMap.{insert}
use Rattle.tally_returns.specs.declared.reply.LodgeReply.TheVariants.{Lodged}
use Rattle.tally_import.specs.ReturnRows.{station_limits_in}
use Rattle.tally_import.specs.internal.Table.{Holds}
use Rattle.tally_import.proofs.TableLemmas.{Holds-insert, lodge-lodged}
use Rattle.tally_import_recount.proofs.TakenLemmas.{answer-there}
use Rattle.tally_import_recount.proofs.register.Register.lodge.Goals as goal

pub returns-clause-table : goal.returns-clause-table
returns-clause-table c con s lists has holds =
    let old = c.args.self.now in
    let new = c.insert.new.self in
    let station = c.args.station in
    let answer = answer-there con old.entitled old.returns s old.lists c.in-Some.entitled.now station c.args.slip c.args.counts _ c.decide_lodge-answer.result lists has holds
    (sym c.in-Some.ensures.value) c.get-found.ensures.value c.decide_lodge-answer.ensures in
    let way = c.in-Ok-Lodged in
    let lodged : c.decide_lodge-answer.result ≡ Ok (Lodged way.field-0-0) = way.is ∙ ap Ok (rw way.is at way.field-0-is) in
    let is = lodge-lodged (station_limits_in con) s station c.args.slip c.args.counts way.field-0-0 (answer ∙ lodged) in
    let held = Holds-insert old.returns new s station c.lodged-lodged.result holds c.in_ok-insert.ensures.updates in
    subst (Holds new) (sym is) (subst (λ r. Holds new (insert s station r)) c.lodged-lodged.ensures held)
