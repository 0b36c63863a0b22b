use Rattle.std.proofs.Common.{◌≡◌, ◌∙◌, ◌++◌, ◌∷◌, [], sym, ap, subst, true, Ok}
use Rattle.std.specs.FinMap.{insert}
use Rattle.std.specs.Option.{option_copied}
use Rattle.tally_setup.specs.declared.constituency.Entry.TheVariants.{Single}
use Rattle.tally_returns.specs.Counts.{are_counts}
use Rattle.tally_returns.specs.Lodge.{limits_for}
use Rattle.tally_returns.proofs.CountsLemmas.{are_counts-lodged, length-counts}
use Rattle.tally_returns.specs.declared.reply.LodgeReply.TheVariants.{Lodged}
use Rattle.tally_import_check.specs.Check.{every_code}
use Rattle.tally_import.specs.internal.Table.{Holds}
use Rattle.tally_import_check.specs.internal.Progress.{lodged_of}
use Rattle.tally_import_check.specs.internal.Totals.{AreTotals, AreTotalsOfFew}
use Rattle.tally_import.proofs.TableLemmas.{Holds-insert, lodge-lodged}
use Rattle.tally_import_check.proofs.ProgressLemmas.{answer-held}
use Rattle.tally_import_check.proofs.import.Import.lodge.Goals as goal

pub add_return-requires : goal.add_return-requires
add_return-requires c =
    let lists = c.args.self.now.lists in
    let counts = c.args.counts in
    let way = c.in-Ok-Lodged in
    let lodged : c.decide_lodge-answer.result ≡ Ok (Lodged way.field-0-0) = way.is ∙ ap Ok (rw way.is at way.field-0-is) in
    let good = are_counts-lodged (limits_for lists 1000000 Single) (option_copied c.get-found.result) c.args.slip counts way.field-0-0 (sym c.decide_lodge-answer.ensures ∙ lodged) in
    let same = sym (length-counts lists counts good) in
    record {
      totals = subst (λ n. AreTotalsOfFew n c.args.self.now.totals) same c.requires.totals;
      counts = subst (λ n. are_counts n counts ≡ true) same good;
    }

pub returns-clause-answer : goal.returns-clause-answer
returns-clause-answer c s holds =
    let old = c.args.self.now in
    sym (answer-held old.lists old.returns s c.args.station c.args.slip c.args.counts _ c.decide_lodge-answer.result holds c.get-found.ensures.value c.decide_lodge-answer.ensures)

pub returns-clause-table : goal.returns-clause-table
returns-clause-table c s holds =
    let old = c.args.self.now in
    let new = c.insert.new.self in
    let station = c.args.station in
    let answer = answer-held old.lists old.returns s station c.args.slip c.args.counts _ c.decide_lodge-answer.result
    holds c.get-found.ensures.value c.decide_lodge-answer.ensures in
    let way = c.in-Ok-Lodged in
    let lodged : c.decide_lodge-answer.result ≡ Ok (Lodged way.field-0-0) = way.is ∙ ap Ok (rw way.is at way.field-0-is) in
    let is = lodge-lodged (every_code old.lists) s station c.args.slip c.args.counts way.field-0-0 (answer ∙ lodged) in
    let held = Holds-insert old.returns new s station c.lodged-lodged.result holds c.in_ok-insert.ensures.updates in
    subst (Holds new) (sym is) (subst (λ r. Holds new (insert s station r)) c.lodged-lodged.ensures held)

pub returns-clause-totals : goal.returns-clause-totals
returns-clause-totals c before totals =
    let lists = c.args.self.now.lists in
    let counts = c.args.counts in
    let way = c.in-Ok-Lodged in
    let lodged : c.decide_lodge-answer.result ≡ Ok (Lodged way.field-0-0) = way.is ∙ ap Ok (rw way.is at way.field-0-is) in
    let good = are_counts-lodged (limits_for lists 1000000 Single) (option_copied c.get-found.result) c.args.slip counts way.field-0-0 (sym c.decide_lodge-answer.ensures ∙ lodged) in
    subst (λ answer. AreTotals lists (before ++ lodged_of counts answer) c.add_return.new.totals) (sym lodged)
    (subst (λ n. AreTotals n (before ++ counts ∷ []) c.add_return.new.totals) (length-counts lists counts good) (c.add_return.ensures before (subst (λ n. AreTotals n before c.args.self.now.totals) (sym (length-counts lists counts good)) totals)))
