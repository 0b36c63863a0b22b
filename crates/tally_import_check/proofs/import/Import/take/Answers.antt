use Rattle.std.proofs.Common.{◌≡◌, ◌≤◌, ◌+◌, ◌++◌, ◌∷◌, [], None, ◌∙◌, sym, ap, subst, refl, length, arith}
use Rattle.std.specs.FinMap.{empty}
use Rattle.std.proofs.lemmas.List.{append-nil}
use Rattle.tally_returns_rows.specs.Import.{IsBelow, row_answer, after_row, returns_after_import, count_of, lodged_counts}
use Rattle.tally_returns_rows.specs.NamedRows.{named_row}
use Rattle.tally_returns_rows.specs.declared.import.Row.TheVariants.{Lodge, Bad}
use Rattle.tally_returns_rows.proofs.ImportLemmas.{count_of-below, push_is}
use Rattle.tally_import_check.specs.Check.{every_code}
use Rattle.tally_import_check.specs.internal.Progress.{HasTaken, taken_answers, stations}
use Rattle.tally_import.specs.internal.Table.{Holds}
use Rattle.tally_import_check.specs.internal.Totals.{AreTotals}
use Rattle.tally_import_check.proofs.ProgressLemmas.{HasTaken-push, lodged-few, length-answered}
use Rattle.tally_import_check.proofs.import.Import.take.Goals as goal

pub lodge_row-requires : goal.lodge_row-requires
lodge_row-requires c =
    let taken = c.requires.so_far.0 in
    let h = c.requires.so_far.1 in
    let lodged : length (lodged_counts taken.rows (taken_answers taken)) ≤ length taken.rows = lodged-few taken in
    let lists : c.args.self.now.lists ≡ taken.lists = h.lists in
    record {
      lists = subst (λ n. n ≤ 60) (sym lists) h.few;
      totals = (
        lodged_counts taken.rows (taken_answers taken),
        subst (λ n. AreTotals n (lodged_counts taken.rows (taken_answers taken)) c.args.self.now.totals) (sym lists) h.totals,
        omega (arith, lodged, c.requires.so_far.2, c.requires.few),
      );
    }

pub add_row-requires : goal.add_row-requires
add_row-requires c =
    let taken = c.requires.so_far.0 in
    let at : c.args.number ≡ length (taken_answers taken) + 1 = c.requires.so_far.2 ∙ ap (λ n. n + 1) (sym (length-answered taken)) in
    record {
      below = subst (λ count. IsBelow count c.args.number) (sym (c.in_ok-answer-in-Lodge.ensures.count ∙ c.requires.so_far.1.count))
          (count_of-below (taken_answers taken) c.args.number at);
    }

pub returns-in_ok-answer-in-Lodge : goal.returns-in_ok-answer-in-Lodge
returns-in_ok-answer-in-Lodge c taken h next =
    let lodged = c.in_ok-answer-in-Lodge.ensures in
    let s = returns_after_import (stations taken) empty taken.rows in
    let ask = c.in-Lodge.ask in
    let same : every_code c.args.self.now.lists ≡ stations taken = ap every_code h.lists in
    let answer = subst (λ st. row_answer st s (Lodge ask) ≡ c.in_ok-answer-in-Lodge.answer) same (lodged.answer s h.table) in
    let held = subst (λ st. Holds c.lodge_row.new.self.returns (after_row st s (Lodge ask))) same (lodged.table s h.table) in
    let before = lodged_counts taken.rows (taken_answers taken) in
    let totals = subst (λ n. AreTotals n (before ++ lodged_counts (Lodge ask ∷ []) (c.in_ok-answer-in-Lodge.answer ∷ [])) c.lodge_row.new.self.totals) h.lists
    (lodged.totals before (subst (λ n. AreTotals n before c.args.self.now.totals) (sym h.lists) h.totals)) in
    let new = record c.lodge_row.new.self { count = c.add_row.new.self } in
    let counted = push_is c.lodge_row.new.self.count c.add_row.new.self (taken_answers taken) c.in_ok-answer-in-Lodge.answer c.args.number (lodged.count ∙ h.count) (next ∙ ap (λ n. n + 1) (sym (length-answered taken))) c.add_row.ensures in
    let old = c.args.self.now.named.items in
    subst (λ r. HasTaken (record taken { rows = taken.rows ++ r ∷ [] }) new) (sym c.in-Lodge.is)
    (HasTaken-push taken c.args.self.now new (Lodge ask) h lodged.lists held
    (counted ∙ ap (λ a. count_of (taken_answers taken ++ a ∷ [])) (sym answer))
    (subst (λ a. AreTotals taken.lists (before ++ lodged_counts (Lodge ask ∷ []) (a ∷ [])) c.lodge_row.new.self.totals) (sym answer) totals)
    (lodged.named ∙ ap (λ n. old ++ named_row n (Lodge ask) c.in_ok-answer-in-Lodge.answer) next ∙ ap (λ a. old ++ named_row (length taken.rows + 1) (Lodge ask) a) (sym answer)))

pub add_row-requires-in-Bad : goal.add_row-requires-in-Bad
add_row-requires-in-Bad c =
    let taken = c.requires.so_far.0 in
    let at : c.args.number ≡ length (taken_answers taken) + 1 = c.requires.so_far.2 ∙ ap (λ n. n + 1) (sym (length-answered taken)) in
    record {
      below = subst (λ count. IsBelow count c.args.number) (sym c.requires.so_far.1.count) (count_of-below (taken_answers taken) c.args.number at);
    }

pub returns-in_ok-name_bad-in-Bad : goal.returns-in_ok-name_bad-in-Bad
returns-in_ok-name_bad-in-Bad c taken h next =
    let why = c.in-Bad.why in
    let new = record c.args.self.now { count = c.add_row-in-Bad.new.self; named = c.name_bad.new.named } in
    subst (λ r. HasTaken (record taken { rows = taken.rows ++ r ∷ [] }) new) (sym c.in-Bad.is)
    (HasTaken-push taken c.args.self.now new (Bad why) h refl h.table
    (push_is c.args.self.now.count c.add_row-in-Bad.new.self (taken_answers taken) None c.args.number h.count (next ∙ ap (λ n. n + 1) (sym (length-answered taken))) c.add_row-in-Bad.ensures)
    (rw append-nil h.totals)
    (c.in_ok-name_bad-in-Bad.ensures.named ∙ ap (λ n. c.args.self.now.named.items ++ named_row n (Bad why) None) next))
