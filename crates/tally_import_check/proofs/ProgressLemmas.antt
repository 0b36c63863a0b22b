-- The table of an import, and the rows that it has taken.
use Rattle.std.proofs.Common.{◌≡◌, ◌≤◌, ◌+◌, ◌++◌, ◌∷◌, ◌∙◌, ℕ, List, [], Option, Result, length, sym, ap, subst, arith}
use Rattle.std.specs.Prelude.{nat_eq}
use Rattle.std.specs.Cmp.Lexicographic.{pointwise}
use Rattle.std.specs.FinMap as map
use Rattle.std.specs.HashMap as table
use Rattle.tally_returns.specs.Return.{StationReturn, Returns}
use Rattle.tally_returns.specs.Counts.{VoteCounts}
use Rattle.tally_setup.specs.declared.constituency.Entry.TheVariants.{Single}
use Rattle.tally_returns.specs.Lodge.{limits_for, lodge_answer, reply_at_station}
use Rattle.tally_returns_rows.specs.Import.{row_answer, after_row, returns_after_import, count_of, lodged_counts}
use Rattle.tally_returns_rows.specs.NamedRows.{named_row, named_rows}
use Rattle.tally_returns_rows.specs.declared.import.Row.{Row}
use Rattle.tally_returns.specs.declared.refusal.Refusal.{Refusal}
use Rattle.tally_returns.specs.declared.reply.LodgeReply.{LodgeReply}
use Rattle.tally_returns_rows.proofs.RowsLemmas.{imported-push, answers-push, length-answers, lodged_counts-push, length-lodged_counts, named_rows-push}
use Rattle.tally_import_check.specs.Check.{every_code}
use Rattle.tally_import_check.specs.internal.Totals.{AreTotals}
use Rattle.tally_import.specs.internal.Table.{Table, Holds}
use Rattle.tally_import_check.specs.internal.Progress.{Taken, HasTaken, stations, taken_answers}
use Rattle.tally_import_check.specs.declared.import.Import.{Import}

-- what is answered at every code, by what the table holds
pub answer-held : (lists : ℕ) (held : Table) (s : Returns) (station slip : List ℕ) (counts : VoteCounts) (found : Option StationReturn) (result : Result LodgeReply Refusal)
    → Holds held s → found ≡ table.get (pointwise nat_eq) held station
    → result ≡ reply_at_station (limits_for lists 1000000 Single) found slip counts
    → lodge_answer (every_code lists) s station slip counts ≡ result
answer-held lists held s station slip counts found result holds is decided =
    sym (decided ∙ ap (λ f. reply_at_station (limits_for lists 1000000 Single) f slip counts) (is ∙ holds station))

-- one row more
pub HasTaken-push : (taken : Taken) (old new : Import) (r : Row)
    → HasTaken taken old → new.lists ≡ old.lists
    → Holds new.returns (after_row (stations taken) (returns_after_import (stations taken) map.empty taken.rows) r)
    → new.count ≡ count_of (taken_answers taken ++ row_answer (stations taken) (returns_after_import (stations taken) map.empty taken.rows) r ∷ [])
    → AreTotals taken.lists (lodged_counts taken.rows (taken_answers taken)
    ++ lodged_counts (r ∷ []) (row_answer (stations taken) (returns_after_import (stations taken) map.empty taken.rows) r ∷ [])) new.totals
    → new.named.items ≡ old.named.items ++ named_row (length taken.rows + 1) r (row_answer (stations taken) (returns_after_import (stations taken) map.empty taken.rows) r)
    → HasTaken (record taken { rows = taken.rows ++ r ∷ [] }) new
HasTaken-push taken old new r h lists held count totals named =
    let s = stations taken in
    let answer = row_answer s (returns_after_import s map.empty taken.rows) r in
    let answers = answers-push s map.empty taken.rows r in
    record {
      few = h.few;
      lists = lists ∙ h.lists;
      table = subst (Holds new.returns) (sym (imported-push s map.empty taken.rows r)) held;
      count = count ∙ ap count_of (sym answers);
      totals = subst (λ l. AreTotals taken.lists l new.totals)
          (sym (ap (lodged_counts (taken.rows ++ r ∷ [])) answers
          ∙ lodged_counts-push taken.rows (taken_answers taken) r _ (length-answers s map.empty taken.rows))) totals;
      named = named
          ∙ ap (λ l. l ++ named_row (length taken.rows + 1) r answer) h.named
          ∙ ap (λ n. named_rows 1 taken.rows (taken_answers taken) ++ named_row n r answer) (omega arith)
          ∙ sym (ap (named_rows 1 (taken.rows ++ r ∷ [])) answers ∙ named_rows-push 1 taken.rows (taken_answers taken) r answer (length-answers s map.empty taken.rows));
    }

-- fewer returns were lodged than rows taken
pub lodged-few : (taken : Taken) → length (lodged_counts taken.rows (taken_answers taken)) ≤ length taken.rows
lodged-few taken = length-lodged_counts taken.rows (taken_answers taken)

pub length-answered : (taken : Taken) → length (taken_answers taken) ≡ length taken.rows
length-answered taken = length-answers (stations taken) map.empty taken.rows
