use Rattle.std.proofs.Common.{◌≡◌, ◌∷◌, ◌++◌, ◌∙◌, ℕ, List, [], None, refl, sym, ap, subst}
use Rattle.std.specs.Prelude.{◌≢◌}
use Rattle.std.specs.FinMap.{empty}
use Rattle.std.proofs.lemmas.List.{append-nil}
use Rattle.tally_returns.specs.Counts.{VoteCounts}
use Rattle.tally_returns.specs.Return.{Returns}
use Rattle.tally_returns.specs.Lodge.{Stations}
use Rattle.tally_returns.specs.declared.ask.Ask.{Ask}
use Rattle.tally_returns.specs.declared.ask.Ask.TheVariants as ask
use Rattle.tally_returns_rows.specs.Import.{after_row, lodged_counts, row_answer}
use Rattle.tally_returns_rows.specs.NamedRows.{named_row}
use Rattle.tally_returns_rows.specs.declared.import.Row.TheVariants as row
use Rattle.tally_import_check.specs.Check.{every_code}
use Rattle.tally_import.specs.internal.Table.{Holds}
use Rattle.tally_import_check.specs.internal.Totals.{AreTotals}
use Rattle.tally_import_check.proofs.import.Import.lodge_row.Goals as goal

-- another request than Lodge: it has no answer, changes nothing and is not named
other-row : (a : Ask) → ((station slip : List ℕ) (counts : VoteCounts) → a ≢ ask.Lodge station slip counts) → (stations : Stations) (returns : Returns) (number : ℕ)
    → (row_answer stations returns (row.Lodge a) ≡ None) × (after_row stations returns (row.Lodge a) ≡ returns)
    × (lodged_counts (row.Lodge a ∷ []) (None ∷ []) ≡ []) × (named_row number (row.Lodge a) None ≡ [])
other-row (ask.Lodge station slip counts) other stations returns number = absurd (other station slip counts refl)
other-row (ask.Query station rev note) other stations returns number = (refl, refl, refl, refl)
other-row (ask.Correct station rev slip counts) other stations returns number = (refl, refl, refl, refl)
other-row (ask.Close station rev) other stations returns number = (refl, refl, refl, refl)
other-row (ask.Confirm station rev slip counts) other stations returns number = (refl, refl, refl, refl)
other-row (ask.ShowReturn station) other stations returns number = (refl, refl, refl, refl)
other-row (ask.Draw con edition order) other stations returns number = (refl, refl, refl, refl)
other-row (ask.Certify con edition) other stations returns number = (refl, refl, refl, refl)
other-row (ask.Reopen con edition note) other stations returns number = (refl, refl, refl, refl)
other-row (ask.Vacate con list place note) other stations returns number = (refl, refl, refl, refl)
other-row (ask.ShowCon con) other stations returns number = (refl, refl, refl, refl)
other-row ask.ShowProgress other stations returns number = (refl, refl, refl, refl)

pub returns-in_default : goal.returns-in_default
returns-in_default c =
    let old = c.args.self.now in
    let other = other-row c.args.ask c.in_default.not-Lodge (every_code old.lists) in
    record {
      answer = λ returns holds. (other returns c.args.number).0;
      table = λ returns holds. subst (Holds old.returns) (sym (other returns c.args.number).1) holds;
      totals = λ before totals. subst (λ l. AreTotals old.lists (before ++ l) old.totals) (sym (other empty c.args.number).2)
          (subst (λ l. AreTotals old.lists l old.totals) (sym (append-nil before)) totals);
      named = sym (ap (λ l. old.named.items ++ l) (other empty c.args.number).3 ∙ append-nil old.named.items);
      lists = refl;
      count = refl;
    }
