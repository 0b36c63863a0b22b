-- The rows of an import, one more.
use Rattle.std.proofs.Common.{◌≡◌, ◌≤◌, ◌+◌, ◌++◌, ◌∷◌, ◌∙◌, ℕ, suc, List, [], Some, Ok, Err, length, length-append, refl, sym, ap, arith, append_assoc}
use Rattle.std.proofs.lemmas.List.{append-nil}
use Rattle.tally_returns.specs.Return.{Returns}
use Rattle.tally_returns.specs.Lodge.{Stations}
use Rattle.tally_returns_rows.specs.Import.{RowAnswer, row_answer, after_row, answers, returns_after_import, lodged_counts}
use Rattle.tally_returns_rows.specs.NamedRows.{named_row, named_rows}
use Rattle.tally_returns.specs.declared.ask.Ask.TheVariants.{Lodge}
use Rattle.tally_returns.specs.declared.reply.LodgeReply.TheVariants.{Lodged}
use Rattle.tally_returns_rows.specs.declared.import.Row.{Row}
use Rattle.tally_returns_rows.specs.declared.import.Row.TheVariants as row

pub imported-push : (stations : Stations) (s : Returns) (rows : List Row) (r : Row)
    → returns_after_import stations s (rows ++ r ∷ []) ≡ after_row stations (returns_after_import stations s rows) r
imported-push stations s [] r = refl
imported-push stations s (q ∷ rows) r = imported-push stations (after_row stations s q) rows r

pub answers-push : (stations : Stations) (s : Returns) (rows : List Row) (r : Row)
    → answers stations s (rows ++ r ∷ []) ≡ answers stations s rows ++ row_answer stations (returns_after_import stations s rows) r ∷ []
answers-push stations s [] r = refl
answers-push stations s (q ∷ rows) r = ap (λ l. row_answer stations s q ∷ l) (answers-push stations (after_row stations s q) rows r)

pub length-answers : (stations : Stations) (s : Returns) (rows : List Row) → length (answers stations s rows) ≡ length rows
length-answers stations s [] = refl
length-answers stations s (q ∷ rows) = ap suc (length-answers stations (after_row stations s q) rows)

pub lodged_counts-push : (rows : List Row) (answered : List RowAnswer) (r : Row) (a : RowAnswer) → length answered ≡ length rows
    → lodged_counts (rows ++ r ∷ []) (answered ++ a ∷ []) ≡ lodged_counts rows answered ++ lodged_counts (r ∷ []) (a ∷ [])
lodged_counts-push [] [] r a same = refl
lodged_counts-push [] (b ∷ answered) r a same = absurd (omega arith)
lodged_counts-push (q ∷ rows) [] r a same = absurd (omega arith)
lodged_counts-push (row.Lodge (Lodge station slip counts) ∷ rows) (Some (Ok (Lodged rev)) ∷ answered) r a same = ap (λ l. counts ∷ l) (lodged_counts-push rows answered r a (omega arith))
lodged_counts-push (q ∷ rows) (b ∷ answered) r a same = lodged_counts-push rows answered r a (omega arith)

pub length-lodged_counts : (rows : List Row) (answered : List RowAnswer) → length (lodged_counts rows answered) ≤ length rows
length-lodged_counts [] answered = omega arith
length-lodged_counts (q ∷ rows) [] = omega arith
length-lodged_counts (row.Lodge (Lodge station slip counts) ∷ rows) (Some (Ok (Lodged rev)) ∷ answered) = omega (arith, length-lodged_counts rows answered)
length-lodged_counts (q ∷ rows) (b ∷ answered) = omega (arith, length-lodged_counts rows answered)

pub named_rows-push : (number : ℕ) (rows : List Row) (answered : List RowAnswer) (r : Row) (a : RowAnswer) → length answered ≡ length rows
    → named_rows number (rows ++ r ∷ []) (answered ++ a ∷ []) ≡ named_rows number rows answered ++ named_row (number + length rows) r a
named_rows-push number [] [] r a same = append-nil (named_row number r a) ∙ ap (λ n. named_row n r a) (omega arith)
named_rows-push number [] (b ∷ answered) r a same = absurd (omega arith)
named_rows-push number (q ∷ rows) [] r a same = absurd (omega arith)
named_rows-push number (q ∷ rows) (b ∷ answered) r a same =
    ap (λ l. named_row number q b ++ l)
    (named_rows-push (number + 1) rows answered r a (omega arith) ∙ ap (λ n. named_rows (number + 1) rows answered ++ named_row n r a) (omega arith))
    ∙ sym (append_assoc (named_row number q b) (named_rows (number + 1) rows answered) (named_row (number + length (q ∷ rows)) r a))

named_row-one : (number : ℕ) (r : Row) (a : RowAnswer) → length (named_row number r a) ≤ 1
named_row-one number (row.Bad why) a = omega arith
named_row-one number (row.Lodge (Lodge station slip counts)) (Some (Err refusal)) = omega arith
named_row-one number r a = omega arith

pub length-named_rows : (number : ℕ) (rows : List Row) (answered : List RowAnswer) → length (named_rows number rows answered) ≤ length rows
length-named_rows number [] answered = omega arith
length-named_rows number (q ∷ rows) [] = omega arith
length-named_rows number (q ∷ rows) (b ∷ answered) =
    omega (arith, length-append (named_row number q b) (named_rows (number + 1) rows answered), named_row-one number q b, length-named_rows (number + 1) rows answered)
