-- The rows of a constituency's returns as contracts see them.
use Rattle.std.specs.Prelude.{ℕ, Bool, false, List, [], Option, Some, None, IfSome, option_map}
use Rattle.tally_setup.specs.Constituency.{Constituency}
use Rattle.tally_returns_rows.specs.Source.{Coming, Ending}
use Rattle.tally_returns_rows.specs.declared.import.Row.{Row}
use Rattle.tally_returns_rows.specs.declared.source.ImportFault.{ImportFault}
use Rattle.tally_returns_rows.specs.declared.source.ImportFault.TheVariants as cause
use Rattle.tally_import.specs.ReturnRows.{AllRowsCame, coming_after, fault_alone, text_coming}
use Rattle.tally_import_records.specs.declared.separator.Sep.{Sep}

-- The constituency and the separator, the text that the reader would give and what is left of it,
-- where they are known, the rows that were given, how many rows came of the text (0 again once the
-- rows have ended), how they ended, once they did, and whether a read failed.
pub record ReturnRows : Type 0 where
  pub con : Constituency
  pub sep : Sep
  pub text : Option (List ℕ)
  pub left : Option (List ℕ)
  pub given : List Row
  pub came : ℕ
  pub ended : Ending
  pub failed : Bool

-- the rows of a text of which nothing was read
abbrev pub unread_rows : Constituency → Sep → Option (List ℕ) → ReturnRows
unread_rows con sep text =
    record {
      con = con;
      sep = sep;
      text = text;
      left = text;
      given = [];
      came = 0;
      ended = None;
      failed = false;
    }

-- Where the text is known, all that was complete before a failed read was given, and this is left.
abbrev pub HasGivenAll : ReturnRows → Option (List ℕ) → Type 0
HasGivenAll rows left = IfSome rows.text (λ text. AllRowsCame rows.con rows.sep rows.came text left)

-- a fault of a source, which is never one of a database
abbrev pub own_fault : ImportFault → ImportFault
own_fault cause.BadHeader = cause.BadHeader
own_fault cause.TooLong = cause.TooLong
own_fault cause.Read = cause.Read
own_fault cause.Memory = cause.Memory
own_fault cause.Store = cause.Memory

-- what still comes of a text, by how the rows ended
abbrev pub coming_at : Constituency → Sep → ℕ → Ending → List ℕ → Coming
coming_at con sep came None text = coming_after came (text_coming con sep text)
coming_at con sep came (Some fault) text = fault_alone (option_map own_fault fault)

-- What still comes, where the text is known.
abbrev pub rows_to_come : ReturnRows → Option Coming
rows_to_come rows = option_map (coming_at rows.con rows.sep rows.came rows.ended) rows.text
