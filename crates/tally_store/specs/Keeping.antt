-- What a call on a store does to its content, what it keeps, and what a crash may leave after it.
use Rattle.std.specs.Prelude.{ℕ, List, Option, Result, Ok, Err, IfSome, IsTrue, OnOk, Vec}
use Rattle.std.specs.declared.alloc.Global.{Global}
use Rattle.sqlite_trees.specs.declared.store.Store.{Ghosts}
use Rattle.sqlite.specs.Held.{Held, state}
use Rattle.sqlite.specs.State.{HasCleanDisk, Survives}
use Rattle.tally_returns.specs.State.{State}
use Rattle.tally_returns.specs.View.{View}
use Rattle.tally_returns.specs.declared.ask.Ask.{Ask}
use Rattle.tally_returns.specs.declared.refusal.Refusal.{Refusal}
use Rattle.tally_returns.specs.declared.station_row.StationRow.{StationRow}
use Rattle.tally_keeper.specs.Keeper.{Event, Happens, Imports, Tries}
use Rattle.tally_returns_rows.specs.NamedRows.{NamesRows}
use Rattle.tally_keeper.specs.Shown.{AnswersShowCon, ShowsReturns}
use Rattle.tally_returns_rows.specs.Source.{Delivery}
use Rattle.tally_keeper.specs.Stays.{StaysBy}
use Rattle.tally_returns_rows.specs.declared.import.ImportCount.{ImportCount}
use Rattle.tally_returns_rows.specs.declared.import.NamedRow.{NamedRow}
use Rattle.tally_returns_rows.specs.declared.source.ImportFault.{ImportFault}
use Rattle.tally_store_open.specs.Office.{IsOffice}
use Rattle.tally_store.specs.Certified.{HasCertificates}
use Rattle.tally_store.specs.Content.{content_of}
use Rattle.tally_store.specs.Crash.{IsKept, LeavesAfter, LeavesImported, LeavesSame}
use Rattle.tally_store.specs.Store.{KeepsText, Stored}

-- the state that the tables of a store read as
abbrev pub content_in : {S : Type 0} → Ghosts S → Stored S → Option State
content_in g store = content_of store.setup (state g store.conn)

-- A store stays the keeper that it was: it has the same setup, and its disk was clean before if it
-- is clean after. It has a database, which may shut it.
abbrev pub StaysStore : {S : Type 0} → Ghosts S → Stored S → Stored S → Type 0
StaysStore g old new =
    StaysBy (λ s. s.setup) (content_in g) (λ s. HasCleanDisk (state g s.conn)) (λ _. Unit {0}) old
    new

-- As long as the disk returned what was written, this happened to the content of a store.
abbrev pub HappensIn : {S : Type 0} → Ghosts S → Event → Stored S → Stored S → Type 0
HappensIn g event old new =
    HasCleanDisk (state g new.conn) → Happens old.setup (content_in g old) event (content_in g new)

-- and so was a constituency shown, without its certificates on record
abbrev pub ShowsConIn : {S : Type 0} → Ghosts S → List ℕ → Result View Refusal → Stored S → Stored S
    → Type 0
ShowsConIn g con shown old new =
    HasCleanDisk (state g new.conn)
    → AnswersShowCon old.setup (content_in g old) con shown (content_in g new)

-- and so were the stations of a constituency shown, with their returns
abbrev pub ShowsReturnsIn : {S : Type 0} → Ghosts S → List ℕ
    → Result (Vec StationRow Global) Refusal → Stored S → Stored S → Type 0
ShowsReturnsIn g con shown old new =
    HasCleanDisk (state g new.conn)
    → ShowsReturns old.setup (content_in g old) con shown (content_in g new)

-- and so was this import done or not
abbrev pub ImportsIn : {S : Type 0} → Ghosts S → Delivery → Result ImportCount ImportFault
    → Stored S → Stored S → Type 0
ImportsIn g d result old new =
    HasCleanDisk (state g new.conn)
    → Imports old.setup (content_in g old) d result (content_in g new)

-- and so was it tried
abbrev pub TriesIn : {S : Type 0} → Ghosts S → Delivery → Result ImportCount ImportFault
    → Stored S → Stored S → Type 0
TriesIn g d result old new =
    HasCleanDisk (state g new.conn)
    → Tries old.setup (content_in g old) d result (content_in g new)

-- and so were the rows of an import or a trial with a count named
abbrev pub NamesRowsIn : {S : Type 0} → Ghosts S → Delivery → Result ImportCount ImportFault
    → List NamedRow → List NamedRow → Stored S → Stored S → Type 0
NamesRowsIn g d result before after old new =
    HasCleanDisk (state g new.conn)
    → OnOk result (NamesRows old.setup (content_in g old) d before after)

-- The database of a store that is not shut is that of its content.
abbrev pub ShowsContent : {S : Type 0} → Ghosts S → Stored S → Type 0
ShowsContent g store =
    HasCleanDisk (state g store.conn)
    → IfSome (content_in g store) (λ s. IsOffice store.setup s (state g store.conn))

-- The text of the setup that is on record stays, while the connection is open.
abbrev pub KeepsTextIn : {S : Type 0} → Ghosts S → Stored S → Stored S → Type 0
KeepsTextIn g old new =
    HasCleanDisk (state g new.conn) → IsTrue (state g new.conn).is_open
    → KeepsText old.setup (state g old.conn) (state g new.conn)

-- A crash leaves what it could leave before, or the tables after this request.
abbrev pub SurvivesRequest : {S : Type 0} → Ghosts S → Ask → Stored S → Stored S → Type 0
SurvivesRequest g ask old new =
    Survives (state g old.conn) (state g new.conn) (LeavesAfter old.setup ask (state g old.conn))

-- A crash leaves what it could leave before, or the tables that were there.
abbrev pub SurvivesLook : {S : Type 0} → Ghosts S → Stored S → Stored S → Type 0
SurvivesLook g old new =
    Survives (state g old.conn) (state g new.conn) (LeavesSame (state g old.conn))

-- A crash leaves what it could leave before, or the tables after this import.
abbrev pub SurvivesImport : {S : Type 0} → Ghosts S → Delivery → Stored S → Stored S → Type 0
SurvivesImport g d old new =
    Survives (state g old.conn) (state g new.conn) (LeavesImported old.setup d (state g old.conn))

-- ---- between calls

-- As long as the disk has returned what was written and has not failed, the database is that of a
-- lawful state, and a crash leaves its tables and nothing else.
abbrev pub IsKeptIn : {S : Type 0} → Ghosts S → Stored S → Type 0
IsKeptIn g store =
    HasCleanDisk (state g store.conn) → IsTrue (state g store.conn).is_open
    → IsKept store.setup (state g store.conn)

-- And it has the seats of certificates of each constituency that is certified.
abbrev pub HasCertificatesIn : {S : Type 0} → Ghosts S → Stored S → Type 0
HasCertificatesIn g store =
    HasCleanDisk (state g store.conn) → IsTrue (state g store.conn).is_open
    → HasCertificates store.setup (state g store.conn)

-- ---- where a store is made or opened

-- the connection that a store has, or that comes back with a fault
abbrev pub conn_left : {S E : Type 0} → Result (Stored S) (Held S × E) → Held S
conn_left (Ok store) = store.conn
conn_left (Err e) = e.0
