-- What the next opening of an office's files finds.
use Rattle.std.specs.Prelude.{◌≡◌, ◌⊎◌, ℕ, List, IsTrue, Some}
use Rattle.sqlite_disk.specs.declared.Disk.{Ghosts}
use Rattle.sqlite_store.specs.declared.store.FileStore.{FileStore}
use Rattle.sqlite_store.specs.FileStore as files
use Rattle.sqlite_trees.specs.Tree.{Trees}
use Rattle.sqlite_wal.specs.Recovery.{Image}
use Rattle.sqlite.specs.Effect.{Database}
use Rattle.sqlite.specs.Files.{IsOpened, file_state}
use Rattle.sqlite.specs.Held.{Held}
use Rattle.sqlite.specs.Start.{FindsIn}
use Rattle.tally_keeper.specs.declared.fault.OpenFault.{OpenFault}
use Rattle.tally_keeper.specs.declared.fault.OpenFault.TheVariants.{Memory, Store}
use Rattle.tally_returns.specs.State.{State}
use Rattle.tally_setup.specs.Constituency.{Constituency}
use Rattle.tally_machine_law.specs.LawfulState.{IsLawfulState}
use Rattle.tally_store_open.specs.Office.{HasOfficeSchema, IsWholeOffice}
use Rattle.tally_store_open.specs.Open.{AreOfOneState, IsOpenFault}
use Rattle.tally_store.specs.Content.{content_of}

-- An opening can find nothing else in this database: the one state whose tables they are is this
-- state, over this setup; and the fault is that it is out of memory, or that the database failed.
pub record OpensAs (setup : List Constituency) (s : State) (found : Database) : Type 0 where
  pub one : (other : List Constituency) (text : List ℕ) (t : State)
      → AreOfOneState other text t found → (other ≡ setup) × (t ≡ s)
  pub faults : (fault : OpenFault) → IsOpenFault found fault → (fault ≡ Memory) ⊎ (fault ≡ Store)

-- A crash left this of the two files of one connection, and the next one found it in its own: so
-- says `open_from` of what it opens, by its clauses `opened` and `found`.
pub record IsNextOver {D E : Type 0} {g : Ghosts D} {h : Ghosts E} (left : Image)
    (conn : Held (FileStore D g)) (next : Held (FileStore E h)) : Type 0 where
  pub is_left : (files.state conn.store).may_leave left
  pub opened : IsOpened next
  pub found : FindsIn left (file_state next)

module _ {D E : Type 0} {g : Ghosts D} {h : Ghosts E} (conn : Held (FileStore D g))
    (next : Held (FileStore E h)) where
  -- Where each database that a crash may leave lists the tables of the office and no others, the
  -- next connection has one of these databases.
  abbrev pub FindsWhatIsLeft : Type 0
  FindsWhatIsLeft =
      ((db : Trees) → (file_state conn).may_leave db → HasOfficeSchema db)
      → (left : Image) → IsNextOver left conn next
      → ∥ (file_state conn).may_leave (file_state next).now.trees ∥₁

  -- Between calls on a store that is open: the next connection is opened as its content.
  abbrev pub FindsContent : List Constituency → Type 0
  FindsContent setup =
      IsTrue (file_state conn).is_open → (left : Image) → IsNextOver left conn next
      → (s : State) × (content_of setup (file_state conn) ≡ Some s)
      × OpensAs setup s (file_state next).now

-- Where a connection that was opened has the tables of a lawful state and no others, it is opened
-- as this state.
abbrev pub OpensWholeOffice : {E : Type 0} {h : Ghosts E} → Held (FileStore E h) → Type 0
OpensWholeOffice next =
    IsOpened next → (setup : List Constituency) (text : List ℕ) (s : State)
    → IsLawfulState setup s → IsWholeOffice setup text s (file_state next).now.trees
    → OpensAs setup s (file_state next).now
