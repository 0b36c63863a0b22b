-- An import in a transaction, so far.
use Rattle.std.proofs.Common.{◌≡◌, ◌≢◌, ◌≤◌, ◌+◌, ◌∙◌, ℕ, List, [], ◌++◌, ◌∷◌, Option, None, Some, Result, Ok, Err, inr, length, refl, sym, ap, subst, arith, length-append, append-nil, true≢false}
use Rattle.std.specs.Prelude.{IfSome, IsErr, IsErrAnd, OnOk}
use Rattle.std.specs.BTreeMap.{BTreeMap}
use Rattle.std.specs.FinMap.{empty}
use Rattle.sqlite_trees.specs.declared.store.Store.{Ghosts}
use Rattle.sqlite.specs.declared.transaction.Transaction.{Transaction}
use Rattle.sqlite.specs.State.{State as Seen}
use Rattle.tally_setup.specs.Constituency.{Constituency}
use Rattle.tally_setup.specs.Limits.{IsSetup}
use Rattle.tally_returns.specs.Counts.{VoteCounts}
use Rattle.tally_returns.specs.Lodge.{Stations}
use Rattle.tally_returns.specs.Return.{Returns}
use Rattle.tally_returns.specs.State.{State, stations_of}
use Rattle.tally_returns.specs.declared.ask.Ask.{Ask}
use Rattle.tally_returns.specs.declared.ask.Ask.TheVariants.{Lodge}
use Rattle.tally_machine_law.specs.LawfulState.{IsLawfulState}
use Rattle.tally_keeper.specs.Kept.{Kept}
use Rattle.tally_returns_rows.specs.Import.{IsBelow, IsCodedRow, RowAnswer, after_row, count_of, count_with_row, row_answer}
use Rattle.tally_keeper.specs.Keeper.{IsImportFault, IsOwnFault}
use Rattle.tally_returns_rows.specs.NamedRows.{NamesRows, named_row}
use Rattle.tally_returns_rows.specs.Source.{Coming, Delivery, GaveAll, IsWithinRowLimit, SourceAt, row_limit}
use Rattle.tally_returns_rows.specs.declared.import.ImportCount.{ImportCount}
use Rattle.tally_returns_rows.specs.declared.import.NamedRow.{NamedRow}
use Rattle.tally_returns_rows.specs.declared.import.Row.{Row}
use Rattle.tally_returns_rows.specs.declared.import.Row.TheVariants as row
use Rattle.tally_returns_rows.specs.declared.source.ImportFault.{ImportFault}
use Rattle.tally_returns_rows.specs.declared.source.ImportFault.TheVariants.{TooLong}
use Rattle.tally_returns_rows.proofs.ImportLemmas.{count_of-below, push_is}
use Rattle.tally_keeper.proofs.TakenLemmas.{AreTaken, GivesAt, NamedSoFar, NamedSoFar-end, NamedSoFar-next, NamedSoFar-start, SoFar, SoFar-end, SoFar-fault, SoFar-next, SoFar-own, SoFar-start, all-given}
use Rattle.tally_store_rows.specs.declared.views.Statuses.{Statuses}
use Rattle.tally_store_commands.specs.internal.Known.{AreKnown, Known}
use Rattle.tally_store_commands.specs.internal.Counting.{known_after_row as after_row_known}
use Rattle.tally_store_commands.specs.internal.Requests.{IsImportedKnown, IsInState, LodgesRows}
use Rattle.tally_store_commands.specs.internal.Lodging.{IsRowTaken}
use Rattle.tally_store_commands.proofs.KnownLemmas.{known-row}
use Rattle.tally_store_commands.proofs.LodgeLemmas.{row-lawful}

-- ---- what is known of any tables: the rows that came, and how many answers were counted

pub no_stations : Stations
no_stations station = None

-- this many rows came
abbrev pub Came : SourceAt → SourceAt → ℕ → Type 0
Came all left many = (count : ImportCount) × (now : Returns) × SoFar no_stations empty now all left count many

pub came-start : (all : SourceAt) → Came all all 0
came-start all = (count_of [], empty, SoFar-start no_stations empty all (count_of []) refl)

pub came-next : (all left next : SourceAt) (many : ℕ) (r : Row) → Came all left many → IsCodedRow r → GivesAt left (Ok (Some r)) next → Came all next (many + 1)
came-next all left next many r was coded given = (
  count_with_row was.0 (many + 1) (row_answer no_stations was.1 r),
  after_row no_stations was.1 r,
  SoFar-next no_stations empty was.1 (after_row no_stations was.1 r) all left next was.0 (count_with_row was.0 (many + 1) (row_answer no_stations was.1 r)) many r (row_answer no_stations was.1 r) was.2 coded given refl refl refl,
)

pub came-end : (all left next : SourceAt) (many : ℕ) → Came all left many → many ≤ row_limit → GivesAt left (Ok None) next → GaveAll (record { start = all; finish = next })
came-end all left next many was few given =
    let h = was.2 in
    (h.rows, all-given all left next h.rows h.given h.taken (omega (arith, few, h.many_are)) given)

pub came-fault : (all left next : SourceAt) (many : ℕ) (fault : ImportFault) → Came all left many → GivesAt left (Err fault) next → IsImportFault (record { start = all; finish = next }) fault
came-fault all left next many fault was given = SoFar-fault no_stations empty was.1 all left next was.0 many fault was.2 given

pub came-own : (all left next : SourceAt) (many : ℕ) (r : Row) (fault : ImportFault) → Came all left many → GivesAt left (Ok (Some r)) next → IsOwnFault fault → IsImportFault (record { start = all; finish = next }) fault
came-own all left next many r fault was given own = SoFar-own no_stations empty was.1 all left next was.0 many r fault was.2 given own

-- a source of which it was not known what comes gave one row more than an import has
pub came-long : (all left : SourceAt) (many : ℕ) → Came all left many → many ≡ row_limit + 1 → IfSome all.coming IsWithinRowLimit → IsImportFault (record { start = all; finish = left }) TooLong
came-long all left many was many_is within = (h.rows, (h.given, first all.coming h.taken), inr (inr (refl, h.many_are ∙ many_is, none all.coming h.taken within)))
  where
    h : SoFar no_stations empty was.1 all left was.0 many
    h = was.2

    first : (known : Option Coming) → AreTaken known h.rows left.coming → IfSome known (λ coming. (rest : List Row) × (coming.rows ≡ h.rows ++ rest))
    first None taken = tt
    first (Some coming) taken = (taken.0, taken.2)

    none : (known : Option Coming) → AreTaken known h.rows left.coming → IfSome known IsWithinRowLimit → known ≡ None
    none None taken within = refl
    none (Some coming) taken within = let long = ap length taken.2 ∙ length-append h.rows taken.0 in absurd (omega (arith, long, h.many_are, many_is, within.0))

-- of a fault nothing else is said
pub lodges-failed : {S : Type 0} {g : Ghosts S} {setup : List Constituency} {d : Delivery} {before after : BTreeMap (List ℕ) Statuses} {old new : Transaction S} (r : Result ImportCount ImportFault) (fault : ImportFault) → IsErrAnd r (λ e. e ≡ fault)
    → IsImportFault d fault → LodgesRows g setup d before after old new r
lodges-failed (Ok count) fault wrong so = absurd wrong
lodges-failed {d = d} (Err e) fault is so = record { imported = λ _ _. tt; unwritten = λ _ _. tt; gave = tt; fault = subst (IsImportFault d) (sym is) so; forgets = tt }

pub none-named : (P : Type 0) (r : Result ImportCount ImportFault) → IsErr r → OnOk r P
none-named P (Ok count) wrong = absurd (true≢false (sym wrong))
none-named P (Err e) is = tt

-- this many answers were counted
abbrev pub Counted : ImportCount → ℕ → Type 0
Counted count many = (answered : List RowAnswer) × (count ≡ count_of answered) × (length answered ≡ many)

pub counted-next : (count more : ImportCount) (many : ℕ) (answer : RowAnswer) → Counted count many → more ≡ count_with_row count (many + 1) answer → Counted more (many + 1)
counted-next count more many answer was is = (
  was.0 ++ answer ∷ [],
  push_is count more was.0 answer (many + 1) was.1 (ap (λ n. n + 1) (sym was.2)) is,
  length-append was.0 (answer ∷ []) ∙ ap (λ n. n + 1) was.2,
)

pub counted-below : (count : ImportCount) (many : ℕ) → Counted count many → IsBelow count (many + 1)
counted-below count many was = subst (λ c. IsBelow c (many + 1)) (sym was.1) (count_of-below was.0 (many + 1) (ap (λ n. n + 1) (sym was.2)))

-- a request that has no answer is not named
pub unanswered : (number : ℕ) (named : List NamedRow) (asked : Ask) → named ≡ named ++ named_row number (row.Lodge asked) None
unanswered number named (Lodge station slip counts) = sym (append-nil named)
unanswered number named other = sym (append-nil named)

-- another request than a Lodge brings no code
pub other-coded : (asked : Ask) → ((station slip : List ℕ) (counts : VoteCounts) → asked ≢ Lodge station slip counts) → IsCodedRow (row.Lodge asked)
other-coded (Lodge station slip counts) other = absurd (other station slip counts refl)
other-coded asked other = tt

-- and has no answer, and leaves the tables
pub other-taken : (setup : List Constituency) (text : List ℕ) (s : State) (asked : Ask) (new : Seen) → ((station slip : List ℕ) (counts : VoteCounts) → asked ≢ Lodge station slip counts) → IsInState setup text s new
    → IsRowTaken setup text s (row.Lodge asked) None new
other-taken setup text s (Lodge station slip counts) new other here = absurd (other station slip counts refl)
other-taken setup text s asked new other here = record { answered = refl; in_state = here }

-- ---- what is known of the tables of a lawful state

-- this many rows came, and were taken; the state that they left, what is known of it, and the rows
-- that were named
pub record RowsSoFar (setup : List Constituency) (text : List ℕ) (s : State) (all left : SourceAt) (count : ImportCount) (many : ℕ) (before after : Known) (names named : List NamedRow) (new : Seen) : Type 0 where
  pub returns : Returns
  pub so_far : NamedSoFar (stations_of setup) s.returns returns all left count many names named
  pub lawful : IsLawfulState setup (record s { returns = returns })
  pub in_state : IsInState setup text (record s { returns = returns }) new
  pub known : AreKnown setup s.returns before → AreKnown setup returns after

pub rows-start : (setup : List Constituency) (text : List ℕ) (s : State) (all : SourceAt) (count : ImportCount) (known : Known) (names : List NamedRow) (old : Seen) → count ≡ count_of [] → IsLawfulState setup s → IsInState setup text s old
    → RowsSoFar setup text s all all count 0 known known names names old
rows-start setup text s all count known names old is lawful here = record {
  returns = s.returns;
  so_far = NamedSoFar-start (stations_of setup) s.returns all count names is;
  lawful = lawful;
  in_state = here;
  known = λ held. held;
}

pub rows-next : (setup : List Constituency) (text : List ℕ) (s : State) (all left next : SourceAt) (count more : ImportCount) (many : ℕ) (r : Row) (answer : RowAnswer) (before known after : Known) (names mid_named named : List NamedRow) (mid new : Seen)
    → IsSetup setup → (was : RowsSoFar setup text s all left count many before known names mid_named mid) → IsCodedRow r → GivesAt left (Ok (Some r)) next
    → IsRowTaken setup text (record s { returns = was.returns }) r answer new → after ≡ after_row_known setup r answer known → more ≡ count_with_row count (many + 1) answer → named ≡ mid_named ++ named_row (many + 1) r answer
    → RowsSoFar setup text s all next more (many + 1) before after names named new
rows-next setup text s all left next count more many r answer before known after names mid_named named mid new limits was coded given taken put counted_is named_is = record {
  returns = after_row (stations_of setup) was.returns r;
  so_far = NamedSoFar-next (stations_of setup) s.returns was.returns (after_row (stations_of setup) was.returns r) all left next count more many names mid_named named r answer was.so_far coded given taken.answered refl counted_is named_is;
  lawful = row-lawful setup (record s { returns = was.returns }) r coded limits was.lawful;
  in_state = taken.in_state;
  known = λ held. subst (AreKnown setup (after_row (stations_of setup) was.returns r)) (sym put) (known-row setup was.returns r answer known limits taken.answered (was.known held));
}

-- the import is done where its source ends
pub rows-end : (setup : List Constituency) (text : List ℕ) (s : State) (all left next : SourceAt) (count : ImportCount) (many : ℕ) (before after : Known) (names named : List NamedRow) (new : Seen)
    → RowsSoFar setup text s all left count many before after names named new → many ≤ row_limit → GivesAt left (Ok None) next → IsImportedKnown setup text s (record { start = all; finish = next }) before after count new
rows-end setup text s all left next count many before after names named new was few given =
    let old : Kept = record { setup = setup; returns = s.returns; cons = s.cons; seats = empty } in (
      record {
        state = record s { returns = was.returns };
        imported = SoFar-end old (record old { returns = was.returns }) all left next count many was.so_far.so_far refl few given;
        in_state = was.in_state;
      },
      was.known,
    )

-- and these are all rows that are named of it
pub rows-named : (setup : List Constituency) (text : List ℕ) (s : State) (all left next : SourceAt) (count : ImportCount) (many : ℕ) (before after : Known) (names named : List NamedRow) (new : Seen)
    → RowsSoFar setup text s all left count many before after names named new → many ≤ row_limit → GivesAt left (Ok None) next → NamesRows setup (Some s) (record { start = all; finish = next }) names named
rows-named setup text s all left next count many before after names named new was few given =
    NamedSoFar-end setup s was.returns all left next count many names named was.so_far few given
