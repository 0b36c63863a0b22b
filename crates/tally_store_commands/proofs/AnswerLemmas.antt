-- What is answered to a request on a constituency, and to the one that
-- shows how far constituencies have come, in a transaction.
use Rattle.std.proofs.Common.{◌≡◌, ◌≢◌, ◌∙◌, ◌⊎◌, ◌+◌, ◌++◌, ◌∷◌, ◌<◌, ℕ, List, [], Bool, Option, Some, None, Result, Ok, Err, IfOk, OnOk, inl, inr, length, refl, sym, ap, subst, map, take, true≢false}
use Rattle.std.specs.BTreeMap.{BTreeMap}
use Rattle.std.specs.Prelude.{IsErr, is_some, slice_index_or}
use Rattle.std.specs.FinMap.{get, insert}
use Rattle.std.specs.List.Sorted.{IsPermutation}
use Rattle.sqlite_value.specs.Order.{Row}
use Rattle.sqlite.specs.declared.error.Error.{Error}
use Rattle.sqlite.specs.declared.transaction.Transaction.{Transaction}
use Rattle.sqlite.specs.Held.{state}
use Rattle.sqlite_trees.specs.declared.store.Store.{Ghosts}
use Rattle.sqlite.specs.State.{State as Seen, HasCleanDisk, IsUnchanged}
use Rattle.std.proofs.lemmas.List.{map-append, take_more}
use Rattle.tally_store_schema.specs.internal.Inside.{InDatabase, IsOpenInside, StaysFrom, StaysInside}
use Rattle.tally_store_schema.specs.Office.{IsInside, tree_of}
use Rattle.tally_store_schema.proofs.StaysLemmas.{stays-then}
use Rattle.tally_store_schema.specs.declared.table.KeyedTable.TheVariants.{Cons}
use Rattle.tally_store_schema.specs.Rows.{cells}
use Rattle.tally_store_entries.proofs.FindLemmas.{inside_still}
use Rattle.tally_setup.specs.Constituency.{Constituency}
use Rattle.tally_setup.specs.Limits.{IsSetup}
use Rattle.tally_setup.specs.Setup.{constituency_with}
use Rattle.tally_returns.specs.Named.{con_named}
use Rattle.tally_returns.specs.Progress.{progress, progress_row}
use Rattle.tally_returns.specs.Return.{Returns}
use Rattle.tally_returns.specs.State.{State}
use Rattle.tally_returns.specs.View.{View}
use Rattle.tally_returns.specs.declared.ask.Ask.{Ask}
use Rattle.tally_returns.specs.declared.ask.Ask.TheVariants.{ShowProgress, ShowReturn}
use Rattle.tally_returns.specs.declared.change.Change.TheVariants.{Same}
use Rattle.tally_returns.specs.declared.progress.ProgressRow.{ProgressRow}
use Rattle.tally_returns.specs.declared.refusal.Refusal.{Refusal}
use Rattle.tally_returns.specs.declared.refusal.Refusal.TheVariants.{Memory, NoConstituency}
use Rattle.tally_returns.specs.declared.reply.Reply.{Reply}
use Rattle.tally_returns.specs.declared.reply.Reply.TheVariants.{Con}
use Rattle.tally_machine_law.specs.LawfulState.{IsLawfulState}
use Rattle.tally_machine_law.specs.Step.{ConChange, Decides, IsAnswered, IsConDecision, IsConRefusal, IsStepSeen, IsView, after_change, no_change, progress_shown, reply_seen}
use Rattle.tally_machine_law.proofs.CertificationLemmas.{refused-lawful}
use Rattle.tally_machine_law.proofs.DecisionLemmas.{decisions-steps, unknown-constituency}
use Rattle.tally_machine_law.proofs.ViewLemmas.{view-lawful}
use Rattle.tally_keeper.proofs.StepLemmas.{memory-or}
use Rattle.tally_store_rows.specs.TablesOfState.{AreTables}
use Rattle.tally_store_commands.specs.internal.Requests.{AnswersIn, CarriesOutKnown, IsCarriedOut, IsInState, KeepsKnown}
use Rattle.tally_store_commands.specs.internal.Answering.{AnswersSo}
use Rattle.tally_store_commands.specs.internal.Found.{CarriesOut}
use Rattle.tally_store_commands.specs.internal.Changes.{IsChangeCarriedOut}
use Rattle.tally_store_rows.specs.Views.{statuses_of}
use Rattle.tally_store_rows.specs.declared.views.Statuses.{Statuses}
use Rattle.tally_store_entries.specs.internal.Constituencies.{AreCons, FindsProgressRow, FindsView, IsKnown, IsViewWith, with_past_of}
use Rattle.tally_store_commands.specs.internal.Known.{AreKnown, Known}
use Rattle.tally_store_commands.proofs.KnownLemmas.{con-returns, known-remembered, seen-statuses, shown-returns}
use Rattle.tally_store_commands.specs.internal.Seen.{CarriesOutSeen, IsStill, shows_con}
use Rattle.tally_store_commands.proofs.RecordLemmas.{decides-whole, refusal-whole, shown-only, whole-view}

-- what holds anyway holds of an answer
pub on-answer : {X E P : Type 0} (r : Result X E) → P → OnOk r P
on-answer (Ok x) p = p
on-answer (Err e) p = tt

-- of an error nothing is said
pub answers-failed : {S : Type 0} {g : Ghosts S} {setup : List Constituency} {ask : Ask} {before after : BTreeMap (List ℕ) Statuses} {old new : Transaction S} (r : Result (Result Reply Refusal) Error) → IsErr r → AnswersIn g setup ask before after old new r
answers-failed (Ok a) wrong = absurd (true≢false (sym wrong))
answers-failed (Err e) is = record { kind = tt; step = λ _ _. tt; known = λ _ _. tt; forgets = tt; unwritten = λ _ _. tt; answered_open = λ _. tt }

pub so-failed : {S : Type 0} {g : Ghosts S} {setup : List Constituency} {ask : Ask} {Carries : Seen → Seen → Result (Result Reply Refusal) Error → Type 0} {old new : Transaction S} (r : Result (Result Reply Refusal) Error) → IsErr r
    → ((e : Error) → InDatabase g Carries old new (Err e)) → AnswersSo g setup ask Carries old new r
so-failed (Ok a) wrong step = absurd (true≢false (sym wrong))
so-failed (Err e) is step = record { kind = tt; step = step e; unwritten = λ _ _. tt }

-- ---- requests on a constituency

-- a code that is no constituency
pub unknown-carried : (setup : List Constituency) (text : List ℕ) (s : State) (code : List ℕ) (ask : Ask) (now : Seen) → con_named ask ≡ Some code → constituency_with code setup ≡ None
    → IsInState setup text s now → IsCarriedOut setup text s ask (Err NoConstituency) now
unknown-carried setup text s code ask now named none here = record {
  state = s;
  answered = inl (unknown-constituency setup s code ask named none);
  in_state = here;
}

-- what is refused changes nothing
pub refused-carried : (setup : List Constituency) (text : List ℕ) (s : State) (con : Constituency) (view : View) (ask : Ask) (e : Refusal) (now : Seen) → IsSetup setup → IsLawfulState setup s
    → constituency_with con.code setup ≡ Some con → con_named ask ≡ Some con.code → IsViewWith (shows_con ask) con s view → IsConRefusal con view ask e
    → IsInState setup text s now → IsCarriedOut setup text s ask (Err e) now
refused-carried setup text s con view ask e now limits lawful found named seen refused here = go (memory-or e)
  where
    go : (e ≡ Memory) ⊎ (e ≢ Memory) → IsCarriedOut setup text s ask (Err e) now
    go (inl memory) = record { state = s; answered = inr (inl (ap Err memory), refl); in_state = here }
    go (inr other) =
        let whole = with_past_of con s view in
        let all = whole-view (shows_con ask) con s view seen in
        let decides = refused-lawful con whole ask e (view-lawful setup s con.code con whole limits lawful found all) (refusal-whole con view whole.past ask e refused) other in
        record { state = s; answered = inl (decisions-steps setup s con con.code whole ask (Err e) (named, found) all decides); in_state = here }

-- where nothing changes, what is seen is shown
pub shown-carried : (setup : List Constituency) (text : List ℕ) (s : State) (con : Constituency) (view : View) (ask : Ask) (now : Seen)
    → constituency_with con.code setup ≡ Some con → con_named ask ≡ Some con.code → IsViewWith (shows_con ask) con s view → IsConDecision con view ask Same
    → IsInState setup text s now → IsCarriedOut setup text s ask (Ok (Con view)) now
shown-carried setup text s con view ask now found named seen by here =
    let none : by.0 ≡ no_change = let e : Some no_change ≡ Some by.0 = by.1 in cc in
    let decides = subst (λ d. Decides con view ask (Ok d)) none by.2 in
    record { state = s; answered = inl (decisions-steps setup s con con.code view ask (Ok no_change) (named, found) (subst (λ b. IsViewWith b con s view) (shown-only con view ask decides) seen) decides); in_state = here }

-- a change that was carried out is the step
pub changed-carried : (setup : List Constituency) (text : List ℕ) (s : State) (con : Constituency) (view : View) (ask : Ask) (decided : ConChange) (reply : Reply) (now : Seen)
    → constituency_with con.code setup ≡ Some con → con_named ask ≡ Some con.code → IsView con s (with_past_of con s view) → Decides con view ask (Ok decided)
    → IsChangeCarriedOut setup text s con (with_past_of con s view) decided reply now → IsCarriedOut setup text s ask (Ok reply) now
changed-carried setup text s con view ask decided reply now found named seen decides done = record {
  state = after_change s con.code (Ok decided);
  answered = inl (subst (λ a. IsStepSeen setup s ask a (after_change s con.code (Ok decided))) (sym done.answered)
      (decisions-steps setup s con con.code (with_past_of con s view) ask (Ok decided) (named, found) seen (decides-whole con view (with_past_of con s view).past ask (Ok decided) decides)));
  in_state = done.in_state;
}

-- what is answered by what was seen is answered by the tables
pub seen-carries : (setup : List Constituency) (con : Constituency) (known : Known) (here : Option Statuses) (with_past : Bool) (view : View) (ask : Ask) (old mid new : Seen) (r : Result (Result Reply Refusal) Error) → with_past ≡ shows_con ask → HasCleanDisk new → IsStill old mid
    → constituency_with con.code setup ≡ Some con → here ≡ get known con.code → FindsView setup con here with_past old view → CarriesOutSeen setup con view ask mid new r
    → IfOk r (λ a. (text : List ℕ) (s : State) → IsLawfulState setup s → AreKnown setup s.returns known → AreTables setup text s old.now.trees → IsCarriedOut setup text s ask a new)
seen-carries setup con known here with_past view ask old mid new (Ok a) asked clean still found is finds carries = λ text s lawful held tables.
    carries clean still.inside text s lawful (subst (λ b. IsViewWith b con s view) asked (finds text s found lawful (subst (IsKnown con s.returns) (sym is) (held con found)) tables)) (subst (λ d. AreTables setup text s d.trees) (sym still.same) tables)
seen-carries setup con known here with_past view ask old mid new (Err e) asked clean still found is finds carries = tt

-- and what was seen is known
pub seen-known : (setup : List Constituency) (con : Constituency) (known after : Known) (here : Option Statuses) (code : List ℕ) (statuses : Statuses) (with_past : Bool) (view : View) (ask : Ask) (old : Seen) (r : Result (Result Reply Refusal) Error)
    → constituency_with con.code setup ≡ Some con → con_named ask ≡ Some con.code → here ≡ get known con.code → FindsView setup con here with_past old view → code ≡ con.code → statuses ≡ statuses_of view → after ≡ insert known code statuses
    → IfOk r (λ a. (text : List ℕ) (s t : State) → IsLawfulState setup s → AreKnown setup s.returns known → AreTables setup text s old.now.trees → IsAnswered setup s ask a t → AreKnown setup t.returns after)
seen-known setup con known after here code statuses with_past view ask old (Ok a) found named is finds own statuses_are put = λ text s t lawful held tables answered.
    let seen = finds text s found lawful (subst (IsKnown con s.returns) (sym is) (held con found)) tables in
    subst (λ (m : Returns). AreKnown setup m after) (sym (con-returns setup s t ask con.code a named answered))
    (known-remembered setup s.returns known after con code statuses found own (seen-statuses con s statuses (with_past_of con s view) statuses_are (whole-view with_past con s view seen).0) held put)
seen-known setup con known after here code statuses with_past view ask old (Err e) found named is finds own statuses_are put = tt

-- ---- how far constituencies have come

-- how far one has come is found by what is known of it
pub row-found : (setup : List Constituency) (text : List ℕ) (s : State) (con : Constituency) (known : Known) (here : Option Statuses) (code : List ℕ) (seen : Seen) (rows : List Row) (row : ProgressRow) → constituency_with con.code setup ≡ Some con
    → IsLawfulState setup s → AreKnown setup s.returns known → here ≡ get known code → code ≡ con.code → AreCons rows seen → FindsProgressRow con here rows seen row → AreTables setup text s seen.now.trees → row ≡ progress_row s con
row-found setup text s con known here code seen rows row found lawful held is own all finds tables =
    finds setup s (lawful.known con.code ∙ ap is_some found) (subst (IsKnown con s.returns) (sym (is ∙ ap (get known) own)) (held con found)) all tables.returns tables.cons

-- a call stays inside after those that changed nothing on a connection that is open
pub stays-on : {S : Type 0} (g : Ghosts S) (a b d : Transaction S) → (HasCleanDisk (state g b.conn.now) → IsInside (state g a.conn.now) → IsUnchanged (state g a.conn.now) (state g b.conn.now))
    → StaysInside g a b → StaysFrom IsOpenInside g b d → StaysInside g a d
stays-on g a b d still one two =
    stays-then IsInside IsOpenInside g a b d (λ early inside. let same = still early inside in (inside_still (state g a.conn.now) (state g b.conn.now) same inside, same.0.is_open)) one two

-- the rows of `cons` are what they were
pub cons-still : (old new : Seen) (rows : List Row) → IsUnchanged old new → AreCons rows old → AreCons rows new
cons-still old new rows same all = subst (λ d. IsPermutation (cells (d.trees (tree_of Cons))) rows) (sym same.0.now_is) all

-- the rows of one entry more
pub rows-more : {X Y : Type 0} (f : X → Y) (entries : List X) (i : ℕ) (entry : X) (rows more : List Y) (row : Y) → i < length entries → entry ≡ slice_index_or entries i entry
    → rows ≡ map f (take i entries) → row ≡ f entry → more ≡ rows ++ row ∷ [] → more ≡ map f (take (i + 1) entries)
rows-more f entries i entry rows more row less entry_is before row_is after =
    let next : take (i + 1) entries ≡ take i entries ++ entry ∷ [] = take_more entries i entry less ∙ ap (λ x. take i entries ++ x ∷ []) (sym entry_is) in
    after ∙ ap (λ l. l ++ row ∷ []) before ∙ ap (λ r. map f (take i entries) ++ r ∷ []) row_is ∙ sym (ap (map f) next ∙ map-append f (take i entries) (entry ∷ []))

-- what a call left as it was
pub still-unchanged : (old new : Seen) → IsUnchanged old new → IsInside old → IsStill old new
still-unchanged old new same inside = record { inside = inside_still old new same inside; same = same.0.now_is }

-- so the tables are those of the state still
pub still-state : (setup : List Constituency) (text : List ℕ) (s : State) (old new : Seen) → IsStill old new → AreTables setup text s old.now.trees → IsInState setup text s new
still-state setup text s old new still tables = record { inside = still.inside; tables = subst (λ d. AreTables setup text s d.trees) (sym still.same) tables }

pub progress-carried : (setup : List Constituency) (text : List ℕ) (s : State) (rows : List ProgressRow) (r : Result Reply Refusal) (now : Seen) → reply_seen r ≡ Ok (progress_shown rows) → rows ≡ progress setup s
    → IsInState setup text s now → IsCarriedOut setup text s ShowProgress r now
progress-carried setup text s rows r now shown is here = record { state = s; answered = inl (shown ∙ ap (λ x. Ok (progress_shown x)) is, refl); in_state = here }

-- ---- the return of a station, shown

-- what is carried out whatever is known
pub carries-known : (setup : List Constituency) (known : Known) (ask command : Ask) (old new : Seen) (r : Result (Result Reply Refusal) Error) → command ≡ ask → CarriesOut setup ask old new r → CarriesOutKnown setup known command old new r
carries-known setup known ask command old new (Ok a) is carries clean inside = λ text s lawful held tables. subst (λ q. IsCarriedOut setup text s q a new) (sym is) (carries clean inside text s lawful tables)
carries-known setup known ask command old new (Err e) is carries clean inside = tt

-- what is known is known still
pub shown-keeps : (setup : List Constituency) (known : Known) (station : List ℕ) (command : Ask) (old new : Seen) (r : Result (Result Reply Refusal) Error) → command ≡ ShowReturn station → KeepsKnown setup known known command old new r
shown-keeps setup known station command old new (Ok a) is clean inside = λ text s t lawful held tables answered.
    subst (λ (m : Returns). AreKnown setup m known) (sym (shown-returns setup s t station a (subst (λ q. IsAnswered setup s q a t) is answered))) held
shown-keeps setup known station command old new (Err e) is clean inside = tt
