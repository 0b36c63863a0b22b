-- A message that comes again acts no second time.
use Rattle.std.proofs.Common.{◌≡◌, ◌≢◌, ◌⊎◌, ◌∙◌, ◌+◌, ◌++◌, ℕ, suc, List, [], ◌∷◌, Bool, true, false, cond, Option, Some, None, Result, Ok, Err, refl, sym, ap, subst, inl, inr, arith, count_by}
use Rattle.std.specs.Prelude.{◌||◌, IfSome, bytes_eq, option_and_then, option_map, slice_get}
use Rattle.std.specs.List.{list_any}
use Rattle.std.proofs.lemmas.List.{append_assoc}
use Rattle.std.proofs.lemmas.List.Sums.{sum_by-cons}
use Rattle.matchit.specs.Router.{RouteOf}
use Rattle.serde_json.specs.Data.{Data}
use Rattle.tally_setup.specs.Constituency.{Constituency, ListEntry}
use Rattle.tally_setup.specs.Limits.{IsSetup}
use Rattle.tally_returns.specs.AskSeen.{AskSeen}
use Rattle.tally_returns.specs.State.{State}
use Rattle.tally_returns.specs.declared.ask.Ask.{Ask}
use Rattle.tally_returns.specs.declared.refusal.Refusal.{Refusal}
use Rattle.tally_returns.specs.declared.refusal.Refusal.TheVariants.{NoConstituency, NoStation}
use Rattle.tally_returns.specs.declared.reply.Reply.{Reply}
use Rattle.tally_machine_law.specs.Decisions.{StepsAreOne}
use Rattle.tally_machine_law.specs.Runs.{IsRun, IsSameCommand, is_act}
use Rattle.tally_machine_law.specs.Step.{IsAnswered, IsNotAccepted, IsStep, reply_seen}
use Rattle.tally_keeper.specs.Events.{acts, answers_of, asks_of, lodge_answers, lodge_commands}
use Rattle.tally_returns_rows.specs.Import.{RowAnswer, is_lodged}
use Rattle.tally_keeper.specs.Keeper.{Event, HappensInTurn, Happens, failed_import, request, whole_import}
use Rattle.tally_keeper.specs.Keeper as keeper
use Rattle.tally_theorems.specs.KeeperLaws.{ActsAloneHappen, NoTwoEqualRequestsAct, TheSameImportLodgesNothing, WhatHappensToAKeeperIsARun}
use Rattle.tally_returns_rows.specs.Source.{AreAllGiven, Coming, Delivery, IsSudden}
use Rattle.tally_returns_rows.specs.declared.import.ImportCount.{ImportCount}
use Rattle.tally_returns_rows.specs.declared.import.Row.{Row}
use Rattle.tally_returns_rows.specs.declared.source.ImportFault.{ImportFault}
use Rattle.tally_returns_rows.specs.declared.source.ImportFault.TheVariants as cause
use Rattle.tally_import_records.specs.declared.separator.Sep.{Sep}
use Rattle.tally_import.specs.ReturnRows.{text_coming}
use Rattle.tally_desk_message.specs.declared.message.Message.{Message}
use Rattle.tally_desk_message.specs.declared.message.MessageFault.{MessageFault}
use Rattle.tally_desk_routes.specs.Bodies.{IsBody, con_command, station_command}
use Rattle.tally_desk_routes.specs.Routes.{IsRouted, route_method, takes_get}
use Rattle.tally_desk_routes.specs.declared.routes.Route.{Route}
use Rattle.tally_desk_answer.specs.Outcome.{outcome_text}
use Rattle.tally_desk_answer.specs.Words.{word_text}
use Rattle.tally_desk_answer.specs.declared.word.Word.{Word}
use Rattle.tally_desk_answer.specs.declared.word.Word.TheVariants.{BadBody, NoRoute, Unavailable}
use Rattle.tally_desk_message.specs.LawStatements.{IsSame, IsSameMessage}
use Rattle.tally_theorems.specs.MessageLaws.{ComesTo, IsImportRoute, IsOfImport, StateStays, ReportsNoImport, ReportsNothingLodged}
use Rattle.tally_desk.specs.Requests.{ImportsBody, Named, AtNamed, Orders, OrdersOf, Refuses, Says, con_in_target, import_word, imported_text, station_in_target}
use Rattle.tally_desk.specs.Respond.{Answers, ByMethod, ByRoute, IsAnswer, Office, SaysAny, fault_word, other_method}
use Rattle.tally_theorems.proofs.MessageLemmas.{happen-append}
use Rattle.tally_theorems.proofs.RouteLemmas.{IsImportKind, IsOfKind, IsShown, Kind, import, import-kind, kind, of-kind, order_on_con, order_on_station, shown}
use Rattle.tally_theorems.proofs.SeenLemmas.{same-step}

-- The laws of keepers and of the machine that this rests on.
pub record Laws : Type 0 where
  pub equal : NoTwoEqualRequestsAct
  pub runs : WhatHappensToAKeeperIsARun
  pub imports : TheSameImportLodgesNothing
  pub idle : ActsAloneHappen
  pub one : StepsAreOne

-- the state is what it was, or there is none
abbrev pub Keeps : Option State → Option State → Type 0
Keeps old new = IfSome new (λ s. old ≡ Some s)

pub same-keeps : (old new : Option State) → new ≡ old → Keeps old new
same-keeps old None same = tt
same-keeps old (Some t) same = sym same

-- what does not act leaves the state
idle-keeps : Laws → (setup : List Constituency) (old new : Option State) (event : Event) → Happens setup old event new → acts event ≡ false → Keeps old new
idle-keeps laws setup (Some s) (Some t) event is idle =
    sym (subst (λ b. HappensInTurn setup (Some s) (cond b (event ∷ []) []) (Some t)) idle (laws.idle setup s t (event ∷ []) (Some t, is, refl)))
idle-keeps laws setup (Some s) None event is idle = tt
idle-keeps laws setup None (Some t) event is idle = absurd is
idle-keeps laws setup None None event is idle = tt

-- a keeper that was shut stays so
shut-stays : (setup : List Constituency) (events : List Event) (t : State) → HappensInTurn setup None events (Some t) → ⊥
shut-stays setup [] t is = absurd (let k = is in cc)
shut-stays setup (event ∷ events) t is = go is.0 is.1 is.2 (shut-stays setup events t)
  where
    go : (mid : Option State) → Happens setup None event mid → HappensInTurn setup mid events (Some t) → (HappensInTurn setup None events (Some t) → ⊥) → ⊥
    go (Some s) first rest later = first
    go None first rest later = later rest

-- ---- a command

asks-last : (events : List Event) (a : Ask) (r : Result Reply Refusal) → asks_of (events ++ request a r ∷ []) ≡ asks_of events ++ a ∷ []
asks-last [] a r = refl
asks-last (request b q ∷ events) a r = ap (λ l. b ∷ l) (asks-last events a r)
asks-last (whole_import rows answered count ∷ events) a r =
    ap (λ l. lodge_commands rows ++ l) (asks-last events a r) ∙ sym (append_assoc (lodge_commands rows) (asks_of events) (a ∷ []))
asks-last (failed_import fault ∷ events) a r = asks-last events a r

answers-last : (events : List Event) (a : Ask) (r : Result Reply Refusal) → answers_of (events ++ request a r ∷ []) ≡ answers_of events ++ r ∷ []
answers-last [] a r = refl
answers-last (request b q ∷ events) a r = ap (λ l. q ∷ l) (answers-last events a r)
answers-last (whole_import rows answered count ∷ events) a r =
    ap (λ l. lodge_answers answered ++ l) (answers-last events a r) ∙ sym (append_assoc (lodge_answers answered) (answers_of events) (r ∷ []))
answers-last (failed_import fault ∷ events) a r = answers-last events a r

-- how many elements there are
abbrev many : {X : Type 0} → List X → ℕ
many [] = 0
many (x ∷ xs) = suc (many xs)

at-last : {X : Type 0} (xs : List X) (x : X) → slice_get (xs ++ x ∷ []) (many xs) ≡ Some x
at-last [] x = refl
at-last (y ∷ ys) x = at-last ys x

run-many : (setup : List Constituency) (s t : State) (asks : List Ask) (rs : List (Result Reply Refusal)) → IsRun setup s asks rs t → many asks ≡ many rs
run-many setup s t [] [] is = refl
run-many setup s t [] (r ∷ rs) is = absurd is
run-many setup s t (a ∷ asks) [] is = absurd is
run-many setup s t (a ∷ asks) (r ∷ rs) is = ap (λ n. suc n) (run-many setup is.0 t asks rs is.2)

-- where a command acted, the same one later leaves the state
second-keeps : Laws → (setup : List Constituency) (s : State) (mid later new : Option State) (a b : Ask) (r q : Result Reply Refusal) (events : List Event) → IsSameCommand a b
    → Happens setup (Some s) (request a r) mid → is_act r ≡ true → HappensInTurn setup mid events later → Happens setup later (request b q) new → Keeps later new
second-keeps laws setup s mid None None a b r q events alike first acted between second = tt
second-keeps laws setup s mid None (Some t) a b r q events alike first acted between second = absurd second
second-keeps laws setup s None (Some l) new a b r q events alike first acted between second = absurd (shut-stays setup events l between)
second-keeps laws setup s (Some m) (Some l) new a b r q events alike first acted between second =
    let whole : HappensInTurn setup (Some s) (request a r ∷ (events ++ request b q ∷ [])) new =
    (Some m, first, happen-append setup events (request b q ∷ []) (Some m) (Some l) new between (new, second, refl)) in
    let n = many (asks_of events) in
    let ask_at : slice_get (asks_of (events ++ request b q ∷ [])) n ≡ Some b = ap (λ l. slice_get l n) (asks-last events b q) ∙ at-last (asks_of events) b in
    let even : n ≡ many (answers_of events) = run-many setup m l (asks_of events) (answers_of events) (laws.runs setup m l events between) in
    let answer_at : slice_get (answers_of (events ++ request b q ∷ [])) n ≡ Some q =
    ap (λ l. slice_get l n) (answers-last events b q) ∙ ap (λ k. slice_get (answers_of events ++ q ∷ []) k) even ∙ at-last (answers_of events) q in
    idle-keeps laws setup (Some l) new (request b q) second
    (laws.equal setup s new (request a r ∷ (events ++ request b q ∷ [])) whole 0 (suc n) a b r q (omega arith) refl ask_at alike refl answer_at acted)

-- ---- an import

none-counted : {X : Type 0} (p : X → Bool) (xs : List X) → count_by p xs ≡ 0 → list_any p xs ≡ false
none-counted p [] none = refl
none-counted p (x ∷ xs) none = go (p x) refl (sym (sum_by-cons (λ a. cond (p a) 1 0) x xs) ∙ none) (none-counted p xs)
  where
    go : (b : Bool) → p x ≡ b → cond (p x) 1 0 + count_by p xs ≡ 0 → (count_by p xs ≡ 0 → list_any p xs ≡ false) → list_any p (x ∷ xs) ≡ false
    go true is sum rest = absurd (let one : 1 + count_by p xs ≡ 0 = subst (λ b. cond b 1 0 + count_by p xs ≡ 0) is sum in omega (arith, one))
    go false is sum rest =
        let left : 0 + count_by p xs ≡ 0 = subst (λ b. cond b 1 0 + count_by p xs ≡ 0) is sum in
        ap (λ b. b || list_any p xs) is ∙ rest (omega (arith, left))

-- an import that lodged nothing leaves the state
nothing-keeps : Laws → (setup : List Constituency) (old new : Option State) (rows : List Row) (answered : List RowAnswer) (count : ImportCount)
    → Happens setup old (whole_import rows answered count) new → count.lodged ≡ 0 → Keeps old new
nothing-keeps laws setup None None rows answered count is none = tt
nothing-keeps laws setup None (Some t) rows answered count is none = absurd is
nothing-keeps laws setup (Some s) None rows answered count is none = tt
nothing-keeps laws setup (Some s) (Some t) rows answered count is none =
    idle-keeps laws setup (Some s) (Some t) (whole_import rows answered count) is
    (none-counted is_lodged answered (sym (ap (λ (c : ImportCount). c.lodged) is.2) ∙ none))

-- an import that was not done leaves the state
failed-keeps : Laws → (setup : List Constituency) (old new : Option State) (known : Option Coming) (came : Delivery) (fault : ImportFault)
    → keeper.ImportsComing setup old known came (Err fault) new → Keeps old new
failed-keeps laws setup old new known came fault is = idle-keeps laws setup old new (failed_import fault) is.1.1 refl

-- all rows that came, where it is known what comes
pub all-come : (coming : Coming) (d : Delivery) (rows : List Row) → d.start.coming ≡ Some coming → AreAllGiven d rows → (coming.rows ≡ rows) × (coming.fault ≡ None)
all-come coming d rows is all = subst (λ o. IfSome o (λ (coming : Coming). (coming.rows ≡ rows) × (coming.fault ≡ None))) is all.3

-- where an import was done, the same one later lodges nothing
import-lodges : Laws → (setup : List Constituency) (old mid later new : Option State) (coming : Coming) (came again : Delivery) (count counted : ImportCount) (events : List Event)
    → keeper.ImportsComing setup old (Some coming) came (Ok count) mid → HappensInTurn setup mid events later → keeper.ImportsComing setup later (Some coming) again (Ok counted) new
    → counted.lodged ≡ 0
import-lodges laws setup old mid later new coming came again count counted events (known, done) between (known_again, done_again) =
    let rows_are : done_again.0 ≡ done.0 = sym (all-come coming again done_again.0 known_again done_again.2).0 ∙ (all-come coming came done.0 known done.2).0 in
    let same : Happens setup later (whole_import done.0 done_again.1 counted) new = subst (λ rows. Happens setup later (whole_import rows done_again.1 counted) new) rows_are done_again.3 in
    laws.imports setup done.0 done.1 done_again.1 count counted old mid later new events done.3 between same

-- and leaves the state
import-keeps : Laws → (setup : List Constituency) (old mid later new : Option State) (coming : Coming) (came again : Delivery) (count : ImportCount) (q : Result ImportCount ImportFault)
    → (events : List Event) → keeper.ImportsComing setup old (Some coming) came (Ok count) mid → HappensInTurn setup mid events later
    → keeper.ImportsComing setup later (Some coming) again q new → Keeps later new
import-keeps laws setup old mid later new coming came again count (Err fault) events first between second = failed-keeps laws setup later new (Some coming) again fault second
import-keeps laws setup old mid later new coming came again count (Ok counted) events first between second =
    nothing-keeps laws setup later new second.1.0 second.1.1 counted second.1.3
    (import-lodges laws setup old mid later new coming came again count counted events first between second)

-- ---- two answers to one message

-- both answers carried out the same command
pub record AreCommands (setup : List Constituency) (old mid later new : Option State) (text : List ℕ) : Type 0 where
  pub lists : List ListEntry
  pub ask : Ask
  pub again : Ask
  pub answer : Result Reply Refusal
  pub other : Result Reply Refusal
  pub alike : IsSameCommand ask again
  pub first : Happens setup old (request ask answer) mid
  pub said : text ≡ outcome_text lists answer
  pub second : Happens setup later (request again other) new

-- both imported the same rows
pub record AreImports (setup : List Constituency) (old mid later new : Option State) (text other : List ℕ) : Type 0 where
  pub coming : Coming
  pub came : Delivery
  pub came_again : Delivery
  pub outcome : Result ImportCount ImportFault
  pub outcome_again : Result ImportCount ImportFault
  pub first : keeper.ImportsComing setup old (Some coming) came outcome mid
  pub said : text ≡ imported_text outcome
  pub second : keeper.ImportsComing setup later (Some coming) came_again outcome_again new
  pub said_again : other ≡ imported_text outcome_again

-- the second answer leaves the state, and where it is to an import, it
-- says that nothing was imported
abbrev pub IsIdle : Type 0 → Option State → Option State → List ℕ → Type 0
IsIdle IsImport later new other = Keeps later new × (IsImport → ReportsNoImport other)

-- The second answer leaves the state, or both carried out the same
-- command, which is no import, or both did the same import.
abbrev pub IsTwice : Type 0 → List Constituency → Option State → Option State → Option State → Option State → List ℕ → List ℕ → Type 0
IsTwice IsImport setup old mid later new text other =
    IsIdle IsImport later new other ⊎ (((IsImport → ⊥) × AreCommands setup old mid later new text) ⊎ AreImports setup old mid later new text other)

-- an answer that is a word alone
word-idle : (IsImport : Type 0) (later new : Option State) (w : Word) (other : List ℕ) → Says later w other new → IsIdle IsImport later new other
word-idle IsImport later new w other said = (same-keeps later new said.1, λ of. inl (w, said.0))

-- both answers are of what the path names
named-twice : (old mid later new : Option State) (why : Refusal) (o : Option Named) (F G : List ℕ → Constituency → List ℕ → Option State → Type 0) (text other : List ℕ) (Z : Type 0)
    → (Refuses later why other new → Z) → ((of : List ℕ) (con : Constituency) → F of con text mid → G of con other new → Z)
    → AtNamed why old o F text mid → AtNamed why later o G other new → Z
named-twice old mid later new why None F G text other Z refused each first second = refused second
named-twice old mid later new why (Some named) F G text other Z refused each first second = each named.0 named.1 first second

-- a body is one value
body-one : (body : List ℕ) (v w : Option Data) → IsBody body v → IsBody body w → v ≡ w
body-one body (Some v) (Some w) first second = sym first.1 ∙ second.1
body-one body (Some v) None first second = sym first.1 ∙ second first.0
body-one body None (Some w) first second = sym (first second.0) ∙ second.1
body-one body None None first second = refl

orders-twice : (IsImport : Type 0) → (IsImport → ⊥) → (setup : List Constituency) (old mid later new : Option State) (read : Data → Option AskSeen) (m n : Message) (text other : List ℕ)
    → n.body.items ≡ m.body.items → (con : Constituency) → Orders setup old con read m text mid → Orders setup later con read n other new
    → IsTwice IsImport setup old mid later new text other
orders-twice IsImport none setup old mid later new read m n text other same con (value, is, done) (value_again, is_again, done_again) =
    let again : value_again ≡ value = body-one m.body.items value_again value (subst (λ b. IsBody b value_again) same is_again) is in
    go (option_and_then read value) done (subst (λ v. OrdersOf setup later con (option_and_then read v) other new) again done_again)
  where
    go : (o : Option AskSeen) → OrdersOf setup old con o text mid → OrdersOf setup later con o other new → IsTwice IsImport setup old mid later new text other
    go None first second = inl (word-idle IsImport later new BadBody other second)
    go (Some seen) first second = inr (inl (
      none,
      record {
        lists = con.lists;
        ask = first.0;
        again = second.0;
        answer = first.2.0;
        other = second.2.0;
        alike = first.1 ∙ sym second.1;
        first = first.2.1;
        said = first.2.2;
        second = second.2.1;
      },
    ))

imports-twice : (IsImport : Type 0) (setup : List Constituency) (old mid later new : Option State) (sep : Sep) (m n : Message) (text other : List ℕ)
    → n.body.items ≡ m.body.items → (con : Constituency) → ImportsBody setup old con sep m text mid → ImportsBody setup later con sep n other new
    → IsTwice IsImport setup old mid later new text other
imports-twice IsImport setup old mid later new sep m n text other same con first second = inr (inr (record {
  coming = text_coming con sep m.body.items;
  came = first.0;
  came_again = second.0;
  outcome = first.1;
  outcome_again = second.1;
  first = first.2;
  said = first.3;
  said_again = second.3;
  second = subst (λ b. keeper.ImportsComing setup later (Some (text_coming con sep b)) second.0 second.1 new) same second.2;
}))

shown-keeps : Laws → (setup : List Constituency) (old new : Option State) → IsShown setup old new → Keeps old new
shown-keeps laws setup old new (inl same) = same-keeps old new same
shown-keeps laws setup old new (inr is) = idle-keeps laws setup old new (request is.0 is.1) is.4 is.3

kind-twice : Laws → (k : Kind) (setup : List Constituency) (old mid later new : Option State) (m n : Message) (text other : List ℕ)
    → n.target.items ≡ m.target.items → n.body.items ≡ m.body.items → IsOfKind k setup old m text mid → IsOfKind k setup later n other new
    → IsTwice (IsImportKind k) setup old mid later new text other
kind-twice laws shown setup old mid later new m n text other target body first second = inl (shown-keeps laws setup later new second, λ never. absurd never)
kind-twice laws (order_on_station command) setup old mid later new m n text other target body first second =
    named-twice old mid later new NoStation (station_in_target setup m.target.items) (λ of con. Orders setup old con (station_command command of) m)
    (λ of con. Orders setup later con (station_command command of) n) text other (IsTwice ⊥ setup old mid later new text other)
    (λ refused. inl (same-keeps later new refused.1, λ never. absurd never))
    (λ of. orders-twice ⊥ (λ never. never) setup old mid later new (station_command command of) m n text other body) first
    (subst (λ t. AtNamed NoStation later (station_in_target setup t) (λ of con. Orders setup later con (station_command command of) n) other new) target second)
kind-twice laws (order_on_con command) setup old mid later new m n text other target body first second =
    named-twice old mid later new NoConstituency (con_in_target setup m.target.items) (λ of con. Orders setup old con (con_command command of) m)
    (λ of con. Orders setup later con (con_command command of) n) text other (IsTwice ⊥ setup old mid later new text other)
    (λ refused. inl (same-keeps later new refused.1, λ never. absurd never))
    (λ of. orders-twice ⊥ (λ never. never) setup old mid later new (con_command command of) m n text other body) first
    (subst (λ t. AtNamed NoConstituency later (con_in_target setup t) (λ of con. Orders setup later con (con_command command of) n) other new) target second)
kind-twice laws (import sep) setup old mid later new m n text other target body first second =
    named-twice old mid later new NoConstituency (con_in_target setup m.target.items) (λ of con. ImportsBody setup old con sep m) (λ of con. ImportsBody setup later con sep n) text other (IsTwice (Unit {0}) setup old mid later new text other)
    (λ refused. inl (same-keeps later new refused.1, λ of. inr refused.0)) (λ of con. imports-twice (Unit {0}) setup old mid later new sep m n text other body con) first
    (subst (λ t. AtNamed NoConstituency later (con_in_target setup t) (λ of con. ImportsBody setup later con sep n) other new) target second)

-- a target has one route
pub route-one : (target : List ℕ) (v w : Option (RouteOf Route)) → IsRouted target v → IsRouted target w → v ≡ w
route-one target (Some v) (Some w) first second = sym first.1 ∙ second.1
route-one target (Some v) None first second = sym first.1 ∙ second first.0
route-one target None (Some w) first second = sym (first second.0) ∙ second.1
route-one target None None first second = refl

twice-of : (A B : Type 0) (setup : List Constituency) (old mid later new : Option State) (text other : List ℕ) → (A → B) → IsTwice B setup old mid later new text other → IsTwice A setup old mid later new text other
twice-of A B setup old mid later new text other to (inl idle) = inl (idle.0, λ a. idle.1 (to a))
twice-of A B setup old mid later new text other to (inr (inl are)) = inr (inl (λ a. are.0 (to a), are.1))
twice-of A B setup old mid later new text other to (inr (inr are)) = inr (inr are)

method-twice : Laws → (setup : List Constituency) (old mid later new : Option State) (r : Route) (m n : Message) (text other : List ℕ) (b : Bool)
    → n.target.items ≡ m.target.items → n.body.items ≡ m.body.items → ByMethod setup old r m b text mid → ByMethod setup later r n b other new
    → IsTwice (IsImportRoute r) setup old mid later new text other
method-twice laws setup old mid later new r m n text other true target body first second =
    twice-of (IsImportRoute r) (IsImportKind (kind r)) setup old mid later new text other (import-kind r)
    (kind-twice laws (kind r) setup old mid later new m n text other target body (of-kind setup old mid r m text first) (of-kind setup later new r n other second))
method-twice laws setup old mid later new r m n text other false target body first second = inl (word-idle (IsImportRoute r) later new (other_method (takes_get r)) other second)

message-twice : Laws → (setup : List Constituency) (old mid later new : Option State) (m n : Message) (text other : List ℕ) → IsSameMessage m n
    → IsAnswer setup old (Ok m) text mid → IsAnswer setup later (Ok n) other new → IsTwice (IsOfImport m) setup old mid later new text other
message-twice laws setup old mid later new m n text other (method, target, body) (row, routed, done) (row_again, routed_again, done_again) =
    let here : IsRouted m.target.items row_again = subst (λ t. IsRouted t row_again) target routed_again in
    go row routed done (subst (λ o. ByRoute setup later n (option_map (λ e. e.value) o) other new) (route-one m.target.items row_again row here routed) done_again)
  where
    go : (o : Option (RouteOf Route)) → IsRouted m.target.items o → ByRoute setup old m (option_map (λ e. e.value) o) text mid
        → ByRoute setup later n (option_map (λ e. e.value) o) other new → IsTwice (IsOfImport m) setup old mid later new text other
    go None is first second = inl (word-idle (IsOfImport m) later new NoRoute other second)
    go (Some found) is first second =
        twice-of (IsOfImport m) (IsImportRoute found.value) setup old mid later new text other
        (λ (of : IsOfImport m). let same : of.0 ≡ found = (let k = route-one m.target.items (Some of.0) (Some found) of.1 is in cc) in subst (λ (e : RouteOf Route). IsImportRoute e.value) same of.2)
        (method-twice laws setup old mid later new found.value m n text other (bytes_eq m.method (route_method found.value)) target body first
        (subst (λ l. ByMethod setup later found.value n (bytes_eq l (route_method found.value)) other new) method second))

said-keeps : (old new : Option State) (o : Option Word) (text : List ℕ) → SaysAny old o text new → Keeps old new
said-keeps old new None text is = absurd is
said-keeps old new (Some w) text is = same-keeps old new is.1

-- whether a message is an import
abbrev pub IsImportMessage : Result Message MessageFault → Type 0
IsImportMessage (Ok m) = IsOfImport m
IsImportMessage (Err fault) = ⊥

answer-twice : Laws → (setup : List Constituency) (old mid later new : Option State) (message again : Result Message MessageFault) (text other : List ℕ) → IsSame message again
    → IsAnswer setup old message text mid → IsAnswer setup later again other new → IsTwice (IsImportMessage message) setup old mid later new text other
answer-twice laws setup old mid later new (Ok m) (Ok n) text other same first second = message-twice laws setup old mid later new m n text other same first second
answer-twice laws setup old mid later new (Ok m) (Err fault) text other same first second = absurd same
answer-twice laws setup old mid later new (Err fault) (Ok n) text other same first second = absurd same
answer-twice laws setup old mid later new (Err fault) (Err again) text other same first second = inl (said-keeps later new (fault_word again) other second, λ never. absurd never)

-- Two answers to one message, of which the first was accepted or acted.
answers-twice : Laws → (setup : List Constituency) (old mid later new : Option State) (message again : Result Message MessageFault) (text other : List ℕ) → IsSame message again
    → (Says old Unavailable text mid → ⊥) → IsAnswer setup old message text mid ⊎ Says old Unavailable text mid
    → IsAnswer setup later again other new ⊎ Says later Unavailable other new → IsTwice (IsImportMessage message) setup old mid later new text other
answers-twice laws setup old mid later new message again text other same done (inl first) (inl second) = answer-twice laws setup old mid later new message again text other same first second
answers-twice laws setup old mid later new message again text other same done first (inr said) = inl (word-idle (IsImportMessage message) later new Unavailable other said)
answers-twice laws setup old mid later new message again text other same done (inr said) second = absurd (done said)

-- ---- what acted

-- where the state is another now, an event that leaves it has shut the keeper
changed-shut : (old mid : Option State) → mid ≢ old → Keeps old mid → mid ≡ None
changed-shut old None changed keeps = refl
changed-shut old (Some t) changed keeps = absurd (changed (sym keeps))

shut-none : (setup : List Constituency) (events : List Event) (mid later new : Option State) → mid ≡ None → HappensInTurn setup mid events later
    → ((t : State) → later ≡ None → new ≡ Some t → ⊥) → Keeps later new
shut-none setup events mid later None shut between never = tt
shut-none setup events mid None (Some t) shut between never = absurd (never t refl refl)
shut-none setup events mid (Some l) (Some t) shut between never = absurd (shut-stays setup events l (subst (λ o. HappensInTurn setup o events (Some l)) shut between))

commands-acted : Laws → (setup : List Constituency) (old mid later new : Option State) (text : List ℕ) (events : List Event) → AreCommands setup old mid later new text
    → mid ≢ old → HappensInTurn setup mid events later → Keeps later new
commands-acted laws setup old mid later new text events are changed between = go (is_act are.answer) refl
  where
    never : (t : State) → later ≡ None → new ≡ Some t → ⊥
    never t none some = subst (λ o. Happens setup None (request are.again are.other) o) some (subst (λ o. Happens setup o (request are.again are.other) new) none are.second)

    from : (o : Option State) → o ≡ old → is_act are.answer ≡ true → Keeps later new
    from (Some s) is acted =
        second-keeps laws setup s mid later new are.ask are.again are.answer are.other events are.alike
        (subst (λ o. Happens setup o (request are.ask are.answer) mid) (sym is) are.first) acted between are.second
    from None is acted = shut-none setup events mid later new (shut-now mid (subst (λ o. Happens setup o (request are.ask are.answer) mid) (sym is) are.first)) between never
      where
        shut-now : (o : Option State) → Happens setup None (request are.ask are.answer) o → o ≡ None
        shut-now (Some t) h = absurd h
        shut-now None h = refl

    go : (b : Bool) → is_act are.answer ≡ b → Keeps later new
    go true acted = from old refl acted
    go false idle =
        shut-none setup events mid later new (changed-shut old mid changed (idle-keeps laws setup old mid (request are.ask are.answer) are.first idle)) between never

imports-acted : Laws → (setup : List Constituency) (old mid later new : Option State) (text other : List ℕ) (events : List Event)
    → AreImports setup old mid later new text other → mid ≢ old → HappensInTurn setup mid events later → Keeps later new
imports-acted laws setup old mid later new text other events are changed between = go are.outcome are.first
  where
    never : (t : State) → later ≡ None → new ≡ Some t → ⊥
    never t none some = by are.outcome_again are.second
      where
        by : (q : Result ImportCount ImportFault) → keeper.ImportsComing setup later (Some are.coming) are.came_again q new → ⊥
        by (Ok count) is = subst (λ o. Happens setup None (whole_import is.1.0 is.1.1 count) o) some (subst (λ o. Happens setup o (whole_import is.1.0 is.1.1 count) new) none is.1.3)
        by (Err fault) is = subst (λ o. Happens setup None (failed_import fault) o) some (subst (λ o. Happens setup o (failed_import fault) new) none is.1.1)

    go : (r : Result ImportCount ImportFault) → keeper.ImportsComing setup old (Some are.coming) are.came r mid → Keeps later new
    go (Ok count) first = import-keeps laws setup old mid later new are.coming are.came are.came_again count are.outcome_again events first between are.second
    go (Err fault) first = shut-none setup events mid later new (changed-shut old mid changed (failed-keeps laws setup old mid (Some are.coming) are.came fault first)) between never

twice-acted : Laws → (IsImport : Type 0) (setup : List Constituency) (old mid later new : Option State) (text other : List ℕ) (events : List Event)
    → mid ≢ old → HappensInTurn setup mid events later → IsTwice IsImport setup old mid later new text other → Keeps later new
twice-acted laws IsImport setup old mid later new text other events changed between (inl idle) = idle.0
twice-acted laws IsImport setup old mid later new text other events changed between (inr (inl are)) = commands-acted laws setup old mid later new text events are.1 changed between
twice-acted laws IsImport setup old mid later new text other events changed between (inr (inr are)) = imports-acted laws setup old mid later new text other events are changed between

-- ---- what was accepted

-- the second answer to an import leaves the state, and says that nothing was lodged or imported
abbrev pub IsVain : Option State → Option State → List ℕ → Type 0
IsVain later new other = Keeps later new × (ReportsNothingLodged other ⊎ ReportsNoImport other)

-- the fault of an import that was accepted is what comes of its text
pub fault-comes : (setup : List Constituency) (old mid : Option State) (coming : Coming) (came : Delivery) (fault : ImportFault)
    → (imported_text (Err fault) ≢ word_text Unavailable) → keeper.ImportsComing setup old (Some coming) came (Err fault) mid → coming.fault ≡ Some fault
fault-comes setup old mid coming came fault good first = go first.1.0
  where
    sudden : (f : ImportFault) → imported_text (Err f) ≢ word_text Unavailable → IsSudden f → ⊥
    sudden cause.BadHeader g h = h
    sudden cause.TooLong g h = h
    sudden cause.Read g h = g refl
    sudden cause.Memory g h = g refl
    sudden cause.Store g h = h

    go : keeper.IsImportFault came fault → coming.fault ≡ Some fault
    go (rows, are, inl (inl own)) = absurd (subst (λ f. imported_text (Err f) ≢ word_text Unavailable) own good refl)
    go (rows, are, inl (inr own)) = absurd (subst (λ f. imported_text (Err f) ≢ word_text Unavailable) own good refl)
    go (rows, are, inr (inl (end, inl h))) = absurd (sudden fault good h)
    go (rows, are, inr (inl (end, inr h))) = (subst (λ o. IfSome o (λ (coming : Coming). (coming.rows ≡ rows) × (coming.fault ≡ Some fault))) first.0 h).1
    go (rows, are, inr (inr h)) = let k : Some coming ≡ None = sym first.0 ∙ h.2 in absurd (let l = k in cc)

-- an import that was not done for a fault of its text is not done later
pub failed-again : (setup : List Constituency) (old mid later new : Option State) (coming : Coming) (came again : Delivery) (fault : ImportFault) (count : ImportCount)
    → (imported_text (Err fault) ≢ word_text Unavailable) → keeper.ImportsComing setup old (Some coming) came (Err fault) mid → keeper.ImportsComing setup later (Some coming) again (Ok count) new → ⊥
failed-again setup old mid later new coming came again fault count good first second =
    let k : None ≡ Some fault = sym (all-come coming again second.1.0 second.0 second.1.2).1 ∙ fault-comes setup old mid coming came fault good first in absurd (let l = k in cc)

-- what an import is answered that was not done
fault-vain : Laws → (setup : List Constituency) (later new : Option State) (coming : Coming) (again : Delivery) (fault : ImportFault) (other : List ℕ)
    → keeper.ImportsComing setup later (Some coming) again (Err fault) new → other ≡ imported_text (Err fault) → IsVain later new other
fault-vain laws setup later new coming again fault other second said = (failed-keeps laws setup later new (Some coming) again fault second, inr (inl (import_word fault, said)))

imports-again : Laws → (setup : List Constituency) (old mid later new : Option State) (text other : List ℕ) (events : List Event)
    → AreImports setup old mid later new text other → text ≢ word_text Unavailable → HappensInTurn setup mid events later → IsVain later new other
imports-again laws setup old mid later new text other events are good between =
    go are.outcome are.outcome_again are.first (subst (λ t. t ≢ word_text Unavailable) are.said good) are.second are.said_again
  where
    go : (r q : Result ImportCount ImportFault) → keeper.ImportsComing setup old (Some are.coming) are.came r mid → imported_text r ≢ word_text Unavailable
        → keeper.ImportsComing setup later (Some are.coming) are.came_again q new → other ≡ imported_text q → IsVain later new other
    go (Ok count) (Err fault) first fine second said = fault-vain laws setup later new are.coming are.came_again fault other second said
    go (Err earlier) (Err fault) first fine second said = fault-vain laws setup later new are.coming are.came_again fault other second said
    go (Ok count) (Ok counted) first fine second said = (
      import-keeps laws setup old mid later new are.coming are.came are.came_again count (Ok counted) events first between second,
      inl (counted, import-lodges laws setup old mid later new are.coming are.came are.came_again count counted events first between second, said),
    )
    go (Err fault) (Ok counted) first fine second said =
        absurd (failed-again setup old mid later new are.coming are.came are.came_again fault counted fine first second)

-- what was answered otherwise than with 503 was accepted
accepted : (lists : List ListEntry) (r : Result Reply Refusal) → outcome_text lists r ≢ word_text Unavailable → IsNotAccepted r → ⊥
accepted lists r good (inl is) = subst (λ r. outcome_text lists r ≢ word_text Unavailable) is good refl
accepted lists r good (inr is) = subst (λ r. outcome_text lists r ≢ word_text Unavailable) is good refl

-- a command that comes again in the state that it left
commands-again : Laws → (setup : List Constituency) (old mid new : Option State) (text : List ℕ) → IsSetup setup → AreCommands setup old mid mid new text
    → text ≢ word_text Unavailable → Keeps mid new
commands-again laws setup None None None text ok are good = tt
commands-again laws setup None None (Some u) text ok are good = absurd are.second
commands-again laws setup None (Some t) new text ok are good = absurd are.first
commands-again laws setup (Some s) None new text ok are good = absurd (accepted are.lists are.answer (subst (λ t. t ≢ word_text Unavailable) are.said good) (inr are.first))
commands-again laws setup (Some s) (Some t) None text ok are good = tt
commands-again laws setup (Some s) (Some t) (Some u) text ok are good = go (is_act are.answer) refl
  where
    step : IsAnswered setup s are.ask are.answer t → IsStep setup s are.ask are.answer t
    step (inl is) = is
    step (inr is) = absurd (accepted are.lists are.answer (subst (λ t. t ≢ word_text Unavailable) are.said good) is.0)

    idle : s ≡ t → IsAnswered setup t are.again are.other u → ◌≡◌ {A = Option State} (Some t) (Some u)
    idle same (inr is) = ap (λ (x : State). Some x) (sym is.1)
    idle same (inl is) =
        let there : IsStep setup s are.ask are.other u = same-step setup s are.ask are.again (reply_seen are.other) u are.alike (subst (λ (x : State). IsStep setup x are.again are.other u) (sym same) is) in
        ap (λ (x : State). Some x) (laws.one setup s t u are.ask (reply_seen are.answer) (reply_seen are.other) ok (step are.first) there).1

    go : (b : Bool) → is_act are.answer ≡ b → Keeps (Some t) (Some u)
    go true acted = second-keeps laws setup s (Some t) (Some t) (Some u) are.ask are.again are.answer are.other [] are.alike are.first acted refl are.second
    go false quiet =
        let kept : ◌≡◌ {A = Option State} (Some s) (Some t) = idle-keeps laws setup (Some s) (Some t) (request are.ask are.answer) are.first quiet in
        idle (let k = kept in cc) are.second

twice-again : Laws → (IsImport : Type 0) (setup : List Constituency) (old mid new : Option State) (text other : List ℕ) → IsSetup setup
    → text ≢ word_text Unavailable → IsTwice IsImport setup old mid mid new text other → Keeps mid new
twice-again laws IsImport setup old mid new text other ok good (inl idle) = idle.0
twice-again laws IsImport setup old mid new text other ok good (inr (inl are)) = commands-again laws setup old mid new text ok are.1 good
twice-again laws IsImport setup old mid new text other ok good (inr (inr are)) = (imports-again laws setup old mid mid new text other [] are good refl).0

twice-import : Laws → (IsImport : Type 0) (setup : List Constituency) (old mid later new : Option State) (text other : List ℕ) (events : List Event) → IsImport
    → text ≢ word_text Unavailable → HappensInTurn setup mid events later → IsTwice IsImport setup old mid later new text other → IsVain later new other
twice-import laws IsImport setup old mid later new text other events is good between (inl idle) = (idle.0, inr (idle.1 is))
twice-import laws IsImport setup old mid later new text other events is good between (inr (inl are)) = absurd (are.0 is)
twice-import laws IsImport setup old mid later new text other events is good between (inr (inr are)) = imports-again laws setup old mid later new text other events are good between

-- ---- the laws

-- the second answer, over the setup of the first
second-answer : (setup : List Constituency) (later new : Office) (again : Result Message MessageFault) (other : List ℕ) → later.setup ≡ setup → Answers later again other new
    → IsAnswer setup later.state again other new.state ⊎ Says later.state Unavailable other new.state
second-answer setup later new again other same is =
    subst (λ s. IsAnswer s later.state again other new.state ⊎ Says later.state Unavailable other new.state) same is.1

pub acted-again : Laws → (old mid later new : Office) (message again : Result Message MessageFault) (text other : List ℕ) (events : List Event)
    → IsSame message again → Answers old message text mid → mid.state ≢ old.state → ComesTo mid events later → Answers later again other new → StateStays later new
acted-again laws old mid later new message again text other events same first changed between second =
    twice-acted laws (IsImportMessage message) old.setup old.state mid.state later.state new.state text other events changed
    (subst (λ s. HappensInTurn s mid.state events later.state) first.0 between.1)
    (answers-twice laws old.setup old.state mid.state later.state new.state message again text other same (λ said. changed said.1) first.1
    (second-answer old.setup later new again other (between.0 ∙ first.0) second))

pub accepted-again : Laws → (old mid new : Office) (message again : Result Message MessageFault) (text other : List ℕ)
    → IsSetup old.setup → IsSame message again → Answers old message text mid → text ≢ word_text Unavailable → Answers mid again other new → StateStays mid new
accepted-again laws old mid new message again text other ok same first good second =
    twice-again laws (IsImportMessage message) old.setup old.state mid.state new.state text other ok good
    (answers-twice laws old.setup old.state mid.state mid.state new.state message again text other same (λ said. good said.0) first.1
    (second-answer old.setup mid new again other first.0 second))

pub imported-again : Laws → (old mid later new : Office) (m again : Message) (text other : List ℕ) (events : List Event)
    → IsSameMessage m again → IsOfImport m → Answers old (Ok m) text mid → text ≢ word_text Unavailable → ComesTo mid events later
    → Answers later (Ok again) other new → StateStays later new × (ReportsNothingLodged other ⊎ ReportsNoImport other)
imported-again laws old mid later new m again text other events same is first good between second =
    twice-import laws (IsOfImport m) old.setup old.state mid.state later.state new.state text other events is good
    (subst (λ s. HappensInTurn s mid.state events later.state) first.0 between.1)
    (answers-twice laws old.setup old.state mid.state later.state new.state (Ok m) (Ok again) text other same (λ said. good said.0) first.1
    (second-answer old.setup later new (Ok again) other (between.0 ∙ first.0) second))
