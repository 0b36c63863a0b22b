-- What each connection of a serving did, and that returns were entered twice by connections.
use Rattle.std.proofs.Common.{◌≡◌, ◌⊎◌, ◌∙◌, ℕ, zero, suc, List, [], ◌∷◌, Bool, true, false, Option, Some, None, Result, Ok, Err, map, refl, sym, ap, subst, inl, inr}
use Rattle.std.specs.Prelude.{All, IfSome, bytes_eq, codes, option_and_then, option_map, slice_get}
use Rattle.std.proofs.lemmas.List.Elements.{All-cons, All-nil}
use Rattle.std.proofs.lemmas.Slice.Eq.{bytes_eq-Decides}
use Rattle.matchit.specs.Router.{RouteOf}
use Rattle.serde_json.specs.Data.{Data}
use Rattle.tally_setup.specs.Constituency.{Constituency, ListEntry}
use Rattle.tally_setup.specs.Setup.{constituency_with, station_with}
use Rattle.tally_setup.specs.declared.constituency.Station.{Station}
use Rattle.tally_returns.specs.AskSeen.{AskSeen, ask_seen}
use Rattle.tally_returns.specs.AskSeen as of_seen
use Rattle.tally_returns.specs.Counts.{VoteCounts}
use Rattle.tally_returns.specs.Named.{slip_named, station_named}
use Rattle.tally_returns.specs.Return.{StationReturn}
use Rattle.tally_returns.specs.State.{State, opening}
use Rattle.tally_returns.specs.declared.ask.Ask.{Ask}
use Rattle.tally_returns.specs.declared.ask.Ask.TheVariants as ask
use Rattle.tally_returns.specs.declared.refusal.Refusal.TheVariants.{NoConstituency, NoStation}
use Rattle.tally_returns.specs.declared.reply.Reply.{Reply}
use Rattle.tally_returns.specs.declared.reply.Reply.TheVariants as reply
use Rattle.tally_returns.specs.declared.refusal.Refusal.{Refusal}
use Rattle.tally_machine_law.specs.EnteredTwice.{Brings, is_first_entry, is_second_entry}
use Rattle.tally_machine_law.specs.Runs.{is_act}
use Rattle.tally_machine_law.proofs.EnteredTwiceLemmas.{certified-each}
use Rattle.tally_machine_law.proofs.ReturnStepLemmas.{opening-lawful}
use Rattle.tally_keeper.specs.EnteredTwice.{ActsIn, BringsIn, HoldsAt, IsEnteredTwiceIn}
use Rattle.tally_keeper.specs.Events.{BringsCodes, lodge_commands}
use Rattle.tally_keeper.specs.Keeper.{Event, Happens, HappensInTurn, failed_import, request, whole_import}
use Rattle.tally_keeper.specs.Keeper as keeper
use Rattle.tally_returns_rows.specs.Source.{Coming, Delivery}
use Rattle.tally_returns_rows.specs.declared.import.ImportCount.{ImportCount}
use Rattle.tally_returns_rows.specs.declared.import.Row.{Row}
use Rattle.tally_returns_rows.specs.declared.import.Row.TheVariants as of_row
use Rattle.tally_returns_rows.specs.declared.source.ImportFault.{ImportFault}
use Rattle.tally_returns_rows.specs.declared.source.ImportFault.TheVariants.{Memory}
use Rattle.tally_keeper.proofs.EnteredTwiceLemmas.{happen-closed_twice}
use Rattle.tally_keeper.proofs.EventLemmas.{happen-lawful}
use Rattle.tally_import_records.specs.declared.separator.Sep.{Sep}
use Rattle.tally_import.specs.ReturnRows.{text_coming}
use Rattle.tally_desk_message.specs.Connection.{Connection}
use Rattle.tally_desk_message.specs.Message.{IsMessageOrFault}
use Rattle.tally_desk_message.specs.declared.message.Message.{Message}
use Rattle.tally_desk_message.specs.declared.message.MessageFault.{MessageFault}
use Rattle.tally_desk_message.specs.declared.message.MessageFault.TheVariants as fault
use Rattle.tally_desk.specs.Serving.{Follows, IsExchange}
use Rattle.tally_desk_routes.specs.Bodies.{IsCommand, con_command, station_command}
use Rattle.tally_desk_routes.specs.Bodies.{certify_in, codes_under, code_under, draw_in, number_under, reopen_in, text_under, vacate_in}
use Rattle.tally_desk_routes.specs.Routes.{IsRouted, con_of_target, route_method, station_of_target}
use Rattle.tally_desk_routes.specs.declared.routes.ConCommand.{ConCommand}
use Rattle.tally_desk_routes.specs.declared.routes.ConCommand.TheVariants as on_con
use Rattle.tally_desk_routes.specs.declared.routes.Route.{Route}
use Rattle.tally_desk_routes.specs.declared.routes.Route.TheVariants as route
use Rattle.tally_desk_answer.specs.Outcome.{outcome_text}
use Rattle.tally_desk_answer.specs.declared.word.Word.{Word}
use Rattle.tally_desk_answer.specs.declared.word.Word.TheVariants.{Unavailable}
use Rattle.tally_desk.specs.Requests.{AtNamed, ImportsBody, Named, Orders, OrdersOf, Says, con_in_target, imported_text, station_in_target}
use Rattle.tally_desk.specs.Respond.{Answers, ByMethod, ByRoute, IsAnswer, IsAnswerOn, Office, SaysAny, fault_word}
use Rattle.tally_theorems.specs.EnteredTwice.{AreDoneBy, BroughtAt, CertifiedReturnsOfMessagesWereEnteredTwice, ClosedReturnsOfMessagesWereEnteredTwice, DidSo, FirstEntriesAreMessages, IsAskedBy, IsCommandOf, IsDoneBy, IsEnteredTwiceBy, IsFirstEntryOf, IsPosted, IsReportedTo, IsSecondEntryOf, ReportsWhatCame, SecondEntriesAreMessages, ServingsAreDone}
use Rattle.tally_theorems.proofs.MessageLemmas.{IsCoded, ReadsCodes, and-some, bind-some, con-coded, slip-is, slip_seen, station-coded}
use Rattle.tally_theorems.proofs.RouteLemmas.{IsShown, of-kind}

-- ---- commands on constituencies name no station

abbrev station_seen : AskSeen → Option (List ℕ)
station_seen (of_seen.lodge station slip counts) = Some station
station_seen (of_seen.query station rev note) = Some station
station_seen (of_seen.correct station rev slip counts) = Some station
station_seen (of_seen.close station rev) = Some station
station_seen (of_seen.confirm station rev slip counts) = Some station
station_seen (of_seen.show_return station) = Some station
station_seen other = None

station-is : (a : Ask) → station_named a ≡ station_seen (ask_seen a)
station-is (ask.Lodge station slip counts) = refl
station-is (ask.Query station rev note) = refl
station-is (ask.Correct station rev slip counts) = refl
station-is (ask.Close station rev) = refl
station-is (ask.Confirm station rev slip counts) = refl
station-is (ask.ShowReturn station) = refl
station-is (ask.Draw con edition order) = refl
station-is (ask.Certify con edition) = refl
station-is (ask.Reopen con edition note) = refl
station-is (ask.Vacate con list place note) = refl
station-is (ask.ShowCon con) = refl
station-is ask.ShowProgress = refl

no-station : (seen made : AskSeen) → Some made ≡ Some seen → station_seen made ≡ None → station_seen seen ≡ None
no-station seen made is none = let same : made ≡ seen = (let k = is in cc) in ap station_seen (sym same) ∙ none

draw-none : (of : List ℕ) (body : Data) (seen : AskSeen) → draw_in of body ≡ Some seen → station_seen seen ≡ None
unfolding draw_in
draw-none of body seen is =
    let edition = bind-some (number_under (codes "edition") body) _ seen is in
    let order = bind-some (codes_under (codes "order") body) _ seen edition.2 in
    no-station seen (of_seen.draw of edition.0 order.0) order.2 refl

certify-none : (of : List ℕ) (body : Data) (seen : AskSeen) → certify_in of body ≡ Some seen → station_seen seen ≡ None
unfolding certify_in
certify-none of body seen is =
    let edition = bind-some (number_under (codes "edition") body) _ seen is in no-station seen (of_seen.certify of edition.0) edition.2 refl

reopen-none : (of : List ℕ) (body : Data) (seen : AskSeen) → reopen_in of body ≡ Some seen → station_seen seen ≡ None
unfolding reopen_in
reopen-none of body seen is =
    let edition = bind-some (number_under (codes "edition") body) _ seen is in
    let note = bind-some (text_under (codes "note") body) _ seen edition.2 in
    no-station seen (of_seen.reopen of edition.0 note.0) note.2 refl

vacate-none : (of : List ℕ) (body : Data) (seen : AskSeen) → vacate_in of body ≡ Some seen → station_seen seen ≡ None
unfolding vacate_in
vacate-none of body seen is =
    let list = bind-some (code_under (codes "list") body) _ seen is in
    let place = bind-some (number_under (codes "place") body) _ seen list.2 in
    let note = bind-some (text_under (codes "note") body) _ seen place.2 in
    no-station seen (of_seen.vacate of list.0 place.0 note.0) note.2 refl

con-none : (command : ConCommand) (of : List ℕ) (body : Data) (seen : AskSeen) → con_command command of body ≡ Some seen → station_seen seen ≡ None
con-none on_con.Draw of body seen is = draw-none of body seen is
con-none on_con.Certify of body seen is = certify-none of body seen is
con-none on_con.Reopen of body seen is = reopen-none of body seen is
con-none on_con.Vacate of body seen is = vacate-none of body seen is

-- ---- what a message did

-- one thing came to an office, as the message asks and as the answer reports, or nothing
data IsDeed (setup : List Constituency) (m : Message) (text : List ℕ) (old new : Option State) : Type 0 where
  nothing : new ≡ old → IsDeed setup m text old new
  deed : (event : Event) → Happens setup old event new → BringsCodes event → IsAskedBy setup m event → ReportsWhatCame text event → IsDeed setup m text old new

-- the answer to an act does not depend on the lists
act-text : (lists : List ListEntry) (r : Result Reply Refusal) → is_act r ≡ true → outcome_text lists r ≡ outcome_text [] r
act-text lists (Ok said) act = refl
act-text lists (Err why) act = absurd (let k = act in cc)

-- which code a target names
named-code : {X : Type 0} (at : List ℕ → Option X) (found : Option (List ℕ)) (named : List ℕ × X)
    → option_and_then (λ code. option_map (λ x. (code, x)) (at code)) found ≡ Some named → (found ≡ Some named.0) × (at named.0 ≡ Some named.1)
named-code {X} at None named is = absurd (let k = is in cc)
named-code {X} at (Some code) named is = go (at code) refl is
  where
    go : (o : Option X) → at code ≡ o → option_map (λ x. (code, x)) o ≡ Some named → (Some code ≡ Some named.0) × (at named.0 ≡ Some named.1)
    go None none some = absurd (let k = some in cc)
    go (Some x) there some =
        let same : (code, x) ≡ named = (let k = some in cc) in
        let same_code : code ≡ named.0 = ap (λ (p : List ℕ × X). p.0) same in
        (ap Some same_code, ap at (sym same_code) ∙ there ∙ ap (λ (p : List ℕ × X). Some p.1) same)

-- the code of a station that a target names
named-station : (setup : List Constituency) (found : Option (List ℕ)) (named : Named)
    → option_and_then (λ code. option_map (λ (place : Constituency × Station). (code, place.0)) (station_with code setup)) found ≡ Some named → found ≡ Some named.0
named-station setup None named is = absurd (let k = is in cc)
named-station setup (Some code) named is = go (station_with code setup) is
  where
    go : (o : Option (Constituency × Station)) → option_map (λ (place : Constituency × Station). (code, place.0)) o ≡ Some named → Some code ≡ Some named.0
    go None some = absurd (let k = some in cc)
    go (Some place) some = let same : (code, place.0) ≡ named = (let k = some in cc) in ap (λ (p : Named). Some p.0) same

order-deed : (setup : List Constituency) (old new : Option State) (read : Data → Option AskSeen) (m : Message) (text : List ℕ) (con : Constituency)
    → ReadsCodes read
    → ((a : Ask) (r : Result Reply Refusal) → IsCommand read m.body.items (Some (ask_seen a)) → IsAskedBy setup m (request a r))
    → Orders setup old con read m text new → IsDeed setup m text old new
order-deed setup old new read m text con codes asked is = by (option_and_then read is.0) refl is.2
  where
    coded : (seen : AskSeen) → option_and_then read is.0 ≡ Some seen → IsCoded seen
    coded seen reads = let value = and-some read is.0 seen reads in codes value.0 seen value.2

    by : (o : Option AskSeen) → option_and_then read is.0 ≡ o → OrdersOf setup old con o text new → IsDeed setup m text old new
    by None reads said = nothing said.1
    by (Some seen) reads done =
        let slip : slip_named done.0 ≡ slip_seen seen = slip-is done.0 ∙ ap slip_seen done.1 in
        deed (request done.0 done.2.0) done.2.1 (λ named found. coded seen reads named (sym slip ∙ found))
        (asked done.0 done.2.0 (is.0, is.1, ap Some done.1 ∙ sym reads))
        (λ act. done.2.2 ∙ act-text con.lists done.2.0 act)

module _ (setup : List Constituency) (old new : Option State) (m : Message) (text : List ℕ) (row : RouteOf Route) (routed : IsRouted m.target.items (Some row)) where
  posted : (r : Route) → row.value ≡ r → route_method r ≡ codes "POST" → bytes_eq m.method (route_method r) ≡ true → IsPosted m r
  posted r is post tied = record { row = row; routed = routed; is = is; method = (bytes_eq-Decides m.method (route_method r)).0 tied ∙ post }

  shown-deed : IsShown setup old new → IsDeed setup m text old new
  shown-deed (inl same) = nothing same
  shown-deed (inr is) = deed (request is.0 is.1) is.4 is.2 (λ station named act. absurd (let no : true ≡ false = sym act ∙ is.3 in cc))
      (λ act. absurd (let no : true ≡ false = sym act ∙ is.3 in cc))

  import-deed : (sep : Sep) → IsPosted m (route.Import sep) → (named : Named) → con_in_target setup m.target.items ≡ Some named
      → ImportsBody setup old named.1 sep m text new → IsDeed setup m text old new
  import-deed sep post named names is = by is.0 is.1 is.2 is.3
    where
      by : (d : Delivery) (r : Result ImportCount ImportFault) → keeper.ImportsComing setup old (Some (text_coming named.1 sep m.body.items)) d r new → text ≡ imported_text r → IsDeed setup m text old new
      by d (Ok count) came reported =
          let target = named-code (λ code. constituency_with code setup) (con_of_target m.target.items) named names in
          let coming : IfSome (Some (text_coming named.1 sep m.body.items)) (λ (coming : Coming). (coming.rows ≡ came.1.0) × (coming.fault ≡ None)) =
          subst (λ (o : Option Coming). IfSome o (λ (coming : Coming). (coming.rows ≡ came.1.0) × (coming.fault ≡ None))) came.0 came.1.2.3 in
          deed (whole_import came.1.0 came.1.1 count) came.1.3 tt
          (record { sep = sep; posted = post; code = named.0; target = target.0; con = named.1; found = target.1; body = coming.0 })
          reported
      by d (Err why) came reported = deed (failed_import why) came.1.1 tt tt tt

  -- what a target names, or nothing that the setup has
  at-named : (why : Refusal) (o found : Option Named) (F : List ℕ → Constituency → List ℕ → Option State → Type 0)
      → ((named : Named) → found ≡ Some named → F named.0 named.1 text new → IsDeed setup m text old new) → found ≡ o → AtNamed why old o F text new → IsDeed setup m text old new
  at-named why None found F each names is = nothing is.1
  at-named why (Some named) found F each names is = each named names is

  on-route : (r : Route) → row.value ≡ r → bytes_eq m.method (route_method r) ≡ true → IsAnswerOn setup old r m text new → IsDeed setup m text old new
  on-route route.Progress at tied is = shown-deed (of-kind setup old new route.Progress m text is)
  on-route route.Return at tied is = shown-deed (of-kind setup old new route.Return m text is)
  on-route route.Con at tied is = shown-deed (of-kind setup old new route.Con m text is)
  on-route (route.Report which) at tied is = shown-deed (of-kind setup old new (route.Report which) m text is)
  on-route route.Returns at tied is = shown-deed (of-kind setup old new route.Returns m text is)
  on-route route.Stations at tied is = shown-deed (of-kind setup old new route.Stations m text is)
  on-route route.Country at tied is = shown-deed (of-kind setup old new route.Country m text is)
  on-route route.Result at tied is = shown-deed (of-kind setup old new route.Result m text is)
  on-route route.Results at tied is = shown-deed (of-kind setup old new route.Results m text is)
  on-route (route.OnStation command) at tied is =
      at-named NoStation (station_in_target setup m.target.items) (station_in_target setup m.target.items) (λ code con. Orders setup old con (station_command command code) m)
      (λ named names orders. order-deed setup old new (station_command command named.0) m text named.1 (station-coded command named.0)
      (λ a r body station is_named act. record {
        command = command;
        posted = posted (route.OnStation command) at refl tied;
        station = named.0;
        target = named-station setup (station_of_target m.target.items) named names;
        body = body;
      }) orders) refl is
  on-route (route.OnCon command) at tied is =
      at-named NoConstituency (con_in_target setup m.target.items) (con_in_target setup m.target.items) (λ code con. Orders setup old con (con_command command code) m)
      (λ named names orders. order-deed setup old new (con_command command named.0) m text named.1 (con-coded command named.0)
      (λ a r body station is_named act.
      let value = and-some (con_command command named.0) body.0 (ask_seen a) (sym body.2) in
      absurd (let no : None ≡ Some station = sym (con-none command named.0 value.0 (ask_seen a) value.2) ∙ sym (station-is a) ∙ is_named in cc)) orders) refl is
  on-route (route.Import sep) at tied is =
      at-named NoConstituency (con_in_target setup m.target.items) (con_in_target setup m.target.items) (λ code con. ImportsBody setup old con sep m)
      (λ named names imports. import-deed sep (posted (route.Import sep) at refl tied) named names imports) refl is
  on-route (route.Trial sep) at tied is = shown-deed (of-kind setup old new (route.Trial sep) m text is)

  by-method : (b : Bool) → bytes_eq m.method (route_method row.value) ≡ b → ByMethod setup old row.value m b text new → IsDeed setup m text old new
  by-method true tied is = on-route row.value refl tied is
  by-method false untied is = nothing is.1

message-deed : (setup : List Constituency) (old new : Option State) (m : Message) (text : List ℕ) → IsAnswer setup old (Ok m) text new ⊎ Says old Unavailable text new → IsDeed setup m text old new
message-deed setup old new m text (inr said) = nothing said.1
message-deed setup old new m text (inl is) = by is.0 is.1 is.2
  where
    by : (o : Option (RouteOf Route)) → IsRouted m.target.items o → ByRoute setup old m (option_map (λ e. e.value) o) text new → IsDeed setup m text old new
    by None routed said = nothing said.1
    by (Some row) routed answer = by-method setup old new m text row routed (bytes_eq m.method (route_method row.value)) refl answer

-- ---- what a connection did

abbrev HasDone : Office → Connection → Connection → Office → Type 0
HasDone old c d new = (did : Option Event) × IsDoneBy old c did new × IfSome did (IsReportedTo c d)

fault-same : (setup : List Constituency) (old new : Option State) (why : MessageFault) (text : List ℕ) → IsAnswer setup old (Err why) text new ⊎ Says old Unavailable text new → new ≡ old
fault-same setup old new why text (inr said) = said.1
fault-same setup old new why text (inl is) = by (fault_word why) is
  where
    by : (o : Option Word) → SaysAny old o text new → new ≡ old
    by None says = absurd says
    by (Some w) says = says.1

exchange-done : (old new : Office) (c d : Connection) (whole : Bool) → IsExchange Answers old c whole d new → HasDone old c d new
exchange-done old new c d whole is = go is.0 is.1 is.2
  where
    idle : (why : MessageFault) (text : List ℕ) → Answers old (Err why) text new → HasDone old c d new
    idle why text answered = (None, (answered.0, fault-same old.setup old.state new.state why text answered.1), tt)

    go : (message : Result Message MessageFault) → IsMessageOrFault c.input c.fails message → Follows Answers old c whole d new message → HasDone old c d new
    go (Ok m) brought sent = by (message-deed old.setup old.state new.state m sent.0 sent.1.1)
      where
        by : IsDeed old.setup m sent.0 old.state new.state → HasDone old c d new
        by (nothing same) = (None, (sent.1.0, same), tt)
        by (deed event happens code asked reported) = (Some event, ((sent.1.0, (new.state, happens, refl)), code, (m, brought, asked)), (sent.0, reported, sent.2))
    go (Err fault.BadHead) brought sent = idle fault.BadHead sent.0 sent.1
    go (Err fault.HeadTooLong) brought sent = idle fault.HeadTooLong sent.0 sent.1
    go (Err fault.LengthRequired) brought sent = idle fault.LengthRequired sent.0 sent.1
    go (Err fault.BadLength) brought sent = idle fault.BadLength sent.0 sent.1
    go (Err fault.BodyTooLong) brought sent = idle fault.BodyTooLong sent.0 sent.1
    go (Err fault.EndedEarly) brought sent = idle fault.EndedEarly sent.0 sent.1
    go (Err fault.Read) brought failed = (None, (ap (λ (o : Office). o.setup) failed.3, ap (λ (o : Office). o.state) failed.3), tt)
    go (Err fault.Memory) brought sent = idle fault.Memory sent.0 sent.1

pub servings-done : ServingsAreDone
servings-done old new [] [] answered is = ([], is.1, tt)
servings-done old new [] (d ∷ ds) answered is = absurd is
servings-done old new (c ∷ cs) [] answered is = absurd is
servings-done old new (c ∷ cs) (d ∷ ds) answered is =
    let first = exchange-done old is.0 c d is.1 is.3 in
    let rest = servings-done is.0 new cs ds is.2 is.5 in
    (first.0 ∷ rest.0, (is.0, first.1, rest.1), (first.2, rest.2))

-- ---- deeds as events

-- a connection that did nothing, as an import that failed
abbrev as_event : Option Event → Event
as_event None = failed_import Memory
as_event (Some event) = event

idle-happens : (setup : List Constituency) (o : Option State) → Happens setup o (failed_import Memory) o
idle-happens setup (Some s) = refl
idle-happens setup None = tt

-- what was done happened
done-happens : (old new : Office) (taken : List Connection) (done : List (Option Event)) → AreDoneBy old taken done new
    → (new.setup ≡ old.setup) × All BringsCodes (map as_event done) × HappensInTurn old.setup old.state (map as_event done) new.state
done-happens old new [] [] is = (ap (λ (o : Office). o.setup) is, All-nil BringsCodes, ap (λ (o : Office). o.state) is)
done-happens old new [] (did ∷ done) is = absurd is
done-happens old new (c ∷ cs) [] is = absurd is
done-happens old new (c ∷ cs) (did ∷ done) is = first did is.1 (done-happens is.0 new cs done is.2)
  where
    first : (did : Option Event) → IsDoneBy old c did is.0
        → (new.setup ≡ is.0.setup) × All BringsCodes (map as_event done) × HappensInTurn is.0.setup is.0.state (map as_event done) new.state
        → (new.setup ≡ old.setup) × All BringsCodes (map as_event (did ∷ done)) × HappensInTurn old.setup old.state (map as_event (did ∷ done)) new.state
    first None same rest = (
      rest.0 ∙ same.0,
      All-cons BringsCodes (failed_import Memory) (map as_event done) tt rest.1,
      (
        old.state,
        idle-happens old.setup old.state,
        subst (λ o. HappensInTurn old.setup o (map as_event done) new.state) same.1 (subst (λ setup. HappensInTurn setup is.0.state (map as_event done) new.state) same.0 rest.2),
      ),
    )
    first (Some event) came rest = (
      rest.0 ∙ came.0.0,
      All-cons BringsCodes event (map as_event done) came.1 rest.1,
      (
        came.0.1.0,
        came.0.1.1,
        subst (λ o. HappensInTurn old.setup o (map as_event done) new.state) came.0.1.2 (subst (λ setup. HappensInTurn setup is.0.state (map as_event done) new.state) came.0.0 rest.2),
      ),
    )

-- where nothing holds of an import that failed, what holds of an event at a place holds of the deed
-- there
deed-at : (Holds : Event → Type 0) → ¬ Holds (failed_import Memory) → (done : List (Option Event)) (place : ℕ) → HoldsAt Holds (map as_event done) place → HoldsAt (DidSo Holds) done place
deed-at Holds not [] place is = absurd (let no : None ≡ Some is.0 = is.1 in cc)
deed-at Holds not (did ∷ done) zero is = by did is.1
  where
    by : (did : Option Event) → Some (as_event did) ≡ Some is.0 → HoldsAt (DidSo Holds) (did ∷ done) 0
    by None at = let same : failed_import Memory ≡ is.0 = (let k = at in cc) in absurd (not (subst Holds (sym same) is.2))
    by (Some event) at = let same : event ≡ is.0 = (let k = at in cc) in (Some event, refl, subst Holds (sym same) is.2)
deed-at Holds not (did ∷ done) (suc place) is = let rest = deed-at Holds not done place (is.0, is.1, is.2) in (rest.0, rest.1, rest.2)

-- and the other way
event-at : (Holds : Event → Type 0) (done : List (Option Event)) (place : ℕ) → HoldsAt (DidSo Holds) done place → HoldsAt Holds (map as_event done) place
event-at Holds [] place is = absurd (let no : None ≡ Some is.0 = is.1 in cc)
event-at Holds (did ∷ done) zero is = by is.0 is.1 is.2
  where
    by : (found : Option Event) → Some did ≡ Some found → DidSo Holds found → HoldsAt Holds (map as_event (did ∷ done)) 0
    by None at so = absurd so
    by (Some event) at so = let same : did ≡ Some event = (let k = at in cc) in (event, ap (λ d. Some (as_event d)) same, so)
event-at Holds (did ∷ done) (suc place) is = let rest = event-at Holds done place (is.0, is.1, is.2) in (rest.0, rest.1, rest.2)

failed-brings : (is_kind : Ask → Result Reply Refusal → Bool) (station : List ℕ) (standing : StationReturn) → ¬ BringsIn is_kind station standing (failed_import Memory)
failed-brings is_kind station standing is = let no : None ≡ Some is.brings.ask = is.brings.at.asked in cc

twice-by : (done : List (Option Event)) (station : List ℕ) (standing : StationReturn) → IsEnteredTwiceIn (map as_event done) station standing → IsEnteredTwiceBy done station standing
twice-by done station standing is = record {
  first = is.first;
  second = is.second;
  apart = is.apart;
  first_entry = deed-at (BringsIn is_first_entry station standing) (failed-brings is_first_entry station standing) done is.first is.first_entry;
  second_entry = deed-at (BringsIn is_second_entry station standing) (failed-brings is_second_entry station standing) done is.second is.second_entry;
  no_other = λ place after other acts. is.no_other place after other (event-at (ActsIn station) done place acts);
}

-- ---- the entries are messages

same-seen : (make : List ℕ → List ℕ → VoteCounts → AskSeen) (m : Message) (station slip : List ℕ) (counts : VoteCounts) (code : List ℕ) (standing : StationReturn)
    → Some code ≡ Some station → Some slip ≡ Some standing.slip → Some counts ≡ Some standing.counts → IsCommandOf m (make code slip counts) → IsCommandOf m (make station standing.slip standing.counts)
same-seen make m station slip counts code standing named slips numbers is =
    let one : code ≡ station = (let k = named in cc) in
    let two : slip ≡ standing.slip = (let k = slips in cc) in
    let three : counts ≡ standing.counts = (let k = numbers in cc) in
    subst (λ c. IsCommandOf m (make station standing.slip c)) three (subst (λ x. IsCommandOf m (make station x counts)) two (subst (λ q. IsCommandOf m (make q slip counts)) one is))

-- a row of an import is a Lodge
lodge-at : (rows : List Row) (place : ℕ) (a : Ask) → slice_get (lodge_commands rows) place ≡ Some a → (station slip : List ℕ) × (counts : VoteCounts) × (a ≡ ask.Lodge station slip counts)
lodge-at [] place a at = absurd (let k = at in cc)
lodge-at (of_row.Lodge (ask.Lodge station slip counts) ∷ rows) zero a at = let same : ask.Lodge station slip counts ≡ a = (let k = at in cc) in (station, slip, counts, sym same)
lodge-at (of_row.Lodge (ask.Lodge station slip counts) ∷ rows) (suc place) a at = lodge-at rows place a at
lodge-at (other ∷ rows) place a at = lodge-at rows place a at

-- a request that was an entry
module _ (setup : List Constituency) (m : Message) (station : List ℕ) (standing : StationReturn) where
  first-request : (a : Ask) (r : Result Reply Refusal) → is_first_entry a r ≡ true → Brings station standing a → IsAskedBy setup m (request a r) → IsFirstEntryOf setup station standing m
  first-request (ask.Lodge code slip counts) (Ok (reply.Lodged rev)) kind brings asked =
      inl (same-seen of_seen.lodge m station slip counts code standing brings.0 brings.1 brings.2 (asked station brings.0 refl))
  first-request (ask.Correct code rev slip counts) (Ok (reply.Moved next)) kind brings asked =
      inr (inl (rev, same-seen (λ q. of_seen.correct q rev) m station slip counts code standing brings.0 brings.1 brings.2 (asked station brings.0 refl)))
  first-request other r kind brings asked = absurd (let k = kind in cc)

  second-request : (a : Ask) (r : Result Reply Refusal) → is_second_entry a r ≡ true → Brings station standing a → IsAskedBy setup m (request a r) → IsSecondEntryOf station standing m
  second-request (ask.Confirm code rev slip counts) (Ok (reply.Moved next)) kind brings asked =
      (rev, same-seen (λ q. of_seen.confirm q rev) m station slip counts code standing brings.0 brings.1 brings.2 (asked station brings.0 refl))
  second-request other r kind brings asked = absurd (let k = kind in cc)

  -- the one request of an event
  at-request : (a b : Ask) (r q : Result Reply Refusal) (place : ℕ) → slice_get (a ∷ []) place ≡ Some b → slice_get (r ∷ []) place ≡ Some q → (a ≡ b) × (r ≡ q)
  at-request a b r q zero asked answered = let one : a ≡ b = (let k = asked in cc) in let two : r ≡ q = (let k = answered in cc) in (one, two)
  at-request a b r q (suc place) asked answered = absurd (let k = asked in cc)

  first-event : (event : Event) → BringsIn is_first_entry station standing event → IsAskedBy setup m event → IsFirstEntryOf setup station standing m
  first-event (request a r) is asked =
      let at = at-request a is.brings.ask r is.brings.r is.place is.brings.at.asked is.brings.at.answered in
      first-request a r (ap (is_first_entry a) at.1 ∙ ap (λ b. is_first_entry b is.brings.r) at.0 ∙ is.brings.kind) (subst (Brings station standing) (sym at.0) is.brings.brings) asked
  first-event (whole_import rows answered count) is asked =
      let lodge = lodge-at rows is.place is.brings.ask is.brings.at.asked in
      let brings : Brings station standing (ask.Lodge lodge.0 lodge.1 lodge.2) = subst (Brings station standing) lodge.3 is.brings.brings in
      inr (inr (rows, is.place, asked, is.brings.at.asked ∙ ap Some lodge.3 ∙ same-lodge lodge.0 lodge.1 lodge.2 brings))
    where
      same-lodge : (code slip : List ℕ) (counts : VoteCounts) → Brings station standing (ask.Lodge code slip counts) → Some (ask.Lodge code slip counts) ≡ Some (ask.Lodge station standing.slip standing.counts)
      same-lodge code slip counts brings =
          let one : code ≡ station = (let k = brings.0 in cc) in
          let two : slip ≡ standing.slip = (let k = brings.1 in cc) in
          let three : counts ≡ standing.counts = (let k = brings.2 in cc) in
          ap (λ q. Some (ask.Lodge q slip counts)) one ∙ ap (λ x. Some (ask.Lodge station x counts)) two ∙ ap (λ c. Some (ask.Lodge station standing.slip c)) three
  first-event (failed_import why) is asked = absurd (let no : None ≡ Some is.brings.ask = is.brings.at.asked in cc)

  second-event : (event : Event) → BringsIn is_second_entry station standing event → IsAskedBy setup m event → IsSecondEntryOf station standing m
  second-event (request a r) is asked =
      let at = at-request a is.brings.ask r is.brings.r is.place is.brings.at.asked is.brings.at.answered in
      second-request a r (ap (is_second_entry a) at.1 ∙ ap (λ b. is_second_entry b is.brings.r) at.0 ∙ is.brings.kind) (subst (Brings station standing) (sym at.0) is.brings.brings) asked
  second-event (whole_import rows answered count) is asked =
      let lodge = lodge-at rows is.place is.brings.ask is.brings.at.asked in
      let no : false ≡ true = sym (ap (λ b. is_second_entry b is.brings.r) lodge.3) ∙ is.brings.kind in
      absurd (let k = no in cc)
  second-event (failed_import why) is asked = absurd (let no : None ≡ Some is.brings.ask = is.brings.at.asked in cc)

-- what a connection did leaves the setup
done-setup : (old new : Office) (c : Connection) (did : Option Event) → IsDoneBy old c did new → new.setup ≡ old.setup
done-setup old new c None is = is.0
done-setup old new c (Some event) is = is.0.0

-- what holds of the deed at a place came of a message of which this holds
brought-at : (Holds : Event → Type 0) (HasMessage : List Constituency → Message → Type 0) → ((setup : List Constituency) (m : Message) (event : Event) → Holds event → IsAskedBy setup m event → HasMessage setup m)
    → (old new : Office) (taken : List Connection) (done : List (Option Event)) → AreDoneBy old taken done new
    → (place : ℕ) → HoldsAt (DidSo Holds) done place → BroughtAt (HasMessage old.setup) taken place
brought-at Holds HasMessage each old new [] [] are place is = absurd (let no : None ≡ Some is.0 = is.1 in cc)
brought-at Holds HasMessage each old new [] (did ∷ done) are place is = absurd are
brought-at Holds HasMessage each old new (c ∷ cs) [] are place is = absurd are
brought-at Holds HasMessage each old new (c ∷ cs) (did ∷ done) are zero is = by did are.1 is.0 is.1 is.2
  where
    by : (did : Option Event) → IsDoneBy old c did are.0 → (found : Option Event) → Some did ≡ Some found → DidSo Holds found → BroughtAt (HasMessage old.setup) (c ∷ cs) 0
    by did came None at so = absurd so
    by None came (Some event) at so = absurd (let k = at in cc)
    by (Some other) came (Some event) at so =
        let same : other ≡ event = (let k = at in cc) in
        (c, refl, (came.2.0, came.2.1, each old.setup came.2.0 other (subst Holds (sym same) so) came.2.2))
brought-at Holds HasMessage each old new (c ∷ cs) (did ∷ done) are (suc place) is =
    let rest = brought-at Holds HasMessage each are.0 new cs done are.2 place (is.0, is.1, is.2) in
    (rest.0, rest.1, (rest.2.0, rest.2.1, subst (λ setup. HasMessage setup rest.2.0) (done-setup old are.0 c did are.1) rest.2.2))

pub first-messages : FirstEntriesAreMessages
first-messages old new taken done are station standing place is =
    brought-at (BringsIn is_first_entry station standing) (λ setup m. IsFirstEntryOf setup station standing m) (λ setup m event. first-event setup m station standing event) old new taken done are place is

pub second-messages : SecondEntriesAreMessages
second-messages old new taken done are station standing place is =
    brought-at (BringsIn is_second_entry station standing) (λ setup m. IsSecondEntryOf station standing m) (λ setup m event. second-event setup m station standing event) old new taken done are place is

-- ---- the laws

pub messages-closed_twice : ClosedReturnsOfMessagesWereEnteredTwice
messages-closed_twice old new taken done t are first last station con place standing at double now closed =
    let came = done-happens old new taken done are in
    let happened = subst (λ o. HappensInTurn old.setup (Some (opening old.setup)) (map as_event done) o) last (subst (λ o. HappensInTurn old.setup o (map as_event done) new.state) first came.2) in
    twice-by done station standing (happen-closed_twice old.setup t (map as_event done) happened station con place standing at double now closed)

pub messages-certified_twice : CertifiedReturnsOfMessagesWereEnteredTwice
messages-certified_twice old new taken done t ok are first last =
    let came = done-happens old new taken done are in
    let happened = subst (λ o. HappensInTurn old.setup (Some (opening old.setup)) (map as_event done) o) last (subst (λ o. HappensInTurn old.setup o (map as_event done) new.state) first came.2) in
    certified-each old.setup t (IsEnteredTwiceBy done) ok (happen-lawful old.setup (opening old.setup) t (map as_event done) came.1 ok (opening-lawful old.setup ok) happened)
    (messages-closed_twice old new taken done t are first last)
