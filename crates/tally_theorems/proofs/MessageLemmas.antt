-- What a message does to an office is what happens to a keeper.
use Rattle.std.proofs.Common.{◌≡◌, ◌⊎◌, ◌∙◌, ◌++◌, ℕ, List, [], ◌∷◌, Bool, true, false, cond, Option, Some, None, Result, Ok, Err, refl, sym, ap, subst, inl, inr}
use Rattle.std.specs.Prelude.{All, IfSome, bytes_eq, codes, option_and_then, option_map, option_to_list}
use Rattle.std.specs.Option.{ForSome}
use Rattle.std.proofs.lemmas.List.Elements.{All-append, All-cons, All-nil}
use Rattle.serde_json.specs.Data.{Data}
use Rattle.serde_json.specs.Find.{as_str, get}
use Rattle.tally_setup.specs.Code.{code_of, is_code}
use Rattle.tally_setup.specs.Constituency.{Constituency}
use Rattle.tally_returns.specs.AskSeen.{AskSeen, ask_seen}
use Rattle.tally_returns.specs.AskSeen as of_seen
use Rattle.tally_returns.specs.Named.{slip_named}
use Rattle.tally_returns.specs.State.{State}
use Rattle.tally_returns.specs.declared.ask.Ask.{Ask}
use Rattle.tally_returns.specs.declared.ask.Ask.TheVariants as ask
use Rattle.tally_returns.specs.declared.refusal.Refusal.{Refusal}
use Rattle.tally_returns.specs.declared.refusal.Refusal.TheVariants.{NoConstituency, NoStation}
use Rattle.tally_keeper.specs.Events.{BringsCodes}
use Rattle.tally_keeper.specs.Keeper.{Event, HappensInTurn, Happens, failed_import, request, whole_import}
use Rattle.tally_keeper.specs.Keeper as keeper
use Rattle.tally_returns_rows.specs.Source.{Coming, Delivery}
use Rattle.tally_returns_rows.specs.declared.import.ImportCount.{ImportCount}
use Rattle.tally_returns_rows.specs.declared.source.ImportFault.{ImportFault}
use Rattle.tally_import.specs.ReturnRows.{text_coming}
use Rattle.tally_desk_message.specs.Connection.{Connection}
use Rattle.tally_desk_message.specs.declared.message.Message.{Message}
use Rattle.tally_desk_message.specs.declared.message.MessageFault.{MessageFault}
use Rattle.tally_desk_message.specs.declared.message.MessageFault.TheVariants as fault
use Rattle.tally_desk.specs.Serving.{Follows, IsExchange, Serves}
use Rattle.tally_desk_routes.specs.Bodies.{◌>>=◌, close_in, as_code, code_under, con_command, counts_of_body, codes_under, certify_in, confirm_in, correct_in, draw_in, lodge_in, number_under, query_in, reopen_in, station_command, text_under, vacate_in}
use Rattle.tally_desk_routes.specs.Routes.{route_method}
use Rattle.tally_desk_routes.specs.declared.routes.Route.{Route}
use Rattle.tally_desk_routes.specs.declared.routes.ConCommand.{ConCommand}
use Rattle.tally_desk_routes.specs.declared.routes.ConCommand.TheVariants as on_con
use Rattle.tally_desk_routes.specs.declared.routes.StationCommand.{StationCommand}
use Rattle.tally_desk_routes.specs.declared.routes.StationCommand.TheVariants as on_station
use Rattle.tally_theorems.specs.MessageLaws.{ComesTo}
use Rattle.tally_desk.specs.Requests.{ImportsBody, Named, AtNamed, Orders, OrdersOf, Says, con_in_target, station_in_target}
use Rattle.tally_desk.specs.Respond.{Answers, ByMethod, ByRoute, IsAnswer, Office, SaysAny, fault_word}
use Rattle.tally_desk_answer.specs.declared.word.Word.{Word}
use Rattle.tally_desk_answer.specs.declared.word.Word.TheVariants.{Unavailable}
use Rattle.tally_theorems.proofs.RouteLemmas.{IsOfKind, IsShown, Kind, import, kind, of-kind, order_on_con, order_on_station, shown}

-- ---- the slips are codes

code-taken : (text slip : List ℕ) → code_of text ≡ Some slip → is_code slip ≡ true
code-taken text slip is = go (is_code text) refl is
  where
    go : (b : Bool) → is_code text ≡ b → cond b (Some text) None ≡ Some slip → is_code slip ≡ true
    go true good taken = let same : text ≡ slip = (let k = taken in cc) in subst (λ t. is_code t ≡ true) same good
    go false good taken = absurd (let k = taken in cc)

-- the steps of a reading, one after the other
pub bind-some : {A B : Type 0} (o : Option A) (next : A → Option B) (b : B) → (o >>= next) ≡ Some b → (a : A) × (o ≡ Some a) × (next a ≡ Some b)
bind-some None next b is = absurd (let k = is in cc)
bind-some (Some a) next b is = (a, refl, is)

pub and-some : {A B : Type 0} (next : A → Option B) (o : Option A) (b : B) → option_and_then next o ≡ Some b → (a : A) × (o ≡ Some a) × (next a ≡ Some b)
and-some next None b is = absurd (let k = is in cc)
and-some next (Some a) b is = (a, refl, is)

code-at : (key : List ℕ) (body : Data) (slip : List ℕ) → code_under key body ≡ Some slip → is_code slip ≡ true
code-at key body slip is =
    let value = and-some as_code (get key body) slip is in
    let text = and-some code_of (as_str value.0) slip value.2 in
    code-taken text.0 slip text.2

-- the slip that is seen of a command
abbrev pub slip_seen : AskSeen → Option (List ℕ)
slip_seen (of_seen.lodge station slip counts) = Some slip
slip_seen (of_seen.correct station rev slip counts) = Some slip
slip_seen (of_seen.confirm station rev slip counts) = Some slip
slip_seen other = None

pub slip-is : (a : Ask) → slip_named a ≡ slip_seen (ask_seen a)
slip-is (ask.Lodge station slip counts) = refl
slip-is (ask.Query station rev note) = refl
slip-is (ask.Correct station rev slip counts) = refl
slip-is (ask.Close station rev) = refl
slip-is (ask.Confirm station rev slip counts) = refl
slip-is (ask.ShowReturn station) = refl
slip-is (ask.Draw con edition order) = refl
slip-is (ask.Certify con edition) = refl
slip-is (ask.Reopen con edition note) = refl
slip-is (ask.Vacate con list place note) = refl
slip-is (ask.ShowCon con) = refl
slip-is ask.ShowProgress = refl

abbrev pub IsCoded : AskSeen → Type 0
IsCoded seen = ForSome (slip_seen seen) (λ slip. is_code slip ≡ true)

of-some : (seen made : AskSeen) → Some made ≡ Some seen → IsCoded made → IsCoded seen
of-some seen made is coded = let same : made ≡ seen = (let k = is in cc) in subst IsCoded same coded

-- a command without a slip
without : (seen made : AskSeen) → Some made ≡ Some seen → slip_seen made ≡ None → IsCoded seen
without seen made is none = of-some seen made is (λ slip found. absurd (let k = sym none ∙ found in cc))

-- a command with one
with-slip : (seen made : AskSeen) (slip : List ℕ) → Some made ≡ Some seen → slip_seen made ≡ Some slip → is_code slip ≡ true → IsCoded seen
with-slip seen made slip is named good =
    of-some seen made is (λ other found. let same : slip ≡ other = (let k = sym named ∙ found in cc) in subst (λ t. is_code t ≡ true) same good)

lodge-coded : (of : List ℕ) (body : Data) (seen : AskSeen) → lodge_in of body ≡ Some seen → IsCoded seen
unfolding lodge_in
lodge-coded of body seen is =
    let slip = bind-some (code_under (codes "slip") body) _ seen is in
    let counts = bind-some (counts_of_body body) _ seen slip.2 in
    with-slip seen (of_seen.lodge of slip.0 counts.0) slip.0 counts.2 refl (code-at (codes "slip") body slip.0 slip.1)

query-coded : (of : List ℕ) (body : Data) (seen : AskSeen) → query_in of body ≡ Some seen → IsCoded seen
unfolding query_in
query-coded of body seen is =
    let rev = bind-some (number_under (codes "rev") body) _ seen is in
    let note = bind-some (text_under (codes "note") body) _ seen rev.2 in
    without seen (of_seen.query of rev.0 note.0) note.2 refl

correct-coded : (of : List ℕ) (body : Data) (seen : AskSeen) → correct_in of body ≡ Some seen → IsCoded seen
unfolding correct_in
correct-coded of body seen is =
    let rev = bind-some (number_under (codes "rev") body) _ seen is in
    let slip = bind-some (code_under (codes "slip") body) _ seen rev.2 in
    let counts = bind-some (counts_of_body body) _ seen slip.2 in
    with-slip seen (of_seen.correct of rev.0 slip.0 counts.0) slip.0 counts.2 refl (code-at (codes "slip") body slip.0 slip.1)

close-coded : (of : List ℕ) (body : Data) (seen : AskSeen) → close_in of body ≡ Some seen → IsCoded seen
unfolding close_in
close-coded of body seen is =
    let rev = bind-some (number_under (codes "rev") body) _ seen is in without seen (of_seen.close of rev.0) rev.2 refl

confirm-coded : (of : List ℕ) (body : Data) (seen : AskSeen) → confirm_in of body ≡ Some seen → IsCoded seen
unfolding confirm_in
confirm-coded of body seen is =
    let rev = bind-some (number_under (codes "rev") body) _ seen is in
    let slip = bind-some (code_under (codes "slip") body) _ seen rev.2 in
    let counts = bind-some (counts_of_body body) _ seen slip.2 in
    with-slip seen (of_seen.confirm of rev.0 slip.0 counts.0) slip.0 counts.2 refl (code-at (codes "slip") body slip.0 slip.1)

draw-coded : (of : List ℕ) (body : Data) (seen : AskSeen) → draw_in of body ≡ Some seen → IsCoded seen
unfolding draw_in
draw-coded of body seen is =
    let edition = bind-some (number_under (codes "edition") body) _ seen is in
    let order = bind-some (codes_under (codes "order") body) _ seen edition.2 in
    without seen (of_seen.draw of edition.0 order.0) order.2 refl

certify-coded : (of : List ℕ) (body : Data) (seen : AskSeen) → certify_in of body ≡ Some seen → IsCoded seen
unfolding certify_in
certify-coded of body seen is =
    let edition = bind-some (number_under (codes "edition") body) _ seen is in without seen (of_seen.certify of edition.0) edition.2 refl

reopen-coded : (of : List ℕ) (body : Data) (seen : AskSeen) → reopen_in of body ≡ Some seen → IsCoded seen
unfolding reopen_in
reopen-coded of body seen is =
    let edition = bind-some (number_under (codes "edition") body) _ seen is in
    let note = bind-some (text_under (codes "note") body) _ seen edition.2 in
    without seen (of_seen.reopen of edition.0 note.0) note.2 refl

vacate-coded : (of : List ℕ) (body : Data) (seen : AskSeen) → vacate_in of body ≡ Some seen → IsCoded seen
unfolding vacate_in
vacate-coded of body seen is =
    let list = bind-some (code_under (codes "list") body) _ seen is in
    let place = bind-some (number_under (codes "place") body) _ seen list.2 in
    let note = bind-some (text_under (codes "note") body) _ seen place.2 in
    without seen (of_seen.vacate of list.0 place.0 note.0) note.2 refl

-- each command that is read has a code as its slip, if it has one
abbrev pub ReadsCodes : (Data → Option AskSeen) → Type 0
ReadsCodes read = (value : Data) (seen : AskSeen) → read value ≡ Some seen → IsCoded seen

pub station-coded : (command : StationCommand) (of : List ℕ) → ReadsCodes (station_command command of)
station-coded on_station.Lodge of body seen is = lodge-coded of body seen is
station-coded on_station.Query of body seen is = query-coded of body seen is
station-coded on_station.Correct of body seen is = correct-coded of body seen is
station-coded on_station.Close of body seen is = close-coded of body seen is
station-coded on_station.Confirm of body seen is = confirm-coded of body seen is

pub con-coded : (command : ConCommand) (of : List ℕ) → ReadsCodes (con_command command of)
con-coded on_con.Draw of body seen is = draw-coded of body seen is
con-coded on_con.Certify of body seen is = certify-coded of body seen is
con-coded on_con.Reopen of body seen is = reopen-coded of body seen is
con-coded on_con.Vacate of body seen is = vacate-coded of body seen is

-- ---- what a message brings

-- One event came to an office with a setup, or none.
abbrev pub IsEvent : List Constituency → Option State → Option State → Type 0
IsEvent setup old new = (event : Option Event) × IfSome event BringsCodes × HappensInTurn setup old (option_to_list event) new

none-came : (setup : List Constituency) (old new : Option State) → new ≡ old → IsEvent setup old new
none-came setup old new same = (None, tt, same)

one-came : (setup : List Constituency) (old new : Option State) (event : Event) → BringsCodes event → Happens setup old event new → IsEvent setup old new
one-came setup old new event as_code is = (Some event, as_code, (new, is, refl))

said-came : (setup : List Constituency) (old new : Option State) (o : Option Word) (text : List ℕ) → SaysAny old o text new → IsEvent setup old new
said-came setup old new None text is = absurd is
said-came setup old new (Some w) text is = none-came setup old new is.1

shown-came : (setup : List Constituency) (old new : Option State) → IsShown setup old new → IsEvent setup old new
shown-came setup old new (inl same) = none-came setup old new same
shown-came setup old new (inr is) = one-came setup old new (request is.0 is.1) is.2 is.4

named-came : (setup : List Constituency) (old new : Option State) (why : Refusal) (o : Option Named) (F : List ℕ → Constituency → List ℕ → Option State → Type 0) (text : List ℕ)
    → ((of : List ℕ) (con : Constituency) → F of con text new → IsEvent setup old new) → AtNamed why old o F text new → IsEvent setup old new
named-came setup old new why None F text each is = none-came setup old new is.1
named-came setup old new why (Some named) F text each is = each named.0 named.1 is

order-came : (setup : List Constituency) (old new : Option State) (read : Data → Option AskSeen) (m : Message) (text : List ℕ) (con : Constituency)
    → ReadsCodes read → Orders setup old con read m text new → IsEvent setup old new
order-came setup old new read m text con codes is = at-value is.0 is.2
  where
    by : (o : Option AskSeen) → ((seen : AskSeen) → o ≡ Some seen → IsCoded seen) → OrdersOf setup old con o text new → IsEvent setup old new
    by None coded said = none-came setup old new said.1
    by (Some seen) coded done =
        let slip : slip_named done.0 ≡ slip_seen seen = slip-is done.0 ∙ ap slip_seen done.1 in
        one-came setup old new (request done.0 done.2.0) (λ named found. coded seen refl named (sym slip ∙ found)) done.2.1

    at-value : (o : Option Data) → OrdersOf setup old con (option_and_then read o) text new → IsEvent setup old new
    at-value None said = none-came setup old new said.1
    at-value (Some value) done = by (read value) (codes value) done

import-came : (setup : List Constituency) (old new : Option State) (known : Option Coming) (d : Delivery) (r : Result ImportCount ImportFault)
    → keeper.ImportsComing setup old known d r new → IsEvent setup old new
import-came setup old new known d (Ok count) is = one-came setup old new (whole_import is.1.0 is.1.1 count) tt is.1.3
import-came setup old new known d (Err why) is = one-came setup old new (failed_import why) tt is.1.1

kind-came : (k : Kind) (setup : List Constituency) (old new : Option State) (m : Message) (text : List ℕ) → IsOfKind k setup old m text new → IsEvent setup old new
kind-came shown setup old new m text is = shown-came setup old new is
kind-came (order_on_station command) setup old new m text is =
    named-came setup old new NoStation (station_in_target setup m.target.items) (λ of con. Orders setup old con (station_command command of) m) text
    (λ of con. order-came setup old new (station_command command of) m text con (station-coded command of)) is
kind-came (order_on_con command) setup old new m text is =
    named-came setup old new NoConstituency (con_in_target setup m.target.items) (λ of con. Orders setup old con (con_command command of) m) text
    (λ of con. order-came setup old new (con_command command of) m text con (con-coded command of)) is
kind-came (import sep) setup old new m text is =
    named-came setup old new NoConstituency (con_in_target setup m.target.items) (λ of con. ImportsBody setup old con sep m) text
    (λ of con done. import-came setup old new (Some (text_coming con sep m.body.items)) done.0 done.1 done.2) is

method-came : (setup : List Constituency) (old new : Option State) (r : Route) (m : Message) (text : List ℕ) (b : Bool) → ByMethod setup old r m b text new → IsEvent setup old new
method-came setup old new r m text true is = kind-came (kind r) setup old new m text (of-kind setup old new r m text is)
method-came setup old new r m text false is = none-came setup old new is.1

route-came : (setup : List Constituency) (old new : Option State) (m : Message) (text : List ℕ) (o : Option Route) → ByRoute setup old m o text new → IsEvent setup old new
route-came setup old new m text None is = none-came setup old new is.1
route-came setup old new m text (Some r) is = method-came setup old new r m text (bytes_eq m.method (route_method r)) is

answer-came : (setup : List Constituency) (old new : Option State) (message : Result Message MessageFault) (text : List ℕ)
    → IsAnswer setup old message text new ⊎ Says old Unavailable text new → IsEvent setup old new
answer-came setup old new message text (inr said) = none-came setup old new said.1
answer-came setup old new (Err why) text (inl is) = said-came setup old new (fault_word why) text is
answer-came setup old new (Ok m) text (inl is) = route-came setup old new m text (option_map (λ e. e.value) is.0) is.2

-- ---- the laws

pub answers-came : (old new : Office) (message : Result Message MessageFault) (text : List ℕ) → Answers old message text new
    → (event : Option Event) × IfSome event BringsCodes × ComesTo old (option_to_list event) new
answers-came old new message text is = let came = answer-came old.setup old.state new.state message text is.1 in (came.0, came.1, (is.0, came.2))

pub happen-append : (setup : List Constituency) (events more : List Event) (old mid new : Option State) → HappensInTurn setup old events mid → HappensInTurn setup mid more new → HappensInTurn setup old (events ++ more) new
happen-append setup [] more old mid new is rest = subst (λ o. HappensInTurn setup o more new) is rest
happen-append setup (event ∷ events) more old mid new is rest = (is.0, is.1, happen-append setup events more is.0 mid new is.2 rest)

abbrev Came : Office → Office → Type 0
Came old new = (events : List Event) × All BringsCodes events × ComesTo old events new

came-none : (old new : Office) → new ≡ old → Came old new
came-none old new same = ([], All-nil BringsCodes, (ap (λ (o : Office). o.setup) same, ap (λ (o : Office). o.state) same))

came-once : (old new : Office) (event : Option Event) → IfSome event BringsCodes → ComesTo old (option_to_list event) new → Came old new
came-once old new None as_code comes = ([], All-nil BringsCodes, comes)
came-once old new (Some event) as_code comes = (event ∷ [], All-cons BringsCodes event [] as_code (All-nil BringsCodes), comes)

came-both : (old mid new : Office) → Came old mid → Came mid new → Came old new
came-both old mid new first second = (
  first.0 ++ second.0,
  All-append BringsCodes first.0 second.0 first.1 second.1,
  (
    second.2.0 ∙ first.2.0,
    happen-append old.setup first.0 second.0 old.state mid.state new.state first.2.1
        (subst (λ setup. HappensInTurn setup mid.state second.0 new.state) first.2.0 second.2.1),
  ),
)

exchange-came : (old new : Office) (c d : Connection) (whole : Bool) → IsExchange Answers old c whole d new → Came old new
exchange-came old new c d whole is = go is.0 is.2
  where
    came : (message : Result Message MessageFault) (text : List ℕ) → Answers old message text new → Came old new
    came message text answered = let one = answers-came old new message text answered in came-once old new one.0 one.1 one.2

    go : (message : Result Message MessageFault) → Follows Answers old c whole d new message → Came old new
    go (Ok m) sent = came (Ok m) sent.0 sent.1
    go (Err fault.BadHead) sent = came (Err fault.BadHead) sent.0 sent.1
    go (Err fault.HeadTooLong) sent = came (Err fault.HeadTooLong) sent.0 sent.1
    go (Err fault.LengthRequired) sent = came (Err fault.LengthRequired) sent.0 sent.1
    go (Err fault.BadLength) sent = came (Err fault.BadLength) sent.0 sent.1
    go (Err fault.BodyTooLong) sent = came (Err fault.BodyTooLong) sent.0 sent.1
    go (Err fault.EndedEarly) sent = came (Err fault.EndedEarly) sent.0 sent.1
    go (Err fault.Read) failed = came-none old new failed.3
    go (Err fault.Memory) sent = came (Err fault.Memory) sent.0 sent.1

pub servings-came : (old new : Office) (taken ended : List Connection) (answered : ℕ) → Serves Answers old taken ended answered new
    → (events : List Event) × All BringsCodes events × ComesTo old events new
servings-came old new [] [] answered is = came-none old new is.1
servings-came old new [] (d ∷ ds) answered is = absurd is
servings-came old new (c ∷ cs) [] answered is = absurd is
servings-came old new (c ∷ cs) (d ∷ ds) answered is =
    came-both old is.0 new (exchange-came old is.0 c d is.1 is.3) (servings-came is.0 new cs ds is.2 is.5)
