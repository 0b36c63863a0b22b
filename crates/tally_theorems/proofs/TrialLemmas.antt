-- A trial leaves the state, and the import that follows comes to what it said.
use Rattle.std.proofs.Common.{◌≡◌, ◌≢◌, ◌⊎◌, ◌∙◌, ℕ, List, Bool, true, Option, Some, None, Result, Ok, Err, refl, sym, ap, subst, inl, inr}
use Rattle.std.specs.Prelude.{bytes_eq, codes, option_and_then, option_map}
use Rattle.matchit.specs.Router.{RouteOf}
use Rattle.tally_setup.specs.Constituency.{Constituency, list_codes}
use Rattle.tally_setup.specs.Setup.{constituency_with}
use Rattle.tally_returns.specs.State.{State, stations_of}
use Rattle.tally_returns.specs.declared.refusal.Refusal.TheVariants.{NoConstituency}
use Rattle.tally_returns_rows.specs.Import.{RowAnswer, answers, count_of}
use Rattle.tally_keeper.specs.Keeper.{Happens, Tries, whole_import}
use Rattle.tally_keeper.specs.Keeper as keeper
use Rattle.tally_returns_rows.specs.Source.{Coming, Delivery}
use Rattle.tally_returns_rows.specs.declared.import.ImportCount.{ImportCount}
use Rattle.tally_returns_rows.specs.declared.import.NamedRow.{NamedRow}
use Rattle.tally_returns_rows.specs.declared.import.Row.{Row}
use Rattle.tally_returns_rows.specs.declared.source.ImportFault.{ImportFault}
use Rattle.tally_import_records.specs.declared.separator.Sep.{Sep}
use Rattle.tally_import.specs.ReturnRows.{text_coming}
use Rattle.tally_desk_message.specs.declared.message.Message.{Message}
use Rattle.tally_desk_routes.specs.Routes.{IsRouted, con_of_target, route_method}
use Rattle.tally_desk_routes.specs.declared.routes.Route.{Route}
use Rattle.tally_desk_routes.specs.declared.routes.Route.TheVariants as route
use Rattle.tally_desk_answer.specs.Words.{word_text}
use Rattle.tally_desk_answer.specs.declared.word.Word.TheVariants.{Unavailable}
use Rattle.tally_desk.specs.Requests.{AtNamed, ImportsBody, ImportsText, Named, Says, TriesBody, con_in_target, imported_text, trial_text}
use Rattle.tally_desk.specs.Respond.{Answers, ByMethod, ByRoute, IsAnswer, IsAnswerOn, Office}
use Rattle.tally_theorems.specs.EnteredTwice.{IsPosted}
use Rattle.tally_theorems.specs.MessageLaws.{StateStays}
use Rattle.tally_theorems.specs.Trials.{HaveSameCounts, IsTrialOf}
use Rattle.tally_theorems.proofs.AgainLemmas.{Keeps, all-come, failed-again, fault-comes, route-one, same-keeps}

-- ---- the state

tried-keeps : (setup : List Constituency) (old new : Option State) (d : Delivery) (r : Result ImportCount ImportFault) → Tries setup old d r new → Keeps old new
tried-keeps setup old new d (Ok count) is = same-keeps old new is.2
tried-keeps setup (Some s) (Some t) d (Err fault) is = ap Some (sym is.1)
tried-keeps setup (Some s) None d (Err fault) is = tt
tried-keeps setup None (Some t) d (Err fault) is = absurd is.1
tried-keeps setup None None d (Err fault) is = tt

-- the answer to a message on its route
on-route : (setup : List Constituency) (old new : Option State) (m : Message) (text : List ℕ) (r : Route) → IsPosted m r → bytes_eq (codes "POST") (route_method r) ≡ true
    → IsAnswer setup old (Ok m) text new → IsAnswerOn setup old r m text new
on-route setup old new m text r posted post is =
    let same : is.0 ≡ Some posted.row = route-one m.target.items is.0 (Some posted.row) is.1 posted.routed in
    let by_row : ByMethod setup old posted.row.value m (bytes_eq m.method (route_method posted.row.value)) text new = subst (λ (o : Option (RouteOf Route)). ByRoute setup old m (option_map (λ e. e.value) o) text new) same is.2 in
    let by_route : ByMethod setup old r m (bytes_eq m.method (route_method r)) text new = subst (λ (q : Route). ByMethod setup old q m (bytes_eq m.method (route_method q)) text new) posted.is by_row in
    let tied : bytes_eq m.method (route_method r) ≡ true = subst (λ (l : List ℕ). bytes_eq l (route_method r) ≡ true) (sym posted.method) post in
    subst (λ (b : Bool). ByMethod setup old r m b text new) tied by_route

pub trial-keeps : (old new : Office) (m : Message) (sep : Sep) (text : List ℕ) → IsPosted m (route.Trial sep) → Answers old (Ok m) text new → StateStays old new
trial-keeps old new m sep text posted answered = go answered.1
  where
    at-con : (o : Option Named) → AtNamed NoConstituency old.state o (λ code con. TriesBody old.setup old.state con sep m) text new.state → Keeps old.state new.state
    at-con None is = same-keeps old.state new.state is.1
    at-con (Some named) is = tried-keeps old.setup old.state new.state is.0 is.1 is.4

    go : IsAnswer old.setup old.state (Ok m) text new.state ⊎ Says old.state Unavailable text new.state → Keeps old.state new.state
    go (inr said) = same-keeps old.state new.state said.1
    go (inl is) = at-con (con_in_target old.setup m.target.items) (on-route old.setup old.state new.state m text (route.Trial sep) posted refl is)

-- ---- the import that follows

-- the same rows, imported in the same state, are counted alike
same-count : (setup : List Constituency) (old one two : Option State) (rows others : List Row) (answered other : List RowAnswer) (count counted : ImportCount) → others ≡ rows
    → Happens setup old (whole_import rows answered count) one → Happens setup old (whole_import others other counted) two → counted ≡ count
same-count setup (Some s) (Some t) (Some u) rows others answered other count counted same first second =
    second.2 ∙ ap count_of (second.1 ∙ ap (λ l. answers (stations_of setup) s.returns l) same ∙ sym first.1) ∙ sym first.2
same-count setup (Some s) None two rows others answered other count counted same first second = absurd first
same-count setup (Some s) (Some t) None rows others answered other count counted same first second = absurd second
same-count setup None (Some t) two rows others answered other count counted same first second = absurd first
same-count setup None None two rows others answered other count counted same first second = absurd first

-- what a trial came to, and then the import
both : (setup : List Constituency) (old mid new : Option State) (coming : Coming) (d e : Delivery) (r q : Result ImportCount ImportFault) (lists : List (List ℕ)) (named : List NamedRow) (text other : List ℕ)
    → d.start.coming ≡ Some coming → Tries setup old d r mid → text ≡ trial_text lists r named → text ≢ word_text Unavailable
    → keeper.ImportsComing setup mid (Some coming) e q new → other ≡ imported_text q → other ≢ word_text Unavailable
    → HaveSameCounts text other ⊎ (other ≡ text)
both setup old mid new coming d e (Ok count) (Ok counted) lists named text other known tried said good imported reported fine =
    let first = tried.1 in
    let second = subst (λ (o : Option State). keeper.ImportsComing setup o (Some coming) e (Ok counted) new) tried.2 imported in
    let rows = sym (all-come coming e second.1.0 second.0 second.1.2).0 ∙ (all-come coming d first.0 known first.2).0 in
    inl (lists, count, named, said, reported ∙ ap (λ c. imported_text (Ok c)) (same-count setup old tried.0 new first.0 second.1.0 first.1 second.1.1 count counted rows first.3 second.1.3))
both setup old mid new coming d e (Ok count) (Err fault) lists named text other known tried said good imported reported fine =
    absurd (failed-again setup mid new old tried.0 coming e d fault count (subst (λ t. t ≢ word_text Unavailable) reported fine) imported (known, tried.1))
both setup old mid new coming d e (Err fault) (Ok counted) lists named text other known tried said good imported reported fine =
    absurd (failed-again setup old mid mid new coming d e fault counted (subst (λ t. t ≢ word_text Unavailable) said good) (known, tried) imported)
both setup old mid new coming d e (Err fault) (Err again) lists named text other known tried said good imported reported fine =
    let one = fault-comes setup old mid coming d fault (subst (λ t. t ≢ word_text Unavailable) said good) (known, tried) in
    let two = fault-comes setup mid new coming e again (subst (λ t. t ≢ word_text Unavailable) reported fine) imported in
    let same : ◌≡◌ {A = Option ImportFault} (Some again) (Some fault) = sym two ∙ one in
    let alike : again ≡ fault = (let k = same in cc) in
    inr (reported ∙ ap (λ f. imported_text (Err f)) alike ∙ sym said)

same-con : (setup : List Constituency) (m n : Message) → con_of_target n.target.items ≡ con_of_target m.target.items → con_in_target setup n.target.items ≡ con_in_target setup m.target.items
same-con setup m n same = ap (λ (o : Option (List ℕ)). option_and_then (λ code. option_map (λ (con : Constituency). (code, con)) (constituency_with code setup)) o) same

pub import-comes : (old mid new : Office) (m n : Message) (text other : List ℕ) → IsTrialOf m n → Answers old (Ok m) text mid → text ≢ word_text Unavailable
    → Answers mid (Ok n) other new → other ≢ word_text Unavailable → HaveSameCounts text other ⊎ (other ≡ text)
import-comes old mid new m n text other of first good second fine = go first.1 second.1
  where
    at-con : (o : Option Named) → AtNamed NoConstituency old.state o (λ code con. TriesBody old.setup old.state con of.sep m) text mid.state
        → AtNamed NoConstituency mid.state o (λ code con. ImportsBody old.setup mid.state con of.sep n) other new.state → HaveSameCounts text other ⊎ (other ≡ text)
    at-con None trial import = inr (import.0 ∙ sym trial.0)
    at-con (Some named) trial import =
        let done = subst (λ (b : List ℕ). ImportsText old.setup mid.state named.1 of.sep b other new.state) of.body import in
        both old.setup old.state mid.state new.state (text_coming named.1 of.sep m.body.items) trial.0 done.0 trial.1 done.1 (list_codes named.1.lists) trial.2 text other
        trial.3 trial.4 trial.6 good done.2 done.3 fine

    go : IsAnswer old.setup old.state (Ok m) text mid.state ⊎ Says old.state Unavailable text mid.state
        → IsAnswer mid.setup mid.state (Ok n) other new.state ⊎ Says mid.state Unavailable other new.state → HaveSameCounts text other ⊎ (other ≡ text)
    go (inr said) answered = absurd (good said.0)
    go (inl trial) (inr said) = absurd (fine said.0)
    go (inl trial) (inl import) =
        let there : IsAnswer old.setup mid.state (Ok n) other new.state = subst (λ (s : List Constituency). IsAnswer s mid.state (Ok n) other new.state) first.0 import in
        at-con (con_in_target old.setup m.target.items) (on-route old.setup old.state mid.state m text (route.Trial of.sep) of.trial refl trial)
        (subst (λ (o : Option Named). AtNamed NoConstituency mid.state o (λ code con. ImportsBody old.setup mid.state con of.sep n) other new.state) (same-con old.setup m n of.con)
        (on-route old.setup mid.state new.state n other (route.Import of.sep) of.import refl there))
