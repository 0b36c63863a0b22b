-- What a command acts on is used up when it acts: it names the
-- revision, the edition or the candidate.
use Rattle.std.proofs.Common.{◌≡◌, ◌≤◌, ◌+◌, ◌∷◌, ◌∙◌, ℕ, List, [], Bool, true, false, cond, map, Option, Some, None, Result, Ok, Err, refl, sym, ap, inl, inr, arith}
use Rattle.std.specs.Prelude.{◌-◌, ◌==◌, ◌||◌, not, is_some, nat_eq, string_bytes, slice_index}
use Rattle.std.specs.FinMap as fin
use Rattle.std.specs.List.{filter}
use Rattle.std.specs.Cmp.{eq_by_cmp_equiv}
use Rattle.std.specs.Cmp.Lexicographic.{slice_cmp, nat_list_cmp_total}
use Rattle.std.specs.Ordering.{eq_by_cmp, nat_cmp}
use Rattle.std.proofs.lemmas.Bool.{eqb-true, eq-eqb, or_right}
use Rattle.tally_setup.specs.Constituency.{Constituency}
use Rattle.tally_setup.specs.Setup.{constituency_with}
use Rattle.tally_setup.specs.Text.{is_note}
use Rattle.tally_machine_law.specs.Certification.{ListFound, RefusedOr, certificate_of, count_checks, gone_of, has_candidate, holders_of, list_found, reopen_result, reopen_checks, vacate_checks, vacancy, vacate_result}
use Rattle.tally_returns.specs.Checks.{check, first_refusal, refused_or}
use Rattle.tally_returns.specs.GoneCandidate.{GoneCandidate}
use Rattle.tally_returns.specs.PastSeats.{PastSeats}
use Rattle.tally_machine_law.specs.Holders.{is_among, newcomer}
use Rattle.tally_returns.specs.View.{View, gone_candidate}
use Rattle.tally_returns.specs.State.{State, ConState, GoneCandidates, con_state, last_edition}
use Rattle.tally_machine_law.specs.Step.{ConChange, lot_set, certified_with, open_again, gone_for_good, con_state_after, change_of_result, IsReturnStepSeen, IsAnswered, IsStep, reply_seen}
use Rattle.tally_returns.specs.Named.{station_named}
use Rattle.tally_machine_law.specs.Runs.{is_act, IsSameCommand}
use Rattle.tally_returns.specs.AskSeen.{AskSeen, ask_seen}
use Rattle.tally_returns.specs.AskSeen as seen_ask
use Rattle.tally_returns.specs.declared.ask.Ask.{Ask}
use Rattle.tally_returns.specs.declared.ask.Ask.TheVariants.{Lodge, Query, Correct, Close, Confirm, ShowReturn, Draw, Certify, Reopen, Vacate, ShowCon, ShowProgress}
use Rattle.tally_returns.specs.declared.refusal.Refusal.{Refusal}
use Rattle.tally_returns.specs.declared.refusal.Refusal.TheVariants.{NoCandidate, BadNote, Certified, NotCertified, Stale, Exhausted, NotAllClosed, AlreadyGone, NotHolder}
use Rattle.tally_returns.specs.declared.reply.Reply.{Reply}
use Rattle.tally_machine_law.proofs.ActLemmas.{IsConAct, changes, con-acted, is_act-return, not_accepted-idle}
use Rattle.tally_machine_law.proofs.ConStateLemmas.{same_code, con_state-changed, con-code}
use Rattle.tally_returns.proofs.DecideLemmas.{passed-first, passed-rest}
use Rattle.tally_machine_law.proofs.LifeLemmas.{rev_at, named_rev, acts, acts-stood, acts-rises}
use Rattle.tally_machine_law.proofs.OnwardLemmas.{IsOnward, answered-onward}

-- what a command acts on: a revision of a station's return, an edition of a constituency, the
-- candidate at a place of a list in a constituency, or nothing
pub data Mark : Type 0 where
  revision : List ℕ → ℕ → Mark
  edition : List ℕ → ℕ → Mark
  candidate : List ℕ → List ℕ → ℕ → Mark
  nothing : Mark

abbrev pub mark : Ask → Mark
mark (Lodge station slip counts) = revision station 0
mark (Query station rev note) = revision station rev
mark (Correct station rev slip counts) = revision station rev
mark (Close station rev) = revision station rev
mark (Confirm station rev slip counts) = revision station rev
mark (ShowReturn station) = revision station 0
mark (Draw con edition_named order) = edition con edition_named
mark (Certify con edition_named) = edition con edition_named
mark (Reopen con edition_named note) = edition con edition_named
mark (Vacate con list place note) = candidate con list place
mark (ShowCon con) = nothing
mark ShowProgress = nothing

-- what is seen of a command says on what it acts
abbrev mark_seen : AskSeen → Mark
mark_seen (seen_ask.lodge station slip counts) = revision station 0
mark_seen (seen_ask.query station rev note) = revision station rev
mark_seen (seen_ask.correct station rev slip counts) = revision station rev
mark_seen (seen_ask.close station rev) = revision station rev
mark_seen (seen_ask.confirm station rev slip counts) = revision station rev
mark_seen (seen_ask.show_return station) = revision station 0
mark_seen (seen_ask.draw con n order) = edition con n
mark_seen (seen_ask.certify con n) = edition con n
mark_seen (seen_ask.reopen con n note) = edition con n
mark_seen (seen_ask.vacate con list place note) = candidate con list place
mark_seen (seen_ask.show_con con) = nothing
mark_seen seen_ask.show_progress = nothing

mark-seen : (ask : Ask) → mark ask ≡ mark_seen (ask_seen ask)
mark-seen (Lodge station slip counts) = refl
mark-seen (Query station rev note) = refl
mark-seen (Correct station rev slip counts) = refl
mark-seen (Close station rev) = refl
mark-seen (Confirm station rev slip counts) = refl
mark-seen (ShowReturn station) = refl
mark-seen (Draw con n order) = refl
mark-seen (Certify con n) = refl
mark-seen (Reopen con n note) = refl
mark-seen (Vacate con list place note) = refl
mark-seen (ShowCon con) = refl
mark-seen ShowProgress = refl

-- equal commands act on the same
pub same-mark : (ask other : Ask) → IsSameCommand ask other → mark ask ≡ mark other
same-mark ask other alike = mark-seen ask ∙ ap mark_seen alike ∙ sym (mark-seen other)

-- whether the candidate at a place of a list is gone, where the
-- constituency and the list are in the setup
pub record IsGoneFlag (setup : List Constituency) (code list : List ℕ) (place : ℕ) (s : State) (b : Bool) : Type 0 where
  pub con : Constituency
  pub found : constituency_with code setup ≡ Some con
  pub of : ListFound
  pub list_is : list_found con list ≡ Some of
  pub is : is_some (fin.get (con_state s code).gone (of.place ∷ place ∷ [])) ≡ b

-- it is still to be acted on
abbrev pub IsFresh : List Constituency → Mark → State → Type 0
IsFresh setup (revision station rev) s = rev_at s station ≡ rev
IsFresh setup (edition code n) s = (con_state s code).edition ≡ n
IsFresh setup (candidate code list place) s = IsGoneFlag setup code list place s false
IsFresh setup nothing s = ⊥

-- it was acted on
abbrev pub IsSpent : List Constituency → Mark → State → Type 0
IsSpent setup (revision station rev) s = rev + 1 ≤ rev_at s station
IsSpent setup (edition code n) s = n + 1 ≤ (con_state s code).edition
IsSpent setup (candidate code list place) s = IsGoneFlag setup code list place s true
IsSpent setup nothing s = ⊥

pub fresh-not_spent : (setup : List Constituency) (m : Mark) (s : State) → IsFresh setup m s → IsSpent setup m s → ⊥
fresh-not_spent setup (revision station rev) s fresh spent = omega (arith, fresh, spent)
fresh-not_spent setup (edition code n) s fresh spent = omega (arith, fresh, spent)
fresh-not_spent setup (candidate code list place) s fresh spent =
    let same_con : Some fresh.con ≡ Some spent.con = sym fresh.found ∙ spent.found in
    let con : fresh.con ≡ spent.con = cc in
    let same_list : Some fresh.of ≡ Some spent.of = sym fresh.list_is ∙ ap (λ (c : Constituency). list_found c list) con ∙ spent.list_is in
    let of : fresh.of ≡ spent.of = cc in
    let no : true ≡ false = sym spent.is ∙ ap (λ (f : ListFound). is_some (fin.get (con_state s code).gone (f.place ∷ place ∷ []))) (sym of) ∙ fresh.is in
    cc
fresh-not_spent setup nothing s fresh spent = spent

-- and stays so
onward-spent : (setup : List Constituency) (m : Mark) (s t : State) → IsOnward s t → IsSpent setup m s → IsSpent setup m t
onward-spent setup (revision station rev) s t on spent = omega (arith, spent, on.returns station)
onward-spent setup (edition code n) s t on spent = omega (arith, spent, (on.cons code).edition)
onward-spent setup (candidate code list place) s t on spent = record {
  con = spent.con;
  found = spent.found;
  of = spent.of;
  list_is = spent.list_is;
  is = (on.cons code).gone (spent.of.place ∷ place ∷ []) spent.is;
}
onward-spent setup nothing s t on spent = spent

pub answered-spent : (setup : List Constituency) (m : Mark) (s : State) (ask : Ask) (r : Result Reply Refusal) (t : State) → IsAnswered setup s ask r t → IsSpent setup m s → IsSpent setup m t
answered-spent setup m s ask r t is spent = onward-spent setup m s t (answered-onward setup s ask r t is) spent

-- ---- the edition

count-edition : (view : View) (n : ℕ) → first_refusal (count_checks view n) ≡ None → view.edition ≡ n
count-edition view n none =
    let rest = check (not (view.edition == last_edition)) Exhausted ∷ check (view.closed == view.stations) (NotAllClosed (view.stations - view.closed)) ∷ [] in
    eqb-true view.edition n (passed-first (view.edition == n) (Stale view.edition) rest (passed-rest (not view.certified) Certified (check (view.edition == n) (Stale view.edition) ∷ rest) none))

pub reopen-edition : (view : View) (n : ℕ) (note : List ℕ) → first_refusal (reopen_checks view n note) ≡ None → view.edition ≡ n
reopen-edition view n note none =
    let rest = check (not (view.edition == last_edition)) Exhausted ∷ [] in
    let named = check (view.edition == n) (Stale view.edition) ∷ rest in
    eqb-true view.edition n
    (passed-first (view.edition == n) (Stale view.edition) rest (passed-rest view.certified NotCertified named (passed-rest (is_note note) BadNote (check view.certified NotCertified ∷ named) none)))

-- a command that acted where something was still to be acted on, and used it up
abbrev pub IsUsed : List Constituency → Mark → State → State → Type 0
IsUsed setup m s t = IsFresh setup m s × IsSpent setup m t

-- a constituency that comes to the next edition
edition-used : (setup : List Constituency) (code : List ℕ) (n : ℕ) (s : State) (ask : Ask) (t : State) (act : IsConAct setup code s ask t)
    → act.view.edition ≡ n → (con_state_after (con_state s code) act.change).edition ≡ (con_state s code).edition + 1 → IsUsed setup (edition code n) s t
edition-used setup code n s ask t act named next =
    let stood : (con_state s code).edition ≡ n = ap (λ (q : List ℕ). (con_state s q).edition) (sym (con-code setup code act.con act.found)) ∙ sym (ap (λ (v : View). v.edition) act.is_view) ∙ named in
    let now : (con_state t code).edition ≡ (con_state s code).edition + 1 =
    ap (λ (x : State). (con_state x code).edition) act.new
    ∙ ap (λ (c : ConState). c.edition) (con_state-changed s code (con_state_after (con_state s code) act.change))
    ∙ next in
    (stood, omega (arith, stood, now))

-- what a command sets where no check refuses it
record IsSet {X : Type 0} (by : X → ConChange) (refusal : Option Refusal) (change : ConChange) : Type 0 where
  pub what : X
  pub passed : refusal ≡ None
  pub is : change ≡ by what

set-by : {X : Type 0} (by : X → ConChange) (refusal : Option Refusal) (P : Result X Refusal → Type 0) (change : ConChange) (d : Result X Refusal)
    → RefusedOr refusal P d → Ok change ≡ change_of_result by d → IsSet by refusal change
set-by by None P made (Ok x) is gives = record { what = x; passed = refl; is = let same : made ≡ by x = cc in same }
set-by by (Some e) P made (Ok x) is gives = cc
set-by by refusal P made (Err e) is gives = cc

count-used : (setup : List Constituency) (code : List ℕ) (n : ℕ) (s : State) (ask : Ask) (t : State) (act : IsConAct setup code s ask t) (by : List ℕ → ConChange)
    → ((c : ConState) (places : List ℕ) → (con_state_after c (by places)).edition ≡ c.edition + 1)
    → IsSet by (first_refusal (count_checks act.view n)) act.change → IsUsed setup (edition code n) s t
count-used setup code n s ask t act by next set =
    edition-used setup code n s ask t act (count-edition act.view n set.passed)
    (ap (λ (c : ConChange). (con_state_after (con_state s code) c).edition) set.is ∙ next (con_state s code) set.what)

-- a note that is set is the command's own
reopen-used : (setup : List Constituency) (code : List ℕ) (n : ℕ) (note : List ℕ) (s : State) (ask : Ask) (t : State) (act : IsConAct setup code s ask t)
    → Ok act.change ≡ change_of_result (λ (r : List ℕ × PastSeats). open_again r.0 r.1) (reopen_result act.view n note) → IsUsed setup (edition code n) s t
reopen-used setup code n note s ask t act decides = go (first_refusal (reopen_checks act.view n note)) refl decides
  where
    go : (refused : Option Refusal) → first_refusal (reopen_checks act.view n note) ≡ refused → Ok act.change ≡ change_of_result (λ (r : List ℕ × PastSeats). open_again r.0 r.1) (refused_or refused (Ok (note, certificate_of act.view))) → IsUsed setup (edition code n) s t
    go None none is =
        let change : act.change ≡ open_again note (certificate_of act.view) = cc in
        edition-used setup code n s ask t act (reopen-edition act.view n note none) (ap (λ (c : ConChange). (con_state_after (con_state s code) c).edition) change)
    go (Some e) some is = cc

-- ---- the candidate

-- one who is gone is among those of the list who are gone
gone-among : (es : List (List ℕ × List ℕ)) (list place : ℕ) → is_some (fin.find (slice_cmp nat_cmp) (list ∷ place ∷ []) es) ≡ true
    → is_among place (map (λ (g : GoneCandidate). g.place) (filter (λ (g : GoneCandidate). g.list == list) (map gone_candidate es))) ≡ true
gone-among [] list place there = cc
gone-among (e ∷ es) list place there = go (eq_by_cmp (slice_cmp nat_cmp) (list ∷ place ∷ []) e.0) refl there (gone-among es list place)
  where
    rest : List GoneCandidate
    rest = filter (λ (g : GoneCandidate). g.list == list) (map gone_candidate es)

    first : GoneCandidate
    first = gone_candidate e

    later : (b : Bool) → is_among place (map (λ (g : GoneCandidate). g.place) rest) ≡ true
        → is_among place (map (λ (g : GoneCandidate). g.place) (cond b (first ∷ rest) rest)) ≡ true
    later true among = or_right (nat_eq place first.place) (is_among place (map (λ (g : GoneCandidate). g.place) rest)) among
    later false among = among

    go : (b : Bool) → eq_by_cmp (slice_cmp nat_cmp) (list ∷ place ∷ []) e.0 ≡ b → is_some (cond b (Some e.1) (fin.find (slice_cmp nat_cmp) (list ∷ place ∷ []) es)) ≡ true
        → (is_some (fin.find (slice_cmp nat_cmp) (list ∷ place ∷ []) es) ≡ true → is_among place (map (λ (g : GoneCandidate). g.place) rest) ≡ true)
        → is_among place (map (λ (g : GoneCandidate). g.place) (cond (first.list == list) (first ∷ rest) rest)) ≡ true
    go true tied some behind =
        let key : list ∷ place ∷ [] ≡ e.0 = same_code (list ∷ place ∷ []) e.0 tied in
        let kept : (first.list == list) ≡ true = ap (λ (k : List ℕ). slice_index k 0 == list) (sym key) ∙ eq-eqb list list refl in
        let named : nat_eq place first.place ≡ true = ap (λ (k : List ℕ). nat_eq place (slice_index k 1)) (sym key) ∙ eq-eqb place place refl in
        ap (λ b. is_among place (map (λ (g : GoneCandidate). g.place) (cond b (first ∷ rest) rest))) kept
        ∙ ap (λ b. b || is_among place (map (λ (g : GoneCandidate). g.place) rest)) named
    go false apart some behind = later (first.list == list) (behind some)

-- a Vacate that sets somebody as gone
record IsVacated (con : Constituency) (view : View) (list : List ℕ) (place : ℕ) (change : ConChange) : Type 0 where
  pub of : ListFound
  pub list_is : list_found con list ≡ Some of
  pub stays : is_among place (gone_of view of.place) ≡ false
  pub note : List ℕ
  pub next : Option ℕ
  pub is : change ≡ gone_for_good (record { list = of.place; place = place; note = note }) next

not-true : (b : Bool) → not b ≡ true → b ≡ false
not-true true e = cc
not-true false e = refl

vacate-gone : (con : Constituency) (view : View) (list : List ℕ) (place : ℕ) (note : List ℕ) (change : ConChange)
    → Ok change ≡ change_of_result (λ (v : GoneCandidate × Option ℕ). gone_for_good v.0 v.1) (vacate_result con view list place note) → IsVacated con view list place change
vacate-gone con view list place note change is = go (list_found con list) refl is
  where
    checked : (f : ListFound) (refused : Option Refusal) → first_refusal (vacate_checks view (Some f) place note) ≡ refused → list_found con list ≡ Some f
        → Ok change ≡ change_of_result (λ (v : GoneCandidate × Option ℕ). gone_for_good v.0 v.1) (refused_or refused (vacancy view (Some f) place note)) → IsVacated con view list place change
    checked f (Some e) none at gives = cc
    checked f None none at gives =
        let gone = is_among place (gone_of view f.place) in
        let holds = is_among place (holders_of view f (gone_of view f.place)) in
        let three = check (not gone) AlreadyGone ∷ check holds NotHolder ∷ [] in
        let two = check view.certified NotCertified ∷ three in
        record {
          of = f;
          list_is = at;
          stays = not-true gone (passed-first (not gone) AlreadyGone (check holds NotHolder ∷ []) (passed-rest view.certified NotCertified three (passed-rest (is_note note) BadNote two (passed-rest (has_candidate place f) NoCandidate (check (is_note note) BadNote ∷ two) none))));
          note = note;
          next = newcomer (holders_of view f (gone_of view f.place)) (holders_of view f (place ∷ gone_of view f.place));
          is = let same : change ≡ gone_for_good (record { list = f.place; place = place; note = note }) (newcomer (holders_of view f (gone_of view f.place)) (holders_of view f (place ∷ gone_of view f.place))) = cc in same;
        }

    go : (found : Option ListFound) → list_found con list ≡ found
        → Ok change ≡ change_of_result (λ (v : GoneCandidate × Option ℕ). gone_for_good v.0 v.1) (refused_or (first_refusal (vacate_checks view found place note)) (vacancy view found place note))
        → IsVacated con view list place change
    go None at gives = cc
    go (Some f) at gives = checked f (first_refusal (vacate_checks view (Some f) place note)) refl at gives

insert-gone_there : (m : GoneCandidates) (key note : List ℕ) → is_some (fin.get (fin.insert m key note) key) ≡ true
insert-gone_there m key note =
    ap is_some (fin.get-insert nat_list_cmp_total m key note key)
    ∙ ap (λ b. is_some (cond b (Some note) (fin.get m key))) ((eq_by_cmp_equiv nat_list_cmp_total).refl key)

vacate-used : (setup : List Constituency) (code list : List ℕ) (place : ℕ) (s : State) (ask : Ask) (t : State) (act : IsConAct setup code s ask t)
    → IsVacated act.con act.view list place act.change → IsUsed setup (candidate code list place) s t
vacate-used setup code list place s ask t act v =
    let key : List ℕ = v.of.place ∷ place ∷ [] in (
      record {
        con = act.con;
        found = act.found;
        of = v.of;
        list_is = v.list_is;
        is = go v (is_some (fin.get (con_state s code).gone key)) refl;
      },
      record {
        con = act.con;
        found = act.found;
        of = v.of;
        list_is = v.list_is;
        is =
            ap (λ (x : State). is_some (fin.get (con_state x code).gone key)) act.new
            ∙ ap (λ (c : ConState). is_some (fin.get c.gone key)) (con_state-changed s code (con_state_after (con_state s code) act.change))
            ∙ ap (λ (c : ConChange). is_some (fin.get (con_state_after (con_state s code) c).gone key)) v.is
            ∙ insert-gone_there (con_state s code).gone key v.note;
      },
    )
  where
    shown : (of : ListFound) → is_some (fin.get (con_state s code).gone (of.place ∷ place ∷ [])) ≡ true → is_among place (gone_of act.view of.place) ≡ true
    shown of there =
        ap (λ (v : View). is_among place (gone_of v of.place)) act.is_view
        ∙ gone-among (fin.entries (con_state s act.con.code).gone) of.place place
        (sym (ap is_some (fin.get-entries (con_state s act.con.code).gone (of.place ∷ place ∷ [])))
        ∙ ap (λ (q : List ℕ). is_some (fin.get (con_state s q).gone (of.place ∷ place ∷ []))) (con-code setup code act.con act.found) ∙ there)

    go : (v : IsVacated act.con act.view list place act.change) (b : Bool) → is_some (fin.get (con_state s code).gone (v.of.place ∷ place ∷ [])) ≡ b → is_some (fin.get (con_state s code).gone (v.of.place ∷ place ∷ [])) ≡ false
    go v false is = is
    go v true is = let no : true ≡ false = sym (shown v.of is) ∙ v.stays in cc

-- ---- any request

return-used : (setup : List Constituency) (s : State) (ask : Ask) (r : Result Reply Refusal) (t : State) (station : List ℕ) → station_named ask ≡ Some station
    → IsReturnStepSeen setup s ask (reply_seen r) t → is_act r ≡ true → IsUsed setup (revision station (named_rev ask)) s t
return-used setup s ask r t station named is acted_there =
    let acted : acts setup s ask ≡ true = sym (is_act-return setup s ask r t is) ∙ acted_there in
    let now : rev_at t station ≡ named_rev ask + 1 = ap (λ (x : State). rev_at x station) is.1 ∙ acts-rises setup s ask station named acted in
    (acts-stood setup s ask station named acted, omega (arith, now))

step-used : (setup : List Constituency) (s : State) (ask : Ask) (r : Result Reply Refusal) (t : State) → IsStep setup s ask r t → is_act r ≡ true → IsUsed setup (mark ask) s t
step-used setup s (Lodge station slip counts) r t is acted_there = return-used setup s (Lodge station slip counts) r t station refl is acted_there
step-used setup s (Query station rev note) r t is acted_there = return-used setup s (Query station rev note) r t station refl is acted_there
step-used setup s (Correct station rev slip counts) r t is acted_there = return-used setup s (Correct station rev slip counts) r t station refl is acted_there
step-used setup s (Close station rev) r t is acted_there = return-used setup s (Close station rev) r t station refl is acted_there
step-used setup s (Confirm station rev slip counts) r t is acted_there = return-used setup s (Confirm station rev slip counts) r t station refl is acted_there
step-used setup s (ShowReturn station) r t is acted_there = return-used setup s (ShowReturn station) r t station refl is acted_there
step-used setup s (Draw con n order) r t is acted_there =
    let act = con-acted setup con s (Draw con n order) r t is acted_there in
    count-used setup con n s (Draw con n order) t act lot_set (λ c places. refl)
    (set-by lot_set (first_refusal (count_checks act.view n)) _ act.change act.decides.0 act.decides.1 act.decides.2)
step-used setup s (Certify con n) r t is acted_there =
    let act = con-acted setup con s (Certify con n) r t is acted_there in
    count-used setup con n s (Certify con n) t act certified_with (λ c seats. refl)
    (set-by certified_with (first_refusal (count_checks act.view n)) _ act.change act.decides.0 act.decides.1 act.decides.2)
step-used setup s (Reopen con n note) r t is acted_there =
    let act = con-acted setup con s (Reopen con n note) r t is acted_there in
    reopen-used setup con n (string_bytes note) s (Reopen con n note) t act act.decides
step-used setup s (Vacate con list place note) r t is acted_there =
    let act = con-acted setup con s (Vacate con list place note) r t is acted_there in
    vacate-used setup con list place s (Vacate con list place note) t act (vacate-gone act.con act.view list place (string_bytes note) act.change act.decides)
step-used setup s (ShowCon con) r t is acted_there =
    let act = con-acted setup con s (ShowCon con) r t is acted_there in
    let no : true ≡ false = sym act.some ∙ ap changes act.decides in cc
step-used setup s ShowProgress r t is acted_there =
    let no : true ≡ false = sym acted_there ∙ is_act-return setup s ShowProgress r t is in cc

-- a request that acted used up what it acts on
pub answered-used : (setup : List Constituency) (s : State) (ask : Ask) (r : Result Reply Refusal) (t : State) → IsAnswered setup s ask r t → is_act r ≡ true → IsUsed setup (mark ask) s t
answered-used setup s ask r t (inl is) acted_there = step-used setup s ask r t is acted_there
answered-used setup s ask r t (inr is) acted_there = let no : true ≡ false = sym acted_there ∙ not_accepted-idle r is.0 in cc
