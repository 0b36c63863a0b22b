-- The machine itself never answers that memory was wanting or that a store failed.
use Rattle.std.proofs.Common.{◌++◌, ◌∷◌, ℕ, List, [], Bool, true, false, Option, Some, None, Result, Ok, Err, sym, subst}
use Rattle.std.specs.Prelude.{◌==◌, ◌-◌, not, nat_le, IfErr, is_some, string_bytes, if◌then◌else◌}
use Rattle.std.specs.FinMap.{get}
use Rattle.std.specs.Option.{option_map_or}
use Rattle.tally_setup.specs.Constituency.{Constituency}
use Rattle.tally_setup.specs.Setup.{constituency_with}
use Rattle.tally_setup.specs.Text.{is_note}
use Rattle.tally_machine_law.specs.Certification.{ListFound, RefusedOr, certificate_of, seats_by_outcome, count_checks, lot_where_recorded, gone_of, has_candidate, holders_of, list_found, list_places, names_group, reopen_checks, reopen_result, vacate_checks, vacancy, vacate_result}
use Rattle.tally_returns.specs.Checks.{check, check_found, first_refusal, refused_or}
use Rattle.tally_machine_law.specs.Step.{ConChange, no_change, gone_for_good, lot_set, certified_with, open_again, Decides, change_of_result, Answer, IsConStepSeen, IsStepSeenAt, answer, con_answer, lodge_reply, move_reply, return_reply, change_in_state, is_certified}
use Rattle.tally_returns.specs.Counts.{VoteCounts, all_votes, are_counts}
use Rattle.tally_returns.specs.Decide.{put_next, show_checks}
use Rattle.tally_returns.specs.GoneCandidate.{GoneCandidate}
use Rattle.tally_returns.specs.PastSeats.{PastSeats}
use Rattle.tally_machine_law.specs.Holders.{is_among}
use Rattle.tally_returns.specs.Lodge.{StationLimits, is_return_of, reply_after_checks, counts_checks, reply_at_code, lodge_answer}
use Rattle.tally_returns.specs.Moves.{close_checks, closed_return, confirm_checks, correct_checks, corrected_return, counts_checks_at, entry_checks, is_single, last_revision, may_close, may_correct, may_query, move_checks, queried_return, query_checks, same_checks}
use Rattle.tally_returns.specs.Named.{con_named}
use Rattle.tally_machine_law.specs.Outcome.{Outcome, nobody, lot_missing, allotted}
use Rattle.tally_machine_law.specs.Decisions.{StepsAreOfTheMachine}
use Rattle.tally_returns.specs.Return.{StationReturn}
use Rattle.tally_returns.specs.State.{State, stations_of, last_edition}
use Rattle.tally_returns.specs.View.{View}
use Rattle.tally_returns.specs.declared.ask.Ask.{Ask}
use Rattle.tally_returns.specs.declared.ask.Ask.TheVariants.{Lodge, Query, Correct, Close, Confirm, ShowReturn, Draw, Certify, Reopen, Vacate, ShowCon, ShowProgress}
use Rattle.tally_returns.specs.declared.change.Change.{Change}
use Rattle.tally_returns.specs.declared.change.Change.TheVariants as change
use Rattle.tally_returns.specs.declared.refusal.Refusal.{Refusal}
use Rattle.tally_returns.specs.declared.refusal.Refusal.TheVariants.{NoStation, NoReturn, NoCandidate, BadCounts, BadNote, TooManyVotes, Certified, NotCertified, Stale, Exhausted, WrongStatus, NotAllClosed, Differs, LotWrongGroup, AlreadyGone, NotHolder, NotConfirmed, Memory, Store}
use Rattle.tally_returns.specs.declared.reply.LodgeReply.{LodgeReply}
use Rattle.tally_returns.specs.declared.reply.LodgeReply.TheVariants as lodge
use Rattle.tally_returns.specs.declared.returns.Status.{Status}

-- a refusal of the machine's own
abbrev Own : Refusal → Type 0
Own Memory = ⊥
Own Store = ⊥
Own other = Unit {0}

abbrev IsOwn : {X : Type 0} → Result X Refusal → Type 0
IsOwn r = IfErr r Own

abbrev IsOwnCheck : Option Refusal → Type 0
IsOwnCheck None = Unit {0}
IsOwnCheck (Some e) = Own e

abbrev AreOwnChecks : List (Option Refusal) → Type 0
AreOwnChecks [] = Unit {0}
AreOwnChecks (checked ∷ checks) = IsOwnCheck checked × AreOwnChecks checks

-- ---- checks

check-own : (b : Bool) (e : Refusal) → Own e → IsOwnCheck (check b e)
check-own true e own = tt
check-own false e own = own

found-own : {X : Type 0} (found : Option X) (test : X → Bool) (refusal : X → Refusal) → ((x : X) → Own (refusal x)) → IsOwnCheck (check_found found test refusal)
found-own None test refusal own = tt
found-own (Some x) test refusal own = check-own (test x) (refusal x) (own x)

first-own : (checks : List (Option Refusal)) → AreOwnChecks checks → IsOwnCheck (first_refusal checks)
first-own [] own = tt
first-own (None ∷ checks) own = first-own checks own.1
first-own (Some e ∷ checks) own = own.0

append-own : (checks more : List (Option Refusal)) → AreOwnChecks checks → AreOwnChecks more → AreOwnChecks (checks ++ more)
append-own [] more own rest = rest
append-own (checked ∷ checks) more own rest = (own.0, append-own checks more own.1 rest)

refused-own : {X : Type 0} (checks : List (Option Refusal)) (x : Result X Refusal) → AreOwnChecks checks → IsOwn x → IsOwn (refused_or (first_refusal checks) x)
refused-own checks x own other = go (first_refusal checks) (first-own checks own)
  where
    go : (refused : Option Refusal) → IsOwnCheck refused → IsOwn (refused_or refused x)
    go None is = other
    go (Some e) is = is

-- ---- commands on returns

lodge-own : (known : Option StationLimits) (found : Option StationReturn) (slip : List ℕ) (counts : VoteCounts) → IsOwn (reply_at_code known found slip counts)
lodge-own None found slip counts = tt
lodge-own (Some limits) found slip counts = go (first_refusal (counts_checks limits counts)) found (first-own (counts_checks limits counts) checks)
  where
    checks : AreOwnChecks (counts_checks limits counts)
    checks = (check-own (are_counts limits.lists counts) BadCounts tt, (check-own (nat_le (all_votes counts) limits.entitled) TooManyVotes tt, tt))

    again : (standing : StationReturn) (same : Bool) → IsOwn (if same then Ok (lodge.Same standing.rev) else Err (Differs standing.rev))
    again standing true = tt
    again standing false = tt

    go : (refused : Option Refusal) (f : Option StationReturn) → IsOwnCheck refused → IsOwn (refused_or refused (reply_after_checks f slip counts))
    go (Some e) f is = is
    go None None is = tt
    go None (Some standing) is = again standing (is_return_of slip counts standing)

lodge_reply-own : (a : Result LodgeReply Refusal) → IsOwn a → IsOwn (lodge_reply a)
lodge_reply-own (Ok (lodge.Lodged rev)) own = tt
lodge_reply-own (Ok (lodge.Same rev)) own = tt
lodge_reply-own (Err e) own = own

move_reply-own : (a : Result Change Refusal) → IsOwn a → IsOwn (move_reply a)
move_reply-own (Ok (change.PutReturn standing)) own = tt
move_reply-own (Ok other) own = tt
move_reply-own (Err e) own = own

move-own : (certified : Bool) (found : Option StationReturn) (rev : ℕ) (may_start : Status → Bool) → AreOwnChecks (move_checks certified found rev may_start)
move-own certified found rev may_start = (
  check-own (is_some found) NoReturn tt,
  (
    check-own (not certified) Certified tt,
    (
      found-own found (λ standing. standing.rev == rev) (λ standing. Stale standing.rev) (λ standing. tt),
      (
        found-own found (λ standing. not (standing.rev == last_revision)) (λ standing. Exhausted) (λ standing. tt),
        (found-own found (λ standing. may_start standing.status) (λ standing. WrongStatus standing.status) (λ standing. tt), tt),
      ),
    ),
  ),
)

counts-own : (known : Option StationLimits) (counts : VoteCounts) → AreOwnChecks (counts_checks_at known counts)
counts-own None counts = (check-own false NoStation tt, tt)
counts-own (Some limits) counts = (
  check-own true NoStation tt,
  (
    check-own (are_counts limits.lists counts) BadCounts tt,
    (check-own (nat_le (all_votes counts) limits.entitled) TooManyVotes tt, tt),
  ),
)

-- the last check of Close
entry-own : (known : Option StationLimits) → AreOwnChecks (option_map_or (λ (limits : StationLimits). entry_checks limits.entry) known [])
entry-own None = tt
entry-own (Some limits) = (check-own (is_single limits.entry) NotConfirmed tt, tt)

-- and of Confirm
same-own : (found : Option StationReturn) (slip : List ℕ) (counts : VoteCounts) → AreOwnChecks (same_checks found slip counts)
same-own found slip counts = (found-own found (is_return_of slip counts) (λ standing. Differs standing.rev) (λ standing. tt), tt)

answer-own : (setup : List Constituency) (s : State) (ask : Ask) → IsOwn (answer setup s ask)
answer-own setup s (Lodge station slip counts) = lodge_reply-own (lodge_answer (stations_of setup) s.returns station slip counts) (lodge-own (stations_of setup station) (get s.returns station) slip counts)
answer-own setup s (Query station rev note) =
    let known = stations_of setup station in
    let certified = is_certified setup s station in
    let found = get s.returns station in
    let text = string_bytes note in
    move_reply-own (change_in_state setup s (Query station rev note))
    (refused-own (query_checks known certified found rev text) (Ok (put_next found (queried_return text)))
    (check-own (is_some known) NoStation tt, (check-own (is_note text) BadNote tt, move-own certified found rev may_query)) tt)
answer-own setup s (Correct station rev slip counts) =
    let known = stations_of setup station in
    let certified = is_certified setup s station in
    let found = get s.returns station in
    move_reply-own (change_in_state setup s (Correct station rev slip counts))
    (refused-own (correct_checks known certified found rev counts) (Ok (put_next found (corrected_return slip counts)))
    (append-own (counts_checks_at known counts) (move_checks certified found rev may_correct) (counts-own known counts) (move-own certified found rev may_correct)) tt)
answer-own setup s (Close station rev) =
    let known = stations_of setup station in
    let certified = is_certified setup s station in
    let found = get s.returns station in
    let more = option_map_or (λ (limits : StationLimits). entry_checks limits.entry) known [] in
    move_reply-own (change_in_state setup s (Close station rev))
    (refused-own (close_checks known certified found rev) (Ok (put_next found closed_return)) (check-own (is_some known) NoStation tt, append-own (move_checks certified found rev may_close) more (move-own certified found rev may_close) (entry-own known)) tt)
answer-own setup s (Confirm station rev slip counts) =
    let known = stations_of setup station in
    let certified = is_certified setup s station in
    let found = get s.returns station in
    let moves = move_checks certified found rev may_close in
    let more = same_checks found slip counts in
    move_reply-own (change_in_state setup s (Confirm station rev slip counts))
    (refused-own (confirm_checks known certified found rev slip counts) (Ok (put_next found closed_return))
    (append-own (counts_checks_at known counts) (moves ++ more) (counts-own known counts) (append-own moves more (move-own certified found rev may_close) (same-own found slip counts))) tt)
answer-own setup s (ShowReturn station) =
    refused-own (show_checks (stations_of setup station) (get s.returns station)) (return_reply (get s.returns station))
    (check-own (is_some (stations_of setup station)) NoStation tt, (check-own (is_some (get s.returns station)) NoReturn tt, tt)) (shown (get s.returns station))
  where
    shown : (found : Option StationReturn) → IsOwn (return_reply found)
    shown None = tt
    shown (Some standing) = tt
answer-own setup s ShowProgress = tt
answer-own setup s (Draw con edition order) = tt
answer-own setup s (Certify con edition) = tt
answer-own setup s (Reopen con edition note) = tt
answer-own setup s (Vacate con list place note) = tt
answer-own setup s (ShowCon con) = tt

-- ---- commands on constituencies

refused_or-own : {X : Type 0} (checks : List (Option Refusal)) (Otherwise : Result X Refusal → Type 0) (x : Result X Refusal) → AreOwnChecks checks
    → (Otherwise x → IsOwn x) → RefusedOr (first_refusal checks) Otherwise x → IsOwn x
refused_or-own checks Otherwise x own other is = go (first_refusal checks) (first-own checks own) is
  where
    go : (refused : Option Refusal) → IsOwnCheck refused → RefusedOr refused Otherwise x → IsOwn x
    go None checked so = other so
    go (Some e) checked so = subst IsOwn (sym so) checked

changed-own : {X : Type 0} (change : X → ConChange) (x : Result X Refusal) → IsOwn x → IsOwn (change_of_result change x)
changed-own change (Ok x) own = tt
changed-own change (Err e) own = own

certified-own : (outcome : Outcome) → IsOwn (seats_by_outcome outcome)
certified-own nobody = tt
certified-own (lot_missing group in_question) = tt
certified-own (allotted seats) = tt

drawn-own : (lot : List ℕ) (outcome : Outcome) (places : Option (List ℕ)) → IsOwn (lot_where_recorded lot outcome places)
drawn-own [] nobody places = tt
drawn-own [] (lot_missing group in_question) None = tt
drawn-own [] (lot_missing group in_question) (Some places) = go (names_group group places)
  where
    go : (b : Bool) → IsOwn (if b then Ok places else Err (LotWrongGroup group))
    go true = tt
    go false = tt
drawn-own [] (allotted seats) places = tt
drawn-own (place ∷ lot) nobody places = tt
drawn-own (place ∷ lot) (lot_missing group in_question) places = tt
drawn-own (place ∷ lot) (allotted seats) places = tt

count-own : (view : View) (edition : ℕ) → AreOwnChecks (count_checks view edition)
count-own view edition = (
  check-own (not view.certified) Certified tt,
  (
    check-own (view.edition == edition) (Stale view.edition) tt,
    (
      check-own (not (view.edition == last_edition)) Exhausted tt,
      (check-own (view.closed == view.stations) (NotAllClosed (view.stations - view.closed)) tt, tt),
    ),
  ),
)

reopen-own : (view : View) (edition : ℕ) (note : List ℕ) → AreOwnChecks (reopen_checks view edition note)
reopen-own view edition note = (
  check-own (is_note note) BadNote tt,
  (
    check-own view.certified NotCertified tt,
    (
      check-own (view.edition == edition) (Stale view.edition) tt,
      (check-own (not (view.edition == last_edition)) Exhausted tt, tt),
    ),
  ),
)

vacate-own : (view : View) (found : Option ListFound) (place : ℕ) (note : List ℕ) → AreOwnChecks (vacate_checks view found place note)
vacate-own view found place note = (
  check-own (is_some found) NoCandidate tt,
  (
    found-own found (has_candidate place) (λ list. NoCandidate) (λ list. tt),
    (
      check-own (is_note note) BadNote tt,
      (
        check-own view.certified NotCertified tt,
        (
          found-own found (λ list. not (is_among place (gone_of view list.place))) (λ list. AlreadyGone) (λ list. tt),
          (found-own found (λ list. is_among place (holders_of view list (gone_of view list.place))) (λ list. NotHolder) (λ list. tt), tt),
        ),
      ),
    ),
  ),
)

vacated-own : (view : View) (found : Option ListFound) (place : ℕ) (note : List ℕ) → IsOwn (vacancy view found place note)
vacated-own view None place note = tt
vacated-own view (Some list) place note = tt

decides-own : (con : Constituency) (view : View) (ask : Ask) (decision : Result ConChange Refusal) → Decides con view ask decision → IsOwn decision
decides-own con view (Draw code edition order) decision is =
    subst IsOwn (sym is.2) (changed-own lot_set is.0
    (refused_or-own (count_checks view edition) _ is.0 (count-own view edition) (λ so. subst IsOwn (sym so.2) (drawn-own view.lot so.0 (list_places con order.items))) is.1))
decides-own con view (Certify code edition) decision is =
    subst IsOwn (sym is.2) (changed-own certified_with is.0
    (refused_or-own (count_checks view edition) _ is.0 (count-own view edition) (λ so. subst IsOwn (sym so.2) (certified-own so.0)) is.1))
decides-own con view (Reopen code edition note) decision is =
    let text = string_bytes note in
    subst IsOwn (sym is) (changed-own (λ (r : List ℕ × PastSeats). open_again r.0 r.1) (reopen_result view edition text) (refused-own (reopen_checks view edition text) (Ok (text, certificate_of view)) (reopen-own view edition text) tt))
decides-own con view (Vacate code list place note) decision is =
    let text = string_bytes note in
    let found = list_found con list in
    subst IsOwn (sym is) (changed-own (λ (v : GoneCandidate × Option ℕ). gone_for_good v.0 v.1) (vacate_result con view list place text)
    (refused-own (vacate_checks view found place text) (vacancy view found place text) (vacate-own view found place text) (vacated-own view found place text)))
decides-own con view (ShowCon code) decision is = subst IsOwn (sym is) tt
decides-own con view other decision is = absurd is

con_answer-own : (view : View) (decision : Result ConChange Refusal) → IsOwn decision → IsOwn (con_answer view decision)
con_answer-own view (Ok no_change) own = tt
con_answer-own view (Ok (gone_for_good candidate next)) own = tt
con_answer-own view (Ok other) own = tt
con_answer-own view (Err e) own = own

-- ---- steps

con_step-own : (con : Option Constituency) (s : State) (ask : Ask) (a : Result Answer Refusal) (t : State) → IsConStepSeen con s ask a t → IsOwn a
con_step-own None s ask a t is = subst IsOwn (sym is.0) tt
con_step-own (Some con) s ask a t is = subst IsOwn (sym is.4) (con_answer-own is.0 is.1 (decides-own con is.0 ask is.1 is.3))

step_at-own : (named : Option (List ℕ)) (setup : List Constituency) (s : State) (ask : Ask) (a : Result Answer Refusal) (t : State) → IsStepSeenAt named setup s ask a t → IsOwn a
step_at-own None setup s ask a t is = subst IsOwn (sym is.0) (answer-own setup s ask)
step_at-own (Some code) setup s ask a t is = con_step-own (constituency_with code setup) s ask a t is

-- a step is refused neither because it is out of memory nor by a store
pub steps-own : StepsAreOfTheMachine
steps-own setup s t ask refusal is =
    let own : Own refusal = step_at-own (con_named ask) setup s ask (Err refusal) t is in
    (λ same. subst Own same own, λ same. subst Own same own)
