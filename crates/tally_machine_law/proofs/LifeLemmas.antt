-- Revisions only rise, and a command names the revision that it acts on.
use Rattle.std.proofs.Common.{◌≡◌, ◌≤◌, ◌+◌, ◌++◌, ◌∷◌, ◌∙◌, ℕ, List, [], Bool, true, false, cond, Option, Some, None, Result, Ok, Err, refl, sym, ap, subst, arith}
use Rattle.std.specs.Prelude.{◌==◌, not, is_some, string_bytes, if◌then◌else◌}
use Rattle.std.specs.FinMap as map
use Rattle.std.specs.Option.{option_map_or}
use Rattle.std.specs.Cmp.{Equal-is, eq_by_cmp_equiv}
use Rattle.std.specs.Cmp.Lexicographic.{nat_list_cmp_total}
use Rattle.std.specs.Ordering.{eq_by_cmp}
use Rattle.std.proofs.lemmas.Bool.{eqb-true}
use Rattle.tally_setup.specs.Code.{code_cmp}
use Rattle.tally_setup.specs.Constituency.{Constituency}
use Rattle.tally_setup.specs.Text.{is_note}
use Rattle.tally_returns.specs.Checks.{check, first_refusal, refused_or}
use Rattle.tally_returns.specs.Counts.{VoteCounts}
use Rattle.tally_returns.specs.Return.{StationReturn, Returns, first_return}
use Rattle.tally_returns.specs.Lodge.{StationLimits, counts_checks, is_return_of, reply_after_checks}
use Rattle.tally_returns.specs.Moves.{last_revision, may_query, may_correct, may_close, move_checks, counts_checks_at, query_checks, correct_checks, close_checks, confirm_checks, entry_checks, same_checks, queried_return, corrected_return, closed_return}
use Rattle.tally_returns.specs.Decide.{return_change, lodge_change, move_change, put_next}
use Rattle.tally_returns.specs.Named.{station_named}
use Rattle.tally_returns.specs.State.{State, stations_of}
use Rattle.tally_machine_law.specs.Step.{con_of_station, is_certified, change_at_station, change_in_state, without_lot, after_put, with_return, state_after, after_return}
use Rattle.tally_returns.specs.declared.returns.Status.{Status}
use Rattle.tally_returns.specs.declared.ask.Ask.{Ask}
use Rattle.tally_returns.specs.declared.ask.Ask.TheVariants.{Lodge, Query, Correct, Close, Confirm, ShowReturn}
use Rattle.tally_returns.specs.declared.change.Change.{Change}
use Rattle.tally_returns.specs.declared.change.Change.TheVariants.{Same, PutReturn}
use Rattle.tally_returns.specs.declared.refusal.Refusal.{Refusal}
use Rattle.tally_returns.specs.declared.refusal.Refusal.TheVariants.{NoStation, NoReturn, BadNote, Certified, Stale, Exhausted, WrongStatus, Differs}
use Rattle.tally_returns.specs.declared.reply.LodgeReply.TheVariants as reply
use Rattle.tally_returns.proofs.DecideLemmas.{first_refusal-append_first, passed-rest}

-- the revision of a return, or 0 where there is none
abbrev pub rev_of : Option StationReturn → ℕ
rev_of None = 0
rev_of (Some standing) = standing.rev

abbrev pub rev_at : State → List ℕ → ℕ
rev_at s station = rev_of (map.get s.returns station)

-- the revision that a command acts on
abbrev pub named_rev : Ask → ℕ
named_rev (Lodge station slip counts) = 0
named_rev (Query station rev note) = rev
named_rev (Correct station rev slip counts) = rev
named_rev (Close station rev) = rev
named_rev (Confirm station rev slip counts) = rev
named_rev other = 0

-- a return that is put is the next one of the one recorded
pub record IsMove (checks : List (Option Refusal)) (found : Option StationReturn) (next : StationReturn → StationReturn) (r : StationReturn) : Type 0 where
  pub standing : StationReturn
  pub found_is : found ≡ Some standing
  pub passed : first_refusal checks ≡ None
  pub put_is : r ≡ next standing

moved-put : (checks : List (Option Refusal)) (found : Option StationReturn) (next : StationReturn → StationReturn) (r : StationReturn)
    → move_change checks found next ≡ Ok (PutReturn r) → IsMove checks found next r
moved-put checks found next r is = go (first_refusal checks) found refl refl is
  where
    go : (refused : Option Refusal) (f : Option StationReturn) → first_refusal checks ≡ refused → found ≡ f
        → refused_or refused (Ok (put_next f next)) ≡ Ok (PutReturn r) → IsMove checks found next r
    go (Some e) f none some ok = cc
    go None None none some ok = cc
    go None (Some standing) none some ok =
        let put : next standing ≡ r = cc in record { standing = standing; found_is = some; passed = none; put_is = sym put }

move-same : (certified : Bool) (standing : StationReturn) (rev : ℕ) (may_start : Status → Bool)
    → first_refusal (move_checks certified (Some standing) rev may_start) ≡ None → standing.rev ≡ rev
move-same certified standing rev may_start none = eqb-true standing.rev rev (go (not certified) (standing.rev == rev) none)
  where
    go : (opened same : Bool)
        → first_refusal (check opened Certified ∷ check same (Stale standing.rev) ∷ check (not (standing.rev == last_revision)) Exhausted ∷ check (may_start standing.status) (WrongStatus standing.status) ∷ []) ≡ None
        → same ≡ true
    go true true none = refl
    go true false none = cc
    go false same none = cc

first_refusal-append_rest : (xs ys : List (Option Refusal)) → first_refusal (xs ++ ys) ≡ None → first_refusal ys ≡ None
first_refusal-append_rest [] ys none = none
first_refusal-append_rest (None ∷ xs) ys none = first_refusal-append_rest xs ys none
first_refusal-append_rest (Some e ∷ xs) ys none = cc

-- a command that puts a return names the revision that was recorded, and puts the next
pub record IsRise (found : Option StationReturn) (rev : ℕ) (r : StationReturn) : Type 0 where
  pub stood : rev_of found ≡ rev
  pub rises : r.rev ≡ rev + 1

move-rise : (certified : Bool) (checks : List (Option Refusal)) (found : Option StationReturn) (rev : ℕ) (may_start : Status → Bool) (next : StationReturn → StationReturn) (r : StationReturn)
    → ((standing : StationReturn) → (next standing).rev ≡ standing.rev + 1)
    → (first_refusal checks ≡ None → first_refusal (move_checks certified found rev may_start) ≡ None)
    → move_change checks found next ≡ Ok (PutReturn r) → IsRise found rev r
move-rise certified checks found rev may_start next r up rest is =
    let put = moved-put checks found next r is in
    let moves = subst (λ f. first_refusal (move_checks certified f rev may_start) ≡ None) put.found_is (rest put.passed) in
    let same : put.standing.rev ≡ rev = move-same certified put.standing rev may_start moves in record {
      stood = ap rev_of put.found_is ∙ same;
      rises = ap (λ (x : StationReturn). x.rev) put.put_is ∙ up put.standing ∙ ap (λ n. n + 1) same;
    }

lodge-rise : (slip : List ℕ) (counts : VoteCounts) (refused : Option Refusal) (found : Option StationReturn) (r : StationReturn)
    → lodge_change slip counts (refused_or refused (reply_after_checks found slip counts)) ≡ Ok (PutReturn r) → IsRise found 0 r
lodge-rise slip counts (Some e) found r is = cc
lodge-rise slip counts None None r is =
    let put : first_return slip counts ≡ r = cc in record { stood = refl; rises = sym (ap (λ (x : StationReturn). x.rev) put) }
lodge-rise slip counts None (Some standing) r is = again (is_return_of slip counts standing) is
  where
    again : (same : Bool) → lodge_change slip counts (if same then Ok (reply.Same standing.rev) else Err (Differs standing.rev)) ≡ Ok (PutReturn r) → IsRise (Some standing) 0 r
    again true ok = cc
    again false ok = cc

decided-rise : (station : Option StationLimits) (certified : Bool) (found : Option StationReturn) (ask : Ask) (r : StationReturn)
    → return_change station certified found ask ≡ Ok (PutReturn r) → IsRise found (named_rev ask) r
decided-rise None certified found (Lodge code slip counts) r is = cc
decided-rise (Some limits) certified found (Lodge code slip counts) r is = lodge-rise slip counts (first_refusal (counts_checks limits counts)) found r is
decided-rise station certified found (Query code rev note) r is =
    let moves = move_checks certified found rev may_query in
    move-rise certified (query_checks station certified found rev (string_bytes note)) found rev may_query (queried_return (string_bytes note)) r (λ standing. refl)
    (λ none. passed-rest (is_note (string_bytes note)) BadNote moves (passed-rest (is_some station) NoStation (check (is_note (string_bytes note)) BadNote ∷ moves) none)) is
decided-rise station certified found (Correct code rev slip counts) r is =
    move-rise certified (correct_checks station certified found rev counts) found rev may_correct (corrected_return slip counts) r (λ standing. refl)
    (first_refusal-append_rest (counts_checks_at station counts) (move_checks certified found rev may_correct)) is
decided-rise station certified found (Close code rev) r is =
    let moves = move_checks certified found rev may_close in
    let more = option_map_or (λ (limits : StationLimits). entry_checks limits.entry) station [] in
    move-rise certified (close_checks station certified found rev) found rev may_close closed_return r (λ standing. refl)
    (λ none. first_refusal-append_first moves more (passed-rest (is_some station) NoStation (moves ++ more) none)) is
decided-rise station certified found (Confirm code rev slip counts) r is =
    let moves = move_checks certified found rev may_close in
    let more = same_checks found slip counts in
    move-rise certified (confirm_checks station certified found rev slip counts) found rev may_close closed_return r (λ standing. refl)
    (λ none. first_refusal-append_first moves more (first_refusal-append_rest (counts_checks_at station counts) (moves ++ more) none)) is
decided-rise station certified found (ShowReturn code) r is = shown (first_refusal (check (is_some station) NoStation ∷ check (is_some found) NoReturn ∷ [])) is
  where
    shown : (refused : Option Refusal) → refused_or refused (Ok Same) ≡ Ok (PutReturn r) → IsRise found 0 r
    shown None ok = cc
    shown (Some e) ok = cc
decided-rise station certified found other r is = cc

pub insert-rises : (m : Returns) (station q : List ℕ) (r : StationReturn) → rev_of (map.get m station) ≤ r.rev → rev_of (map.get m q) ≤ rev_of (map.get (map.insert m station r) q)
insert-rises m station q r few =
    subst (λ (f : Option StationReturn). rev_of (map.get m q) ≤ rev_of f) (sym (map.get-insert nat_list_cmp_total m station r q)) (go (eq_by_cmp code_cmp q station) refl)
  where
    go : (b : Bool) → eq_by_cmp code_cmp q station ≡ b → rev_of (map.get m q) ≤ rev_of (cond b (Some r) (map.get m q))
    go true tied = subst (λ (f : Option StationReturn). rev_of f ≤ r.rev) (map.get_tied nat_list_cmp_total m q station ((Equal-is (code_cmp q station)).0 tied)) few
    go false apart = omega arith

pub insert-self : (m : Returns) (station : List ℕ) (r : StationReturn) → rev_of (map.get (map.insert m station r) station) ≡ r.rev
insert-self m station r =
    ap rev_of (map.get-insert nat_list_cmp_total m station r station)
    ∙ ap (λ b. rev_of (cond b (Some r) (map.get m station))) ((eq_by_cmp_equiv nat_list_cmp_total).refl station)

pub without_lot-returns : (s : State) (code : Option (List ℕ)) → (without_lot s code).returns ≡ s.returns
without_lot-returns s None = refl
without_lot-returns s (Some code) = refl

pub after_put-returns : (setup : List Constituency) (s : State) (ask : Ask) → (after_put setup s ask).returns ≡ s.returns
after_put-returns setup s (Query station rev note) = without_lot-returns s (con_of_station setup station)
after_put-returns setup s other = refl

-- whether a return is put
abbrev pub puts : Result Change Refusal → Bool
puts (Ok (PutReturn standing)) = true
puts other = false

-- whether a command on a return acts
abbrev pub acts : List Constituency → State → Ask → Bool
acts setup s ask = puts (change_in_state setup s ask)

-- what is decided where a return is put
pub record IsPut (d : Result Change Refusal) : Type 0 where
  pub put : StationReturn
  pub is : d ≡ Ok (PutReturn put)

puts-is : (d : Result Change Refusal) → puts d ≡ true → IsPut d
puts-is (Ok (PutReturn r)) e = record { put = r; is = refl }
puts-is other e = cc

-- no command on a return lowers the revision of a station
pub after_return-rises : (setup : List Constituency) (s : State) (ask : Ask) (q : List ℕ) → rev_at s q ≤ rev_at (after_return setup s ask) q
after_return-rises setup s ask q = go (change_in_state setup s ask) refl
  where
    put : (named : Option (List ℕ)) (r : StationReturn) → change_at_station setup s ask named ≡ Ok (PutReturn r) → rev_at s q ≤ rev_at (with_return (after_put setup s ask) named r) q
    put None r is = cc
    put (Some station) r is =
        let rise = decided-rise (stations_of setup station) (is_certified setup s station) (map.get s.returns station) ask r is in
        subst (λ (m : Returns). rev_at s q ≤ rev_of (map.get (map.insert m station r) q)) (sym (after_put-returns setup s ask))
        (insert-rises s.returns station q r (omega (arith, rise.stood, rise.rises)))

    go : (d : Result Change Refusal) → change_in_state setup s ask ≡ d → rev_at s q ≤ rev_at (state_after setup s ask d) q
    go (Ok (PutReturn r)) is = put (station_named ask) r is
    go other is = omega arith

acts-put : (setup : List Constituency) (s : State) (ask : Ask) (station : List ℕ) → station_named ask ≡ Some station → acts setup s ask ≡ true
    → IsPut (change_at_station setup s ask (Some station))
acts-put setup s ask station named acted =
    puts-is (change_at_station setup s ask (Some station)) (subst (λ n. puts (change_at_station setup s ask n) ≡ true) named acted)

-- a command that acts names the revision that is recorded
pub acts-stood : (setup : List Constituency) (s : State) (ask : Ask) (station : List ℕ) → station_named ask ≡ Some station → acts setup s ask ≡ true
    → rev_at s station ≡ named_rev ask
acts-stood setup s ask station named acted =
    let put = acts-put setup s ask station named acted in
    (decided-rise (stations_of setup station) (is_certified setup s station) (map.get s.returns station) ask put.put put.is).stood

-- and leaves the next
pub acts-rises : (setup : List Constituency) (s : State) (ask : Ask) (station : List ℕ) → station_named ask ≡ Some station → acts setup s ask ≡ true
    → rev_at (after_return setup s ask) station ≡ named_rev ask + 1
acts-rises setup s ask station named acted =
    let put = acts-put setup s ask station named acted in
    let decision : change_in_state setup s ask ≡ Ok (PutReturn put.put) = ap (change_at_station setup s ask) named ∙ put.is in
    ap (λ d. rev_at (state_after setup s ask d) station) decision
    ∙ ap (λ n. rev_at (with_return (after_put setup s ask) n put.put) station) named
    ∙ insert-self (after_put setup s ask).returns station put.put
    ∙ (decided-rise (stations_of setup station) (is_certified setup s station) (map.get s.returns station) ask put.put put.is).rises
