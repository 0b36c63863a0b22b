-- What a decision says where it is not a refusal, and that it leaves a lawful return.
use Rattle.std.proofs.Common.{◌≡◌, ◌≤◌, ◌<◌, ◌++◌, ◌∷◌, ◌∙◌, ℕ, List, [], Bool, true, false, Option, Some, None, Result, Ok, Err, refl, sym, ap, subst, arith, String}
use Rattle.std.specs.Prelude.{◌==◌, ◌&&◌, not, nat_eq, nat_le, is_some, IfOk, string_bytes, if◌then◌else◌}
use Rattle.std.specs.Option.{ForSome, option_and_then, option_map}
use Rattle.tally_setup.specs.declared.constituency.Station.{Station}
use Rattle.std.specs.Cmp.Lexicographic.{pointwise}
use Rattle.std.proofs.lemmas.Bool.{and_from, leb-true}
use Rattle.std.proofs.lemmas.Str.{IsUtf8-string_bytes, is_utf8-from_IsUtf8}
use Rattle.std.specs.Str.{IsUtf8, is_utf8}
use Rattle.tally_setup.specs.Constituency.{Constituency}
use Rattle.tally_setup.specs.Code.{is_code}
use Rattle.tally_setup.specs.Text.{is_note}
use Rattle.tally_returns.specs.Checks.{check, first_refusal, refused_or}
use Rattle.tally_returns.specs.Counts.{VoteCounts, are_counts, all_votes, same_counts}
use Rattle.tally_returns.specs.Return.{StationReturn, first_return}
use Rattle.tally_returns.specs.Lodge.{StationLimits, counts_checks, reply_after_checks}
use Rattle.tally_returns.specs.Moves.{last_revision, may_query, may_correct, may_close, move_checks, counts_checks_at, query_checks, correct_checks, close_checks, confirm_checks, entry_checks, same_checks, queried_return, corrected_return, closed_return}
use Rattle.tally_returns.specs.Lawful.{IsLawful, PutsLawful, is_kept_note, is_note_or_empty}
use Rattle.tally_returns.specs.Decide.{IsUnlessMemory, return_change, limits_named, limits_of, lodge_change, move_change, put_next, station_in}
use Rattle.tally_returns.specs.Named.{BringsCode, station_named}
use Rattle.tally_returns.specs.declared.returns.Status.{Status}
use Rattle.tally_returns.specs.declared.ask.Ask.{Ask}
use Rattle.tally_returns.specs.declared.ask.Ask.TheVariants.{Lodge, Query, Correct, Close, Confirm, ShowReturn, Draw, Certify, Reopen, Vacate, ShowCon, ShowProgress}
use Rattle.tally_returns.specs.declared.change.Change.{Change}
use Rattle.tally_returns.specs.declared.change.Change.TheVariants.{Same, PutReturn}
use Rattle.tally_returns.specs.declared.refusal.Refusal.{Refusal}
use Rattle.tally_returns.specs.declared.refusal.Refusal.TheVariants.{NoReturn, BadCounts, BadNote, TooManyVotes, Certified, Stale, Exhausted, WrongStatus, Differs}
use Rattle.tally_returns.specs.declared.reply.LodgeReply.TheVariants as reply

-- a check that passes is passed over
pub first_refusal-passed : (b : Bool) (e : Refusal) (rest : List (Option Refusal)) → b ≡ true → first_refusal (check b e ∷ rest) ≡ first_refusal rest
first_refusal-passed true e rest is = refl
first_refusal-passed false e rest is = cc

-- where no check fails, the first one passes, and the rest
pub passed-first : (b : Bool) (e : Refusal) (rest : List (Option Refusal)) → first_refusal (check b e ∷ rest) ≡ None → b ≡ true
passed-first true e rest none = refl
passed-first false e rest none = cc

pub passed-rest : (b : Bool) (e : Refusal) (rest : List (Option Refusal)) → first_refusal (check b e ∷ rest) ≡ None → first_refusal rest ≡ None
passed-rest true e rest none = none
passed-rest false e rest none = cc

pub first_refusal-append_none : (xs ys : List (Option Refusal)) → first_refusal xs ≡ None → first_refusal (xs ++ ys) ≡ first_refusal ys
first_refusal-append_none [] ys none = refl
first_refusal-append_none (None ∷ xs) ys none = first_refusal-append_none xs ys none
first_refusal-append_none (Some e ∷ xs) ys none = cc

pub first_refusal-append_first : (xs ys : List (Option Refusal)) → first_refusal (xs ++ ys) ≡ None → first_refusal xs ≡ None
first_refusal-append_first [] ys none = refl
first_refusal-append_first (None ∷ xs) ys none = first_refusal-append_first xs ys none
first_refusal-append_first (Some e ∷ xs) ys none = cc

pub first_refusal-append_some : (xs ys : List (Option Refusal)) (e : Refusal) → first_refusal xs ≡ Some e → first_refusal (xs ++ ys) ≡ Some e
first_refusal-append_some [] ys e some = cc
first_refusal-append_some (None ∷ xs) ys e some = first_refusal-append_some xs ys e some
first_refusal-append_some (Some refusal ∷ xs) ys e some = some

-- a return that moves is not at the last revision
pub move-not_last : (certified : Bool) (standing : StationReturn) (rev : ℕ) (may_start : Status → Bool)
    → first_refusal (move_checks certified (Some standing) rev may_start) ≡ None → not (standing.rev == last_revision) ≡ true
move-not_last certified standing rev may_start none = go (not certified) (standing.rev == rev) (not (standing.rev == last_revision)) none
  where
    go : (opened same more : Bool)
        → first_refusal (check opened Certified ∷ check same (Stale standing.rev) ∷ check more Exhausted ∷ check (may_start standing.status) (WrongStatus standing.status) ∷ []) ≡ None
        → more ≡ true
    go true true true none = refl
    go true true false none = cc
    go true false more none = cc
    go false same more none = cc

not-last : (rev : ℕ) → rev ≤ last_revision → not (rev == last_revision) ≡ true → rev < last_revision
not-last rev few is = go (rev == last_revision) refl is
  where
    go : (b : Bool) → rev == last_revision ≡ b → not b ≡ true → rev < last_revision
    go true e is = cc
    go false e is = grind (arith, few, e)

pub move-rises : (certified : Bool) (standing : StationReturn) (rev : ℕ) (may_start : Status → Bool)
    → standing.rev ≤ last_revision → first_refusal (move_checks certified (Some standing) rev may_start) ≡ None → standing.rev < last_revision
move-rises certified standing rev may_start few none = not-last standing.rev few (move-not_last certified standing rev may_start none)

-- a text that is a note may be kept as one
pub kept-note : {Z : Type 0} (note : String Z) → is_note (string_bytes note) ≡ true → is_kept_note (string_bytes note) ≡ true
kept-note note is = and_from (is_note (string_bytes note)) (is_utf8 (string_bytes note)) is (is_utf8-from_IsUtf8 (string_bytes note) (IsUtf8-string_bytes note))

-- of a text the note alone is to be looked at
abbrev pub plainly_stands : List ℕ → Bool
plainly_stands [] = true
plainly_stands (byte ∷ note) = is_note (byte ∷ note)

pub plainly-stands : (note : List ℕ) → IsUtf8 note → plainly_stands note ≡ is_note_or_empty note
plainly-stands [] text = refl
plainly-stands (byte ∷ note) text = go (is_note (byte ∷ note)) (is_utf8 (byte ∷ note)) (is_utf8-from_IsUtf8 (byte ∷ note) text)
  where
    go : (a b : Bool) → b ≡ true → a ≡ (a && b)
    go true b is = sym is
    go false b is = refl

pub is_note_or_empty-kept : (note : List ℕ) → is_kept_note note ≡ true → is_note_or_empty note ≡ true
is_note_or_empty-kept [] is = refl
is_note_or_empty-kept (byte ∷ note) is = is

-- a decision to move a return, by what its checks say
moved-lawful : (station : StationLimits) (checks : List (Option Refusal)) (found : Option StationReturn) (next : StationReturn → StationReturn) (change : Change)
    → move_change checks found next ≡ Ok change
    → ((standing : StationReturn) → found ≡ Some standing → first_refusal checks ≡ None → IsLawful station (next standing))
    → PutsLawful station change
moved-lawful station checks found next change is lawful = go (first_refusal checks) found refl refl is
  where
    go : (refused : Option Refusal) (f : Option StationReturn) → first_refusal checks ≡ refused → found ≡ f
        → refused_or refused (Ok (put_next f next)) ≡ Ok change → PutsLawful station change
    go (Some e) f none some ok = cc
    go None None none some ok = let same : Same ≡ change = cc in subst (PutsLawful station) same tt
    go None (Some standing) none some ok =
        let put : PutReturn (next standing) ≡ change = cc in subst (PutsLawful station) put (lawful standing some none)

lodged-lawful : (station : StationLimits) (found : Option StationReturn) (slip : List ℕ) (counts : VoteCounts) (change : Change) → is_code slip ≡ true
    → lodge_change slip counts (refused_or (first_refusal (counts_checks station counts)) (reply_after_checks found slip counts)) ≡ Ok change
    → PutsLawful station change
lodged-lawful station found slip counts change code is = go (first_refusal (counts_checks station counts)) found refl is
  where
    again : (same : Bool) (rev : ℕ) (e : Refusal) → lodge_change slip counts (if same then Ok (reply.Same rev) else Err e) ≡ Ok change → PutsLawful station change
    again true rev e ok = let same : Same ≡ change = cc in subst (PutsLawful station) same tt
    again false rev e ok = cc

    go : (refused : Option Refusal) (f : Option StationReturn) → first_refusal (counts_checks station counts) ≡ refused
        → lodge_change slip counts (refused_or refused (reply_after_checks f slip counts)) ≡ Ok change → PutsLawful station change
    go (Some e) f none ok = cc
    go None None none ok =
        let put : PutReturn (first_return slip counts) ≡ change = cc in
        subst (PutsLawful station) put (record {
          first = omega arith;
          last = omega arith;
          slip = code;
          note = refl;
          counts = passed-first (are_counts station.lists counts) BadCounts (check (nat_le (all_votes counts) station.entitled) TooManyVotes ∷ []) none;
          votes = leb-true (all_votes counts) station.entitled (passed-first (nat_le (all_votes counts) station.entitled) TooManyVotes [] (passed-rest (are_counts station.lists counts) BadCounts (check (nat_le (all_votes counts) station.entitled) TooManyVotes ∷ []) none));
        })
    go None (Some standing) none ok = again (pointwise nat_eq standing.slip slip && same_counts standing.counts counts) standing.rev (Differs standing.rev) ok

-- a lawful return that is closed stays lawful
closed-lawful : (station : StationLimits) (certified : Bool) (standing : StationReturn) (rev : ℕ) → IsLawful station standing
    → first_refusal (move_checks certified (Some standing) rev may_close) ≡ None → IsLawful station (closed_return standing)
closed-lawful station certified standing rev old moves =
    let rises : standing.rev < last_revision = move-rises certified standing rev may_close old.last moves in record {
      first = omega arith;
      last = omega arith;
      slip = old.slip;
      note = old.note;
      counts = old.counts;
      votes = old.votes;
    }

-- a decision on a lawful return leaves a lawful one
pub decided-lawful : (station : StationLimits) (certified : Bool) (found : Option StationReturn) (ask : Ask) (change : Change) → BringsCode ask
    → ForSome found (IsLawful station) → return_change (Some station) certified found ask ≡ Ok change → PutsLawful station change
decided-lawful station certified found (Lodge code slip counts) change brings lawful is = lodged-lawful station found slip counts change (brings slip refl) is
decided-lawful station certified found (Query code rev note) change brings lawful is =
    moved-lawful station (query_checks (Some station) certified found rev (string_bytes note)) found (queried_return (string_bytes note)) change is
    (λ standing some none.
    let old = lawful standing some in
    let moves = subst (λ f. first_refusal (move_checks certified f rev may_query) ≡ None) some (passed-rest (is_note (string_bytes note)) BadNote (move_checks certified found rev may_query) none) in
    let rises : standing.rev < last_revision = move-rises certified standing rev may_query old.last moves in record {
      first = omega arith;
      last = omega arith;
      slip = old.slip;
      note = is_note_or_empty-kept (string_bytes note) (kept-note note (passed-first (is_note (string_bytes note)) BadNote (move_checks certified found rev may_query) none));
      counts = old.counts;
      votes = old.votes;
    })
decided-lawful station certified found (Correct code rev slip counts) change brings lawful is =
    let are = are_counts station.lists counts in
    let votes = nat_le (all_votes counts) station.entitled in
    let moves = move_checks certified found rev may_correct in
    moved-lawful station (correct_checks (Some station) certified found rev counts) found (corrected_return slip counts) change is
    (λ standing some none.
    let old = lawful standing some in
    let passed = subst (λ f. first_refusal (move_checks certified f rev may_correct) ≡ None) some (passed-rest votes TooManyVotes moves (passed-rest are BadCounts (check votes TooManyVotes ∷ moves) none)) in
    let rises : standing.rev < last_revision = move-rises certified standing rev may_correct old.last passed in record {
      first = omega arith;
      last = omega arith;
      slip = brings slip refl;
      note = old.note;
      counts = passed-first are BadCounts (check votes TooManyVotes ∷ moves) none;
      votes = leb-true (all_votes counts) station.entitled (passed-first votes TooManyVotes moves (passed-rest are BadCounts (check votes TooManyVotes ∷ moves) none));
    })
decided-lawful station certified found (Close code rev) change brings lawful is =
    moved-lawful station (close_checks (Some station) certified found rev) found closed_return change is
    (λ standing some none.
    let old = lawful standing some in
    let passed = first_refusal-append_first (move_checks certified found rev may_close) (entry_checks station.entry) none in
    closed-lawful station certified standing rev old (subst (λ f. first_refusal (move_checks certified f rev may_close) ≡ None) some passed))
decided-lawful station certified found (Confirm code rev slip counts) change brings lawful is =
    let are = are_counts station.lists counts in
    let votes = nat_le (all_votes counts) station.entitled in
    let moves = move_checks certified found rev may_close in
    let same = same_checks found slip counts in
    moved-lawful station (confirm_checks (Some station) certified found rev slip counts) found closed_return change is
    (λ standing some none.
    let old = lawful standing some in
    let passed = first_refusal-append_first moves same (passed-rest votes TooManyVotes (moves ++ same) (passed-rest are BadCounts (check votes TooManyVotes ∷ (moves ++ same)) none)) in
    closed-lawful station certified standing rev old (subst (λ f. first_refusal (move_checks certified f rev may_close) ≡ None) some passed))
decided-lawful station certified found (ShowReturn code) change brings lawful is = shown (is_some found) is
  where
    shown : (b : Bool) → refused_or (first_refusal (check b NoReturn ∷ [])) (Ok Same) ≡ Ok change → PutsLawful station change
    shown true ok = let same : Same ≡ change = cc in subst (PutsLawful station) same tt
    shown false ok = cc
decided-lawful station certified found (Draw con edition order) change brings lawful is = let same : Same ≡ change = cc in subst (PutsLawful station) same tt
decided-lawful station certified found (Certify con edition) change brings lawful is = let same : Same ≡ change = cc in subst (PutsLawful station) same tt
decided-lawful station certified found (Reopen con edition note) change brings lawful is = let same : Same ≡ change = cc in subst (PutsLawful station) same tt
decided-lawful station certified found (Vacate con list place note) change brings lawful is = let same : Same ≡ change = cc in subst (PutsLawful station) same tt
decided-lawful station certified found (ShowCon con) change brings lawful is = let same : Same ≡ change = cc in subst (PutsLawful station) same tt
decided-lawful station certified found ShowProgress change brings lawful is = let same : Same ≡ change = cc in subst (PutsLawful station) same tt

-- the same of an answer
pub answered-lawful : (station : StationLimits) (certified : Bool) (found : Option StationReturn) (ask : Ask) (result : Result Change Refusal) → BringsCode ask
    → ForSome found (IsLawful station) → IsUnlessMemory result (return_change (Some station) certified found ask) → IfOk result (PutsLawful station)
answered-lawful station certified found ask (Ok change) brings lawful is = decided-lawful station certified found ask change brings lawful is
answered-lawful station certified found ask (Err e) brings lawful is = tt

pub lawful-last : (station : StationLimits) (found : Option StationReturn) → ForSome found (IsLawful station) → ForSome found (λ standing. standing.rev ≤ last_revision)
lawful-last station found lawful = λ standing is. (lawful standing is).last

-- a command whose counts were refused
pub counts-refused : (station : StationLimits) (found : Option StationReturn) (counts : VoteCounts) (e : Refusal) (moves : List (Option Refusal)) (next : StationReturn → StationReturn)
    → first_refusal (counts_checks_at (Some station) counts) ≡ Some e
    → move_change (counts_checks_at (Some station) counts ++ moves) found next ≡ Err e
counts-refused station found counts e moves next some =
    ap (λ r. refused_or r (Ok (put_next found next))) (first_refusal-append_some (counts_checks_at (Some station) counts) moves e some)

-- a command whose counts passed
pub counts-passed : (station : StationLimits) (found : Option StationReturn) (counts : VoteCounts) (moves : List (Option Refusal)) (next : StationReturn → StationReturn)
    → first_refusal (counts_checks_at (Some station) counts) ≡ None
    → move_change (counts_checks_at (Some station) counts ++ moves) found next ≡ move_change moves found next
counts-passed station found counts moves next none =
    ap (λ r. refused_or r (Ok (put_next found next))) (first_refusal-append_none (counts_checks_at (Some station) counts) moves none)

-- what the constituency says of the station that a command names, where it is found
pub limits_named-found : (con : Constituency) (ask : Ask) (code : List ℕ) (place : Station) → station_named ask ≡ Some code → station_in con code ≡ Some place
    → limits_named con ask ≡ Some (limits_of con place)
limits_named-found con ask code place named is =
    ap (λ n. option_map (limits_of con) (option_and_then (station_in con) n)) named ∙ ap (option_map (limits_of con)) is
