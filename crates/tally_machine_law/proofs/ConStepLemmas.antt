-- A command on a constituency keeps a lawful state lawful.
use Rattle.std.proofs.Common.{◌≡◌, ◌∙◌, ◌+◌, ◌-◌, ◌∷◌, ℕ, suc, List, [], Bool, true, false, cond, length, map, Option, Some, None, Result, Ok, Err, refl, sym, ap, subst, arith}
use Rattle.std.specs.Prelude.{◌==◌, ◌&&◌, All, nat_le, not, is_some, slice_get, string_bytes, unwrap_or}
use Rattle.std.specs.FinMap as fin
use Rattle.std.specs.Option.{option_map_or}
use Rattle.std.specs.Str.{bytes_eq}
use Rattle.std.specs.Cmp.{Equal-is}
use Rattle.std.specs.Cmp.Lexicographic.{nat_list_cmp_total}
use Rattle.std.specs.Ordering.{eq_by_cmp}
use Rattle.std.specs.FinMap.Entries.{by_order, put}
use Rattle.std.specs.declared.cmp.Ordering.{Ordering}
use Rattle.std.specs.declared.cmp.Ordering.TheVariants.{Less, Equal, Greater}
use Rattle.std.proofs.lemmas.List.Elements.{All-cons, All-head, All-tail}
use Rattle.std.proofs.lemmas.Bool.{and_from, and_parts, eqb-false, le-leb, not-true}
use Rattle.tally_setup.specs.Code.{code_cmp}
use Rattle.tally_setup.specs.Constituency.{Constituency, ListEntry}
use Rattle.tally_setup.specs.Limits.{IsSetup}
use Rattle.tally_setup.specs.Setup.{constituency_with}
use Rattle.tally_setup.specs.Text.{is_note}
use Rattle.tally_machine_law.specs.Certification.{Certifies, certificate_of, Draws, ListFound, list_found_from, gone_of, has_candidate, holders_of, list_found, reopen_checks, reopen_result, vacate_checks, vacancy, vacate_result}
use Rattle.tally_returns.specs.Checks.{check, first_refusal, refused_or}
use Rattle.tally_machine_law.specs.Step.{ConChange, Decides, IsView, after_change, certified_with, con_state_after, change_of_result, gone_for_good, lot_set, open_again, with_con, IsConStep}
use Rattle.tally_returns.specs.GoneCandidate.{GoneCandidate}
use Rattle.tally_returns.specs.PastSeats.{PastSeats}
use Rattle.tally_machine_law.specs.Holders.{is_among, newcomer}
use Rattle.tally_returns.specs.Lawful.{is_kept_note}
use Rattle.tally_machine_law.specs.LawfulState.{IsLawfulIn, IsLawfulState, IsUnderPlaces}
use Rattle.tally_returns.specs.Named.{con_named}
use Rattle.tally_machine_law.specs.Outcome.{HasSeats, IsLawfulCon, IsLawfulGone, IsLawfulPast, IsLawfulView, IsOutcome, allotted, is_candidate, poll_in, rule_in}
use Rattle.tally_returns.specs.Return.{Returns}
use Rattle.tally_returns.specs.State.{ConState, GoneCandidates, State, con_state, opening_con, last_edition}
use Rattle.tally_returns.specs.View.{View, gone_candidate, past_records, view_of, view_with}
use Rattle.tally_returns.specs.declared.ask.Ask.{Ask}
use Rattle.tally_returns.specs.declared.ask.Ask.TheVariants.{Lodge, Query, Correct, Close, Confirm, ShowReturn, Draw, Certify, Reopen, Vacate, ShowCon, ShowProgress}
use Rattle.tally_returns.specs.declared.refusal.Refusal.{Refusal}
use Rattle.tally_returns.specs.declared.refusal.Refusal.TheVariants.{AlreadyGone, BadNote, Exhausted, NoCandidate, NotCertified, NotHolder, Stale}
use Rattle.tally_returns.specs.declared.reply.Reply.{Reply}
use Rattle.tally_returns.proofs.DecideLemmas.{kept-note, is_note_or_empty-kept, passed-first, passed-rest}
use Rattle.tally_machine_law.proofs.LawfulViewLemmas.{certified-lawful, drawn-lawful, drawn-open}
use Rattle.tally_machine_law.proofs.PastLemmas.{insert-past, past-later}
use Rattle.tally_machine_law.proofs.VacancyLemmas.{allotted-sum}
use Rattle.tally_machine_law.proofs.ViewLemmas.{constituency-code, view-lawful}

-- ---- what a constituency has come to

-- what a constituency may have come to where these returns are recorded
record MayBe (con : Constituency) (c : ConState) (returns : Returns) : Type 0 where
  seen : IsLawfulCon con (view_with con c returns [])
  gone : All IsUnderPlaces (fin.entries c.gone)

may_be-from : (con : Constituency) (s : State) → IsLawfulIn con s → MayBe con (con_state s con.code) s.returns
may_be-from con s lawful = record { seen = lawful.seen; gone = lawful.gone }

may_be-to : (con : Constituency) (s : State) (c : ConState) → con_state s con.code ≡ c → MayBe con c s.returns → IsLawfulIn con s
may_be-to con s c is may =
    let here : MayBe con (con_state s con.code) s.returns = subst (λ (d : ConState). MayBe con d s.returns) (sym is) may in record { seen = here.seen; gone = here.gone }

codes-tied : (q code : List ℕ) → eq_by_cmp code_cmp q code ≡ true → q ≡ code
codes-tied q code tied = fin.slice_cmp-IsAntisymmetric fin.nat_cmp-IsAntisymmetric q code ((Equal-is (code_cmp q code)).0 tied)

-- the state in which one constituency has come to something else
with_con-state : (s : State) (code : List ℕ) (c : ConState) (q : List ℕ) → con_state (with_con s code c) q ≡ cond (eq_by_cmp code_cmp q code) c (con_state s q)
with_con-state s code c q =
    ap (λ (o : Option ConState). unwrap_or o opening_con) (fin.get-insert nat_list_cmp_total s.cons code c q) ∙ by_cases (eq_by_cmp code_cmp q code)
  where
    by_cases : (b : Bool) → unwrap_or (cond b (Some c) (fin.get s.cons q)) opening_con ≡ cond b c (unwrap_or (fin.get s.cons q) opening_con)
    by_cases true = refl
    by_cases false = refl

-- two codes of one constituency find the same
pub same-constituency : (setup : List Constituency) (code q : List ℕ) (con other : Constituency) → constituency_with code setup ≡ Some con → constituency_with q setup ≡ Some other → other.code ≡ con.code → con ≡ other
same-constituency setup code q con other is found same =
    let codes : code ≡ q = constituency-code setup code con is ∙ sym same ∙ sym (constituency-code setup q other found) in
    let both : Some con ≡ Some other = sym is ∙ ap (λ (k : List ℕ). constituency_with k setup) codes ∙ found in
    cc

with_con-lawful : (setup : List Constituency) (s : State) (code : List ℕ) (con : Constituency) (c : ConState) → IsLawfulState setup s → constituency_with code setup ≡ Some con → MayBe con c s.returns
    → IsLawfulState setup (with_con s con.code c)
with_con-lawful setup s code con c lawful is may = record {
  stations = lawful.stations;
  cons = λ q other found. at q other found (eq_by_cmp code_cmp other.code con.code) refl;
  known = λ q. ap is_some (fin.get-insert nat_list_cmp_total s.cons con.code c q) ∙ known_at q (eq_by_cmp code_cmp q con.code) refl;
}
  where
    at : (q : List ℕ) (other : Constituency) → constituency_with q setup ≡ Some other → (b : Bool) → eq_by_cmp code_cmp other.code con.code ≡ b → IsLawfulIn other (with_con s con.code c)
    at q other found true tied =
        let same : con ≡ other = same-constituency setup code q con other is found (codes-tied other.code con.code tied) in
        let itself : eq_by_cmp code_cmp con.code con.code ≡ true = ap (λ (x : Constituency). eq_by_cmp code_cmp x.code con.code) same ∙ tied in
        subst (λ (x : Constituency). IsLawfulIn x (with_con s con.code c)) same
        (may_be-to con (with_con s con.code c) c (with_con-state s con.code c con.code ∙ ap (λ b. cond b c (con_state s con.code)) itself) may)
    at q other found false apart =
        may_be-to other (with_con s con.code c) (con_state s other.code) (with_con-state s con.code c other.code ∙ ap (λ b. cond b c (con_state s other.code)) apart)
        (may_be-from other s (lawful.cons q other found))

    known_at : (q : List ℕ) (b : Bool) → eq_by_cmp code_cmp q con.code ≡ b → is_some (cond b (Some c) (fin.get s.cons q)) ≡ is_some (constituency_with q setup)
    known_at q true tied =
        let code_is : code ≡ q = constituency-code setup code con is ∙ sym (codes-tied q con.code tied) in
        sym (ap is_some (sym (ap (λ (k : List ℕ). constituency_with k setup) code_is) ∙ is))
    known_at q false apart = lawful.known q

-- ---- Draw

drawn-may_be : (con : Constituency) (s : State) (seats places : List ℕ) (edition : ℕ) (order : List (List ℕ)) → IsLawfulIn con s → IsLawfulView con (view_of con s seats)
    → Draws con (view_of con s seats) edition order (Ok places) → MayBe con (con_state_after (con_state s con.code) (lot_set places)) s.returns
drawn-may_be con s seats places edition order here lawful draws =
    let after = drawn-lawful con (view_of con s seats) edition order places lawful draws in
    let open_before : (con_state s con.code).certified ≡ false = drawn-open con (view_of con s seats) edition order places draws in record {
      seen = record {
        first = after.lawful.first;
        last = after.lawful.last;
        note = here.seen.note;
        lot = after.lawful.lot;
        certified = λ certified. let never : false ≡ true = sym open_before ∙ certified in cc;
        gone = here.seen.gone;
        past = after.lawful.past;
      };
      gone = here.gone;
    }

-- ---- Certify

certified-may_be : (con : Constituency) (s : State) (seats given_seats : List ℕ) (edition : ℕ) → IsLawfulIn con s → IsLawfulView con (view_of con s seats)
    → Certifies con (view_of con s seats) edition (Ok given_seats) → MayBe con (con_state_after (con_state s con.code) (certified_with given_seats)) s.returns
certified-may_be con s seats given_seats edition here lawful certifies =
    let after = certified-lawful con (view_of con s seats) edition given_seats lawful certifies in
    record {
      seen = record {
        first = after.lawful.first;
        last = after.lawful.last;
        note = here.seen.note;
        lot = here.seen.lot;
        certified = after.lawful.certified;
        gone = here.seen.gone;
        past = after.lawful.past;
      };
      gone = here.gone;
    }

-- ---- Reopen

-- the certificate of a constituency is lawful on record once the edition has gone on
certificate-past : (con : Constituency) (view : View) → view.certified ≡ true → IsLawfulView con view → IsLawfulPast con (view.edition + 1) (certificate_of view)
certificate-past con view certified lawful =
    let outcome : IsOutcome con view (allotted view.seats) = subst (λ (b : Bool). HasSeats con view b) certified lawful.seats in record {
      first = lawful.lawful.first;
      before = omega arith;
      lists = lawful.fits.seats certified;
      exactly = allotted-sum (rule_in con) (poll_in con view) view.lot con.seats view.seats outcome.2;
    }

reopened-may_be : (con : Constituency) (s : State) (seats : List ℕ) (edition : ℕ) (note : List ℕ) → (is_note note ≡ true → is_kept_note note ≡ true) → IsLawfulIn con s
    → IsLawfulView con (view_of con s seats) → first_refusal (reopen_checks (view_of con s seats) edition note) ≡ None
    → MayBe con (con_state_after (con_state s con.code) (open_again note (certificate_of (view_of con s seats)))) s.returns
reopened-may_be con s seats edition note keeps here view none =
    let c = con_state s con.code in
    let fourth = check (not (c.edition == last_edition)) Exhausted ∷ [] in
    let third = check (c.edition == edition) (Stale c.edition) ∷ fourth in
    let second = check c.certified NotCertified ∷ third in
    let after_first : first_refusal second ≡ None = passed-rest (is_note note) BadNote second none in
    let after_second : first_refusal third ≡ None = passed-rest c.certified NotCertified third after_first in
    let after_third : first_refusal fourth ≡ None = passed-rest (c.edition == edition) (Stale c.edition) fourth after_second in
    let certified : c.certified ≡ true = passed-first c.certified NotCertified third after_first in
    let not_last : c.edition ≡ last_edition → ⊥ = eqb-false c.edition last_edition (not-true (c.edition == last_edition) (passed-first (not (c.edition == last_edition)) Exhausted [] after_third)) in record {
      seen = record {
        first = omega (arith, here.seen.first);
        last = omega (arith, here.seen.last, not_last);
        note = is_note_or_empty-kept note (keeps (passed-first (is_note note) BadNote second none));
        lot = here.seen.lot;
        certified = λ certified. let never : false ≡ true = certified in cc;
        gone = here.seen.gone;
        past = insert-past con (c.edition + 1) c.edition seats c.past (certificate-past con (view_of con s seats) certified view) (past-later con c.edition (past_records c.past) here.seen.past);
      };
      gone = here.gone;
    }

-- ---- Vacate

-- the list that was found, in the constituency
record IsEntry (p : ℕ) (lists : List ListEntry) (f : ListFound) : Type 0 where
  at : ℕ
  entry : ListEntry
  place : f.place ≡ p + at
  stands : slice_get lists at ≡ Some entry
  candidates : f.candidates ≡ length entry.candidates

found-entry : (p : ℕ) (code : List ℕ) (lists : List ListEntry) (f : ListFound) → list_found_from p code lists ≡ Some f → IsEntry p lists f
found-entry p code [] f is = cc
found-entry p code (list ∷ lists) f is = by_cases (bytes_eq code list.code) is (found-entry (p + 1) code lists f)
  where
    by_cases : (b : Bool) → cond b (Some (record { place = p; candidates = length list.candidates })) (list_found_from (p + 1) code lists) ≡ Some f
        → (list_found_from (p + 1) code lists ≡ Some f → IsEntry (p + 1) lists f) → IsEntry p (list ∷ lists) f
    by_cases true is later =
        let here : p ≡ f.place = cc in
        let many : length list.candidates ≡ f.candidates = cc in record { at = 0; entry = list; place = omega (arith, here); stands = refl; candidates = sym many }
    by_cases false is later =
        let behind = later is in record { at = suc behind.at; entry = behind.entry; place = omega (arith, behind.place); stands = behind.stands; candidates = behind.candidates }

found-candidate : (con : Constituency) (code : List ℕ) (f : ListFound) (place : ℕ) → list_found con code ≡ Some f → has_candidate place f ≡ true → is_candidate con f.place place ≡ true
found-candidate con code f place is has =
    let found = found-entry 1 code con.lists f is in
    let before : f.place - 1 ≡ found.at = omega (arith, found.place) in
    let parts = and_parts (nat_le 1 place) (nat_le place f.candidates) has in
    let within : nat_le place (length found.entry.candidates) ≡ true = ap (nat_le place) (sym found.candidates) ∙ parts.1 in
    let test : ListEntry → Bool = λ l. nat_le 1 place && nat_le place (length l.candidates) in
    and_from (nat_le 1 f.place) (option_map_or test (slice_get con.lists (f.place - 1)) false) (le-leb 1 f.place (omega (arith, found.place)))
    (
    ap (λ (i : ℕ). option_map_or test (slice_get con.lists i) false) before
    ∙ ap (λ (o : Option ListEntry). option_map_or test o false) found.stands
    ∙ and_from (nat_le 1 place) (nat_le place (length found.entry.candidates)) parts.0 within
    )

-- one more who is gone, among those who are
put-places : (key note : List ℕ) (es : List (List ℕ × List ℕ)) → IsUnderPlaces (key, note) → All IsUnderPlaces es → All IsUnderPlaces (put code_cmp key note es)
put-places key note [] is all = All-cons IsUnderPlaces (key, note) [] is all
put-places key note (e ∷ es) is all = go (code_cmp key e.0) (put-places key note es is (All-tail IsUnderPlaces e es all))
  where
    go : (o : Ordering) → All IsUnderPlaces (put code_cmp key note es) → All IsUnderPlaces (by_order o ((key, note) ∷ e ∷ es) ((e.0, note) ∷ es) (e ∷ put code_cmp key note es))
    go Less rest = All-cons IsUnderPlaces (key, note) (e ∷ es) is all
    go Equal rest = All-cons IsUnderPlaces (e.0, note) es (All-head IsUnderPlaces e es all) (All-tail IsUnderPlaces e es all)
    go Greater rest = All-cons IsUnderPlaces e (put code_cmp key note es) (All-head IsUnderPlaces e es all) rest

put-gone : (con : Constituency) (key note : List ℕ) (es : List (List ℕ × List ℕ)) → IsLawfulGone con (gone_candidate (key, note)) → All (IsLawfulGone con) (map gone_candidate es)
    → All (IsLawfulGone con) (map gone_candidate (put code_cmp key note es))
put-gone con key note [] is all = All-cons (IsLawfulGone con) (gone_candidate (key, note)) [] is all
put-gone con key note (e ∷ es) is all = go (code_cmp key e.0) (put-gone con key note es is (All-tail (IsLawfulGone con) (gone_candidate e) (map gone_candidate es) all))
  where
    here : IsLawfulGone con (gone_candidate e)
    here = All-head (IsLawfulGone con) (gone_candidate e) (map gone_candidate es) all

    go : (o : Ordering) → All (IsLawfulGone con) (map gone_candidate (put code_cmp key note es))
        → All (IsLawfulGone con) (map gone_candidate (by_order o ((key, note) ∷ e ∷ es) ((e.0, note) ∷ es) (e ∷ put code_cmp key note es)))
    go Less rest = All-cons (IsLawfulGone con) (gone_candidate (key, note)) (map gone_candidate (e ∷ es)) is all
    go Equal rest =
        All-cons (IsLawfulGone con) (gone_candidate (e.0, note)) (map gone_candidate es) (record { candidate = here.candidate; note = is.note }) (All-tail (IsLawfulGone con) (gone_candidate e) (map gone_candidate es) all)
    go Greater rest = All-cons (IsLawfulGone con) (gone_candidate e) (map gone_candidate (put code_cmp key note es)) here rest

gone-may_be : (con : Constituency) (s : State) (candidate : GoneCandidate) (next : Option ℕ) → IsLawfulIn con s
    → IsLawfulGone con candidate → MayBe con (con_state_after (con_state s con.code) (gone_for_good candidate next)) s.returns
gone-may_be con s candidate next here one = record {
  seen = record {
    first = here.seen.first;
    last = here.seen.last;
    note = here.seen.note;
    lot = here.seen.lot;
    certified = here.seen.certified;
    gone = subst (λ es. All (IsLawfulGone con) (map gone_candidate es)) (sym more) (put-gone con key candidate.note (fin.entries was) (record { candidate = one.candidate; note = one.note }) here.seen.gone);
    past = here.seen.past;
  };
  gone = subst (All IsUnderPlaces) (sym more) (put-places key candidate.note (fin.entries was) refl here.gone);
}
  where
    was : GoneCandidates
    was = (con_state s con.code).gone

    key : List ℕ
    key = candidate.list ∷ candidate.place ∷ []

    more : fin.entries (fin.insert was key candidate.note) ≡ put code_cmp key candidate.note (fin.entries was)
    more = fin.entries-insert nat_list_cmp_total was key candidate.note

-- ---- a step

module _ (setup : List Constituency) (s : State) (code : List ℕ) (con : Constituency) (lawful : IsLawfulState setup s) (is : constituency_with code setup ≡ Some con) where
  drawn-state : (seats : List ℕ) (edition : ℕ) (order : List (List ℕ)) (places : Result (List ℕ) Refusal) → IsLawfulView con (view_of con s seats) → Draws con (view_of con s seats) edition order places
      → IsLawfulState setup (after_change s con.code (change_of_result lot_set places))
  drawn-state seats edition order (Ok places) view draws =
      with_con-lawful setup s code con (con_state_after (con_state s con.code) (lot_set places)) lawful is (drawn-may_be con s seats places edition order (lawful.cons code con is) view draws)
  drawn-state seats edition order (Err refusal) view draws = lawful

  certified-state : (seats : List ℕ) (edition : ℕ) (given_seats : Result (List ℕ) Refusal) → IsLawfulView con (view_of con s seats) → Certifies con (view_of con s seats) edition given_seats
      → IsLawfulState setup (after_change s con.code (change_of_result certified_with given_seats))
  certified-state seats edition (Ok given_seats) view certifies =
      with_con-lawful setup s code con (con_state_after (con_state s con.code) (certified_with given_seats)) lawful is (certified-may_be con s seats given_seats edition (lawful.cons code con is) view certifies)
  certified-state seats edition (Err refusal) view certifies = lawful

  reopened-state : (seats : List ℕ) (edition : ℕ) (note : List ℕ) → (is_note note ≡ true → is_kept_note note ≡ true) → IsLawfulView con (view_of con s seats)
      → IsLawfulState setup (after_change s con.code (change_of_result (λ (r : List ℕ × PastSeats). open_again r.0 r.1) (reopen_result (view_of con s seats) edition note)))
  reopened-state seats edition note keeps view = by_cases (first_refusal (reopen_checks (view_of con s seats) edition note)) refl
    where
      past : PastSeats
      past = certificate_of (view_of con s seats)

      by_cases : (refusal : Option Refusal) → first_refusal (reopen_checks (view_of con s seats) edition note) ≡ refusal
          → IsLawfulState setup (after_change s con.code (change_of_result (λ (r : List ℕ × PastSeats). open_again r.0 r.1) (refused_or refusal (Ok (note, past)))))
      by_cases None none =
          with_con-lawful setup s code con (con_state_after (con_state s con.code) (open_again note past)) lawful is (reopened-may_be con s seats edition note keeps (lawful.cons code con is) view none)
      by_cases (Some refusal) some = lawful

  vacated-state : (seats list : List ℕ) (place : ℕ) (note : List ℕ) → (is_note note ≡ true → is_kept_note note ≡ true)
      → IsLawfulState setup (after_change s con.code (change_of_result (λ (v : GoneCandidate × Option ℕ). gone_for_good v.0 v.1) (vacate_result con (view_of con s seats) list place note)))
  vacated-state seats list place note keeps = at (list_found con list) refl
    where
      gone : GoneCandidate × Option ℕ → ConChange
      gone v = gone_for_good v.0 v.1

      by_cases : (f : ListFound) → list_found con list ≡ Some f → (refusal : Option Refusal) → first_refusal (vacate_checks (view_of con s seats) (Some f) place note) ≡ refusal
          → IsLawfulState setup (after_change s con.code (change_of_result gone (refused_or refusal (vacancy (view_of con s seats) (Some f) place note))))
      by_cases f found None none =
          let stays = not (is_among place (gone_of (view_of con s seats) f.place)) in
          let holds = is_among place (holders_of (view_of con s seats) f (gone_of (view_of con s seats) f.place)) in
          let last = check (con_state s con.code).certified NotCertified ∷ check stays AlreadyGone ∷ check holds NotHolder ∷ [] in
          let after_first : first_refusal (check (is_note note) BadNote ∷ last) ≡ None = passed-rest (has_candidate place f) NoCandidate (check (is_note note) BadNote ∷ last) none in
          let one = found-candidate con list f place found (passed-first (has_candidate place f) NoCandidate (check (is_note note) BadNote ∷ last) none) in
          let good = passed-first (is_note note) BadNote last after_first in
          let left : GoneCandidate = record { list = f.place; place = place; note = note } in
          let next = newcomer (holders_of (view_of con s seats) f (gone_of (view_of con s seats) f.place)) (holders_of (view_of con s seats) f (place ∷ gone_of (view_of con s seats) f.place)) in
          with_con-lawful setup s code con (con_state_after (con_state s con.code) (gone_for_good left next)) lawful is (gone-may_be con s left next (lawful.cons code con is) (record { candidate = one; note = keeps good }))
      by_cases f found (Some refusal) some = lawful

      at : (found : Option ListFound) → list_found con list ≡ found
          → IsLawfulState setup (after_change s con.code (change_of_result gone (refused_or (first_refusal (vacate_checks (view_of con s seats) found place note)) (vacancy (view_of con s seats) found place note))))
      at None found = lawful
      at (Some f) found = by_cases f found (first_refusal (vacate_checks (view_of con s seats) (Some f) place note)) refl

  decided-state : (seats : List ℕ) (ask : Ask) (decided : Result ConChange Refusal) → IsLawfulView con (view_of con s seats) → Decides con (view_of con s seats) ask decided → IsLawfulState setup (after_change s con.code decided)
  decided-state seats (Draw key edition order) decided view decides =
      subst (λ (d : Result ConChange Refusal). IsLawfulState setup (after_change s con.code d)) (sym decides.2) (drawn-state seats edition order.items decides.0 view decides.1)
  decided-state seats (Certify key edition) decided view decides =
      subst (λ (d : Result ConChange Refusal). IsLawfulState setup (after_change s con.code d)) (sym decides.2) (certified-state seats edition decides.0 view decides.1)
  decided-state seats (Reopen key edition note) decided view decides =
      subst (λ (d : Result ConChange Refusal). IsLawfulState setup (after_change s con.code d)) (sym decides) (reopened-state seats edition (string_bytes note) (kept-note note) view)
  decided-state seats (Vacate key list place note) decided view decides =
      subst (λ (d : Result ConChange Refusal). IsLawfulState setup (after_change s con.code d)) (sym decides) (vacated-state seats list place (string_bytes note) (kept-note note))
  decided-state seats (ShowCon key) decided view decides = subst (λ (d : Result ConChange Refusal). IsLawfulState setup (after_change s con.code d)) (sym decides) lawful
  decided-state seats (Lodge station slip counts) decided view decides = absurd decides
  decided-state seats (Query station rev note) decided view decides = absurd decides
  decided-state seats (Correct station rev slip counts) decided view decides = absurd decides
  decided-state seats (Close station rev) decided view decides = absurd decides
  decided-state seats (Confirm station rev slip counts) decided view decides = absurd decides
  decided-state seats (ShowReturn station) decided view decides = absurd decides
  decided-state seats ShowProgress decided view decides = absurd decides

-- the state that a decision leads to is lawful
pub decision-lawful : (setup : List Constituency) (s : State) (ask : Ask) (code : List ℕ) (con : Constituency) (view : View) (decided : Result ConChange Refusal) → IsSetup setup → IsLawfulState setup s
    → constituency_with code setup ≡ Some con → IsView con s view → Decides con view ask decided → IsLawfulState setup (after_change s con.code decided)
decision-lawful setup s ask code con view decided ok lawful is seen decides =
    let lawful_view : IsLawfulView con (view_of con s view.seats) = subst (IsLawfulView con) seen.0 (view-lawful setup s code con view ok lawful is seen) in
    decided-state setup s code con lawful is view.seats ask decided lawful_view (subst (λ (v : View). Decides con v ask decided) seen.0 decides)

pub con-step-lawful : (setup : List Constituency) (s t : State) (ask : Ask) (r : Result Reply Refusal) (code : List ℕ) (con : Constituency) → IsSetup setup → IsLawfulState setup s
    → constituency_with code setup ≡ Some con → con_named ask ≡ Some code → IsConStep (Some con) s ask r t → IsLawfulState setup t
con-step-lawful setup s t ask r code con ok lawful is named step =
    subst (IsLawfulState setup) (sym step.5) (decision-lawful setup s ask code con step.0 step.1 ok lawful is step.2 step.3)
