-- What is held of each constituency, where what one of them has come to is changed.
use Rattle.std.proofs.Common.{◌≡◌, ◌<◌, ◌+◌, ◌^◌, ◌∙◌, ℕ, List, [], Bool, true, false, cond, Option, Some, None, refl, sym, ap, subst}
use Rattle.std.specs.Prelude.{option_map, is_some, unwrap_or, IsSome}
use Rattle.std.specs.FinMap.{get}
use Rattle.std.specs.Option.{ForSome}
use Rattle.std.specs.Ordering.{eq_by_cmp}
use Rattle.tally_setup.specs.Code.{code_cmp}
use Rattle.tally_setup.specs.Constituency.{Constituency}
use Rattle.tally_setup.specs.Limits.{IsSetup}
use Rattle.tally_setup.specs.Setup.{constituency_with}
use Rattle.tally_machine_law.specs.Step.{ConChange, certified_with, con_state_after, gone_for_good, lot_set, open_again}
use Rattle.tally_returns.specs.GoneCandidate.{GoneCandidate}
use Rattle.tally_returns.specs.PastSeats.{PastSeats}
use Rattle.tally_returns.specs.Progress.{progress_row}
use Rattle.tally_returns.specs.Return.{Returns}
use Rattle.tally_returns.specs.State.{ConState, con_state, opening_con}
use Rattle.tally_returns.specs.View.{View, gone_candidates, past_records, view_with}
use Rattle.tally_keeper.specs.Kept.{AreEarlier, Kept, seats_after, state_in, view_in, with_change, with_no_lot}
use Rattle.tally_keeper.specs.internal.Rows.{IsTallied, Views, con_of, cons_of, gone_by_places, past_by_edition, progress_row_of, seats_of, with_gone, with_reopening, with_view}
use Rattle.tally_keeper.proofs.GoneLemmas.{gone-stays, gone_of-insert, key_of}
use Rattle.tally_keeper.proofs.PastLemmas.{AreBefore, past-stays, past_of-insert}
use Rattle.tally_setup.proofs.NamedLemmas.{Has, con-found, con-only}
use Rattle.tally_keeper.proofs.TreeLemmas.{cons_of-changed, get-cons_of, get-seats_of, get-with_view, same_code, seats_of-changed, seats_of-kept}

-- what is kept, of what is held
abbrev pub kept : List Constituency → Returns → Views → Kept
kept setup returns views = record { setup = setup; returns = returns; cons = cons_of views; seats = seats_of views }

-- a view that is what is seen
abbrev pub IsSeen : Constituency → Returns → View → Type 0
IsSeen con returns view = view ≡ view_with con (con_of view) returns view.seats

-- a view that is changed stays what is seen
abbrev pub KeepsSeen : Returns → (View → View) → View → Type 0
KeepsSeen returns change view = (con : Constituency) → IsSeen con returns view → IsSeen con returns (change view)

pub tallied-changed : (setup : List Constituency) (returns : Returns) (views : Views) (code : List ℕ) (change : View → View) → IsTallied setup returns views
    → ((view : View) → get views code ≡ Some view → KeepsSeen returns change view) → IsTallied setup returns (with_view views code change)
tallied-changed setup returns views code change tallied keeps = record {
  lawful = tallied.lawful;
  seen = λ q view there. by_tie q view (eq_by_cmp code_cmp q code) refl (get views q) refl (sym (get-with_view views code change q) ∙ there);
  known = λ q. ap is_some (get-with_view views code change q) ∙ either (eq_by_cmp code_cmp q code) (get views q) ∙ tallied.known q;
}
  where
    either : (b : Bool) (found : Option View) → is_some (cond b (option_map change found) found) ≡ is_some found
    either true None = refl
    either true (Some view) = refl
    either false found = refl

    by_tie : (q : List ℕ) (view : View) (b : Bool) → eq_by_cmp code_cmp q code ≡ b → (found : Option View) → get views q ≡ found → cond b (option_map change found) found ≡ Some view
        → (con : Constituency) × (constituency_with q setup ≡ Some con) × IsSeen con returns view
    by_tie q view true tied None there some = absurd cc
    by_tie q view true tied (Some before) there some =
        let seen = tallied.seen q before there in
        let now : change before ≡ view = cc in
        let at : get views code ≡ Some before = ap (get views) (sym (same_code q code tied)) ∙ there in
        (seen.0, seen.1, subst (IsSeen seen.0 returns) now (keeps before at seen.0 seen.2))
    by_tie q view false tied found there some = tallied.seen q view (there ∙ some)

-- what a constituency of the setup has come to
pub con_state-is : (returns : Returns) (views : Views) (code : List ℕ) (view : View) → get views code ≡ Some view → con_state (record { returns = returns; cons = cons_of views }) code ≡ con_of view
con_state-is returns views code view there = ap (λ found. unwrap_or found opening_con) (get-cons_of views code ∙ ap (option_map con_of) there)

pub held : (setup : List Constituency) (returns : Returns) (views : Views) (code : List ℕ) → IsTallied setup returns views → IsSome (constituency_with code setup) → (view : View) × (get views code ≡ Some view)
held setup returns views code tallied known = by_found (get views code) refl (tallied.known code ∙ known)
  where
    by_found : (found : Option View) → get views code ≡ found → is_some found ≡ true → (view : View) × (get views code ≡ Some view)
    by_found None there is = absurd cc
    by_found (Some view) there is = (view, there)

-- there is an edition after this one
pub edition-room : (returns : Returns) (views : Views) (code : List ℕ) → (con_state (record { returns = returns; cons = cons_of views }) code).edition + 1 < 2 ^ 32
    → ForSome (get views code) (λ view. view.edition + 1 < 2 ^ 32)
edition-room returns views code room = λ view there. subst (λ (c : ConState). c.edition + 1 < 2 ^ 32) (con_state-is returns views code view there) room

-- what is kept after a change
pub kept-changed : (setup : List Constituency) (returns : Returns) (views : Views) (code : List ℕ) (change : ConChange) (f : View → View) → IsTallied setup returns views
    → IsSome (constituency_with code setup) → ((view : View) → get views code ≡ Some view → con_of (f view) ≡ con_state_after (con_of view) change)
    → ((view : View) → get views code ≡ Some view → seats_of (with_view views code f) ≡ seats_after (seats_of views) code change)
    → kept setup returns (with_view views code f) ≡ with_change (kept setup returns views) code change
kept-changed setup returns views code change f tallied known con seats =
    let found = held setup returns views code tallied known in
    let state : con_of (f found.0) ≡ con_state_after (con_state (record { returns = returns; cons = cons_of views }) code) change =
    con found.0 found.1 ∙ ap (λ (c : ConState). con_state_after c change) (sym (con_state-is returns views code found.0 found.1)) in
    let cons = cons_of-changed views code f found.0 (con_state_after (con_state (record { returns = returns; cons = cons_of views }) code) change) found.1 state in
    λ i. record { setup = setup; returns = returns; cons = cons i; seats = seats found.0 found.1 i }

-- ---- each of the changes

abbrev pub with_lot : List ℕ → View → View
with_lot lot view = record view { edition = view.edition + 1; lot = lot }

abbrev pub with_seats : List ℕ → View → View
with_seats seats view = record view { edition = view.edition + 1; certified = true; seats = seats }

abbrev pub without_lot : View → View
without_lot view = record view { lot = [] }

pub lot-seen : (returns : Returns) (lot : List ℕ) (view : View) → KeepsSeen returns (with_lot lot) view
lot-seen returns lot view con seen = λ i. record (seen i) { edition = view.edition + 1; lot = lot }

pub seats-seen : (returns : Returns) (seats : List ℕ) (view : View) → KeepsSeen returns (with_seats seats) view
seats-seen returns seats view con seen = λ i. record (seen i) { edition = view.edition + 1; certified = true; seats = seats }

pub without-seen : (returns : Returns) (view : View) → KeepsSeen returns without_lot view
without-seen returns view con seen = λ i. record (seen i) { lot = [] }

pub lot-kept : (setup : List Constituency) (returns : Returns) (views : Views) (code lot : List ℕ) → IsTallied setup returns views → IsSome (constituency_with code setup)
    → kept setup returns (with_view views code (with_lot lot)) ≡ with_change (kept setup returns views) code (lot_set lot)
lot-kept setup returns views code lot tallied known =
    kept-changed setup returns views code (lot_set lot) (with_lot lot) tallied known (λ view there. refl) (λ view there. seats_of-kept views code (with_lot lot) (λ v. refl))

pub seats-kept : (setup : List Constituency) (returns : Returns) (views : Views) (code seats : List ℕ) → IsTallied setup returns views → IsSome (constituency_with code setup)
    → kept setup returns (with_view views code (with_seats seats)) ≡ with_change (kept setup returns views) code (certified_with seats)
seats-kept setup returns views code seats tallied known =
    kept-changed setup returns views code (certified_with seats) (with_seats seats) tallied known (λ view there. refl) (λ view there. seats_of-changed views code (with_seats seats) view seats there refl)

pub without-kept : (setup : List Constituency) (returns : Returns) (views : Views) (code : List ℕ) → IsTallied setup returns views → IsSome (constituency_with code setup)
    → kept setup returns (with_view views code without_lot) ≡ with_no_lot (kept setup returns views) code
without-kept setup returns views code tallied known =
    let found = held setup returns views code tallied known in
    let state : con_of (without_lot found.0) ≡ record (con_state (record { returns = returns; cons = cons_of views }) code) { lot = [] } =
    ap (λ (c : ConState). record c { lot = [] }) (sym (con_state-is returns views code found.0 found.1)) in
    let cons = cons_of-changed views code without_lot found.0 (record (con_state (record { returns = returns; cons = cons_of views }) code) { lot = [] }) found.1 state in
    λ i. record { setup = setup; returns = returns; cons = cons i; seats = seats_of-kept views code without_lot (λ v. refl) i }

-- ---- a candidate is gone

abbrev pub one_gone : GoneCandidate → View → View
one_gone g view = record view { gone = with_gone g view.gone }

-- the candidate was not gone
pub was-here : (returns : Returns) (views : Views) (code : List ℕ) (g : GoneCandidate) → get (con_state (record { returns = returns; cons = cons_of views }) code).gone (key_of g) ≡ None
    → (view : View) → get views code ≡ Some view → get (gone_by_places view.gone) (key_of g) ≡ None
was-here returns views code g none view there = subst (λ (c : ConState). get c.gone (key_of g) ≡ None) (con_state-is returns views code view there) none

pub gone-seen : (returns : Returns) (g : GoneCandidate) (view : View) → get (gone_by_places view.gone) (key_of g) ≡ None → KeepsSeen returns (one_gone g) view
gone-seen returns g view none con seen =
    let gone : view.gone ≡ gone_candidates (gone_by_places view.gone) = ap (λ (v : View). v.gone) seen in
    λ i. record (seen i) { gone = gone-stays g view.gone gone none i }

pub gone-kept : (setup : List Constituency) (returns : Returns) (views : Views) (code : List ℕ) (g : GoneCandidate) → IsTallied setup returns views → IsSome (constituency_with code setup)
    → get (con_state (record { returns = returns; cons = cons_of views }) code).gone (key_of g) ≡ None
    → kept setup returns (with_view views code (one_gone g)) ≡ with_change (kept setup returns views) code (gone_for_good g None)
gone-kept setup returns views code g tallied known none =
    kept-changed setup returns views code (gone_for_good g None) (one_gone g) tallied known
    (λ view there.
    let seen = (tallied.seen code view there).2 in
    let gone : view.gone ≡ gone_candidates (gone_by_places view.gone) = ap (λ (v : View). v.gone) seen in
    λ i. record (con_of view) { gone = gone_of-insert g view.gone gone (was-here returns views code g none view there) i })
    (λ view there. seats_of-kept views code (one_gone g) (λ v. refl))

-- ---- a certificate is reopened

-- those on record of a constituency that is held are of earlier editions
pub held-earlier : (setup : List Constituency) (returns : Returns) (views : Views) (code : List ℕ) (edition : ℕ) → IsTallied setup returns views
    → AreEarlier (con_state (record { returns = returns; cons = cons_of views }) code).past edition → (view : View) → get views code ≡ Some view → AreBefore edition view.past
held-earlier setup returns views code edition tallied earlier view there =
    let seen : view.past ≡ past_records (past_by_edition view.past) = ap (λ (v : View). v.past) (tallied.seen code view there).2 in
    subst (AreBefore edition) (sym seen) (subst (λ (c : ConState). AreEarlier c.past edition) (con_state-is returns views code view there) earlier)

pub reopening-seen : (returns : Returns) (note : List ℕ) (past : PastSeats) (view : View) → AreBefore past.edition view.past → KeepsSeen returns (with_reopening note past) view
reopening-seen returns note past view before con seen =
    let records : view.past ≡ past_records (past_by_edition view.past) = ap (λ (v : View). v.past) seen in
    λ i. record (seen i) { edition = view.edition + 1; certified = false; note = note; seats = []; past = past-stays past view.past records before i }

pub reopening-kept : (setup : List Constituency) (returns : Returns) (views : Views) (code note : List ℕ) (past : PastSeats) → IsTallied setup returns views → IsSome (constituency_with code setup)
    → AreEarlier (con_state (record { returns = returns; cons = cons_of views }) code).past past.edition
    → kept setup returns (with_view views code (with_reopening note past)) ≡ with_change (kept setup returns views) code (open_again note past)
reopening-kept setup returns views code note past tallied known earlier =
    kept-changed setup returns views code (open_again note past) (with_reopening note past) tallied known
    (λ view there.
    let records : view.past ≡ past_records (past_by_edition view.past) = ap (λ (v : View). v.past) (tallied.seen code view there).2 in
    let before = held-earlier setup returns views code past.edition tallied earlier view there in
    λ i. record (con_of view) { edition = view.edition + 1; certified = false; note = note; past = past_of-insert past view.past records before i })
    (λ view there. seats_of-changed views code (with_reopening note past) view [] there refl)

-- ---- what is held

-- what is held of a constituency is what is seen of it
pub view-is : (setup : List Constituency) (returns : Returns) (views : Views) (code : List ℕ) → IsTallied setup returns views
    → get views code ≡ option_map (view_in (kept setup returns views)) (constituency_with code setup)
view-is setup returns views code tallied = by_found (get views code) refl
  where
    none : (con : Option Constituency) → is_some con ≡ false → None ≡ option_map (view_in (kept setup returns views)) con
    none None is = refl
    none (Some con) is = absurd cc

    by_found : (found : Option View) → get views code ≡ found → found ≡ option_map (view_in (kept setup returns views)) (constituency_with code setup)
    by_found None there = none (constituency_with code setup) (sym (tallied.known code) ∙ ap is_some there)
    by_found (Some view) there =
        let seen = tallied.seen code view there in
        let at : get views seen.0.code ≡ Some view = ap (get views) (sym (con-found setup code seen.0 seen.1).0) ∙ there in
        let state = con_state-is returns views seen.0.code view at in
        let seats : unwrap_or (get (seats_of views) seen.0.code) [] ≡ view.seats =
        ap (λ found. unwrap_or found []) (get-seats_of views seen.0.code ∙ ap (option_map (λ (v : View). v.seats)) at) in
        ap Some seen.2 ∙ (λ i. Some (view_with seen.0 (sym state i) returns (sym seats i))) ∙ sym (ap (option_map (view_in (kept setup returns views))) seen.1)

pub row-is : (setup : List Constituency) (returns : Returns) (views : Views) (con : Constituency) (view : View) → IsSetup setup → IsTallied setup returns views → Has con setup
    → get views con.code ≡ Some view → progress_row_of con.code view ≡ progress_row (state_in (kept setup returns views)) con
row-is setup returns views con view limits tallied has there =
    let seen = tallied.seen con.code view there in
    let found : constituency_with con.code setup ≡ Some con = con-only setup con limits has in
    let same : seen.0 ≡ con = cc in
    let is : IsSeen con returns view = subst (λ (c : Constituency). IsSeen c returns view) same seen.2 in
    let state = con_state-is returns views con.code view there in
    ap (progress_row_of con.code) is ∙ (λ i. record (progress_row (state_in (kept setup returns views)) con) { edition = (sym state i).edition; certified = (sym state i).certified })

-- each constituency of the setup is held
pub held-has : (setup : List Constituency) (returns : Returns) (views : Views) (con : Constituency) → IsSetup setup → IsTallied setup returns views → Has con setup → IsSome (get views con.code)
held-has setup returns views con limits tallied has = tallied.known con.code ∙ ap is_some (con-only setup con limits has)
