-- What showing the stations of a constituency leaves of a connection, and of a store.
use Rattle.std.proofs.Common.{◌≡◌, ◌⊎◌, ◌∙◌, inl, inr, ℕ, Bool, true, false, IfErr, IfOk, IsTrue, List, OnOk, Result, Ok, Err, None, Some, ap, refl, sym, subst, subst₂, true≢false}
use Rattle.std.specs.Prelude.{Vec}
use Rattle.std.specs.declared.alloc.Global.{Global}
use Rattle.sqlite.specs.Effect.{Database}
use Rattle.sqlite.specs.State.{State as Seen, HasCleanDisk, IsUnchanged}
use Rattle.sqlite.specs.declared.error.Error.{Error}
use Rattle.tally_setup.specs.Constituency.{Constituency}
use Rattle.tally_setup.specs.Setup.{constituency_with}
use Rattle.tally_returns.specs.State.{State}
use Rattle.tally_returns.specs.declared.refusal.Refusal.{Refusal}
use Rattle.tally_returns.specs.declared.refusal.Refusal.TheVariants.{NoConstituency, Store}
use Rattle.tally_returns.specs.declared.station_row.StationRow.{StationRow}
use Rattle.tally_machine_law.specs.LawStatements.{ViewsAreLawful}
use Rattle.tally_machine_law.specs.LawfulState.{IsLawfulState}
use Rattle.tally_keeper.specs.Shown.{IsReturnsRefusal, ShowsReturns}
use Rattle.tally_store_commands.specs.internal.Known.{AreKnown, Known}
use Rattle.tally_store_commands.specs.internal.Requests.{IsInState}
use Rattle.tally_store_commands.specs.internal.Stations.{FindsStations}
use Rattle.tally_store_commands.proofs.LodgedLemmas.{still}
use Rattle.tally_store_schema.specs.Office.{IsInside}
use Rattle.tally_store_open.specs.Create.{IsAsBefore}
use Rattle.tally_store_open.specs.Office.{HasState, IsOffice}
use Rattle.tally_store.specs.Content.{content_of}
use Rattle.tally_store.specs.Crash.{LeavesSame, LooksWithoutWriting, WritesNothing}
use Rattle.tally_store.specs.Store.{IsStored, KeepsText}
use Rattle.tally_store.specs.internal.Served.{IsServed}
use Rattle.tally_store.specs.internal.Requests.{DoesShowReturns, EndsFrom, IsNothing, IsRefusedByKeeper, KnowsStill}
use Rattle.tally_store.proofs.ContentLemmas.{content_is, content_shut}
use Rattle.tally_store.proofs.EndLemmas.{Ended, GotSo, back, early, ends_from, open_if_got, so_of_state, still_there}
use Rattle.tally_store.proofs.RequestLemmas.{nothing-known, one_state, state_back, state_committed}

-- ---- in a transaction

-- what was shown is so of a state whose tables are there still
abbrev pub IsShownStill : List Constituency → List ℕ → Seen → Result (Vec StationRow Global) Refusal → List ℕ → State → Type 0
IsShownStill setup con last shown text s = ShowsReturns setup (Some s) con shown (Some s) × IsInState setup text s last

-- and so where it was found in a transaction
pub stations_got : (setup : List Constituency) (con : List ℕ) (known : Known) (bare last : Seen) (got : Result (Result (Vec StationRow Global) Refusal) Error) → OnOk got (IsUnchanged bare last) → IsInside bare → IfOk got (FindsStations setup con bare)
    → GotSo setup known bare got (IsShownStill setup con last)
stations_got setup con known bare last (Ok shown) same here finds = λ text s lawful held tables. (finds text s lawful tables, still setup text s bare last same here tables)
stations_got setup con known bare last (Err e) same here finds = tt

-- what was refused there
pub refused_got : (setup : List Constituency) (con : List ℕ) (got : Result (Result (Vec StationRow Global) Refusal) Error) → IfOk got (λ shown. IfErr shown (λ why. (why ≡ NoConstituency) × (constituency_with con setup ≡ None)))
    → IfOk got (λ shown. IfErr shown (IsReturnsRefusal setup con))
refused_got setup con (Ok (Ok rows)) h = tt
refused_got setup con (Ok (Err why)) h = inl h
refused_got setup con (Err e) h = tt

-- what was known is known still
pub known_got : (setup : List Constituency) (known : Known) (bare : Seen) (got : Result (Result (Vec StationRow Global) Refusal) Error) → GotSo setup known bare got (λ shown text s. AreKnown setup s.returns known)
known_got setup known bare (Ok shown) = λ text s lawful held tables. held
known_got setup known bare (Err e) = tt

module _ {setup : List Constituency} (con : List ℕ) {before mid after : Known} {old bare last new : Seen} {got : Result (Result (Vec StationRow Global) Refusal) Error} {r : Result (Vec StationRow Global) Refusal}
    (h : Ended setup (IsShownStill setup con last) before mid after old bare last new got r) where
  pub shows_stations : DoesShowReturns setup con old new r
  shows_stations clean now text s lawful has = elim h.ends.how [
    | inl it ↦ (let so = so_of_state h r it.is (early h clean) text s lawful has in (so.0, state_committed setup text s last new so.1 (it.shown clean)))
    | inr up ↦ (subst (λ y. ShowsReturns setup (Some s) con y (Some s)) (sym up.is) (refl, inr up.own), state_back setup text s old new has (back h up clean now text s lawful has))
  ]

  pub ends_look : (HasCleanDisk last → IsInside bare → OnOk got (IsUnchanged bare last)) → EndsFrom (LeavesSame old) old new
  ends_look same = ends_from h (LeavesSame old) (λ y is clean. record { was_open = open_if_got h y is clean; same = ap (λ (d : Database). d.trees) (still_there h y is same clean) })

-- what was written is nothing
pub looks : {T : Type 0} (old new : Seen) (r : Result T Refusal) → WritesNothing old new ⊎ (IsRefusedByKeeper r × (HasCleanDisk new → IsTrue new.is_open → IsAsBefore old new)) → LooksWithoutWriting old new r
looks old new (Ok x) (inl nothing) = nothing
looks old new (Ok x) (inr own) = absurd own.0
looks old new (Err why) (inl nothing) = inl nothing
looks old new (Err why) (inr own) = inr own

-- ---- what a store shows

-- what is known of showing the stations of a constituency on the connection of a store
pub record ServedStations (setup : List Constituency) (old new : Seen) (con : List ℕ) (shown : Result (Vec StationRow Global) Refusal) : Type 0 where
  pub ended : new.in_transaction ≡ false
  pub clean : HasCleanDisk new → HasCleanDisk old
  pub done : DoesShowReturns setup con old new shown
  pub shut : HasCleanDisk new → new.is_open ≡ false → shown ≡ Err Store
  pub was_open : HasCleanDisk new → IsTrue new.is_open → IsTrue old.is_open

module _ (setup : List Constituency) (old new : Seen) (con : List ℕ) (shown : Result (Vec StationRow Global) Refusal) where
  -- the office is that of the same state
  same_office : (s : State) → (office : IsOffice setup s old) → HasState setup office.text s new → IsOffice setup s new
  same_office s office has = record { text = office.text; reads = office.reads; has = has }

  pub stored_stations : IsStored setup old → ServedStations setup old new con shown → IsStored setup new
  stored_stations was h = record {
    limits = was.limits;
    autocommit = h.ended;
    office = λ clean now.
        let office = was.office (h.clean clean) (h.was_open clean now) in
        (office.0, office.1, same_office office.0 office.2 (h.done clean now office.2.text office.0 office.1 office.2.has).1);
  }

  -- a keeper that is shut shows none
  shown_none : (r : Result (Vec StationRow Global) Refusal) → r ≡ Err Store → ShowsReturns setup None con r None
  shown_none r failed = subst (λ y. ShowsReturns setup None con y None) (sym failed) (inr refl)

  shown_shut : (s : State) (r : Result (Vec StationRow Global) Refusal) → r ≡ Err Store → ShowsReturns setup (Some s) con r None
  shown_shut s r failed = subst (λ y. ShowsReturns setup (Some s) con y None) (sym failed) refl

  pub stations_shown : ViewsAreLawful → IsStored setup old → ServedStations setup old new con shown → HasCleanDisk new → ShowsReturns setup (content_of setup old) con shown (content_of setup new)
  stations_shown views was h clean = go old.is_open new.is_open refl refl
    where
      go : (b d : Bool) → old.is_open ≡ b → new.is_open ≡ d → ShowsReturns setup (content_of setup old) con shown (content_of setup new)
      go true true before now =
          let office = was.office (h.clean clean) before in
          let done = h.done clean now office.2.text office.0 office.1 office.2.has in
          let next = same_office office.0 office.2 done.1 in
          subst₂ (λ a b. ShowsReturns setup a con shown b) (sym (content_is setup office.0 old views was.limits office.1 office.2 before)) (sym (content_is setup office.0 new views was.limits office.1 next now)) done.0
      go true false before shut =
          let office = was.office (h.clean clean) before in
          subst₂ (λ a b. ShowsReturns setup a con shown b) (sym (content_is setup office.0 old views was.limits office.1 office.2 before)) (sym (content_shut setup new shut)) (shown_shut office.0 shown (h.shut clean shut))
      go false true before now = absurd (true≢false (sym (h.was_open clean now) ∙ before))
      go false false before shut = subst₂ (λ a b. ShowsReturns setup a con shown b) (sym (content_shut setup old before)) (sym (content_shut setup new shut)) (shown_none shown (h.shut clean shut))

  pub keeps_text_looked : DoesShowReturns setup con old new shown → HasCleanDisk new → IsTrue new.is_open → KeepsText setup old new
  keeps_text_looked does clean now text s lawful has = (s, (does clean now text s lawful has).1)

  pub served_stations : (known : Known) → ViewsAreLawful → IsStored setup old → ServedStations setup old new con shown → KnowsStill setup old new known → IsServed setup new known
  served_stations known views was h knows = record {
    stored = stored_stations was h;
    true_is = λ clean now text s lawful has. go clean text s lawful has (knows clean);
  }
    where
      go : HasCleanDisk new → (text : List ℕ) (s : State) → IsLawfulState setup s → HasState setup text s new
          → IsNothing known ⊎ (IsTrue new.is_open × ((text : List ℕ) (s : State) → IsLawfulState setup s → HasState setup text s old → AreKnown setup s.returns known)) → AreKnown setup s.returns known
      go clean text s lawful has (inl nothing) = nothing-known setup s.returns known nothing
      go clean text s lawful has (inr ensured) =
          let office = was.office (h.clean clean) (h.was_open clean ensured.0) in
          let next = same_office office.0 office.2 (h.done clean ensured.0 office.2.text office.0 office.1 office.2.has).1 in
          subst (λ (x : State). AreKnown setup x.returns known) (one_state setup s office.0 text new views was.limits lawful has office.1 next ensured.0) (ensured.1 office.2.text office.0 office.1 office.2.has)
