-- What showing a constituency leaves of a connection, and of a store.
use Rattle.std.proofs.Common.{◌≡◌, ◌⊎◌, ◌∙◌, inl, inr, ℕ, Bool, true, false, IsTrue, List, [], OnOk, Result, Ok, Err, ap, refl, sym, subst, subst₂, true≢false, None, Some}
use Rattle.sqlite.specs.Effect.{Database}
use Rattle.sqlite.specs.State.{State as Seen, HasCleanDisk, IsUnchanged}
use Rattle.sqlite.specs.declared.error.Error.{Error}
use Rattle.tally_setup.specs.Constituency.{Constituency}
use Rattle.tally_setup.specs.Limits.{IsSetup}
use Rattle.tally_returns.specs.Named.{BringsCode}
use Rattle.tally_returns.specs.PastSeats.{PastSeats}
use Rattle.tally_returns.specs.State.{State}
use Rattle.tally_returns.specs.View.{View}
use Rattle.tally_returns.specs.declared.ask.Ask.TheVariants.{ShowCon}
use Rattle.tally_returns.specs.declared.refusal.Refusal.{Refusal}
use Rattle.tally_returns.specs.declared.refusal.Refusal.TheVariants.{Store}
use Rattle.tally_machine_law.specs.LawStatements.{ViewsAreLawful}
use Rattle.tally_machine_law.specs.LawfulState.{IsLawfulState}
use Rattle.tally_machine_law.proofs.LawLemmas.{answered-lawful}
use Rattle.tally_keeper.specs.Keeper.{Happens, request}
use Rattle.tally_keeper.specs.Shown.{AnswersShowCon, con_with}
use Rattle.tally_store_commands.specs.internal.Known.{AreKnown, Known}
use Rattle.tally_store_commands.specs.internal.Requests.{IsCarriedOut}
use Rattle.tally_store_commands.specs.internal.Shown.{IsShownIn}
use Rattle.tally_store_commands.proofs.KnownLemmas.{con-returns}
use Rattle.tally_store_schema.specs.Office.{IsInside}
use Rattle.tally_store_rows.specs.TablesOfState.{AreTables}
use Rattle.tally_store_open.specs.Office.{HasState, IsOffice}
use Rattle.tally_store.specs.Content.{content_of}
use Rattle.tally_store.specs.Store.{IsStored, KeepsText}
use Rattle.tally_store.specs.internal.Served.{IsServed}
use Rattle.tally_store.specs.internal.Requests.{DoesShow, IsNothing, IsConShown, KnowsStill}
use Rattle.tally_store.proofs.ContentLemmas.{content_is, content_shut}
use Rattle.tally_store.proofs.EndLemmas.{GotSo}
use Rattle.tally_store.proofs.RequestLemmas.{inside_still, nothing-known, one_state}

-- ---- in a transaction

-- what was shown was carried out, by a call that left the tables as they were
pub shown_carried : (setup : List Constituency) (text : List ℕ) (s : State) (con : List ℕ) (bare last : Seen) (shown : Result View Refusal) → IsShownIn setup s con shown → IsUnchanged bare last → IsInside bare → AreTables setup text s bare.now.trees
    → (past : List PastSeats) × IsCarriedOut setup text s (ShowCon con) (con_with past shown) last
shown_carried setup text s con bare last shown is same here held = (
  is.0,
  record {
    state = s;
    answered = is.1;
    in_state = record { inside = inside_still bare last same here; tables = subst (λ (d : Database). AreTables setup text s d.trees) (sym same.0.now_is) held };
  },
)

-- and so where it was found in a transaction
pub shown_got : (setup : List Constituency) (con : List ℕ) (known : Known) (bare last : Seen) (got : Result (Result View Refusal) Error) → OnOk got (IsUnchanged bare last) → IsInside bare
    → GotSo setup known bare got (λ shown text s. IsShownIn setup s con shown) → GotSo setup known bare got (λ shown text s. (past : List PastSeats) × IsCarriedOut setup text s (ShowCon con) (con_with past shown) last)
shown_got setup con known bare last (Ok shown) same here is = λ text s lawful held tables. shown_carried setup text s con bare last shown (is text s lawful held tables) same here tables
shown_got setup con known bare last (Err e) same here is = tt

-- a request that shows a constituency brings no slip
brings_none : (con : List ℕ) → BringsCode (ShowCon con)
brings_none con slip none = let e : None ≡ Some slip = none in cc

-- ---- what a store shows

-- what is known of showing a constituency on the connection of a store
pub record ServedView (setup : List Constituency) (old new : Seen) (con : List ℕ) (shown : Result View Refusal) : Type 0 where
  pub ended : new.in_transaction ≡ false
  pub clean : HasCleanDisk new → HasCleanDisk old
  pub done : DoesShow setup con old new shown
  pub shut : HasCleanDisk new → new.is_open ≡ false → shown ≡ Err Store
  pub was_open : HasCleanDisk new → IsTrue new.is_open → IsTrue old.is_open

module _ (setup : List Constituency) (old new : Seen) (con : List ℕ) (shown : Result View Refusal) where
  after : (s : State) → IsSetup setup → IsLawfulState setup s → (office : IsOffice setup s old) → IsConShown setup office.text s con shown new → (t : State) × IsLawfulState setup t × IsOffice setup t new
  after s limits lawful office done =
      (done.1.state, answered-lawful setup s done.1.state (ShowCon con) (con_with done.0 shown) (brings_none con) limits lawful done.1.answered, record { text = office.text; reads = office.reads; has = done.1.has })

  pub stored_view : IsStored setup old → ServedView setup old new con shown → IsStored setup new
  stored_view was h = record {
    limits = was.limits;
    autocommit = h.ended;
    office = λ clean now.
        let before = was.office (h.clean clean) (h.was_open clean now) in
        after before.0 was.limits before.1 before.2 (h.done clean now before.2.text before.0 before.1 before.2.has);
  }

  pub shows_after : ViewsAreLawful → IsStored setup old → ServedView setup old new con shown → HasCleanDisk new → AnswersShowCon setup (content_of setup old) con shown (content_of setup new)
  unfolding after
  shows_after views was h clean = go old.is_open new.is_open refl refl
    where
      failed : HasCleanDisk new → new.is_open ≡ false → con_with [] shown ≡ Err Store
      failed clean shut = ap (con_with []) (h.shut clean shut)

      go : (b d : Bool) → old.is_open ≡ b → new.is_open ≡ d → AnswersShowCon setup (content_of setup old) con shown (content_of setup new)
      go true true before now =
          let office = was.office (h.clean clean) before in
          let done = h.done clean now office.2.text office.0 office.1 office.2.has in
          let next = after office.0 was.limits office.1 office.2 done in
          (done.0, subst₂ (λ a b. Happens setup a (request (ShowCon con) (con_with done.0 shown)) b) (sym (content_is setup office.0 old views was.limits office.1 office.2 before)) (sym (content_is setup next.0 new views was.limits next.1 next.2 now)) done.1.answered)
      go true false before shut =
          let office = was.office (h.clean clean) before in
          ([], subst₂ (λ a b. Happens setup a (request (ShowCon con) (con_with [] shown)) b) (sym (content_is setup office.0 old views was.limits office.1 office.2 before)) (sym (content_shut setup new shut)) (failed clean shut))
      go false true before now = absurd (true≢false (sym (h.was_open clean now) ∙ before))
      go false false before shut =
          ([], subst₂ (λ a b. Happens setup a (request (ShowCon con) (con_with [] shown)) b) (sym (content_shut setup old before)) (sym (content_shut setup new shut)) (inr (failed clean shut)))

  pub keeps_text_shown : DoesShow setup con old new shown → HasCleanDisk new → IsTrue new.is_open → KeepsText setup old new
  keeps_text_shown does clean now text s lawful has = let done = does clean now text s lawful has in (done.1.state, done.1.has)

  pub served_view : (known : Known) → ViewsAreLawful → IsStored setup old → ServedView setup old new con shown → KnowsStill setup old new known → IsServed setup new known
  served_view known views was h knows = record {
    stored = stored_view was h;
    true_is = λ clean now text s lawful has. go clean text s lawful has (knows clean);
  }
    where
      go : HasCleanDisk new → (text : List ℕ) (s : State) → IsLawfulState setup s → HasState setup text s new
          → IsNothing known ⊎ (IsTrue new.is_open × ((text : List ℕ) (s : State) → IsLawfulState setup s → HasState setup text s old → AreKnown setup s.returns known)) → AreKnown setup s.returns known
      go clean text s lawful has (inl nothing) = nothing-known setup s.returns known nothing
      go clean text s lawful has (inr ensured) =
          let office = was.office (h.clean clean) (h.was_open clean ensured.0) in
          let done = h.done clean ensured.0 office.2.text office.0 office.1 office.2.has in
          let next : IsOffice setup done.1.state new = record { text = office.2.text; reads = office.2.reads; has = done.1.has } in
          let is : done.1.state ≡ s = one_state setup s done.1.state text new views was.limits lawful has (answered-lawful setup office.0 done.1.state (ShowCon con) (con_with done.0 shown) (brings_none con) was.limits office.1 done.1.answered) next ensured.0 in
          let same = con-returns setup office.0 done.1.state (ShowCon con) con (con_with done.0 shown) refl done.1.answered in
          subst (λ (x : State). AreKnown setup x.returns known) is
          (subst (λ m. AreKnown setup m known) (sym same) (ensured.1 office.2.text office.0 office.1 office.2.has))
