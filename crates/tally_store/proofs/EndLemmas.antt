-- A call in a transaction of its own: what was got there, and how that ended.
use Rattle.std.proofs.Common.{◌≡◌, ◌⊎◌, ◌∙◌, inl, inr, ℕ, true, false, IsOk, IsTrue, IfErr, IfOk, OnOk, List, Result, Ok, Err, refl, sym, ap, subst, subst₂, arith, true≢false}
use Rattle.std.proofs.lemmas.Result.{IfOk-at_ok}
use Rattle.sqlite.proofs.StateLemmas.{survives_then, survives_weaker}
use Rattle.sqlite.specs.State.{State as Seen, HasCleanDisk, IsRolledBack, IsUnchanged, KeepsCommit, Survives}
use Rattle.sqlite.specs.declared.error.Error.{Error}
use Rattle.sqlite.specs.Held.{Held, state}
use Rattle.sqlite_trees.specs.declared.store.Store.{Ghosts}
use Rattle.sqlite_trees.specs.Tree.{Trees}
use Rattle.tally_setup.specs.Constituency.{Constituency}
use Rattle.tally_returns.specs.State.{State}
use Rattle.tally_returns.specs.declared.ask.Ask.{Ask}
use Rattle.tally_returns.specs.declared.refusal.Refusal.{Refusal}
use Rattle.tally_returns.specs.declared.refusal.Refusal.TheVariants.{Store}
use Rattle.tally_returns.specs.declared.reply.Reply.{Reply}
use Rattle.tally_machine_law.specs.LawfulState.{IsLawfulState}
use Rattle.tally_machine_law.specs.Step.{IsNotAccepted}
use Rattle.tally_keeper.specs.Shown.{IsOwnRefusal}
use Rattle.tally_store_commands.specs.internal.Known.{AreKnown, ForgetsNone, Known}
use Rattle.tally_store_commands.specs.internal.Requests.{IsCarriedOut}
use Rattle.tally_store_schema.specs.Office.{IsInside}
use Rattle.tally_store_rows.specs.TablesOfState.{AreTables}
use Rattle.tally_store_open.specs.Create.{IsAsBefore}
use Rattle.tally_store_open.specs.Office.{HasState, IsOffice}
use Rattle.tally_store_open.proofs.EndingLemmas.{Began}
use Rattle.tally_store_open.proofs.UnwrittenLemmas.{LeavesCommit}
use Rattle.tally_store.specs.Crash.{LeavesAfter, WritesNothing}
use Rattle.tally_store.specs.Store.{IsOfLawfulState}
use Rattle.tally_store.specs.internal.Served.{IsKnownOf}
use Rattle.tally_store.specs.internal.Requests.{Answers, CommitsAnswer, EndsFrom, EndsRequest, EndsTransaction, IsDone, IsNothing, IsRefusedByKeeper}
use Rattle.tally_store.proofs.RequestLemmas.{done_committed, done_failed, not_accepted, tables_after, unwritten_commit}

-- what is so of an answer that was got, for every lawful state whose tables were there and of which
-- all that was known is true
abbrev pub GotSo : {T : Type 0} → List Constituency → Known → Seen → Result (Result T Refusal) Error → (Result T Refusal → List ℕ → State → Type 0) → Type 0
GotSo setup before bare got So =
    IfOk got (λ r. (text : List ℕ) (s : State) → IsLawfulState setup s → AreKnown setup s.returns before → AreTables setup text s bare.now.trees → So r text s)

-- ---- how its transaction ended, and what is answered then

-- the connection was open, and what is there is what was committed
abbrev IsBack : Seen → Seen → Type 0
IsBack last new = IsTrue last.is_open × (new.now ≡ last.committed) × (new.committed ≡ last.committed)

-- The request is not accepted, and nothing is known. What was written was undone. Where the
-- connection is shut it was said that the database failed.
pub record IsUndone {T : Type 0} (got : Result (Result T Refusal) Error) (after : Known) (last new : Seen) (r : Result T Refusal) : Type 0 where
  pub why : Refusal
  pub is : r ≡ Err why
  pub own : IsOwnRefusal why
  pub forgot : IsNothing after
  pub undone : HasCleanDisk new → IsTrue new.is_open → OnOk got (IsTrue last.in_transaction) → IsBack last new
  pub shut : HasCleanDisk new → new.is_open ≡ false → why ≡ Store

-- What was answered was committed, or it is that. A crash leaves what it could leave before, or,
-- after an answer, what was written.
pub record EndsAnswered {T : Type 0} (got : Result (Result T Refusal) Error) (before after : Known) (last new : Seen) (r : Result T Refusal) : Type 0 where
  pub ended : new.in_transaction ≡ false
  pub was_open : HasCleanDisk new → IsTrue new.is_open → IsTrue last.is_open
  pub survives : Survives last new (λ db. IsOk got × (db ≡ last.now.trees))
  pub how : CommitsAnswer got before after last new r ⊎ IsUndone got after last new r

own_or_failed : (why said : Refusal) → IsOwnRefusal why → (said ≡ why) ⊎ (said ≡ Store) → IsOwnRefusal said
own_or_failed why said own (inl is) = subst IsOwnRefusal (sym is) own
own_or_failed why said own (inr failed) = inr failed

back_from : (last mid new : Seen) → IsRolledBack last mid → IsTrue mid.is_open → IsAsBefore mid new → IsBack last new
back_from last mid new undone now same = (undone.was_open now, same.now ∙ (undone.undone now).0, same.committed ∙ (undone.undone now).1)

-- the end of a transaction, and the look at the connection after it
pub ends_answered : {S T : Type 0} (g : Ghosts S) (got : Result (Result T Refusal) Error) (before after : Known) (last : Seen) (mid new : Held S) (outcome : Result (Result T Refusal) Refusal) (r : Result T Refusal)
    → EndsTransaction got before after last (state g mid) outcome → Answers g mid new outcome r → EndsAnswered got before after last (state g new) r
ends_answered g got before after last mid new (Ok answer) r ends is =
    subst₂ (λ (h : Held _) y. EndsAnswered got before after last (state g h) y) (sym is.1) (sym is.0) (record { ended = ends.ended; was_open = ends.was_open; survives = ends.survives; how = inl ends.how })
ends_answered g got before after last mid new (Err why) r ends is = record {
  ended = is.ends.ended;
  was_open = λ clean now. ends.was_open (early clean) (is.ends.was_open clean now);
  survives = survives_then last (state g mid) (state g new) _ _ (λ db. IsOk got × (db ≡ last.now.trees)) (λ _ db made. made) (λ _ db none. absurd none) ends.survives is.ends.survives;
  how = inr (record {
    why = is.said;
    is = is.is;
    own = own_or_failed why is.said ends.how.own is.one;
    forgot = ends.how.forgot;
    undone = λ clean now inside. back_from last (state g mid) (state g new) (ends.how.undone (early clean) inside) (is.ends.was_open clean now) (is.ends.same clean now);
    shut = is.shut;
  });
}
  where
    early : HasCleanDisk (state g new) → HasCleanDisk (state g mid)
    early clean = omega (arith, clean, is.ends.survives.clean)

back_to : (old last new : Seen) → Began old last → IsBack last new → IsAsBefore old new
back_to old last new began back =
    let same = began.committed back.0 in
    record { now = back.1 ∙ same ∙ sym (began.settled (began.was_open back.0)); committed = back.2 ∙ same }

-- What is known of a call in a transaction of its own, on the connection of a store: how it began,
-- what is so of what was got there, and how it ended. A transaction of which it is so had not
-- ended.
pub record Ended {T : Type 0} (setup : List Constituency) (So : Result T Refusal → List ℕ → State → Type 0) (before mid after : Known) (old bare last new : Seen) (got : Result (Result T Refusal) Error) (r : Result T Refusal) : Type 1 where
  pub office : IsOfLawfulState setup old
  pub known : IsKnownOf setup old before
  pub begun : bare ≡ record old { in_transaction = true }
  pub was_open : HasCleanDisk last → IsTrue last.is_open → IsTrue bare.is_open
  pub kept : HasCleanDisk last → IsInside bare → KeepsCommit bare last
  pub survives : Survives bare last (λ _. ⊥)
  pub answered_open : HasCleanDisk last → OnOk got (IsTrue bare.is_open)
  pub so : HasCleanDisk last → IsInside bare → GotSo setup before bare got So
  pub inside : (y : Result T Refusal) (text : List ℕ) (s : State) → So y text s → IsTrue last.in_transaction
  pub ends : EndsAnswered got mid after last new r

module _ {T : Type 0} {setup : List Constituency} {So : Result T Refusal → List ℕ → State → Type 0} {before mid after : Known} {old bare last new : Seen} {got : Result (Result T Refusal) Error} {r : Result T Refusal}
    (h : Ended setup So before mid after old bare last new got r) where
  pub early : HasCleanDisk new → HasCleanDisk last
  early clean = omega (arith, clean, h.ends.survives.clean)

  inside_old : Survives old last (λ _. ⊥)
  inside_old =
      let s = rw h.begun at h.survives in
      record { clean = s.clean; shield = s.shield; counts = s.counts; limit = s.limit; closes = s.closes; crash = s.crash }

  pub clean_old : HasCleanDisk last → HasCleanDisk old
  clean_old clean = omega (arith, clean, inside_old.clean)

  here : (text : List ℕ) (s : State) → HasState setup text s old → IsInside bare
  here text s has = rw h.begun (record { schema = has.schema; sound = has.sound; distinct = has.distinct; inside = refl })

  pub open_if_got : (y : Result T Refusal) → got ≡ Ok y → HasCleanDisk last → IsTrue old.is_open
  open_if_got y is clean = rw h.begun at (subst (λ g. OnOk g (IsTrue bare.is_open)) is (h.answered_open clean))

  open_before : HasCleanDisk new → IsTrue new.is_open → IsTrue old.is_open
  open_before clean now = rw h.begun at (h.was_open (early clean) (h.ends.was_open clean now))

  -- what is so of an answer, for each state that the database was of
  of_state : (Is : Result T Refusal → List ℕ → State → Type 0) → (HasCleanDisk last → IsInside bare → GotSo setup before bare got Is)
      → (y : Result T Refusal) → got ≡ Ok y → HasCleanDisk last → (text : List ℕ) (s : State) → IsLawfulState setup s → HasState setup text s old → Is y text s
  of_state Is is_so y is clean text s lawful has =
      let at = here text s has in
      let tables : AreTables setup text s bare.now.trees = rw h.begun has.tables in
      subst (λ g. GotSo setup before bare g Is) is (is_so clean at) text s lawful (h.known (clean_old clean) (open_if_got y is clean) text s lawful has) tables

  pub so_of_state : (y : Result T Refusal) → got ≡ Ok y → HasCleanDisk last → (text : List ℕ) (s : State) → IsLawfulState setup s → HasState setup text s old → So y text s
  so_of_state = of_state So h.so

  -- the transaction of an answer had not ended
  in_transaction : HasCleanDisk last → (text : List ℕ) (s : State) → IsLawfulState setup s → HasState setup text s old → OnOk got (IsTrue last.in_transaction)
  in_transaction clean text s lawful has = go got refl
    where
      go : (g : Result (Result T Refusal) Error) → got ≡ g → OnOk g (IsTrue last.in_transaction)
      go (Ok y) is = h.inside y text s (so_of_state y is clean text s lawful has)
      go (Err e) is = tt

  pub back : IsUndone got after last new r → HasCleanDisk new → IsTrue new.is_open → (text : List ℕ) (s : State) → IsLawfulState setup s → HasState setup text s old → IsAsBefore old new
  back up clean now text s lawful has =
      let kept = h.kept (early clean) (here text s has) in
      let was_open = rw h.begun at kept.was_open in
      let committed = rw h.begun at kept.committed in
      let began : Began old last = record { settled = λ _. sym has.settled; was_open = was_open; committed = committed } in
      back_to old last new began (up.undone clean now (in_transaction (early clean) text s lawful has))

  -- ---- what each of them leaves

  -- a crash after an answer leaves what the commit wrote
  pub ends_from : (Leaves : Trees → Type 0) → ((y : Result T Refusal) → got ≡ Ok y → HasCleanDisk last → Leaves last.now.trees) → EndsFrom Leaves old new
  ends_from Leaves left = record {
    ended = h.ends.ended;
    was_open = open_before;
    crash = survives_then old last new _ _ Leaves (λ _ db none. absurd none) (λ clean db it. subst Leaves (sym it.1) (go got refl (early clean) it.0)) inside_old h.ends.survives;
  }
    where
      go : (g : Result (Result T Refusal) Error) → got ≡ g → HasCleanDisk last → IsOk g → Leaves last.now.trees
      go (Ok y) is clean ok = left y is clean
      go (Err e) is clean ok = absurd (true≢false (sym ok))

  -- an answer that was got, or none
  pub got_is : (Is : T → Type 0) → IfOk got (λ y. IfOk y Is) → IfOk r Is
  got_is Is is_so = elim h.ends.how [
    | inl it ↦ IfOk-at_ok (λ y. IfOk y Is) it.is is_so
    | inr up ↦ subst (λ y. IfOk y Is) (sym up.is) tt
  ]

  -- a refusal that was got, or one of the keeper's own
  pub refusal_is : (Is : Refusal → Type 0) → ((why : Refusal) → IsOwnRefusal why → Is why) → IfOk got (λ y. IfErr y Is) → IfErr r Is
  refusal_is Is own is_so = elim h.ends.how [
    | inl it ↦ IfOk-at_ok (λ y. IfErr y Is) it.is is_so
    | inr up ↦ subst (λ y. IfErr y Is) (sym up.is) (own up.why up.own)
  ]

  -- after an answer that was got by looking alone the database is what it was
  pub still_there : (y : Result T Refusal) → got ≡ Ok y → (HasCleanDisk last → IsInside bare → OnOk got (IsUnchanged bare last)) → HasCleanDisk last → last.now ≡ old.now
  still_there y is same clean =
      let office = h.office (clean_old clean) (open_if_got y is clean) in
      let unchanged = subst (λ g. OnOk g (IsUnchanged bare last)) is (same clean (here office.2.text office.0 office.2.has)) in
      (subst (λ b. IsUnchanged b last) h.begun unchanged).0.now_is

  -- what is known is so of each state that the database was of, or nothing is known
  pub known_still : (Is : Known → Result T Refusal → List ℕ → State → Type 0) → (HasCleanDisk last → IsInside bare → GotSo setup before bare got (Is mid))
      → HasCleanDisk new → IsNothing after ⊎ (IsTrue new.is_open × ((text : List ℕ) (s : State) → IsLawfulState setup s → HasState setup text s old → Is after r text s))
  known_still Is is_so clean = elim h.ends.how [
    | inl it ↦ inr ((it.shown clean).is_open, λ text s lawful has. subst (λ k. Is k r text s) (sym it.known) (of_state (Is mid) is_so r it.is (early clean) text s lawful has))
    | inr up ↦ inl up.forgot
  ]

  pub refused : IsUndone got after last new r → IsRefusedByKeeper r
  refused up = subst IsRefusedByKeeper (sym up.is) up.own

  pub failed_shut : HasCleanDisk new → new.is_open ≡ false → r ≡ Err Store
  failed_shut clean is = elim h.ends.how [
    | inl it ↦ absurd (true≢false (sym (it.shown clean).is_open ∙ is))
    | inr up ↦ up.is ∙ ap Err (up.shut clean is)
  ]

  pub refused_or_known : OnOk got (ForgetsNone before mid) → IsRefusedByKeeper r ⊎ ForgetsNone before after
  refused_or_known is_so = elim h.ends.how [
    | inl it ↦ inr (subst (ForgetsNone before) (sym it.known) (subst (λ g. OnOk g (ForgetsNone before mid)) it.is is_so))
    | inr up ↦ inl (refused up)
  ]

  pub refused_or_unwritten : LeavesCommit old → (got ≡ Ok r → HasCleanDisk last → IsInside bare → IsTrue bare.is_open → IsUnchanged bare last)
      → WritesNothing old new ⊎ (IsRefusedByKeeper r × (HasCleanDisk new → IsTrue new.is_open → IsAsBefore old new))
  refused_or_unwritten law same = elim h.ends.how [
    | inl it ↦ inl (nothing it)
    | inr up ↦ inr (refused up, λ clean now. let office = h.office (clean_old (early clean)) (open_before clean now) in back up clean now office.2.text office.0 office.1 office.2.has)
  ]
    where
      office_of : CommitsAnswer got mid after last new r → HasCleanDisk last → (s : State) × IsLawfulState setup s × IsOffice setup s old
      office_of it clean = h.office (clean_old clean) (open_if_got r it.is clean)

      still : CommitsAnswer got mid after last new r → HasCleanDisk last → IsUnchanged (record old { in_transaction = true }) last
      still it clean =
          let office = office_of it clean in
          let open_bare : IsTrue bare.is_open = rw h.begun (open_if_got r it.is clean) in
          subst (λ b. IsUnchanged b last) h.begun (same it.is clean (here office.2.text office.0 office.2.has) open_bare)

      nothing : CommitsAnswer got mid after last new r → WritesNothing old new
      nothing it =
          unwritten_commit old last new law inside_old (survives_weaker last new _ (λ db. db ≡ last.now.trees) (λ _ db is. is.1) h.ends.survives)
          (λ clean. (office_of it clean).2.has.settled)
          (λ clean. (still it clean).0.now_is)
          (λ clean. (still it clean).1.changes)
          (λ clean. (still it clean).1.last_rowid)
          it.shown
          it.counts

-- ---- a request

-- What is known of a request. An answer is a reply with something that it does not show, such as
-- certificates on record.
pub record Asked {T P : Type 0} (setup : List Constituency) (ask : Ask) (reply : P → Result T Refusal → Result Reply Refusal) (before mid after : Known) (old bare last new : Seen) (got : Result (Result T Refusal) Error) (r : Result T Refusal) : Type 1 where
  pub office : IsOfLawfulState setup old
  pub known : IsKnownOf setup old before
  pub begun : bare ≡ record old { in_transaction = true }
  pub was_open : HasCleanDisk last → IsTrue last.is_open → IsTrue bare.is_open
  pub kept : HasCleanDisk last → IsInside bare → KeepsCommit bare last
  pub survives : Survives bare last (λ _. ⊥)
  pub answered_open : HasCleanDisk last → OnOk got (IsTrue bare.is_open)
  pub carried : HasCleanDisk last → IsInside bare → GotSo setup before bare got (λ y text s. (p : P) × IsCarriedOut setup text s ask (reply p y) last)
  pub ends : EndsAnswered got mid after last new r

module _ {T P : Type 0} {setup : List Constituency} {ask : Ask} {reply : P → Result T Refusal → Result Reply Refusal} {before mid after : Known} {old bare last new : Seen} {got : Result (Result T Refusal) Error} {r : Result T Refusal}
    (h : Asked setup ask reply before mid after old bare last new got r) where
  ended : Ended setup (λ y text s. (p : P) × IsCarriedOut setup text s ask (reply p y) last) before mid after old bare last new got r
  ended = record {
    office = h.office;
    known = h.known;
    begun = h.begun;
    was_open = h.was_open;
    kept = h.kept;
    survives = h.survives;
    answered_open = h.answered_open;
    so = h.carried;
    inside = λ y text s carried. carried.1.in_state.inside.inside;
    ends = h.ends;
  }

  pub ends_request : EndsRequest setup ask old new
  ends_request = ends_from ended (LeavesAfter setup ask old) left
    where
      left : (y : Result T Refusal) → got ≡ Ok y → HasCleanDisk last → LeavesAfter setup ask old last.now.trees
      left y is clean =
          let now = open_if_got ended y is clean in
          let office = h.office (clean_old ended clean) now in
          let done = so_of_state ended y is clean office.2.text office.0 office.1 office.2.has in
          record { was_open = now; text = office.2.text; state = office.0; lawful = office.1; has = office.2.has; after = tables_after setup office.2.text office.0 ask (reply done.0 y) last office.2.reads done.1 }

  pub shut : HasCleanDisk new → new.is_open ≡ false → r ≡ Err Store
  shut = failed_shut ended

  pub answer_is : (Is : T → Type 0) → IfOk got (λ y. IfOk y Is) → IfOk r Is
  answer_is = got_is ended

  pub knows : (So : Known → Result T Refusal → List ℕ → State → Type 0) → (HasCleanDisk last → IsInside bare → GotSo setup before bare got (So mid))
      → HasCleanDisk new → IsNothing after ⊎ (IsTrue new.is_open × ((text : List ℕ) (s : State) → IsLawfulState setup s → HasState setup text s old → So after r text s))
  knows = known_still ended

  module _ (any : P) (plain : (e : Refusal) → reply any (Err e) ≡ Err e) where
    not_accepted_so : (y : Result T Refusal) → IsRefusedByKeeper y → IsNotAccepted (reply any y)
    not_accepted_so (Ok x) own = absurd own
    not_accepted_so (Err e) own = subst IsNotAccepted (sym (plain e)) (not_accepted e own)

    pub done : HasCleanDisk new → IsTrue new.is_open → (text : List ℕ) (s : State) → IsLawfulState setup s → HasState setup text s old → (p : P) × IsDone setup text s ask (reply p r) new
    done clean now text s lawful has = elim h.ends.how [
      | inl it ↦ (let c = so_of_state ended r it.is (early ended clean) text s lawful has in (c.0, done_committed setup text s ask (reply c.0 r) last new c.1 (it.shown clean)))
      | inr up ↦ (any, subst (λ y. IsDone setup text s ask y new) (sym (ap (reply any) up.is ∙ plain up.why)) (done_failed setup text s ask up.why old new up.own has (back ended up clean now text s lawful has)))
    ]

    pub forgets : OnOk got (ForgetsNone before mid) → IsNotAccepted (reply any r) ⊎ ForgetsNone before after
    forgets so = elim (refused_or_known ended so) [
      | inl own ↦ inl (not_accepted_so r own)
      | inr none ↦ inr none
    ]

    pub unwritten : LeavesCommit old → (got ≡ Ok r → HasCleanDisk last → IsInside bare → IsTrue bare.is_open → IsUnchanged bare last)
        → WritesNothing old new ⊎ (IsNotAccepted (reply any r) × (HasCleanDisk new → IsTrue new.is_open → IsAsBefore old new))
    unwritten law same = elim (refused_or_unwritten ended law same) [
      | inl nothing ↦ inl nothing
      | inr own ↦ inr (not_accepted_so r own.0, own.1)
    ]
