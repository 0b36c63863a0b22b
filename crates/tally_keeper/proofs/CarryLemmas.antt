-- What is decided of a constituency can be carried out, and is what was answered.
use Rattle.std.proofs.Common.{◌≡◌, ◌≢◌, ◌≤◌, ◌⊎◌, ◌∙◌, ◌+◌, ◌∷◌, ℕ, List, [], Option, Some, None, Result, Ok, Err, refl, sym, ap, subst, inl, inr, arith}
use Rattle.std.specs.Prelude.{IsSome, IfErr, IfOk, IfSome, OnErr, OnOk, is_some, string_bytes}
use Rattle.std.specs.FinMap as fin
use Rattle.tally_setup.specs.Constituency.{Constituency}
use Rattle.tally_setup.specs.Setup.{constituency_with}
use Rattle.tally_machine_law.specs.Step.{ConChange, Decides, after_change, certified_with, con_state_after, con_change, gone_for_good, lot_set, no_change, open_again, IsConStep, answer_seen, con_answer, con_shown, edition_now, reply_seen}
use Rattle.tally_returns.specs.GoneCandidate.{GoneCandidate}
use Rattle.tally_returns.specs.Named.{con_named}
use Rattle.tally_returns.specs.PastSeats.{PastSeats}
use Rattle.tally_machine_law.specs.Outcome.{IsLawfulView}
use Rattle.tally_returns.specs.State.{con_state, last_edition}
use Rattle.tally_returns.specs.View.{View}
use Rattle.tally_returns.specs.declared.ask.Ask.{Ask}
use Rattle.tally_returns.specs.declared.change.Change.{Change}
use Rattle.tally_returns.specs.declared.change.Change.TheVariants.{Same, PutReturn, SetLot, SetCertified, SetReopened, SetGone}
use Rattle.tally_returns.specs.declared.refusal.Refusal.{Refusal}
use Rattle.tally_returns.specs.declared.refusal.Refusal.TheVariants.{Memory}
use Rattle.tally_returns.specs.declared.reply.Reply.{Reply}
use Rattle.tally_returns.specs.declared.reply.Reply.TheVariants.{Con}
use Rattle.tally_returns.proofs.ClosedLemmas.{constituency_with-code}
use Rattle.tally_machine_law.proofs.DecisionLemmas.{edition-within, gone-once}
use Rattle.tally_machine_law.proofs.RecordLemmas.{records-last}
use Rattle.tally_machine_law.proofs.ViewLemmas.{view-lawful}
use Rattle.tally_keeper.specs.Kept.{AreEarlier, Kept, state_in, view_in, with_change}
use Rattle.tally_keeper.specs.internal.Held.{CanCarryOut, CanRise, IsAnsweredOn, IsHeld, carried_reply}
use Rattle.tally_keeper.proofs.HeldLemmas.{change-state, con-kept, held-change}
use Rattle.tally_keeper.proofs.StepLemmas.{memory-or}

-- what is seen of a constituency that is held is a lawful view
pub held-view : (k : Kept) (code : List ℕ) (con : Constituency) (view : View) → IsHeld k → constituency_with code k.setup ≡ Some con → view ≡ view_in k con → IsLawfulView con view
held-view k code con view held found is =
    subst (IsLawfulView con) (sym is) (view-lawful k.setup (state_in k) code con (view_in k con) held.limits held.lawful found (held.seats code con found))

-- where a candidate goes, they were not gone
new-gone : (k : Kept) (code : List ℕ) (con : Constituency) (ask : Ask) (gone : GoneCandidate) (next : Option ℕ) → IsHeld k → constituency_with code k.setup ≡ Some con → con_named ask ≡ Some code
    → Decides con (view_in k con) ask (Ok (gone_for_good gone next)) → fin.get (con_state (state_in k) code).gone (gone.list ∷ gone.place ∷ []) ≡ None
new-gone k code con ask gone next held found named decides =
    ap (λ q. fin.get (con_state (state_in k) q).gone (gone.list ∷ gone.place ∷ [])) (sym (constituency_with-code k.setup code con found))
    ∙ gone-once k.setup (state_in k) con code (view_in k con) ask gone next (named, found) (held.seats code con found) decides

-- where a certificate is put on record, it comes after those that are
new-last : (k : Kept) (code : List ℕ) (con : Constituency) (ask : Ask) (note : List ℕ) (past : PastSeats) → IsHeld k → constituency_with code k.setup ≡ Some con → con_named ask ≡ Some code
    → Decides con (view_in k con) ask (Ok (open_again note past)) → AreEarlier (con_state (state_in k) code).past past.edition
new-last k code con ask note past held found named decides =
    subst (λ q. AreEarlier (con_state (state_in k) q).past past.edition) (constituency_with-code k.setup code con found)
    (records-last k.setup (state_in k) con code (view_in k con) ask note past held.lawful (named, found) (held.seats code con found) decides)

-- ---- what is decided can be carried out

-- the edition after a change is one that a constituency can have
next-edition : (k : Kept) (code : List ℕ) (con : Constituency) (ask : Ask) (decided : ConChange) → IsHeld k → constituency_with code k.setup ≡ Some con → con_named ask ≡ Some code
    → Decides con (view_in k con) ask (Ok decided) → (con_state_after (con_state (state_in k) code) decided).edition ≤ last_edition
next-edition k code con ask decided held found named decides =
    subst (λ q. (con_state_after (con_state (state_in k) q) decided).edition ≤ last_edition) (constituency_with-code k.setup code con found)
    (edition-within k.setup (state_in k) con code (view_in k con) ask decided held.limits held.lawful (named, found) (held.seats code con found) decides)

known-some : (setup : List Constituency) (code : List ℕ) (con : Constituency) → constituency_with code setup ≡ Some con → IsSome (constituency_with code setup)
known-some setup code con found = ap is_some found

pub can-carry-out : (k : Kept) (code : List ℕ) (con : Constituency) (ask : Ask) (edition : ℕ) (change : Change) (decided : ConChange) → IsHeld k → constituency_with code k.setup ≡ Some con
    → con_named ask ≡ Some code → edition ≡ (view_in k con).edition → con_change change ≡ Some decided → Decides con (view_in k con) ask (Ok decided) → change ≢ Same → CanCarryOut k code edition change
can-carry-out k code con ask edition change decided held found named edition_is is decides not_same = go change is not_same
  where
    stands : edition ≡ (con_state (state_in k) code).edition
    stands = edition_is ∙ ap (λ q. (con_state (state_in k) q).edition) (constituency_with-code k.setup code con found)

    next : (d : ConChange) → d ≡ decided → (con_state_after (con_state (state_in k) code) d).edition ≤ last_edition
    next d same = next-edition k code con ask d held found named (subst (λ x. Decides con (view_in k con) ask (Ok x)) (sym same) decides)

    rises : (con_state (state_in k) code).edition + 1 ≤ last_edition → CanRise k code edition
    rises last = (known-some k.setup code con found, sym stands, omega (arith, stands, last))

    go : (x : Change) → con_change x ≡ Some decided → x ≢ Same → CanCarryOut k code edition x
    go Same same never = absurd (never refl)
    go (PutReturn standing) same never = cc
    go (SetLot places) same never =
        let last = next (lot_set places.items) (let e : lot_set places.items ≡ decided = cc in e) in
        (rises last, refl)
    go (SetCertified seats) same never =
        let last = next (certified_with seats.items) (let e : certified_with seats.items ≡ decided = cc in e) in
        (rises last, refl)
    go (SetReopened note past) same never =
        let e : open_again (string_bytes note) past ≡ decided = cc in
        let last = next (open_again (string_bytes note) past) e in
        (rises last, new-last k code con ask (string_bytes note) past held found named (subst (λ x. Decides con (view_in k con) ask (Ok x)) (sym e) decides))
    go (SetGone gone after) same never =
        let e : decided ≡ gone_for_good gone after = cc in
        (known-some k.setup code con found, new-gone k code con ask gone after held found named (subst (λ x. Decides con (view_in k con) ask (Ok x)) e decides))

-- ---- what was carried out was answered

reply-is : (view : View) (edition : ℕ) (change : Change) (decided : ConChange) → con_change change ≡ Some decided → change ≢ Same → edition ≡ view.edition
    → Ok (carried_reply edition decided) ≡ con_answer view (Ok decided)
reply-is view edition Same decided is never edition_is = absurd (never refl)
reply-is view edition (PutReturn standing) decided is never edition_is = cc
reply-is view edition (SetLot places) decided is never edition_is =
    let e : lot_set places.items ≡ decided = cc in subst (λ d. Ok (carried_reply edition d) ≡ con_answer view (Ok d)) e (ap (λ n. Ok (edition_now (n + 1))) edition_is)
reply-is view edition (SetCertified seats) decided is never edition_is =
    let e : certified_with seats.items ≡ decided = cc in subst (λ d. Ok (carried_reply edition d) ≡ con_answer view (Ok d)) e (ap (λ n. Ok (edition_now (n + 1))) edition_is)
reply-is view edition (SetReopened note past) decided is never edition_is =
    let e : open_again (string_bytes note) past ≡ decided = cc in subst (λ d. Ok (carried_reply edition d) ≡ con_answer view (Ok d)) e (ap (λ n. Ok (edition_now (n + 1))) edition_is)
reply-is view edition (SetGone gone next) decided is never edition_is =
    let e : gone_for_good gone next ≡ decided = cc in subst (λ d. Ok (carried_reply edition d) ≡ con_answer view (Ok d)) e refl

-- What a command on a constituency comes to.
pub record IsDone (k new : Kept) (code : List ℕ) (ask : Ask) (r : Result Reply Refusal) : Type 0 where
  pub step : IsAnsweredOn code k ask r new
  pub setup : new.setup ≡ k.setup
  pub held : IsHeld new

-- a change was carried out, or memory was wanting and nothing has changed
abbrev pub IsCarriedOut : Kept → List ℕ → ℕ → ConChange → Result Reply Refusal → Kept → Type 0
IsCarriedOut k code edition decided r new =
    ((reply_seen r ≡ Ok (carried_reply edition decided)) × (new ≡ with_change k code decided)) ⊎ ((r ≡ Err Memory) × (new ≡ k))

pub carried : (k new : Kept) (code : List ℕ) (edition : ℕ) (change : Change) (decided : ConChange) (r : Result Reply Refusal) → con_change change ≡ Some decided
    → IfOk r (λ reply. IfSome (con_change change) (λ d. answer_seen reply ≡ carried_reply edition d)) → OnOk r (IfSome (con_change change) (λ d. new ≡ with_change k code d))
    → IfErr r (λ e. e ≡ Memory) → OnErr r (new ≡ k) → IsCarriedOut k code edition decided r new
carried k new code edition change decided (Ok reply) is ensured done refused stays = inl (
  ap Ok (subst (λ o. IfSome o (λ d. answer_seen reply ≡ carried_reply edition d)) is ensured),
  subst (λ o. IfSome o (λ d. new ≡ with_change k code d)) is done,
)
carried k new code edition change decided (Err e) is ensured done refused stays = inr (ap Err refused, stays)

pub carried-done : (k new : Kept) (code : List ℕ) (con : Constituency) (ask : Ask) (edition : ℕ) (change : Change) (decided : ConChange) (r : Result Reply Refusal) → IsHeld k
    → constituency_with code k.setup ≡ Some con → con_named ask ≡ Some code → edition ≡ (view_in k con).edition → con_change change ≡ Some decided → Decides con (view_in k con) ask (Ok decided)
    → change ≢ Same → IsCarriedOut k code edition decided r new → IsDone k new code ask r
carried-done k new code con ask edition change decided r held found named edition_is is decides not_same (inr memory) = record {
  step = inr (memory.0, ap state_in memory.1);
  setup = ap (λ (x : Kept). x.setup) memory.1;
  held = subst IsHeld (sym memory.1) held;
}
carried-done k new code con ask edition change decided r held found named edition_is is decides not_same (inl done) =
    let now : new ≡ with_change k code decided = done.1 in
    let answer : reply_seen r ≡ con_answer (view_in k con) (Ok decided) = done.0 ∙ reply-is (view_in k con) edition change decided is not_same edition_is in
    let state : state_in new ≡ after_change (state_in k) con.code (Ok decided) =
    ap state_in now ∙ change-state k code decided (con-kept k code con held found) ∙ ap (λ q. after_change (state_in k) q (Ok decided)) (sym (constituency_with-code k.setup code con found)) in
    let step : IsConStep (Some con) (state_in k) ask r (state_in new) = (view_in k con, Ok decided, held.seats code con found, decides, answer, state) in
    record {
      step = inl (subst (λ (o : Option Constituency). IsConStep o (state_in k) ask r (state_in new)) (sym found) step);
      setup = ap (λ (x : Kept). x.setup) now;
      held = subst IsHeld (sym now) (held-change k code con ask decided held found named decides);
    }

-- a command that was refused, and one that shows what is seen
pub refused-done : (k : Kept) (code : List ℕ) (con : Constituency) (ask : Ask) (view : View) (e : Refusal) → IsHeld k → constituency_with code k.setup ≡ Some con → view ≡ view_in k con
    → (e ≢ Memory → Decides con view ask (Err e)) → IsDone k k code ask (Err e)
refused-done k code con ask view e held found seen decides = record { step = go (memory-or e); setup = refl; held = held }
  where
    go : (e ≡ Memory) ⊎ (e ≢ Memory) → IsAnsweredOn code k ask (Err e) k
    go (inl memory) = inr (ap Err memory, refl)
    go (inr other) =
        let step : IsConStep (Some con) (state_in k) ask (Err e) (state_in k) =
        (view_in k con, Err e, held.seats code con found, subst (λ (v : View). Decides con v ask (Err e)) seen (decides other), refl, refl) in
        inl (subst (λ (o : Option Constituency). IsConStep o (state_in k) ask (Err e) (state_in k)) (sym found) step)

pub shown-done : (k : Kept) (code : List ℕ) (con : Constituency) (ask : Ask) (change : Change) (decided : ConChange) (shown : View) → IsHeld k → constituency_with code k.setup ≡ Some con
    → con_change change ≡ Some decided → Decides con (view_in k con) ask (Ok decided) → change ≡ Same → shown ≡ view_in k con → IsDone k k code ask (Ok (Con shown))
shown-done k code con ask change decided shown held found is decides same shown_is =
    let both : Some no_change ≡ Some decided = sym (ap con_change same) ∙ is in
    let none : decided ≡ no_change = cc in
    let step : IsConStep (Some con) (state_in k) ask (Ok (Con shown)) (state_in k) =
    (view_in k con, Ok no_change, held.seats code con found, subst (λ d. Decides con (view_in k con) ask (Ok d)) none decides, ap (λ v. Ok (con_shown v)) shown_is, refl) in
    record { step = inl (subst (λ (o : Option Constituency). IsConStep o (state_in k) ask (Ok (Con shown)) (state_in k)) (sym found) step); setup = refl; held = held }

-- a change as contracts see it, and that it is decided
pub record IsDecided (k : Kept) (con : Constituency) (ask : Ask) (change : Change) : Type 0 where
  pub decided : ConChange
  pub is : con_change change ≡ Some decided
  pub decides : Decides con (view_in k con) ask (Ok decided)

pub decided-seen : (k : Kept) (con : Constituency) (view : View) (ask : Ask) (change : Change) → view ≡ view_in k con
    → (decided : ConChange) × (con_change change ≡ Some decided) × Decides con view ask (Ok decided) → IsDecided k con ask change
decided-seen k con view ask change is gives = record { decided = gives.0; is = gives.1; decides = subst (λ (v : View). Decides con v ask (Ok gives.0)) is gives.2 }
