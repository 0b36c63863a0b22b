-- Revisions and editions only rise, and who is gone stays gone.
use Rattle.std.proofs.Common.{◌≡◌, ◌≤◌, ◌∷◌, ◌∙◌, ℕ, List, [], Bool, true, false, cond, Option, Some, None, Result, Ok, Err, refl, sym, ap, subst, inl, inr, arith}
use Rattle.std.specs.Prelude.{is_some}
use Rattle.std.specs.FinMap as fin
use Rattle.std.specs.Cmp.Lexicographic.{slice_cmp, nat_list_cmp_total}
use Rattle.std.specs.Ordering.{eq_by_cmp, nat_cmp}
use Rattle.tally_setup.specs.Code.{code_cmp}
use Rattle.tally_setup.specs.Constituency.{Constituency}
use Rattle.tally_setup.specs.Setup.{constituency_with}
use Rattle.tally_returns.specs.Return.{StationReturn}
use Rattle.tally_returns.specs.Named.{con_named, station_named}
use Rattle.tally_returns.specs.State.{State, ConState, GoneCandidates, con_state}
use Rattle.tally_machine_law.specs.Step.{con_of_station, change_in_state, without_lot, after_put, with_return, state_after, ConChange, no_change, lot_set, certified_with, open_again, gone_for_good, con_state_after, with_con, after_change, IsConStep, IsAnswered, IsStepSeenAt, reply_seen}
use Rattle.tally_returns.specs.declared.ask.Ask.{Ask}
use Rattle.tally_returns.specs.declared.ask.Ask.TheVariants.{Query}
use Rattle.tally_returns.specs.declared.change.Change.{Change}
use Rattle.tally_returns.specs.declared.change.Change.TheVariants.{PutReturn}
use Rattle.tally_returns.specs.declared.refusal.Refusal.{Refusal}
use Rattle.tally_returns.specs.declared.reply.Reply.{Reply}
use Rattle.tally_machine_law.proofs.ConStateLemmas.{same_code, con_state-with_con, con_step-returns}
use Rattle.tally_machine_law.proofs.LifeLemmas.{rev_at, after_return-rises}

-- a constituency has gone on: no edition back, and nobody who was gone is there again
pub record IsConOnward (c d : ConState) : Type 0 where
  pub edition : c.edition ≤ d.edition
  pub gone : (candidate : List ℕ) → is_some (fin.get c.gone candidate) ≡ true → is_some (fin.get d.gone candidate) ≡ true

con_onward-same : (c : ConState) → IsConOnward c c
con_onward-same c = record { edition = omega arith; gone = λ candidate there. there }

-- each constituency has gone on
abbrev pub AreOnward : State → State → Type 0
AreOnward s t = (code : List ℕ) → IsConOnward (con_state s code) (con_state t code)

with_con-onward : (s : State) (code : List ℕ) (c : ConState) → IsConOnward (con_state s code) c → AreOnward s (with_con s code c)
with_con-onward s code c on q = subst (IsConOnward (con_state s q)) (sym (con_state-with_con s code c q)) (go (eq_by_cmp code_cmp q code) refl)
  where
    go : (b : Bool) → eq_by_cmp code_cmp q code ≡ b → IsConOnward (con_state s q) (cond b c (con_state s q))
    go true tied = subst (λ (k : List ℕ). IsConOnward (con_state s k) c) (sym (same_code q code tied)) on
    go false apart = con_onward-same (con_state s q)

-- ---- a command on a constituency

insert-gone : (m : GoneCandidates) (key note candidate : List ℕ) → is_some (fin.get m candidate) ≡ true → is_some (fin.get (fin.insert m key note) candidate) ≡ true
insert-gone m key note candidate there = ap is_some (fin.get-insert nat_list_cmp_total m key note candidate) ∙ go (eq_by_cmp (slice_cmp nat_cmp) candidate key)
  where
    go : (b : Bool) → is_some (cond b (Some note) (fin.get m candidate)) ≡ true
    go true = refl
    go false = there

changed-onward : (c : ConState) (change : ConChange) → IsConOnward c (con_state_after c change)
changed-onward c no_change = con_onward-same c
changed-onward c (lot_set places) = record { edition = omega arith; gone = λ candidate there. there }
changed-onward c (certified_with seats) = record { edition = omega arith; gone = λ candidate there. there }
changed-onward c (open_again note past) = record { edition = omega arith; gone = λ candidate there. there }
changed-onward c (gone_for_good candidate next) =
    record { edition = omega arith; gone = insert-gone c.gone (candidate.list ∷ candidate.place ∷ []) candidate.note }

after_change-onward : (s : State) (code : List ℕ) (d : Result ConChange Refusal) → AreOnward s (after_change s code d)
after_change-onward s code (Ok no_change) q = con_onward-same (con_state s q)
after_change-onward s code (Ok other) q = with_con-onward s code (con_state_after (con_state s code) other) (changed-onward (con_state s code) other) q
after_change-onward s code (Err refusal) q = con_onward-same (con_state s q)

con-onward : (found : Option Constituency) (s : State) (ask : Ask) (r : Result Reply Refusal) (t : State) → IsConStep found s ask r t → AreOnward s t
con-onward None s ask r t is = subst (AreOnward s) (sym is.1) (λ q. con_onward-same (con_state s q))
con-onward (Some con) s ask r t is = subst (AreOnward s) (sym is.5) (after_change-onward s con.code is.1)

-- ---- a command on a return

without_lot-onward : (s : State) (code : Option (List ℕ)) → AreOnward s (without_lot s code)
without_lot-onward s None q = con_onward-same (con_state s q)
without_lot-onward s (Some code) q =
    with_con-onward s code (record (con_state s code) { lot = [] }) (record { edition = omega arith; gone = λ candidate there. there }) q

after_put-onward : (setup : List Constituency) (s : State) (ask : Ask) → AreOnward s (after_put setup s ask)
after_put-onward setup s (Query station rev note) q = without_lot-onward s (con_of_station setup station) q
after_put-onward setup s other q = con_onward-same (con_state s q)

-- a return that is put leaves what constituencies have come to
pub with_return-cons : (s : State) (named : Option (List ℕ)) (standing : StationReturn) → (with_return s named standing).cons ≡ s.cons
with_return-cons s None standing = refl
with_return-cons s (Some station) standing = refl

same_cons-onward : (s m t : State) → AreOnward s m → t.cons ≡ m.cons → AreOnward s t
same_cons-onward s m t on same q = subst (IsConOnward (con_state s q)) (ap (λ cons. con_state (record m { cons = cons }) q) (sym same)) (on q)

after-onward : (setup : List Constituency) (s : State) (ask : Ask) (d : Result Change Refusal) → AreOnward s (state_after setup s ask d)
after-onward setup s ask (Ok (PutReturn standing)) q =
    same_cons-onward s (after_put setup s ask) (with_return (after_put setup s ask) (station_named ask) standing) (after_put-onward setup s ask)
    (with_return-cons (after_put setup s ask) (station_named ask) standing) q
after-onward setup s ask other q = con_onward-same (con_state s q)

-- ---- any request

-- the office has gone on: besides, no return is back at an earlier revision
pub record IsOnward (s t : State) : Type 0 where
  pub returns : (station : List ℕ) → rev_at s station ≤ rev_at t station
  pub cons : AreOnward s t

onward-same : (s t : State) → t ≡ s → IsOnward s t
onward-same s t same = subst (IsOnward s) (sym same) (record { returns = λ station. omega arith; cons = λ q. con_onward-same (con_state s q) })

same_returns-rise : (s t : State) → t.returns ≡ s.returns → (station : List ℕ) → rev_at s station ≤ rev_at t station
same_returns-rise s t same station =
    let e : rev_at t station ≡ rev_at s station = ap (λ m. rev_at (record s { returns = m }) station) same in omega (arith, e)

step-onward : (named : Option (List ℕ)) (setup : List Constituency) (s : State) (ask : Ask) (r : Result Reply Refusal) (t : State) → IsStepSeenAt named setup s ask (reply_seen r) t → IsOnward s t
step-onward None setup s ask r t is =
    subst (IsOnward s) (sym is.1) (record { returns = after_return-rises setup s ask; cons = after-onward setup s ask (change_in_state setup s ask) })
step-onward (Some code) setup s ask r t is = record {
  returns = same_returns-rise s t (con_step-returns (constituency_with code setup) s ask r t is);
  cons = con-onward (constituency_with code setup) s ask r t is;
}

pub answered-onward : (setup : List Constituency) (s : State) (ask : Ask) (r : Result Reply Refusal) (t : State) → IsAnswered setup s ask r t → IsOnward s t
answered-onward setup s ask r t (inl is) = step-onward (con_named ask) setup s ask r t is
answered-onward setup s ask r t (inr is) = onward-same s t is.1
