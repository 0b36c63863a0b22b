-- Runs: which requests act in them, and which can be left out.
use Rattle.std.proofs.Common.{◌≡◌, ◌+◌, ◌<◌, ◌∷◌, ◌∙◌, ℕ, zero, suc, List, [], Bool, true, false, cond, Some, Result, refl, sym, ap, subst, arith, add-one, filter, slice_get}
use Rattle.tally_setup.specs.Constituency.{Constituency}
use Rattle.tally_returns.specs.State.{State}
use Rattle.tally_machine_law.specs.Runs.{IsRun, is_act, IsSameCommand, acting_asks, kept_elements}
use Rattle.tally_returns.specs.declared.ask.Ask.{Ask}
use Rattle.tally_returns.specs.declared.refusal.Refusal.{Refusal}
use Rattle.tally_returns.specs.declared.reply.Reply.{Reply}
use Rattle.tally_machine_law.proofs.ActLemmas.{answered-idle}
use Rattle.tally_machine_law.proofs.SpentLemmas.{Mark, mark, same-mark, IsFresh, IsSpent, fresh-not_spent, answered-spent, answered-used}

-- in a run from a state where what a command acts on is used up it does not act
spent-idle : (setup : List Constituency) (m : Mark) (asks : List Ask) (rs : List (Result Reply Refusal)) (s t : State) → IsSpent setup m s → IsRun setup s asks rs t
    → (j : ℕ) (other : Ask) (r : Result Reply Refusal) → mark other ≡ m → slice_get asks j ≡ Some other → slice_get rs j ≡ Some r → is_act r ≡ false
spent-idle setup m [] rs s t spent is j other r named asked answered = cc
spent-idle setup m (a ∷ asks) [] s t spent is j other r named asked answered = absurd is
spent-idle setup m (a ∷ asks) (x ∷ rs) s t spent is zero other r named asked answered = go (is_act x) refl
  where
    is_x : x ≡ r
    is_x = cc

    is_other : a ≡ other
    is_other = cc

    go : (b : Bool) → is_act x ≡ b → is_act r ≡ false
    go false idle = ap is_act (sym is_x) ∙ idle
    go true acted_there =
        absurd (fresh-not_spent setup m s (subst (λ (k : Mark). IsFresh setup k s) (ap mark is_other ∙ named) (answered-used setup s a x is.0 is.1 acted_there).0) spent)
spent-idle setup m (a ∷ asks) (x ∷ rs) s t spent is (suc j) other r named asked answered =
    spent-idle setup m asks rs is.0 t (answered-spent setup m s a x is.0 is.1 spent) is.2 j other r named asked answered

-- of two equal commands in a run the second does not act where the first did
pub second-idle : (setup : List Constituency) (s t : State) (asks : List Ask) (rs : List (Result Reply Refusal)) → IsRun setup s asks rs t
    → (i j : ℕ) (ask other : Ask) (first second : Result Reply Refusal) → i < j
    → slice_get asks i ≡ Some ask → slice_get asks j ≡ Some other → IsSameCommand ask other
    → slice_get rs i ≡ Some first → slice_get rs j ≡ Some second → is_act first ≡ true → is_act second ≡ false
second-idle setup s t [] rs is i j ask other first second below at_i at_j alike r_i r_j acted_there = cc
second-idle setup s t (a ∷ asks) [] is i j ask other first second below at_i at_j alike r_i r_j acted_there = absurd is
second-idle setup s t (a ∷ asks) (x ∷ rs) is i zero ask other first second below at_i at_j alike r_i r_j acted_there = absurd (omega arith)
second-idle setup s t (a ∷ asks) (x ∷ rs) is zero (suc j) ask other first second below at_i at_j alike r_i r_j acted_there =
    let is_x : x ≡ first = cc in
    let is_ask : a ≡ ask = cc in
    let used = answered-used setup s a x is.0 is.1 (ap is_act is_x ∙ acted_there) in
    spent-idle setup (mark a) asks rs is.0 t used.1 is.2 j other second (sym (same-mark ask other alike) ∙ ap mark (sym is_ask)) at_j r_j
second-idle setup s t (a ∷ asks) (x ∷ rs) is (suc i) (suc j) ask other first second below at_i at_j alike r_i r_j acted_there =
    second-idle setup is.0 t asks rs is.2 i j ask other first second (omega arith) at_i at_j alike r_i r_j acted_there

-- where a request that did not act is left out, the run goes on from the same state
pub acting-run : (setup : List Constituency) (s t : State) (asks : List Ask) (rs : List (Result Reply Refusal)) → IsRun setup s asks rs t
    → IsRun setup s (acting_asks asks rs) (filter is_act rs) t
acting-run setup s t [] [] is = is
acting-run setup s t [] (x ∷ rs) is = absurd is
acting-run setup s t (a ∷ asks) [] is = absurd is
acting-run setup s t (a ∷ asks) (x ∷ rs) is = go (is_act x) refl (acting-run setup is.0 t asks rs is.2)
  where
    go : (b : Bool) → is_act x ≡ b → IsRun setup is.0 (acting_asks asks rs) (filter is_act rs) t
        → IsRun setup s (cond b (a ∷ acting_asks asks rs) (acting_asks asks rs)) (cond b (x ∷ filter is_act rs) (filter is_act rs)) t
    go true acted_there rest = (is.0, is.1, rest)
    go false idle rest = subst (λ (m : State). IsRun setup m (acting_asks asks rs) (filter is_act rs) t) (answered-idle setup s a x is.0 is.1 idle) rest

pub kept-run : (setup : List Constituency) (s t : State) (asks : List Ask) (rs : List (Result Reply Refusal)) → IsRun setup s asks rs t
    → (keep : ℕ → Bool) → ((i : ℕ) (r : Result Reply Refusal) → slice_get rs i ≡ Some r → keep i ≡ false → is_act r ≡ false)
    → IsRun setup s (kept_elements keep asks) (kept_elements keep rs) t
kept-run setup s t [] [] is keep idle = is
kept-run setup s t [] (x ∷ rs) is keep idle = absurd is
kept-run setup s t (a ∷ asks) [] is keep idle = absurd is
kept-run setup s t (a ∷ asks) (x ∷ rs) is keep idle =
    go (keep 0) refl (kept-run setup is.0 t asks rs is.2 (λ i. keep (i + 1)) (λ i r at out. idle (i + 1) r (ap (slice_get (x ∷ rs)) (add-one i) ∙ at) out))
  where
    go : (b : Bool) → keep 0 ≡ b → IsRun setup is.0 (kept_elements (λ i. keep (i + 1)) asks) (kept_elements (λ i. keep (i + 1)) rs) t
        → IsRun setup s (cond b (a ∷ kept_elements (λ i. keep (i + 1)) asks) (kept_elements (λ i. keep (i + 1)) asks)) (cond b (x ∷ kept_elements (λ i. keep (i + 1)) rs) (kept_elements (λ i. keep (i + 1)) rs)) t
    go true in_place rest = (is.0, is.1, rest)
    go false out rest =
        subst (λ (m : State). IsRun setup m (kept_elements (λ i. keep (i + 1)) asks) (kept_elements (λ i. keep (i + 1)) rs) t)
        (answered-idle setup s a x is.0 is.1 (idle 0 x refl out)) rest
