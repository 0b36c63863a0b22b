-- A candidate who is gone stays gone.
use Rattle.std.proofs.Common.{◌≡◌, ◌∙◌, ◌∷◌, ℕ, List, [], Bool, true, false, cond, Option, Some, None, Result, Ok, Err, refl, sym, ap, subst, inl, inr}
use Rattle.std.specs.Prelude.{is_some}
use Rattle.std.specs.FinMap as fin
use Rattle.std.specs.Cmp.Lexicographic.{nat_list_cmp_total, slice_cmp}
use Rattle.std.specs.Ordering.{eq_by_cmp, nat_cmp}
use Rattle.tally_setup.specs.Constituency.{Constituency}
use Rattle.tally_setup.specs.Setup.{constituency_with}
use Rattle.tally_returns.specs.Named.{con_named, station_named}
use Rattle.tally_returns.specs.State.{ConState, State, con_state}
use Rattle.tally_returns.specs.declared.ask.Ask.{Ask}
use Rattle.tally_returns.specs.declared.ask.Ask.TheVariants.{Query}
use Rattle.tally_returns.specs.declared.change.Change.{Change}
use Rattle.tally_returns.specs.declared.change.Change.TheVariants.{PutReturn}
use Rattle.tally_returns.specs.declared.refusal.Refusal.{Refusal}
use Rattle.tally_returns.specs.declared.reply.Reply.{Reply}
use Rattle.tally_machine_law.specs.LawStatements.{TheGoneStayGone}
use Rattle.tally_machine_law.specs.Step.{state_after, after_put, con_of_station, change_in_state, without_lot, ConChange, after_change, certified_with, con_state_after, gone_for_good, lot_set, no_change, open_again, IsConStep, reply_seen, IsStepSeenAt}
use Rattle.tally_machine_law.proofs.OnwardLemmas.{with_return-cons}
use Rattle.tally_machine_law.proofs.RecordLemmas.{with_con-each}

-- who is gone in the one is gone in the other
abbrev StayGone : ConState → ConState → Type 0
StayGone c d = (key : List ℕ) → is_some (fin.get c.gone key) ≡ true → is_some (fin.get d.gone key) ≡ true

gone-same : (c : ConState) → StayGone c c
gone-same c key there = there

changed-gone : (c : ConState) (change : ConChange) → StayGone c (con_state_after c change)
changed-gone c no_change key there = there
changed-gone c (lot_set places) key there = there
changed-gone c (certified_with seats) key there = there
changed-gone c (open_again note past) key there = there
changed-gone c (gone_for_good candidate next) key there =
    let place = candidate.list ∷ candidate.place ∷ [] in
    ap is_some (fin.get-insert nat_list_cmp_total c.gone place candidate.note key) ∙ go (eq_by_cmp (slice_cmp nat_cmp) key place)
  where
    go : (b : Bool) → is_some (cond b (Some candidate.note) (fin.get c.gone key)) ≡ true
    go true = refl
    go false = there

-- of each constituency
abbrev AreStayingGone : State → State → Type 0
AreStayingGone s t = (q : List ℕ) → StayGone (con_state s q) (con_state t q)

con-gone : (found : Option Constituency) (s : State) (ask : Ask) (r : Result Reply Refusal) (t : State) → IsConStep found s ask r t → AreStayingGone s t
con-gone None s ask r t is = subst (AreStayingGone s) (sym is.1) (λ q. gone-same (con_state s q))
con-gone (Some con) s ask r t is = subst (AreStayingGone s) (sym is.5) (go is.1)
  where
    go : (decided : Result ConChange Refusal) → AreStayingGone s (after_change s con.code decided)
    go (Ok no_change) q = gone-same (con_state s q)
    go (Ok change) q = with_con-each StayGone gone-same s con.code (con_state_after (con_state s con.code) change) (changed-gone (con_state s con.code) change) q
    go (Err refusal) q = gone-same (con_state s q)

without_lot-gone : (s : State) (code : Option (List ℕ)) → AreStayingGone s (without_lot s code)
without_lot-gone s None q = gone-same (con_state s q)
without_lot-gone s (Some code) q = with_con-each StayGone gone-same s code (record (con_state s code) { lot = [] }) (λ key there. there) q

after_put-gone : (setup : List Constituency) (s : State) (ask : Ask) → AreStayingGone s (after_put setup s ask)
after_put-gone setup s (Query station rev note) q = without_lot-gone s (con_of_station setup station) q
after_put-gone setup s other q = gone-same (con_state s q)

after-gone : (setup : List Constituency) (s : State) (ask : Ask) (d : Result Change Refusal) → AreStayingGone s (state_after setup s ask d)
after-gone setup s ask (Ok (PutReturn standing)) q =
    let put = after_put setup s ask in
    subst (StayGone (con_state s q)) (ap (λ cons. con_state (record put { cons = cons }) q) (sym (with_return-cons put (station_named ask) standing))) (after_put-gone setup s ask q)
after-gone setup s ask other q = gone-same (con_state s q)

step-gone : (named : Option (List ℕ)) (setup : List Constituency) (s : State) (ask : Ask) (r : Result Reply Refusal) (t : State) → IsStepSeenAt named setup s ask (reply_seen r) t → AreStayingGone s t
step-gone None setup s ask r t is = subst (AreStayingGone s) (sym is.1) (after-gone setup s ask (change_in_state setup s ask))
step-gone (Some code) setup s ask r t is = con-gone (constituency_with code setup) s ask r t is

pub gone-stay : TheGoneStayGone
gone-stay setup s t ask r (inl is) code list place there = step-gone (con_named ask) setup s ask r t is code (list ∷ place ∷ []) there
gone-stay setup s t ask r (inr is) code list place there = subst (AreStayingGone s) (sym is.1) (λ q. gone-same (con_state s q)) code (list ∷ place ∷ []) there
