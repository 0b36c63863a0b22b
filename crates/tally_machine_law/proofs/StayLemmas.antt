-- No step takes a return away, so what was lodged is not lodged again.
use Rattle.std.proofs.Common.{◌≡◌, ◌∙◌, ℕ, List, [], ◌∷◌, Bool, true, false, cond, Option, Some, None, Result, Ok, Err, refl, sym, ap, subst, inl, inr}
use Rattle.std.specs.Prelude.{is_some, if◌then◌else◌}
use Rattle.std.specs.FinMap as map
use Rattle.std.specs.Cmp.{eq_by_cmp_equiv}
use Rattle.std.specs.Cmp.Lexicographic.{nat_list_cmp_total}
use Rattle.std.specs.Ordering.{eq_by_cmp}
use Rattle.tally_setup.specs.Code.{code_cmp}
use Rattle.tally_setup.specs.Constituency.{Constituency}
use Rattle.tally_setup.specs.Setup.{constituency_with}
use Rattle.tally_returns.specs.Checks.{first_refusal, refused_or}
use Rattle.tally_returns.specs.Counts.{VoteCounts}
use Rattle.tally_returns.specs.Return.{StationReturn, Returns, first_return}
use Rattle.tally_returns.specs.Lodge.{StationLimits, Stations, counts_checks, is_return_of, reply_after_checks, reply_at_code, lodge_answer, after_lodge, lodge}
use Rattle.tally_returns.specs.Named.{con_named, station_named}
use Rattle.tally_returns.specs.State.{State}
use Rattle.tally_machine_law.specs.Step.{con_of_station, change_in_state, without_lot, after_put, with_return, state_after, after_return, IsAnswered, IsStepSeenAt, reply_seen}
use Rattle.tally_machine_law.specs.Runs.{IsRun}
use Rattle.tally_returns.specs.declared.ask.Ask.{Ask}
use Rattle.tally_returns.specs.declared.ask.Ask.TheVariants as ask
use Rattle.tally_returns.specs.declared.change.Change.{Change}
use Rattle.tally_returns.specs.declared.change.Change.TheVariants as change
use Rattle.tally_returns.specs.declared.refusal.Refusal.{Refusal}
use Rattle.tally_returns.specs.declared.refusal.Refusal.TheVariants.{Differs}
use Rattle.tally_returns.specs.declared.reply.LodgeReply.{LodgeReply}
use Rattle.tally_returns.specs.declared.reply.LodgeReply.TheVariants.{Lodged, Same}
use Rattle.tally_returns.specs.declared.reply.Reply.{Reply}
use Rattle.tally_machine_law.proofs.ConStateLemmas.{con_step-returns}

-- each station that has a return in the one has one in the other
abbrev pub Stay : Returns → Returns → Type 0
Stay m n = (q : List ℕ) → is_some (map.get m q) ≡ true → is_some (map.get n q) ≡ true

insert-stays : (m : Returns) (station : List ℕ) (r : StationReturn) → Stay m (map.insert m station r)
insert-stays m station r q there = ap is_some (map.get-insert nat_list_cmp_total m station r q) ∙ go (eq_by_cmp code_cmp q station)
  where
    go : (b : Bool) → is_some (cond b (Some r) (map.get m q)) ≡ true
    go true = refl
    go false = there

insert-there : (m : Returns) (station : List ℕ) (r : StationReturn) → is_some (map.get (map.insert m station r) station) ≡ true
insert-there m station r =
    ap is_some (map.get-insert nat_list_cmp_total m station r station)
    ∙ ap (λ b. is_some (cond b (Some r) (map.get m station))) ((eq_by_cmp_equiv nat_list_cmp_total).refl station)

put-stays : (setup : List Constituency) (s : State) (a : Ask) → Stay s.returns (after_put setup s a).returns
put-stays setup s (ask.Query station rev note) q there = go (con_of_station setup station)
  where
    go : (code : Option (List ℕ)) → is_some (map.get (without_lot s code).returns q) ≡ true
    go None = there
    go (Some code) = there
put-stays setup s a q there = there

after_return-stays : (setup : List Constituency) (s : State) (a : Ask) → Stay s.returns (after_return setup s a).returns
after_return-stays setup s a q there = go (change_in_state setup s a)
  where
    put : (t : State) (named : Option (List ℕ)) (r : StationReturn) → is_some (map.get t.returns q) ≡ true → is_some (map.get (with_return t named r).returns q) ≡ true
    put t None r stood = stood
    put t (Some station) r stood = insert-stays t.returns station r q stood

    go : (d : Result Change Refusal) → is_some (map.get (state_after setup s a d).returns q) ≡ true
    go (Ok (change.PutReturn r)) = put (after_put setup s a) (station_named a) r (put-stays setup s a q there)
    go other = there

-- where the returns are the same ones
same-stays : (m n : Returns) → n ≡ m → Stay m n
same-stays m n same = subst (Stay m) (sym same) (λ q there. there)

step-stays : (named : Option (List ℕ)) (setup : List Constituency) (s : State) (a : Ask) (r : Result Reply Refusal) (t : State) → IsStepSeenAt named setup s a (reply_seen r) t → Stay s.returns t.returns
step-stays None setup s a r t is = subst (λ (x : State). Stay s.returns x.returns) (sym is.1) (after_return-stays setup s a)
step-stays (Some code) setup s a r t is = same-stays s.returns t.returns (con_step-returns (constituency_with code setup) s a r t is)

-- what has a return before a request has one after it
pub answered-stays : (setup : List Constituency) (s : State) (a : Ask) (r : Result Reply Refusal) (t : State) → IsAnswered setup s a r t → Stay s.returns t.returns
answered-stays setup s a r t (inl is) = step-stays (con_named a) setup s a r t is
answered-stays setup s a r t (inr is) = same-stays s.returns t.returns (ap (λ (x : State). x.returns) is.1)

pub run-stays : (setup : List Constituency) (s t : State) (asks : List Ask) (rs : List (Result Reply Refusal)) → IsRun setup s asks rs t → Stay s.returns t.returns
run-stays setup s t [] [] is = subst (λ (x : State). Stay s.returns x.returns) (sym is) (λ q there. there)
run-stays setup s t [] (x ∷ rs) is = absurd is
run-stays setup s t (a ∷ asks) [] is = absurd is
run-stays setup s t (a ∷ asks) (x ∷ rs) is = λ q there. run-stays setup is.0 t asks rs is.2 q (answered-stays setup s a x is.0 is.1 q there)

pub lodge-stays : (stations : Stations) (m : Returns) (station slip : List ℕ) (counts : VoteCounts) → Stay m (lodge stations m station slip counts)
lodge-stays stations m station slip counts q there = go (lodge_answer stations m station slip counts)
  where
    go : (answer : Result LodgeReply Refusal) → is_some (map.get (after_lodge m station slip counts answer) q) ≡ true
    go (Ok (Lodged rev)) = insert-stays m station (first_return slip counts) q there
    go (Ok (Same rev)) = there
    go (Err refusal) = there

-- a return is lodged only where none is recorded
lodged-none : (known : Option StationLimits) (found : Option StationReturn) (slip : List ℕ) (counts : VoteCounts) (rev : ℕ) → reply_at_code known found slip counts ≡ Ok (Lodged rev) → found ≡ None
lodged-none None found slip counts rev is = cc
lodged-none (Some limits) found slip counts rev is = go (first_refusal (counts_checks limits counts)) found is
  where
    again : (standing : StationReturn) (b : Bool) → (if b then Ok (Same standing.rev) else Err (Differs standing.rev)) ≡ Ok (Lodged rev) → Some standing ≡ None
    again standing true ok = cc
    again standing false ok = cc

    go : (refused : Option Refusal) (f : Option StationReturn) → refused_or refused (reply_after_checks f slip counts) ≡ Ok (Lodged rev) → f ≡ None
    go (Some e) f ok = cc
    go None None ok = refl
    go None (Some standing) ok = again standing (is_return_of slip counts standing) ok

-- a Lodge that came before is not lodged again, as long as no return was taken away
pub not_lodged-again : (stations : Stations) (m n : Returns) (station slip : List ℕ) (counts : VoteCounts) (rev : ℕ)
    → Stay (lodge stations m station slip counts) n → lodge_answer stations n station slip counts ≡ Ok (Lodged rev) → ⊥
not_lodged-again stations m n station slip counts rev stay is = go (map.get m station) refl
  where
    now : map.get n station ≡ None
    now = lodged-none (stations station) (map.get n station) slip counts rev is

    nothing : is_some (map.get (lodge stations m station slip counts) station) ≡ true → ⊥
    nothing there = let no : true ≡ false = sym (stay station there) ∙ ap is_some now in cc

    go : (found : Option StationReturn) → map.get m station ≡ found → ⊥
    go (Some standing) at = nothing (lodge-stays stations m station slip counts station (ap is_some at))
    go None at =
        let before : lodge_answer stations m station slip counts ≡ Ok (Lodged rev) = ap (λ f. reply_at_code (stations station) f slip counts) (at ∙ sym now) ∙ is in
        nothing (ap (λ answer. is_some (map.get (after_lodge m station slip counts answer) station)) before ∙ insert-there m station (first_return slip counts))
