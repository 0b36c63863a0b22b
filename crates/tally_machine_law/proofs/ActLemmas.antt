-- A command acts where its answer says so, and leaves the state where it does not.
use Rattle.std.proofs.Common.{◌≡◌, ◌∙◌, ℕ, List, Bool, true, false, Option, Some, None, Result, Ok, Err, refl, sym, ap, subst, inl, inr}
use Rattle.std.specs.FinMap.{get}
use Rattle.tally_setup.specs.Constituency.{Constituency}
use Rattle.tally_setup.specs.Setup.{constituency_with}
use Rattle.tally_returns.specs.Checks.{first_refusal, refused_or}
use Rattle.tally_returns.specs.Counts.{VoteCounts}
use Rattle.tally_returns.specs.Return.{StationReturn}
use Rattle.tally_returns.specs.Lodge.{reply_at_code}
use Rattle.tally_returns.specs.Decide.{show_checks, lodge_change}
use Rattle.tally_returns.specs.Named.{con_named}
use Rattle.tally_returns.specs.State.{State, con_state, stations_of}
use Rattle.tally_machine_law.specs.Step.{change_in_state, state_after, ConChange, no_change, gone_for_good, Decides, after_change, con_state_after, with_con, Answer, lodged, moved, edition_now, vacated, reply_seen, lodge_reply, move_reply, return_reply, answer, con_answer, IsConStep, IsReturnStepSeen, IsNotAccepted, IsAnswered, IsStepSeenAt}
use Rattle.tally_returns.specs.View.{View, view_of}
use Rattle.tally_machine_law.specs.Runs.{is_act}
use Rattle.tally_returns.specs.declared.ask.Ask.{Ask}
use Rattle.tally_returns.specs.declared.ask.Ask.TheVariants.{Lodge, ShowReturn, ShowProgress}
use Rattle.tally_returns.specs.declared.change.Change.{Change}
use Rattle.tally_returns.specs.declared.change.Change.TheVariants as change
use Rattle.tally_returns.specs.declared.refusal.Refusal.{Refusal}
use Rattle.tally_returns.specs.declared.reply.LodgeReply.{LodgeReply}
use Rattle.tally_returns.specs.declared.reply.LodgeReply.TheVariants as lodge
use Rattle.tally_returns.specs.declared.reply.Reply.{Reply}
use Rattle.tally_returns.specs.declared.reply.Reply.TheVariants.{Lodged, Same, Moved, Return, Edition, Vacated, Con, Progress}
use Rattle.tally_machine_law.proofs.ConStateLemmas.{con-code}
use Rattle.tally_machine_law.proofs.LifeLemmas.{puts, acts}

-- whether an answer, as contracts see it, is one of a command that acted
abbrev acted : Result Answer Refusal → Bool
acted (Ok (lodged rev)) = true
acted (Ok (moved rev)) = true
acted (Ok (edition_now edition)) = true
acted (Ok (vacated next)) = true
acted other = false

acted-seen : (r : Result Reply Refusal) → acted (reply_seen r) ≡ is_act r
acted-seen (Ok (Lodged rev)) = refl
acted-seen (Ok (Same rev)) = refl
acted-seen (Ok (Moved rev)) = refl
acted-seen (Ok (Return standing)) = refl
acted-seen (Ok (Edition edition)) = refl
acted-seen (Ok (Vacated next)) = refl
acted-seen (Ok (Con view)) = refl
acted-seen (Ok (Progress rows)) = refl
acted-seen (Err refusal) = refl

-- ---- on a return

acted-lodge : (slip : List ℕ) (counts : VoteCounts) (d : Result LodgeReply Refusal) → acted (lodge_reply d) ≡ puts (lodge_change slip counts d)
acted-lodge slip counts (Ok (lodge.Lodged rev)) = refl
acted-lodge slip counts (Ok (lodge.Same rev)) = refl
acted-lodge slip counts (Err refusal) = refl

acted-move : (d : Result Change Refusal) → acted (move_reply d) ≡ puts d
acted-move (Ok (change.PutReturn standing)) = refl
acted-move (Ok other) = refl
acted-move (Err refusal) = refl

acted-show : (refused : Option Refusal) (found : Option StationReturn) → acted (refused_or refused (return_reply found)) ≡ puts (refused_or refused (Ok change.Same))
acted-show (Some refusal) found = refl
acted-show None (Some standing) = refl
acted-show None None = refl

acted-answer : (setup : List Constituency) (s : State) (ask : Ask) → acted (answer setup s ask) ≡ acts setup s ask
acted-answer setup s (Lodge station slip counts) = acted-lodge slip counts (reply_at_code (stations_of setup station) (get s.returns station) slip counts)
acted-answer setup s (ShowReturn station) = acted-show (first_refusal (show_checks (stations_of setup station) (get s.returns station))) (get s.returns station)
acted-answer setup s ShowProgress = refl
acted-answer setup s ask = acted-move (change_in_state setup s ask)

-- a command on a return acts where its answer says so
pub is_act-return : (setup : List Constituency) (s : State) (ask : Ask) (r : Result Reply Refusal) (t : State) → IsReturnStepSeen setup s ask (reply_seen r) t → is_act r ≡ acts setup s ask
is_act-return setup s ask r t is = sym (acted-seen r) ∙ ap acted is.0 ∙ acted-answer setup s ask

after-idle : (setup : List Constituency) (s : State) (ask : Ask) (d : Result Change Refusal) → puts d ≡ false → state_after setup s ask d ≡ s
after-idle setup s ask (Ok (change.PutReturn r)) idle = cc
after-idle setup s ask other idle = refl

-- ---- on a constituency

-- whether a constituency comes to something else
abbrev pub changes : Result ConChange Refusal → Bool
changes (Ok no_change) = false
changes (Ok other) = true
changes (Err refusal) = false

acted-con : (view : View) (d : Result ConChange Refusal) → acted (con_answer view d) ≡ changes d
acted-con view (Ok no_change) = refl
acted-con view (Ok (gone_for_good candidate next)) = refl
acted-con view (Ok other) = refl
acted-con view (Err refusal) = refl

change-idle : (s : State) (code : List ℕ) (d : Result ConChange Refusal) → changes d ≡ false → after_change s code d ≡ s
change-idle s code (Ok no_change) idle = refl
change-idle s code (Ok other) idle = cc
change-idle s code (Err refusal) idle = refl

-- what is decided where it is a change
record IsChange (s : State) (code : List ℕ) (d : Result ConChange Refusal) : Type 0 where
  pub change : ConChange
  pub is : d ≡ Ok change
  pub some : changes (Ok change) ≡ true
  pub new : after_change s code d ≡ with_con s code (con_state_after (con_state s code) change)

changes-is : (s : State) (code : List ℕ) (d : Result ConChange Refusal) → changes d ≡ true → IsChange s code d
changes-is s code (Ok no_change) e = cc
changes-is s code (Ok other) e = record { change = other; is = refl; some = refl; new = refl }
changes-is s code (Err refusal) e = cc

-- A command on the constituency of a code that acted: what was decided
-- by its view, and the state after.
pub record IsConAct (setup : List Constituency) (code : List ℕ) (s : State) (ask : Ask) (t : State) : Type 0 where
  pub con : Constituency
  pub found : constituency_with code setup ≡ Some con
  pub view : View
  pub is_view : view ≡ view_of con s view.seats
  pub change : ConChange
  pub some : changes (Ok change) ≡ true
  pub decides : Decides con view ask (Ok change)
  pub new : t ≡ with_con s code (con_state_after (con_state s code) change)

pub con-acted : (setup : List Constituency) (code : List ℕ) (s : State) (ask : Ask) (r : Result Reply Refusal) (t : State)
    → IsConStep (constituency_with code setup) s ask r t → is_act r ≡ true → IsConAct setup code s ask t
con-acted setup code s ask r t is acted_there = go (constituency_with code setup) refl is
  where
    go : (found : Option Constituency) → constituency_with code setup ≡ found → IsConStep found s ask r t → IsConAct setup code s ask t
    go None at is = absurd (let no : true ≡ false = sym acted_there ∙ sym (acted-seen r) ∙ ap acted is.0 in cc)
    go (Some con) at is =
        let c = changes-is s con.code is.1 (sym (acted-con is.0 is.1) ∙ ap acted (sym is.4) ∙ acted-seen r ∙ acted_there) in record {
          con = con;
          found = at;
          view = is.0;
          is_view = is.2.0;
          change = c.change;
          some = c.some;
          decides = subst (Decides con is.0 ask) c.is is.3;
          new = is.5 ∙ c.new ∙ ap (λ (q : List ℕ). with_con s q (con_state_after (con_state s q) c.change)) (con-code setup code con at);
        }

con-idle : (found : Option Constituency) (s : State) (ask : Ask) (r : Result Reply Refusal) (t : State) → IsConStep found s ask r t → is_act r ≡ false → t ≡ s
con-idle None s ask r t is idle = is.1
con-idle (Some con) s ask r t is idle = is.5 ∙ change-idle s con.code is.1 (sym (acted-con is.0 is.1) ∙ ap acted (sym is.4) ∙ acted-seen r ∙ idle)

-- ---- any request

pub not_accepted-idle : (r : Result Reply Refusal) → IsNotAccepted r → is_act r ≡ false
not_accepted-idle r (inl is) = ap is_act is
not_accepted-idle r (inr is) = ap is_act is

step-idle : (named : Option (List ℕ)) (setup : List Constituency) (s : State) (ask : Ask) (r : Result Reply Refusal) (t : State) → IsStepSeenAt named setup s ask (reply_seen r) t → is_act r ≡ false → t ≡ s
step-idle None setup s ask r t is idle = is.1 ∙ after-idle setup s ask (change_in_state setup s ask) (sym (is_act-return setup s ask r t is) ∙ idle)
step-idle (Some code) setup s ask r t is idle = con-idle (constituency_with code setup) s ask r t is idle

-- a request that does not act leaves the state
pub answered-idle : (setup : List Constituency) (s : State) (ask : Ask) (r : Result Reply Refusal) (t : State) → IsAnswered setup s ask r t → is_act r ≡ false → t ≡ s
answered-idle setup s ask r t (inl is) idle = step-idle (con_named ask) setup s ask r t is idle
answered-idle setup s ask r t (inr is) idle = is.1
