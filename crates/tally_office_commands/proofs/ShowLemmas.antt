-- Why something that the office has is not shown.
use Rattle.std.proofs.Common.{◌≡◌, ◌∙◌, ℕ, List, Option, Some, None, Result, Ok, Err, IfErr, option_map, refl, sym, ap, subst, inl, inr}
use Rattle.tally_setup.specs.Constituency.{Constituency}
use Rattle.tally_setup.specs.Setup.{constituency_with}
use Rattle.tally_returns.specs.State.{State}
use Rattle.tally_returns.specs.View.{View}
use Rattle.tally_returns.specs.declared.ask.Ask.{Ask}
use Rattle.tally_returns.specs.declared.ask.Ask.TheVariants.{ShowCon, ShowProgress}
use Rattle.tally_returns.specs.declared.refusal.Refusal.{Refusal}
use Rattle.tally_returns.specs.declared.refusal.Refusal.TheVariants.{Memory, Store}
use Rattle.tally_returns.specs.declared.reply.Reply.TheVariants as reply
use Rattle.tally_machine_law.specs.Step.{IsConStepSeen, IsNotAccepted, con_answer, no_change}
use Rattle.tally_keeper.specs.Keeper.{Happens, request}
use Rattle.tally_report.specs.declared.fault.ReportFault.{ReportFault}
use Rattle.tally_report.specs.declared.fault.ReportFault.TheVariants as fault
use Rattle.tally_report.specs.Fault.{IsRefused}
use Rattle.tally_report.specs.Reports.{report_fault}
use Rattle.tally_report_names.specs.declared.report.Report.{Report}
use Rattle.tally_office_commands.specs.Show.{IsProgressTrouble, IsReportTrouble, Shows, report_trouble}
use Rattle.tally_office_commands.specs.internal.Withheld.{IsWithheld, refusal_trouble}
use Rattle.tally_office_trouble.specs.declared.trouble.Trouble.{Trouble}
use Rattle.tally_office_trouble.specs.declared.trouble.Trouble.TheVariants as trouble

-- ---- what a text names

pub named-some : {X : Type 0} (text code : List ℕ) (o : Option X) → option_map (λ (x : X). text) o ≡ Some code → (x : X) × (o ≡ Some x) × (code ≡ text)
named-some text code None e = cc
named-some text code (Some x) e = (x, refl, cc)

-- a text that names a constituency is its code
pub con-known : (r : Option (List ℕ)) (text code : List ℕ) (s setup : List Constituency) → r ≡ option_map (λ (con : Constituency). text) (constituency_with text s) → s ≡ setup
    → r ≡ Some code → (con : Constituency) × (constituency_with text setup ≡ Some con) × (code ≡ text)
con-known r text code s setup named same some =
    named-some text code (constituency_with text setup)
    (sym (ap (λ (x : List Constituency). option_map (λ (con : Constituency). text) (constituency_with text x)) same) ∙ sym named ∙ some)

pub known-found : {X : Type 0} {o : Option X} {x : X} → o ≡ None → o ≡ Some x → ⊥
known-found none some = let both = sym none ∙ some in cc

-- ---- refusals

con-step : (s t : State) (code : List ℕ) (why : Refusal) (found : Constituency) → IsConStepSeen (Some found) s (ShowCon code) (Err why) t → ⊥
con-step s t code why found (v, decided, seen, decides, answered, after) =
    let same : Err why ≡ con_answer v (Ok no_change) = answered ∙ ap (con_answer v) decides in cc

-- a constituency that the setup has is refused only where it is out of memory, or a database failed
pub con-refused : (setup : List Constituency) (old new : Option State) (code : List ℕ) (found : Constituency) (why : Refusal) → constituency_with code setup ≡ Some found
    → Happens setup old (request (ShowCon code) (Err why)) new → IsNotAccepted (Err why)
con-refused setup (Some s) (Some t) code found why is (inl step) =
    absurd (con-step s t code why found (subst (λ o. IsConStepSeen o s (ShowCon code) (Err why) t) is step))
con-refused setup (Some s) (Some t) code found why is (inr (none, kept)) = none
con-refused setup (Some s) None code found why is none = inr none
con-refused setup None (Some t) code found why is h = absurd h
con-refused setup None None code found why is none = none

pub con-trouble : (setup : List Constituency) (old new : Option State) (code : List ℕ) (which : Report) (found : Constituency) (why : Refusal)
    → constituency_with code setup ≡ Some found → Happens setup old (request (ShowCon code) (Err why)) new → IsReportTrouble setup old code which (refusal_trouble why) new
con-trouble setup old new code which found why is happens = go (con-refused setup old new code found why is happens)
  where
    by : (other : Refusal) → why ≡ other → (Happens setup old (request (ShowCon code) (Err other)) new → IsReportTrouble setup old code which (refusal_trouble other) new)
        → IsReportTrouble setup old code which (refusal_trouble why) new
    by other e ensured =
        subst (λ (w : Refusal). IsReportTrouble setup old code which (refusal_trouble w) new) (sym e)
        (ensured (subst (λ (w : Refusal). Happens setup old (request (ShowCon code) (Err w)) new) e happens))

    go : IsNotAccepted (Err why) → IsReportTrouble setup old code which (refusal_trouble why) new
    go (inl e) = let same : why ≡ Memory = cc in by Memory same (λ h. h)
    go (inr e) = let same : why ≡ Store = cc in by Store same (λ h. h)

progress-refused : (setup : List Constituency) (old new : Option State) (why : Refusal) → Happens setup old (request ShowProgress (Err why)) new → IsNotAccepted (Err why)
progress-refused setup (Some s) (Some t) why (inl (answered, after)) = cc
progress-refused setup (Some s) (Some t) why (inr (none, kept)) = none
progress-refused setup (Some s) None why none = inr none
progress-refused setup None (Some t) why h = absurd h
progress-refused setup None None why none = none

pub progress-trouble : (setup : List Constituency) (old new : Option State) (why : Refusal) → Happens setup old (request ShowProgress (Err why)) new
    → IsProgressTrouble setup old (refusal_trouble why) new
progress-trouble setup old new why happens = go (progress-refused setup old new why happens)
  where
    by : (other : Refusal) → why ≡ other → (Happens setup old (request ShowProgress (Err other)) new → IsProgressTrouble setup old (refusal_trouble other) new)
        → IsProgressTrouble setup old (refusal_trouble why) new
    by other e ensured =
        subst (λ (w : Refusal). IsProgressTrouble setup old (refusal_trouble w) new) (sym e)
        (ensured (subst (λ (w : Refusal). Happens setup old (request ShowProgress (Err w)) new) e happens))

    go : IsNotAccepted (Err why) → IsProgressTrouble setup old (refusal_trouble why) new
    go (inl e) = let same : why ≡ Memory = cc in by Memory same (λ h. h)
    go (inr e) = let same : why ≡ Store = cc in by Store same (λ h. h)

-- ---- out of memory, and faults of a report

-- where nothing has changed, the answer may have been that it was out of memory
pub memory-refused : (setup : List Constituency) (old new : Option State) (ask : Ask) → new ≡ old → Happens setup old (request ask (Err Memory)) new
memory-refused setup old new ask kept = subst (λ (n : Option State). Happens setup old (request ask (Err Memory)) n) (sym kept) (go old)
  where
    go : (o : Option State) → Happens setup o (request ask (Err Memory)) o
    go (Some s) = inr (inl refl, refl)
    go None = inl refl

pub fault-trouble : (setup : List Constituency) (old new : Option State) (code : List ℕ) (which : Report) (con : Constituency) (view : View) (t : Trouble)
    → constituency_with code setup ≡ Some con → Shows setup old (ShowCon code) (reply.Con view) new → IsWithheld (report_fault con view which) t
    → IsReportTrouble setup old code which t new
fault-trouble setup old new code which con view t is shows withheld = go (report_fault con view which) refl withheld
  where
    trouble_as : (other : Trouble) → t ≡ other → IsReportTrouble setup old code which other new → IsReportTrouble setup old code which t new
    trouble_as other e ensured = subst (λ (x : Trouble). IsReportTrouble setup old code which x new) (sym e) ensured

    go : (o : Option ReportFault) → report_fault con view which ≡ o → IsWithheld o t → IsReportTrouble setup old code which t new
    go None e w = trouble_as trouble.Memory w (memory-refused setup old new (ShowCon code) shows.1)
    go (Some fault.NotCertified) e w = trouble_as trouble.NotCertified w (con, view, is, shows, e)
    go (Some fault.OtherMethod) e w = trouble_as trouble.OtherMethod w (con, view, is, shows, e)
    go (Some fault.Memory) e w = trouble_as trouble.Memory w (memory-refused setup old new (ShowCon code) shows.1)

-- a report that was given has no fault
pub given-none : {T : Type 0} (o : Option ReportFault) (text : T) → IsRefused o (Ok text) → o ≡ None
given-none None text refused = refl
given-none (Some why) text refused = cc

-- a report that was not given has this fault, or was out of memory
pub withheld : (T : Type 0) (o : Option ReportFault) (why : ReportFault) → IsRefused {T = T} o (Err why) → IsWithheld o (report_trouble why)
withheld T None why refused = ap report_trouble refused
withheld T (Some other) why refused = let same : why ≡ other = cc in ap report_trouble same

-- no fault of a report is a failed database
pub fault-other : (why : ReportFault) (t : Trouble) → t ≡ report_trouble why → t ≡ trouble.Store → ⊥
fault-other fault.NotCertified t is failed = cc
fault-other fault.OtherMethod t is failed = cc
fault-other fault.Memory t is failed = cc

-- so anything may follow from one
pub other-store : {S : Type 0} (P : Type 0) (r : Result S Trouble) → IfErr r (λ t. t ≡ trouble.Store → ⊥) → IfErr r (λ t. t ≡ trouble.Store → P)
other-store P (Ok text) never = tt
other-store P (Err t) never = λ failed. absurd (never failed)
