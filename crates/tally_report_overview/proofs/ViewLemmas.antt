-- What a keeper shows for reports: views that are lawful, with their certificates on record or
-- without any.
use Rattle.std.proofs.Common.{◌≡◌, ◌∙◌, ℕ, List, [], Bool, true, false, Option, Some, None, Result, Ok, Err, IfOk, IfSome, refl, sym, ap, subst, inl, inr}
use Rattle.tally_setup.specs.Constituency.{Constituency}
use Rattle.tally_setup.specs.Limits.{IsSetup}
use Rattle.tally_setup.specs.Setup.{constituency_with}
use Rattle.std.proofs.lemmas.List.Elements.{All-from_recursion}
use Rattle.tally_law.specs.Allotment.{Rule, divisors, hare}
use Rattle.tally_report.specs.ProvisionalText.{IsProvisionalText}
use Rattle.tally_report.specs.QuotientsText.{quotients_of}
use Rattle.tally_report.specs.Reports.{IsEnoughFor, IsReport, report_fault}
use Rattle.tally_report.specs.ProvisionalSeats.{AreProvisionalSeats}
use Rattle.tally_report_names.specs.declared.report.Report.{Report}
use Rattle.tally_report_names.specs.declared.report.Report.TheVariants as report
use Rattle.tally_report.specs.declared.status.ProvisionalStatus.{ProvisionalStatus}
use Rattle.tally_report.specs.declared.status.ProvisionalStatus.TheVariants as status
use Rattle.tally_returns.specs.PastSeats.{PastSeats}
use Rattle.tally_returns.specs.State.{State}
use Rattle.tally_returns.specs.View.{HasEachList, View}
use Rattle.tally_returns.specs.declared.ask.Ask.TheVariants.{ShowCon}
use Rattle.tally_returns.specs.declared.reply.Reply.TheVariants as reply
use Rattle.tally_machine_law.specs.LawStatements.{ViewsAreLawful}
use Rattle.tally_machine_law.specs.LawfulState.{IsLawfulState}
use Rattle.tally_machine_law.specs.Outcome.{IsLawfulPast, IsLawfulView, rule_in}
use Rattle.tally_machine_law.specs.Step.{IsConStepSeen, after_change, con_shown}
use Rattle.tally_keeper.specs.Keeper.{Happens, request}
use Rattle.tally_keeper.specs.Shown.{AnswersShowCon}
use Rattle.tally_returns.specs.declared.refusal.Refusal.{Refusal}
use Rattle.tally_report_overview.specs.Views.{HasPastIf, ShowsFor, ShowsWhole, is_past}

-- ---- what is shown

shown-at : ViewsAreLawful → (setup : List Constituency) (s t : State) (code : List ℕ) (view : View) (found : Constituency) → IsSetup setup → IsLawfulState setup s
    → constituency_with code setup ≡ Some found → IsConStepSeen (Some found) s (ShowCon code) (Ok (con_shown view)) t → IsLawfulView found view
shown-at law setup s t code view found limits lawful is (v, decided, seen, decides, answered, after) =
    let same : v ≡ view = cc in
    subst (λ w. IsLawfulView found w) same (law setup s code found v limits lawful is seen)

-- the view that is shown in a lawful state is lawful
pub shown-lawful : ViewsAreLawful → (setup : List Constituency) (old new : Option State) (code : List ℕ) (view : View) (found : Constituency) → IsSetup setup
    → IfSome old (IsLawfulState setup) → constituency_with code setup ≡ Some found → Happens setup old (request (ShowCon code) (Ok (reply.Con view))) new → IsLawfulView found view
shown-lawful law setup (Some s) (Some t) code view found limits lawful is (inl step) =
    shown-at law setup s t code view found limits lawful is (subst (λ o. IsConStepSeen o s (ShowCon code) (Ok (con_shown view)) t) is step)
shown-lawful law setup (Some s) (Some t) code view found limits lawful is (inr (inl none, kept)) = cc
shown-lawful law setup (Some s) (Some t) code view found limits lawful is (inr (inr none, kept)) = cc
shown-lawful law setup (Some s) None code view found limits lawful is none = cc
shown-lawful law setup None (Some t) code view found limits lawful is h = absurd h
shown-lawful law setup None None code view found limits lawful is (inl none) = cc
shown-lawful law setup None None code view found limits lawful is (inr none) = cc

-- and nothing changed where it was shown
shown-still : (setup : List Constituency) (s t : State) (code : List ℕ) (view : View) (found : Option Constituency) → IsConStepSeen found s (ShowCon code) (Ok (con_shown view)) t → t ≡ s
shown-still setup s t code view (Some found) (v, decided, seen, decides, answered, after) = after ∙ ap (after_change s found.code) decides
shown-still setup s t code view None step = step.1

pub shown-kept : (setup : List Constituency) (old new : Option State) (code : List ℕ) (view : View) → Happens setup old (request (ShowCon code) (Ok (reply.Con view))) new → new ≡ old
shown-kept setup (Some s) (Some t) code view (inl step) = ap Some (shown-still setup s t code view (constituency_with code setup) step)
shown-kept setup (Some s) (Some t) code view (inr (inl none, kept)) = cc
shown-kept setup (Some s) (Some t) code view (inr (inr none, kept)) = cc
shown-kept setup (Some s) None code view none = cc
shown-kept setup None (Some t) code view h = absurd h
shown-kept setup None None code view (inl none) = cc
shown-kept setup None None code view (inr none) = cc

-- ---- without certificates on record

-- a lawful view is one without them too
lawful-bare : (con : Constituency) (view : View) (past : List PastSeats) → view.past ≡ [] → IsLawfulView con (record view { past = past }) → IsLawfulView con view
lawful-bare con view past bare is =
    subst (λ (p : List PastSeats). IsLawfulView con (record view { past = p })) (sym bare) (record {
      fits = record { lists = is.fits.lists; votes = is.fits.votes; edition = is.fits.edition; stations = is.fits.stations; seats = is.fits.seats; past = All-from_recursion (HasEachList con) [] tt };
      few = is.few;
      lawful = record { first = is.lawful.first; last = is.lawful.last; note = is.lawful.note; lot = is.lawful.lot; certified = is.lawful.certified; gone = is.lawful.gone; past = All-from_recursion (IsLawfulPast con view.edition) [] tt };
      seats = is.seats;
    })

-- what is shown of a lawful view is lawful, with its certificates or without any
lawful-shown : (with_past : Bool) (con : Constituency) (view : View) (past : List PastSeats) → HasPastIf with_past past (Ok view) → IsLawfulView con (record view { past = past }) → IsLawfulView con view
lawful-shown true con view past has lawful = subst (λ (p : List PastSeats). IsLawfulView con (record view { past = p })) (sym has) lawful
lawful-shown false con view past has lawful = lawful-bare con view past has lawful

-- the fault of a report is that of the whole view
pub fault-whole : (which : Report) (con : Constituency) (view : View) (past : List PastSeats) → report_fault con view which ≡ report_fault con (record view { past = past }) which
fault-whole report.Tally con view past = refl
fault-whole other con view past = refl

-- the quotients are those of the whole view
pub same-quotients : (rule : Rule) (con : Constituency) (view : View) (past : List PastSeats) → quotients_of rule con view ≡ quotients_of rule con (record view { past = past })
same-quotients (divisors nth unit lot_rule) con view past = refl
same-quotients hare con view past = refl

-- provisional seats are those of the whole view
same-seats : (state : ProvisionalStatus) (seats : List ℕ) (con : Constituency) (view : View) (past : List PastSeats) → AreProvisionalSeats con view state seats → AreProvisionalSeats con (record view { past = past }) state seats
same-seats status.Certified seats con view past is = is
same-seats status.Open seats con view past is = is
same-seats (status.LotNeeded group in_question) seats con view past is = is
same-seats status.NoEligible seats con view past is = is

-- and so is their text
pub same-provisional : (con : Constituency) (view : View) (past : List PastSeats) (text : List ℕ) → IsProvisionalText con view text → IsProvisionalText con (record view { past = past }) text
same-provisional con view past text is = (is.0, is.1, same-seats is.0 is.1 con view past is.2, is.3)

-- What a report shows is what it shows of the whole view: the two compute to the same, but for
-- quotients, which go by the rule, for provisional seats, which go by their
-- status, and for the report that shows the certificates.
pub report-whole : (which : Report) (con : Constituency) (view : View) (past : List PastSeats) (text : List ℕ) → HasPastIf (is_past which) past (Ok view) → IsReport con view which text → IsReport con (record view { past = past }) which text
report-whole report.Quotients con view past text has is = is ∙ same-quotients (rule_in con) con view past
report-whole report.Past con view past text has is = subst (λ (p : List PastSeats). IsReport con (record view { past = p }) report.Past text) has is
report-whole report.Provisional con view past text has is = same-provisional con view past text is
report-whole other con view past text has is = is

pub shown-bare : (setup : List Constituency) (old new : Option State) (con : List ℕ) (which : Report) (r : Result View Refusal) → is_past which ≡ false → IfOk r (λ view. view.past ≡ []) → AnswersShowCon setup old con r new → ShowsFor which setup old con r new
shown-bare setup old new con which (Ok view) past bare is = (is.0, is.1, subst (λ b. HasPastIf b is.0 (Ok view)) (sym past) bare)
shown-bare setup old new con which (Err why) past bare is = (is.0, is.1, tt)

-- nothing changed where a constituency was shown
pub kept-shown : (setup : List Constituency) (old new : Option State) (con : List ℕ) (r : Result View Refusal) → AnswersShowCon setup old con r new → IfOk r (λ _. new ≡ old)
kept-shown setup old new con (Ok view) is = shown-kept setup old new con (record view { past = is.0 }) is.1
kept-shown setup old new con (Err why) is = tt

-- what is shown for a report is enough for it, of whichever constituency
pub enough-for : ViewsAreLawful → (setup : List Constituency) (old new : Option State) (con : List ℕ) (which : Report) (r : Result View Refusal) → IsSetup setup → IfSome old (IsLawfulState setup) → ShowsFor which setup old con r new
    → IfOk r (λ view. (found : Constituency) → constituency_with con setup ≡ Some found → IsEnoughFor which found view)
enough-for law setup old new con which (Ok view) limits lawful is = λ found there needs.
    lawful-shown (is_past which) found view is.0 is.2 (shown-lawful law setup old new con (record view { past = is.0 }) found limits lawful there is.1)
enough-for law setup old new con which (Err why) limits lawful is = tt

-- ---- with certificates on record

-- nothing changed where a constituency was shown whole
pub kept-whole : (setup : List Constituency) (old new : Option State) (con : List ℕ) (r : Result View Refusal) → ShowsWhole setup old con r new → IfOk r (λ _. new ≡ old)
kept-whole setup old new con (Ok view) is = shown-kept setup old new con view is
kept-whole setup old new con (Err why) is = tt
