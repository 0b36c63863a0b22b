-- The reports of a constituency over HTTP: what is answered where one is asked for.
use Rattle.std.specs.Prelude.{◌≡◌, ℕ, List, Option, Some, None}
use Rattle.tally_setup.specs.Constituency.{Constituency}
use Rattle.tally_returns.specs.View.{View}
use Rattle.tally_report.specs.Reports.{IsReport, report_fault}
use Rattle.tally_report.specs.declared.fault.ReportFault.{ReportFault}
use Rattle.tally_report.specs.declared.fault.ReportFault.TheVariants as fault
use Rattle.tally_report_names.specs.declared.report.Report.{Report}
use Rattle.tally_desk_answer.specs.declared.status.AnswerStatus.TheVariants as status
use Rattle.tally_desk_answer.specs.declared.status.BodyType.TheVariants as body
use Rattle.tally_desk_answer.specs.declared.word.Word.TheVariants as word
use Rattle.tally_desk_answer.specs.Answer.{answer_text}
use Rattle.tally_desk_answer.specs.Words.{word_text}

-- the answer where there is such a fault, or else such a text
abbrev pub IsReportTextBy : Option ReportFault → (List ℕ → Type 0) → List ℕ → Type 0
IsReportTextBy (Some fault.NotCertified) IsText text = text ≡ word_text word.NotCertified
IsReportTextBy (Some fault.OtherMethod) IsText text = text ≡ word_text word.OtherMethod
IsReportTextBy (Some fault.Memory) IsText text = text ≡ word_text word.Unavailable
IsReportTextBy None IsText text =
    (shown : List ℕ) × IsText shown × (text ≡ answer_text status.Done body.Text shown)

-- what is answered where a report is asked for
abbrev pub IsReportText : Constituency → View → Report → List ℕ → Type 0
IsReportText con view which text =
    IsReportTextBy (report_fault con view which) (IsReport con view which) text
