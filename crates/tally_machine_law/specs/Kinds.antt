-- The kind of answer that a command is given, whatever the state.
use Rattle.std.specs.Prelude.{◌≡◌, List, Some}
use Rattle.tally_setup.specs.Constituency.{Constituency}
use Rattle.tally_setup.specs.Setup.{constituency_with}
use Rattle.tally_returns.specs.View.{FitsView}
use Rattle.tally_returns.specs.declared.ask.Ask.{Ask}
use Rattle.tally_returns.specs.declared.ask.Ask.TheVariants.{Lodge, Query, Correct, Close}
use Rattle.tally_returns.specs.declared.ask.Ask.TheVariants.{Confirm, ShowReturn, Draw, Certify}
use Rattle.tally_returns.specs.declared.ask.Ask.TheVariants.{Reopen, Vacate, ShowCon, ShowProgress}
use Rattle.tally_returns.specs.declared.reply.Reply.{Reply}
use Rattle.tally_machine_law.specs.Step.{Answer, answer_seen, con_shown, edition_now, lodged, moved}
use Rattle.tally_machine_law.specs.Step.{progress_shown, return_shown, same, vacated}

-- An accepted command is answered so. A view that is shown fits the constituency that was named.
abbrev pub IsAnswerTo : List Constituency → Ask → Answer → Type 0
IsAnswerTo setup (Lodge station slip counts) (lodged rev) = Unit {0}
IsAnswerTo setup (Lodge station slip counts) (same rev) = Unit {0}
IsAnswerTo setup (Query station rev note) (moved next) = Unit {0}
IsAnswerTo setup (Correct station rev slip counts) (moved next) = Unit {0}
IsAnswerTo setup (Close station rev) (moved next) = Unit {0}
IsAnswerTo setup (Confirm station rev slip counts) (moved next) = Unit {0}
IsAnswerTo setup (ShowReturn station) (return_shown standing) = Unit {0}
IsAnswerTo setup (Draw con edition order) (edition_now next) = Unit {0}
IsAnswerTo setup (Certify con edition) (edition_now next) = Unit {0}
IsAnswerTo setup (Reopen con edition note) (edition_now next) = Unit {0}
IsAnswerTo setup (Vacate con list place note) (vacated next) = Unit {0}
IsAnswerTo setup (ShowCon code) (con_shown view) =
    (con : Constituency) × (constituency_with code setup ≡ Some con) × FitsView con view
IsAnswerTo setup ShowProgress (progress_shown rows) = Unit {0}
IsAnswerTo setup ask other = ⊥

-- the same of a reply
abbrev pub IsReplyTo : List Constituency → Ask → Reply → Type 0
IsReplyTo setup ask reply = IsAnswerTo setup ask (answer_seen reply)
