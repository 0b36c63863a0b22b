-- A command line that is not carried out.
use Rattle.std.proofs.Common.{◌≡◌, ℕ, List, Option, Some, None, Result, Ok, Err, IfErr, refl, sym, subst, inl, inr, codes}
use Rattle.tally_office_trouble.specs.Reported.{IsReported}
use Rattle.tally_office_program.specs.Served.{IsServedText}
use Rattle.tally_office_trouble.specs.declared.trouble.Trouble.{Trouble}
use Rattle.tally_office_trouble.specs.declared.trouble.Trouble.TheVariants as trouble
use Rattle.tally_office_line.specs.Line.{AllotSeen, CheckSeen, ImportSeen, IsRefusal, LineSeen, NewSeen, RecountSeen, ServeSeen, ShowSeen, line_of}
use Rattle.tally_office_line.specs.declared.line.LineFault.{LineFault}
use Rattle.tally_office_line.specs.declared.line.LineFault.TheVariants.{NoCon}
use Rattle.tally_office_commands.specs.Offices.{AtPath, AtPort, Known}
use Rattle.tally_office_trouble.specs.Written.{Bytes, IsWritten}
use Rattle.tally_office_streams.specs.Line.{fault_status}
use Rattle.tally_office_streams.specs.Streams.{IsOutcomeReported, Streams, command_status, streams}
use Rattle.tally_office_streams.proofs.LineLemmas.{not-begun, not-refused, refused as refused-line}
use Rattle.tally_office_program.specs.Commands.{EndsCommand, NotListening, TakesCourse}
use Rattle.tally_office_program.specs.Perform.{Performs, PerformsLine}
use Rattle.tally_office_trouble.specs.Troubles.{IsTroubleOfServe}

-- out of memory, whatever the words ask for
pub without-memory : {K R W E : Type 0} (k : Known K) (left : Bytes R) (held : Bytes W) (reported : Bytes E) (words : List (List ℕ)) (line : Option LineSeen)
    (i : R) (o : W) (before after : E) → IsReported (reported before) (reported after) (codes "failed: memory\n")
    → PerformsLine k left held reported words line (record { input = i; output = o; errors = before }) (record { input = i; output = o; errors = after }) 3
without-memory k left held reported words (Some (CheckSeen sep rows)) i o before after so = inr (not-begun reported i o before after so)
without-memory k left held reported words (Some (AllotSeen w)) i o before after so = inr (not-begun reported i o before after so)
without-memory k left held reported words (Some (RecountSeen setup con w)) i o before after so = inr (not-begun reported i o before after so)
without-memory k left held reported words (Some (NewSeen db setup)) i o before after so = record {
  outcome = Err trouble.Memory;
  named = (inl (inl (inl refl)), inl (inl (inl refl)));
  written = refl;
  errors = so;
  gives = refl;
  unread = refl;
}
without-memory k left held reported words (Some (ImportSeen db con csv sep rows)) i o before after so = inr (not-begun reported i o before after so)
without-memory k left held reported words (Some (ShowSeen db name con)) i o before after so = inr (not-begun reported i o before after so)
without-memory k left held reported words (Some (ServeSeen db port count)) i o before after so = record {
  outcome = Err trouble.Memory;
  named = inr (inl (inl refl));
  written = refl;
  said = before;
  takes = record { course = NotListening trouble.Memory; is = refl; named = inr (inl refl); says = refl };
  errors = so;
  gives = refl;
  unread = refl;
}
without-memory k left held reported words None i o before after so = not-refused reported words i o before after so

-- words for which there is no line, and what is reported of them
pub refused : {K R W E : Type 0} (k : Known K) (left : Bytes R) (held : Bytes W) (reported : Bytes E) (words : List (List ℕ)) (fault : LineFault)
    (i : R) (o : W) (before after : E) (status : ℕ) → IsRefusal words fault → status ≡ fault_status fault
    → (status ≡ 3 → IsReported (reported before) (reported after) (codes "failed: memory\n"))
    → (fault ≡ NoCon → IsReported (reported before) (reported after) (codes "missing --con\n"))
    → Performs k left held reported words (streams i o before) (streams i o after) status
refused k left held reported words fault i o before after status =
    refused-line reported words fault i o before after status (λ line n. PerformsLine k left held reported words line (streams i o before) (streams i o after) n)
    (λ line so. without-memory k left held reported words line i o before after so) (λ refuses. refuses)

-- words that ask for a server, and what it said, wrote and reported
pub serves : {K R W E : Type 0} (k : Known K) (left : Bytes R) (held : Bytes W) (reported : Bytes E) (words : List (List ℕ)) (db : List ℕ) (port count : ℕ)
    (i : R) (o written : W) (before said after : E) (outcome : Result (Unit {0}) Trouble) (status : ℕ) → line_of words ≡ Some (ServeSeen db port count)
    → IfErr outcome IsTroubleOfServe → IsWritten held (IsServedText count) o written outcome → TakesCourse (k.Opens (AtPath db)) (k.Opens (AtPort port)) reported port count before said outcome
    → IsOutcomeReported reported said after outcome → status ≡ command_status outcome
    → Performs k left held reported words (record { input = i; output = o; errors = before }) (record { input = i; output = written; errors = after }) status
serves k left held reported words db port count i o written before said after outcome status is named writes takes reports gives =
    subst (λ (l : Option LineSeen). PerformsLine k left held reported words l (record { input = i; output = o; errors = before }) (record { input = i; output = written; errors = after }) status)
    (sym is) (record { outcome = outcome; named = named; written = writes; said = said; takes = takes; errors = reports; gives = gives; unread = refl })

-- words that ask for a command over an office, and what it wrote and reported
pub commands : {K R W E : Type 0} (k : Known K) (left : Bytes R) (held : Bytes W) (reported : Bytes E) (words : List (List ℕ)) (line : LineSeen)
    (old new : Streams R W E) (status : ℕ) → line_of words ≡ Some line → PerformsLine k left held reported words (Some line) old new status
    → Performs k left held reported words old new status
commands k left held reported words line old new status is says =
    subst (λ (l : Option LineSeen). PerformsLine k left held reported words l old new status) (sym is) says

-- which trouble a command had, and why it was not done
both : (Named Why : Trouble → Type 0) (outcome : Result (Unit {0}) Trouble) → IfErr outcome Named → IfErr outcome Why → IfErr outcome (λ t. Named t × Why t)
both Named Why (Ok done) named why = tt
both Named Why (Err t) named why = (named, why)

-- a command over an office that was opened at a path, which reads nothing
pub ends-command : {R W E : Type 0} (held : Bytes W) (reported : Bytes E) (IsText : List ℕ → Type 0) (Named Why : Trouble → Type 0) (i : R) (o written : W) (before after : E)
    (outcome : Result (Unit {0}) Trouble) (status : ℕ) → IsWritten held IsText o written outcome → IfErr outcome Named → IfErr outcome Why
    → IsOutcomeReported reported before after outcome → status ≡ command_status outcome
    → EndsCommand held reported IsText (λ t. Named t × Why t) (streams i o before) (streams i written after) status
ends-command held reported IsText Named Why i o written before after outcome status writes named why reports gives =
    record { outcome = outcome; named = both Named Why outcome named why; written = writes; errors = reports; gives = gives; unread = refl }
