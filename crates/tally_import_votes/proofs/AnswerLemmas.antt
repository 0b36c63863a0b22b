-- What is answered, by what was found.
use Rattle.std.proofs.Common.{◌≡◌, ◌++◌, ◌∙◌, ℕ, Bool, true, false, List, Option, Some, None, Result, Ok, Err, refl, ap, append_assoc, inl, inr}
use Rattle.std.specs.Prelude.{◌⊎◌, ◌+◌, IfSome, OnOk, String, if◌then◌else◌, nat_le, sum}
use Rattle.std.specs.Io.KnownBytes.{Keeps}
use Rattle.std.specs.declared.alloc.Global.{Global}
use Rattle.tally_frac.specs.Limits.{most_votes}
use Rattle.tally_import_records.specs.Input.{GaveWithin, complete_records}
use Rattle.tally_import_records.specs.Watch.{NotesStop}
use Rattle.tally_import_records.specs.declared.end.Stop.{Stop}
use Rattle.tally_import_records.specs.declared.end.Stop.TheVariants as stopped
use Rattle.tally_import_votes.specs.Allots.{Allots, Found, question_of, question_result, text_limit, unless_too_many}
use Rattle.tally_import_votes.specs.Troubles.{IsTroubleOf}
use Rattle.tally_import_votes.specs.Votes.{VotesRead, votes_read}
use Rattle.tally_import_options.specs.Wanted.{Wanted}
use Rattle.tally_import_votes.specs.declared.fault.AllotTrouble.{AllotTrouble}
use Rattle.tally_import_votes.specs.declared.fault.AllotTrouble.TheVariants as trouble
use Rattle.tally_import_votes.specs.declared.fault.VotesFault.{VotesFault}
use Rattle.tally_import_votes.specs.declared.fault.VotesFault.TheVariants as fault
use Rattle.tally_import_votes.specs.internal.Reading.{FindsText, FindsTextOf, IsFoundTrouble, IsOfReading}
use Rattle.tally_import_votes.proofs.RowsLemmas.{votes-end, votes-failed}
use Rattle.tally_report_allotment.specs.Question.{Question}

-- what is appended after what was appended before
pub append-on : {T E : Type 0} (r : Result T E) (old mid new first more : List ℕ) → mid ≡ old ++ first → OnOk r (new ≡ mid ++ more) → OnOk r (new ≡ old ++ (first ++ more))
append-on (Ok x) old mid new first more is added = added ∙ ap (λ l. l ++ more) is ∙ append_assoc old first more
append-on (Err e) old mid new first more is added = tt

pub IfSome-then : (o : Option (List ℕ)) (P Q : List ℕ → Type 0) → IfSome o P → ((text : List ℕ) → P text → Q text) → IfSome o Q
IfSome-then None P Q p more = tt
IfSome-then (Some text) P Q p more = more text p

-- ---- what was asked

-- a failed read is found only where one stopped the text
asked-failed : (w : Wanted) (bytes : List ℕ) (stop : Option Stop) → question_result w bytes stop ≡ Err fault.Read → stop ≡ Some stopped.Read
asked-failed w bytes stop is = go (votes_read (complete_records w.sep bytes stop) stop) refl is
  where
    many : (b : Bool) (q : Question) → ◌≡◌ {A = Result Question VotesFault} (if b then Ok q else Err fault.TooManyVotes) (Err fault.Read) → stop ≡ Some stopped.Read
    many true q same = cc
    many false q same = cc

    go : (r : Result VotesRead VotesFault) → votes_read (complete_records w.sep bytes stop) stop ≡ r → unless_too_many w r ≡ Err fault.Read → stop ≡ Some stopped.Read
    go (Ok v) e same = many (nat_le (sum v.votes + w.blank) most_votes) (question_of w v) same
    go (Err f) e same = votes-failed (complete_records w.sep bytes stop) stop (e ∙ ap Err (let it : f ≡ fault.Read = cc in it))

-- votes are found only where nothing stopped it
pub asked-end : (w : Wanted) (bytes : List ℕ) (stop : Option Stop) (q : Question) → question_result w bytes stop ≡ Ok q → stop ≡ None
asked-end w bytes stop q is = go (votes_read (complete_records w.sep bytes stop) stop) refl is
  where
    go : (r : Result VotesRead VotesFault) → votes_read (complete_records w.sep bytes stop) stop ≡ r → unless_too_many w r ≡ Ok q → stop ≡ None
    go (Ok v) e same = votes-end (complete_records w.sep bytes stop) stop v e
    go (Err f) e same = cc

-- ---- what the watch notes

pub notes-fault : (w : Wanted) (bytes : List ℕ) (stop : Option Stop) (f : VotesFault) → (f ≡ fault.Memory) ⊎ (question_result w bytes stop ≡ Err f)
    → (before failed : Bool) → NotesStop stop before failed → IsOfReading (trouble.Votes f) failed
notes-fault w bytes stop fault.BadHeader found before failed notes = tt
notes-fault w bytes stop (fault.BadRow n cause) found before failed notes = tt
notes-fault w bytes stop fault.TooManyLists found before failed notes = tt
notes-fault w bytes stop fault.TooLong found before failed notes = tt
notes-fault w bytes stop fault.Read (inl memory) before failed notes = absurd (let never : fault.Read ≡ fault.Memory = memory in cc)
notes-fault w bytes stop fault.Read (inr found) before failed notes = go stop (asked-failed w bytes stop found) notes
  where
    go : (s : Option Stop) → s ≡ Some stopped.Read → NotesStop s before failed → failed ≡ true
    go (Some stopped.Read) is noted = noted
    go (Some stopped.TooLong) is noted = cc
    go None is noted = cc
notes-fault w bytes stop fault.NoList found before failed notes = tt
notes-fault w bytes stop fault.TooManyVotes found before failed notes = tt
notes-fault w bytes stop fault.Memory found before failed notes = tt

pub notes-end : (stop : Option Stop) (before failed : Bool) → stop ≡ None → NotesStop stop before failed → failed ≡ before
notes-end None before failed is notes = notes
notes-end (Some stop) before failed is notes = cc

pub notes-trouble : (q : Question) (t : AllotTrouble) (failed : Bool) → IsTroubleOf q t → IsOfReading t failed
notes-trouble q (trouble.Votes f) failed is = absurd is
notes-trouble q trouble.NoEligible failed is = tt
notes-trouble q (trouble.LotMissing seats lists) failed is = tt
notes-trouble q trouble.WrongLot failed is = tt
notes-trouble q trouble.Memory failed is = tt
notes-trouble q trouble.Write failed is = absurd is

-- ---- what is found

pub found-trouble : (q : Question) (t : AllotTrouble) (found : Result Question VotesFault) → found ≡ Ok q → IsTroubleOf q t → IsFoundTrouble t found
found-trouble q (trouble.Votes f) found is of = absurd of
found-trouble q trouble.NoEligible found is of = (q, is, of)
found-trouble q (trouble.LotMissing seats lists) found is of = (q, is, of)
found-trouble q trouble.WrongLot found is of = (q, is, of)
found-trouble q trouble.Memory found is of = tt
found-trouble q trouble.Write found is of = absurd of

pub finds : (w : Wanted) (text : List ℕ) (left : Option (List ℕ)) (bytes : List ℕ) (stop : Option Stop) (r : Result (String Global) AllotTrouble)
    → GaveWithin text_limit text left bytes stop → FindsTextOf w bytes stop r → FindsText w text left r
finds w text left bytes stop (Ok it) gave found = (bytes, stop, gave, found)
finds w text left bytes stop (Err (trouble.Votes f)) gave found = (bytes, stop, gave, found)
finds w text left bytes stop (Err trouble.NoEligible) gave found = (bytes, stop, gave, found)
finds w text left bytes stop (Err (trouble.LotMissing seats lists)) gave found = (bytes, stop, gave, found)
finds w text left bytes stop (Err trouble.WrongLot) gave found = (bytes, stop, gave, found)
finds w text left bytes stop (Err trouble.Memory) gave found = tt
finds w text left bytes stop (Err trouble.Write) gave found = absurd found

-- ---- what is answered

Keeps-same : (known : Option (List ℕ)) → Keeps known known
Keeps-same None = tt
Keeps-same (Some bytes) = refl

found-fault : (w : Wanted) (text : List ℕ) (left : Option (List ℕ)) (f : VotesFault) → (f ≡ fault.Memory → ⊥)
    → Found w text left (λ found. (f ≡ fault.Memory) ⊎ (found ≡ Err f)) → Found w text left (λ found. found ≡ Err f)
found-fault w text left f other found = (found.0, found.1, found.2, go found.3)
  where
    go : (f ≡ fault.Memory) ⊎ (question_result w found.0 found.1 ≡ Err f) → question_result w found.0 found.1 ≡ Err f
    go (inl memory) = absurd (other memory)
    go (inr is) = is

pub allots-trouble : (w : Wanted) (text : List ℕ) (left writer : Option (List ℕ)) (t : AllotTrouble) → FindsText w text left (Err t) → Allots w text left writer writer (Err t)
allots-trouble w text left writer (trouble.Votes fault.Memory) found = Keeps-same writer
allots-trouble w text left writer (trouble.Votes fault.BadHeader) found = (found-fault w text left fault.BadHeader (λ e. cc) found, Keeps-same writer)
allots-trouble w text left writer (trouble.Votes (fault.BadRow n cause)) found = (found-fault w text left (fault.BadRow n cause) (λ e. cc) found, Keeps-same writer)
allots-trouble w text left writer (trouble.Votes fault.TooManyLists) found = (found-fault w text left fault.TooManyLists (λ e. cc) found, Keeps-same writer)
allots-trouble w text left writer (trouble.Votes fault.TooLong) found = (found-fault w text left fault.TooLong (λ e. cc) found, Keeps-same writer)
allots-trouble w text left writer (trouble.Votes fault.Read) found = (found-fault w text left fault.Read (λ e. cc) found, Keeps-same writer)
allots-trouble w text left writer (trouble.Votes fault.NoList) found = (found-fault w text left fault.NoList (λ e. cc) found, Keeps-same writer)
allots-trouble w text left writer (trouble.Votes fault.TooManyVotes) found = (found-fault w text left fault.TooManyVotes (λ e. cc) found, Keeps-same writer)
allots-trouble w text left writer trouble.NoEligible found = (found, Keeps-same writer)
allots-trouble w text left writer (trouble.LotMissing seats lists) found = (found, Keeps-same writer)
allots-trouble w text left writer trouble.WrongLot found = (found, Keeps-same writer)
allots-trouble w text left writer trouble.Memory found = Keeps-same writer
allots-trouble w text left writer trouble.Write found = absurd found.3
