-- A command line that is not carried out.
use Rattle.std.proofs.Common.{◌≡◌, ℕ, List, Option, Some, None, refl, sym, subst, inl, inr, codes}
use Rattle.tally_office_trouble.specs.Reported.{IsReported}
use Rattle.tally_office_trouble.specs.Written.{Bytes}
use Rattle.tally_office_line.specs.Line.{AllotSeen, CheckSeen, ImportSeen, IsRefusal, LineSeen, NewSeen, RecountSeen, ServeSeen, ShowSeen, line_of}
use Rattle.tally_office_line.specs.declared.line.LineFault.{LineFault}
use Rattle.tally_office_line.specs.declared.line.LineFault.TheVariants.{Usage, NoCon, Memory}
use Rattle.tally_office_line.proofs.CommandLemmas.{lacks_con_alone}
use Rattle.tally_office_streams.specs.Line.{PerformsStreams, PerformsStreamsLine, RefusesLine, fault_status}
use Rattle.tally_office_streams.specs.Streams.{HasNotBegun, streams}

-- out of memory, before anything was read or written
pub not-begun : {R W E : Type 0} (reported : Bytes E) (i : R) (o : W) (before after : E) → IsReported (reported before) (reported after) (codes "failed: memory\n")
    → HasNotBegun reported (streams i o before) (streams i o after) 3
not-begun reported i o before after so = (record { input = refl; output = refl }, record { report = so; gives = refl })

-- the same of words that ask for nothing that can be done
pub not-refused : {R W E : Type 0} (reported : Bytes E) (words : List (List ℕ)) (i : R) (o : W) (before after : E) → IsReported (reported before) (reported after) (codes "failed: memory\n")
    → RefusesLine reported words (streams i o before) (streams i o after) 3
not-refused reported words i o before after so = record {
  untouched = record { input = refl; output = refl };
  refused = inr (record { report = so; gives = refl });
  no_con = λ lacks. inr (record { report = so; gives = refl });
}

-- Words for which there is no line, and what is reported of them, by what is said of each line
-- where it is out of memory, and of none.
pub refused : {R W E : Type 0} (reported : Bytes E) (words : List (List ℕ)) (fault : LineFault) (i : R) (o : W) (before after : E) (status : ℕ) (Says : Option LineSeen → ℕ → Type 0)
    → ((line : Option LineSeen) → IsReported (reported before) (reported after) (codes "failed: memory\n") → Says line 3)
    → (RefusesLine reported words (streams i o before) (streams i o after) status → Says None status)
    → IsRefusal words fault → status ≡ fault_status fault
    → (status ≡ 3 → IsReported (reported before) (reported after) (codes "failed: memory\n"))
    → (fault ≡ NoCon → IsReported (reported before) (reported after) (codes "missing --con\n"))
    → Says (line_of words) status
refused reported words Memory i o before after status Says memory none is gives out con =
    subst (λ (n : ℕ). Says (line_of words) n) (sym gives) (memory (line_of words) (out gives))
refused reported words NoCon i o before after status Says memory none is gives out con =
    subst (λ (l : Option LineSeen). Says l status) (sym is.0) (none (record {
      untouched = record { input = refl; output = refl };
      refused = inl gives;
      no_con = λ lacks. inl (record { report = con refl; gives = gives });
    }))
refused reported words (Usage e) i o before after status Says memory none is gives out con =
    subst (λ (l : Option LineSeen). Says l status) (sym is.0) (none (record {
      untouched = record { input = refl; output = refl };
      refused = inl gives;
      no_con = λ lacks. elim (lacks_con_alone words (Usage e) lacks is) [
        | inl other ↦ cc
        | inr other ↦ cc
      ];
    }))

-- out of memory, whatever the words ask for, in a program that has no office
without-memory : {R W E : Type 0} (Gives : List ℕ → Option (List ℕ) → Type 0) (left : Bytes R) (held : Bytes W) (reported : Bytes E) (words : List (List ℕ)) (i : R) (o : W) (before after : E) (line : Option LineSeen)
    → IsReported (reported before) (reported after) (codes "failed: memory\n")
    → PerformsStreamsLine Gives left held reported words line (streams i o before) (streams i o after) 3
without-memory Gives left held reported words i o before after (Some (CheckSeen sep rows)) so = inr (not-begun reported i o before after so)
without-memory Gives left held reported words i o before after (Some (AllotSeen w)) so = inr (not-begun reported i o before after so)
without-memory Gives left held reported words i o before after (Some (RecountSeen setup con w)) so = inr (not-begun reported i o before after so)
without-memory Gives left held reported words i o before after (Some (NewSeen db setup)) so = inr (not-begun reported i o before after so)
without-memory Gives left held reported words i o before after (Some (ImportSeen db con csv sep rows)) so = inr (not-begun reported i o before after so)
without-memory Gives left held reported words i o before after (Some (ShowSeen db name con)) so = inr (not-begun reported i o before after so)
without-memory Gives left held reported words i o before after (Some (ServeSeen db port count)) so = inr (not-begun reported i o before after so)
without-memory Gives left held reported words i o before after None so = not-refused reported words i o before after so

pub refused-streams : {R W E : Type 0} (Gives : List ℕ → Option (List ℕ) → Type 0) (left : Bytes R) (held : Bytes W) (reported : Bytes E) (words : List (List ℕ)) (fault : LineFault) (i : R) (o : W) (before after : E) (status : ℕ)
    → IsRefusal words fault → status ≡ fault_status fault
    → (status ≡ 3 → IsReported (reported before) (reported after) (codes "failed: memory\n"))
    → (fault ≡ NoCon → IsReported (reported before) (reported after) (codes "missing --con\n"))
    → PerformsStreams Gives left held reported words (streams i o before) (streams i o after) status
refused-streams Gives left held reported words fault i o before after status =
    refused reported words fault i o before after status (λ line n. PerformsStreamsLine Gives left held reported words line (streams i o before) (streams i o after) n)
    (λ line so. without-memory Gives left held reported words i o before after line so) (λ refuses. refuses)
