-- A Lodge, as a step and as a row of an import.
use Rattle.std.proofs.Common.{◌≡◌, ◌∙◌, ℕ, List, Some, Result, Ok, inl, refl, sym, ap, subst, true}
use Rattle.sqlite.specs.State.{State as Seen}
use Rattle.tally_setup.specs.Code.{is_code}
use Rattle.tally_setup.specs.Constituency.{Constituency}
use Rattle.tally_setup.specs.Limits.{IsSetup}
use Rattle.tally_returns.specs.Counts.{VoteCounts}
use Rattle.tally_returns.specs.Reply.{as_reply}
use Rattle.tally_returns.specs.State.{State, stations_of}
use Rattle.tally_returns.specs.declared.ask.Ask.{Ask}
use Rattle.tally_returns.specs.declared.ask.Ask.TheVariants.{Lodge}
use Rattle.tally_returns.specs.declared.refusal.Refusal.{Refusal}
use Rattle.tally_returns.specs.declared.reply.LodgeReply.{LodgeReply}
use Rattle.tally_returns.specs.declared.reply.LodgeReply.TheVariants.{Lodged, Same}
use Rattle.tally_returns.specs.declared.reply.Reply.{Reply}
use Rattle.tally_machine_law.specs.LawfulState.{IsLawfulState}
use Rattle.tally_machine_law.specs.Step.{lodge_reply, reply_seen}
use Rattle.tally_machine_law.proofs.ReturnStepLemmas.{return-step-lawful}
use Rattle.tally_keeper.proofs.HeldLemmas.{lodge-step}
use Rattle.tally_returns_rows.specs.Import.{IsCodedRow, after_row}
use Rattle.tally_returns_rows.specs.declared.import.Row.{Row}
use Rattle.tally_returns_rows.specs.declared.import.Row.TheVariants as row
use Rattle.tally_store_commands.specs.internal.Requests.{IsCarriedOut}
use Rattle.tally_store_commands.specs.internal.Lodging.{IsLodged, IsRowTaken}

pub seen-reply : (reply : LodgeReply) → reply_seen (Ok (as_reply reply)) ≡ lodge_reply (Ok reply)
seen-reply (Lodged rev) = refl
seen-reply (Same rev) = refl

-- what was lodged is carried out
pub lodged-carried : (setup : List Constituency) (text : List ℕ) (s : State) (station slip : List ℕ) (counts : VoteCounts) (r : Result LodgeReply Refusal) (a : Result Reply Refusal) (new : Seen)
    → reply_seen a ≡ lodge_reply r → IsLodged setup text s station slip counts r new → IsCarriedOut setup text s (Lodge station slip counts) a new
lodged-carried setup text s station slip counts r a new shown done = record {
  state = record s { returns = _ };
  answered = inl (shown ∙ ap lodge_reply done.answered, sym (lodge-step setup s station slip counts));
  in_state = done.in_state;
}

-- and so of a row
pub lodged-taken : (setup : List Constituency) (text : List ℕ) (s : State) (ask : Ask) (station slip : List ℕ) (counts : VoteCounts) (r : Result LodgeReply Refusal) (new : Seen)
    → ask ≡ Lodge station slip counts → IsLodged setup text s station slip counts r new → IsRowTaken setup text s (row.Lodge ask) (Some r) new
lodged-taken setup text s ask station slip counts r new is done = subst (λ a. IsRowTaken setup text s (row.Lodge a) (Some r) new) (sym is) (record {
  answered = ap Some (sym done.answered);
  in_state = done.in_state;
})

-- the state stays lawful
pub row-lawful : (setup : List Constituency) (s : State) (r : Row) → IsCodedRow r → IsSetup setup → IsLawfulState setup s → IsLawfulState setup (record s { returns = after_row (stations_of setup) s.returns r })
row-lawful setup s (row.Lodge (Lodge station slip counts)) code limits lawful =
    subst (IsLawfulState setup) (lodge-step setup s station slip counts)
    (return-step-lawful setup s (Lodge station slip counts) (λ its same. let e : slip ≡ its = cc in subst (λ text. is_code text ≡ true) e code) limits lawful)
row-lawful setup s other code limits lawful = lawful
