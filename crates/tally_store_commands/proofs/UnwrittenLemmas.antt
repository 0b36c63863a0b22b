-- Requests and imports that write nothing.
use Rattle.std.proofs.Common.{◌≡◌, ◌+◌, ◌∙◌, ℕ, Bool, true, false, Some, Result, Ok, Err, refl, sym, ap, subst, arith}
use Rattle.std.specs.Prelude.{if◌then◌else◌}
use Rattle.std.proofs.lemmas.Result.{IfOk-weaker}
use Rattle.sqlite.proofs.Callers.{unchanged_then}
use Rattle.sqlite.specs.State.{State as Seen, HasCleanDisk, IsUnchanged}
use Rattle.sqlite.specs.declared.error.Error.{Error}
use Rattle.tally_returns.specs.declared.refusal.Refusal.{Refusal}
use Rattle.tally_returns.specs.declared.reply.LodgeReply.{LodgeReply}
use Rattle.tally_returns.specs.declared.reply.LodgeReply.TheVariants.{Lodged, Same}
use Rattle.tally_returns.specs.declared.reply.Reply.{Reply}
use Rattle.tally_machine_law.specs.Runs.{is_act}
use Rattle.tally_keeper.specs.Events.{as_answer}
use Rattle.tally_returns_rows.specs.Import.{RowAnswer, count_with_row, is_lodged}
use Rattle.tally_returns_rows.specs.declared.import.ImportCount.{ImportCount}
use Rattle.tally_store_schema.specs.Office.{IsInside}
use Rattle.tally_store_entries.proofs.FindLemmas.{inside_still}
use Rattle.tally_store_commands.specs.internal.Requests.{WritesOnlyActs}

-- what was done after a call that only reads
pub unwritten-then : (old mid new : Seen) (r : Result (Result Reply Refusal) Error) → (HasCleanDisk new → HasCleanDisk mid) → (HasCleanDisk mid → IsInside old → IsUnchanged old mid) → WritesOnlyActs mid new r → WritesOnlyActs old new r
unwritten-then old mid new r early reads ensured clean at =
    let same = reads (early clean) at.0 in
    IfOk-weaker r _ _ (λ a writes none. unchanged_then old mid new same (writes none)) (ensured clean (inside_still old mid same at.0, same.0.is_open))

-- a row that was not lodged did not act
pub row-acts : (r : Result LodgeReply Refusal) → is_lodged (Some r) ≡ false → is_act (as_answer r) ≡ false
row-acts (Ok (Lodged rev)) is = cc
row-acts (Ok (Same rev)) is = refl
row-acts (Err refusal) is = refl

-- where none of the rows was lodged, neither was the last one, nor one of those before it
pub none-lodged : (count more : ImportCount) (row : ℕ) (answer : RowAnswer) → more ≡ count_with_row count row answer → more.lodged ≡ 0 → (count.lodged ≡ 0) × (is_lodged answer ≡ false)
none-lodged count more row answer is none = go (is_lodged answer) refl (sym (ap (λ (c : ImportCount). c.lodged) is) ∙ none)
  where
    go : (b : Bool) → is_lodged answer ≡ b → count.lodged + (if is_lodged answer then 1 else 0) ≡ 0 → (count.lodged ≡ 0) × (is_lodged answer ≡ false)
    go true at sum =
        let more : count.lodged + 1 ≡ 0 = subst (λ b. count.lodged + (if b then 1 else 0) ≡ 0) at sum in absurd (omega (arith, more))
    go false at sum =
        let more : count.lodged + 0 ≡ 0 = subst (λ b. count.lodged + (if b then 1 else 0) ≡ 0) at sum in (omega (arith, more), at)
