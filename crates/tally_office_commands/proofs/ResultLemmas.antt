-- Results as lines.
use Rattle.std.proofs.Common.{◌≡◌, ◌∙◌, ◌++◌, ℕ, List, Option, Some, Result, Ok, Err, IfOk, String, Global, string_bytes, codes, sym, subst, inl, inr}
use Rattle.std.specs.List.{AllZip}
use Rattle.tally_setup.specs.Constituency.{Constituency}
use Rattle.tally_setup.specs.Setup.{constituency_with}
use Rattle.tally_machine_law.specs.Outcome.{IsLawfulView}
use Rattle.tally_returns.specs.State.{State}
use Rattle.tally_returns.specs.View.{View}
use Rattle.tally_returns.specs.declared.ask.Ask.TheVariants.{ShowCon}
use Rattle.tally_returns.specs.declared.refusal.Refusal.{Refusal}
use Rattle.tally_returns.specs.declared.refusal.Refusal.TheVariants.{Memory, Store}
use Rattle.tally_machine_law.specs.Step.{IsNotAccepted}
use Rattle.tally_keeper.specs.Keeper.{Happens, request}
use Rattle.tally_report_result.specs.Result.{AreResultsText, IsResultText}
use Rattle.tally_office_commands.specs.Results.{IsLineOf, IsResultTrouble}
use Rattle.tally_office_commands.specs.internal.Withheld.{OfCon, refusal_trouble}
use Rattle.tally_office_trouble.specs.declared.trouble.Trouble.{Trouble}
use Rattle.tally_office_commands.proofs.ShowLemmas.{con-refused}

-- the line of what was shown of the constituency of a code
pub as-line : (setup : List Constituency) (code : List ℕ) (con : Constituency) (view : View) (r : Result (String Global) Trouble) (shown : List ℕ) → constituency_with code setup ≡ Some con
    → (IsLawfulView con view → IsResultText con view shown) → IfOk r (λ line. string_bytes line ≡ shown ++ codes "\n")
    → IfOk r (λ line. OfCon setup code (λ con. IsLawfulView con view → IsLineOf (IsResultText con view) (string_bytes line)))
as-line setup code con view (Ok line) shown found has is = λ other there lawful.
    let both : Some con ≡ Some other = sym found ∙ there in
    let same : con ≡ other = cc in
    subst (λ (c : Constituency). IsLineOf (IsResultText c view) (string_bytes line)) same
    (shown, has (subst (λ (c : Constituency). IsLawfulView c view) (sym same) lawful), is)
as-line setup code con view (Err why) shown found has is = tt

pub as-lines : (setup : List Constituency) (views : List View) (r : Result (String Global) Trouble) (shown : List ℕ) → (AllZip IsLawfulView setup views → AreResultsText setup views shown)
    → IfOk r (λ line. string_bytes line ≡ shown ++ codes "\n") → IfOk r (λ line. AllZip IsLawfulView setup views → IsLineOf (AreResultsText setup views) (string_bytes line))
as-lines setup views (Ok line) shown has is = λ lawful. (shown, has lawful, is)
as-lines setup views (Err why) shown has is = tt

-- a constituency that the setup has is refused only where it is out of memory, or a database failed
pub result-trouble : (setup : List Constituency) (old new : Option State) (code : List ℕ) (found : Constituency) (why : Refusal)
    → constituency_with code setup ≡ Some found → Happens setup old (request (ShowCon code) (Err why)) new → IsResultTrouble setup old code (refusal_trouble why) new
result-trouble setup old new code found why is happens = go (con-refused setup old new code found why is happens)
  where
    by : (other : Refusal) → why ≡ other → (Happens setup old (request (ShowCon code) (Err other)) new → IsResultTrouble setup old code (refusal_trouble other) new)
        → IsResultTrouble setup old code (refusal_trouble why) new
    by other e ensured =
        subst (λ (w : Refusal). IsResultTrouble setup old code (refusal_trouble w) new) (sym e)
        (ensured (subst (λ (w : Refusal). Happens setup old (request (ShowCon code) (Err w)) new) e happens))

    go : IsNotAccepted (Err why) → IsResultTrouble setup old code (refusal_trouble why) new
    go (inl e) = let same : why ≡ Memory = cc in by Memory same (λ h. h)
    go (inr e) = let same : why ≡ Store = cc in by Store same (λ h. h)
