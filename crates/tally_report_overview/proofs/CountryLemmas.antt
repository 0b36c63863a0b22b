-- All constituencies are shown one by one, in one state.
use Rattle.std.proofs.Common.{◌≡◌, ◌⊎◌, ◌∙◌, ◌++◌, ◌+◌, ◌<◌, ◌≤◌, ℕ, zero, suc, List, [], ◌∷◌, length, take, get_or, Option, Some, None, Result, Ok, Err, refl, sym, ap, subst, inl, inr, arith}
use Rattle.std.specs.List.{AllZip}
use Rattle.std.proofs.lemmas.List.{length-map, take_all}
use Rattle.std.proofs.lemmas.Slice.Zip.{all_zipped_more}
use Rattle.tally_setup.specs.Constituency.{Constituency}
use Rattle.tally_setup.specs.Limits.{IsSetup}
use Rattle.tally_setup.specs.Setup.{constituency_codes, constituency_with}
use Rattle.tally_setup.proofs.NamedLemmas.{Has, con-only}
use Rattle.tally_returns.specs.State.{State}
use Rattle.tally_returns.specs.View.{FitsView, View}
use Rattle.tally_returns.specs.declared.ask.Ask.TheVariants.{ShowCon}
use Rattle.tally_returns.specs.declared.refusal.Refusal.{Refusal}
use Rattle.tally_returns.specs.declared.refusal.Refusal.TheVariants.{Memory, Store}
use Rattle.tally_machine_law.specs.Outcome.{IsLawfulView}
use Rattle.tally_machine_law.specs.Step.{IsConStepSeen, IsNotAccepted, con_answer, no_change}
use Rattle.tally_keeper.specs.Keeper.{Happens, request}
use Rattle.tally_keeper.specs.Shown.{AnswersShowCon}
use Rattle.tally_report_overview.specs.Views.{IsUnshown, ShowsAll, ShowsAllWhole, ShowsWhole}

-- ---- the constituency at a place

-- the constituency whose code is at a place
abbrev pub At : List Constituency → ℕ → List ℕ → Type 0
At cons i code = (con : Constituency) × Has con cons × (code ≡ con.code) × (take (i + 1) cons ≡ take i cons ++ con ∷ [])

one_more : (i : ℕ) → i + 1 ≡ suc i
one_more i = omega arith

there : (cons : List Constituency) (i : ℕ) (d : List ℕ) → i < length (constituency_codes cons)
    → (con : Constituency) × Has con cons × (get_or (constituency_codes cons) i d ≡ con.code) × (take (suc i) cons ≡ take i cons ++ con ∷ [])
there [] i d within = absurd (omega (arith, within))
there (con ∷ cons) zero d within = (con, inl refl, refl, refl)
there (con ∷ cons) (suc i) d within =
    let next = there cons i d (omega (arith, within)) in (next.0, inr next.1, next.2, ap (λ (l : List Constituency). con ∷ l) next.3)

pub con-at : (setup : List Constituency) (codes : List (List ℕ)) (i : ℕ) (code : List ℕ) → codes ≡ constituency_codes setup → i < length codes → code ≡ get_or codes i code
    → At setup i code
con-at setup codes i code are within is =
    let place = there setup i code (subst (λ (l : List (List ℕ)). i < length l) are within) in (
      place.0,
      place.1,
      is ∙ ap (λ (l : List (List ℕ)). get_or l i code) are ∙ place.2,
      ap (λ n. take n setup) (one_more i) ∙ place.3,
    )

-- the codes of all of them
pub all-taken : (setup : List Constituency) (codes : List (List ℕ)) (i : ℕ) → codes ≡ constituency_codes setup → length codes ≤ i → take i setup ≡ setup
all-taken setup codes i are within =
    let same : length codes ≡ length setup = ap length are ∙ length-map setup (λ (con : Constituency). con.code) in
    take_all i setup (omega (arith, within, same))

-- ---- one view more

-- a keeper that has stayed shows it as it would have at first
pub at-first : (setup now : List Constituency) (first before after : Option State) (code : List ℕ) (shown r : Result View Refusal) → now ≡ setup → before ≡ first → shown ≡ r
    → AnswersShowCon now before code shown after → AnswersShowCon setup first code r after
at-first setup now first before after code shown r setup_is before_is is answers =
    subst (λ x. AnswersShowCon setup first code x after) is (subst (λ s. AnswersShowCon s first code shown after) setup_is (subst (λ b. AnswersShowCon now b code shown after) before_is answers))

-- the views of these constituencies, all shown in this state
abbrev pub AreViewsOf : List Constituency → Option State → List Constituency → List View → Type 0
AreViewsOf setup state cons views = AllZip (λ (con : Constituency) (view : View). AnswersShowCon setup state con.code (Ok view) state) cons views

pub fits-more : (setup : List Constituency) (i : ℕ) (code : List ℕ) (views : List View) (view : View) → IsSetup setup → At setup i code
    → ((found : Constituency) → constituency_with code setup ≡ Some found → FitsView found view)
    → AllZip FitsView (take i setup) views → AllZip FitsView (take (i + 1) setup) (views ++ view ∷ [])
fits-more setup i code views view limits (con, has, code_is, next) fits before =
    let found : constituency_with code setup ≡ Some con = subst (λ q. constituency_with q setup ≡ Some con) (sym code_is) (con-only setup con limits has) in
    subst (λ (l : List Constituency). AllZip FitsView l (views ++ view ∷ [])) (sym next) (all_zipped_more FitsView (take i setup) views con view before (fits con found))

pub shown-more : (setup : List Constituency) (state : Option State) (i : ℕ) (code : List ℕ) (views : List View) (view : View) → At setup i code
    → AnswersShowCon setup state code (Ok view) state → AreViewsOf setup state (take i setup) views → AreViewsOf setup state (take (i + 1) setup) (views ++ view ∷ [])
shown-more setup state i code views view (con, has, code_is, next) shows before =
    subst (λ (l : List Constituency). AreViewsOf setup state l (views ++ view ∷ [])) (sym next)
    (all_zipped_more (λ (c : Constituency) (v : View). AnswersShowCon setup state c.code (Ok v) state) (take i setup) views con view before
    (subst (λ q. AnswersShowCon setup state q (Ok view) state) code_is shows))

-- ---- one whole view more

-- a keeper that has stayed shows it as it would have at first
pub whole-at-first : (setup now : List Constituency) (first before after : Option State) (code : List ℕ) (shown r : Result View Refusal) → now ≡ setup → before ≡ first → shown ≡ r
    → ShowsWhole now before code shown after → ShowsWhole setup first code r after
whole-at-first setup now first before after code shown r setup_is before_is is shows =
    subst (λ x. ShowsWhole setup first code x after) is (subst (λ s. ShowsWhole s first code shown after) setup_is (subst (λ b. ShowsWhole now b code shown after) before_is shows))

-- the whole views of these constituencies, all shown in this state
abbrev pub AreWholeOf : List Constituency → Option State → List Constituency → List View → Type 0
AreWholeOf setup state cons views = AllZip (λ (con : Constituency) (view : View). ShowsWhole setup state con.code (Ok view) state) cons views

pub whole-more : (setup : List Constituency) (state : Option State) (i : ℕ) (code : List ℕ) (views : List View) (view : View) → At setup i code
    → ShowsWhole setup state code (Ok view) state → AreWholeOf setup state (take i setup) views → AreWholeOf setup state (take (i + 1) setup) (views ++ view ∷ [])
whole-more setup state i code views view (con, has, code_is, next) shows before =
    subst (λ (l : List Constituency). AreWholeOf setup state l (views ++ view ∷ [])) (sym next)
    (all_zipped_more (λ (c : Constituency) (v : View). ShowsWhole setup state c.code (Ok v) state) (take i setup) views con view before
    (subst (λ q. ShowsWhole setup state q (Ok view) state) code_is shows))

pub lawful-more : (setup : List Constituency) (i : ℕ) (code : List ℕ) (views : List View) (view : View) → IsSetup setup → At setup i code
    → ((found : Constituency) → constituency_with code setup ≡ Some found → IsLawfulView found view)
    → AllZip IsLawfulView (take i setup) views → AllZip IsLawfulView (take (i + 1) setup) (views ++ view ∷ [])
lawful-more setup i code views view limits (con, has, code_is, next) lawful before =
    let found : constituency_with code setup ≡ Some con = subst (λ q. constituency_with q setup ≡ Some con) (sym code_is) (con-only setup con limits has) in
    subst (λ (l : List Constituency). AllZip IsLawfulView l (views ++ view ∷ [])) (sym next) (all_zipped_more IsLawfulView (take i setup) views con view before (lawful con found))

-- ---- one that is refused

con-step : (s t : State) (code : List ℕ) (why : Refusal) (found : Constituency) → IsConStepSeen (Some found) s (ShowCon code) (Err why) t → ⊥
con-step s t code why found (v, decided, seen, decides, answered, after) =
    let same : Err why ≡ con_answer v (Ok no_change) = answered ∙ ap (con_answer v) decides in cc

-- what was not accepted, where nothing has changed
unshown : (old new : Option State) (why : Refusal) → IsNotAccepted (Err why) → new ≡ old → IsUnshown old why new
unshown old new why (inl is) kept = inl (let same : why ≡ Memory = cc in same, kept)
unshown old new why (inr is) kept = inr (let same : why ≡ Store = cc in same, inl kept)

-- a constituency that the setup has is refused only where it is out of memory, or a database failed
refused : (setup : List Constituency) (old new : Option State) (code : List ℕ) (found : Constituency) (why : Refusal) → constituency_with code setup ≡ Some found
    → Happens setup old (request (ShowCon code) (Err why)) new → IsUnshown old why new
refused setup (Some s) (Some t) code found why is (inl step) =
    absurd (con-step s t code why found (subst (λ o. IsConStepSeen o s (ShowCon code) (Err why) t) is step))
refused setup (Some s) (Some t) code found why is (inr (none, kept)) = unshown (Some s) (Some t) why none (ap Some kept)
refused setup (Some s) None code found why is none = inr (let same : why ≡ Store = cc in same, inr refl)
refused setup None (Some t) code found why is h = absurd h
refused setup None None code found why is none = unshown None None why none refl

-- no memory is not a failed database
pub not-store : (P : Type 0) → Memory ≡ Store → P
not-store P is = cc

pub all-refused : (setup : List Constituency) (old new : Option State) (i : ℕ) (code : List ℕ) (why : Refusal) → IsSetup setup → At setup i code
    → AnswersShowCon setup old code (Err why) new → ShowsAll setup old (Err why) new
all-refused setup old new i code why limits (con, has, code_is, next) shows =
    refused setup old new code con why (subst (λ q. constituency_with q setup ≡ Some con) (sym code_is) (con-only setup con limits has)) shows.1

pub whole-refused : (setup : List Constituency) (old new : Option State) (i : ℕ) (code : List ℕ) (why : Refusal) → IsSetup setup → At setup i code
    → ShowsWhole setup old code (Err why) new → ShowsAllWhole setup old (Err why) new
whole-refused setup old new i code why limits (con, has, code_is, next) shows =
    refused setup old new code con why (subst (λ q. constituency_with q setup ≡ Some con) (sym code_is) (con-only setup con limits has)) shows
