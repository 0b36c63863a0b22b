-- The result of a constituency in one answer, as a JSON object, and those of all constituencies as
-- an array of them. Texts are compact, with the keys in the order of their bytes.
use Rattle.std.specs.Prelude.{◌≡◌, ℕ, List, [], ◌∷◌}
use Rattle.serde_json.specs.Data.{Data}
use Rattle.serde_json.specs.Written.{compact_text}
use Rattle.tally_setup.specs.Constituency.{Constituency}
use Rattle.tally_returns.specs.View.{View}
use Rattle.tally_report_result.specs.Members.{result_value}
use Rattle.tally_report_result.specs.Parts.{AreResultParts, ResultParts}
use Rattle.tally_report_result.specs.Values.{array_of}

-- The value is the result of a constituency of which this is seen.
abbrev pub IsResult : Constituency → View → Data → Type 0
IsResult con view value =
    (parts : ResultParts) × AreResultParts con view parts × (value ≡ result_value con view parts)

-- The text is that of the result.
abbrev pub IsResultText : Constituency → View → List ℕ → Type 0
IsResultText con view text =
    (value : Data) × IsResult con view value × (text ≡ compact_text value)

-- The values are the results of these constituencies, each with its view at the same place.
abbrev pub AreResults : List Constituency → List View → List Data → Type 0
AreResults [] [] [] = Unit {0}
AreResults (con ∷ cons) (view ∷ views) (value ∷ values) =
    IsResult con view value × AreResults cons views values
AreResults [] [] (value ∷ values) = ⊥
AreResults [] (view ∷ views) values = ⊥
AreResults (con ∷ cons) [] values = ⊥
AreResults (con ∷ cons) (view ∷ views) [] = ⊥

-- The text is that of the results of all these constituencies, as one array.
abbrev pub AreResultsText : List Constituency → List View → List ℕ → Type 0
AreResultsText cons views text =
    (values : List Data) × AreResults cons views values × (text ≡ compact_text (array_of values))
