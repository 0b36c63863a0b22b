use Rattle.std.proofs.Common.{◌≡◌, ◌≤◌, ◌+◌, ◌++◌, ◌∷◌, ◌∙◌, Global, List, Vec, ℕ, [], Some, sym, ap, subst, arith, length, drop}
use Rattle.std.specs.Prelude.{if◌then◌else◌}
use Rattle.std.proofs.lemmas.List.{take_all}
use Rattle.tally_import_records.specs.internal.Pieces.{IsRest, is_whole, text_rows}
use Rattle.tally_import_records.specs.Separator.{separator}
use Rattle.tally_import_records.specs.internal.Text.{bytes_left, bytes_of_parts}
use Rattle.tally_import_records.proofs.WorkLemmas.{IsBegunIn-room, IsRest-last}
use Rattle.tally_import_records.proofs.work.Work.last.Goals as goal

-- the bytes that are held, with those after them
abbrev all : goal.In_ok-text-2 → List ℕ
all c = c.args.held.bytes.items ++ bytes_of_parts c.args.more.items

-- the text is these bytes
all-is : (c : goal.In_ok-text-2) → bytes_left c.in_ok-text.text ≡ all c
all-is c = c.in_ok-text.ensures ∙ ap (λ (bytes : Vec ℕ Global). bytes.items ++ bytes_of_parts c.args.more.items) c.replace-bytes.ensures.value

-- and this is what the reader gets of it
text-is : (c : goal.In_ok-text-2) → bytes_left c.in_ok-text-2.text ≡ (if is_whole (Some c.args.end) then all c else all c ++ separator c.args.sep ∷ [])
text-is c =
    subst (λ w. bytes_left c.in_ok-text-2.text ≡ (if w then all c else all c ++ separator c.args.sep ∷ [])) c.ended_itself-is_whole.ensures
    (subst (λ b. bytes_left c.in_ok-text-2.text ≡ (if c.ended_itself-is_whole.result then b else b ++ separator c.args.sep ∷ [])) (all-is c) c.in_ok-text-2.ensures)

pub new-requires-3-clause-some : goal.new-requires-3-clause-some
new-requires-3-clause-some c not =
    (IsBegunIn-room c.args.sep c.args.end (all c) _ c.args.given c.requires.begun (text-is c)).0 (sym c.ended_itself-is_whole.ensures ∙ not)

pub new-requires-3-clause-whole : goal.new-requires-3-clause-whole
new-requires-3-clause-whole c whole =
    (IsBegunIn-room c.args.sep c.args.end (all c) _ c.args.given c.requires.begun (text-is c)).1 (sym c.ended_itself-is_whole.ensures ∙ whole)

pub returns-clause-reading : goal.returns-clause-reading
returns-clause-reading c =
    let held = c.args.held in
    let bytes = bytes_left c.of-last.result.value in
    let is = ap bytes_left c.of-last.ensures ∙ c.in_ok-text.ensures
    ∙ ap (λ (front : Vec ℕ Global). front.items ++ bytes_of_parts c.args.more.items) c.replace-bytes.ensures.value in
    let few : length bytes ≤ held.taken + 1 = subst (λ b. length b ≤ held.taken + 1) (sym is) c.requires.few in
    let within : length bytes ≤ 18446744073709551615 = omega (arith, few, held.counted.1) in
    let whole = c.ended_itself-is_whole.ensures in
    let text = subst (λ w. bytes_left c.in_ok-text-2.text ≡ (if w then bytes else bytes ++ separator c.args.sep ∷ [])) whole
    (subst (λ t. bytes_left c.in_ok-text-2.text ≡ (if c.ended_itself-is_whole.result then bytes_left t else bytes_left t ++ separator c.args.sep ∷ []))
    (sym c.of-last.ensures) c.in_ok-text-2.ensures) in
    record {
      reading = c.in_ok-rest.ensures.reading;
      rest = IsRest-last c.args.sep c.args.end bytes _ 18446744073709551615 c.args.given c.in_ok-rest.rest within text
          (subst (λ w. IsRest w (drop c.args.given (text_rows c.args.sep (bytes_left c.in_ok-text-2.text))) c.in_ok-rest.rest) whole c.in_ok-rest.ensures.rest);
      piece = take_all 18446744073709551615 bytes within;
      within = λ goes. cc goes;
      limit = λ goes. cc goes;
      few = few;
    }
