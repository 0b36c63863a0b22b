-- A text that grows by a line for each entry, or for each that is eligible.
use Rattle.std.proofs.Common.{◌≡◌, ◌≤◌, ◌<◌, ◌∙◌, ℕ, ◌+◌, List, [], ◌∷◌, ◌++◌, Bool, true, false, length, get_or, take, drop, sym, ap, subst, append_assoc}
use Rattle.std.specs.Prelude.{if◌then◌else◌}
use Rattle.std.specs.List.{flat_map}
use Rattle.std.proofs.lemmas.List.{append-nil, at_drop_more, at_drop_all, flat_map_more, take_more}
use Rattle.tally_report_lines.specs.Columns.{lines_from}

-- the line of an entry, before those of the entries after it
pub line_more : {T : Type 0} (line : ℕ → T → List ℕ) (entries items : List T) (i : ℕ) (entry : T) (before after whole : List ℕ)
    → items ≡ entries → i < length items → entry ≡ get_or items i entry
    → before ++ lines_from line i (drop i entries) ≡ whole → after ≡ before ++ line i entry
    → after ++ lines_from line (i + 1) (drop (i + 1) entries) ≡ whole
line_more {T} line entries items i entry before after whole same lt is so_far more =
    ap (λ t. t ++ rest) more
    ∙ append_assoc before (line i entry) rest
    ∙ ap (λ t. before ++ t) (sym step)
    ∙ so_far
  where
    rest : List ℕ
    rest = lines_from line (i + 1) (drop (i + 1) entries)

    found : entry ≡ get_or entries i entry
    found = subst (λ (es : List T). entry ≡ get_or es i entry) same is

    step : lines_from line i (drop i entries) ≡ line i entry ++ lines_from line (i + 1) (drop (i + 1) entries)
    step =
        at_drop_more (lines_from line i) entries i entry (subst (λ (es : List T). i < length es) same lt)
        ∙ ap (λ e. line i e ++ lines_from line (i + 1) (drop (i + 1) entries)) (sym found)

-- no line is left
pub lines_end : {T : Type 0} (line : ℕ → T → List ℕ) (entries items : List T) (i : ℕ) (text whole : List ℕ)
    → items ≡ entries → length items ≤ i → text ++ lines_from line i (drop i entries) ≡ whole → text ≡ whole
lines_end {T} line entries items i text whole same le so_far =
    sym (append-nil text)
    ∙ ap (λ t. text ++ t) (sym (at_drop_all (lines_from line i) entries i (subst (λ (es : List T). length es ≤ i) same le)))
    ∙ so_far

-- the line of an entry, after those of the entries before it
pub each_more : {T : Type 0} (line : T → List ℕ) (entries : List T) (i : ℕ) (entry : T) (old before after : List ℕ)
    → i < length entries → entry ≡ get_or entries i entry
    → before ≡ old ++ flat_map line (take i entries) → after ≡ before ++ line entry
    → after ≡ old ++ flat_map line (take (i + 1) entries)
each_more line entries i entry old before after lt is so_far more =
    more
    ∙ ap (λ t. t ++ line entry) so_far
    ∙ flat_map_more line old (take i entries) entry
    ∙ ap (λ es. old ++ flat_map line es) (ap (λ e. take i entries ++ e ∷ []) is ∙ sym (take_more entries i entry lt))

-- the line of an eligible list, and none of another
pub shown : (mark eligible : Bool) (line before after : List ℕ) → mark ≡ eligible → mark ≡ true → after ≡ before ++ line
    → after ≡ before ++ (if eligible then line else [])
shown mark eligible line before after marked is more = more ∙ ap (λ m. before ++ (if m then line else [])) (sym is ∙ marked)

pub not_shown : (mark eligible : Bool) (line text : List ℕ) → mark ≡ eligible → mark ≡ false → text ≡ text ++ (if eligible then line else [])
not_shown mark eligible line text marked is = sym (append-nil text) ∙ ap (λ m. text ++ (if m then line else [])) (sym is ∙ marked)
