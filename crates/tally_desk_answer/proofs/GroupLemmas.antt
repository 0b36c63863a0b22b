-- The codes of a group, list by list.
use Rattle.std.proofs.Common.{◌≡◌, ℕ, zero, suc, ◌+◌, ◌<◌, Bool, true, false, ◌||◌, List, [], ◌∷◌, ◌++◌, length, take, get_or, slice_index_or, refl, ap, sym, append_assoc, append-nil, ◌∙◌, arith}
use Rattle.std.specs.List.{flat_map}
use Rattle.tally_setup.specs.Constituency.{ListEntry}
use Rattle.tally_desk_answer.specs.Outcome.{marked_lists, quoted_code, next_code, quoted_codes}
use Rattle.tally_desk_answer.specs.internal.Group.{is_begun, code_in_group}

-- the list, where it is marked
abbrev chosen : Bool → ListEntry → List ListEntry
chosen true list = list ∷ []
chosen false list = []

marked_next : (lists : List ListEntry) (marks : List Bool) (i : ℕ) (d : ListEntry) → i < length lists
    → marked_lists (take (suc i) lists) marks ≡ marked_lists (take i lists) marks ++ chosen (slice_index_or marks i false) (get_or lists i d)
marked_next [] marks i d within = absurd (omega (arith, within))
marked_next (list ∷ lists) [] zero d within = refl
marked_next (list ∷ lists) [] (suc i) d within = refl
marked_next (list ∷ lists) (true ∷ marks) zero d within = refl
marked_next (list ∷ lists) (false ∷ marks) zero d within = refl
marked_next (list ∷ lists) (true ∷ marks) (suc i) d within = ap (λ l. list ∷ l) (marked_next lists marks i d (omega (arith, within)))
marked_next (list ∷ lists) (false ∷ marks) (suc i) d within = marked_next lists marks i d (omega (arith, within))

more : (xs : List ListEntry) (x : ListEntry) → flat_map next_code (xs ++ x ∷ []) ≡ flat_map next_code xs ++ next_code x
more [] x = append-nil (next_code x)
more (y ∷ xs) x = ap (λ t. next_code y ++ t) (more xs x) ∙ sym (append_assoc (next_code y) (flat_map next_code xs) (next_code x))

separated_next : (xs : List ListEntry) (mark : Bool) (x : ListEntry) → quoted_codes (xs ++ chosen mark x) ≡ quoted_codes xs ++ code_in_group (is_begun xs) mark x
separated_next xs false x = ap quoted_codes (append-nil xs) ∙ sym (append-nil (quoted_codes xs))
separated_next [] true x = append-nil (quoted_code x)
separated_next (y ∷ xs) true x = ap (λ t. quoted_code y ++ t) (more xs x) ∙ sym (append_assoc (quoted_code y) (flat_map next_code xs) (next_code x))

begun_next : (xs : List ListEntry) (mark : Bool) (x : ListEntry) → is_begun (xs ++ chosen mark x) ≡ (is_begun xs || mark)
begun_next [] false x = refl
begun_next [] true x = refl
begun_next (y ∷ xs) mark x = refl

one_more : (i : ℕ) → i + 1 ≡ suc i
one_more i = omega arith

-- one more list
pub written_next : (lists : List ListEntry) (marks : List Bool) (i : ℕ) (d : ListEntry) → i < length lists
    → quoted_codes (marked_lists (take (i + 1) lists) marks) ≡ quoted_codes (marked_lists (take i lists) marks) ++ code_in_group (is_begun (marked_lists (take i lists) marks)) (slice_index_or marks i false) (get_or lists i d)
written_next lists marks i d within =
    ap (λ (n : ℕ). quoted_codes (marked_lists (take n lists) marks)) (one_more i)
    ∙ ap quoted_codes (marked_next lists marks i d within) ∙ separated_next (marked_lists (take i lists) marks) (slice_index_or marks i false) (get_or lists i d)

pub begun_by : (lists : List ListEntry) (marks : List Bool) (i : ℕ) (d : ListEntry) → i < length lists
    → is_begun (marked_lists (take (i + 1) lists) marks) ≡ (is_begun (marked_lists (take i lists) marks) || slice_index_or marks i false)
begun_by lists marks i d within =
    ap (λ (n : ℕ). is_begun (marked_lists (take n lists) marks)) (one_more i)
    ∙ ap is_begun (marked_next lists marks i d within) ∙ begun_next (marked_lists (take i lists) marks) (slice_index_or marks i false) (get_or lists i d)
