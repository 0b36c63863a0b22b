-- What is read after the bytes that came before.
use Rattle.std.proofs.Common.{◌≡◌, ℕ, ◌+◌, ◌≤◌, Bool, List, ◌++◌, length, take, sym, ap, ◌∙◌, append_assoc}
use Rattle.std.proofs.Math.Seq.{take-append-add}
use Rattle.std.proofs.lemmas.List.{take-append-le, length-take-le}
use Rattle.tally_desk_message.specs.Connection.{Connection}
use borrow.Rule.Slice.PartMut.{put_mid, post_of}

-- the first bytes of a room, where others were put after some of them
front : (count k n : ℕ) (room buf : List ℕ) → count ≤ length room → n ≤ length buf
    → take (count + n) (put_mid count k room buf) ≡ take count room ++ take n buf
front count k n room buf within fits =
    let rest = buf ++ post_of count k room in
    ap (λ m. take (m + n) (take count room ++ rest)) (sym (length-take-le count room within)) ∙ take-append-add (take count room) rest n
    ∙ ap (λ t. take count room ++ t) (take-append-le n buf (post_of count k room) fits)

-- some of the input was put after what came before
pub put_behind : (old came all input left : List ℕ) → all ≡ old ++ came → input ≡ came ++ left → old ++ input ≡ all ++ left
put_behind old came all input left is taken = ap (λ t. old ++ t) taken ∙ sym (append_assoc old came left) ∙ ap (λ t. t ++ left) (sym is)

-- only input was taken, and no read failed
pub only_input : (c d : Connection) → d ≡ record c { input = d.input }
    → (d ≡ record c { input = d.input; read_failed = d.read_failed }) × (d.read_failed ≡ c.read_failed)
only_input c d is =
    let same : d.read_failed ≡ c.read_failed = ap (λ (t : Connection). t.read_failed) is in
    let with_failed : Bool → Connection = λ failed. record c { input = d.input; read_failed = failed } in
    (is ∙ ap with_failed (sym same), same)

-- `n` bytes of the input were put after the first `count` bytes of a room
pub read_behind : (count k n : ℕ) (room buf input left : List ℕ) → count ≤ length room → n ≤ length buf → input ≡ take n buf ++ left
    → take count room ++ input ≡ take (count + n) (put_mid count k room buf) ++ left
read_behind count k n room buf input left within fits taken = put_behind _ _ _ input left (front count k n room buf within fits) taken
