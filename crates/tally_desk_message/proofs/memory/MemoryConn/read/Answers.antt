use Rattle.std.proofs.Common.{◌≡◌, ◌<◌, ◌+◌, ◌-◌, ◌++◌, List, ℕ, [], false, length, take, drop, min, subst, sym, ◌∙◌, ap, arith, rules, Ok}
use Rattle.tally_desk_message.specs.Connection.{Connection, HasRead}
use Rattle.tally_desk_message.proofs.ConnectionLemmas.{read_some, rest_all, no_length}
use Rattle.tally_desk_message.proofs.memory.MemoryConn.read.Goals as goal
use Rattle.tally_desk_message.proofs.memory.MemoryConn.read.Goals.{else-self-via-then-self+else-is_empty, else-self-via-else-self}

pub returns : goal.returns
returns c =
    let inside = c.self.inside in
    let input = inside.input.items in
    let buf = c.args.buf.now in
    let n = c.min-count.result in
    let left : take (length c.deref.result.now - inside.at) (drop inside.at c.deref.result.now) ≡ drop inside.at input =
    rest_all c.deref.result.now inside.at ∙ ap (drop inside.at) c.deref.ensures.value in
    let count : n ≡ min (length buf) (length (drop inside.at input)) = c.min-count.ensures ∙ ap (λ (l : List ℕ). min (length buf) (length l)) left in
    let copied : c.copy_from_slice.new.self ≡ take n (drop inside.at input) = c.copy_from_slice.ensures.after ∙ ap (take n) left in
    let end : n ≡ 0 → 0 < length buf → (drop inside.at input ≡ []) × (inside.fails ≡ false) = λ none has.
    let over : length (drop inside.at input) ≡ 0 = omega (arith, count, none, has) in
    elim c.else-self.branch [
      | else-self-via-then-self+else-is_empty w ↦ absurd (grind (arith, w.is_empty.ensures, w.if-is_empty, left, over))
      | else-self-via-else-self w ↦ (no_length (drop inside.at input) over, w.if-self.false)
    ] in
    let whole = read_some input buf inside.at n inside.fails inside.read_failed inside.room inside.written.items c.self.invariant.0 (omega (arith, count)) (omega (arith, count)) end in
    let moved : Connection = record { input = drop (inside.at + n) input; fails = inside.fails; read_failed = inside.read_failed; room = inside.room; written = inside.written.items } in
    let seen : HasRead c.args.self.now (take n (drop inside.at input) ++ drop n buf) (Ok n) moved = subst (λ (t : Connection). HasRead t (take n (drop inside.at input) ++ drop n buf) (Ok n) moved) c.self.view_is whole in
    subst (λ (front : List ℕ). HasRead c.args.self.now (front ++ drop n buf) (Ok n) moved) (sym copied) seen
