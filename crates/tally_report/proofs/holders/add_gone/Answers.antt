use Rattle.std.proofs.Common.{◌≤◌, ◌∙◌, ◌-◌, ◌++◌, ◌∷◌, [], ℕ, Vec, Global, length, slice_set, refl, ap, arith}
use Rattle.tally_report.proofs.GoneLemmas.{listed_in}
use Rattle.tally_report.proofs.holders.add_gone.Goals as goal

pub returns : goal.returns
returns c =
    let gone = c.args.gone.now in
    let pushed = c.push.new.self in
    let some : 1 ≤ c.args.list = omega (arith, c.if-list-eq0.false) in
    let few : c.args.list ≤ length gone.items = omega (arith, c.if-list-len.false, c.len.ensures, gone.ok.0) in
    listed_in (λ (places : Vec ℕ Global). places.items) c.args.list c.args.place (c.args.list - 1) gone.items (slice_set gone.items (c.args.list - 1) pushed) pushed c.index_mut.result.now some few refl refl
    (c.in_ok-push.ensures.items ∙ ap (λ (places : Vec ℕ Global). places.items ++ c.args.place ∷ []) c.index_mut.ensures.value)
