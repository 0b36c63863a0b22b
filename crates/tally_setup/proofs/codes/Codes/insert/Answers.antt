use Rattle.std.proofs.Common.{◌≡◌, true, false, length, Some, not, ap, ◌∙◌, sym, rules, subst, ◌++◌, ◌∷◌, []}
use Rattle.std.specs.HashMap.{Updates}
use Rattle.std.specs.Str.{bytes_eq}
use Rattle.tally_setup.specs.Codes.{is_among_codes}
use Rattle.tally_setup.specs.internal.Index.{IsIndex}
use Rattle.tally_setup.proofs.CodesLemmas.{is_some-index, IsIndex-push}
use Rattle.tally_setup.proofs.codes.Codes.insert.Goals as goal

pub returns-then-contains_key-clause-added : goal.returns-then-contains_key-clause-added
returns-then-contains_key-clause-added c =
    let e = is_some-index c.args.code _ _ c.self.invariant in
    let here : is_among_codes c.args.code c.args.self.now ≡ true = ap (is_among_codes c.args.code) (sym c.self.view_is) ∙ sym e ∙ sym c.contains_key.ensures ∙ c.if-contains_key.true in
    ap not (sym here)

pub invariant_of-self-2 : goal.invariant_of-self-2
invariant_of-self-2 c =
    let e = is_some-index c.args.code _ _ c.self.invariant in
    let absent : is_among_codes c.args.code c.self.inside.codes.items ≡ false = sym e ∙ sym c.contains_key.ensures ∙ c.if-contains_key.false in
    let len : c.len.result ≡ length c.self.inside.codes.items = search rules in
    let updates : Updates bytes_eq c.self.inside.places c.insert.new.self c.args.code (Some (length c.self.inside.codes.items)) = rw len at c.in_ok-insert.ensures.updates in
    let items : c.push.new.self.items ≡ c.self.inside.codes.items ++ c.args.code ∷ [] = c.in_ok-push.ensures.items ∙ ap (λ codes. codes ++ c.args.code ∷ []) c.reserve.ensures.items in
    subst (λ codes. IsIndex codes c.insert.new.self) (sym items) (IsIndex-push _ _ _ _ c.self.invariant absent updates)

pub returns-clause-added : goal.returns-clause-added
returns-clause-added c =
    let e = is_some-index c.args.code _ _ c.self.invariant in
    let absent : is_among_codes c.args.code c.args.self.now ≡ false = ap (is_among_codes c.args.code) (sym c.self.view_is) ∙ sym e ∙ sym c.contains_key.ensures ∙ c.if-contains_key.false in
    ap not (sym absent)

pub returns-clause-distinct : goal.returns-clause-distinct
returns-clause-distinct c = (invariant_of-self-2 c).distinct
