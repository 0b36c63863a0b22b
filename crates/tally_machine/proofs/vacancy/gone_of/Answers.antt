use Rattle.std.proofs.Common.{◌≡◌, ◌<◌, ◌+◌, ◌++◌, ◌∷◌, ◌∙◌, ℕ, Bool, true, false, Vec, Global, List, [], cond, map, get_or, length, take, append-nil, ap, subst, sym, arith}
use Rattle.std.specs.Prelude.{◌==◌}
use Rattle.std.specs.List.{filter}
use Rattle.std.proofs.lemmas.Bool.{eqb-true, false_from_ne_true}
use Rattle.std.proofs.lemmas.Bool.Decides.{nat_tests}
use Rattle.std.proofs.lemmas.List.{take_all, take_more}
use Rattle.tally_returns.specs.GoneCandidate.{GoneCandidate}
use Rattle.tally_returns.specs.View.{View}
use Rattle.tally_machine.proofs.vacancy.gone_of.Goals as goal
use Rattle.tally_machine.proofs.vacancy.gone_of.Goals.{then-candidate-list+in_ok-push, else-candidate-list}

abbrev places_in : ℕ → List GoneCandidate → List ℕ
places_in list gone = map (λ (g : GoneCandidate). g.place) (filter (λ (g : GoneCandidate). g.list == list) gone)

-- one candidate more, who is of the list or is not
places-last : (list : ℕ) (gone : List GoneCandidate) (g : GoneCandidate) (own : Bool) → (g.list == list) ≡ own → places_in list (gone ++ g ∷ []) ≡ places_in list gone ++ cond own (g.place ∷ []) []
places-last list [] g true is = ap (λ b. map (λ (x : GoneCandidate). x.place) (cond b (g ∷ []) [])) is
places-last list [] g false is = ap (λ b. map (λ (x : GoneCandidate). x.place) (cond b (g ∷ []) [])) is
places-last list (h ∷ gone) g own is = go (h.list == list) (places-last list gone g own is)
  where
    go : (b : Bool) → places_in list (gone ++ g ∷ []) ≡ places_in list gone ++ cond own (g.place ∷ []) []
        → map (λ (x : GoneCandidate). x.place) (cond b (h ∷ filter (λ (x : GoneCandidate). x.list == list) (gone ++ g ∷ [])) (filter (λ (x : GoneCandidate). x.list == list) (gone ++ g ∷ [])))
        ≡ map (λ (x : GoneCandidate). x.place) (cond b (h ∷ filter (λ (x : GoneCandidate). x.list == list) gone) (filter (λ (x : GoneCandidate). x.list == list) gone)) ++ cond own (g.place ∷ []) []
    go true later = ap (λ l. h.place ∷ l) later
    go false later = later

-- the candidate at a place of the loop
places_more : (list : ℕ) (gone : List GoneCandidate) (i : ℕ) (g : GoneCandidate) (own : Bool) → i < length gone → g ≡ get_or gone i g → (g.list == list) ≡ own → places_in list (take (i + 1) gone) ≡ places_in list (take i gone) ++ cond own (g.place ∷ []) []
places_more list gone i g own low at is = ap (places_in list) (take_more gone i g low ∙ ap (λ x. take i gone ++ x ∷ []) (sym at)) ∙ places-last list (take i gone) g own is

same_passes : (m n : ℕ) → m ≡ n → (m == n) ≡ true
same_passes m n same = grind (arith, nat_tests)

pub loop-candidate-preserved : goal.loop-candidate-preserved
loop-candidate-preserved c =
    let gone = c.args.view.now.gone in
    let i = c.loop-candidate.candidate-index in
    let g = c.candidate-item.result in
    let so_far = c.loop-candidate.places.items in
    let items : c.deref-candidate-items.result.now ≡ gone = c.deref-candidate-items.ensures.value ∙ ap (λ (v : View). v.gone) c.view.view_is in
    let low : i < length gone = subst (λ (xs : List GoneCandidate). i < length xs) items c.loop-candidate-test.true in
    let at : g ≡ get_or gone i g = subst (λ (xs : List GoneCandidate). g ≡ get_or xs i g) items c.candidate-item.is in
    let list : c.candidate.inside.list ≡ g.list = ap (λ (x : GoneCandidate). x.list) c.candidate.view_is in
    let place : c.candidate.inside.place ≡ g.place = ap (λ (x : GoneCandidate). x.place) c.candidate.view_is in
    elim c.if-candidate-list.branch [
      | then-candidate-list+in_ok-push w ↦
          ap (λ (v : Vec ℕ Global). v.items) w.places-is ∙ w.in_ok-push.ensures.items ∙ ap (λ p. so_far ++ p ∷ []) place
          ∙ ap (λ l. l ++ g.place ∷ []) c.loop-candidate.invariant
          ∙ sym (places_more c.args.list gone i g true low at (same_passes g.list c.args.list (sym list ∙ w.if-candidate-list.true)))
      | else-candidate-list w ↦
          ap (λ (v : Vec ℕ Global). v.items) w.places-is ∙ c.loop-candidate.invariant ∙ sym (append-nil (places_in c.args.list (take i gone)))
          ∙ sym (places_more c.args.list gone i g false low at (false_from_ne_true (g.list == c.args.list) (λ e. w.if-candidate-list.false (list ∙ eqb-true g.list c.args.list e))))
    ]

pub returns : goal.returns
returns c =
    let gone = c.args.view.now.gone in
    let items : c.deref-candidate-items.result.now ≡ gone = c.deref-candidate-items.ensures.value ∙ ap (λ (v : View). v.gone) c.view.view_is in
    c.loop-candidate.invariant ∙ ap (places_in c.args.list) (take_all c.loop-candidate.candidate-index gone (omega (arith, c.loop-candidate-test.false, ap length items)))
