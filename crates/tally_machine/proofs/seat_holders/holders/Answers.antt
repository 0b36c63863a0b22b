use Rattle.std.proofs.Common.{◌≡◌, ◌∙◌, ℕ, ◌+◌, List, ◌∷◌, ◌++◌, [], length, sym, ap, arith}
use Rattle.std.proofs.lemmas.List.{length_push, take_all}
use Rattle.tally_machine_law.specs.Holders.{is_among, remaining_candidates}
use Rattle.tally_machine_law.proofs.HolderLemmas.{staying-more, staying-same}
use Rattle.tally_machine_law.proofs.LotLemmas.{among-turned}
use Rattle.tally_machine.proofs.HolderLemmas.{all_seats}
use Rattle.tally_machine.proofs.seat_holders.holders.Goals as goal
use Rattle.tally_machine.proofs.seat_holders.holders.Goals.{then-not-contains+in_ok-push, else-not-contains}

pub returns-then-len-seats : goal.returns-then-len-seats
returns-then-len-seats c =
    let n = c.loop-candidate.candidate in
    let places = c.loop-candidate.places in
    let found = c.loop-candidate.invariant.found in
    let full : length (remaining_candidates n c.args.gone.now) ≡ c.args.seats = omega (arith, ap length found, c.if-len-seats.true, c.len.ensures, places.ok.0) in
    found ∙ all_seats c.args.candidates c.args.seats n c.args.gone.now (omega (arith, c.loop-candidate-test.true)) full

pub loop-candidate-preserved : goal.loop-candidate-preserved
loop-candidate-preserved c =
    let n = c.loop-candidate.candidate in
    let gone = c.args.gone.now in
    let places = c.loop-candidate.places in
    let found = c.loop-candidate.invariant.found in
    let few = c.loop-candidate.invariant.few in
    let mark : is_among (n + 1) gone ≡ c.contains.result = sym (among-turned (n + 1) gone) ∙ sym c.contains.ensures.value in
    elim c.if-not-contains.branch [
      | then-not-contains+in_ok-push w ↦
          let stays = staying-more n gone (mark ∙ w.if-not-contains.true) in
          let more : c.if-not-contains.places.items ≡ places.items ++ (n + 1) ∷ [] = cc (w.in_ok-push.ensures.items) in
          record {
            found = more ∙ ap (λ (items : List ℕ). items ++ (n + 1) ∷ []) found ∙ sym stays;
            few = omega (arith, ap length more, length_push places.items (n + 1), few, c.if-len-seats.false, c.len.ensures, places.ok.0);
          }
      | else-not-contains w ↦
          let goes = staying-same n gone (mark ∙ w.if-not-contains.false) in
          let same : c.if-not-contains.places.items ≡ places.items = cc in
          record { found = same ∙ found ∙ sym goes; few = omega (arith, ap length same, few) }
    ]

pub returns : goal.returns
returns c =
    let found = c.loop-candidate.invariant.found in
    let all : c.loop-candidate.candidate ≡ c.args.candidates = omega (arith, c.loop-candidate-test.false, c.loop-candidate.auto.candidate-end) in
    let same = found ∙ ap (λ n. remaining_candidates n c.args.gone.now) all in
    same ∙ sym (take_all c.args.seats (remaining_candidates c.args.candidates c.args.gone.now) (omega (arith, c.loop-candidate.invariant.few, ap length same)))
