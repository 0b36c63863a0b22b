-- From seats won to awards.
use Rattle.std.proofs.Common.{◌≡◌, ℕ, ◌+◌, ◌-◌, ◌<◌, ◌≤◌, List, length, get_or, map, refl, sym, ap, ◌∙◌, subst, arith}
use Rattle.std.proofs.lemmas.List.{get_or-map, length-map}
use Rattle.tally_frac.specs.Rank.{RanksAbove}
use Rattle.tally_allot_award.specs.declared.won.WonSeat.{WonSeat}
use Rattle.tally_allot.specs.declared.award.Award.{Award}
use Rattle.tally_law.specs.Poll.{Poll}
use Rattle.tally_allot.specs.Awards.{award_of, IsAwardOf, AreAwardsOf, IsAwardAbove}
use Rattle.tally_setup.specs.declared.profile.LotRule.{LotRule}
use Rattle.tally_law.specs.DivisorAllotment.{IsAbove}
use Rattle.tally_allot_award.specs.internal.Pairs.{pair_of}
use Rattle.tally_allot_award.specs.internal.Race.{IsPair}
use Rattle.tally_allot_award.specs.internal.Terms.{AreDivisors, IsProperLot, IsSound, placed_divisor_race}
use Rattle.tally_allot_award.specs.internal.WonSeat.{AreRows, AreWon}
use Rattle.tally_allot_award.proofs.DivisorRace.{above_from_placed, runs_if_eligible, seats_for-le}

module _ (nth : ℕ → ℕ) (unit : ℕ) (lot_rule : LotRule) (d : AreDivisors nth) (some_unit : 1 ≤ unit) (poll : Poll) (sound : IsSound poll) (lot : List ℕ) (proper : IsProperLot poll lot) (seats : ℕ) (a : List ℕ) (rows : List WonSeat) (w : AreWon (placed_divisor_race nth lot_rule poll lot seats) a rows) where
  abbrev awards : List Award
  awards = map (award_of nth unit poll) rows

  none : WonSeat
  none = record { list = 0; seat = 0 }

  at : (i : ℕ) (d : Award) (e : WonSeat) → i < length rows → get_or (map (award_of nth unit poll) rows) i d ≡ award_of nth unit poll (get_or rows i e)
  at i d e lt = get_or-map (award_of nth unit poll) rows i e d lt

  long : length (map (award_of nth unit poll) rows) ≡ length rows
  long = length-map rows (award_of nth unit poll)

  pub awards_of_won : AreAwardsOf nth unit lot_rule poll lot a (map (award_of nth unit poll) rows)
  awards_of_won = record { each = each; all = all; falling = falling }
    where
      each : (i : ℕ) (d : Award) → i < length (map (award_of nth unit poll) rows) → (l : ℕ) × IsAwardOf nth unit poll a l (get_or (map (award_of nth unit poll) rows) i d)
      each i d lt =
          let inside : i < length rows = omega (arith, long) in
          let x = w.each i none inside in
          let P : Award → Type 0 = λ y. IsAwardOf nth unit poll a (get_or rows i none).list y in
          ((get_or rows i none).list, subst P (sym (at i d none inside)) (record { list_is = refl; eligible = runs_if_eligible poll seats (get_or rows i none).list 0 (omega (arith, x.0)); from_one = omega (arith, x.0); won = x.1; num_is = refl; den_is = refl }))

      all : (l k : ℕ) → 1 ≤ k → k ≤ get_or a l 0 → (i : ℕ) × (i < length (map (award_of nth unit poll) rows)) × ((d : Award) → ((get_or (map (award_of nth unit poll) rows) i d).list ≡ l + 1) × ((get_or (map (award_of nth unit poll) rows) i d).k ≡ k))
      all l k one le =
          let x = w.all l k one le in (
            x.0,
            omega (arith, x.1, long),
            λ d.
                let e = at x.0 d none x.1 in
                let f = x.2 none in
                (ap (λ (y : Award). y.list) e ∙ ap (λ (y : WonSeat). y.list + 1) f, ap (λ (y : Award). y.k) e ∙ ap (λ (y : WonSeat). y.seat) f),
          )

      -- what is above with its place is above in the strict rank
      strict : (x y : WonSeat) → IsPair (placed_divisor_race nth lot_rule poll lot seats) x.list x.seat → IsPair (placed_divisor_race nth lot_rule poll lot seats) y.list y.seat → RanksAbove (pair_of nth lot_rule poll lot x.list x.seat) (pair_of nth lot_rule poll lot y.list y.seat) → IsAbove nth unit lot_rule poll lot x.list x.seat y.list y.seat
      strict x y p q above =
          above_from_placed nth d poll sound seats unit some_unit lot_rule lot proper x.list x.seat y.list y.seat p q above

      falling : (i j : ℕ) (e : Award) → i < j → j < length (map (award_of nth unit poll) rows) → IsAwardAbove nth unit lot_rule poll lot (get_or (map (award_of nth unit poll) rows) i e) (get_or (map (award_of nth unit poll) rows) j e)
      falling i j e lt end =
          let inside : j < length rows = omega (arith, long) in
          let before : i < length rows = omega arith in
          let P : Award → Award → Type 0 = λ x y. IsAwardAbove nth unit lot_rule poll lot x y in
          let li = (get_or rows i none).list in
          let lj = (get_or rows j none).list in
          let ei : li ≡ li + 1 - 1 = omega arith in
          let ej : lj ≡ lj + 1 - 1 = omega arith in
          let Q : ℕ → ℕ → Type 0 = λ x y. IsAbove nth unit lot_rule poll lot x (get_or rows i none).seat y (get_or rows j none).seat in
          let ranked : Q li lj = strict (get_or rows i none) (get_or rows j none) (w.each i none before).0 (w.each j none inside).0 (w.falling i j none lt inside) in
          let f : Q (li + 1 - 1) (lj + 1 - 1) = subst (Q (li + 1 - 1)) ej (subst (λ x. Q x lj) ei ranked) in
          subst (P (get_or (map (award_of nth unit poll) rows) i e)) (sym (at j e none inside)) (subst (λ x. P x (award_of nth unit poll (get_or rows j none))) (sym (at i e none before)) f)

-- each seat won is one of a list of the poll
pub rows_of_won : (nth : ℕ → ℕ) (lot_rule : LotRule) (poll : Poll) → IsSound poll → (lot : List ℕ) (seats : ℕ) → seats ≤ 500 → (a : List ℕ) (rows : List WonSeat) → AreWon (placed_divisor_race nth lot_rule poll lot seats) a rows → AreRows (length poll.votes) rows
rows_of_won nth lot_rule poll s lot seats few a rows w i d lt =
    let x = w.each i d lt in
    let l = (get_or rows i d).list in
    let e = runs_if_eligible poll seats l 0 (omega (arith, x.0)) in
    (s.listed l e, omega (arith, x.0), omega (arith, x.0, seats_for-le poll seats l, few))
