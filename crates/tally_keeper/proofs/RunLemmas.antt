-- A run goes on by one request.
use Rattle.std.proofs.Common.{◌≡◌, ℕ, ◌+◌, ◌<◌, List, [], ◌∷◌, ◌++◌, length, take, get_or, Option, Result, refl, ap, subst, sym, arith, length-append}
use Rattle.std.proofs.lemmas.List.{take_more}
use Rattle.tally_setup.specs.Constituency.{Constituency}
use Rattle.tally_returns.specs.State.{State}
use Rattle.tally_returns.specs.declared.ask.Ask.{Ask}
use Rattle.tally_returns.specs.declared.refusal.Refusal.{Refusal}
use Rattle.tally_returns.specs.declared.reply.Reply.{Reply}
use Rattle.tally_keeper.specs.Keeper.{Event, HappensInTurn, Happens, Runs, request, requests}

requests_push : (asks : List Ask) (rs : List (Result Reply Refusal)) (ask : Ask) (r : Result Reply Refusal) → length rs ≡ length asks
    → requests (asks ++ ask ∷ []) (rs ++ r ∷ []) ≡ requests asks rs ++ request ask r ∷ []
requests_push [] [] ask r count = refl
requests_push [] (x ∷ rs) ask r count = absurd (omega (arith, count))
requests_push (a ∷ asks) [] ask r count = absurd (omega (arith, count))
requests_push (a ∷ asks) (x ∷ rs) ask r count = ap (λ l. request a x ∷ l) (requests_push asks rs ask r (omega (arith, count)))

module _ (setup : List Constituency) where
  happen_push : (old mid new : Option State) (events : List Event) (event : Event)
      → HappensInTurn setup old events mid → Happens setup mid event new → HappensInTurn setup old (events ++ event ∷ []) new
  happen_push old mid new [] event h s = (new, subst (λ m. Happens setup m event new) h s, refl)
  happen_push old mid new (e ∷ events) event h s = (h.0, h.1, happen_push h.0 mid new events event h.2 s)

  pub runs_push : (old mid new : Option State) (asks : List Ask) (rs : List (Result Reply Refusal)) (ask : Ask) (r : Result Reply Refusal)
      → Runs setup old asks rs mid → Happens setup mid (request ask r) new → Runs setup old (asks ++ ask ∷ []) (rs ++ r ∷ []) new
  runs_push old mid new asks rs ask r h s = (
    omega (arith, h.0, length-append rs (r ∷ []), length-append asks (ask ∷ [])),
    subst (λ events. HappensInTurn setup old events new) (sym (requests_push asks rs ask r h.0)) (happen_push old mid new (requests asks rs) (request ask r) h.1 s),
  )

  pub runs_more : (old mid new : Option State) (asks : List Ask) (rs : List (Result Reply Refusal)) (i : ℕ) (ask : Ask) (r : Result Reply Refusal)
      → i < length asks → ask ≡ get_or asks i ask → Runs setup old (take i asks) rs mid → Happens setup mid (request ask r) new
      → Runs setup old (take (i + 1) asks) (rs ++ r ∷ []) new
  runs_more old mid new asks rs i ask r within is h s = rw (take_more asks i ask within, ← is) (runs_push old mid new (take i asks) rs ask r h s)
