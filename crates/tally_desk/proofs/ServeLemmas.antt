-- Serving goes on by one connection.
use Rattle.std.proofs.Common.{◌≡◌, ℕ, ◌+◌, Bool, List, [], ◌∷◌, ◌++◌, take, drop, option_to_list, refl, sym, ap, subst, append_assoc, ◌∙◌, arith}
use Rattle.std.proofs.Math.Seq.{take-add}
use Rattle.std.proofs.lemmas.List.{append-nil, drop-drop}
use Rattle.tally_desk_message.specs.Connection.{Connection, Connections}
use Rattle.tally_desk.specs.Serving.{Answering, IsExchange, Serves, one_if}
use Rattle.tally_desk.specs.internal.Next.{IsNextConnection}

serves_push : {C : Type 0} (A : Answering C) (old mid new : C) (cs ds : List Connection) (c d : Connection) (whole : Bool) (k : ℕ)
    → Serves A old cs ds k mid → IsExchange A mid c whole d new → Serves A old (cs ++ c ∷ []) (ds ++ d ∷ []) (k + one_if whole) new
serves_push A old mid new [] [] c d whole k h e =
    (new, whole, 0, subst (λ m. IsExchange A m c whole d new) h.1 e, omega (arith, h.0), (refl, refl))
serves_push A old mid new [] (y ∷ ds) c d whole k h e = absurd h
serves_push A old mid new (x ∷ cs) [] c d whole k h e = absurd h
serves_push A old mid new (x ∷ cs) (y ∷ ds) c d whole k (m, b, j, first, sum, rest) e =
    (m, b, j + one_if whole, first, omega (arith, sum), serves_push A m mid new cs ds c d whole j rest e)

pub record IsMore {C : Type 0} (A : Answering C) (T : Type 0) (old new : C) (front all : List Connection) (i : ℕ) (answered : ℕ) (after : Connections) : Type 0 where
  pub ended : List Connection
  pub before : after.ended ++ option_to_list after.current ≡ front ++ ended
  pub coming : after.coming ≡ drop i all
  pub serves : T → Serves A old (take i all) ended answered new

next_piece : (all rest : List Connection) (i : ℕ) (c : Connection) → drop i all ≡ c ∷ rest
    → (take (i + 1) all ≡ take i all ++ c ∷ []) × (drop (i + 1) all ≡ rest)
next_piece all rest i c is =
    (take-add i 1 all ∙ ap (λ l. take i all ++ take 1 l) is, sym (drop-drop 1 i all) ∙ ap (drop 1) is)

last_piece : (all : List Connection) (i : ℕ) → drop i all ≡ [] → (take (i + 1) all ≡ take i all) × (drop (i + 1) all ≡ [])
last_piece all i is =
    (take-add i 1 all ∙ ap (λ l. take i all ++ take 1 l) is ∙ append-nil (take i all), sym (drop-drop 1 i all) ∙ ap (drop 1) is)

pub serves_more : {C : Type 0} (A : Answering C) (T : Type 0) (old mid new : C) (front all ended : List Connection) (i k : ℕ) (whole : Bool) (before after : Connections)
    → before.ended ++ option_to_list before.current ≡ front ++ ended → before.coming ≡ drop i all → (T → Serves A old (take i all) ended k mid)
    → IsNextConnection (before.ended ++ option_to_list before.current) before.coming after whole (λ c d. T → IsExchange A mid c whole d new) (new ≡ mid)
    → IsMore A T old new front all (i + 1) (k + one_if whole) after
serves_more {C} A T old mid new front all ended i k whole before after done coming serves next = go before.coming coming next
  where
    go : (l : List Connection) → l ≡ drop i all → IsNextConnection (before.ended ++ option_to_list before.current) l after whole (λ c d. T → IsExchange A mid c whole d new) (new ≡ mid)
        → IsMore A T old new front all (i + 1) (k + one_if whole) after
    go [] is (none, now, kept) =
        let piece = last_piece all i (sym is) in
        record {
          ended = ended;
          before = ap (λ (h : Connections). h.ended ++ option_to_list h.current) now ∙ append-nil (before.ended ++ option_to_list before.current) ∙ done;
          coming = ap (λ (h : Connections). h.coming) now ∙ sym piece.1;
          serves = λ sure.
              let same : k ≡ k + one_if whole = rw none (omega arith) in
              subst (λ n. Serves A old (take (i + 1) all) ended n new) same
              (subst (λ l. Serves A old l ended k new) (sym piece.0) (subst (λ s. Serves A old (take i all) ended k s) (sym kept) (serves sure)));
        }
    go (c ∷ rest) is (d, now, exchange) =
        let piece = next_piece all rest i c (sym is) in
        record {
          ended = ended ++ d ∷ [];
          before = ap (λ (h : Connections). h.ended ++ option_to_list h.current) now ∙ ap (λ f. f ++ d ∷ []) done ∙ append_assoc front ended (d ∷ []);
          coming = ap (λ (h : Connections). h.coming) now ∙ sym piece.1;
          serves = λ sure. subst (λ l. Serves A old l (ended ++ d ∷ []) (k + one_if whole) new) (sym piece.0) (serves_push A old mid new (take i all) ended c d whole k (serves sure) (exchange sure));
        }
