use Rattle.std.proofs.Common.{◌≡◌, ◌∙◌, ◌++◌, ℕ, List, ap, append_assoc, codes, string_bytes}
use Rattle.std.specs.Fmt.{decimal}
use Rattle.tally_office_program.proofs.server_lines.listening_text.Goals as goal

five-pieces : (t t1 t2 t3 t4 t5 a b c d e p q : List ℕ) → t1 ≡ t ++ a → t2 ≡ t1 ++ p → t3 ≡ t2 ++ c → t4 ≡ t3 ++ q → t5 ≡ t4 ++ e → p ≡ b → q ≡ d → t5 ≡ t ++ (a ++ b ++ (c ++ d ++ e))
five-pieces t t1 t2 t3 t4 t5 a b c d e p q first second third fourth fifth p_is q_is =
    fifth ∙ ap (λ l. l ++ e) (fourth ∙ ap (λ l. l ++ q) third ∙ ap (λ l. t2 ++ c ++ l) q_is ∙ append_assoc t2 c d) ∙ append_assoc t2 (c ++ d) e
    ∙ ap (λ l. l ++ (c ++ d ++ e)) (second ∙ ap (λ l. l ++ p) first ∙ ap (λ l. t ++ a ++ l) p_is ∙ append_assoc t a b) ∙ append_assoc t (a ++ b) (c ++ d ++ e)

pub returns : goal.returns
returns c =
    five-pieces (string_bytes c.args.text.now) (string_bytes c.push.new.text) (string_bytes c.push-2.new.text) (string_bytes c.push-3.new.text) (string_bytes c.push-4.new.text) (string_bytes c.push-5.new.text)
    (codes "listening on 127.0.0.1:") (decimal c.args.port) (codes " for ") (decimal c.args.count) (codes " connections\n") c.format.result.now c.format-2.result.now
    c.push.ensures.bytes c.push-2.ensures.bytes c.push-3.ensures.bytes c.push-4.ensures.bytes c.push-5.ensures.bytes c.format.ensures.text c.format-2.ensures.text
