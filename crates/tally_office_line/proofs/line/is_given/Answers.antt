use Rattle.std.proofs.Common.{◌≡◌, ◌≢◌, ◌∙◌, refl, sym, ap, Bool, true, false, List, ℕ, Option, Some, None, codes}
use Rattle.std.specs.Prelude.{unwrap_or}
use Rattle.std.specs.Option.{option_map_or}
use Rattle.std.specs.Str.{bytes_eq}
use Rattle.std.specs.Str.Parse.{ParsesBool, true_text}
use Rattle.std.specs.Prelude.{Decides}
use Rattle.std.specs.declared.str.ParseBoolError.{ParseBoolError}
use Rattle.clap.specs.Words.{found_of}
use Rattle.std.proofs.lemmas.Slice.Eq.{bytes_eq-Decides}
use Rattle.clap.specs.Matches.{ReadsOne}
use Rattle.clap.proofs.WalkLemmas.{one_text-rows}
use Rattle.tally_office_line.proofs.line.is_given.Goals as goal

is_no : (b : Bool) (P : Type 0) → Decides b P → (P → ⊥) → b ≡ false
is_no true P h never = absurd (never (h.0 refl))
is_no false P h never = refl

other_text : (t : List ℕ) → t ≢ true_text → bytes_eq (codes "true") t ≡ false
other_text t ne = is_no _ _ (bytes_eq-Decides (codes "true") t) (λ e. ne (sym e))

flag_read : (E : Type 0) (o : Option (List ℕ)) (r : Option Bool) → (o ≡ None → r ≡ None) → ((t : List ℕ) → o ≡ Some t → ReadsOne {T = Bool} {E = E} ParsesBool t r)
    → unwrap_or r false ≡ option_map_or (bytes_eq (codes "true")) o false
flag_read E None r none some = ap (λ (x : Option Bool). unwrap_or x false) (none refl)
flag_read E (Some t) (Some true) none some = ap (bytes_eq (codes "true")) (sym (some t refl))
flag_read E (Some t) (Some false) none some = ap (bytes_eq (codes "true")) (sym (some t refl))
flag_read E (Some t) None none some = sym (other_text t (some t refl).1.0)

pub returns : goal.returns
returns c = c.unwrap_or.ensures ∙ flag_read ParseBoolError _ c.get_one.result c.get_one.ensures.none c.get_one.ensures.value
    ∙ ap (λ (o : Option (List ℕ)). option_map_or (bytes_eq (codes "true")) o false) (one_text-rows (found_of c.args.arguments.now) c.args.flag.now)
