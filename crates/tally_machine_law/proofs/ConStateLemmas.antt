-- What the constituency of a code has come to where that of one code changes.
use Rattle.std.proofs.Common.{◌≡◌, ◌∷◌, ◌∙◌, ℕ, List, [], Bool, true, false, cond, Option, Some, None, Result, Ok, Err, refl, sym, ap}
use Rattle.std.specs.Prelude.{unwrap_or}
use Rattle.std.specs.FinMap as fin
use Rattle.std.specs.Str.{bytes_eq}
use Rattle.std.specs.Cmp.{Equal-is, eq_by_cmp_equiv}
use Rattle.std.specs.Cmp.Lexicographic.{nat_list_cmp_total}
use Rattle.std.specs.Ordering.{eq_by_cmp}
use Rattle.std.proofs.lemmas.Slice.Eq.{bytes_eq-Decides}
use Rattle.tally_setup.specs.Code.{code_cmp}
use Rattle.tally_setup.specs.Constituency.{Constituency}
use Rattle.tally_setup.specs.Setup.{constituency_with}
use Rattle.tally_returns.specs.State.{State, ConState, con_state, opening_con}
use Rattle.tally_machine_law.specs.Step.{ConChange, no_change, after_change, with_con, IsConStep}
use Rattle.tally_returns.specs.declared.ask.Ask.{Ask}
use Rattle.tally_returns.specs.declared.refusal.Refusal.{Refusal}
use Rattle.tally_returns.specs.declared.reply.Reply.{Reply}

-- codes that tie are equal
pub same_code : (q code : List ℕ) → eq_by_cmp code_cmp q code ≡ true → q ≡ code
same_code q code tied = fin.slice_cmp-IsAntisymmetric fin.nat_cmp-IsAntisymmetric q code ((Equal-is (code_cmp q code)).0 tied)

-- the constituency of a code has that code
pub con-code : (setup : List Constituency) (code : List ℕ) (con : Constituency) → constituency_with code setup ≡ Some con → con.code ≡ code
con-code [] code con is = cc
con-code (c ∷ setup) code con is = go (bytes_eq code c.code) refl is (con-code setup code con)
  where
    go : (b : Bool) → bytes_eq code c.code ≡ b → cond b (Some c) (constituency_with code setup) ≡ Some con → (constituency_with code setup ≡ Some con → con.code ≡ code) → con.code ≡ code
    go true e here later =
        let same : c ≡ con = cc in
        sym ((bytes_eq-Decides code c.code).0 e ∙ ap (λ (x : Constituency). x.code) same)
    go false e here later = later here

-- what that of each code has come to
pub con_state-with_con : (s : State) (code : List ℕ) (c : ConState) (q : List ℕ) → con_state (with_con s code c) q ≡ cond (eq_by_cmp code_cmp q code) c (con_state s q)
con_state-with_con s code c q =
    ap (λ (found : Option ConState). unwrap_or found opening_con) (fin.get-insert nat_list_cmp_total s.cons code c q) ∙ go (eq_by_cmp code_cmp q code)
  where
    go : (b : Bool) → unwrap_or (cond b (Some c) (fin.get s.cons q)) opening_con ≡ cond b c (con_state s q)
    go true = refl
    go false = refl

-- and that of the code itself
pub con_state-changed : (s : State) (code : List ℕ) (c : ConState) → con_state (with_con s code c) code ≡ c
con_state-changed s code c = con_state-with_con s code c code ∙ ap (λ b. cond b c (con_state s code)) ((eq_by_cmp_equiv nat_list_cmp_total).refl code)

-- a change of a constituency leaves the returns
pub after_change-returns : (s : State) (code : List ℕ) (decided : Result ConChange Refusal) → (after_change s code decided).returns ≡ s.returns
after_change-returns s code (Ok no_change) = refl
after_change-returns s code (Ok other) = refl
after_change-returns s code (Err refusal) = refl

-- and so does a step on one
pub con_step-returns : (found : Option Constituency) (s : State) (ask : Ask) (r : Result Reply Refusal) (t : State) → IsConStep found s ask r t → t.returns ≡ s.returns
con_step-returns None s ask r t is = ap (λ (x : State). x.returns) is.1
con_step-returns (Some con) s ask r t is = ap (λ (x : State). x.returns) is.5 ∙ after_change-returns s con.code is.1
