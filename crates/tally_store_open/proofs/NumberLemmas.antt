-- The numbers of constituencies, put into a tree one by one.
use Rattle.std.proofs.Common.{◌≡◌, ◌∙◌, inl, inr, ℕ, Bool, true, false, cond, List, [], ◌∷◌, length, Option, None, Some, refl, sym, ap, subst}
use Rattle.std.specs.Prelude.{All, option_map}
use Rattle.std.specs.Cmp.Lexicographic.{nat_list_cmp_total}
use Rattle.std.specs.FinMap.{get, get-insert}
use Rattle.std.specs.List.{AllByRecursion}
use Rattle.std.specs.Ordering.{eq_by_cmp}
use Rattle.std.proofs.lemmas.List.Elements.{recursion_from_All, All-from_recursion}
use Rattle.sqlite_keyed.proofs.ListLemmas.{all_weaker}
use Rattle.tally_setup.specs.Code.{code_cmp}
use Rattle.tally_setup.specs.Constituency.{Constituency}
use Rattle.tally_setup.specs.Limits.{IsSetup}
use Rattle.tally_setup.specs.Setup.{constituency_with}
use Rattle.tally_setup.proofs.NamedLemmas.{Has, con-found}
use Rattle.tally_keeper.specs.Kept.{Kept, seats_in, state_in, view_in}
use Rattle.tally_returns.proofs.ClosedLemmas.{same-tied, tied-same}
use Rattle.tally_returns.specs.Progress.{is_received, is_queried, is_corrected, is_closed, count_with_status}
use Rattle.tally_returns.specs.Return.{Returns}
use Rattle.tally_returns.specs.State.{State}
use Rattle.tally_returns.specs.View.{View, view_of}
use Rattle.tally_store_rows.specs.Views.{statuses_of}
use Rattle.tally_store_rows.specs.declared.views.Statuses.{Statuses}
use Rattle.tally_store_open.specs.Numbers.{HasNumbersOfRows, Numbers}
use Rattle.tally_store_open.specs.OfficeRows.{RowsInOrder}
use Rattle.tally_store_open.specs.internal.Entries.{IsLedgerOf}
use Rattle.tally_store_open.specs.internal.Tree.{AreNumbered, IsNumbered, numbers_at, with_numbers}
use Rattle.tally_store_open.proofs.VerdictLemmas.{returns_back}

-- the numbers of what is seen, where something is
pub numbers_seen : (kept : Kept) (found : Option Constituency) (seen : Option View) → seen ≡ option_map (view_in kept) found → option_map (λ con. statuses_of (view_in kept con)) found ≡ option_map statuses_of seen
numbers_seen kept None seen is = sym (ap (option_map statuses_of) is)
numbers_seen kept (Some con) seen is = sym (ap (option_map statuses_of) is)

-- those that are there stay where those of another are put in
numbered-with : (kept : Kept) (code : List ℕ) (found : Option Statuses) (numbers : Numbers) → numbers_at kept code ≡ found → (con : Constituency) → IsNumbered kept numbers con → IsNumbered kept (with_numbers code found numbers) con
numbered-with kept code None numbers is con had = had
numbered-with kept code (Some statuses) numbers is con had =
    get-insert nat_list_cmp_total numbers code statuses con.code ∙ go (eq_by_cmp code_cmp con.code code) refl
  where
    go : (b : Bool) → eq_by_cmp code_cmp con.code code ≡ b → cond b (Some statuses) (get numbers con.code) ≡ numbers_at kept con.code
    go true tied = sym is ∙ ap (numbers_at kept) (sym (tied-same con.code code tied))
    go false apart = had

pub numbered-others : (kept : Kept) (code : List ℕ) (before after : Numbers) (cons : List Constituency) → after ≡ with_numbers code (numbers_at kept code) before → All (IsNumbered kept before) cons → All (IsNumbered kept after) cons
numbered-others kept code before after cons is had =
    subst (λ m. All (IsNumbered kept m) cons) (sym is)
    (All-from_recursion (IsNumbered kept (with_numbers code (numbers_at kept code) before)) cons
    (all_weaker (IsNumbered kept before) (IsNumbered kept (with_numbers code (numbers_at kept code) before)) (λ con. numbered-with kept code (numbers_at kept code) before refl con) cons (recursion_from_All (IsNumbered kept before) cons had)))

-- and those of that one are there
pub numbered-own : (kept : Kept) (code : List ℕ) (before after : Numbers) (con : Constituency) → after ≡ with_numbers code (numbers_at kept code) before → code ≡ con.code → constituency_with con.code kept.setup ≡ Some con → IsNumbered kept after con
numbered-own kept code before after con is own there =
    ap (λ m. get m con.code) (is ∙ ap (λ c. with_numbers c (numbers_at kept c) before) own ∙ ap (λ o. with_numbers con.code o before) at)
    ∙ get-insert nat_list_cmp_total before con.code (statuses_of (view_in kept con)) con.code ∙ go (eq_by_cmp code_cmp con.code con.code) refl ∙ sym at
  where
    at : numbers_at kept con.code ≡ Some (statuses_of (view_in kept con))
    at = ap (option_map (λ c. statuses_of (view_in kept c))) there

    go : (b : Bool) → eq_by_cmp code_cmp con.code con.code ≡ b → cond b (Some (statuses_of (view_in kept con))) (get before con.code) ≡ Some (statuses_of (view_in kept con))
    go true tied = refl
    go false apart = let k = sym (same-tied con.code con.code refl) ∙ apart in cc

has_all : {X : Type 0} (P : X → Type 0) (xs : List X) (x : X) → AllByRecursion P xs → Has x xs → P x
has_all P [] x all has = absurd has
has_all P (y ∷ ys) x all (inl is) = subst P is all.0
has_all P (y ∷ ys) x all (inr has) = has_all P ys x all.1 has

pub numbered-all : (kept : Kept) (numbers : Numbers) → All (IsNumbered kept numbers) kept.setup → AreNumbered kept numbers
numbered-all kept numbers all con there =
    has_all (IsNumbered kept numbers) kept.setup con (recursion_from_All (IsNumbered kept numbers) kept.setup all) (con-found kept.setup con.code con there).1
    ∙ ap (option_map (λ c. statuses_of (view_in kept c))) there

-- ---- the numbers of a lawful state

-- what is seen of a constituency has the numbers of the returns, whatever else there is
abbrev numbers_with : Constituency → Returns → Statuses
numbers_with con returns = record {
  stations = length con.stations;
  received = count_with_status is_received returns con.stations;
  queried = count_with_status is_queried returns con.stations;
  corrected = count_with_status is_corrected returns con.stations;
  closed = count_with_status is_closed returns con.stations;
}

same_numbers : (con : Constituency) (s t : State) (seats others : List ℕ) → s.returns ≡ t.returns → statuses_of (view_of con s seats) ≡ statuses_of (view_of con t others)
same_numbers con s t seats others same = ap (numbers_with con) same

pub numbers_stated : (setup : List Constituency) (rows : RowsInOrder) (kept : Kept) (numbers : Numbers) → IsSetup setup → IsLedgerOf setup rows.returns rows.counts kept → AreNumbered kept numbers → HasNumbersOfRows setup rows numbers
numbers_stated setup rows kept numbers limits ledger numbered s lawful of_rows con there =
    let own : kept.setup ≡ setup = ap (λ (k : Kept). k.setup) ledger.kept_is in
    let same : kept.returns ≡ s.returns = returns_back setup rows ledger.es kept s limits ledger.kept_is ledger.entries.read lawful of_rows in
    numbered con (ap (constituency_with con.code) own ∙ there) ∙ ap Some (same_numbers con (state_in kept) s (seats_in kept con.code) [] same)
