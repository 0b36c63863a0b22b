-- Trees as finite maps, and what is seen of a constituency that is changed in one.
use Rattle.std.proofs.Common.{◌≡◌, ◌∷◌, ◌∙◌, ℕ, List, [], Bool, true, false, cond, map, Option, Some, None, IsSome, refl, sym, ap, subst}
use Rattle.std.specs.Prelude.{option_map}
use Rattle.std.specs.BTreeMap as tree
use Rattle.std.specs.BTreeMap.{BTreeMap, Updates, WritesThrough, is_at}
use Rattle.std.specs.Cmp.{Equal-is, eq_by_cmp_equiv}
use Rattle.std.specs.Cmp.Lexicographic.{nat_list_cmp_total}
use Rattle.std.specs.FinMap.{FinMap, get, insert, remove, find, entries, from_entries, get-entries, get-insert, get-remove, get-from_entries, same_map, slice_cmp-IsAntisymmetric, nat_cmp-IsAntisymmetric}
use Rattle.std.specs.Map.{lookup}
use Rattle.std.specs.Option.{ForSome}
use Rattle.std.specs.Ordering.{eq_by_cmp}
use Rattle.tally_setup.specs.Code.{code_cmp}
use Rattle.tally_returns.specs.State.{ConState}
use Rattle.tally_returns.specs.View.{View}
use Rattle.tally_keeper.specs.internal.Rows.{Views, con_of, cons_of, seats_of, views_of, with_changed, with_view}

-- codes that tie are the same
pub same_code : (q k : List ℕ) → eq_by_cmp code_cmp q k ≡ true → q ≡ k
same_code q k tied = slice_cmp-IsAntisymmetric nat_cmp-IsAntisymmetric q k ((Equal-is (code_cmp q k)).0 tied)

pub tied_itself : (k : List ℕ) → eq_by_cmp code_cmp k k ≡ true
tied_itself k = (eq_by_cmp_equiv nat_list_cmp_total).refl k

module _ {X : Type 0} where
  -- maps that have the same at each code are the same
  pub same_maps : (m n : FinMap code_cmp X) → ((q : List ℕ) → get m q ≡ get n q) → m ≡ n
  same_maps m n is = same_map nat_list_cmp_total (slice_cmp-IsAntisymmetric nat_cmp-IsAntisymmetric) m n is

  find-lookup : (es : List (List ℕ × X)) (q : List ℕ) → find code_cmp q es ≡ lookup (is_at (code_cmp q)) es
  find-lookup [] q = refl
  find-lookup (e ∷ es) q = ap (cond (eq_by_cmp code_cmp q e.0) (Some e.1)) (find-lookup es q)

  pub get-tree : (t : BTreeMap (List ℕ) X) (q : List ℕ) → get (from_entries {R = code_cmp} t.entries) q ≡ tree.get code_cmp t q
  get-tree t q = get-from_entries nat_list_cmp_total t.entries q ∙ find-lookup t.entries q

  flipped : (k q : List ℕ) (x y : Option X) → cond (eq_by_cmp code_cmp k q) x y ≡ cond (eq_by_cmp code_cmp q k) x y
  flipped k q x y = ap (λ b. cond b x y) ((eq_by_cmp_equiv nat_list_cmp_total).symm k q)

  pub tree-insert : (t u : BTreeMap (List ℕ) X) (k : List ℕ) (x : X) → Updates code_cmp t u k (Some x) → from_entries {R = code_cmp} u.entries ≡ insert (from_entries t.entries) k x
  tree-insert t u k x updates = same_maps (from_entries u.entries) (insert (from_entries t.entries) k x) (λ q.
      get-tree u q ∙ updates.0 q ∙ flipped k q (Some x) (tree.get code_cmp t q)
      ∙ ap (cond (eq_by_cmp code_cmp q k) (Some x)) (sym (get-tree t q)) ∙ sym (get-insert nat_list_cmp_total (from_entries t.entries) k x q))

  pub tree-remove : (t u : BTreeMap (List ℕ) X) (k : List ℕ) → Updates code_cmp t u k None → from_entries {R = code_cmp} u.entries ≡ remove (from_entries t.entries) k
  tree-remove t u k updates = same_maps (from_entries u.entries) (remove (from_entries t.entries) k) (λ q.
      get-tree u q ∙ updates.0 q ∙ flipped k q None (tree.get code_cmp t q)
      ∙ ap (cond (eq_by_cmp code_cmp q k) None) (sym (get-tree t q)) ∙ sym (get-remove nat_list_cmp_total (from_entries t.entries) k q))

  -- a map whose values are mapped
  find-mapped : {Y : Type 0} (f : X → Y) (es : List (List ℕ × X)) (q : List ℕ) → find code_cmp q (map (λ (e : List ℕ × X). (e.0, f e.1)) es) ≡ option_map f (find code_cmp q es)
  find-mapped f [] q = refl
  find-mapped f (e ∷ es) q = go (eq_by_cmp code_cmp q e.0) (find-mapped f es q)
    where
      go : (b : Bool) → find code_cmp q (map (λ (e : List ℕ × X). (e.0, f e.1)) es) ≡ option_map f (find code_cmp q es)
          → cond b (Some (f e.1)) (find code_cmp q (map (λ (e : List ℕ × X). (e.0, f e.1)) es)) ≡ option_map f (cond b (Some e.1) (find code_cmp q es))
      go true is = refl
      go false is = is

  pub get-mapped : {Y : Type 0} (f : X → Y) (m : FinMap code_cmp X) (q : List ℕ) → get (from_entries {R = code_cmp} (map (λ (e : List ℕ × X). (e.0, f e.1)) (entries m))) q ≡ option_map f (get m q)
  get-mapped f m q =
      get-from_entries nat_list_cmp_total (map (λ (e : List ℕ × X). (e.0, f e.1)) (entries m)) q ∙ find-mapped f (entries m) q ∙ ap (option_map f) (sym (get-entries m q))

-- ---- what is seen of a constituency, changed

pub get-cons_of : (views : Views) (q : List ℕ) → get (cons_of views) q ≡ option_map con_of (get views q)
get-cons_of views q = get-mapped con_of views q

pub get-seats_of : (views : Views) (q : List ℕ) → get (seats_of views) q ≡ option_map (λ (v : View). v.seats) (get views q)
get-seats_of views q = get-mapped (λ (v : View). v.seats) views q

pub get-with_view : (views : Views) (k : List ℕ) (f : View → View) (q : List ℕ) → get (with_view views k f) q ≡ cond (eq_by_cmp code_cmp q k) (option_map f (get views q)) (get views q)
get-with_view views k f q = by_found (get views k) refl
  where
    some : (v : View) (b : Bool) → eq_by_cmp code_cmp q k ≡ b → get views k ≡ Some v → cond b (Some (f v)) (get views q) ≡ cond b (option_map f (get views q)) (get views q)
    some v true tied there = sym (ap (option_map f) (ap (get views) (same_code q k tied) ∙ there))
    some v false apart there = refl

    none : (b : Bool) → eq_by_cmp code_cmp q k ≡ b → get views k ≡ None → get views q ≡ cond b (option_map f (get views q)) (get views q)
    none true tied there = let at : get views q ≡ None = ap (get views) (same_code q k tied) ∙ there in at ∙ sym (ap (option_map f) at)
    none false apart there = refl

    by_found : (found : Option View) → get views k ≡ found → get (with_changed views k f found) q ≡ cond (eq_by_cmp code_cmp q k) (option_map f (get views q)) (get views q)
    by_found None there = none (eq_by_cmp code_cmp q k) refl there
    by_found (Some v) there = get-insert nat_list_cmp_total views k (f v) q ∙ some v (eq_by_cmp code_cmp q k) refl there

-- what is written through what a tree lent
pub written : (t u : BTreeMap (List ℕ) View) (k : List ℕ) (v : View) (f : View → View) (w : View) → Some v ≡ tree.get code_cmp t k → w ≡ f v
    → WritesThrough code_cmp (code_cmp k) t w u → views_of u ≡ with_view (views_of t) k f
written t u k v f w there is writes =
    tree-insert t u k w (writes.3 (subst IsSome there refl)) ∙ ap (insert (views_of t) k) is ∙ sym (ap (with_changed (views_of t) k f) (get-tree t k ∙ sym there))

-- what holds of what is seen of a constituency holds of what a tree lends
pub of_lent : (t : BTreeMap (List ℕ) View) (k : List ℕ) (v : View) (P : View → Type 0) → Some v ≡ tree.get code_cmp t k → ForSome (get (views_of t) k) P → P v
of_lent t k v P there holds = holds v (get-tree t k ∙ sym there)

pub not_written : (t u : BTreeMap (List ℕ) View) (k : List ℕ) (f : View → View) → None ≡ tree.get code_cmp t k → u ≡ t → views_of u ≡ with_view (views_of t) k f
not_written t u k f none same = ap views_of same ∙ sym (ap (with_changed (views_of t) k f) (get-tree t k ∙ sym none))

-- a change that leaves what a constituency has come to, and one that changes it
pub cons_of-kept : (views : Views) (k : List ℕ) (f : View → View) → ((v : View) → con_of (f v) ≡ con_of v) → cons_of (with_view views k f) ≡ cons_of views
cons_of-kept views k f keeps = same_maps (cons_of (with_view views k f)) (cons_of views) (λ q.
    get-cons_of (with_view views k f) q ∙ ap (option_map con_of) (get-with_view views k f q) ∙ by_tie (eq_by_cmp code_cmp q k) (get views q) ∙ sym (get-cons_of views q))
  where
    by_tie : (b : Bool) (found : Option View) → option_map con_of (cond b (option_map f found) found) ≡ option_map con_of found
    by_tie true None = refl
    by_tie true (Some v) = ap Some (keeps v)
    by_tie false found = refl

pub seats_of-kept : (views : Views) (k : List ℕ) (f : View → View) → ((v : View) → (f v).seats ≡ v.seats) → seats_of (with_view views k f) ≡ seats_of views
seats_of-kept views k f keeps = same_maps (seats_of (with_view views k f)) (seats_of views) (λ q.
    get-seats_of (with_view views k f) q ∙ ap (option_map (λ (v : View). v.seats)) (get-with_view views k f q) ∙ by_tie (eq_by_cmp code_cmp q k) (get views q) ∙ sym (get-seats_of views q))
  where
    by_tie : (b : Bool) (found : Option View) → option_map (λ (v : View). v.seats) (cond b (option_map f found) found) ≡ option_map (λ (v : View). v.seats) found
    by_tie true None = refl
    by_tie true (Some v) = ap Some (keeps v)
    by_tie false found = refl

pub cons_of-changed : (views : Views) (k : List ℕ) (f : View → View) (v : View) (c : ConState) → get views k ≡ Some v → con_of (f v) ≡ c → cons_of (with_view views k f) ≡ insert (cons_of views) k c
cons_of-changed views k f v c there is = same_maps (cons_of (with_view views k f)) (insert (cons_of views) k c) (λ q.
    get-cons_of (with_view views k f) q ∙ ap (option_map con_of) (get-with_view views k f q) ∙ by_tie q (eq_by_cmp code_cmp q k) refl
    ∙ sym (get-insert nat_list_cmp_total (cons_of views) k c q))
  where
    by_tie : (q : List ℕ) (b : Bool) → eq_by_cmp code_cmp q k ≡ b → option_map con_of (cond b (option_map f (get views q)) (get views q)) ≡ cond b (Some c) (get (cons_of views) q)
    by_tie q true tied = ap (λ found. option_map con_of (option_map f found)) (ap (get views) (same_code q k tied) ∙ there) ∙ ap Some is
    by_tie q false apart = sym (get-cons_of views q)

pub seats_of-changed : (views : Views) (k : List ℕ) (f : View → View) (v : View) (seats : List ℕ) → get views k ≡ Some v → (f v).seats ≡ seats → seats_of (with_view views k f) ≡ insert (seats_of views) k seats
seats_of-changed views k f v seats there is = same_maps (seats_of (with_view views k f)) (insert (seats_of views) k seats) (λ q.
    get-seats_of (with_view views k f) q ∙ ap (option_map (λ (v : View). v.seats)) (get-with_view views k f q) ∙ by_tie q (eq_by_cmp code_cmp q k) refl
    ∙ sym (get-insert nat_list_cmp_total (seats_of views) k seats q))
  where
    by_tie : (q : List ℕ) (b : Bool) → eq_by_cmp code_cmp q k ≡ b → option_map (λ (v : View). v.seats) (cond b (option_map f (get views q)) (get views q)) ≡ cond b (Some seats) (get (seats_of views) q)
    by_tie q true tied = ap (λ found. option_map (λ (v : View). v.seats) (option_map f found)) (ap (get views) (same_code q k tied) ∙ there) ∙ ap Some is
    by_tie q false apart = sym (get-seats_of views q)

pub with_view-same : (views : Views) (k : List ℕ) → with_view views k (λ v. v) ≡ views
with_view-same views k = same_maps (with_view views k (λ v. v)) views (λ q. get-with_view views k (λ v. v) q ∙ by_tie (eq_by_cmp code_cmp q k) (get views q))
  where
    by_tie : (b : Bool) (found : Option View) → cond b (option_map (λ (v : View). v) found) found ≡ found
    by_tie true None = refl
    by_tie true (Some v) = refl
    by_tie false found = refl
