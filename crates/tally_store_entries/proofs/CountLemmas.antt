-- The counts of a station set, number by number.
use Rattle.std.proofs.Common.{◌≡◌, ℕ, T, ◌+◌, ◌<◌, ◌≤◌, pos, List, [], ◌∷◌, ◌++◌, map, filter, take, drop, length, get_or, Bool, true, false, not, ◌&&◌, cond, Some, Ok, Err, Result, OnOk, refl, sym, ap, ap₂, subst, ◌∙◌, append_assoc, append-nil, arith}
use Rattle.std.specs.FinMap.{get, insert}
use Rattle.std.specs.List.{AllByRecursion}
use Rattle.std.specs.List.Sorted.{IsPermutation}
use Rattle.std.specs.Ordering.{is_eq, ordering_reverse}
use Rattle.std.proofs.lemmas.Bool.{lt-ltb}
use Rattle.std.proofs.lemmas.List.{take_more, take_all, drop_all, drop_more, map-append, length-take}
use Rattle.std.proofs.lemmas.List.Elements.{filter-append}
use Rattle.std.proofs.lemmas.List.Sorted.{IsPermutation-refl, IsPermutation-sym, IsPermutation-trans, IsPermutation-middle, IsPermutation-append_left}
use Rattle.sqlite_value.specs.declared.value.Value.TheVariants.{Int}
use Rattle.sqlite_value.specs.Order.{Row, column, value_cmp}
use Rattle.sqlite_value.proofs.OrderLemmas.{value_cmp_total}
use Rattle.sqlite_keyed.proofs.ListLemmas.{all-append, all_weaker, all_map, filter_none}
use Rattle.sqlite.specs.declared.error.Error.{Error}
use Rattle.sqlite.specs.State.{State}
use Rattle.tally_store_schema.specs.Rows.{has_key, others, AreRowsOf}
use Rattle.tally_store_schema.proofs.RowsLemmas.{partitioned_rows, put_rows}
use Rattle.tally_setup.specs.Constituency.{Constituency}
use Rattle.tally_returns.specs.Counts.{VoteCounts}
use Rattle.tally_returns.specs.Return.{StationReturn, Returns as StationReturns}
use Rattle.tally_store_schema.specs.declared.table.KeyedTable.{KeyedTable}
use Rattle.tally_store_schema.specs.declared.table.KeyedTable.TheVariants.{Returns, Counts}
use Rattle.tally_store_schema.specs.Office.{rows_in, IsInside, HasRows, item_cells, is_item}
use Rattle.tally_store_rows.specs.Cells.{item_row, items_of, numbers_with_places, spoiled_item, return_row, return_rows, count_rows, constituency_of}
use Rattle.tally_store_entries.specs.internal.Entries.{AreReturnsIn, PutsReturn, stored_in}
use Rattle.tally_store_entries.specs.internal.Written.{HasCounts, HasItems}
use Rattle.tally_store_entries.proofs.FindLemmas.{all_above, all_below, int_less}
use Rattle.tally_store_entries.proofs.ReturnLemmas.{heads_keyed, counts_keyed, counts_apart, heads_apart}
use Rattle.tally_store_entries.proofs.RowLemmas.{numbered_then}

-- ---- rows of other items

abbrev IsApart : ℕ → ℕ × ℕ → Type 0
IsApart item i = is_eq (value_cmp (Int (pos i.0)) (Int (pos item))) ≡ false

lower : (item : ℕ) (i : ℕ × ℕ) → i.0 < item → IsApart item i
lower item i h = ap is_eq (int_less (pos i.0) (pos item) (record { lt = subst T (sym (lt-ltb i.0 item h)) tt }))

higher : (item : ℕ) (i : ℕ × ℕ) → item < i.0 → IsApart item i
higher item i h =
    ap is_eq (value_cmp_total.antisymm (Int (pos i.0)) (Int (pos item))) ∙ ap (λ q. is_eq (ordering_reverse q)) (int_less (pos item) (pos i.0) (record { lt = subst T (sym (lt-ltb item i.0 h)) tt }))

both : (a b : Bool) → b ≡ false → (a && b) ≡ false
both true b h = h
both false b h = refl

none_at : (key : List ℕ) (item : ℕ) (items : List (ℕ × ℕ)) → AllByRecursion (IsApart item) items → filter (is_item key item) (map (item_row key) items) ≡ []
none_at key item items h =
    filter_none (is_item key item) (map (item_row key) items)
    (all_map (λ r. is_item key item r ≡ false) (item_row key) items (all_weaker _ (λ (i : ℕ × ℕ). is_item key item (item_row key i) ≡ false) (λ i e. both (has_key key (item_row key i)) _ e) items h))

none_of_others : (key : List ℕ) (item : ℕ) (rows : List Row) → filter (has_key key) rows ≡ [] → filter (is_item key item) rows ≡ []
none_of_others key item [] h = refl
none_of_others key item (r ∷ rows) h = go (has_key key r) h (none_of_others key item rows)
  where
    go : (b : Bool) → cond b (r ∷ filter (has_key key) rows) (filter (has_key key) rows) ≡ [] → (filter (has_key key) rows ≡ [] → filter (is_item key item) rows ≡ [])
        → cond (b && is_eq (value_cmp (column r 1) (Int (pos item)))) (r ∷ filter (is_item key item) rows) (filter (is_item key item) rows) ≡ []
    go true some later = absurd (let e = some in cc)
    go false is later = later is

pub none_left : {A : Type 0} (p : A → Bool) (xs : List A) → filter p (filter (λ x. not (p x)) xs) ≡ []
none_left p [] = refl
none_left p (x ∷ xs) = go (p x) refl (none_left p xs)
  where
    go : (b : Bool) → p x ≡ b → filter p (filter (λ x. not (p x)) xs) ≡ [] → filter p (cond (not b) (x ∷ filter (λ x. not (p x)) xs) (filter (λ x. not (p x)) xs)) ≡ []
    go true is later = later
    go false is later = ap (λ t. cond t (x ∷ filter p (filter (λ x. not (p x)) xs)) (filter p (filter (λ x. not (p x)) xs))) is ∙ later

-- ---- one item of a key among the others

-- what a statement that sets an item does, where it had this number
abbrev SetsFrom : KeyedTable → List ℕ → ℕ → ℕ → ℕ → State → State → Type 0
SetsFrom t key item before n mid new = (more : List Row) → filter (is_item key item) more ≡ [] → IsPermutation (item_cells key item before ∷ more) (rows_in t mid) → HasRows t (item_cells key item n ∷ more) mid new

module _ (t : KeyedTable) (key : List ℕ) (front back : List (ℕ × ℕ)) (item : ℕ) (rest : List Row) where
  abbrev pub more : List Row
  more = (map (item_row key) front ++ map (item_row key) back) ++ rest

  moved : (n : ℕ) → IsPermutation (map (item_row key) (front ++ (item, n) ∷ back) ++ rest) (item_row key (item, n) ∷ more)
  moved n =
      IsPermutation-append_left rest (map (item_row key) (front ++ (item, n) ∷ back)) (item_row key (item, n) ∷ (map (item_row key) front ++ map (item_row key) back))
      (subst (λ l. IsPermutation l (item_row key (item, n) ∷ (map (item_row key) front ++ map (item_row key) back))) (sym (map-append (item_row key) front ((item, n) ∷ back)))
      (IsPermutation-middle (map (item_row key) front) (item_row key (item, n)) (map (item_row key) back)))

  pub lacks : AllByRecursion (IsApart item) front → AllByRecursion (IsApart item) back → filter (has_key key) rest ≡ [] → filter (is_item key item) more ≡ []
  lacks low high none =
      filter-append (is_item key item) (map (item_row key) front ++ map (item_row key) back) rest
      ∙ ap₂ ◌++◌ (filter-append (is_item key item) (map (item_row key) front) (map (item_row key) back) ∙ ap₂ ◌++◌ (none_at key item front low) (none_at key item back high)) (none_of_others key item rest none)

  pub at_first : (o : ℕ) (s : State) → IsPermutation (map (item_row key) (front ++ (item, o) ∷ back) ++ rest) (rows_in t s) → IsPermutation (item_cells key item o ∷ more) (rows_in t s)
  at_first o s held = IsPermutation-trans _ _ _ (IsPermutation-sym _ _ (moved o)) held

  pub back_again : (n : ℕ) (rows : List Row) (old mid new : State) → HasRows t rows old mid → HasRows t (item_cells key item n ∷ more) mid new → HasRows t (map (item_row key) (front ++ (item, n) ∷ back) ++ rest) old new
  back_again n rows old mid new was now = record {
    inside = now.inside;
    rows = IsPermutation-trans _ _ _ (moved n) now.rows;
    others = λ u apart. now.others u apart ∙ was.others u apart;
    setup = now.setup ∙ was.setup;
  }

-- ---- the votes of a list

items_at : (blank spoiled : ℕ) (xs : List ℕ) (n : ℕ) (ys : List ℕ)
    → items_of (record { votes = xs ++ n ∷ ys; blank = blank; spoiled = spoiled }) ≡ ((0, blank) ∷ numbers_with_places 1 xs) ++ (length xs + 1, n) ∷ (numbers_with_places (length xs + 2) ys ++ (spoiled_item, spoiled) ∷ [])
items_at blank spoiled xs n ys =
    ap (λ l. (0, blank) ∷ l ++ (spoiled_item, spoiled) ∷ [])
    (numbered_then 1 xs (n ∷ ys) ∙ ap (λ m. numbers_with_places 1 xs ++ (m, n) ∷ numbers_with_places (m + 1) ys) (omega arith) ∙ ap (λ m. numbers_with_places 1 xs ++ (length xs + 1, n) ∷ numbers_with_places m ys) (omega arith))
    ∙ ap (λ l. (0, blank) ∷ l) (append_assoc (numbers_with_places 1 xs) ((length xs + 1, n) ∷ numbers_with_places (length xs + 2) ys) ((spoiled_item, spoiled) ∷ []))

vote_at : (t : KeyedTable) (key : List ℕ) (c : VoteCounts) (xs : List ℕ) (o n : ℕ) (ys : List ℕ) (rest : List Row) (old mid new : State) → length xs + 1 ≤ 60 → filter (has_key key) rest ≡ []
    → HasItems t key (record c { votes = xs ++ o ∷ ys }) rest old mid → SetsFrom t key (length xs + 1) o n mid new → HasItems t key (record c { votes = xs ++ n ∷ ys }) rest old new
vote_at t key c xs o n ys rest old mid new few none was sets =
    let item : ℕ = length xs + 1 in
    let front : List (ℕ × ℕ) = (0, c.blank) ∷ numbers_with_places 1 xs in
    let back : List (ℕ × ℕ) = numbers_with_places (length xs + 2) ys ++ (spoiled_item, c.spoiled) ∷ [] in
    let low : AllByRecursion (IsApart item) front = (lower item (0, c.blank) (omega arith), all_weaker _ (IsApart item) (lower item) (numbers_with_places 1 xs) (all_below item 1 xs (omega arith))) in
    let high : AllByRecursion (IsApart item) back =
    all-append (IsApart item) (numbers_with_places (length xs + 2) ys) ((spoiled_item, c.spoiled) ∷ []) (all_weaker _ (IsApart item) (higher item) (numbers_with_places (length xs + 2) ys) (all_above item (length xs + 2) ys (omega arith))) (higher item (spoiled_item, c.spoiled) (omega (arith, few)), tt) in
    let held : IsPermutation (map (item_row key) (front ++ (item, o) ∷ back) ++ rest) (rows_in t mid) = subst (λ l. IsPermutation (map (item_row key) l ++ rest) (rows_in t mid)) (items_at c.blank c.spoiled xs o ys) was.rows in
    subst (λ l. HasRows t (map (item_row key) l ++ rest) old new) (sym (items_at c.blank c.spoiled xs n ys))
    (back_again t key front back item rest n _ old mid new was (sets (more t key front back item rest) (lacks t key front back item rest low high none) (at_first t key front back item rest o mid held)))

pub votes_none : (t : KeyedTable) (key : List ℕ) (c : VoteCounts) (votes : List ℕ) (rest : List Row) (old : State) → IsInside old → IsPermutation (map (item_row key) (items_of c) ++ rest) (rows_in t old) → HasItems t key (record c { votes = take 0 votes ++ drop 0 c.votes }) rest old old
votes_none t key c votes rest old inside held = record { inside = inside; rows = held; others = λ u apart. refl; setup = refl }

pub votes_more : (t : KeyedTable) (key : List ℕ) (c : VoteCounts) (votes : List ℕ) (i item n d : ℕ) (rest : List Row) (old mid new : State) → i < length votes → length votes ≤ 60 → length c.votes ≡ length votes → item ≡ i + 1 → n ≡ get_or votes i d → filter (has_key key) rest ≡ []
    → HasItems t key (record c { votes = take i votes ++ drop i c.votes }) rest old mid → SetsFrom t key item (get_or c.votes i 0) n mid new → HasItems t key (record c { votes = take (i + 1) votes ++ drop (i + 1) c.votes }) rest old new
votes_more t key c votes i item n d rest old mid new low few same place is none was sets =
    let xs = take i votes in
    let ys = drop (i + 1) c.votes in
    let o = get_or c.votes i 0 in
    let long : length xs ≡ i = omega (arith, length-take i votes) in
    let here : length xs + 1 ≡ item = omega (arith, long, place) in
    let before : take i votes ++ drop i c.votes ≡ xs ++ o ∷ ys = ap (λ l. take i votes ++ l) (drop_more c.votes i 0 (omega (arith, low, same))) in
    let after : take (i + 1) votes ++ drop (i + 1) c.votes ≡ xs ++ n ∷ ys = ap (λ l. l ++ ys) (take_more votes i d low ∙ ap (λ x. take i votes ++ x ∷ []) (sym is)) ∙ append_assoc (take i votes) (n ∷ []) ys in
    subst (λ l. HasItems t key (record c { votes = l }) rest old new) (sym after)
    (vote_at t key c xs o n ys rest old mid new (omega (arith, long, low, few)) none (subst (λ l. HasItems t key (record c { votes = l }) rest old mid) before was) (subst (λ m. SetsFrom t key m o n mid new) (sym here) sets))

pub votes_all : (t : KeyedTable) (key : List ℕ) (c : VoteCounts) (votes : List ℕ) (i : ℕ) (rest : List Row) (old new : State) → length votes ≤ i → length c.votes ≡ length votes → HasItems t key (record c { votes = take i votes ++ drop i c.votes }) rest old new
    → HasItems t key (record c { votes = votes }) rest old new
votes_all t key c votes i rest old new all same has =
    subst (λ l. HasItems t key (record c { votes = l }) rest old new) (ap (λ l. take i votes ++ l) (drop_all i c.votes (omega (arith, all, same))) ∙ append-nil (take i votes) ∙ take_all i votes all) has

-- ---- the blank and the spoiled votes

pub blank_set : (t : KeyedTable) (key : List ℕ) (c : VoteCounts) (n : ℕ) (rest : List Row) (old new : State) → IsInside old → filter (has_key key) rest ≡ [] → IsPermutation (map (item_row key) (items_of c) ++ rest) (rows_in t old) → SetsFrom t key 0 c.blank n old new
    → HasItems t key (record c { blank = n }) rest old new
blank_set t key c n rest old new inside none held sets =
    let back : List (ℕ × ℕ) = numbers_with_places 1 c.votes ++ (spoiled_item, c.spoiled) ∷ [] in
    let high : AllByRecursion (IsApart 0) back = all-append (IsApart 0) (numbers_with_places 1 c.votes) ((spoiled_item, c.spoiled) ∷ []) (all_weaker _ (IsApart 0) (higher 0) (numbers_with_places 1 c.votes) (all_above 0 1 c.votes (omega arith))) (higher 0 (spoiled_item, c.spoiled) (omega arith), tt) in
    back_again t key [] back 0 rest n (rows_in t old) old old new (record { inside = inside; rows = IsPermutation-refl _; others = λ u apart. refl; setup = refl })
    (sets (more t key [] back 0 rest) (lacks t key [] back 0 rest tt high none) (at_first t key [] back 0 rest c.blank old held))

pub spoiled_set : (t : KeyedTable) (key : List ℕ) (c : VoteCounts) (n : ℕ) (rest : List Row) (old mid new : State) → length c.votes ≤ 60 → filter (has_key key) rest ≡ [] → HasItems t key c rest old mid → SetsFrom t key spoiled_item c.spoiled n mid new → HasItems t key (record c { spoiled = n }) rest old new
spoiled_set t key c n rest old mid new few none was sets =
    let front : List (ℕ × ℕ) = (0, c.blank) ∷ numbers_with_places 1 c.votes in
    let low : AllByRecursion (IsApart spoiled_item) front = (lower spoiled_item (0, c.blank) (omega arith), all_weaker _ (IsApart spoiled_item) (lower spoiled_item) (numbers_with_places 1 c.votes) (all_below spoiled_item 1 c.votes (omega (arith, few)))) in
    back_again t key front [] spoiled_item rest n _ old mid new was (sets (more t key front [] spoiled_item rest) (lacks t key front [] spoiled_item rest low tt none) (at_first t key front [] spoiled_item rest c.spoiled mid was.rows))

pub spoiled_after : (t : KeyedTable) (key : List ℕ) (c : VoteCounts) (n : ℕ) (rest : List Row) (old mid new : State) (r : Result Unit Error) → length c.votes ≤ 60 → filter (has_key key) rest ≡ [] → HasItems t key c rest old mid
    → ((more : List Row) → filter (is_item key spoiled_item) more ≡ [] → IsPermutation (item_cells key spoiled_item c.spoiled ∷ more) (rows_in t mid) → OnOk r (HasRows t (item_cells key spoiled_item n ∷ more) mid new))
    → OnOk r (HasItems t key (record c { spoiled = n }) rest old new)
spoiled_after t key c n rest old mid new (Ok done) few none was sets = spoiled_set t key c n rest old mid new few none was sets
spoiled_after t key c n rest old mid new (Err e) few none was sets = tt

pub counts_then : (t : KeyedTable) (key : List ℕ) (c d : VoteCounts) (rest : List Row) (old mid new : State) → HasItems t key c rest old mid → HasItems t key d rest mid new → HasItems t key d rest old new
counts_then t key c d rest old mid new was now = record { inside = now.inside; rows = now.rows; others = λ u apart. now.others u apart ∙ was.others u apart; setup = now.setup ∙ was.setup }

-- ---- the whole return

pub return_corrected : (setup : List Constituency) (returns : StationReturns) (station : List ℕ) (before standing : StationReturn) (old mid new : State) → get returns station ≡ Some before → AreReturnsIn setup returns old
    → HasRows Returns (return_row (constituency_of setup station) (station, standing) ∷ others station (rows_in Returns old)) old mid
    → HasCounts station standing.counts (others station (rows_in Counts mid)) mid new → PutsReturn setup returns station standing old new
return_corrected setup returns station before standing old mid new is held head counts =
    let same : stored_in Counts mid ≡ stored_in Counts old = head.others Counts counts_apart in
    record {
      inside = counts.inside;
      returns_are = record {
        heads = subst (AreRowsOf (return_rows setup) (insert returns station standing)) (sym (counts.others Returns heads_apart)) (put_rows (return_rows setup) (heads_keyed setup) returns station standing (stored_in Returns old) (stored_in Returns mid) held.heads head.rows);
        counts = put_rows count_rows counts_keyed returns station standing (stored_in Counts mid) (stored_in Counts new) (subst (AreRowsOf count_rows returns) (sym same) held.counts) counts.rows;
      };
      others = λ u apart apart_too. counts.others u apart_too ∙ head.others u apart;
      setup_is = counts.setup ∙ head.setup;
    }

-- the rows of a return among those of its table
pub counts_before : (setup : List Constituency) (returns : StationReturns) (station : List ℕ) (before : StationReturn) (old mid : State) (rows : List Row) → get returns station ≡ Some before → AreReturnsIn setup returns old → HasRows Returns rows old mid
    → IsPermutation (map (item_row station) (items_of before.counts) ++ others station (rows_in Counts mid)) (rows_in Counts mid)
counts_before setup returns station before old mid rows is held head = partitioned_rows count_rows counts_keyed returns station before (stored_in Counts mid) is (subst (AreRowsOf count_rows returns) (sym (head.others Counts counts_apart)) held.counts)
