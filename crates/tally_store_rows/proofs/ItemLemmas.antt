-- A row that reads as one of an item is that row, and the row of an item reads so.
use Rattle.std.proofs.Common.{◌≡◌, ◌<◌, ◌^◌, ◌+◌, ℕ, pos, negsuc, Bool, true, false, cond, Option, Some, None, List, [], ◌∷◌, map, length, true≢false, refl, sym, ap, ap₂, subst, ◌∙◌, arith}
use Rattle.std.specs.Prelude.{option_and_then, option_map, bytes_eq, nat_lt, ◌==◌}
use Rattle.std.specs.Option.{option_map_or}
use Rattle.std.specs.List.{AllByRecursion}
use Rattle.std.proofs.lemmas.Bool.{eqb-true, eq-eqb, lt-ltb}
use Rattle.std.proofs.lemmas.Slice.Eq.{bytes_eq-Decides}
use Rattle.sqlite_value.specs.declared.value.Value.{Value}
use Rattle.sqlite_value.specs.declared.value.Value.TheVariants.{Null, Int, Real, Text, Blob}
use Rattle.sqlite_value.specs.Order.{Row, column}
use Rattle.tally_store_schema.specs.Values.{text_of, number_of, wide_number_of}
use Rattle.tally_store_rows.specs.Cells.{item_row, numbers_with_places}
use Rattle.tally_store_rows.specs.Reading.{has_text, with_text, item_for, items_from}

-- ---- steps that gave a value

pub and_then_some : {A B : Type 0} (f : A → Option B) (o : Option A) (b : B) → option_and_then f o ≡ Some b → (a : A) × (o ≡ Some a) × (f a ≡ Some b)
and_then_some f None b h = absurd (let e = h in cc)
and_then_some f (Some a) b h = (a, refl, h)

pub map_some : {A B : Type 0} (f : A → B) (o : Option A) (b : B) → option_map f o ≡ Some b → (a : A) × (o ≡ Some a) × (f a ≡ b)
map_some f None b h = absurd (let e = h in cc)
map_some f (Some a) b h = (a, refl, (let e = h in cc))

pub if_some : {B : Type 0} (t : Bool) (o : Option B) (b : B) → cond t o None ≡ Some b → (t ≡ true) × (o ≡ Some b)
if_some true o b h = (refl, h)
if_some false o b h = absurd (let e = h in cc)

pub text_is : (v : Value) (t : List ℕ) → text_of v ≡ Some t → v ≡ Text t
text_is Null t h = absurd (let e = h in cc)
text_is (Int n) t h = absurd (let e = h in cc)
text_is (Real x) t h = absurd (let e = h in cc)
text_is (Text u) t h = let e : u ≡ t = (let k = h in cc) in ap Text e
text_is (Blob b) t h = absurd (let e = h in cc)

pub number_is : (v : Value) (n : ℕ) → number_of v ≡ Some n → v ≡ Int (pos n)
number_is Null n h = absurd (let e = h in cc)
number_is (Int (pos m)) n h = let it = if_some (nat_lt m (2 ^ 32)) (Some m) n h in let e : m ≡ n = (let k = it.1 in cc) in ap (λ x. Int (pos x)) e
number_is (Int (negsuc m)) n h = absurd (let e = h in cc)
number_is (Real x) n h = absurd (let e = h in cc)
number_is (Text u) n h = absurd (let e = h in cc)
number_is (Blob b) n h = absurd (let e = h in cc)

pub wide_number_is : (v : Value) (n : ℕ) → wide_number_of v ≡ Some n → v ≡ Int (pos n)
wide_number_is Null n h = absurd (let e = h in cc)
wide_number_is (Int (pos m)) n h = let e : m ≡ n = (let k = h in cc) in ap (λ x. Int (pos x)) e
wide_number_is (Int (negsuc m)) n h = absurd (let e = h in cc)
wide_number_is (Real x) n h = absurd (let e = h in cc)
wide_number_is (Text u) n h = absurd (let e = h in cc)
wide_number_is (Blob b) n h = absurd (let e = h in cc)

pub number_reads : (n : ℕ) → n < 2 ^ 32 → number_of (Int (pos n)) ≡ Some n
number_reads n low = ap (λ b. cond b (Some n) None) (lt-ltb n (2 ^ 32) low)

pub same_text : (key : List ℕ) → bytes_eq key key ≡ true
same_text key = (bytes_eq-Decides key key).1 refl

-- ---- one row

three : (row : Row) → length row ≡ 3 → row ≡ column row 0 ∷ column row 1 ∷ column row 2 ∷ []
three [] h = absurd (omega arith)
three (a ∷ []) h = absurd (omega arith)
three (a ∷ b ∷ []) h = absurd (omega arith)
three (a ∷ b ∷ c ∷ []) h = refl
three (a ∷ b ∷ c ∷ d ∷ row) h = absurd (omega arith)

of_three : (row : Row) (u v w : Value) → (length row == 3) ≡ true → column row 0 ≡ u → column row 1 ≡ v → column row 2 ≡ w → row ≡ u ∷ v ∷ w ∷ []
of_three row u v w len p q r = three row (eqb-true (length row) 3 len) ∙ ap (λ x. x ∷ column row 1 ∷ column row 2 ∷ []) p ∙ ap (λ x. u ∷ x ∷ column row 2 ∷ []) q ∙ ap (λ x. u ∷ v ∷ x ∷ []) r

has_text_is : (row : Row) (place : ℕ) (text : List ℕ) → has_text row place text ≡ true → column row place ≡ Text text
has_text_is row place text h = go (text_of (column row place)) refl h
  where
    go : (o : Option (List ℕ)) → text_of (column row place) ≡ o → option_map_or (λ found. bytes_eq found text) o false ≡ true → column row place ≡ Text text
    go None is e = absurd (true≢false (sym e))
    go (Some found) is e = text_is _ found is ∙ ap Text ((bytes_eq-Decides found text).0 e)

-- the text was there
pub with_text_is : {X : Type 0} (row : Row) (place : ℕ) (text : List ℕ) (read : Option X) (x : X) → with_text row place text read ≡ Some x → (column row place ≡ Text text) × (read ≡ Some x)
with_text_is row place text read x h = let it = if_some (has_text row place text) read x h in (has_text_is row place text it.0, it.1)

pub with_text_there : {X : Type 0} (row : Row) (place : ℕ) (text : List ℕ) (read : Option X) → column row place ≡ Text text → with_text row place text read ≡ read
with_text_there row place text read is = ap (λ v. cond (option_map_or (λ found. bytes_eq found text) (text_of v) false) read None) is ∙ ap (λ b. cond b read None) (same_text text)

-- what reads as a number is that number
abbrev pub IsExact : (Value → Option ℕ) → Type 0
IsExact read = (v : Value) (n : ℕ) → read v ≡ Some n → v ≡ Int (pos n)

-- the number can be read again
abbrev pub IsRead : (Value → Option ℕ) → ℕ → Type 0
IsRead read n = read (Int (pos n)) ≡ Some n

pub item_for_is : (read : Value → Option ℕ) → IsExact read → (row : Row) (key : List ℕ) (item n : ℕ) → item_for read row key item ≡ Some n → row ≡ item_row key (item, n)
item_for_is read exact row key item n h =
    let whole = if_some (length row == 3) _ n h in
    let text = with_text_is row 0 key _ n whole.1 in
    let at = and_then_some _ (wide_number_of (column row 1)) n text.1 in
    let same = if_some (at.0 == item) _ n at.2 in
    of_three row (Text key) (Int (pos item)) (Int (pos n)) whole.0
    text.0
    (wide_number_is _ _ at.1 ∙ ap (λ x. Int (pos x)) (eqb-true at.0 item same.0))
    (exact _ _ same.1)

pub item_again : (read : Value → Option ℕ) (key : List ℕ) (item n : ℕ) → IsRead read n → item_for read (item_row key (item, n)) key item ≡ Some n
item_again read key item n is =
    ap (λ b. cond b (cond (item == item) (read (Int (pos n))) None) None) (same_text key)
    ∙ ap (λ b. cond b (read (Int (pos n))) None) (eq-eqb item item refl) ∙ is

-- ---- rows of numbers

abbrev pub number_rows : List ℕ → ℕ → List ℕ → List Row
number_rows key first ns = map (item_row key) (numbers_with_places first ns)

pub items_are : (read : Value → Option ℕ) → IsExact read → (key : List ℕ) (first : ℕ) (rows : List Row) (ns : List ℕ) → items_from read key first rows ≡ Some ns → rows ≡ number_rows key first ns
items_are read exact key first [] ns h = let e : ◌≡◌ {A = List ℕ} [] ns = (let k = h in cc) in subst (λ l. [] ≡ number_rows key first l) e refl
items_are read exact key first (row ∷ rows) ns h =
    let one = and_then_some _ (item_for read row key first) ns h in
    let rest = map_some _ (items_from read key (first + 1) rows) ns one.2 in
    subst (λ l. row ∷ rows ≡ number_rows key first l) rest.2 (ap₂ (λ r l. r ∷ l) (item_for_is read exact row key first one.0 one.1) (items_are read exact key (first + 1) rows rest.0 rest.1))

pub items_again : (read : Value → Option ℕ) (key : List ℕ) (first : ℕ) (ns : List ℕ) → AllByRecursion (IsRead read) ns → items_from read key first (number_rows key first ns) ≡ Some ns
items_again read key first [] is = refl
items_again read key first (n ∷ ns) is =
    ap (option_and_then (λ m. option_map (λ l. m ∷ l) (items_from read key (first + 1) (number_rows key (first + 1) ns)))) (item_again read key first n is.0)
    ∙ ap (option_map (λ l. n ∷ l)) (items_again read key (first + 1) ns is.1)
