-- What the matches of a command without subcommands have, where clap finds no fault: each value is
-- one that its argument takes, and what is required is there.
use Rattle.std.proofs.Common.{◌≡◌, ◌∙◌, ◌⊎◌, ℕ, Bool, cond, true, false, zero, suc, not, ◌&&◌, ◌||◌, refl, sym, ap, subst, List, [], ◌∷◌, ◌++◌, length, fold, Option, Some, None, is_some, true≢false, inl, inr}
use Rattle.std.specs.Prelude.{find, nat_lt, option_and_then, slice_get}
use Rattle.std.specs.List.{AllByRecursion as Each, list_any}
use Rattle.std.specs.Option.{option_map_or}
use Rattle.std.specs.Str.{bytes_eq, chars}
use Rattle.std.proofs.lemmas.Slice.Eq.{bytes_eq-Decides}
use Rattle.clap.specs.Walk.{Held, Outcome, Row, Rule, Step, Text, Waiting, Walk, action_of, after_flag, after_step, arg_by_id, arg_by_index, arg_by_long, arg_by_short, at_row, attached_value, bundle_met, bundle_step, default_rows, done, finished, first_of, flag_met, has_row, idle, is_pending, long_met, long_or_other, more_values, most_values, next, nothing_held, option, option_met, option_word, plain, plain_word, positional, reacted, reading_by, refused, rows_after, settled, settled_rows, short_met, short_or_plain, subcommand, subcommand_or_other, takes_several, takes_values, to_positional, trailing, used, used_as, used_by_id, value, values_or_missing, waits, walk, walk_from, walked, walked_from, with_default, with_values, without, word_met}
use Rattle.clap.specs.Facts.{explicit_source, parser_of_value, unwrap_or_range}
use Rattle.clap.specs.Lexer.{long_of, short_of}
use Rattle.clap.specs.Simple.{Shape}
use Rattle.clap.specs.Takes.{is_given}
use Rattle.clap.specs.Kinds.{Kinds, check_kinds, or_else, range_kinds, value_kinds, values_kinds}
use Rattle.clap.specs.Faults.{action_fault, bundle_step_fault, defaults_fault, flag_word_fault, flags_fault, level_fault, long_fault, option_fault, other_fault, react_fault, settle_fault, short_fault, step_fault, stray_fault, turn_fault, use_fault, walk_fault, word_fault}
use Rattle.clap.specs.declared.error.ErrorKind.{ErrorKind}
use Rattle.clap.specs.declared.error.ErrorKind.TheVariants as kind
use Rattle.clap.specs.declared.builder.ArgAction.{ArgAction}
use Rattle.clap.specs.declared.builder.ArgAction.TheVariants as action
use Rattle.clap.specs.declared.builder.value_parser.Reading.{Reading}
use Rattle.clap.specs.declared.parser.matches.ValueSource.{ValueSource}

pub not_empty : (k : ErrorKind) (ks : Kinds) → k ∷ ks ≡ [] → ⊥
not_empty k ks e = cc

pub both_empty : (a b : Kinds) → or_else a b ≡ [] → (a ≡ []) × (b ≡ [])
both_empty [] b e = (refl, e)
both_empty (k ∷ ks) b e = absurd (not_empty k ks e)

-- ---- searches

abbrev pub OnFound : {X : Type 0} → (X → Type 0) → Option X → Type 0
OnFound P None = Unit {0}
OnFound P (Some x) = P x

pub found_each : {X : Type 0} (P : X → Type 0) (p : X → Bool) (xs : List X) → Each P xs → OnFound (λ x. P x × (p x ≡ true)) (find p xs)
found_each P p [] h = tt
found_each {X} P p (x ∷ xs) h = go (p x) refl (found_each P p xs h.1)
  where
    go : (b : Bool) → p x ≡ b → OnFound (λ y. P y × (p y ≡ true)) (find p xs) → OnFound (λ y. P y × (p y ≡ true)) (cond b (Some x) (find p xs))
    go true is rest = (h.0, is)
    go false is rest = rest

pub found_rule : (P : Rule → Type 0) (p : Rule → Bool) (xs : List Rule) → Each P xs → OnFound P (find p xs)
found_rule P p xs h = go (find p xs) (found_each P p xs h)
  where
    go : (o : Option Rule) → OnFound (λ y. P y × (p y ≡ true)) o → OnFound P o
    go None f = tt
    go (Some x) f = f.0

each_append : (P : Row → Type 0) (xs ys : List Row) → Each P xs → Each P ys → Each P (xs ++ ys)
each_append P [] ys a b = b
each_append P (x ∷ xs) ys a b = (a.0, each_append P xs ys a.1 b)

-- ---- rows

-- the first of the values is one that the argument takes
abbrev pub Taken : Rule → List Text → Type 0
Taken a values = (v : Text) × (slice_get values 0 ≡ Some v) × (value_kinds a.ignore_case (parser_of_value a.parser) v ≡ [])

abbrev pub TakenBy : Option Rule → List Text → Type 0
TakenBy None values = Unit {0}
TakenBy (Some a) values = Taken a values

abbrev pub RowFits : List Rule → Row → Type 0
RowFits c r = TakenBy (arg_by_id c r.id) r.values

taken_more : (o : Option Rule) (values more : List Text) → TakenBy o values → TakenBy o (values ++ more)
taken_more None values more h = tt
taken_more (Some a) [] more h = let never : None ≡ Some h.0 = h.1 in cc
taken_more (Some a) (v ∷ vs) more h = h

at_row_fits : (P : Row → Type 0) (id : Text) (change : Row → List Row) (missing rows : List Row) → ((r : Row) → P r → Each P (change r))
    → Each P missing → Each P rows → Each P (at_row id change missing rows)
at_row_fits P id change missing [] step none h = none
at_row_fits P id change missing (r ∷ rs) step none h = go (bytes_eq r.id id) (at_row_fits P id change missing rs step none h.1)
  where
    go : (b : Bool) → Each P (at_row id change missing rs) → Each P (cond b (change r ++ rs) (r ∷ at_row id change missing rs))
    go true rest = each_append P (change r) rs (step r h.0) h.1
    go false rest = (h.0, rest)

without_fits : (c : List Rule) (id : Text) (rows : List Row) → Each (RowFits c) rows → Each (RowFits c) (without id rows)
without_fits c id rows h = at_row_fits (RowFits c) id (λ _. []) [] rows (λ r fits. tt) tt h

with_values_fits : (c : List Rule) (id : Text) (how : Reading) (s : ValueSource) (values : List Text) (rows : List Row) → TakenBy (arg_by_id c id) values
    → Each (RowFits c) rows → Each (RowFits c) (with_values id how s values rows)
with_values_fits c id how s values rows taken h =
    at_row_fits (RowFits c) id (more_values s values) _ rows (λ r fits. (taken_more (arg_by_id c r.id) r.values values fits, tt)) (taken, tt) h

-- ---- uses

-- a use has a value, or there is a value for a use with none; a call for help is no use
abbrev pub Gives : ArgAction → Rule → Type 0
Gives action.Set a = nat_lt 0 (unwrap_or_range a.range).start_inclusive ≡ true
Gives action.SetTrue a = Taken a a.missing
Gives action.Help a = Unit {0}
Gives _ a = ⊥

-- the argument is the one of its id, and has a value wherever it is used or has a default
abbrev pub IsReadable : List Rule → Rule → Type 0
IsReadable c a = (arg_by_id c a.id ≡ Some a) × Gives (action_of a) a × ((a.defaults ≡ []) ⊎ Taken a a.defaults)

some_taken : (a : Rule) (values : List Text) → values_kinds a.ignore_case (parser_of_value a.parser) (values_or_missing a values) ≡ []
    → (values ≡ [] → Taken a a.missing) → Taken a (values_or_missing a values)
some_taken a [] e none = none refl
some_taken a (v ∷ vs) e none = (v, refl, (both_empty _ _ e).0)

never_none : (least most : ℕ) → nat_lt 0 least ≡ true → range_kinds least most 0 ≡ [] → ⊥
never_none least most lt e = let e2 = rw lt at e in not_empty _ _ e2

set_none : (a : Rule) (values : List Text) → nat_lt 0 (unwrap_or_range a.range).start_inclusive ≡ true
    → range_kinds (unwrap_or_range a.range).start_inclusive (most_values a) (length values) ≡ [] → values ≡ [] → Taken a a.missing
set_none a [] lt e is = absurd (never_none _ _ lt e)
set_none a (v ∷ vs) lt e is = cc

used_fits : (c : List Rule) (again : Bool) (a : Rule) (values : List Text) (rows : List Row) → IsReadable c a → use_fault again a values rows ≡ []
    → Each (RowFits c) rows → Each (RowFits c) (used a values rows)
used_fits c again a values rows is e h = go (action_of a) is.1 parts.1
  where
    parts : (range_kinds (unwrap_or_range a.range).start_inclusive (most_values a) (length values) ≡ [])
        × (action_fault (action_of a) again a (values_or_missing a values) rows ≡ [])
    parts = both_empty _ _ e

    put : Taken a (values_or_missing a values) → Each (RowFits c) (used_as action.Set a.id (reading_by a) (values_or_missing a values) rows)
    put taken = with_values_fits c a.id (reading_by a) _ (values_or_missing a values) (without a.id rows)
        (subst (λ (o : Option Rule). TakenBy o (values_or_missing a values)) (sym is.0) taken) (without_fits c a.id rows h)

    go : (x : ArgAction) → Gives x a → action_fault x again a (values_or_missing a values) rows ≡ []
        → Each (RowFits c) (used_as x a.id (reading_by a) (values_or_missing a values) rows)
    go action.Set g f = put (some_taken a values (both_empty _ _ f).1 (set_none a values g parts.0))
    go action.SetTrue g f = put (some_taken a values (both_empty _ _ f).1 (λ none. g))
    go action.Help g f = absurd (not_empty _ _ f)
    go action.Append g f = absurd g
    go action.SetFalse g f = absurd g
    go action.Count g f = absurd g
    go action.HelpShort g f = absurd g
    go action.HelpLong g f = absurd g
    go action.Version g f = absurd g

-- ---- the walk

module _ (s : Shape) (readable : Each (IsReadable s.rules) s.rules) where
  abbrev Fits : List Row → Type 0
  Fits rows = Each (RowFits s.rules) rows

  settled_fits : (h : Held) → settle_fault s.rules s.args_override_self h ≡ [] → Fits h.rows → Fits (settled s.rules h).rows
  settled_fits h e fits = go h.pending e
    where
      by_id : (o : Option Rule) (values : List Text) → OnFound (IsReadable s.rules) o
          → option_map_or (λ a. use_fault s.args_override_self a values h.rows) o [] ≡ [] → Fits (used_by_id o values h.rows)
      by_id None values is f = fits
      by_id (Some a) values is f = used_fits s.rules s.args_override_self a values h.rows is f fits

      go : (o : Option (Text × List Text)) → option_map_or (λ p. option_map_or (λ a. use_fault s.args_override_self a p.1 h.rows) (arg_by_id s.rules p.0) []) o [] ≡ []
          → Fits (settled_rows s.rules o h.rows)
      go None f = fits
      go (Some p) f = by_id (arg_by_id s.rules p.0) p.1 (found_rule (IsReadable s.rules) (λ a. bytes_eq a.id p.0) s.rules readable) f

  reacted_fits : (a : Rule) (values : List Text) (h : Held) → IsReadable s.rules a → react_fault s.rules s.args_override_self a values h ≡ [] → Fits h.rows
      → Fits (reacted s.rules a values h).rows
  reacted_fits a values h is e fits =
      let parts = both_empty _ _ e in
      used_fits s.rules s.args_override_self a values (settled s.rules h).rows is parts.1 (settled_fits h parts.0 fits)

  option_fits : (a : Rule) (v : Option Text) (h : Held) → IsReadable s.rules a → option_fault s.rules s.args_override_self a v h ≡ [] → Fits h.rows
      → Fits (option_met s.rules a v h).0.rows
  option_fits a (Some v) h is e fits = reacted_fits a (v ∷ []) h is e fits
  option_fits a None h is e fits = settled_fits h e fits

  long_fits : (o : Option Rule) (v : Option Text) (h : Held) → OnFound (IsReadable s.rules) o → long_fault s.rules s.args_override_self o v h ≡ [] → Fits h.rows
      → Fits (long_met s.rules o v h).0.rows
  long_fits None v h is e fits = fits
  long_fits (Some a) v h is e fits = go (takes_values a) e
    where
      flag : (v : Option Text) → cond (is_some v) (kind.TooManyValues ∷ []) (react_fault s.rules s.args_override_self a [] h) ≡ [] → Fits (flag_met s.rules a v h).0.rows
      flag (Some v) f = fits
      flag None f = reacted_fits a [] h is f fits

      go : (b : Bool) → cond b (option_fault s.rules s.args_override_self a v h) (cond (is_some v) (kind.TooManyValues ∷ []) (react_fault s.rules s.args_override_self a [] h)) ≡ []
          → Fits (cond b (option_met s.rules a v h) (flag_met s.rules a v h)).0.rows
      go true f = option_fits a v h is f fits
      go false f = flag v f

  short_fits : (o : Option Rule) (rest : Text) (h : Held) (below : Held → Kinds) (on : Held → Held × Outcome)
      → ((h : Held) → below h ≡ [] → Fits h.rows → Fits (on h).0.rows) → OnFound (IsReadable s.rules) o
      → short_fault s.rules s.args_override_self o rest h below ≡ [] → Fits h.rows → Fits (short_met s.rules o rest h on).0.rows
  short_fits None rest h below on later is e fits = fits
  short_fits (Some a) rest h below on later is e fits = go (takes_values a) e
    where
      go : (b : Bool) → cond b (option_fault s.rules s.args_override_self a (attached_value rest) h)
          (or_else (react_fault s.rules s.args_override_self a [] h) (below (reacted s.rules a [] h))) ≡ []
          → Fits (cond b (option_met s.rules a (attached_value rest) h) (on (reacted s.rules a [] h))).0.rows
      go true f = option_fits a (attached_value rest) h is f fits
      go false f = let parts = both_empty _ _ f in later (reacted s.rules a [] h) parts.1 (reacted_fits a [] h is parts.0 fits)

  flags_fit : (k : ℕ) (flags : Text) (skip : ℕ) (so_far : Outcome) (h : Held) → flags_fault s.rules s.args_override_self k flags skip h ≡ [] → Fits h.rows
      → Fits (bundle_met s.rules k flags skip so_far h).0.rows
  unfolding bundle_met flags_fault
  flags_fit zero flags skip so_far h e fits = fits
  flags_fit (suc k) flags skip so_far h e fits = go (slice_get (chars flags) 0) skip (flags_fit k) e
    where
      go : (o : Option ℕ) (skip : ℕ)
          → ((flags : Text) (skip : ℕ) (so_far : Outcome) (h : Held) → flags_fault s.rules s.args_override_self k flags skip h ≡ [] → Fits h.rows
          → Fits (bundle_met s.rules k flags skip so_far h).0.rows)
          → bundle_step_fault s.rules s.args_override_self o flags skip h (flags_fault s.rules s.args_override_self k) ≡ []
          → Fits (bundle_step s.rules o flags skip so_far h (bundle_met s.rules k)).0.rows
      go None skip on f = fits
      go (Some x) zero on f = short_fits (arg_by_short s.rules x) _ h _ _ (λ h2 f2 fits2. on _ 0 done h2 f2 fits2) (found_rule (IsReadable s.rules) _ s.rules readable) f fits
      go (Some x) (suc skip) on f = on _ skip so_far h f fits

  plain_fits : (waiting : Waiting) (word : Text) (h : Held) → Fits h.rows → Fits (plain_word s.rules waiting word h).0.rows
  plain_fits idle word h fits = fits
  plain_fits positional word h fits = fits
  plain_fits (option id) word h fits = go (arg_by_id s.rules id)
    where
      go : (o : Option Rule) → Fits (option_word o id word h).0.rows
      go None = fits
      go (Some a) = fits

  flag_fits : (waiting : Waiting) (word : Text) (h : Held) (o : Outcome) → Fits h.rows → Fits (after_flag s.rules waiting word h o).0.rows
  flag_fits waiting word h done fits = fits
  flag_fits waiting word h (waits id) fits = fits
  flag_fits waiting word h plain fits = plain_fits waiting word h fits
  flag_fits waiting word h refused fits = plain_fits waiting word h fits

  bundle_fits : (waiting : Waiting) (word : Text) (o : Option Text) (h : Held)
      → option_map_or (λ flags. flags_fault s.rules s.args_override_self (length flags) flags h.skip (record h { skip = 0 })) o [] ≡ [] → Fits h.rows
      → Fits (short_or_plain s.rules waiting word o h).0.rows
  bundle_fits waiting word None h e fits = plain_fits waiting word h fits
  bundle_fits waiting word (Some flags) h e fits = flag_fits waiting word _ _ (flags_fit (length flags) flags h.skip plain (record h { skip = 0 }) e fits)

  flag_word_fits : (waiting : Waiting) (word : Text) (o : Option (Text × Option Text)) (h : Held) → flag_word_fault s.rules s.args_override_self o word h ≡ []
      → Fits h.rows → Fits (long_or_other s.rules waiting word o h).0.rows
  flag_word_fits waiting word None h e fits = bundle_fits waiting word (short_of word) h e fits
  flag_word_fits waiting word (Some p) h e fits =
      flag_fits waiting word _ _ (long_fits (arg_by_long s.rules p.0) p.1 h (found_rule (IsReadable s.rules) _ s.rules readable) e fits)

  other_fits : (waiting : Waiting) (position : ℕ) (word : Text) (h : Held) → other_fault s None word h ≡ [] → Fits h.rows
      → Fits (subcommand_or_other s.rules None waiting position word h).0.rows
  other_fits waiting position word h e fits = go (bytes_eq word (45 ∷ 45 ∷ [])) e
    where
      go : (b : Bool) → cond b [] (flag_word_fault s.rules s.args_override_self (long_of word) word h) ≡ []
          → Fits (cond b (h, trailing position) (long_or_other s.rules waiting word (long_of word) h)).0.rows
      go true f = fits
      go false f = flag_word_fits waiting word (long_of word) h f fits

  word_fits : (is_trailing : Bool) (waiting : Waiting) (position : ℕ) (word : Text) (h : Held) → word_fault s [] is_trailing waiting word h ≡ [] → Fits h.rows
      → Fits (word_met s.rules [] is_trailing waiting position word h).0.rows
  word_fits true waiting position word h e fits = fits
  word_fits false idle position word h e fits = other_fits idle position word h e fits
  word_fits false (option id) position word h e fits = other_fits (option id) position word h e fits
  word_fits false positional position word h e fits = other_fits positional position word h e fits

  step_fits : (word : Text) (w : Walk) (h : Held) (step : Step) → step_fault s w.position h step ≡ [] → Fits h.rows → Fits (after_step s.rules word w h step).held.rows
  step_fits word w h (next waiting) e fits = fits
  step_fits word w h (trailing position) e fits = fits
  step_fits word w h (subcommand name) e fits = fits
  step_fits word w h value e fits = go (arg_by_index s.rules w.position) e
    where
      kept : (a : Rule) (b : Bool) → cond b [] (settle_fault s.rules s.args_override_self h) ≡ [] → Fits (cond b h (settled s.rules h)).rows
      kept a true f = fits
      kept a false f = settled_fits h f fits

      go : (o : Option Rule) → option_map_or (λ a. cond (is_pending a h.pending && takes_several a) [] (settle_fault s.rules s.args_override_self h)) o (stray_fault s) ≡ []
          → Fits (to_positional s.rules o word w h).held.rows
      go None f = fits
      go (Some a) f = kept a (is_pending a h.pending && takes_several a) f

  turn_fits : (w : Walk) (word : Text) → turn_fault s [] w word ≡ [] → Fits w.held.rows → Fits (walked s.rules [] w word).held.rows
  unfolding walked
  turn_fits w word e fits = go w.stopped refl
    where
      go : (o : Option (Text × List Text)) → w.stopped ≡ o → Fits (walked_from s.rules [] o w word).held.rows
      go (Some p) at = fits
      go None at =
          let turn = rw at at e in
          let parts = both_empty _ _ turn in
          step_fits word w _ _ parts.1 (word_fits w.is_trailing w.waiting w.position word w.held parts.0 fits)

  walk_fits : (w : Walk) (words : List Text) → walk_fault s [] w words ≡ [] → Fits w.held.rows → Fits (fold (walked s.rules []) w words).held.rows
  unfolding walk_fault
  walk_fits w [] e fits = fits
  walk_fits w (word ∷ rest) e fits =
      let parts = both_empty _ _ e in
      walk_fits (walked s.rules [] w word) rest parts.1 (turn_fits w word parts.0 fits)

  -- ---- defaults

  default_rows_fit : (a : Rule) (values : List Text) (rows : List Row) → arg_by_id s.rules a.id ≡ Some a → (values ≡ []) ⊎ Taken a values → Fits rows
      → Fits (default_rows a.id (reading_by a) values rows)
  default_rows_fit a [] rows is own fits = fits
  default_rows_fit a (v ∷ vs) rows is (inl none) fits = cc
  default_rows_fit a (v ∷ vs) rows is (inr taken) fits =
      with_values_fits s.rules a.id (reading_by a) _ (v ∷ vs) rows (subst (λ (o : Option Rule). TakenBy o (v ∷ vs)) (sym is) taken) fits

  default_fits : (a : Rule) (rows : List Row) → IsReadable s.rules a → Fits rows → Fits (with_default rows a)
  default_fits a rows is fits = go (has_row a.id rows)
    where
      go : (b : Bool) → Fits (cond b rows (default_rows a.id (reading_by a) a.defaults rows))
      go true = fits
      go false = default_rows_fit a a.defaults rows is.0 is.2 fits

  defaults_fit : (rules : List Rule) (rows : List Row) → Each (IsReadable s.rules) rules → Fits rows → Fits (fold with_default rows rules)
  defaults_fit [] rows each fits = fits
  defaults_fit (a ∷ rest) rows each fits = defaults_fit rest (with_default rows a) each.1 (default_fits a rows each.0 fits)

-- ---- what is required

abbrev pub IsThere : List Row → Rule → Type 0
IsThere rows a = a.required ≡ true → is_given a.id rows ≡ true

no_kinds : (a b c : Bool) → check_kinds a b c ≡ [] → c ≡ false
no_kinds true b c e = absurd (not_empty _ _ e)
no_kinds false true c e = absurd (not_empty _ _ e)
no_kinds false false true e = absurd (not_empty _ _ e)
no_kinds false false false e = refl

there : (required given : Bool) → (required && not given) ≡ false → required ≡ true → given ≡ true
there true true e is = refl
there true false e is = absurd (true≢false e)
there false given e is = absurd (true≢false (sym is))

either : (a b : Bool) → (a || b) ≡ false → (a ≡ false) × (b ≡ false)
either true b e = absurd (true≢false e)
either false b e = (refl, e)

all_there : (rows : List Row) (rules : List Rule) → list_any (λ a. a.required && not (is_given a.id rows)) rules ≡ false → Each (IsThere rows) rules
all_there rows [] e = tt
all_there rows (a ∷ rest) e =
    let parts = either _ _ e in
    (there a.required (is_given a.id rows) parts.0, all_there rows rest parts.1)

-- ---- the matches

-- each row has a value that its argument takes first, and what is required is there
pub record LeafFits (s : Shape) (rows : List Row) : Type 0 where
  pub fits : Each (RowFits s.rules) rows
  pub given : Each (IsThere rows) s.rules

pub leaf_fits : (s : Shape) (words : List Text) → Each (IsReadable s.rules) s.rules → s.subcommand_negates_reqs ≡ false
    → level_fault s [] nothing_held words false [] ≡ [] → LeafFits s (rows_after s.rules [] words)
leaf_fits s words readable negates e =
    let end = (walk s.rules [] nothing_held words).held in
    let walked = both_empty (walk_fault s [] (walk_from nothing_held) words) _ e in
    let after = both_empty (settle_fault s.rules s.args_override_self end) _ walked.1 in
    let given = both_empty (defaults_fault (settled s.rules end).rows s.rules) _ after.1 in
    let walked_fits = walk_fits s readable (walk_from nothing_held) words walked.0 tt in
    let checked = rw negates at given.1 in
    record {
      fits = defaults_fit s readable s.rules (settled s.rules end).rows readable (settled_fits s readable end after.0 walked_fits);
      given = all_there (finished s.rules end) s.rules (no_kinds _ _ _ checked);
    }

-- the first value of an argument that was given
pub value_given : (c : List Rule) (rows : List Row) (id : Text) (a : Rule) → Each (RowFits c) rows → is_given id rows ≡ true → arg_by_id c id ≡ Some a
    → (v : Text) × (first_of id rows ≡ Some v) × (value_kinds a.ignore_case (parser_of_value a.parser) v ≡ [])
value_given c rows id a fits there is = go (find (λ r. bytes_eq r.id id) rows) (found_each (RowFits c) (λ r. bytes_eq r.id id) rows fits) there
  where
    go : (o : Option Row) → OnFound (λ r. RowFits c r × (bytes_eq r.id id ≡ true)) o → option_map_or (λ r. explicit_source r.source) o false ≡ true
        → (v : Text) × (option_and_then (λ r. slice_get r.values 0) o ≡ Some v) × (value_kinds a.ignore_case (parser_of_value a.parser) v ≡ [])
    go None f e = absurd (true≢false (sym e))
    go (Some r) f e =
        let same : r.id ≡ id = (bytes_eq-Decides r.id id).0 f.1 in
        subst (λ (o : Option Rule). TakenBy o r.values) (ap (arg_by_id c) same ∙ is) f.0
