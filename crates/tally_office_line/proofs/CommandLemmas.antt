-- Words that clap takes name one of the commands, with the arguments that it wants.
use Rattle.std.proofs.Common.{◌≡◌, ◌∙◌, ◌⊎◌, ◌≤◌, ℕ, Bool, cond, true, false, not, ◌&&◌, ◌||◌, refl, sym, ap, subst, List, [], ◌∷◌, fold, Option, Some, None, is_some, true≢false, codes, option_map, inl, inr, Box, Result, Ok, Err, IfErr, IfOk}
use Rattle.std.specs.Prelude.{find, option_and_then, unwrap_or}
use Rattle.std.specs.List.{AllByRecursion as Each, list_any}
use Rattle.std.specs.Option.{option_map_or}
use Rattle.std.specs.Str.{bytes_eq}
use Rattle.std.specs.Str.Parse.{digits_value, without_leading_plus}
use Rattle.std.proofs.lemmas.Slice.Eq.{bytes_eq-Decides}
use Rattle.clap.specs.Walk.{Held, Names, Outcome, Row, Rule, Step, Text, Waiting, Walk, after_flag, after_step, answers_to, arg_by_index, done, finished, first_of, idle, long_or_other, next, nothing_held, option, plain, plain_word, positional, refused, settled, short_or_plain, stop_after, subcommand, subcommand_or_other, to_positional, trailing, value, waits, walk, walk_from, walked, walked_from, word_met}
use Rattle.clap.specs.Takes.{is_given}
use Rattle.clap.specs.Facts.{explicit_source}
use Rattle.clap.specs.Lexer.{long_of, short_of}
use Rattle.clap.specs.Simple.{Shape, argument_words, built, entered, is_simple, names_of, new_shape, subcommand_of}
use Rattle.clap.specs.Kinds.{Kinds, check_kinds, or_else, value_kinds}
use Rattle.clap.specs.Faults.{check_fault, defaults_fault, entered_fault, fault_of, is_simple_and_free, level_fault, other_fault, settle_fault, turn_fault, walk_fault, word_fault}
use Rattle.clap.specs.ValueTests.{is_unsigned_in}
use Rattle.clap.specs.declared.error.ErrorKind.{ErrorKind}
use Rattle.clap.specs.declared.error.ErrorKind.TheVariants.{InvalidValue}
use Rattle.clap.specs.declared.builder.ValueParser.TheVariants as vp
use Rattle.clap.proofs.OnLiterals.{clap_on_literals}
use Rattle.clap.proofs.ValueTestLemmas.{accepts-Accepts}
use Rattle.clap.specs.Words.{HasKind, IsAmong, kind_of, subcommand_name_of, subcommand_rows, subcommand_rows_of}
use Rattle.clap.specs.declared.error.Error.{Error}
use Rattle.clap.specs.declared.parser.matches.ArgMatches.{ArgMatches}
use Rattle.clap.specs.declared.parser.matches.ArgMatches.TheViews.{out-SubCommand}
use Rattle.clap.specs.declared.parser.matches.SubCommand.{SubCommand}
use Rattle.std.specs.Box.{box_value}
use Rattle.std.specs.Result.{IsErrAnd}
use Rattle.tally_setup.specs.declared.profile.Base.{Base}
use Rattle.tally_setup.specs.declared.profile.Method.{Method}
use Rattle.tally_office_line.specs.Line.{AllotSeen, RecountSeen, base_given, lacks_rule, lacks_word, method_given, recount_given, wanted_by}
use Rattle.tally_office_line.specs.Line.{IsRefusal, IsLineWithinLimits, LineSeen, NewSeen, ImportSeen, ShowSeen, ServeSeen, fault_from, LacksCon, is_out_of_memory, is_set, lacks_con, lacks_report, line_of, line_of_command, line_seen, number_in_range, number_given, office_app, report_of, sep_given, show_line, show_seen, usage_kinds}
use Rattle.tally_office_line.specs.internal.Arguments.{IsCommandFault, has, has_arguments}
use Rattle.tally_office_line.specs.declared.line.Line.{Line}
use Rattle.tally_office_line.specs.declared.line.Line.TheVariants as line
use Rattle.tally_office_line.specs.declared.line.LineFault.{LineFault}
use Rattle.tally_office_line.specs.declared.line.LineFault.TheVariants.{Memory, NoCon, Usage}
use Rattle.tally_report_names.specs.Names.{needs_con}
use Rattle.tally_report_names.specs.declared.shown.Shown.{Shown}
use Rattle.tally_office_line.proofs.LeafLemmas.{IsReadable, LeafFits, OnFound, both_empty, found_each, leaf_fits, not_empty, value_given}

pub office_is_simple : is_simple office_app ≡ true
unfolding clap_on_literals
office_is_simple = refl

pub office_is_free : is_simple_and_free office_app ≡ true
unfolding clap_on_literals
office_is_free = refl

-- ---- the walk meets no command but these

abbrev IsCommand : Text → Type 0
IsCommand name = (name ≡ codes "check") ⊎ ((name ≡ codes "allot") ⊎ ((name ≡ codes "recount") ⊎ ((name ≡ codes "new") ⊎ ((name ≡ codes "import") ⊎ ((name ≡ codes "show") ⊎ (name ≡ codes "serve"))))))

abbrev office_names : Names
office_names = names_of (built office_app)

-- a name that is met is that of a command, or `help`
abbrev IsName : Text → Type 0
IsName name = bytes_eq name (codes "help") ≡ false → IsCommand name

names_are : Each (λ (l : Text × List Text). IsName l.0) office_names
names_are = (
  λ e. inl refl,
  (
    λ e. inr (inl refl),
    (
      λ e. inr (inr (inl refl)),
      (
        λ e. inr (inr (inr (inl refl))),
        (
          λ e. inr (inr (inr (inr (inl refl)))),
          (
            λ e. inr (inr (inr (inr (inr (inl refl))))),
            (λ e. inr (inr (inr (inr (inr (inr refl))))), (λ e. absurd (true≢false e), tt)),
          ),
        ),
      ),
    ),
  ),
)

name_met : (word : Text) → OnFound IsName (option_map (λ (l : Text × List Text). l.0) (find (answers_to word) office_names))
name_met word = go (find (answers_to word) office_names) (found_each (λ (l : Text × List Text). IsName l.0) (answers_to word) office_names names_are)
  where
    go : (o : Option (Text × List Text)) → OnFound (λ l. IsName l.0 × (answers_to word l ≡ true)) o → OnFound IsName (option_map (λ l. l.0) o)
    go None h = tt
    go (Some l) h = h.0

-- where the walk stopped, it stopped at a command
abbrev IsAtCommand : Option (Text × List Text) → Type 0
IsAtCommand None = Unit {0}
IsAtCommand (Some p) = IsCommand p.0

abbrev IsCommandStep : Step → Type 0
IsCommandStep (subcommand name) = IsCommand name
IsCommandStep _ = Unit {0}

plain_step : (c : List Rule) (waiting : Waiting) (word : Text) (h : Held) → IsCommandStep (plain_word c waiting word h).1
plain_step c (option id) word h = tt
plain_step c idle word h = tt
plain_step c positional word h = tt

flag_step : (c : List Rule) (waiting : Waiting) (word : Text) (h : Held) (o : Outcome) → IsCommandStep (after_flag c waiting word h o).1
flag_step c waiting word h done = tt
flag_step c waiting word h (waits id) = tt
flag_step c waiting word h plain = plain_step c waiting word h
flag_step c waiting word h refused = plain_step c waiting word h

short_step : (c : List Rule) (waiting : Waiting) (word : Text) (flags : Option Text) (h : Held) → IsCommandStep (short_or_plain c waiting word flags h).1
short_step c waiting word (Some flags) h = flag_step c waiting word _ _
short_step c waiting word None h = plain_step c waiting word h

long_step : (c : List Rule) (waiting : Waiting) (word : Text) (flag : Option (Text × Option Text)) (h : Held) → IsCommandStep (long_or_other c waiting word flag h).1
long_step c waiting word (Some p) h = flag_step c waiting word _ _
long_step c waiting word None h = short_step c waiting word (short_of word) h

-- a word that names no command
other_step : (c : List Rule) (waiting : Waiting) (position : ℕ) (word : Text) (h : Held) → IsCommandStep (subcommand_or_other c None waiting position word h).1
other_step c waiting position word h = go (bytes_eq word (45 ∷ 45 ∷ []))
  where
    go : (b : Bool) → IsCommandStep (cond b (h, trailing position) (long_or_other c waiting word (long_of word) h)).1
    go true = tt
    go false = long_step c waiting word (long_of word) h

no_help : (b : Bool) (k : ErrorKind) (ks : Kinds) → cond (b && true) (k ∷ ks) [] ≡ [] → b ≡ false
no_help true k ks e = absurd (not_empty k ks e)
no_help false k ks e = refl

module _ (s : Shape) (helps : s.disable_help_subcommand ≡ false) where
  named_step : (waiting : Waiting) (position : ℕ) (word : Text) (h : Held) (o : Option Text) → OnFound IsName o → other_fault s o word h ≡ []
      → IsCommandStep (subcommand_or_other s.rules o waiting position word h).1
  named_step waiting position word h None is e = other_step s.rules waiting position word h
  named_step waiting position word h (Some name) is e =
      let e2 = rw helps at e in
      is (no_help (bytes_eq name (codes "help")) _ _ e2)

  met_step : (is_trailing : Bool) (waiting : Waiting) (position : ℕ) (word : Text) (h : Held) → word_fault s office_names is_trailing waiting word h ≡ []
      → IsCommandStep (word_met s.rules office_names is_trailing waiting position word h).1
  met_step true waiting position word h e = tt
  met_step false idle position word h e = named_step idle position word h _ (name_met word) e
  met_step false (option id) position word h e = other_step s.rules (option id) position word h
  met_step false positional position word h e = other_step s.rules positional position word h

  positional_stop : (o : Option Rule) (word : Text) (w : Walk) (h : Held) → w.stopped ≡ None → IsAtCommand (to_positional s.rules o word w h).stopped
  positional_stop None word w h e = subst IsAtCommand (sym e) tt
  positional_stop (Some a) word w h e = tt

  step_stop : (word : Text) (w : Walk) (h : Held) (step : Step) → w.stopped ≡ None → IsCommandStep step → IsAtCommand (after_step s.rules word w h step).stopped
  step_stop word w h (next waiting) e is = subst IsAtCommand (sym e) tt
  step_stop word w h (trailing position) e is = subst IsAtCommand (sym e) tt
  step_stop word w h (subcommand name) e is = is
  step_stop word w h value e is = positional_stop (arg_by_index s.rules w.position) word w h e

  word_stop : (w : Walk) (word : Text) → IsAtCommand w.stopped → turn_fault s office_names w word ≡ [] → IsAtCommand (walked s.rules office_names w word).stopped
  unfolding walked
  word_stop w word is e = go w.stopped refl is
    where
      go : (o : Option (Text × List Text)) → w.stopped ≡ o → IsAtCommand o → IsAtCommand (walked_from s.rules office_names o w word).stopped
      go (Some p) at here = here
      go None at here =
          let turn = rw at at e in
          step_stop word w _ _ at (met_step w.is_trailing w.waiting w.position word w.held (both_empty _ _ turn).0)

  -- a walk without a fault stops at a command or nowhere
  walk_stop : (w : Walk) (words : List Text) → IsAtCommand w.stopped → walk_fault s office_names w words ≡ [] → IsAtCommand (fold (walked s.rules office_names) w words).stopped
  unfolding walk_fault
  walk_stop w [] is e = is
  walk_stop w (word ∷ rest) is e =
      let parts = both_empty _ _ e in
      walk_stop (walked s.rules office_names w word) rest (word_stop w word is parts.0) parts.1

-- ---- after the walk

wants_kinds : (wants_help wants_argument : Bool) → check_kinds wants_help true wants_argument ≡ [] → ⊥
wants_kinds true b e = not_empty _ _ e
wants_kinds false b e = not_empty _ _ e

wants_command : (s : Shape) (rows : List Row) (has_subcommand : Bool) → s.subcommand_required ≡ true → check_fault s rows has_subcommand ≡ [] → has_subcommand ≡ true
wants_command s rows true required e = refl
wants_command s rows false required e =
    let b = not (s.subcommand_negates_reqs && false) && list_any (λ a. a.required && not (is_given a.id rows)) s.rules in
    let e2 : check_kinds (s.arg_required_else_help && not (list_any (λ r. explicit_source r.source) rows)) true b ≡ [] = rw required at e in
    absurd (wants_kinds _ b e2)

record LevelParts (s : Shape) (names : Names) (h : Held) (words : List Text) (has_subcommand : Bool) (below : Kinds) : Type 0 where
  pub walks : walk_fault s names (walk_from h) words ≡ []
  pub enters : below ≡ []
  pub checks : check_fault s (finished s.rules (walk s.rules names h words).held) has_subcommand ≡ []

level_parts : (s : Shape) (names : Names) (h : Held) (words : List Text) (has_subcommand : Bool) (below : Kinds) → level_fault s names h words has_subcommand below ≡ []
    → LevelParts s names h words has_subcommand below
level_parts s names h words has_subcommand below e =
    let end = (walk s.rules names h words).held in
    let walked = both_empty (walk_fault s names (walk_from h) words) _ e in
    let entered = both_empty below _ walked.1 in
    let after = both_empty (settle_fault s.rules s.args_override_self end) _ entered.1 in
    let given = both_empty (defaults_fault (settled s.rules end).rows s.rules) _ after.1 in
    record { walks = walked.0; enters = entered.0; checks = given.1 }

-- ---- the arguments of each command

abbrev command_named : Text → Shape
command_named name = unwrap_or (find (λ s. bytes_eq s.name name) (built office_app).subs) (new_shape name)

both_true : (a b : Bool) → a ≡ true → b ≡ true → (a && b) ≡ true
both_true true true h k = refl
both_true false b h k = h
both_true true false h k = k

allot_readable : Each (IsReadable (command_named (codes "allot")).rules) (command_named (codes "allot")).rules
allot_readable = (
  (refl, refl, inl refl),
  (
    (refl, refl, inl refl),
    (
      (refl, refl, inl refl),
      (
        (refl, refl, inl refl),
        (
          (refl, refl, inl refl),
          (
            (refl, refl, inl refl),
            (
              (refl, (codes "true", refl, refl), inr (codes "false", refl, refl)),
              (
                (refl, (codes "true", refl, refl), inr (codes "false", refl, refl)),
                ((refl, (codes "true", refl, refl), inr (codes "false", refl, refl)), ((refl, tt, inl refl), tt)),
              ),
            ),
          ),
        ),
      ),
    ),
  ),
)

recount_readable : Each (IsReadable (command_named (codes "recount")).rules) (command_named (codes "recount")).rules
recount_readable = (
  (refl, refl, inl refl),
  (
    (refl, refl, inl refl),
    (
      (refl, refl, inl refl),
      (
        (refl, refl, inl refl),
        (
          (refl, (codes "true", refl, refl), inr (codes "false", refl, refl)),
          (
            (refl, (codes "true", refl, refl), inr (codes "false", refl, refl)),
            ((refl, (codes "true", refl, refl), inr (codes "false", refl, refl)), ((refl, tt, inl refl), tt)),
          ),
        ),
      ),
    ),
  ),
)

new_readable : Each (IsReadable (command_named (codes "new")).rules) (command_named (codes "new")).rules
new_readable = ((refl, refl, inl refl), ((refl, refl, inl refl), ((refl, tt, inl refl), tt)))

import_readable : Each (IsReadable (command_named (codes "import")).rules) (command_named (codes "import")).rules
import_readable = (
  (refl, refl, inl refl),
  (
    (refl, refl, inl refl),
    (
      (refl, refl, inl refl),
      (
        (refl, (codes "true", refl, refl), inr (codes "false", refl, refl)),
        ((refl, (codes "true", refl, refl), inr (codes "false", refl, refl)), ((refl, tt, inl refl), tt)),
      ),
    ),
  ),
)

show_readable : Each (IsReadable (command_named (codes "show")).rules) (command_named (codes "show")).rules
show_readable = ((refl, refl, inl refl), ((refl, refl, inl refl), ((refl, refl, inl refl), ((refl, tt, inl refl), tt))))

serve_readable : Each (IsReadable (command_named (codes "serve")).rules) (command_named (codes "serve")).rules
serve_readable = ((refl, refl, inl refl), ((refl, refl, inl refl), ((refl, refl, inl refl), ((refl, tt, inl refl), tt))))

accepted : (b : Bool) (k : ErrorKind) → cond b [] (k ∷ []) ≡ [] → b ≡ true
accepted true k e = refl
accepted false k e = absurd (not_empty k [] e)

number_some : (low high : ℕ) (text : Text) → is_unsigned_in low high text ≡ true → is_some (number_in_range low high text) ≡ true
number_some low high text is = rw is refl

-- a number that clap takes is one
read_number : (low high : ℕ) (o : Option Text) → (v : Text) × (o ≡ Some v) × (value_kinds false (vp.Unsigned low high) v ≡ [])
    → is_some (option_and_then (number_in_range low high) o) ≡ true
read_number low high o given =
    ap (λ (x : Option Text). is_some (option_and_then (number_in_range low high) x)) given.1 ∙ number_some low high given.0 (accepted _ _ given.2)

allot_has : (rows : List Row) → LeafFits (command_named (codes "allot")) rows → has_arguments (codes "allot", rows) ≡ true
allot_has rows leaf =
    let c = (command_named (codes "allot")).rules in
    let seats = value_given c rows (codes "seats") _ leaf.fits (leaf.given.0 refl) refl in
    let method = value_given c rows (codes "method") _ leaf.fits (leaf.given.1.0 refl) refl in
    both_true _ _ (read_number 1 500 _ seats) (ap is_some method.1)

recount_has : (rows : List Row) → LeafFits (command_named (codes "recount")) rows → has_arguments (codes "recount", rows) ≡ true
recount_has rows leaf =
    let c = (command_named (codes "recount")).rules in
    let setup = value_given c rows (codes "setup") _ leaf.fits (leaf.given.0 refl) refl in
    let con = value_given c rows (codes "con") _ leaf.fits (leaf.given.1.0 refl) refl in
    both_true _ _ (ap is_some setup.1) (ap is_some con.1)

new_has : (rows : List Row) → LeafFits (command_named (codes "new")) rows → has_arguments (codes "new", rows) ≡ true
new_has rows leaf =
    let c = (command_named (codes "new")).rules in
    let db = value_given c rows (codes "db") _ leaf.fits (leaf.given.0 refl) refl in
    let setup = value_given c rows (codes "setup") _ leaf.fits (leaf.given.1.0 refl) refl in
    both_true _ _ (ap is_some db.1) (ap is_some setup.1)

import_has : (rows : List Row) → LeafFits (command_named (codes "import")) rows → has_arguments (codes "import", rows) ≡ true
import_has rows leaf =
    let c = (command_named (codes "import")).rules in
    let db = value_given c rows (codes "db") _ leaf.fits (leaf.given.0 refl) refl in
    let con = value_given c rows (codes "con") _ leaf.fits (leaf.given.1.0 refl) refl in
    let csv = value_given c rows (codes "csv") _ leaf.fits (leaf.given.1.1.0 refl) refl in
    both_true _ _ (ap is_some db.1) (both_true _ _ (ap is_some con.1) (ap is_some csv.1))

show_has : (rows : List Row) → LeafFits (command_named (codes "show")) rows → has_arguments (codes "show", rows) ≡ true
show_has rows leaf =
    let c = (command_named (codes "show")).rules in
    let db = value_given c rows (codes "db") _ leaf.fits (leaf.given.0 refl) refl in
    let name = value_given c rows (codes "report") _ leaf.fits (leaf.given.1.0 refl) refl in
    both_true _ _ (ap is_some db.1) (ap is_some name.1)

serve_has : (rows : List Row) → LeafFits (command_named (codes "serve")) rows → has_arguments (codes "serve", rows) ≡ true
serve_has rows leaf =
    let c = (command_named (codes "serve")).rules in
    let db = value_given c rows (codes "db") _ leaf.fits (leaf.given.0 refl) refl in
    let port = value_given c rows (codes "port") _ leaf.fits (leaf.given.1.0 refl) refl in
    let count = value_given c rows (codes "count") _ leaf.fits (leaf.given.1.1.0 refl) refl in
    both_true _ _ (ap is_some db.1) (both_true _ _ (read_number 1 65535 _ port) (read_number 1 1000000 _ count))

both_parts : (a b : Bool) → (a && b) ≡ true → (a ≡ true) × (b ≡ true)
both_parts true b e = (refl, e)
both_parts false b e = absurd (true≢false (sym e))

-- what is known of the arguments of `serve`
pub serve_arguments : (name : Text) (rows : List Row) → name ≡ codes "serve" → has_arguments (name, rows) ≡ true
    → (has (codes "db") rows ≡ true) × (is_some (number_given (codes "port") 1 65535 rows) ≡ true) × (is_some (number_given (codes "count") 1 1000000 rows) ≡ true)
serve_arguments name rows is e =
    let given : has_arguments (codes "serve", rows) ≡ true = subst (λ (n : Text). has_arguments (n, rows) ≡ true) is e in
    let db = both_parts _ _ given in
    let numbers = both_parts _ _ db.1 in
    (db.0, numbers.0, numbers.1)

-- and of those of `allot`
pub allot_arguments : (name : Text) (rows : List Row) → name ≡ codes "allot" → has_arguments (name, rows) ≡ true
    → (is_some (number_given (codes "seats") 1 500 rows) ≡ true) × (has (codes "method") rows ≡ true)
allot_arguments name rows is e =
    let given : has_arguments (codes "allot", rows) ≡ true = subst (λ (n : Text). has_arguments (n, rows) ≡ true) is e in
    both_parts _ _ given

-- ---- the command that is entered

abbrev pub NamesCommand : Option (Text × List Row) → Type 0
NamesCommand o = (name : Text) × (rows : List Row) × (o ≡ Some (name, rows)) × (has_arguments (name, rows) ≡ true)

abbrev Entered : List Text → Text → Type 0
Entered words name = entered_fault (built office_app) (Some (name, words)) ≡ [] → NamesCommand (entered (built office_app) (Some (name, words)))

entered_check : (words : List Text) → Entered words (codes "check")
entered_check words e = (codes "check", _, refl, refl)

entered_allot : (words : List Text) → Entered words (codes "allot")
entered_allot words e = (codes "allot", _, refl, allot_has _ (leaf_fits (command_named (codes "allot")) words allot_readable refl e))

entered_recount : (words : List Text) → Entered words (codes "recount")
entered_recount words e = (codes "recount", _, refl, recount_has _ (leaf_fits (command_named (codes "recount")) words recount_readable refl e))

entered_new : (words : List Text) → Entered words (codes "new")
entered_new words e = (codes "new", _, refl, new_has _ (leaf_fits (command_named (codes "new")) words new_readable refl e))

entered_import : (words : List Text) → Entered words (codes "import")
entered_import words e = (codes "import", _, refl, import_has _ (leaf_fits (command_named (codes "import")) words import_readable refl e))

entered_show : (words : List Text) → Entered words (codes "show")
entered_show words e = (codes "show", _, refl, show_has _ (leaf_fits (command_named (codes "show")) words show_readable refl e))

entered_serve : (words : List Text) → Entered words (codes "serve")
entered_serve words e = (codes "serve", _, refl, serve_has _ (leaf_fits (command_named (codes "serve")) words serve_readable refl e))

entered_named : (words : List Text) (name : Text) → IsCommand name → Entered words name
entered_named words name (inl is) = subst (Entered words) (sym is) (entered_check words)
entered_named words name (inr (inl is)) = subst (Entered words) (sym is) (entered_allot words)
entered_named words name (inr (inr (inl is))) = subst (Entered words) (sym is) (entered_recount words)
entered_named words name (inr (inr (inr (inl is)))) = subst (Entered words) (sym is) (entered_new words)
entered_named words name (inr (inr (inr (inr (inl is))))) = subst (Entered words) (sym is) (entered_import words)
entered_named words name (inr (inr (inr (inr (inr (inl is)))))) = subst (Entered words) (sym is) (entered_show words)
entered_named words name (inr (inr (inr (inr (inr (inr is)))))) = subst (Entered words) (sym is) (entered_serve words)

entered_command : (stop : Option (Text × List Text)) → IsAtCommand stop → is_some (entered (built office_app) stop) ≡ true
    → entered_fault (built office_app) stop ≡ [] → NamesCommand (entered (built office_app) stop)
entered_command None is e none = absurd (true≢false (sym e))
entered_command (Some p) is e none = entered_named p.1 p.0 is none

-- words without a fault name a command, with the arguments that it wants
pub names_command : (words : List Text) → fault_of office_app words ≡ [] → NamesCommand (subcommand_of office_app words)
names_command words e =
    let office = built office_app in
    let given = argument_words office words in
    let stop = stop_after office.top.rules office_names given in
    let parts = level_parts office.top office_names nothing_held given (is_some (entered office stop)) (entered_fault office stop) e in
    entered_command stop (walk_stop office.top refl (walk_from nothing_held) given tt parts.walks)
    (wants_command office.top (finished office.top.rules (walk office.top.rules office_names nothing_held given).held) _ refl parts.checks) parts.enters

-- ---- the line that is read

names_rows : {Z : Type 0} (o : Option (Box SubCommand Z)) → option_map (λ b. (out-SubCommand (box_value b)).name.now) o ≡ option_map (λ p. p.0) (subcommand_rows o)
names_rows None = refl
names_rows (Some b) = refl

-- clap finds no fault in the words, and this command in them, with these rows
pub record IsAsked (words : List Text) (name : Text) (rows : List Row) : Type 0 where
  pub none : fault_of office_app words ≡ []
  pub asks : subcommand_of office_app words ≡ Some (name, rows)
  pub arguments : has_arguments (name, rows) ≡ true

-- the matches of words without a fault have a command
pub record HasCommand (words : List Text) (m : ArgMatches) : Type 0 where
  pub name : Text
  pub rows : List Row
  pub named : subcommand_name_of m ≡ Some name
  pub found : option_map (λ p. p.1) (subcommand_rows_of m) ≡ Some rows
  pub asked : IsAsked words name rows

pub has_command : (words : List Text) (m : ArgMatches) → fault_of office_app words ≡ [] → subcommand_rows_of m ≡ subcommand_of office_app words → HasCommand words m
has_command words m none same =
    let command = names_command words none in
    let is : subcommand_rows_of m ≡ Some (command.0, command.1) = same ∙ command.2 in
    record {
      name = command.0;
      rows = command.1;
      named = names_rows _ ∙ ap (option_map (λ (p : Text × List Row). p.0)) is;
      found = ap (option_map (λ (p : Text × List Row). p.1)) is;
      asked = record { none = none; asks = command.2; arguments = command.3 };
    }

-- the name and the rows that the matches give are those of the command
pub asked_by : (words : List Text) (m : ArgMatches) → HasCommand words m → (name : Text) (rows : List Row) → Some name ≡ subcommand_name_of m
    → Some rows ≡ option_map (λ p. p.1) (subcommand_rows_of m) → IsAsked words name rows
asked_by words m has name rows named found =
    let same_name : has.name ≡ name = cc (named ∙ has.named) in
    let same_rows : has.rows ≡ rows = cc (found ∙ has.found) in
    subst (IsAsked words name) same_rows (subst (λ (n : Text). IsAsked words n has.rows) same_name has.asked)

pub line_is : (words : List Text) (name : Text) (rows : List Row) → IsAsked words name rows → line_of words ≡ line_of_command (name, rows)
line_is words name rows asked = rw (asked.none, asked.asks) refl

-- ---- limits

-- a line that is seen is within its limits
abbrev IsSeenWithin : LineSeen → Type 0
IsSeenWithin (ServeSeen db port count) = (1 ≤ port) × (port ≤ 65535) × (1 ≤ count) × (count ≤ 1000000)
IsSeenWithin (ShowSeen db name con) = needs_con name ≡ true → is_some con ≡ true
IsSeenWithin _ = Unit {0}

number_within : (low high : ℕ) (o : Option Text) → OnFound (λ n. (low ≤ n) × (n ≤ high)) (option_and_then (number_in_range low high) o)
number_within low high None = tt
number_within low high (Some text) = go (is_unsigned_in low high text) refl
  where
    go : (b : Bool) → is_unsigned_in low high text ≡ b → OnFound (λ n. (low ≤ n) × (n ≤ high)) (cond b (Some (digits_value 10 (without_leading_plus text))) None)
    go true is = let in' = accepts-Accepts false (vp.Unsigned low high) text is in (in'.2, in'.3)
    go false is = tt

allot_within : (seats : Option ℕ) (method : Option Method) (base : Option Base) (rows : List Row)
    → OnFound IsSeenWithin (option_and_then (λ s. option_and_then (λ m. option_and_then (λ b. Some (AllotSeen (wanted_by rows s m b))) base) method) seats)
allot_within None method base rows = tt
allot_within (Some s) None base rows = tt
allot_within (Some s) (Some m) None rows = tt
allot_within (Some s) (Some m) (Some b) rows = tt

recount_within : (setup con : Option Text) (rows : List Row)
    → OnFound IsSeenWithin (option_and_then (λ s. option_and_then (λ c. Some (RecountSeen s c (recount_given rows))) con) setup)
recount_within None con rows = tt
recount_within (Some s) None rows = tt
recount_within (Some s) (Some c) rows = tt

new_within : (db setup : Option Text) → OnFound IsSeenWithin (option_and_then (λ d. option_and_then (λ s. Some (NewSeen d s)) setup) db)
new_within None setup = tt
new_within (Some d) None = tt
new_within (Some d) (Some s) = tt

import_within : (db con csv : Option Text) (rows : List Row)
    → OnFound IsSeenWithin (option_and_then (λ d. option_and_then (λ c. option_and_then (λ v. Some (ImportSeen d c v (sep_given rows) (is_set (codes "rows") rows))) csv) con) db)
import_within None con csv rows = tt
import_within (Some d) None csv rows = tt
import_within (Some d) (Some c) None rows = tt
import_within (Some d) (Some c) (Some v) rows = tt

shown_within : (db : Text) (name : Shown) (con : Option Text) → OnFound IsSeenWithin (show_seen db name con)
shown_within db name con = go (needs_con name) refl con
  where
    go : (b : Bool) → needs_con name ≡ b → (con : Option Text) → OnFound IsSeenWithin (cond (b && not (is_some con)) None (Some (ShowSeen db name con)))
    go true is (Some c) = λ needs. refl
    go true is None = tt
    go false is con = λ needs. absurd (true≢false (sym needs ∙ is))

show_within : (db : Option Text) (name : Option Shown) (con : Option Text) → OnFound IsSeenWithin (option_and_then (λ d. option_and_then (λ n. show_seen d n con) name) db)
show_within None name con = tt
show_within (Some d) None con = tt
show_within (Some d) (Some n) con = shown_within d n con

serve_within : (db : Option Text) (port count : Option ℕ) → OnFound (λ n. (1 ≤ n) × (n ≤ 65535)) port → OnFound (λ n. (1 ≤ n) × (n ≤ 1000000)) count
    → OnFound IsSeenWithin (option_and_then (λ d. option_and_then (λ p. option_and_then (λ c. Some (ServeSeen d p c)) count) port) db)
serve_within None port count h k = tt
serve_within (Some d) None count h k = tt
serve_within (Some d) (Some p) None h k = tt
serve_within (Some d) (Some p) (Some c) h k = (h.0, h.1, k.0, k.1)

one_of_two : (b : Bool) (x y : Option LineSeen) → OnFound IsSeenWithin x → OnFound IsSeenWithin y → OnFound IsSeenWithin (cond b x y)
one_of_two true x y h k = h
one_of_two false x y h k = k

command_within : (p : Text × List Row) → OnFound IsSeenWithin (line_of_command p)
command_within p =
    one_of_two (bytes_eq p.0 (codes "check")) _ _ tt
    (one_of_two (bytes_eq p.0 (codes "allot")) _ _ (allot_within (number_given (codes "seats") 1 500 p.1) (method_given p.1) (base_given p.1) p.1)
    (one_of_two (bytes_eq p.0 (codes "recount")) _ _ (recount_within (first_of (codes "setup") p.1) (first_of (codes "con") p.1) p.1)
    (one_of_two (bytes_eq p.0 (codes "new")) _ _ (new_within (first_of (codes "db") p.1) (first_of (codes "setup") p.1))
    (one_of_two (bytes_eq p.0 (codes "import")) _ _ (import_within (first_of (codes "db") p.1) (first_of (codes "con") p.1) (first_of (codes "csv") p.1) p.1)
    (one_of_two (bytes_eq p.0 (codes "show")) _ _ (show_within (first_of (codes "db") p.1) (report_of p.1) (first_of (codes "con") p.1))
    (one_of_two (bytes_eq p.0 (codes "serve")) _ _
    (serve_within (first_of (codes "db") p.1) (number_given (codes "port") 1 65535 p.1) (number_given (codes "count") 1 1000000 p.1)
    (number_within 1 65535 (first_of (codes "port") p.1)) (number_within 1 1000000 (first_of (codes "count") p.1))) tt))))))

is_some_text : {T : Type 0} (f : T → Text) (o : Option T) → is_some (option_map f o) ≡ is_some o
is_some_text f None = refl
is_some_text f (Some x) = refl

seen_within : (l : Line) → IsSeenWithin (line_seen l) → IsLineWithinLimits l
seen_within (line.Check sep rows) h = tt
seen_within (line.Allot options) h = tt
seen_within (line.Recount setup con options) h = tt
seen_within (line.New db setup) h = tt
seen_within (line.Import db con csv sep rows) h = tt
seen_within (line.Show db name con) h = λ needs. sym (is_some_text _ con) ∙ h needs
seen_within (line.Serve db port count) h = h

pub within_limits : (p : Text × List Row) (l : Line) → line_of_command p ≡ Some (line_seen l) → IsLineWithinLimits l
within_limits p l is = seen_within l (subst (OnFound IsSeenWithin) is (command_within p))

-- ---- refusals

is_not : (b : Bool) → not b ≡ true → b ≡ false
is_not true e = absurd (true≢false (sym e))
is_not false e = refl

no_show : (db : Option Text) (name : Option Shown) (con : Option Text) → is_some name ≡ false → option_and_then (λ d. option_and_then (λ n. show_seen d n con) name) db ≡ None
no_show None name con e = refl
no_show (Some d) None con e = refl
no_show (Some d) (Some n) con e = absurd (true≢false e)

show_wants : (db : Option Text) (name : Option Shown) (con : Option Text) → option_map_or needs_con name false ≡ true → is_some con ≡ false
    → option_and_then (λ d. option_and_then (λ n. show_seen d n con) name) db ≡ None
show_wants None name con needs e = refl
show_wants (Some d) None con needs e = refl
show_wants (Some d) (Some n) con needs e = rw (needs, e) refl

of_show : (name : Text) (rows : List Row) → bytes_eq name (codes "show") ≡ true → show_line rows ≡ None → line_of_command (name, rows) ≡ None
of_show name rows is none =
    let same : name ≡ codes "show" = (bytes_eq-Decides name (codes "show")).0 is in
    ap (λ (n : Text). line_of_command (n, rows)) same ∙ none

pub lacks_report_line : (name : Text) (rows : List Row) → lacks_report (name, rows) ≡ true → line_of_command (name, rows) ≡ None
lacks_report_line name rows lacks =
    let parts = both_parts _ _ lacks in
    of_show name rows parts.0 (no_show (first_of (codes "db") rows) (report_of rows) (first_of (codes "con") rows) (is_not _ parts.1))

no_allot : (rows : List Row) (seats : Option ℕ) (method : Option Method) (base : Option Base) → (is_some method && is_some base) ≡ false
    → option_and_then (λ s. option_and_then (λ m. option_and_then (λ b. Some (AllotSeen (wanted_by rows s m b))) base) method) seats ≡ None
no_allot rows None method base e = refl
no_allot rows (Some s) None base e = refl
no_allot rows (Some s) (Some m) None e = refl
no_allot rows (Some s) (Some m) (Some b) e = absurd (true≢false e)

lacks_rule_line : (name : Text) (rows : List Row) → lacks_rule (name, rows) ≡ true → line_of_command (name, rows) ≡ None
lacks_rule_line name rows lacks =
    let parts = both_parts _ _ lacks in
    let same : name ≡ codes "allot" = (bytes_eq-Decides name (codes "allot")).0 parts.0 in
    ap (λ (n : Text). line_of_command (n, rows)) same
    ∙ no_allot rows (number_given (codes "seats") 1 500 rows) (method_given rows) (base_given rows) (is_not _ parts.1)

pub lacks_word_line : (name : Text) (rows : List Row) → lacks_word (name, rows) ≡ true → line_of_command (name, rows) ≡ None
lacks_word_line name rows lacks = go (lacks_report (name, rows)) refl lacks
  where
    go : (r : Bool) → lacks_report (name, rows) ≡ r → (r || lacks_rule (name, rows)) ≡ true → line_of_command (name, rows) ≡ None
    go true is e = lacks_report_line name rows is
    go false is e = lacks_rule_line name rows e

pub lacks_con_line : (name : Text) (rows : List Row) → lacks_con (name, rows) ≡ true → line_of_command (name, rows) ≡ None
lacks_con_line name rows lacks =
    let parts = both_parts _ _ lacks in
    let wants = both_parts _ _ parts.1 in
    of_show name rows parts.0 (show_wants (first_of (codes "db") rows) (report_of rows) (first_of (codes "con") rows) wants.0 (is_not _ wants.1))

-- why a command has no line is why the words are refused
pub command_refuses : (words : List Text) (name : Text) (rows : List Row) → IsAsked words name rows → (fault : LineFault) → IsCommandFault (name, rows) fault → IsRefusal words fault
command_refuses words name rows asked (Usage e) h =
    let none : line_of words ≡ None = line_is words name rows asked ∙ lacks_word_line name rows h.0 in
    let kinds : usage_kinds words ≡ InvalidValue ∷ [] = rw (asked.none, asked.asks, h.0) refl in
    (none, subst (IsAmong (kind_of e)) (sym kinds) (inl h.1))
command_refuses words name rows asked NoCon h =
    (line_is words name rows asked ∙ lacks_con_line name rows h, asked.none, ap (λ o. option_map_or lacks_con o false) asked.asks ∙ h)
command_refuses words name rows asked Memory h = tt

-- what the clauses on reading a command come to
pub line_read : (words : List Text) (name : Text) (rows : List Row) (r : Result Line LineFault) → IsAsked words name rows
    → IfOk r (λ l. line_of_command (name, rows) ≡ Some (line_seen l)) → IfOk r (λ l. line_of words ≡ Some (line_seen l))
line_read words name rows (Ok l) asked is = line_is words name rows asked ∙ is
line_read words name rows (Err f) asked is = tt

pub limits_read : (name : Text) (rows : List Row) (r : Result Line LineFault) → IfOk r (λ l. line_of_command (name, rows) ≡ Some (line_seen l)) → IfOk r IsLineWithinLimits
limits_read name rows (Ok l) is = within_limits (name, rows) l is
limits_read name rows (Err f) is = tt

pub fault_read : (words : List Text) (name : Text) (rows : List Row) (r : Result Line LineFault) → IsAsked words name rows
    → IfErr r (IsCommandFault (name, rows)) → IfErr r (IsRefusal words)
fault_read words name rows (Ok l) asked is = tt
fault_read words name rows (Err f) asked is = command_refuses words name rows asked f is

no_line : (words : List Text) (k : ErrorKind) (ks : Kinds) → IsAmong k ks → fault_of office_app words ≡ ks → line_of words ≡ None
no_line words k [] among is = absurd among
no_line words k (x ∷ xs) among is = rw is refl

among_first : (k : ErrorKind) (ks more : Kinds) → IsAmong k ks → IsAmong k (or_else ks more)
among_first k [] more among = absurd among
among_first k (x ∷ xs) more among = among

-- an error of clap is a refusal of the words
pub refuses : (words : List Text) (e : Error) → HasKind (fault_of office_app words) e → IsRefusal words (fault_from e)
refuses words e has = go (is_out_of_memory (kind_of e)) refl
  where
    among : (b : Bool) → is_out_of_memory (kind_of e) ≡ b → b ≡ false → IsAmong (kind_of e) (fault_of office_app words)
    among b is off = elim has [ inl oom ↦ absurd (true≢false (sym (ap is_out_of_memory oom) ∙ is ∙ off)) | inr k ↦ k ]

    go : (b : Bool) → is_out_of_memory (kind_of e) ≡ b → IsRefusal words (cond b Memory (Usage e))
    go true is = tt
    go false is = let k = among false is refl in (no_line words _ _ k refl, among_first _ _ _ k)

pub refused_line : {T : Type 0} (P : LineFault → Type 0) (fault : LineFault) (r : Result T LineFault) → IsErrAnd r (λ f. f ≡ fault) → P fault → IfErr r P
refused_line P fault (Ok v) is holds = absurd is
refused_line P fault (Err f) is holds = subst P (sym is) holds

-- ---- the words lack the constituency

needs_named : (name : Option Shown) → option_map_or needs_con name false ≡ true → not (is_some name) ≡ false
needs_named None e = absurd (true≢false (sym e))
needs_named (Some n) e = refl

both_false : (a b : Bool) → b ≡ false → (a && b) ≡ false
both_false true b e = e
both_false false b e = refl

show_not_allot : (name : Text) → bytes_eq name (codes "show") ≡ true → bytes_eq name (codes "allot") ≡ false
show_not_allot name is = ap (λ (n : Text). bytes_eq n (codes "allot")) ((bytes_eq-Decides name (codes "show")).0 is)

no_usage : (o : Option (Text × List Row)) → option_map_or lacks_con o false ≡ true → option_map_or lacks_word o false ≡ false
no_usage None e = absurd (true≢false (sym e))
no_usage (Some p) e =
    let parts = both_parts _ _ e in
    let wants = both_parts _ _ parts.1 in
    let report : lacks_report p ≡ false = both_false _ _ (needs_named (report_of p.1) wants.0) in
    let rule : lacks_rule p ≡ false = ap (λ b. b && not (is_some (method_given p.1) && is_some (base_given p.1))) (show_not_allot p.0 parts.0) in
    ap (λ b. b || lacks_rule p) report ∙ rule

-- such words have that fault, or the answer is out of memory
pub lacks_con_alone : (words : List Text) (fault : LineFault) → LacksCon words → IsRefusal words fault → (fault ≡ NoCon) ⊎ (fault ≡ Memory)
lacks_con_alone words (Usage e) lacks refusal =
    let kinds : usage_kinds words ≡ [] = rw (lacks.1, no_usage _ lacks.2) refl in
    absurd (subst (IsAmong (kind_of e)) kinds refusal.1)
lacks_con_alone words NoCon lacks refusal = inl refl
lacks_con_alone words Memory lacks refusal = inr refl
