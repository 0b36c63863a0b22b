-- A door's connections, by the place of the current one.
use Rattle.std.proofs.Common.{◌≡◌, ℕ, suc, ◌+◌, ◌-◌, ◌<◌, ◌≤◌, Bool, true, false, cond, List, [], ◌∷◌, ◌++◌, length, take, drop, get_or, Some, None, option_to_list, is_some, Ok, Err, refl, sym, ap, append_assoc, ◌∙◌, arith, true≢false}
use Rattle.std.proofs.Math.ListN.{set}
use Rattle.std.proofs.Math.Seq.{drop-cons, take-suc, take-add, take-length}
use Rattle.std.proofs.lemmas.List.{take-set, drop-set, take-append-drop, append-nil, drop_all, length-take-le, take_at, length-append, length-drop, drop-drop}
use Rattle.std.proofs.lemmas.Option.{same_Some}
use Rattle.tally_desk_message.specs.Connection.{Connection, Connections, connections, after_write, TakesNext, HasRead}
use Rattle.tally_desk_message.specs.Memory.{connections_from, connections_at}
use Rattle.tally_desk_message.specs.declared.door.DoorFault.TheVariants.{Failed}

closed_from : (ended rest : List Connection) → connections_from ended rest false ≡ connections ended None rest
closed_from ended [] = refl
closed_from ended (c ∷ rest) = refl

pub closed : (conns : List Connection) (at : ℕ) → connections_at conns at false ≡ connections (take at conns) None (drop at conns)
closed conns at = closed_from (take at conns) (drop at conns)

pub opened : (conns : List Connection) (at : ℕ) (d : Connection) → at < length conns → connections_at conns at true ≡ connections (take at conns) (Some (get_or conns at d)) (drop (suc at) conns)
opened conns at d within = ap (λ rest. connections_from (take at conns) rest true) (drop-cons conns at d within)

pub opened_set : (conns : List Connection) (at : ℕ) (x : Connection) → at < length conns → connections_at (set conns at x) at true ≡ connections (take at conns) (Some x) (drop (at + 1) conns)
opened_set conns at x within =
    ap (λ rest. connections_from (take at (set conns at x)) rest true) (drop-set conns at x within)
    ∙ ap (λ ended. connections ended (Some x) (drop (at + 1) conns)) (take-set conns at x)

-- what the current connection becomes
pub at_current : (conns : List Connection) (at : ℕ) (connected : Bool) (ended coming : List Connection) (c w x : Connection)
    → (connected ≡ true → at < length conns) → connections_at conns at connected ≡ connections ended (Some c) coming → w ≡ get_or conns at w
    → (c ≡ w) × (connections_at (set conns at x) at connected ≡ connections ended (Some x) coming)
at_current conns at false ended coming c w x within is found =
    absurd (true≢false (sym (ap (λ (h : Connections). is_some h.current) (sym (closed conns at) ∙ is))))
at_current conns at true ended coming c w x within is found =
    let room = within refl in
    let whole = sym (opened conns at w room) ∙ is in
    let same : get_or conns at w ≡ c = same_Some _ _ (ap (λ (h : Connections). h.current) whole) in
    let front : take at conns ≡ ended = ap (λ (h : Connections). h.ended) whole in
    let back : drop (suc at) conns ≡ coming = ap (λ (h : Connections). h.coming) whole in
    let next : at + 1 ≡ suc at = omega arith in
    (sym (found ∙ same), opened_set conns at x room ∙ ap (λ n. connections (take at conns) (Some x) (drop n conns)) next ∙ ap (λ d. connections d (Some x) (drop (suc at) conns)) front ∙ ap (λ l. connections ended (Some x) l) back)

nothing : Connection
nothing = record { input = []; fails = false; read_failed = false; room = 0; written = [] }

-- what comes after the current connection
pub passed : (conns : List Connection) (at : ℕ) (connected : Bool) (next : ℕ) → (connected ≡ true → at < length conns) → next ≡ cond connected (at + 1) at
    → ((connections_at conns at connected).ended ++ option_to_list (connections_at conns at connected).current ≡ take next conns) × ((connections_at conns at connected).coming ≡ drop next conns)
passed conns at true next within is =
    let room = within refl in
    let e = opened conns at nothing room in
    let n : next ≡ suc at = omega (arith, is) in
    (ap (λ (h : Connections). h.ended ++ option_to_list h.current) e ∙ sym (take-suc conns at nothing room) ∙ ap (λ k. take k conns) (sym n), ap (λ (h : Connections). h.coming) e ∙ ap (λ k. drop k conns) (sym n))
passed conns at false next within is =
    let e = closed conns at in
    (ap (λ (h : Connections). h.ended ++ option_to_list h.current) e ∙ append-nil (take at conns) ∙ ap (λ k. take k conns) (sym is), ap (λ (h : Connections). h.coming) e ∙ ap (λ k. drop k conns) (sym is))

pub next_is : (conns : List Connection) (at : ℕ) (connected : Bool) (next : ℕ) → (connected ≡ true → at < length conns) → next ≡ cond connected (at + 1) at → next < length conns
    → TakesNext (Some (connections_at conns at connected)) (Ok tt) (Some (connections_at conns next true))
next_is conns at connected next within is room h was =
    let p = passed conns at connected next within is in
    let same : connections_at conns at connected ≡ h = same_Some _ _ was in
    let front : h.ended ++ option_to_list h.current ≡ take next conns = ap (λ (h : Connections). h.ended ++ option_to_list h.current) (sym same) ∙ p.0 in
    let back : h.coming ≡ drop next conns = ap (λ (h : Connections). h.coming) (sym same) ∙ p.1 in
    let c = get_or conns next nothing in (
      c,
      drop (suc next) conns,
      back ∙ drop-cons conns next nothing room,
      ap Some (opened conns next nothing room ∙ ap (λ d. connections d (Some c) (drop (suc next) conns)) (sym front)),
    )

pub next_none : (conns : List Connection) (at : ℕ) (connected : Bool) (next : ℕ) → (connected ≡ true → at < length conns) → next ≡ cond connected (at + 1) at → length conns ≤ next
    → TakesNext (Some (connections_at conns at connected)) (Err Failed) (Some (connections_at conns next false))
next_none conns at connected next within is over h was =
    let p = passed conns at connected next within is in
    let same : connections_at conns at connected ≡ h = same_Some _ _ was in
    let front : h.ended ++ option_to_list h.current ≡ take next conns = ap (λ (h : Connections). h.ended ++ option_to_list h.current) (sym same) ∙ p.0 in
    let none : drop next conns ≡ [] = drop_all next conns over in
    let back : h.coming ≡ drop next conns = ap (λ (h : Connections). h.coming) (sym same) ∙ p.1 in
    (back ∙ none, ap Some (closed conns next ∙ ap (λ d. connections d None (drop next conns)) (sym front) ∙ ap (λ l. connections (h.ended ++ option_to_list h.current) None l) none))

pub current_is : (conns : List Connection) (at : ℕ) → at < length conns → is_some (connections_at conns at true).current ≡ true
current_is conns at room = ap (λ (h : Connections). is_some h.current) (opened conns at nothing room)

pub read_some : (input buf : List ℕ) (at n : ℕ) (fails read_failed : Bool) (room : ℕ) (written : List ℕ) → at ≤ length input → n ≤ length buf → n ≤ length (drop at input)
    → (n ≡ 0 → 0 < length buf → (drop at input ≡ []) × (fails ≡ false))
    → HasRead (record { input = drop at input; fails = fails; read_failed = read_failed; room = room; written = written }) (take n (drop at input) ++ drop n buf) (Ok n) (record { input = drop (at + n) input; fails = fails; read_failed = read_failed; room = room; written = written })
read_some input buf at n fails read_failed room written within fits some end =
    (omega (arith, long), parts, refl, λ none has. end none (omega (arith, has, full, long)))
  where
    taken : length (take n (drop at input)) ≡ n
    taken = length-take-le n (drop at input) some

    full : length (take n (drop at input) ++ drop n buf) ≡ length buf
    full = grind (arith, length-append, length-drop, taken, fits)

    long : n ≤ length (take n (drop at input) ++ drop n buf)
    long = omega (arith, full, fits)

    parts : drop at input ≡ take n (take n (drop at input) ++ drop n buf) ++ drop (at + n) input
    parts = sym (ap (λ t. t ++ drop (at + n) input) (take_at (take n (drop at input)) (drop n buf) n taken) ∙ ap (λ t. take n (drop at input) ++ t) (sym (drop-drop n at input)) ∙ take-append-drop n (drop at input))

-- a text that was written in two parts
pub after_writes : (c : Connection) (text : List ℕ) (at n : ℕ) → at + n ≤ length text → after_write (after_write c (take at text)) (take n (drop at text)) ≡ after_write c (take (at + n) text)
after_writes c text at n within =
    let first : length (take at text) ≡ at = length-take-le at text (omega (arith, within)) in
    let second : length (take n (drop at text)) ≡ n = length-take-le n (drop at text) (grind (arith, length-drop, within)) in
    let both : length (take (at + n) text) ≡ at + n = length-take-le (at + n) text within in
    let room : c.room - length (take at text) - length (take n (drop at text)) ≡ c.room - length (take (at + n) text) = rw (first, second, both) (omega arith) in
    let joined : (c.written ++ take at text) ++ take n (drop at text) ≡ c.written ++ take (at + n) text =
    append_assoc c.written (take at text) (take n (drop at text)) ∙ ap (λ t. c.written ++ t) (sym (take-add at n text)) in
    let make : ℕ → List ℕ → Connection = λ r w. record { input = c.input; fails = c.fails; read_failed = c.read_failed; room = r; written = w } in
    ap (λ r. make r ((c.written ++ take at text) ++ take n (drop at text))) room ∙ ap (make (c.room - length (take (at + n) text))) joined

-- a slice from a place on
pub rest_all : {X : Type 0} (xs : List X) (at : ℕ) → take (length xs - at) (drop at xs) ≡ drop at xs
rest_all xs at = ap (λ n. take n (drop at xs)) (sym (length-drop at xs)) ∙ take-length (drop at xs)

pub no_length : {X : Type 0} (xs : List X) → length xs ≡ 0 → xs ≡ []
no_length [] is = refl
no_length (x ∷ xs) is = absurd (omega (arith, is))
