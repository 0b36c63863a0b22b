-- What a reader of a text in memory gives next.
use Rattle.std.proofs.Common.{◌≡◌, ◌+◌, ◌∷◌, ◌∙◌, ℕ, List, [], Bool, true, false, Option, Some, None, length, refl, sym, ap, subst, arith, add-one}
use Rattle.std.specs.Prelude.{if◌then◌else◌, IsSome}
use Rattle.std.proofs.Common.{inl}
use Rattle.tally_import_records.specs.internal.Text.{text_left}
use Rattle.tally_import_records.specs.declared.text.Text.{Text}
use Rattle.csv.specs.Machine.{Read, ends_at_end, next_record}
use Rattle.csv.specs.Reading.{ReadRecord, ReadsNext, NextIs, pending_of, records_from, records_next}
use Rattle.csv.specs.declared.parser.Config.{Config}
use Rattle.csv.specs.declared.parser.State.{State}
use Rattle.csv.specs.declared.reader.Reader.{Reader}
use Rattle.tally_import_records.specs.internal.Reading.{unread_bytes, records_read_from, rows_left, IsReading}
use Rattle.tally_import_records.proofs.RecordLemmas.{next_record-after, next_record-takes, records_from-enough}

Rows : Config → State → Option (List ℕ) → List (List (List ℕ))
Rows cfg s None = []
Rows cfg s (Some text) = records_from cfg (length text + 1) s text

rows-next : (cfg : Config) (s s2 : State) (xs : List ℕ) (after : Option (List ℕ)) (found : Bool) (fields : List (List ℕ))
    → ends_at_end s ≡ false → ReadsNext cfg s (Some xs) after found fields s2
    → records_from cfg (length xs + 1) s xs ≡ (if found then fields ∷ Rows cfg s2 after else [])
unfolding records_from Rows
rows-next cfg s s2 xs None found fields between reads = absurd reads
rows-next cfg s s2 xs (Some ys) found fields between reads = rw (add-one (length xs)) (go (next_record cfg s [] [] xs) refl found reads)
  where
    same : (p : Read) → (true ≡ true) × (fields ≡ p.0) × (s2 ≡ p.1) × (ys ≡ p.2)
        → p.0 ∷ records_from cfg (length p.2 + 1) p.1 p.2 ≡ fields ∷ records_from cfg (length ys + 1) s2 ys
    same p is = λ i. sym is.1 i ∷ records_from cfg (length (sym is.3 i) + 1) (sym is.2 i) (sym is.3 i)

    go : (o : Option Read) → next_record cfg s [] [] xs ≡ o → (b : Bool) → NextIs o b fields s2 ys
        → records_next (records_from cfg (length xs)) o ≡ (if b then fields ∷ records_from cfg (length ys + 1) s2 ys else [])
    go None e true is = cc
    go None e false is = refl
    go (Some p) e false is = cc
    go (Some p) e true is =
        let less = next_record-takes cfg s xs p between e in
        let after = next_record-after cfg s [] [] xs p e in
        ap (λ rest. p.0 ∷ rest) (records_from-enough cfg (length xs) (length p.2 + 1) p.1 p.2 after.1 less (omega arith))
        ∙ same p is

source-after : (new : Reader Text) → new.bom_checked ≡ true → unread_bytes new ≡ pending_of (text_left new.rdr) new
source-after new checked = rw checked refl

-- the state after a record is between two
between-after : (cfg : Config) (s s2 : State) (xs : List ℕ) (after : Option (List ℕ)) (fields : List (List ℕ))
    → ReadsNext cfg s (Some xs) after true fields s2 → ends_at_end s2 ≡ false
between-after cfg s s2 xs None fields reads = absurd reads
between-after cfg s s2 xs (Some ys) fields reads = go (next_record cfg s [] [] xs) refl reads
  where
    go : (o : Option Read) → next_record cfg s [] [] xs ≡ o → NextIs o true fields s2 ys → ends_at_end s2 ≡ false
    go None e is = cc
    go (Some p) e is = ap ends_at_end is.2 ∙ (next_record-after cfg s [] [] xs p e).1

some-after : (cfg : Config) (s s2 : State) (before after : Option (List ℕ)) (found : Bool) (fields : List (List ℕ))
    → IsSome before → ReadsNext cfg s before after found fields s2 → IsSome after
some-after cfg s s2 None after found fields some reads = cc
some-after cfg s s2 (Some xs) None found fields some reads = absurd reads
some-after cfg s s2 (Some xs) (Some ys) found fields some reads = refl

between-next : (cfg : Config) (s s2 : State) (before after : Option (List ℕ)) (fields : List (List ℕ))
    → IsSome before → ReadsNext cfg s before after true fields s2 → ends_at_end s2 ≡ false
between-next cfg s s2 None after fields some reads = cc
between-next cfg s s2 (Some xs) after fields some reads = between-after cfg s s2 xs after fields reads

rows-same : (cfg : Config) (new : Reader Text) (left : Option (List ℕ)) → new.config ≡ cfg → Rows cfg new.state left ≡ records_read_from new left
unfolding Rows
rows-same cfg new None same = refl
rows-same cfg new (Some ys) same = ap (λ c. records_from c (length ys + 1) new.state ys) (sym same)

left-next : (old new : Reader Text) (before : Option (List ℕ)) (found : Bool) (fields : List (List ℕ))
    → IsSome before → ends_at_end old.state ≡ false → new.config ≡ old.config
    → ReadsNext old.config old.state before (unread_bytes new) found fields new.state
    → records_read_from old before ≡ (if found then fields ∷ rows_left new else [])
left-next old new None found fields some between same reads = cc
left-next old new (Some xs) found fields some between same reads =
    rows-next old.config old.state new.state xs (unread_bytes new) found fields between reads
    ∙ ap (λ rows. if found then fields ∷ rows else []) (rows-same old.config new (unread_bytes new) same)

reads-unread : (old new : Reader Text) (found : Bool) (fields : List (List ℕ))
    → ReadRecord text_left old new found fields → ReadsNext old.config old.state (unread_bytes old) (unread_bytes new) found fields new.state
reads-unread old new found fields reads =
    subst (λ left. ReadsNext old.config old.state (unread_bytes old) left found fields new.state) (sym (source-after new reads.1)) reads.0

-- what a reader of a text in memory has left after a read of a record
pub rows_left-next : (old new : Reader Text) (found : Bool) (fields : List (List ℕ))
    → IsReading old → ReadRecord text_left old new found fields
    → rows_left old ≡ (if found then fields ∷ rows_left new else [])
rows_left-next old new found fields h reads =
    left-next old new (unread_bytes old) found fields h.source h.between reads.2 (reads-unread old new found fields reads)

-- and it can read the next one
pub IsReading-next : (old new : Reader Text) (fields : List (List ℕ))
    → IsReading old → new.first ≡ true → new.flexible ≡ old.flexible → ReadRecord text_left old new true fields → IsReading new
IsReading-next old new fields h first flexible reads =
    let next = reads-unread old new true fields reads in
    record {
      untrimmed = reads.3 ∙ h.untrimmed;
      ready = inl first;
      any_length = flexible ∙ h.any_length;
      source = some-after old.config old.state new.state (unread_bytes old) (unread_bytes new) true fields h.source next;
      between = between-next old.config old.state new.state (unread_bytes old) (unread_bytes new) fields h.source next;
    }
