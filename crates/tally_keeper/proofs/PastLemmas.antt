-- Certificates that were reopened, as a list in order of edition and as a map.
use Rattle.std.proofs.Common.{◌≡◌, ◌<◌, ◌∷◌, ◌++◌, ◌∙◌, ℕ, suc, List, [], map, refl, sym, ap, subst, arith}
use Rattle.std.specs.Prelude.{All}
use Rattle.std.specs.FinMap.{entries, entries-insert, insert, nat_cmp-IsAntisymmetric}
use Rattle.std.specs.FinMap.Entries.{by_order, put}
use Rattle.std.specs.Ordering.{MatchOrdering, nat_cmp}
use Rattle.std.specs.declared.cmp.Ordering.{Ordering}
use Rattle.std.specs.declared.cmp.Ordering.TheVariants.{Less, Equal, Greater}
use Rattle.std.proofs.lemmas.Cmp.{nat_cmp_total, ranked}
use Rattle.std.proofs.lemmas.List.{map-append}
use Rattle.tally_returns.specs.PastSeats.{PastSeats}
use Rattle.tally_returns.specs.View.{past_record, past_records}
use Rattle.tally_keeper.specs.internal.Rows.{past_by_edition}
use Rattle.tally_keeper.proofs.MapLemmas.{rows-insert}

abbrev entry_of : PastSeats → ℕ × List ℕ
entry_of p = (p.edition, p.seats)

-- those on record are of earlier editions
abbrev pub AreBefore : ℕ → List PastSeats → Type 0
AreBefore edition past = All (λ (p : PastSeats). p.edition < edition) past

-- an entry with a later key is at the end
put-last : (k : ℕ) (seats : List ℕ) (es : List (ℕ × List ℕ)) → AreBefore k (map past_record es) → put nat_cmp k seats es ≡ es ++ (k, seats) ∷ []
put-last k seats [] before = refl
put-last k seats (e ∷ es) before =
    go (nat_cmp k e.0) (ranked k e.0 (nat_cmp k e.0) refl) (before 0 (past_record e) (omega arith)) (put-last k seats es (λ i d less. before (suc i) d (omega (arith, less))))
  where
    go : (o : Ordering) → MatchOrdering o (k < e.0) (k ≡ e.0) (e.0 < k) → e.0 < k → put nat_cmp k seats es ≡ es ++ (k, seats) ∷ []
        → by_order o ((k, seats) ∷ e ∷ es) ((e.0, seats) ∷ es) (e ∷ put nat_cmp k seats es) ≡ e ∷ es ++ (k, seats) ∷ []
    go Less less first later = absurd (omega (arith, less, first))
    go Equal same first later = absurd (omega (arith, same, first))
    go Greater greater first later = ap (λ rest. e ∷ rest) later

-- a map is got back from its records
back : (es : List (ℕ × List ℕ)) → map entry_of (map past_record es) ≡ es
back [] = refl
back (e ∷ es) = ap (λ rest. e ∷ rest) (back es)

-- one more, of a later edition
pub past-insert : (p : PastSeats) (past : List PastSeats) → past ≡ past_records (past_by_edition past) → AreBefore p.edition past
    → past ++ p ∷ [] ≡ past_records (insert (past_by_edition past) p.edition p.seats)
past-insert p past is before =
    ap (λ ps. ps ++ p ∷ []) is ∙ sym (map-append past_record (entries (past_by_edition past)) ((p.edition, p.seats) ∷ []))
    ∙ ap (map past_record) (sym (put-last p.edition p.seats (entries (past_by_edition past)) (subst (AreBefore p.edition) is before)))
    ∙ ap (map past_record) (sym (entries-insert nat_cmp_total (past_by_edition past) p.edition p.seats))

pub past_of-insert : (p : PastSeats) (past : List PastSeats) → past ≡ past_records (past_by_edition past) → AreBefore p.edition past
    → past_by_edition (past ++ p ∷ []) ≡ insert (past_by_edition past) p.edition p.seats
past_of-insert p past is before =
    rows-insert nat_cmp_total nat_cmp-IsAntisymmetric (λ (r : PastSeats). r.edition) (λ r. r.seats) past_record past (past ++ p ∷ []) p.edition p.seats
    (past-insert p past is before) (back (entries (insert (past_by_edition past) p.edition p.seats)))

pub past-stays : (p : PastSeats) (past : List PastSeats) → past ≡ past_records (past_by_edition past) → AreBefore p.edition past
    → past ++ p ∷ [] ≡ past_records (past_by_edition (past ++ p ∷ []))
past-stays p past is before = past-insert p past is before ∙ sym (ap past_records (past_of-insert p past is before))
