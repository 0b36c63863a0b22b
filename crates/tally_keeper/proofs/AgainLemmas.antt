-- The same import again.
use Rattle.std.proofs.Common.{◌≡◌, ◌∙◌, ◌+◌, List, [], ◌∷◌, false, cond, Option, Some, None, Result, Ok, Err, refl, sym, ap, subst, arith, count_by}
use Rattle.std.proofs.lemmas.List.Sums.{sum_by-cons}
use Rattle.tally_setup.specs.Constituency.{Constituency}
use Rattle.tally_returns.specs.Return.{Returns}
use Rattle.tally_returns.specs.Lodge.{Stations, lodge_answer}
use Rattle.tally_returns.specs.State.{State, stations_of}
use Rattle.tally_returns.specs.declared.ask.Ask.TheVariants.{Lodge}
use Rattle.tally_returns.specs.declared.refusal.Refusal.{Refusal}
use Rattle.tally_returns.specs.declared.reply.LodgeReply.{LodgeReply}
use Rattle.tally_returns.specs.declared.reply.LodgeReply.TheVariants.{Lodged, Same}
use Rattle.tally_machine_law.proofs.StayLemmas.{Stay, run-stays, lodge-stays, not_lodged-again}
use Rattle.tally_keeper.specs.Events.{answers_of, asks_of}
use Rattle.tally_returns_rows.specs.Import.{RowAnswer, row_answer, after_row, answers, returns_after_import, is_lodged}
use Rattle.tally_keeper.specs.Keeper.{Event, HappensInTurn, Happens, IsImport, whole_import}
use Rattle.tally_returns_rows.specs.declared.import.ImportCount.{ImportCount}
use Rattle.tally_returns_rows.specs.declared.import.Row.{Row}
use Rattle.tally_returns_rows.specs.declared.import.Row.TheVariants as row
use Rattle.tally_keeper.proofs.KeeperLemmas.{happen-run}

row-stays : (stations : Stations) (m : Returns) (r : Row) → Stay m (after_row stations m r)
row-stays stations m (row.Lodge (Lodge station slip counts)) = lodge-stays stations m station slip counts
row-stays stations m other = λ q there. there

imported-stays : (stations : Stations) (m : Returns) (rows : List Row) → Stay m (returns_after_import stations m rows)
imported-stays stations m [] = λ q there. there
imported-stays stations m (r ∷ rows) = λ q there. imported-stays stations (after_row stations m r) rows q (row-stays stations m r q there)

-- a row that came is not lodged again, as long as no return was taken away
row-settled : (stations : Stations) (m n : Returns) (r : Row) → Stay (after_row stations m r) n → is_lodged (row_answer stations n r) ≡ false
row-settled stations m n (row.Lodge (Lodge station slip counts)) stay = go (lodge_answer stations n station slip counts) refl
  where
    go : (a : Result LodgeReply Refusal) → lodge_answer stations n station slip counts ≡ a → is_lodged (Some a) ≡ false
    go (Ok (Lodged rev)) is = absurd (not_lodged-again stations m n station slip counts rev stay is)
    go (Ok (Same rev)) is = refl
    go (Err refusal) is = refl
row-settled stations m n other stay = refl

-- none of these rows is lodged where no return of these was taken away
abbrev AreSettled : Stations → Returns → List Row → Type 0
AreSettled stations m [] = Unit {0}
AreSettled stations m (r ∷ rows) = ((n : Returns) → Stay m n → is_lodged (row_answer stations n r) ≡ false) × AreSettled stations m rows

imported-settled : (stations : Stations) (m : Returns) (rows : List Row) → AreSettled stations (returns_after_import stations m rows) rows
imported-settled stations m [] = tt
imported-settled stations m (r ∷ rows) =
    (λ n stay. row-settled stations m n r (λ q there. stay q (imported-stays stations (after_row stations m r) rows q there)), imported-settled stations (after_row stations m r) rows)

settled-none : (stations : Stations) (m n : Returns) (rows : List Row) → AreSettled stations m rows → Stay m n → count_by is_lodged (answers stations n rows) ≡ 0
settled-none stations m n [] settled stay = refl
settled-none stations m n (r ∷ rows) settled stay =
    sum_by-cons (λ a. cond (is_lodged a) 1 0) (row_answer stations n r) (answers stations (after_row stations n r) rows)
    ∙ ap (λ b. cond b 1 0 + count_by is_lodged (answers stations (after_row stations n r) rows)) (settled.0 n stay)
    ∙ ap (λ k. 0 + k) (settled-none stations m (after_row stations n r) rows settled.1 (λ q there. row-stays stations n r q (stay q there)))
    ∙ omega arith

-- the same import lodges nothing where no return was taken away since
again-none : (setup : List Constituency) (rows : List Row) (answered others : List RowAnswer) (count again : ImportCount) (s mid later t : State)
    → IsImport setup s rows answered count mid → Stay mid.returns later.returns → IsImport setup later rows others again t → again.lodged ≡ 0
again-none setup rows answered others count again s mid later t first stay second =
    let stations = stations_of setup in
    let settled : AreSettled stations mid.returns rows = subst (λ (x : State). AreSettled stations x.returns rows) (sym first.3) (imported-settled stations s.returns rows) in
    ap (λ (c : ImportCount). c.lodged) second.2
    ∙ ap (count_by is_lodged) second.1
    ∙ settled-none stations mid.returns later.returns rows settled stay

-- whatever happened between
pub again-happens : (setup : List Constituency) (rows : List Row) (answered others : List RowAnswer) (count again : ImportCount)
    → (old mid later new : Option State) (events : List Event)
    → Happens setup old (whole_import rows answered count) mid → HappensInTurn setup mid events later → Happens setup later (whole_import rows others again) new
    → again.lodged ≡ 0
again-happens setup rows answered others count again None None later new events first between second = absurd first
again-happens setup rows answered others count again None (Some m) later new events first between second = absurd first
again-happens setup rows answered others count again (Some s) None later new events first between second = absurd first
again-happens setup rows answered others count again (Some s) (Some m) None None events first between second = absurd second
again-happens setup rows answered others count again (Some s) (Some m) None (Some t) events first between second = absurd second
again-happens setup rows answered others count again (Some s) (Some m) (Some l) None events first between second = absurd second
again-happens setup rows answered others count again (Some s) (Some m) (Some l) (Some t) events first between second =
    again-none setup rows answered others count again s m l t first (run-stays setup m l (asks_of events) (answers_of events) (happen-run setup m l events between)) second
