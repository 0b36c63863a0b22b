use Rattle.std.proofs.Common.{◌≡◌, ◌∷◌, ◌∙◌, ◌+◌, drop, sym, ap}
use Rattle.std.specs.FinMap.{remove}
use Rattle.std.proofs.lemmas.List.{drop_more}
use Rattle.tally_keeper.specs.Kept.{Kept}
use Rattle.tally_keeper.specs.internal.Held.{returns_without}
use Rattle.tally_keeper.proofs.TakenLemmas.{kept-next}
use Rattle.tally_core.proofs.book.rows.take_out.Goals as goal

pub loop-station-preserved : goal.loop-station-preserved
loop-station-preserved c =
    let i = c.loop-station.station-index in
    let stations = c.args.stations.now in
    let station = c.station-item.result in
    let mid = c.loop-station.ledger in
    let new = c.take_out.new.self in
    let next : drop i stations ≡ station ∷ drop (i + 1) stations =
    drop_more stations i station c.loop-station-test.true ∙ ap (λ s. s ∷ drop (i + 1) stations) (sym c.station-item.is) in
    let out : new ≡ record mid { returns = remove mid.returns station } = c.take_out.ensures in
    let returns = ap (λ (k : Kept). k.returns) out in
    record {
      kept = kept-next c.args.ledger.now mid new c.loop-station.invariant.kept (out ∙ ap (λ m. record mid { returns = m }) (sym returns));
      left = ap (returns_without (drop (i + 1) stations)) returns ∙ sym (ap (λ l. returns_without l mid.returns) next) ∙ c.loop-station.invariant.left;
    }
