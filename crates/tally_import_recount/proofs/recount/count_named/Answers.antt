use Rattle.std.proofs.Common.{◌≡◌, ◌∙◌, List, ℕ, get_or, sym, ap, arith, true, false}
use Rattle.tally_setup.specs.Codes.{is_among_codes}
use Rattle.tally_setup.specs.declared.constituency.Station.{Station}
use Rattle.tally_import_recount.specs.internal.Register.{HasWords}
use Rattle.tally_import_recount.proofs.TableLemmas.{named-more}
use Rattle.tally_import_recount.proofs.recount.count_named.Goals as goal
use Rattle.tally_import_recount.proofs.recount.count_named.Goals.{then-contains, else-contains}

pub loop-station-preserved : goal.loop-station-preserved
loop-station-preserved c =
    let i = c.loop-station.invariant in
    let x = c.station-item.result in
    let place = c.loop-station.station-index in
    let here : (words : List (List ℕ)) → HasWords words c.args.named.now → is_among_codes (get_or c.args.stations.now place x).code words ≡ c.contains.result =
    λ words has. ap (λ (s : Station). is_among_codes s.code words) (sym c.station-item.is) ∙ sym (has x.code) ∙ sym c.contains.ensures in
    elim c.if-contains.branch [
      | then-contains w ↦ rw w.count-is (record {
        few = omega (arith, i.few);
        named = λ words has. omega (arith, i.named words has, named-more c.args.stations.now place x words true c.loop-station-test.true (here words has ∙ w.if-contains.true));
      })
      | else-contains w ↦ rw w.count-is (record {
        few = omega (arith, i.few);
        named = λ words has. omega (arith, i.named words has, named-more c.args.stations.now place x words false c.loop-station-test.true (here words has ∙ w.if-contains.false));
      })
    ]
