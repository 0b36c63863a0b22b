use Rattle.std.proofs.Common.{◌≤◌, ◌+◌, ◌∙◌, ℕ, List, length, sum, sym, ap, subst, arith}
use Rattle.std.specs.Prelude.{nat_le}
use Rattle.std.proofs.lemmas.Bool.{leb-true}
use Rattle.tally_frac.specs.Limits.{most_lists, most_votes}
use Rattle.tally_import_records.specs.Input.{complete_records}
use Rattle.tally_import_votes.specs.internal.Reading.{votes_in}
use Rattle.tally_import_votes.proofs.RowsLemmas.{votes-fit}
use Rattle.tally_import_votes.proofs.allot.asked_of.Goals as goal

pub lot_places-requires : goal.lot_places-requires
lot_places-requires c =
    let fit = votes-fit (complete_records c.args.options.now.sep c.args.whole.bytes.items c.args.whole.stop) c.args.whole.stop (votes_in c.in_ok-votes.votes) c.in_ok-votes.ensures in
    subst (λ (l : List (List ℕ)). length l ≤ most_lists) (sym c.deref-2.ensures.value) fit.1

pub invariant_of-result : goal.invariant_of-result
invariant_of-result c =
    let fit = votes-fit (complete_records c.args.options.now.sep c.args.whole.bytes.items c.args.whole.stop) c.args.whole.stop (votes_in c.in_ok-votes.votes) c.in_ok-votes.ensures in
    let votes = c.in_ok-votes.votes.votes.items in
    let within : sum votes + c.args.options.now.blank ≤ most_votes =
    leb-true _ _ (ap (λ (l : List ℕ). nat_le (sum l + c.args.options.now.blank) most_votes) (sym c.deref.ensures.value) ∙ sym c.is_within.ensures ∙ c.if-not-is_within.false) in
    record {
      limits = record {
        some_list = omega (arith, fit.0, fit.2);
        few_lists = omega (arith, fit.1, fit.2);
        few_votes = omega (arith, within);
        some_seat = c.args.options.now.some_seat;
        few_seats = c.args.options.now.few_seats;
        whole_at_most = c.args.options.now.whole_at_most;
      };
      one_each = fit.2;
    }
