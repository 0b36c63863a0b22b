use Rattle.std.proofs.Common.{◌≡◌, ◌≤◌, ◌+◌, ◌*◌, ◌∙◌, length, get_or, ap, arith}
use Rattle.std.specs.Prelude.{sum_by}
use Rattle.std.proofs.lemmas.List.{with_items_is}
use Rattle.tally_import_check.proofs.TotalsLemmas.{blank-small, spoiled-small, vote-small, sum-small, total-small, AreTotals-push}
use Rattle.tally_import_check.proofs.totals.add_return.Goals as goal

pub add_votes-requires-clause-room : goal.add_votes-requires-clause-room
add_votes-requires-clause-room c place =
    let lists = length c.args.counts.now.votes in
    let total = total-small lists c.requires.totals.0 c.args.totals.now c.requires.totals.1 c.requires.totals.2 place in
    let one = vote-small lists place c.args.counts.now c.requires.counts in
    let votes = ap (λ v. v.votes) c.counts.view_is in
    rw (c.as_mut_slice.ensures.value, c.as_slice.ensures.value, votes) (omega (arith, total, one))

pub overflow_add-totals : goal.overflow_add-totals
overflow_add-totals c =
    let lists = length c.args.counts.now.votes in
    let sum : sum_by (λ c. c.blank) c.requires.totals.0 ≤ length c.requires.totals.0 * 1000000 = sum-small lists (λ c. c.blank) (blank-small lists) c.requires.totals.0 c.requires.totals.1.each in
    let one = blank-small lists c.args.counts.now c.requires.counts in
    omega (arith, c.requires.totals.1.blank, c.from.ensures, sum, one, ap (λ v. v.blank) c.counts.view_is)

pub overflow_add-totals-2 : goal.overflow_add-totals-2
overflow_add-totals-2 c =
    let lists = length c.args.counts.now.votes in
    let sum : sum_by (λ c. c.spoiled) c.requires.totals.0 ≤ length c.requires.totals.0 * 1000000 = sum-small lists (λ c. c.spoiled) (spoiled-small lists) c.requires.totals.0 c.requires.totals.1.each in
    let one = spoiled-small lists c.args.counts.now c.requires.counts in
    omega (arith, c.requires.totals.1.spoiled, c.from-2.ensures, sum, one, ap (λ v. v.spoiled) c.counts.view_is)

pub returns : goal.returns
returns c lodged h =
    let lists = length c.args.counts.now.votes in
    let same : length c.add_votes.new.totals ≡ length c.as_mut_slice.result.now = c.add_votes.auto.totals in
    let is = with_items_is c.args.totals.now.votes c.add_votes.new.totals (same ∙ c.as_mut_slice.ensures.len) in
    AreTotals-push lists lodged c.args.counts.now c.args.totals.now _ h c.requires.counts
    (ap length is ∙ same ∙ ap length c.as_mut_slice.ensures.value ∙ h.count)
    (λ place. ap (λ ws. get_or ws place 0) is ∙ c.add_votes.ensures place
    ∙ ap (λ ws. get_or ws place 0 + get_or c.as_slice.result.now place 0) c.as_mut_slice.ensures.value
    ∙ ap (λ ws. get_or c.args.totals.now.votes.items place 0 + get_or ws place 0) (c.as_slice.ensures.value ∙ ap (λ v. v.votes) c.counts.view_is))
    (ap (λ n. c.args.totals.now.blank + n) (c.from.ensures ∙ ap (λ v. v.blank) c.counts.view_is))
    (ap (λ n. c.args.totals.now.spoiled + n) (c.from-2.ensures ∙ ap (λ v. v.spoiled) c.counts.view_is))
