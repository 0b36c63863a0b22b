use Rattle.std.proofs.Common.{rules, ◌≡◌, Some, None, Err, ap, sym, subst, ◌∙◌, ◌++◌}
use Rattle.std.specs.Option.{option_copied}
use Rattle.tally_returns.specs.Checks.{first_refusal}
use Rattle.tally_returns.specs.Decide.{IsUnlessMemory, return_change, limits_of}
use Rattle.tally_returns.specs.Lodge.{counts_checks}
use Rattle.tally_returns.specs.Moves.{closed_return, corrected_return, may_close, may_correct, move_checks, same_checks}
use Rattle.tally_returns.proofs.DecideLemmas.{answered-lawful, lawful-last, counts-passed, counts-refused}
use Rattle.tally_returns.proofs.decide.decide_at.Goals as goal

pub decide_query-requires : goal.decide_query-requires
decide_query-requires c = lawful-last (limits_of c.args.con.now c.args.station.now) (option_copied c.args.found) c.requires.lawful

pub decide_correct-requires : goal.decide_correct-requires
decide_correct-requires c = lawful-last (limits_of c.args.con.now c.args.station.now) (option_copied c.args.found) c.requires.lawful

pub decide_confirm-requires : goal.decide_confirm-requires
decide_confirm-requires c = lawful-last (limits_of c.args.con.now c.args.station.now) (option_copied c.args.found) c.requires.lawful

pub decide_close-requires : goal.decide_close-requires
decide_close-requires c = lawful-last (limits_of c.args.con.now c.args.station.now) (option_copied c.args.found) c.requires.lawful

pub returns-in-Lodge-clause-lawful : goal.returns-in-Lodge-clause-lawful
returns-in-Lodge-clause-lawful c =
    let limits = limits_of c.args.con.now c.args.station.now in
    let is : IsUnlessMemory c.decide_first.result (return_change (Some limits) c.args.certified (option_copied c.args.found) c.args.ask.now) = search rules in
    answered-lawful limits c.args.certified (option_copied c.args.found) c.args.ask.now c.decide_first.result c.slip-slip.ensures.code c.requires.lawful is

pub returns-in-Query-clause-lawful : goal.returns-in-Query-clause-lawful
returns-in-Query-clause-lawful c =
    let limits = limits_of c.args.con.now c.args.station.now in
    let is : IsUnlessMemory c.decide_query.result (return_change (Some limits) c.args.certified (option_copied c.args.found) c.args.ask.now) = search rules in
    answered-lawful limits c.args.certified (option_copied c.args.found) c.args.ask.now c.decide_query.result c.slip-slip.ensures.code c.requires.lawful is

pub returns-in_err-check_counts_at-in-Correct-clause-decided :
    goal.returns-in_err-check_counts_at-in-Correct-clause-decided
returns-in_err-check_counts_at-in-Correct-clause-decided c =
    let way = c.in-Correct in
    let limits = limits_of c.args.con.now c.args.station.now in
    let found = option_copied c.args.found in
    let e = c.in_err-check_counts_at-in-Correct.field-0.0 in
    let is : c.from_residual.result ≡ Err e = search rules in
    let some : first_refusal (counts_checks limits way.counts) ≡ Some e = c.in_err-check_counts_at-in-Correct.ensures.refused in
    let refused = counts-refused limits found way.counts e (move_checks c.args.certified found way.rev may_correct) (corrected_return way.slip way.counts) some in
    subst (λ r. IsUnlessMemory r (return_change (Some limits) c.args.certified found c.args.ask.now)) (sym is)
    (λ other. ap (return_change (Some limits) c.args.certified found) way.is ∙ refused)

pub returns-in_ok-check_counts_at-in-Correct-clause-decided :
    goal.returns-in_ok-check_counts_at-in-Correct-clause-decided
returns-in_ok-check_counts_at-in-Correct-clause-decided c =
    let way = c.in-Correct in
    let limits = limits_of c.args.con.now c.args.station.now in
    let found = option_copied c.args.found in
    let none : first_refusal (counts_checks limits way.counts) ≡ None = c.in_ok-check_counts_at-in-Correct.ensures.passed in
    let passed = counts-passed limits found way.counts (move_checks c.args.certified found way.rev may_correct) (corrected_return way.slip way.counts) none in
    subst (IsUnlessMemory c.decide_correct.result) (sym (ap (return_change (Some limits) c.args.certified found) way.is ∙ passed)) c.decide_correct.ensures

pub returns-in-Close-clause-lawful : goal.returns-in-Close-clause-lawful
returns-in-Close-clause-lawful c =
    let limits = limits_of c.args.con.now c.args.station.now in
    let is : IsUnlessMemory c.decide_close.result (return_change (Some limits) c.args.certified (option_copied c.args.found) c.args.ask.now) = search rules in
    answered-lawful limits c.args.certified (option_copied c.args.found) c.args.ask.now c.decide_close.result c.slip-slip.ensures.code c.requires.lawful is

pub returns-in_ok-check_counts_at-in-Correct-clause-lawful :
    goal.returns-in_ok-check_counts_at-in-Correct-clause-lawful
returns-in_ok-check_counts_at-in-Correct-clause-lawful c =
    let limits = limits_of c.args.con.now c.args.station.now in
    answered-lawful limits c.args.certified (option_copied c.args.found) c.args.ask.now c.decide_correct.result c.slip-slip.ensures.code c.requires.lawful (returns-in_ok-check_counts_at-in-Correct-clause-decided c)

pub returns-in_err-check_counts_at-in-Confirm-clause-decided :
    goal.returns-in_err-check_counts_at-in-Confirm-clause-decided
returns-in_err-check_counts_at-in-Confirm-clause-decided c =
    let way = c.in-Confirm in
    let limits = limits_of c.args.con.now c.args.station.now in
    let found = option_copied c.args.found in
    let e = c.in_err-check_counts_at-in-Confirm.field-0.0 in
    let is : c.from_residual-in_err-check_counts_at-in-Confirm.result ≡ Err e = search rules in
    let some : first_refusal (counts_checks limits way.counts) ≡ Some e = c.in_err-check_counts_at-in-Confirm.ensures.refused in
    let refused = counts-refused limits found way.counts e (move_checks c.args.certified found way.rev may_close ++ same_checks found way.slip way.counts) closed_return some in
    subst (λ r. IsUnlessMemory r (return_change (Some limits) c.args.certified found c.args.ask.now)) (sym is)
    (λ other. ap (return_change (Some limits) c.args.certified found) way.is ∙ refused)

pub returns-in_ok-check_counts_at-in-Confirm-clause-decided :
    goal.returns-in_ok-check_counts_at-in-Confirm-clause-decided
returns-in_ok-check_counts_at-in-Confirm-clause-decided c =
    let way = c.in-Confirm in
    let limits = limits_of c.args.con.now c.args.station.now in
    let found = option_copied c.args.found in
    let none : first_refusal (counts_checks limits way.counts) ≡ None = c.in_ok-check_counts_at-in-Confirm.ensures.passed in
    let passed = counts-passed limits found way.counts (move_checks c.args.certified found way.rev may_close ++ same_checks found way.slip way.counts) closed_return none in
    subst (IsUnlessMemory c.decide_confirm.result) (sym (ap (return_change (Some limits) c.args.certified found) way.is ∙ passed)) c.decide_confirm.ensures

pub returns-in_ok-check_counts_at-in-Confirm-clause-lawful :
    goal.returns-in_ok-check_counts_at-in-Confirm-clause-lawful
returns-in_ok-check_counts_at-in-Confirm-clause-lawful c =
    let limits = limits_of c.args.con.now c.args.station.now in
    answered-lawful limits c.args.certified (option_copied c.args.found) c.args.ask.now c.decide_confirm.result c.slip-slip.ensures.code c.requires.lawful (returns-in_ok-check_counts_at-in-Confirm-clause-decided c)
