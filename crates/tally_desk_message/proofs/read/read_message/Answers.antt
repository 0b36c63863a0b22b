use Rattle.std.proofs.Common.{◌≡◌, ◌++◌, rules, List, ℕ, Bool, Err, Ok, take, sym, ap, subst, refl, arith}
use Rattle.tally_desk_message.specs.Connection.{Connection}
use Rattle.tally_desk_message.specs.Message.{IsFault, IsMessageOrFault, TakesWithinLimits}
use Rattle.tally_desk_message.specs.internal.Reading.{IsBodyOrFault}
use Rattle.tally_desk_message.specs.internal.Start.{IsStart}
use Rattle.tally_desk_message.specs.declared.message.Message.{Message}
use Rattle.tally_desk_message.proofs.StartLemmas.{short_body, whole_fault, cut_fault, whole_message, reads_on}
use Rattle.tally_desk_message.proofs.read.read_message.Goals as goal

pub returns-in_err-start-clause-message : goal.returns-in_err-start-clause-message
returns-in_err-start-clause-message g c ended coming connection is =
    let at = c.in_ok-head.ensures.known ended coming connection is in
    let bytes = take c.read_head.new.count c.read_head.new.room in
    let fault = c.in_err-start.field-0.0 in
    let is : c.from_residual-in_err-start.result ≡ Err fault = search rules in
    let faulty : IsFault connection.input connection.fails fault =
    subst (λ (t : List ℕ). IsFault t connection.fails fault) (sym at.2.1) (whole_fault bytes at.0.input connection.fails fault c.in_err-start.ensures.err) in
    (at.0, at.1, (at.2.0, subst (IsMessageOrFault connection.input connection.fails) (sym is) faulty))

pub returns-in_err-read_body-clause-message : goal.returns-in_err-read_body-clause-message
returns-in_err-read_body-clause-message g c ended coming connection is =
    let at = c.in_ok-head.ensures.known ended coming connection is in
    let bytes = take c.read_head.new.count c.read_head.new.room in
    let fault = c.in_err-read_body.field-0.0 in
    let start = c.in_ok-start.start in
    let started : IsStart bytes start = c.in_ok-start.ensures.ok in
    let after = c.in_err-read_body.ensures.known ended coming at.0 at.1 in
    let same : at.0.fails ≡ connection.fails = ap (λ (t : Connection). t.fails) at.2.0.2 in
    let reads : IsBodyOrFault (start.body.items ++ at.0.input) connection.fails start.length (Err fault) c.read_body.new.body.items =
    subst (λ (f : Bool). IsBodyOrFault (start.body.items ++ at.0.input) f start.length (Err fault) c.read_body.new.body.items) same after.2.1 in
    let is : c.from_residual-in_err-read_body.result ≡ Err fault = search rules in
    let faulty : IsFault connection.input connection.fails fault =
    subst (λ (t : List ℕ). IsFault t connection.fails fault) (sym at.2.1) (cut_fault bytes at.0.input connection.fails start fault c.read_body.new.body.items started reads) in
    (after.0, after.1, (reads_on connection at.0 after.0 at.2.0 after.2.0, subst (IsMessageOrFault connection.input connection.fails) (sym is) faulty))

pub returns-clause-message : goal.returns-clause-message
returns-clause-message g c ended coming connection is =
    let at = c.in_ok-head.ensures.known ended coming connection is in
    let bytes = take c.read_head.new.count c.read_head.new.room in
    let start = c.in_ok-start.start in
    let started : IsStart bytes start = c.in_ok-start.ensures.ok in
    let after = c.in_ok-read_body.ensures.known ended coming at.0 at.1 in
    let same : at.0.fails ≡ connection.fails = ap (λ (t : Connection). t.fails) at.2.0.2 in
    let m : Message = record { method = start.method; target = start.target; body = c.read_body.new.body } in
    let reads : IsBodyOrFault (start.body.items ++ at.0.input) connection.fails start.length (Ok tt) m.body.items =
    subst (λ (f : Bool). IsBodyOrFault (start.body.items ++ at.0.input) f start.length (Ok tt) m.body.items) same after.2.1 in (
      after.0,
      after.1,
      (
        reads_on connection at.0 after.0 at.2.0 after.2.0,
        subst (λ (t : List ℕ). IsMessageOrFault t connection.fails (Ok m)) (sym at.2.1) (whole_message bytes at.0.input connection.fails start m started refl refl reads),
      ),
    )

pub returns-in_err-read_body-clause-taken : goal.returns-in_err-read_body-clause-taken
returns-in_err-read_body-clause-taken g c ended coming connection is =
    let at = c.in_ok-head.ensures.taken ended coming connection is in
    let after = c.in_err-read_body.ensures.taken ended coming at.0 at.1 in
    let short = short_body _ c.in_ok-start.start c.in_ok-start.ensures.ok in
    let is : c.from_residual-in_err-read_body.result ≡ Err c.in_err-read_body.field-0.0 = search rules in
    let within : TakesWithinLimits (Err c.in_err-read_body.field-0.0) connection after.0 = omega (arith, at.2, after.2, short) in
    (after.0, after.1, subst (λ r. TakesWithinLimits r connection after.0) (sym is) within)
