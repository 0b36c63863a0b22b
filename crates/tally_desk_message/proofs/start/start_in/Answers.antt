use Rattle.std.proofs.Common.{◌≡◌, ◌∙◌, rules, Result, Err, IfErr, take, drop, sym, ap, subst}
use Rattle.http.specs.Token.{IsToken}
use Rattle.tally_desk_message.specs.internal.Start.{IsFaultyStart}
use Rattle.tally_desk_message.specs.declared.message.MessageFault.{MessageFault}
use Rattle.tally_desk_message.specs.declared.start.Start.{Start}
use Rattle.tally_desk_message.proofs.StartLemmas.{begins, same_length, faulty_start, token}
use Rattle.tally_desk_message.proofs.HeadLemmas.{rest_all}
use Rattle.tally_desk_message.proofs.start.start_in.Goals as goal

pub method_of-requires : goal.method_of-requires
method_of-requires c =
    let at = c.requires.head.1 in
    subst IsToken (sym (c.of.ensures ∙ at.method)) (token c.requires.head.0.method at.reads.0.method)

pub returns-in_err-length-clause-err : goal.returns-in_err-length-clause-err
returns-in_err-length-clause-err c =
    let h = c.requires.head.0 in
    let at = c.requires.head.1 in
    let bytes = c.args.bytes.now in
    let head = begins bytes c.args.headers.now c.args.head h c.requires.short c.requires.room c.requires.within at in
    let fault = c.in_err-length.field-0.0 in
    let is : c.from_residual.result ≡ Err fault = search rules in
    subst (λ (r : Result Start MessageFault). IfErr r (IsFaultyStart bytes)) (sym is)
    (faulty_start bytes fault h (drop c.args.head.len bytes) head (sym (same_length bytes c.args.headers.now c.args.head h at) ∙ sym c.in_err-length.ensures))

pub returns-clause-ok : goal.returns-clause-ok
returns-clause-ok c =
    let h = c.requires.head.0 in
    let at = c.requires.head.1 in
    let bytes = c.args.bytes.now in
    let head = begins bytes c.args.headers.now c.args.head h c.requires.short c.requires.room c.requires.within at in (
      h,
      drop c.args.head.len bytes,
      record {
        announces = record { begins = head; length = sym (same_length bytes c.args.headers.now c.args.head h at) ∙ sym c.in_ok-length.ensures };
        method = c.in_ok-method.ensures ∙ c.of.ensures ∙ at.method;
        target = c.in_ok-target.ensures.items ∙ c.of-2.ensures ∙ at.path;
        body = c.in_ok-body.ensures ∙ ap (take c.in_ok-length.length) (rest_all bytes c.args.head.len);
      },
    )
