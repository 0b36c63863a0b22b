use Rattle.std.proofs.Common.{◌≡◌, ◌++◌, List, [], Some, None, option_to_list, false, sym, subst, refl}
use Rattle.tally_desk_message.specs.Connection.{Connection, connections}
use Rattle.tally_desk.specs.Serving.{IsExchange}
use Rattle.tally_desk.specs.internal.Next.{IsNextConnection}
use Rattle.tally_desk.proofs.serving.serve_next.Goals as goal

pub returns-in-Ok-clause-next : goal.returns-in-Ok-clause-next
returns-in-Ok-clause-next g c before is =
    let r = g.R.Responder in
    let front = before.ended ++ option_to_list before.current in
    let next = c.in-Ok.ensures.known before is in
    let rest = next.1 in
    let e = c.exchange.ensures.exchange front rest next.0 next.3 in
    let after = connections front (Some e.0) rest in (
      after,
      e.1,
      subst (λ (l : List Connection). IsNextConnection front l after c.exchange.result
          (λ t d. r.IsTrusted c.exchange.new.keeper → IsExchange r.Answers (r.content c.args.keeper.now) t c.exchange.result d (r.content c.exchange.new.keeper))
          (r.content c.exchange.new.keeper ≡ r.content c.args.keeper.now)) (sym next.2) (e.0, refl, e.2),
    )

pub returns-in-Err-clause-next : goal.returns-in-Err-clause-next
returns-in-Err-clause-next g c before is =
    let r = g.R.Responder in
    let front = before.ended ++ option_to_list before.current in
    let none = c.in-Err.ensures.known before is in
    let after = connections front None [] in (
      after,
      none.1,
      subst (λ (l : List Connection). IsNextConnection front l after false
          (λ t d. r.IsTrusted c.args.keeper.now → IsExchange r.Answers (r.content c.args.keeper.now) t false d (r.content c.args.keeper.now))
          (r.content c.args.keeper.now ≡ r.content c.args.keeper.now)) (sym none.0) (refl, refl, refl),
    )
