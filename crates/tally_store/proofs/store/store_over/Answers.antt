use Rattle.std.proofs.Common.{rules, subst}
use Rattle.sqlite.specs.Held.{state}
use Rattle.tally_store_commands.specs.internal.Known.{AreKnown, known_of}
use Rattle.tally_returns.specs.State.{State}
use Rattle.tally_store.proofs.ContentLemmas.{content_is}
use Rattle.tally_store.proofs.RequestLemmas.{one_state}
use Rattle.tally_store.proofs.store.store_over.Goals as goal

pub invariant_of-result : goal.invariant_of-result
invariant_of-result g c =
    let setup = c.args.setup in
    let seen = state g.S.Store c.args.conn in
    let limits = c.cons-cons.ensures.limits in
    record {
      stored = record {
        limits = limits;
        autocommit = search rules;
        office = λ clean now. let it = c.requires.office clean now in (it.0, it.1, it.2);
      };
      true_is = λ clean now text s lawful has.
          let it = c.requires.office clean now in
          subst (λ (x : State). AreKnown setup x.returns (known_of c.args.known)) (one_state setup s it.0 text seen c.a_constituency_has_a_view.ensures.lawful limits lawful has it.1 it.2 now) it.3;
    }

pub returns-clause-content : goal.returns-clause-content
returns-clause-content g c now s lawful office =
    content_is c.args.setup s (state g.S.Store c.args.conn) c.a_constituency_has_a_view.ensures.lawful c.cons-cons.ensures.limits lawful office now
