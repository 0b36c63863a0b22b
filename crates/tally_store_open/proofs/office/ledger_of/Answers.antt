use Rattle.std.proofs.Common.{◌≡◌, ◌∙◌, ap, length, subst, sym}
use Rattle.std.proofs.lemmas.Iterator.Consumers.{YieldsList-end, YieldsList-turn}
use Rattle.std.proofs.lemmas.Iterator.Adapters.{YieldsList-from_vec}
use Rattle.tally_keeper.specs.Kept.{Kept}
use Rattle.tally_store_open.specs.internal.Entries.{IsLawfulEntry}
use Rattle.tally_store_open.proofs.LedgerLemmas.{kept_end, kept_next}
use Rattle.tally_store_open.proofs.office.ledger_of.Goals as goal

pub put_entry-requires : goal.put_entry-requires
put_entry-requires c =
    let into = c.into_iter-entry-iterator.ensures.into_iter_gives in
    let road = YieldsList-from_vec {s = c.into_iter-entry-iterator.result} c.args.entries.items into.0 (into.1 ∙ c.args.entries.ok.0) in
    let turn = YieldsList-turn road c.loop-entry.yielded c.loop-entry.entry-iterator c.loop-entry.yielded_by c.next.result c.next.new.self c.in-Some.entry c.in-Some.is c.next.ensures.steps in
    let setup : c.args.setup ≡ c.loop-entry.ledger.setup = sym (ap (λ (k : Kept). k.setup) c.loop-entry.invariant) in
    let one = c.requires.lawful (length c.loop-entry.yielded) c.in-Some.entry turn.0 in
    subst (λ s. IsLawfulEntry s c.in-Some.entry) setup (subst (IsLawfulEntry c.args.setup) (sym turn.1) one)

pub loop-entry-preserved : goal.loop-entry-preserved
loop-entry-preserved c =
    let into = c.into_iter-entry-iterator.ensures.into_iter_gives in
    let road = YieldsList-from_vec {s = c.into_iter-entry-iterator.result} c.args.entries.items into.0 (into.1 ∙ c.args.entries.ok.0) in
    let turn = YieldsList-turn road c.loop-entry.yielded c.loop-entry.entry-iterator c.loop-entry.yielded_by c.next.result c.next.new.self c.in-Some.entry c.in-Some.is c.next.ensures.steps in
    kept_next c.args.setup c.args.entries.items c.loop-entry.yielded c.in-Some.entry c.loop-entry.ledger c.put_entry.new.ledger c.requires.rise turn.0 turn.1 c.loop-entry.invariant c.in_ok-put_entry.ensures

pub returns : goal.returns
returns c =
    let into = c.into_iter-entry-iterator.ensures.into_iter_gives in
    let road = YieldsList-from_vec {s = c.into_iter-entry-iterator.result} c.args.entries.items into.0 (into.1 ∙ c.args.entries.ok.0) in
    let done = YieldsList-end road c.loop-entry.yielded c.loop-entry.entry-iterator c.loop-entry.yielded_by c.next.result c.next.new.self c.in-None.is c.next.ensures.steps in
    kept_end c.args.setup c.args.entries.items c.loop-entry.yielded c.loop-entry.ledger done.1 c.loop-entry.invariant
