use Rattle.std.proofs.Common.{◌≡◌, ◌∙◌, ◌++◌, ◌∷◌, [], Ok, None, sym, ap, subst}
use Rattle.std.specs.FinMap.{get, insert}
use Rattle.tally_keeper.specs.Kept.{Kept}
use Rattle.tally_returns.specs.Lawful.{IsLawful}
use Rattle.tally_returns.specs.State.{stations_of}
use Rattle.tally_returns.specs.declared.reply.LodgeReply.TheVariants.{Lodged}
use Rattle.tally_keeper.specs.internal.Held.{returns_without}
use Rattle.tally_keeper.proofs.LodgeLemmas.{lodged-none}
use Rattle.tally_keeper.proofs.StepLemmas.{first-lawful}
use Rattle.tally_keeper.proofs.WithoutLemmas.{without-push}
use Rattle.tally_core.proofs.book.rows.take_return.Goals as goal

pub put-requires : goal.put-requires
put-requires c =
    let k = c.args.ledger.now in
    let way = c.in-Ok-Lodged in
    let answer : c.decide_first-answer.result ≡ Ok (Lodged way.field-0-0) = way.is ∙ ap Ok (rw way.is at way.field-0-is) in
    let stations = stations_of k.setup in
    let lawful = first-lawful stations k.returns c.args.station c.args.slip c.args.counts way.field-0-0 c.as_bytes-slip.ensures.code (sym c.decide_first-answer.ensures ∙ answer) in
    record { lawful = (lawful.0, lawful.1, subst (IsLawful lawful.0) (sym c.lodged.ensures) lawful.2) }

pub returns-clause-undone : goal.returns-clause-undone
returns-clause-undone c =
    let k = c.args.ledger.now in
    let m = k.returns in
    let station = c.args.station in
    let way = c.in-Ok-Lodged in
    let answer : c.decide_first-answer.result ≡ Ok (Lodged way.field-0-0) = way.is ∙ ap Ok (rw way.is at way.field-0-is) in
    let none : get m station ≡ None = lodged-none (stations_of k.setup) m station c.args.slip c.args.counts way.field-0-0 (sym c.decide_first-answer.ensures ∙ answer) in
    let items : c.push.new.self.items ≡ c.args.lodged.now.items ++ station ∷ [] = c.in_ok-push.ensures.items ∙ ap (λ l. l ++ station ∷ []) c.reserve.ensures.items in
    let put : c.put.new.self.returns ≡ insert m station c.lodged.result = ap (λ (k : Kept). k.returns) c.in_ok-put.ensures.put in
    ap (λ l. returns_without l c.put.new.self.returns) items ∙ ap (returns_without (c.args.lodged.now.items ++ station ∷ [])) put
    ∙ without-push c.args.lodged.now.items m station c.lodged.result none
