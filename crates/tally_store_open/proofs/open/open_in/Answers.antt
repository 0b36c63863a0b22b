use Rattle.std.proofs.Common.{◌≡◌, ◌∙◌, IsTrue, ap, subst, sym}
use Rattle.sqlite.specs.Held.{state}
use Rattle.tally_store_open.specs.internal.Opening.{HasDistinctRows, HasFormerRowids}
use Rattle.tally_store_open.proofs.LawLemmas.{former_by_law, today_by_law}
use Rattle.tally_store_open.proofs.open.open_in.Goals as goal

pub open_with_rowids-opened-requires-clause-rowids : goal.open_with_rowids-opened-requires-clause-rowids
open_with_rowids-opened-requires-clause-rowids g c =
    let conn = c.args.conn in
    let inside = c.well_formed.1.0.1.0 in
    let store : inside.0.store ≡ conn.store = ap (λ x. x.store) inside.1.0 in
    let schema : inside.0.schema ≡ conn.schema = ap (λ x. x.schema) inside.1.0 in
    let serves = λ (now : IsTrue (state g.S.Store conn).is_open). inside.1.1.0.serves (subst (λ s. IsTrue (g.S.Store.view s).is_open) (sym store) now) in
    record {
      today = λ now is t.
          let it = inside.0.store in
          let whole = serves now in
          subst (λ s. HasDistinctRows (record { schema = conn.schema; trees = (g.S.Store.view s).trees }) t) store
          (today_by_law (g.S.Store.view it) inside.0.schema whole.sound (g.met.S.Alter.listed it whole.unbroken) (g.met.S.Store.ordered it whole.unbroken) (schema ∙ is) t);
      former = λ now is.
          let it = inside.0.store in
          let whole = serves now in
          subst (λ s. HasFormerRowids (record { schema = conn.schema; trees = (g.S.Store.view s).trees })) store
          (former_by_law (g.S.Store.view it) inside.0.schema whole.sound (g.met.S.Alter.listed it whole.unbroken) (g.met.S.Store.ordered it whole.unbroken) (schema ∙ is));
    }
