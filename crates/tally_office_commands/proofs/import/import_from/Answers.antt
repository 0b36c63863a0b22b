use Rattle.std.proofs.Common.{[], List, Result, OnOk, refl, sym, subst, arith, string_bytes}
use Rattle.std.specs.Prelude.{string_capacity}
use Rattle.std.proofs.lemmas.Result.{IfOk-weaker}
use Rattle.tally_returns_rows.specs.Delivery.{delivery, source_at}
use Rattle.tally_keeper.specs.Keeper.{Imports}
use Rattle.tally_returns_rows.specs.NamedRows.{NamesRows}
use Rattle.tally_returns_rows.specs.declared.import.ImportCount.{ImportCount}
use Rattle.tally_returns_rows.specs.declared.import.NamedRow.{NamedRow}
use Rattle.tally_returns_rows.specs.declared.source.ImportFault.{ImportFault}
use Rattle.tally_returns_rows.specs.declared.source.ImportFault.TheVariants as lodging
use Rattle.tally_office_commands.proofs.ImportLemmas.{memory-import, text-fits, text-imported}
use Rattle.tally_office_commands.proofs.import.import_from.Goals as goal

pub returns-in_default-clause-trouble : goal.returns-in_default-clause-trouble
returns-in_default-clause-trouble g c sure =
    let k = g.K.Keeper in
    (lodging.Memory, memory-import (k.constituencies c.args.keeper.now) (k.content c.args.keeper.now) (source_at g.R.RowSource c.args.rows.now), refl)

pub returns-in-Ok-lodge_from-clause-text : goal.returns-in-Ok-lodge_from-clause-text
returns-in-Ok-lodge_from-clause-text g c =
    IfOk-weaker c.import_text.result _ _ (λ text is. (c.args.lists.now, c.in-Ok-lodge_from.count, c.deref.result.now, is)) c.import_text.ensures.text

pub returns-in-Ok-lodge_from-clause-imported : goal.returns-in-Ok-lodge_from-clause-imported
returns-in-Ok-lodge_from-clause-imported g c sure =
    let k = g.K.Keeper in
    let setup = k.constituencies c.args.keeper.now in
    let old = k.content c.args.keeper.now in
    let new = k.content c.lodge_from.new.self in
    let d = delivery g.R.RowSource c.args.rows.now c.lodge_from.new.rows in
    let all : NamesRows setup old d c.new-named.result.items c.lodge_from.new.named.items =
    subst (λ (r : Result ImportCount ImportFault). OnOk r (NamesRows setup old d c.new-named.result.items c.lodge_from.new.named.items)) c.in-Ok-lodge_from.is (c.lodge_from.ensures.named sure) in
    let names : NamesRows setup old d [] c.deref.result.now =
    subst (λ (l : List NamedRow). NamesRows setup old d l c.deref.result.now) c.new-named.ensures.items (subst (NamesRows setup old d c.new-named.result.items) (sym c.deref.ensures.value) all) in
    text-imported c.args.lines c.args.lists.now setup old new d string_bytes c.in-Ok-lodge_from.count c.deref.result.now c.import_text.result
    (subst (λ t. Imports setup old d t new) c.in-Ok-lodge_from.is (c.lodge_from.ensures.imported sure)) names c.import_text.ensures.text

pub returns-in-Ok-lodge_from-clause-trouble : goal.returns-in-Ok-lodge_from-clause-trouble
returns-in-Ok-lodge_from-clause-trouble g c sure =
    let k = g.K.Keeper in
    let setup = k.constituencies c.args.keeper.now in
    let old = k.content c.args.keeper.now in
    let new = k.content c.lodge_from.new.self in
    let d = delivery g.R.RowSource c.args.rows.now c.lodge_from.new.rows in
    let all : NamesRows setup old d c.new-named.result.items c.lodge_from.new.named.items =
    subst (λ (r : Result ImportCount ImportFault). OnOk r (NamesRows setup old d c.new-named.result.items c.lodge_from.new.named.items)) c.in-Ok-lodge_from.is (c.lodge_from.ensures.named sure) in
    let names : NamesRows setup old d [] c.deref.result.now =
    subst (λ (l : List NamedRow). NamesRows setup old d l c.deref.result.now) c.new-named.ensures.items (subst (NamesRows setup old d c.new-named.result.items) (sym c.deref.ensures.value) all) in
    text-fits c.args.lines setup old new d c.deref.result.now (string_capacity c.in-Ok.text) c.import_text.result names
    (omega (arith, c.import_room.ensures, c.in-Ok.ensures.capacity)) c.import_text.ensures.room

pub returns-in-Err-clause-trouble : goal.returns-in-Err-clause-trouble
returns-in-Err-clause-trouble g c sure =
    let k = g.K.Keeper in
    let setup = k.constituencies c.args.keeper.now in
    let old = k.content c.args.keeper.now in
    let new = k.content c.lodge_from.new.self in
    let d = delivery g.R.RowSource c.args.rows.now c.lodge_from.new.rows in
    (c.in-Err.fault, subst (λ t. Imports setup old d t new) c.in-Err.is (c.lodge_from.ensures.imported sure), c.from_import.ensures.trouble)
