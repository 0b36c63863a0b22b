use Rattle.std.proofs.Common.{◌≡◌, ◌∙◌, ◌++◌, ◌∷◌, [], true, false, sym, ap, subst, rules}
use Rattle.tally_returns.specs.declared.ask.Ask.TheVariants.{Lodge}
use Rattle.tally_returns_rows.specs.declared.import.Row.TheVariants as row
use Rattle.tally_import.specs.ReturnRows.{station_limits_in}
use Rattle.tally_import_recount.specs.Counted.{is_left_out, returns_judged}
use Rattle.tally_import_recount.specs.declared.register.Register.{Register}
use Rattle.tally_import_recount.specs.internal.Register.{HasTaken}
use Rattle.tally_import_recount.proofs.TakenLemmas.{other-ask, taken-left_out, taken-lodge, taken-nothing}
use Rattle.tally_import_recount.proofs.register.Register.take_ask.Goals as goal

pub returns-in_default : goal.returns-in_default
returns-in_default c =
    let counted = c.pass.ensures in
    record {
      taken = λ con words rows h.
          let other = other-ask c.args.ask c.in_default.not-Lodge words (station_limits_in con) (returns_judged con words rows) in
          taken-nothing con words rows (row.Lodge c.args.ask) c.args.self.now c.pass.new.self other.0 other.1 other.2 counted h;
      passed = search rules;
      lists = ap (λ (x : Register). x.lists) counted;
    }

pub returns-then-is_left_out-clause-taken : goal.returns-then-is_left_out-clause-taken
returns-then-is_left_out-clause-taken c con words rows h =
    let out : is_left_out words (row.Lodge c.args.ask) ≡ true =
    ap (λ a. is_left_out words (row.Lodge a)) c.in-Lodge.is ∙ sym (h.left_out c.in-Lodge.station) ∙ sym c.is_left_out.ensures ∙ c.if-is_left_out.true in
    taken-left_out con words rows (row.Lodge c.args.ask) c.args.self.now out h

pub returns-clause-taken : goal.returns-clause-taken
returns-clause-taken c con words rows h =
    let way = c.in-Lodge in
    let judged : is_left_out words (row.Lodge (Lodge way.station way.slip way.counts)) ≡ false =
    sym (h.left_out way.station) ∙ sym c.is_left_out.ensures ∙ c.if-is_left_out.false in
    let ensured = c.in_ok-lodged.ensures in
    subst (λ a. HasTaken con words (rows ++ row.Lodge a ∷ []) c.count.new.self) (sym way.is)
    (taken-lodge con words rows way.station way.slip way.counts c.args.self.now c.lodge.new.self c.count.new.self c.in_ok-lodged.lodged
    judged ensured.kept c.count.ensures h
    (ensured.table con (returns_judged con words rows) h.lists h.stations h.table)
    (ensured.answer con (returns_judged con words rows) h.lists h.stations h.table))
