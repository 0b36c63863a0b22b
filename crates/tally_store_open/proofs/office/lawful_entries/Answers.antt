use Rattle.std.proofs.Common.{◌∙◌, IsTrue, ap, subst, sym, true≢false}
use Rattle.std.specs.Prelude.{All}
use Rattle.tally_store_open.specs.internal.Entries.{IsLawfulEntry, rises}
use Rattle.tally_store_open.proofs.VerdictLemmas.{must_read_some, must_rise}
use Rattle.tally_store_open.proofs.office.lawful_entries.Goals as goal

pub returns-in_default-clause-must_read : goal.returns-in_default-clause-must_read
returns-in_default-clause-must_read c standing h =
    let none = rw c.in_default.is at c.in_ok-entries.ensures in
    absurd (must_read_some c.args.setup.now c.args.returns.now c.args.counts.now standing c.requires none h)

pub returns-then-not-stations_rise-clause-must_read : goal.returns-then-not-stations_rise-clause-must_read
returns-then-not-stations_rise-clause-must_read c standing h =
    let read = rw c.in-Some.is at c.in_ok-entries.ensures in
    let must = must_rise c.args.setup.now c.args.returns.now c.args.counts.now standing c.in-Some.entries.items c.requires read h in
    absurd (true≢false (sym must.0 ∙ ap rises (sym c.deref.ensures.value) ∙ sym c.stations_rise.ensures ∙ c.if-not-stations_rise.true))

pub returns-then-not-are_lawful-clause-must_read : goal.returns-then-not-are_lawful-clause-must_read
returns-then-not-are_lawful-clause-must_read c standing h =
    let read = rw c.in-Some.is at c.in_ok-entries.ensures in
    let must = must_rise c.args.setup.now c.args.returns.now c.args.counts.now standing c.in-Some.entries.items c.requires read h in
    let passed = c.are_lawful.ensures.otherwise (subst (All (IsLawfulEntry c.args.setup.now)) (sym c.deref-2.ensures.value) must.1) in
    absurd (true≢false (sym passed ∙ c.if-not-are_lawful.true))

pub returns-clause-read : goal.returns-clause-read
returns-clause-read c =
    let passed : IsTrue c.are_lawful.result = c.if-not-are_lawful.false in
    record {
      read = rw c.in-Some.is at c.in_ok-entries.ensures;
      rise = ap rises (sym c.deref.ensures.value) ∙ sym c.stations_rise.ensures ∙ c.if-not-stations_rise.false;
      lawful = subst (All (IsLawfulEntry c.args.setup.now)) c.deref-2.ensures.value (c.are_lawful.ensures.lawful passed);
    }
