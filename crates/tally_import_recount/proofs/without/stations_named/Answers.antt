use Rattle.std.proofs.Common.{◌≡◌, ◌∙◌, Some, sym, ap}
use Rattle.tally_setup.specs.Code.{code_of}
use Rattle.tally_import_recount.proofs.TableLemmas.{word-known, word-put, word-unknown}
use Rattle.tally_import_recount.proofs.without.stations_named.Goals as goal

pub returns-then-not-contains_key-clause-trouble : goal.returns-then-not-contains_key-clause-trouble
returns-then-not-contains_key-clause-trouble c =
    let x = c.word-item.result in
    let named : code_of x.items ≡ Some c.in-Some.code = ap code_of (sym c.deref.ensures.value) ∙ sym c.new.ensures ∙ c.in-Some.is in
    sym c.loop-word.invariant.known
    ∙ word-unknown c.args.con.now c.args.stations.now c.args.words.now c.loop-word.word-index x c.in-Some.code c.requires c.loop-word-test.true c.word-item.is named
    (sym c.contains_key.ensures ∙ c.if-not-contains_key.true)

pub loop-word-preserved : goal.loop-word-preserved
loop-word-preserved c =
    let x = c.word-item.result in
    let i = c.loop-word.word-index in
    let words = c.args.words.now in
    let named : code_of x.items ≡ Some c.in-Some.code = ap code_of (sym c.deref.ensures.value) ∙ sym c.new.ensures ∙ c.in-Some.is in
    record {
      known = word-known c.args.con.now c.args.stations.now words i x c.in-Some.code c.requires c.loop-word-test.true c.word-item.is named
          (sym c.contains_key.ensures ∙ c.if-not-contains_key.false)
          ∙ c.loop-word.invariant.known;
      words = λ q. word-put c.loop-word.codes c.insert.new.self words i x c.in-Some.code q c.loop-word-test.true c.word-item.is named c.in-Ok.ensures.updates
          ∙ c.loop-word.invariant.words q;
    }
