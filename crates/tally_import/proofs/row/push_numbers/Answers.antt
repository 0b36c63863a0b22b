use Rattle.std.proofs.Common.{rules, ◌≡◌, ◌<◌, ◌≤◌, ◌+◌, ◌-◌, ◌∙◌, drop, map, get_or, [], length, sym, ap, subst, arith, length-drop}
use Rattle.std.proofs.lemmas.List.{at_drop_all, map_more, take_all}
use Rattle.csv.specs.Records.{fields_of}
use Rattle.tally_import.specs.Rows.{first_unread, is_number_text, written_number}
use Rattle.tally_import.proofs.NumberLemmas.{read-number, unread-more}
use Rattle.tally_import.proofs.row.push_numbers.Goals as goal

pub loop-place-preserved : goal.loop-place-preserved
loop-place-preserved c =
    let fields = fields_of c.args.fields.now in
    let texts = drop 4 fields in
    let at = c.loop-place.place - 4 in
    let within : at < length texts = omega (arith, length-drop 4 fields) in
    let same : get_or texts at [] ≡ c.field.result.now = search rules in
    let read = read-number (is_number_text c.field.result.now) (written_number c.field.result.now) c.in-Some.n c.written_number.result c.written_number.ensures c.in-Some.is in
    let next : at + 1 ≡ c.loop-place.place + 1 - 4 = omega arith in
    record {
      unread = subst (λ n. first_unread n (drop n texts) ≡ first_unread 0 texts) next (unread-more at texts within (ap is_number_text same ∙ read.0) ∙ c.loop-place.invariant.unread);
      values = rw (← next, map_more written_number texts at [] within, same, ← read.1, ← c.loop-place.invariant.values) (search rules);
    }

pub returns-clause-unread : goal.returns-clause-unread
returns-clause-unread c =
    let texts = drop 4 (fields_of c.args.fields.now) in
    let at = c.loop-place.place - 4 in
    let past : length texts ≤ at = omega (arith, length-drop 4 (fields_of c.args.fields.now), c.len-place-end.ensures, c.loop-place-test.false) in
    sym (at_drop_all (first_unread at) texts at past) ∙ c.loop-place.invariant.unread

pub returns-clause-votes : goal.returns-clause-votes
returns-clause-votes c _ =
    let texts = drop 4 (fields_of c.args.fields.now) in
    let at = c.loop-place.place - 4 in
    let past : length texts ≤ at = omega (arith, length-drop 4 (fields_of c.args.fields.now), c.len-place-end.ensures, c.loop-place-test.false) in
    c.loop-place.invariant.values ∙ ap (map written_number) (take_all at texts past)
