use Rattle.std.proofs.Common.{◌≡◌, ◌≤◌, ◌∙◌, [], length, refl, rules, true, false, subst, sym, ap}
use Rattle.std.specs.List.{list_any}
use Rattle.std.specs.Str.{bytes_eq}
use Rattle.csv.specs.Records.{fields_of}
use Rattle.tally_setup.specs.Constituency.{list_codes, station_codes}
use Rattle.tally_returns_rows.specs.declared.source.ImportFault.TheVariants as cause
use Rattle.tally_import_records.specs.Input.{AreAll}
use Rattle.tally_import_records.specs.Given.{WatchAgrees}
use Rattle.tally_import.specs.ReturnRows.{IsNext, is_header, text_coming}
use Rattle.tally_import.specs.declared.return_rows.Rows.{Rows}
use Rattle.tally_import.proofs.ReturnRowsLemmas.{rows-opened, header-stop, header-bad, header-read}
use Rattle.tally_import.proofs.return_rows.start.Goals as goal

pub returns-in-Some-clause-fault : goal.returns-in-Some-clause-fault
returns-in-Some-clause-fault g c =
    let text = g.R.Read.remaining c.args.reader.now in
    let all = c.in_ok-end.ensures.all c.in-Some.end c.in-Some.is text [] c.in_ok-records.ensures.given in
    subst (λ f. IsNext text (text_coming c.args.con.now c.args.sep) f) (sym c.header_fault.ensures.fault)
    (header-stop c.args.con.now c.args.sep text (g.R.Read.remaining c.next.new.input) c.in-Some.end.stop
    (subst (λ s. AreAll s text (g.R.Read.remaining c.next.new.input) [] c.in-Some.end.stop) c.in_ok-records.ensures.sep all))

pub returns-in-Some-clause-before : goal.returns-in-Some-clause-before
returns-in-Some-clause-before g c is =
    let text = g.R.Read.remaining c.args.reader.now in
    let left = g.R.Read.remaining c.next.new.input in
    let stop = c.in-Some.end.stop in
    let fault : c.header_fault.result ≡ cause.Read = cc is in
    header-read c.args.con.now c.args.sep text left stop
    (subst (λ s. AreAll s text left [] stop) c.in_ok-records.ensures.sep
    (c.in_ok-end.ensures.all c.in-Some.end c.in-Some.is text [] c.in_ok-records.ensures.given))
    (sym c.header_fault.ensures.fault ∙ fault)

pub returns-then-not-is_header-clause-fault : goal.returns-then-not-is_header-clause-fault
returns-then-not-is_header-clause-fault g c =
    let text = g.R.Read.remaining c.args.reader.now in
    let lists : list_codes c.as_slice.result.now ≡ list_codes c.args.con.now.lists = ap list_codes (c.as_slice.ensures.value ∙ ap (λ k. k.lists) c.con.view_is) in
    let bad : is_header (list_codes c.args.con.now.lists) (fields_of c.next.new.into) ≡ false =
    ap (λ l. is_header l (fields_of c.next.new.into)) (sym lists) ∙ sym c.is_header.ensures ∙ c.if-not-is_header.true in
    subst (λ s. IsNext text (text_coming c.args.con.now s) _) (c.next.ensures.sep ∙ c.in_ok-records.ensures.sep)
    (header-bad c.args.con.now c.next.new.self text (g.R.Read.remaining c.next.new.input) (fields_of c.next.new.into) bad
    (c.in_ok-end.ensures.record c.in_default.is text [] c.in_ok-records.ensures.given))

pub returns-clause-true_at : goal.returns-clause-true_at
returns-clause-true_at g c none =
    subst (λ before. WatchAgrees before c.next.new.self c.next.new.watch.failed) none (c.in_ok-end.ensures.agrees c.args.watch.now.failed c.in_ok-records.ensures.failed)

pub returns-clause-begun : goal.returns-clause-begun
returns-clause-begun g c =
    let text = g.R.Read.remaining c.args.reader.now in
    let lists : list_codes c.as_slice.result.now ≡ list_codes c.args.con.now.lists = ap list_codes (c.as_slice.ensures.value ∙ ap (λ k. k.lists) c.con.view_is) in
    let good : is_header (list_codes c.args.con.now.lists) (fields_of c.next.new.into) ≡ true =
    ap (λ l. is_header l (fields_of c.next.new.into)) (sym lists) ∙ sym c.is_header.ensures ∙ c.if-not-is_header.false in
    let few : length c.args.con.now.lists ≤ 60 = subst (λ k. length k.lists ≤ 60) c.con.view_is c.con.invariant.lists in
    let count : c.len.result ≡ length c.con.inside.lists.items = search rules in
    let rows : Rows = record { records = c.next.new.self; lists = c.len.result; stations = c.in_ok-stations.stations; came = 0; fields = c.next.new.into } in
    let reading =
    rows-opened text (g.R.Read.remaining c.new.new.input) (g.R.Read.remaining c.next.new.input) c.args.con.now c.args.sep c.in_ok-records.records rows (fields_of c.next.new.into)
    c.in_ok-records.ensures.given (c.in_ok-end.ensures.record c.in_default.is) (c.in_ok-end.ensures.reading c.in_default.is)
    (c.next.ensures.sep ∙ c.in_ok-records.ensures.sep) good (count ∙ ap (λ k. length k.lists) c.con.view_is) few
    (λ code. c.in_ok-stations.ensures code ∙ ap (λ l. list_any (bytes_eq code) (station_codes l)) (c.as_slice-2.ensures.value ∙ ap (λ k. k.stations) c.con.view_is)) refl in
    record { rows = rows; is = refl; first = refl; reading = reading }
