use Rattle.std.proofs.Common.{◌≡◌, ◌∙◌, ◌++◌, List, ℕ, Result, Ok, Err, OnOk, append_assoc, ap, string_bytes}
use Rattle.std.specs.Prelude.{codes}
use Rattle.tally_report_lines.specs.Columns.{heading, list_lines}
use Rattle.tally_report.specs.ProvisionalText.{provisional_text, stations_line, status_line, total_line}
use Rattle.tally_report.specs.SeatsText.{seats_line}
use Rattle.tally_report.proofs.provisional.push_text.Goals as goal

-- the parts of a text, one after the other
five : (old a b c d e one two three four new : List ℕ) → one ≡ old ++ a → two ≡ one ++ b → three ≡ two ++ c → four ≡ three ++ d → new ≡ four ++ e → new ≡ old ++ (a ++ b ++ c ++ d ++ e)
five old a b c d e one two three four new p q r s t =
    t
    ∙ ap (λ x. x ++ e) (s ∙ ap (λ x. x ++ d) (r ∙ ap (λ x. x ++ c) (q ∙ ap (λ x. x ++ b) p)))
    ∙ joined
  where
    joined : old ++ a ++ b ++ c ++ d ++ e ≡ old ++ (a ++ b ++ c ++ d ++ e)
    joined = simp append_assoc

where_ok : {T E : Type 0} (result : Result T E) (P Q : Type 0) → (P → Q) → OnOk result P → OnOk result Q
where_ok (Ok x) P Q to is = to is
where_ok (Err e) P Q to is = tt

pub returns : goal.returns
returns c =
    let con = c.args.con.now in
    let view = c.args.view.now in
    let status = c.args.status.now in
    let seats = c.args.seats.now in
    let old = string_bytes c.args.text.now in
    let four = string_bytes c.push_lists.new.text in
    let new = string_bytes c.push_total.new.text in
    where_ok c.push_total.result (new ≡ four ++ total_line seats) (new ≡ old ++ provisional_text con view status seats)
    (λ last. five old (heading (codes "PROVISIONAL") con) (stations_line view) (status_line con status) (list_lines (seats_line seats) con) (total_line seats)
    (string_bytes c.push_heading.new.text) (string_bytes c.push_stations.new.text) (string_bytes c.push_status.new.text) four new
    c.in_ok-push_heading.ensures c.in_ok-push_stations.ensures c.in_ok-push_status.ensures c.in_ok-push_lists.ensures last)
    c.push_total.ensures
