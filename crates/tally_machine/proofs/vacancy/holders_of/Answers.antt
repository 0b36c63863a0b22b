use Rattle.std.proofs.Common.{◌≡◌, ◌-◌, ◌∙◌, ℕ, List, length, refl, ap, arith}
use Rattle.std.specs.Prelude.{slice_index}
use Rattle.std.proofs.lemmas.List.{get_or_read}
use Rattle.tally_machine_law.specs.Certification.{ListFound, holders_of}
use Rattle.tally_machine_law.specs.Holders.{holders}
use Rattle.tally_returns.specs.View.{View}
use Rattle.tally_machine_law.proofs.CertificationLemmas.{on_ok}
use Rattle.tally_machine_law.proofs.VacancyLemmas.{holders-found}
use Rattle.tally_machine.proofs.vacancy.holders_of.Goals as goal

pub returns : goal.returns
returns c =
    let view = c.args.view.now in
    let list = c.args.list.now in
    let gone = c.args.gone.now in
    let many : c.list.inside.candidates ≡ list.candidates = ap (λ (f : ListFound). f.candidates) c.list.view_is in
    let place : c.list.inside.place ≡ list.place = ap (λ (f : ListFound). f.place) c.list.view_is in
    let seats : c.view.inside.seats.items ≡ view.seats = ap (λ (v : View). v.seats) c.view.view_is in
    let long : length c.view.inside.seats.items ≡ length view.seats = ap length seats in
    let given : c.index-seats.result.now ≡ slice_index view.seats (list.place - 1) =
    get_or_read c.view.inside.seats.items (c.list.inside.place - 1) c.index-seats.result.now (omega (arith, c.requires.place, c.requires.seats, place, long)) c.index-seats.ensures 0
    ∙ ap (λ (xs : List ℕ). slice_index xs (c.list.inside.place - 1)) seats
    ∙ ap (λ (n : ℕ). slice_index view.seats (n - 1)) place in
    on_ok c.holders.result (λ places. places.items ≡ holders c.list.inside.candidates c.index-seats.result.now gone) (λ places. places.items ≡ holders_of view list gone)
    (λ places held. held ∙ holders-found view list c.list.inside.candidates c.index-seats.result.now gone gone many given refl)
    c.holders.ensures
