use Rattle.std.proofs.Common.{◌≡◌, ◌∙◌, ap, subst, refl, option_map, rules}
use Rattle.std.specs.List.{find}
use Rattle.std.specs.Str.{bytes_eq}
use Rattle.tally_setup.specs.Constituency.{entitled}
use Rattle.tally_setup.specs.declared.constituency.Station.{Station}
use Rattle.tally_import.proofs.TableLemmas.{Holds-empty}
use Rattle.tally_import_votes.specs.Lot.{bytes_of}
use Rattle.tally_import_recount.specs.internal.Register.{HasWords}
use Rattle.tally_import_recount.proofs.register.Register.new.Goals as goal

pub returns-in-Ok-stations_named-clause-taken : goal.returns-in-Ok-stations_named-clause-taken
returns-in-Ok-stations_named-clause-taken c =
    let same : c.deref.result.now ≡ c.args.con.now.stations = search rules in
    record {
      lists = search rules;
      stations = λ code. c.in-Ok-entitled_at.ensures code ∙ ap (λ l. option_map entitled (find (λ (s : Station). bytes_eq code s.code) l)) same;
      left_out = subst (λ l. HasWords l c.in-Ok-stations_named.left_out) (ap bytes_of c.deref-2.ensures.value ∙ c.in-Ok.ensures) c.in-Ok-stations_named.ensures.words;
      table = Holds-empty c.new.result c.new.ensures.empty;
      passed = refl;
    }
