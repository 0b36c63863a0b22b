-- How one value of what is kept is distinguished from another. No reader needs it.
use Rattle.std.specs.Prelude.{ℕ, List, Bool, refl}
use Rattle.std.specs.Coded.{Coded, code_by, coded×, coded_list, coded_bool, coded_ℕ}
use Rattle.std.specs.FinMap.{FinMap, code}
use Rattle.tally_setup.specs.Code.{code_cmp}
use Rattle.tally_setup.specs.Constituency.{Constituency}
use Rattle.tally_setup.specs.contracts.setup.Setup.{the_row as setup_row}
use Rattle.tally_returns.specs.Return.{Returns}
use Rattle.tally_returns.specs.State.{State, ConState, GoneCandidates, PastRecords}
use Rattle.tally_returns.specs.contracts.returns.Return.{the_row as return_row}
use Rattle.tally_keeper.specs.Kept.{Kept, Seats}

abbrev gone_code : Coded GoneCandidates
gone_code = code (coded_list coded_ℕ) (coded_list coded_ℕ)

abbrev past_code : Coded PastRecords
past_code = code coded_ℕ (coded_list coded_ℕ)

abbrev con_code : Coded ConState
con_code =
    code_by (ℕ × (Bool × (List ℕ × (List ℕ × (GoneCandidates × PastRecords)))))
    (coded× coded_ℕ (coded× coded_bool (coded× (coded_list coded_ℕ)
    (coded× (coded_list coded_ℕ) (coded× gone_code past_code)))))
    (λ c. (c.edition, (c.certified, (c.note, (c.lot, (c.gone, c.past))))))
    (λ p. record {
      edition = p.0;
      certified = p.1.0;
      note = p.1.1.0;
      lot = p.1.1.1.0;
      gone = p.1.1.1.1.0;
      past = p.1.1.1.1.1;
    })
    (λ _. refl)

abbrev pub state_code : Coded State
state_code =
    code_by (Returns × FinMap code_cmp ConState)
    (coded× (code (coded_list coded_ℕ) return_row.coded) (code (coded_list coded_ℕ) con_code))
    (λ s. (s.returns, s.cons)) (λ p. record { returns = p.0; cons = p.1 }) (λ _. refl)

abbrev pub kept_code : Coded Kept
kept_code =
    code_by (List Constituency × (State × Seats))
    (coded× setup_row.coded (coded× state_code (code (coded_list coded_ℕ) (coded_list coded_ℕ))))
    (λ k. (k.setup, (record { returns = k.returns; cons = k.cons }, k.seats)))
    (λ p. record {
      setup = p.0;
      returns = p.1.0.returns;
      cons = p.1.0.cons;
      seats = p.1.1;
    })
    (λ _. refl)
