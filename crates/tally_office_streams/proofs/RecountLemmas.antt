-- How a recount ends, by what reading the setup and counting came to.
use Rattle.std.proofs.Common.{◌≡◌, ℕ, List, Option, Some, None, IfSome, Result, refl, sym, inl, inr}
use Rattle.tally_import_recount.specs.Recounts.{IsSilent, Recounts}
use Rattle.tally_import_options.specs.WantedRecount.{Wanted}
use Rattle.tally_import_recount.specs.declared.fault.RecountTrouble.{RecountTrouble}
use Rattle.tally_setup.specs.Constituency.{Constituency}
use Rattle.tally_setup.specs.Setup.{constituency_with}
use Rattle.tally_office_trouble.specs.SetupFile.{IsSetupOfFile, IsTroubleOfSetupFile}
use Rattle.tally_office_trouble.specs.Reported.{IsReported}
use Rattle.tally_office_trouble.specs.Trouble.{trouble_line, trouble_status}
use Rattle.tally_office_trouble.specs.Written.{Bytes}
use Rattle.tally_office_trouble.specs.declared.trouble.Trouble.{Trouble}
use Rattle.tally_office_trouble.specs.declared.trouble.Trouble.TheVariants as trouble
use Rattle.tally_office_streams.specs.Recounted.{EndsRecount, IsRecountAnswered}
use Rattle.tally_office_streams.specs.Streams.{streams}

-- the file gave no setup
pub without-setup : {R W E : Type 0} (Gives : Option (List ℕ) → Type 0) (left : Bytes R) (held : Bytes W) (reported : Bytes E) (code : List ℕ) (w : Wanted) (i : R) (o : W) (before after : E) (t : Trouble) (status : ℕ)
    → IsTroubleOfSetupFile Gives t → IsReported (reported before) (reported after) (trouble_line t) → status ≡ trouble_status t
    → EndsRecount Gives left held reported code w (streams i o before) (streams i o after) status
without-setup Gives left held reported code w i o before after t status is so gives =
    inl (record { trouble = t; named = inl is; report = so; gives = gives; untouched = record { input = refl; output = refl } })

-- the setup has no constituency of the code
pub without-con : {R W E : Type 0} (Gives : Option (List ℕ) → Type 0) (left : Bytes R) (held : Bytes W) (reported : Bytes E) (code : List ℕ) (w : Wanted) (setup : List Constituency) (i : R) (o : W) (before after : E) (status : ℕ)
    → IsSetupOfFile Gives setup → None ≡ constituency_with code setup → IsReported (reported before) (reported after) (trouble_line trouble.NoConstituency) → status ≡ 1
    → EndsRecount Gives left held reported code w (streams i o before) (streams i o after) status
without-con Gives left held reported code w setup i o before after status is none so gives = inl (record {
  trouble = trouble.NoConstituency;
  named = inr (refl, record { text = is.0; setup = setup; gives = is.1; is = is.2; none = sym none });
  report = so;
  gives = gives;
  untouched = record { input = refl; output = refl };
})

-- the returns were counted, or have a trouble
pub counted : {R W E : Type 0} (Gives : Option (List ℕ) → Type 0) (left : Bytes R) (held : Bytes W) (reported : Bytes E) (code : List ℕ) (w : Wanted) (setup : List Constituency) (con : Constituency)
    (i j : R) (o p : W) (before after : E) (outcome : Result (Unit {0}) RecountTrouble) (status : ℕ)
    → IsSetupOfFile Gives setup → Some con ≡ constituency_with code setup
    → IfSome (left i) (λ returns. Recounts con w returns (held o) (held p) outcome) → IsSilent (held o) (held p) outcome → IsRecountAnswered reported before after outcome status
    → EndsRecount Gives left held reported code w (streams i o before) (streams j p after) status
counted Gives left held reported code w setup con i j o p before after outcome status is has recounts silent answered = inr (record {
  text = is.0;
  setup = setup;
  con = con;
  gives = is.1;
  is = is.2;
  has = sym has;
  outcome = outcome;
  recounts = recounts;
  silent = silent;
  answered = answered;
})
