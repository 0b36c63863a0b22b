-- What a keeper in memory answers, and what it keeps.
use Rattle.std.specs.Prelude.{◌≡◌, ◌⊎◌, ◌+◌, ◌<◌, ◌^◌, ℕ, Bool, true, false, List, [], ◌∷◌, None}
use Rattle.std.specs.Prelude.{IsSome, IfSome, Result, Err, refl}
use Rattle.std.specs.Coded.{Coded, code_by, coded×}
use Rattle.std.specs.FinMap.{get, remove}
use Rattle.std.specs.Option.{ForSome}
use Rattle.tally_keeper.specs.Kept.{AreEarlier, Kept, state_in, view_in, with_change}
use Rattle.tally_keeper.specs.internal.KeptCode.{state_code}
use Rattle.tally_setup.specs.Constituency.{Constituency}
use Rattle.tally_setup.specs.Limits.{IsSetup}
use Rattle.tally_setup.specs.Setup.{constituency_with}
use Rattle.tally_setup.specs.contracts.setup.Setup.{the_row as setup_row}
use Rattle.tally_machine_law.specs.Step.{ConChange, IsView, con_change, gone_for_good, Answer}
use Rattle.tally_machine_law.specs.Step.{answer_seen, edition_now, vacated, IsConStep, IsStep}
use Rattle.tally_machine_law.specs.Step.{reply_seen}
use Rattle.tally_machine_law.specs.Step.{lodge_reply, move_reply, after_return, change_in_state}
use Rattle.tally_returns.specs.Counts.{VoteCounts}
use Rattle.tally_machine_law.specs.LawfulState.{IsLawfulState}
use Rattle.tally_returns.specs.Lodge.{lodge, lodge_answer}
use Rattle.tally_returns.specs.Return.{Returns}
use Rattle.tally_returns.specs.State.{State, con_state, stations_of}
use Rattle.tally_returns.specs.declared.ask.Ask.{Ask}
use Rattle.tally_returns.specs.declared.ask.Ask.TheVariants.{Query, Correct, Close, Confirm}
use Rattle.tally_returns.specs.declared.change.Change.{Change}
use Rattle.tally_returns.specs.declared.change.Change.TheVariants.{SetLot, SetCertified}
use Rattle.tally_returns.specs.declared.change.Change.TheVariants.{SetReopened, SetGone}
use Rattle.tally_returns.specs.declared.refusal.Refusal.{Refusal}
use Rattle.tally_returns.specs.declared.refusal.Refusal.TheVariants.{Memory}
use Rattle.tally_returns.specs.declared.reply.LodgeReply.{LodgeReply}
use Rattle.tally_returns.specs.declared.reply.Reply.{Reply}
use Rattle.tally_returns_rows.specs.Import.{RowAnswer, after_row, row_answer}
use Rattle.tally_returns_rows.specs.declared.import.Row.{Row}
use Rattle.tally_keeper.specs.Held.{Held}

abbrev pub held_code : Coded Held
held_code =
    code_by (List Constituency × State) (coded× setup_row.coded state_code)
    (λ h. (h.setup, h.state)) (λ p. record { setup = p.0; state = p.1 }) (λ _. refl)

-- What is kept is lawful, and the seats that are kept of a certified constituency are those of the
-- one allotment.
pub record IsHeld (k : Kept) : Type 0 where
  pub limits : IsSetup k.setup
  pub lawful : IsLawfulState k.setup (state_in k)
  pub seats : (code : List ℕ) →
      ForSome (constituency_with code k.setup) (λ con. IsView con (state_in k) (view_in k con))

-- A keeper in memory answers a request by a step, or is out of memory and has changed nothing.
abbrev pub IsAnsweredInMemory : List Constituency → State → Ask → Result Reply Refusal →
    State → Type 0
IsAnsweredInMemory setup s ask r t = IsStep setup s ask r t ⊎ ((r ≡ Err Memory) × (t ≡ s))

-- what a Lodge is answered, and the returns that it leaves
abbrev pub lodge_answer_in : Kept → List ℕ → List ℕ → VoteCounts → Result LodgeReply Refusal
lodge_answer_in k station slip counts =
    lodge_answer (stations_of k.setup) k.returns station slip counts

abbrev pub after_lodge_in : Kept → List ℕ → List ℕ → VoteCounts → Returns
after_lodge_in k station slip counts = lodge (stations_of k.setup) k.returns station slip counts

-- a Lodge was answered and carried out, or it is out of memory and nothing has changed
abbrev pub CarriesOutLodge : Kept → List ℕ → List ℕ → VoteCounts →
    Result Reply Refusal → Kept → Type 0
CarriesOutLodge k station slip counts r new =
    ((reply_seen r ≡ lodge_reply (lodge_answer_in k station slip counts)) ×
    (new ≡ record k { returns = after_lodge_in k station slip counts }))
    ⊎ ((r ≡ Err Memory) × (new ≡ k))

-- what is kept after a state: the seats stay
abbrev pub with_state : Kept → State → Kept
with_state k s = record k { returns = s.returns; cons = s.cons }

-- the same of a command that moves a return
abbrev pub IsMoved : Kept → Ask → Result Reply Refusal → Kept → Type 0
IsMoved k ask r new =
    ((reply_seen r ≡ move_reply (change_in_state k.setup (state_in k) ask)) ×
    (new ≡ with_state k (after_return k.setup (state_in k) ask)))
    ⊎ ((r ≡ Err Memory) × (new ≡ k))

-- Query, Correct, Close and Confirm move a return
abbrev pub moves_return : Ask → Bool
moves_return (Query station rev note) = true
moves_return (Correct station rev slip counts) = true
moves_return (Close station rev) = true
moves_return (Confirm station rev slip counts) = true
moves_return other = false

-- a query takes the lot of its constituency with it, and no other command does
abbrev pub is_query : Ask → Bool
is_query (Query station rev note) = true
is_query other = false

-- a command on the constituency of a code was answered by a step, or it is out of memory and
-- nothing has changed
abbrev pub IsAnsweredOn : List ℕ → Kept → Ask → Result Reply Refusal → Kept → Type 0
IsAnsweredOn code k ask r new =
    IsConStep (constituency_with code k.setup) (state_in k) ask r (state_in new) ⊎
    ((r ≡ Err Memory) × (state_in new ≡ state_in k))

-- whether a change makes the edition rise
abbrev pub is_edition_change : Change → Bool
is_edition_change (SetLot places) = true
is_edition_change (SetCertified seats) = true
is_edition_change (SetReopened note past) = true
is_edition_change other = false

-- The edition of a constituency of the setup can rise: it is at this one, which is not the last.
abbrev pub CanRise : Kept → List ℕ → ℕ → Type 0
CanRise k code edition = IsSome (constituency_with code k.setup) ×
    ((con_state (state_in k) code).edition ≡ edition) × (edition + 1 < 2 ^ 32)

-- A change can be carried out: of a constituency of the setup whose edition can rise; a candidate
-- who goes is not gone; and a certificate that is put on record comes after those that are.
abbrev pub CanCarryOut : Kept → List ℕ → ℕ → Change → Type 0
CanCarryOut k code edition (SetGone candidate next) =
    IsSome (constituency_with code k.setup) ×
    (get (con_state (state_in k) code).gone (candidate.list ∷ candidate.place ∷ []) ≡ None)
CanCarryOut k code edition (SetReopened note past) =
    CanRise k code edition × AreEarlier (con_state (state_in k) code).past past.edition
CanCarryOut k code edition change = CanRise k code edition × (is_edition_change change ≡ true)

-- what is answered where a change was carried out
abbrev pub carried_reply : ℕ → ConChange → Answer
carried_reply edition (gone_for_good candidate next) = vacated next
carried_reply edition other = edition_now (edition + 1)

-- the reply says what was changed, of a constituency that was at this edition
abbrev pub TellsChange : ℕ → Change → Reply → Type 0
TellsChange edition change reply =
    IfSome (con_change change) (λ decided. answer_seen reply ≡ carried_reply edition decided)

-- the change was carried out
abbrev pub IsAfterChange : Kept → List ℕ → Change → Kept → Type 0
IsAfterChange k code change new =
    IfSome (con_change change) (λ decided. new ≡ with_change k code decided)

-- what a row of an import is answered, and the returns that it leaves
abbrev pub row_answer_in : Kept → Row → RowAnswer
row_answer_in k row = row_answer (stations_of k.setup) k.returns row

abbrev pub after_row_in : Kept → Row → Returns
after_row_in k row = after_row (stations_of k.setup) k.returns row

-- the returns except those of these stations
abbrev pub returns_without : List (List ℕ) → Returns → Returns
returns_without [] returns = returns
returns_without (station ∷ stations) returns = returns_without stations (remove returns station)
