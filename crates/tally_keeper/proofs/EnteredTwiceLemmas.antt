-- What is closed where returns are entered twice was entered twice by what happened to a keeper.
use Rattle.std.proofs.Common.{◌≡◌, ◌≢◌, ◌<◌, ◌∷◌, ◌∙◌, ℕ, zero, suc, List, [], Bool, true, false, Option, Some, None, Result, refl, sym, ap, subst, arith}
use Rattle.std.specs.Prelude.{All}
use Rattle.std.specs.FinMap as fin
use Rattle.std.proofs.lemmas.List.Elements.{All-nil, All-cons, All-head, All-tail}
use Rattle.tally_setup.specs.Code.{code_cmp}
use Rattle.tally_setup.specs.Constituency.{Constituency}
use Rattle.tally_setup.specs.Limits.{IsSetup}
use Rattle.tally_setup.specs.Setup.{station_with}
use Rattle.tally_setup.specs.declared.constituency.Entry.TheVariants.{Double}
use Rattle.tally_setup.specs.declared.constituency.Station.{Station}
use Rattle.tally_returns.specs.Moves.{closed_return, may_close}
use Rattle.tally_returns.specs.Named.{slip_named}
use Rattle.tally_returns.specs.Progress.{is_closed}
use Rattle.tally_returns.specs.Return.{StationReturn}
use Rattle.tally_returns.specs.State.{State, opening}
use Rattle.tally_returns.specs.declared.ask.Ask.{Ask}
use Rattle.tally_returns.specs.declared.ask.Ask.TheVariants.{Lodge}
use Rattle.tally_returns.specs.declared.refusal.Refusal.{Refusal}
use Rattle.tally_returns.specs.declared.reply.Reply.{Reply}
use Rattle.tally_returns.specs.declared.returns.Status.TheVariants.{Closed, Queried}
use Rattle.tally_machine_law.specs.EnteredTwice.{ActsOn, BringsAt, ForCertifiedReturns, ForClosedReturns, is_first_entry, is_second_entry}
use Rattle.tally_machine_law.specs.Runs.{IsRun}
use Rattle.tally_machine_law.proofs.EnteredTwiceLemmas.{HasMade, IsMade, IsTurn, brings-first, brings-same, certified-each, has-made, later-brings, none-acts, turn}
use Rattle.tally_machine_law.proofs.EnteredTwiceLemmas as steps
use Rattle.tally_machine_law.proofs.ReturnStepLemmas.{opening-lawful}
use Rattle.tally_keeper.specs.EnteredTwice.{ActsIn, BringsIn, HoldsAt, IsEnteredTwiceIn}
use Rattle.tally_keeper.specs.Events.{BringsCodes, lodge_answers, lodge_commands}
use Rattle.tally_keeper.specs.Keeper.{Event, Happens, HappensInTurn, IsTaken, failed_import, request, whole_import}
use Rattle.tally_returns_rows.specs.declared.import.Row.{Row}
use Rattle.tally_returns_rows.specs.declared.import.Row.TheVariants as row
use Rattle.tally_keeper.proofs.EventLemmas.{happen-lawful}
use Rattle.tally_keeper.proofs.KeeperLemmas.{import-run, shut-stays}

-- ---- the rows of an import

abbrev IsLodge : Ask → Type 0
IsLodge (Lodge station slip counts) = Unit {0}
IsLodge other = ⊥

rows-lodge : (rows : List Row) → All IsLodge (lodge_commands rows)
rows-lodge [] = All-nil IsLodge
rows-lodge (row.Lodge (Lodge station slip counts) ∷ rows) = All-cons IsLodge (Lodge station slip counts) (lodge_commands rows) tt (rows-lodge rows)
rows-lodge (other ∷ rows) = rows-lodge rows

lodge-slip : (ask : Ask) → IsLodge ask → slip_named ask ≢ None
lodge-slip (Lodge station slip counts) is none = cc
lodge-slip other is none = absurd is

lodge-first : (ask : Ask) (r : Result Reply Refusal) → IsLodge ask → is_second_entry ask r ≢ true
lodge-first (Lodge station slip counts) r is second = cc
lodge-first other r is second = absurd is

-- no Lodge acted on the station, and its return is what it was; or one did, and entered it
data IsLodged (station : List ℕ) (asks : List Ask) (rs : List (Result Reply Refusal)) (found now : Option StationReturn) : Type 0 where
  none : ((place : ℕ) → ¬ ActsOn station asks rs place) → now ≡ found → IsLodged station asks rs found now
  some : (made : StationReturn) → now ≡ Some made → is_closed made.status ≡ false → (place : ℕ) → BringsAt is_first_entry station made asks rs place → IsLodged station asks rs found now

-- ---- what one thing that happened did to the return of a station

data IsDone (station : List ℕ) (event : Event) (found now : Option StationReturn) : Type 0 where
  left : ¬ ActsIn station event → now ≡ found → IsDone station event found now
  entered : (made : StationReturn) → now ≡ Some made → is_closed made.status ≡ false → BringsIn is_first_entry station made event → IsDone station event found now
  queried : (made : StationReturn) → now ≡ Some made → made.status ≡ Queried → IsDone station event found now
  confirmed : (old : StationReturn) → found ≡ Some old → may_close old.status ≡ true → now ≡ Some (closed_return old) → BringsIn is_second_entry station old event → IsDone station event found now

module _ (setup : List Constituency) (station : List ℕ) (con : Constituency) (place : Station) (at : station_with station setup ≡ Some (con, place)) (double : con.entry ≡ Double) where
  lodged : (s t : State) (asks : List Ask) (rs : List (Result Reply Refusal)) → All IsLodge asks → IsRun setup s asks rs t → IsLodged station asks rs (fin.get s.returns station) (fin.get t.returns station)
  lodged s t [] [] all is = none (λ p acts. let no : None ≡ Some acts.ask = acts.at.asked in cc) (ap (λ (x : State). fin.get x.returns station) is)
  lodged s t [] (x ∷ rs) all is = absurd is
  lodged s t (a ∷ asks) [] all is = absurd is
  lodged s t (a ∷ asks) (x ∷ rs) all is = by (turn setup station s a x is.0 is.1) (lodged is.0 t asks rs (All-tail IsLodge a asks all) is.2)
    where
      is_lodge : IsLodge a
      is_lodge = All-head IsLodge a asks all

      first : (now : Option StationReturn) → now ≡ fin.get is.0.returns station → HasMade station a x (fin.get s.returns station) (fin.get is.0.returns station) → IsLodged station (a ∷ asks) (x ∷ rs) (fin.get s.returns station) now
      first now same made = how made.how
        where
          how : IsMade station a x (fin.get s.returns station) made.made → IsLodged station (a ∷ asks) (x ∷ rs) (fin.get s.returns station) now
          how (steps.entered kind unclosed brings) = some made.made (same ∙ made.now_is) unclosed 0 (brings-first is_first_entry station made.made a asks x rs kind brings)
          how (steps.queried status no_slip) = absurd (lodge-slip a is_lodge no_slip)
          how (steps.confirmed old was started put kind brings) = absurd (lodge-first a x is_lodge kind)

      by : IsTurn station a x s is.0 → IsLodged station asks rs (fin.get is.0.returns station) (fin.get t.returns station)
          → IsLodged station (a ∷ asks) (x ∷ rs) (fin.get s.returns station) (fin.get t.returns station)
      by turned (some made now unclosed p brings) = some made now unclosed (suc p) (later-brings is_first_entry station made a asks x rs p brings)
      by (steps.left not same) (none idle stays) = none (none-acts station a asks x rs not idle) (stays ∙ same)
      by (steps.acted named act) (none idle stays) = first (fin.get t.returns station) stays (has-made setup station con place at double s a x is.0 named act is.1)

  done : (s t : State) (event : Event) → IsTaken setup s event t → IsDone station event (fin.get s.returns station) (fin.get t.returns station)
  done s t (request ask r) is = by (turn setup station s ask r t is)
    where
      how : (made : HasMade station ask r (fin.get s.returns station) (fin.get t.returns station)) → IsMade station ask r (fin.get s.returns station) made.made
          → IsDone station (request ask r) (fin.get s.returns station) (fin.get t.returns station)
      how made (steps.entered kind unclosed brings) =
          entered made.made made.now_is unclosed (record { place = 0; brings = brings-first is_first_entry station made.made ask [] r [] kind brings })
      how made (steps.queried status no_slip) = queried made.made made.now_is status
      how made (steps.confirmed old was started put kind brings) =
          confirmed old was started (made.now_is ∙ ap Some put) (record { place = 0; brings = brings-first is_second_entry station old ask [] r [] kind brings })

      by : IsTurn station ask r s t → IsDone station (request ask r) (fin.get s.returns station) (fin.get t.returns station)
      by (steps.left not same) =
          left (λ acts. none-acts station ask [] r [] not (λ p more. let no : None ≡ Some more.ask = more.at.asked in cc) acts.place acts.acts) same
      by (steps.acted named act) = let made = has-made setup station con place at double s ask r t named act is in how made made.how
  done s t (whole_import rows answered count) is =
      by (lodged s t (lodge_commands rows) (lodge_answers answered) (rows-lodge rows) (import-run setup rows answered count s t is).1)
    where
      by : IsLodged station (lodge_commands rows) (lodge_answers answered) (fin.get s.returns station) (fin.get t.returns station)
          → IsDone station (whole_import rows answered count) (fin.get s.returns station) (fin.get t.returns station)
      by (none idle same) = left (λ acts. idle acts.place acts.acts) same
      by (some made now unclosed p brings) = entered made now unclosed (record { place = p; brings = brings })
  done s t (failed_import fault) is =
      left (λ acts. let no : None ≡ Some acts.acts.ask = acts.acts.at.asked in cc) (ap (λ (x : State). fin.get x.returns station) is)

-- ---- places in a list that begins one thing earlier

earlier-acts : (station : List ℕ) (event : Event) (events : List Event) (p : ℕ) → HoldsAt (ActsIn station) (event ∷ events) (suc p) → HoldsAt (ActsIn station) events p
earlier-acts station event events p is = (is.0, is.1, is.2)

later-brings_in : (is_kind : Ask → Result Reply Refusal → Bool) (station : List ℕ) (standing : StationReturn) (event : Event) (events : List Event) (p : ℕ)
    → HoldsAt (BringsIn is_kind station standing) events p → HoldsAt (BringsIn is_kind station standing) (event ∷ events) (suc p)
later-brings_in is_kind station standing event events p is = (is.0, is.1, is.2)

brings_in-same : (is_kind : Ask → Result Reply Refusal → Bool) (station : List ℕ) (old standing : StationReturn) (event : Event) → old.slip ≡ standing.slip → old.counts ≡ standing.counts
    → BringsIn is_kind station old event → BringsIn is_kind station standing event
brings_in-same is_kind station old standing event slip counts is = record {
  place = is.place;
  brings = record { ask = is.brings.ask; r = is.brings.r; at = is.brings.at; kind = is.brings.kind; brings = brings-same station old standing is.brings.ask slip counts is.brings.brings };
}

later-twice : (station : List ℕ) (standing : StationReturn) (event : Event) (events : List Event) → IsEnteredTwiceIn events station standing → IsEnteredTwiceIn (event ∷ events) station standing
later-twice station standing event events is = record {
  first = suc is.first;
  second = suc is.second;
  apart = omega (arith, is.apart);
  first_entry = later-brings_in is_first_entry station standing event events is.first is.first_entry;
  second_entry = later-brings_in is_second_entry station standing event events is.second is.second_entry;
  no_other = no_other;
}
  where
    no_other : (p : ℕ) → suc is.first < p → p ≢ suc is.second → ¬ HoldsAt (ActsIn station) (event ∷ events) p
    no_other zero after other acts = absurd (omega (arith, after))
    no_other (suc p) after other acts = is.no_other p (omega (arith, after)) (λ same. other (ap suc same)) (earlier-acts station event events p acts)

-- ---- where a closed return comes from

-- It was entered twice by what happened; or one was recorded before that a request confirmed,
-- alone; or it was recorded before, and nothing acted on the station.
data IsFrom (station : List ℕ) (standing : StationReturn) (found : Option StationReturn) (events : List Event) : Type 0 where
  twice : IsEnteredTwiceIn events station standing → IsFrom station standing found events
  once : (old : StationReturn) → found ≡ Some old → may_close old.status ≡ true → old.slip ≡ standing.slip → old.counts ≡ standing.counts
      → (second : ℕ) → HoldsAt (BringsIn is_second_entry station standing) events second → ((p : ℕ) → p ≢ second → ¬ HoldsAt (ActsIn station) events p)
      → IsFrom station standing found events
  stood : found ≡ Some standing → ((p : ℕ) → ¬ HoldsAt (ActsIn station) events p) → IsFrom station standing found events

module _ (station : List ℕ) (standing : StationReturn) (closed : standing.status ≡ Closed) (event : Event) (events : List Event) (found now : Option StationReturn) where
  -- one thing earlier, where it entered one that was confirmed later
  from-entered : (made old : StationReturn) → now ≡ Some made → BringsIn is_first_entry station made event
      → now ≡ Some old → old.slip ≡ standing.slip → old.counts ≡ standing.counts
      → (second : ℕ) → HoldsAt (BringsIn is_second_entry station standing) events second → ((p : ℕ) → p ≢ second → ¬ HoldsAt (ActsIn station) events p)
      → IsEnteredTwiceIn (event ∷ events) station standing
  from-entered made old now_is brings stands slip counts second confirms alone = record {
    first = 0;
    second = suc second;
    apart = omega arith;
    first_entry = (event, refl, brings_in-same is_first_entry station made standing event (ap (λ (m : StationReturn). m.slip) same ∙ slip) (ap (λ (m : StationReturn). m.counts) same ∙ counts) brings);
    second_entry = later-brings_in is_second_entry station standing event events second confirms;
    no_other = no_other;
  }
    where
      same : made ≡ old
      same = let both : Some made ≡ Some old = sym now_is ∙ stands in cc

      no_other : (p : ℕ) → 0 < p → p ≢ suc second → ¬ HoldsAt (ActsIn station) (event ∷ events) p
      no_other zero after other acts = absurd (omega (arith, after))
      no_other (suc p) after other acts = alone p (λ is. other (ap suc is)) (earlier-acts station event events p acts)

  -- one thing earlier
  from-done : IsDone station event found now → IsFrom station standing now events → IsFrom station standing found (event ∷ events)
  from-done how (twice entries) = twice (later-twice station standing event events entries)
  from-done (left not same) (once old stands may slip counts second confirms alone) =
      once old (sym same ∙ stands) may slip counts (suc second) (later-brings_in is_second_entry station standing event events second confirms) apart
    where
      apart : (p : ℕ) → p ≢ suc second → ¬ HoldsAt (ActsIn station) (event ∷ events) p
      apart zero other acts = let same : Some event ≡ Some acts.0 = acts.1 in let one : event ≡ acts.0 = cc in not (subst (ActsIn station) (sym one) acts.2)
      apart (suc p) other acts = alone p (λ is. other (ap suc is)) (earlier-acts station event events p acts)
  from-done (entered made now_is unclosed brings) (once old stands may slip counts second confirms alone) =
      twice (from-entered made old now_is brings stands slip counts second confirms alone)
  from-done (queried made now_is status) (once old stands may slip counts second confirms alone) =
      let both : Some made ≡ Some old = sym now_is ∙ stands in
      let same : made ≡ old = cc in
      let no : false ≡ true = sym (ap may_close status) ∙ ap (λ (m : StationReturn). may_close m.status) same ∙ may in
      cc
  from-done (confirmed older was started now_is brings) (once old stands may slip counts second confirms alone) =
      let both : Some (closed_return older) ≡ Some old = sym now_is ∙ stands in
      let same : closed_return older ≡ old = cc in
      let no : false ≡ true = ap (λ (m : StationReturn). may_close m.status) same ∙ may in
      cc
  from-done (left not same) (stood stands idle) = stood (sym same ∙ stands) none_acts
    where
      none_acts : (p : ℕ) → ¬ HoldsAt (ActsIn station) (event ∷ events) p
      none_acts zero acts = let same : Some event ≡ Some acts.0 = acts.1 in let one : event ≡ acts.0 = cc in not (subst (ActsIn station) (sym one) acts.2)
      none_acts (suc p) acts = idle p (earlier-acts station event events p acts)
  from-done (entered made now_is unclosed brings) (stood stands idle) =
      let both : Some made ≡ Some standing = sym now_is ∙ stands in
      let same : made ≡ standing = cc in
      let no : true ≡ false = sym (ap (λ (m : StationReturn). is_closed m.status) same ∙ ap is_closed closed) ∙ unclosed in
      cc
  from-done (queried made now_is status) (stood stands idle) =
      let both : Some made ≡ Some standing = sym now_is ∙ stands in
      let same : made ≡ standing = cc in
      let no : Queried ≡ Closed = sym status ∙ ap (λ (m : StationReturn). m.status) same ∙ closed in
      cc
  from-done (confirmed old was started now_is brings) (stood stands idle) =
      once old was started slip counts 0 (event, refl, brings_in-same is_second_entry station old standing event slip counts brings) alone
    where
      same : closed_return old ≡ standing
      same = let both : Some (closed_return old) ≡ Some standing = sym now_is ∙ stands in cc

      slip : old.slip ≡ standing.slip
      slip = ap (λ (m : StationReturn). m.slip) same

      counts : old.counts ≡ standing.counts
      counts = ap (λ (m : StationReturn). m.counts) same

      alone : (p : ℕ) → p ≢ 0 → ¬ HoldsAt (ActsIn station) (event ∷ events) p
      alone zero other acts = other refl
      alone (suc p) other acts = idle p (earlier-acts station event events p acts)

module _ (setup : List Constituency) (station : List ℕ) (con : Constituency) (place : Station) (at : station_with station setup ≡ Some (con, place)) (double : con.entry ≡ Double) (standing : StationReturn) (closed : standing.status ≡ Closed) where
  from-happened : (events : List Event) (s t : State) → HappensInTurn setup (Some s) events (Some t) → fin.get t.returns station ≡ Some standing → IsFrom station standing (fin.get s.returns station) events
  from-happened [] s t is now =
      stood (let same : Some t ≡ Some s = is in let one : t ≡ s = cc in ap (λ (x : State). fin.get x.returns station) (sym one) ∙ now)
      (λ p acts. let no : None ≡ Some acts.0 = acts.1 in cc)
  from-happened (event ∷ events) s t is now = go is.0 is.1 is.2 (λ mid rest. from-happened events mid t rest now)
    where
      go : (mid : Option State) → Happens setup (Some s) event mid → HappensInTurn setup mid events (Some t)
          → ((next : State) → HappensInTurn setup (Some next) events (Some t) → IsFrom station standing (fin.get next.returns station) events)
          → IsFrom station standing (fin.get s.returns station) (event ∷ events)
      go (Some next) step rest later =
          from-done station standing closed event events (fin.get s.returns station) (fin.get next.returns station) (done setup station con place at double s next event step) (later next rest)
      go None step rest later = absurd (shut-stays setup events t rest)

-- ---- the laws

pub happen-closed_twice : (setup : List Constituency) (t : State) (events : List Event) → HappensInTurn setup (Some (opening setup)) events (Some t) → ForClosedReturns setup t (IsEnteredTwiceIn events)
happen-closed_twice setup t events is station con place standing at double now closed =
    by (from-happened setup station con place at double standing closed events (opening setup) t is now)
  where
    none-yet : fin.get (fin.empty {X = StationReturn} {R = code_cmp}) station ≡ None
    none-yet = fin.get-empty code_cmp station

    by : IsFrom station standing (fin.get (fin.empty {X = StationReturn} {R = code_cmp}) station) events → IsEnteredTwiceIn events station standing
    by (twice entries) = entries
    by (once old stands may slip counts second confirms alone) = let no : None ≡ Some old = sym none-yet ∙ stands in cc
    by (stood stands idle) = let no : None ≡ Some standing = sym none-yet ∙ stands in cc

pub happen-certified_twice : (setup : List Constituency) (t : State) (events : List Event) → All BringsCodes events → IsSetup setup → HappensInTurn setup (Some (opening setup)) events (Some t)
    → ForCertifiedReturns setup t (IsEnteredTwiceIn events)
happen-certified_twice setup t events codes ok is =
    certified-each setup t (IsEnteredTwiceIn events) ok (happen-lawful setup (opening setup) t events codes ok (opening-lawful setup ok) is) (happen-closed_twice setup t events is)
