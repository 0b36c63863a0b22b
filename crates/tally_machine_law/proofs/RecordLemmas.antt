-- Certificates that were reopened stay on record, and what is on record was certified.
use Rattle.std.proofs.Common.{◌≡◌, ◌<◌, ◌⊎◌, ◌+◌, ◌∙◌, ◌∷◌, ℕ, suc, List, [], Bool, true, false, cond, Option, Some, None, Result, Ok, Err, is_some, refl, sym, ap, subst, inl, inr, arith}
use Rattle.std.specs.Prelude.{◌==◌, All, not, string_bytes, unwrap_or}
use Rattle.std.specs.FinMap as fin
use Rattle.std.specs.Cmp.{Equal-is, nat_cmp_total}
use Rattle.std.specs.Ordering.{eq_by_cmp, nat_cmp}
use Rattle.std.proofs.lemmas.List.Elements.{All-head, All-tail}
use Rattle.tally_setup.specs.Code.{code_cmp}
use Rattle.tally_setup.specs.Constituency.{Constituency}
use Rattle.tally_setup.specs.Limits.{IsSetup}
use Rattle.tally_setup.specs.Setup.{constituency_with}
use Rattle.tally_setup.specs.Text.{is_note}
use Rattle.tally_returns.specs.AskSeen.{ask_seen, reopen}
use Rattle.tally_returns.specs.Checks.{check, first_refusal, refused_or}
use Rattle.tally_returns.specs.GoneCandidate.{GoneCandidate}
use Rattle.tally_returns.specs.Named.{BringsCode, con_named, station_named}
use Rattle.tally_returns.specs.PastSeats.{PastSeats}
use Rattle.tally_returns.specs.State.{ConState, PastRecords, State, con_state, last_edition, opening_con}
use Rattle.tally_machine_law.specs.Step.{state_after, after_put, after_return, con_of_station, change_in_state, without_lot, ConChange, Decides, IsView, after_change, certified_with, con_state_after, gone_for_good, lot_set, no_change, open_again, with_con, IsAnswered, IsConStep, con_answer, edition_now, reply_seen, IsStepSeenAt}
use Rattle.tally_returns.specs.View.{View, past_records}
use Rattle.tally_returns.specs.declared.ask.Ask.{Ask}
use Rattle.tally_returns.specs.declared.ask.Ask.TheVariants.{Lodge, Query, Correct, Close, Confirm, ShowReturn, Draw, Certify, Reopen, Vacate, ShowCon, ShowProgress}
use Rattle.tally_returns.specs.declared.change.Change.{Change}
use Rattle.tally_returns.specs.declared.change.Change.TheVariants.{PutReturn}
use Rattle.tally_returns.specs.declared.refusal.Refusal.{Refusal}
use Rattle.tally_returns.specs.declared.refusal.Refusal.TheVariants.{BadNote, Exhausted, NotCertified, Stale}
use Rattle.tally_returns.specs.declared.reply.Reply.{Reply}
use Rattle.tally_returns.specs.declared.reply.Reply.TheVariants.{Lodged, Same, Moved, Return, Edition, Vacated, Con, Progress}
use Rattle.tally_returns.proofs.DecideLemmas.{passed-first, passed-rest}
use Rattle.tally_machine_law.specs.Certification.{certificate_of, reopen_checks, reopen_result, vacate_result}
use Rattle.tally_machine_law.specs.Decisions.{RecordsComeLast}
use Rattle.tally_machine_law.specs.LawfulState.{IsLawfulState}
use Rattle.tally_machine_law.specs.Outcome.{IsLawfulPast}
use Rattle.tally_machine_law.specs.Records.{IsOnRecord, IsReopened, IsReopenedIn, RecordsAreOfAllotments, RecordsOfRunsAreOfAllotments, RecordsStay, RecordsStayInRuns}
use Rattle.tally_machine_law.specs.Runs.{IsRun}
use Rattle.tally_machine_law.proofs.ConStateLemmas.{con-code, con_state-changed, con_state-with_con, same_code}
use Rattle.tally_machine_law.proofs.ConStepLemmas.{same-constituency}
use Rattle.tally_machine_law.proofs.DecisionLemmas.{given-by}
use Rattle.tally_machine_law.proofs.LawLemmas.{AllotmentLaws, answered-lawful, certificate-of_view}
use Rattle.tally_machine_law.proofs.OnwardLemmas.{with_return-cons}
use Rattle.tally_machine_law.proofs.PastLemmas.{past-lawful}
use Rattle.tally_machine_law.proofs.SpentLemmas.{reopen-edition}

-- ---- what one change does to the records of a constituency

-- what is on record is of earlier editions
abbrev IsEarlier : ConState → Type 0
IsEarlier c = (edition : ℕ) (seats : List ℕ) → fin.get c.past edition ≡ Some seats → edition < c.edition

-- what is on record stays, and stays of earlier editions
abbrev Stays : ConState → ConState → Type 0
Stays c d = IsEarlier c → ((edition : ℕ) (seats : List ℕ) → fin.get c.past edition ≡ Some seats → fin.get d.past edition ≡ Some seats) × IsEarlier d

stays-same : (c : ConState) → Stays c c
stays-same c earlier = (λ edition seats is. is, earlier)

-- what is on record is the same, and so is the edition
abbrev IsAsBefore : ConState → ConState → Type 0
IsAsBefore c d = (d.past ≡ c.past) × (c.edition ≡ d.edition)

stays-as_before : (c d : ConState) → IsAsBefore c d → Stays c d
stays-as_before c d same earlier = (
  λ edition seats is. ap (λ (past : PastRecords). fin.get past edition) same.0 ∙ is,
  λ edition seats is. omega (arith, same.1, earlier edition seats (sym (ap (λ (past : PastRecords). fin.get past edition) same.0) ∙ is)),
)

-- a change that puts a certificate on record does so at the edition of the constituency
abbrev IsOfItsEdition : ConState → ConChange → Type 0
IsOfItsEdition c (open_again note past) = past.edition ≡ c.edition
IsOfItsEdition c other = Unit {0}

same-edition : (a b : ℕ) → eq_by_cmp nat_cmp a b ≡ true → a ≡ b
same-edition a b tied = fin.nat_cmp-IsAntisymmetric a b ((Equal-is (nat_cmp a b)).0 tied)

reopened-stays : (c : ConState) (note : List ℕ) (past : PastSeats) → past.edition ≡ c.edition → Stays c (con_state_after c (open_again note past))
reopened-stays c note past its earlier = (
  λ edition seats is. there edition ∙ stay edition seats is (eq_by_cmp nat_cmp edition past.edition) refl,
  λ edition seats is. before edition seats (eq_by_cmp nat_cmp edition past.edition) refl (sym (there edition) ∙ is),
)
  where
    there : (edition : ℕ) → fin.get (fin.insert c.past past.edition past.seats) edition ≡ cond (eq_by_cmp nat_cmp edition past.edition) (Some past.seats) (fin.get c.past edition)
    there edition = fin.get-insert nat_cmp_total c.past past.edition past.seats edition

    stay : (edition : ℕ) (seats : List ℕ) → fin.get c.past edition ≡ Some seats → (b : Bool) → eq_by_cmp nat_cmp edition past.edition ≡ b → cond b (Some past.seats) (fin.get c.past edition) ≡ Some seats
    stay edition seats is true tied = absurd (omega (arith, its, same-edition edition past.edition tied, earlier edition seats is))
    stay edition seats is false apart = is

    before : (edition : ℕ) (seats : List ℕ) (b : Bool) → eq_by_cmp nat_cmp edition past.edition ≡ b → cond b (Some past.seats) (fin.get c.past edition) ≡ Some seats → edition < c.edition + 1
    before edition seats true tied is = omega (arith, its, same-edition edition past.edition tied)
    before edition seats false apart is = omega (arith, earlier edition seats is)

changed-stays : (c : ConState) (change : ConChange) → IsOfItsEdition c change → Stays c (con_state_after c change)
changed-stays c no_change its earlier = (λ edition seats is. is, earlier)
changed-stays c (lot_set places) its earlier = (λ edition seats is. is, λ edition seats is. omega (arith, earlier edition seats is))
changed-stays c (certified_with seats) its earlier = (λ edition seats is. is, λ edition seats is. omega (arith, earlier edition seats is))
changed-stays c (open_again note past) its earlier = reopened-stays c note past its earlier
changed-stays c (gone_for_good candidate next) its earlier = (λ edition seats is. is, earlier)

-- what is so of one constituency that changes, and of each that does not, is so of each
pub with_con-each : (P : ConState → ConState → Type 0) → ((c : ConState) → P c c) → (s : State) (code : List ℕ) (c : ConState) → P (con_state s code) c → (q : List ℕ) → P (con_state s q) (con_state (with_con s code c) q)
with_con-each P same s code c is q = subst (P (con_state s q)) (sym (con_state-with_con s code c q)) (go (eq_by_cmp code_cmp q code) refl)
  where
    go : (b : Bool) → eq_by_cmp code_cmp q code ≡ b → P (con_state s q) (cond b c (con_state s q))
    go true tied = subst (λ (k : List ℕ). P (con_state s k) c) (sym (same_code q code tied)) is
    go false apart = same (con_state s q)

-- ---- what a reopening puts on record

-- the request was a Reopen, and what it puts on record is the present certificate
record IsOfReopening (view : View) (ask : Ask) (past : PastSeats) : Type 0 where
  past_is : past ≡ certificate_of view
  certified : view.certified ≡ true
  key : List ℕ
  edition : ℕ
  note : List ℕ
  named : con_named ask ≡ Some key
  edition_is : view.edition ≡ edition
  asked : ask_seen ask ≡ reopen key edition note

passed-certified : (view : View) (edition : ℕ) (note : List ℕ) → first_refusal (reopen_checks view edition note) ≡ None → view.certified ≡ true
passed-certified view edition note none =
    let rest = check (view.edition == edition) (Stale view.edition) ∷ check (not (view.edition == last_edition)) Exhausted ∷ [] in
    passed-first view.certified NotCertified rest (passed-rest (is_note note) BadNote (check view.certified NotCertified ∷ rest) none)

of-reopening : (con : Constituency) (view : View) (ask : Ask) (note : List ℕ) (past : PastSeats) → Decides con view ask (Ok (open_again note past)) → IsOfReopening view ask past
of-reopening con view (Reopen key edition text) note past decides = go (first_refusal (reopen_checks view edition (string_bytes text))) refl by.0 by.1 by.2
  where
    by : (given : List ℕ × PastSeats) × (reopen_result view edition (string_bytes text) ≡ Ok given) × (open_again note past ≡ open_again given.0 given.1)
    by = given-by (λ (r : List ℕ × PastSeats). open_again r.0 r.1) (reopen_result view edition (string_bytes text)) (open_again note past) decides

    go : (refusal : Option Refusal) → first_refusal (reopen_checks view edition (string_bytes text)) ≡ refusal → (given : List ℕ × PastSeats)
        → refused_or refusal (Ok (string_bytes text, certificate_of view)) ≡ Ok given → open_again note past ≡ open_again given.0 given.1 → IsOfReopening view (Reopen key edition text) past
    go None none given ok is =
        let made : (string_bytes text, certificate_of view) ≡ given = cc in
        let same : past ≡ given.1 = cc in record {
          past_is = same ∙ sym (ap (λ (g : List ℕ × PastSeats). g.1) made);
          certified = passed-certified view edition (string_bytes text) none;
          key = key;
          edition = edition;
          note = string_bytes text;
          named = refl;
          edition_is = reopen-edition view edition (string_bytes text) none;
          asked = refl;
        }
    go (Some e) some given ok is = cc
of-reopening con view (Draw key edition order) note past decides = let by = given-by lot_set decides.0 (open_again note past) decides.2 in let e : open_again note past ≡ lot_set by.0 = by.2 in cc
of-reopening con view (Certify key edition) note past decides = let by = given-by certified_with decides.0 (open_again note past) decides.2 in let e : open_again note past ≡ certified_with by.0 = by.2 in cc
of-reopening con view (Vacate key list place text) note past decides =
    let by = given-by (λ (v : GoneCandidate × Option ℕ). gone_for_good v.0 v.1) (vacate_result con view list place (string_bytes text)) (open_again note past) decides in
    let e : open_again note past ≡ gone_for_good by.0.0 by.0.1 = by.2 in cc
of-reopening con view (ShowCon key) note past decides = cc
of-reopening con view (Lodge station slip counts) note past decides = absurd decides
of-reopening con view (Query station rev text) note past decides = absurd decides
of-reopening con view (Correct station rev slip counts) note past decides = absurd decides
of-reopening con view (Close station rev) note past decides = absurd decides
of-reopening con view (Confirm station rev slip counts) note past decides = absurd decides
of-reopening con view (ShowReturn station) note past decides = absurd decides
of-reopening con view ShowProgress note past decides = absurd decides

its-edition : (con : Constituency) (s : State) (view : View) (ask : Ask) (change : ConChange) → IsView con s view → Decides con view ask (Ok change) → IsOfItsEdition (con_state s con.code) change
its-edition con s view ask no_change viewed decides = tt
its-edition con s view ask (lot_set places) viewed decides = tt
its-edition con s view ask (certified_with seats) viewed decides = tt
its-edition con s view ask (open_again note past) viewed decides =
    ap (λ (p : PastSeats). p.edition) (of-reopening con view ask note past decides).past_is ∙ ap (λ (v : View). v.edition) viewed.0
its-edition con s view ask (gone_for_good candidate next) viewed decides = tt

-- ---- records stay

-- what is on record of each constituency stays
abbrev AreStaying : State → State → Type 0
AreStaying s t = (q : List ℕ) → Stays (con_state s q) (con_state t q)

con-stays : (found : Option Constituency) (s : State) (ask : Ask) (r : Result Reply Refusal) (t : State) → IsConStep found s ask r t → AreStaying s t
con-stays None s ask r t is = subst (AreStaying s) (sym is.1) (λ q. stays-same (con_state s q))
con-stays (Some con) s ask r t is = subst (AreStaying s) (sym is.5) (go is.1 is.3)
  where
    go : (decided : Result ConChange Refusal) → Decides con is.0 ask decided → AreStaying s (after_change s con.code decided)
    go (Ok no_change) decides q = stays-same (con_state s q)
    go (Ok change) decides q =
        with_con-each Stays stays-same s con.code (con_state_after (con_state s con.code) change) (changed-stays (con_state s con.code) change (its-edition con s is.0 ask change is.2 decides)) q
    go (Err refusal) decides q = stays-same (con_state s q)

without_lot-as_before : (s : State) (code : Option (List ℕ)) (q : List ℕ) → IsAsBefore (con_state s q) (con_state (without_lot s code) q)
without_lot-as_before s None q = (refl, refl)
without_lot-as_before s (Some code) q = with_con-each IsAsBefore (λ c. (refl, refl)) s code (record (con_state s code) { lot = [] }) (refl, refl) q

after_put-as_before : (setup : List Constituency) (s : State) (ask : Ask) (q : List ℕ) → IsAsBefore (con_state s q) (con_state (after_put setup s ask) q)
after_put-as_before setup s (Query station rev note) q = without_lot-as_before s (con_of_station setup station) q
after_put-as_before setup s other q = (refl, refl)

after-as_before : (setup : List Constituency) (s : State) (ask : Ask) (d : Result Change Refusal) (q : List ℕ) → IsAsBefore (con_state s q) (con_state (state_after setup s ask d) q)
after-as_before setup s ask (Ok (PutReturn standing)) q =
    let put = after_put setup s ask in
    subst (IsAsBefore (con_state s q)) (ap (λ cons. con_state (record put { cons = cons }) q) (sym (with_return-cons put (station_named ask) standing))) (after_put-as_before setup s ask q)
after-as_before setup s ask other q = (refl, refl)

step-stays : (named : Option (List ℕ)) (setup : List Constituency) (s : State) (ask : Ask) (r : Result Reply Refusal) (t : State) → IsStepSeenAt named setup s ask (reply_seen r) t → AreStaying s t
step-stays None setup s ask r t is =
    subst (AreStaying s) (sym is.1) (λ q. stays-as_before (con_state s q) (con_state (after_return setup s ask) q) (after-as_before setup s ask (change_in_state setup s ask) q))
step-stays (Some code) setup s ask r t is = con-stays (constituency_with code setup) s ask r t is

answered-stays : (setup : List Constituency) (s : State) (ask : Ask) (r : Result Reply Refusal) (t : State) → IsAnswered setup s ask r t → AreStaying s t
answered-stays setup s ask r t (inl is) = step-stays (con_named ask) setup s ask r t is
answered-stays setup s ask r t (inr is) = subst (AreStaying s) (sym is.1) (λ q. stays-same (con_state s q))

-- in a lawful state all that is on record is of earlier editions
lawful-earlier : (setup : List Constituency) (s : State) → IsLawfulState setup s → (code : List ℕ) → IsEarlier (con_state s code)
lawful-earlier setup s lawful code edition seats is = go (constituency_with code setup) refl
  where
    never : (found : Option ConState) → is_some found ≡ false → fin.get (unwrap_or found opening_con).past edition ≡ Some seats → ⊥
    never None none there = let empty : fin.get opening_con.past edition ≡ None = fin.get-empty nat_cmp edition in cc
    never (Some c) none there = cc

    go : (found : Option Constituency) → constituency_with code setup ≡ found → edition < (con_state s code).edition
    go None none = absurd (never (fin.get s.cons code) (lawful.known code ∙ ap is_some none) is)
    go (Some con) found =
        let past = subst (λ (q : List ℕ). All (IsLawfulPast con (con_state s q).edition) (past_records (con_state s q).past)) (con-code setup code con found) (lawful.cons code con found).seen.past in
        (past-lawful con (con_state s code).edition edition seats (con_state s code).past is past).before

pub records-stay : RecordsStay
records-stay setup s t ask r lawful answered code edition seats is = (answered-stays setup s ask r t answered code (lawful-earlier setup s lawful code)).0 edition seats is

run-stays : (setup : List Constituency) (s t : State) (asks : List Ask) (rs : List (Result Reply Refusal)) → ((code : List ℕ) → IsEarlier (con_state s code)) → IsRun setup s asks rs t
    → (code : List ℕ) (edition : ℕ) (seats : List ℕ) → IsOnRecord s code edition seats → IsOnRecord t code edition seats
run-stays setup s t [] [] earlier run code edition seats is = subst (λ (x : State). IsOnRecord x code edition seats) (sym run) is
run-stays setup s t [] (r ∷ rs) earlier run code edition seats is = absurd run
run-stays setup s t (ask ∷ asks) [] earlier run code edition seats is = absurd run
run-stays setup s t (ask ∷ asks) (r ∷ rs) earlier run code edition seats is =
    let stays = answered-stays setup s ask r run.0 run.1 in
    run-stays setup run.0 t asks rs (λ q. (stays q (earlier q)).1) run.2 code edition seats ((stays code (earlier code)).0 edition seats is)

pub records-stay-run : RecordsStayInRuns
records-stay-run setup s t asks rs lawful run = run-stays setup s t asks rs (lawful-earlier setup s lawful) run

pub records-last : RecordsComeLast
records-last setup s con code view ask note past lawful on viewed decides = λ k d lt.
    let its : past.edition ≡ (con_state s con.code).edition = its-edition con s view ask (open_again note past) viewed decides in
    omega (arith, its, ((lawful.cons code con on.1).seen.past k d lt).before)

-- ---- records are of allotments

-- an answer that has an edition
reported-edition : (r : Result Reply Refusal) (n : ℕ) → reply_seen r ≡ Ok (edition_now n) → r ≡ Ok (Edition n)
reported-edition (Ok (Lodged rev)) n is = cc
reported-edition (Ok (Same rev)) n is = cc
reported-edition (Ok (Moved rev)) n is = cc
reported-edition (Ok (Return standing)) n is = cc
reported-edition (Ok (Edition edition)) n is = let same : edition ≡ n = cc in ap (λ (m : ℕ). Ok (Edition m)) same
reported-edition (Ok (Vacated next)) n is = cc
reported-edition (Ok (Con view)) n is = cc
reported-edition (Ok (Progress rows)) n is = cc
reported-edition (Err refusal) n is = cc

-- the certificate that a Reopen puts on record
reopened-now : AllotmentLaws → (setup : List Constituency) (s : State) (ask : Ask) (r : Result Reply Refusal) (code : List ℕ) (con : Constituency) (view : View) (note : List ℕ) (past : PastSeats) → IsSetup setup → IsLawfulState setup s
    → con_named ask ≡ Some code → constituency_with code setup ≡ Some con → IsView con s view → Decides con view ask (Ok (open_again note past)) → reply_seen r ≡ Ok (edition_now (view.edition + 1))
    → IsReopened con past.edition past.seats s ask r
reopened-now laws setup s ask r code con view note past ok lawful named found viewed decides ensured =
    let of = of-reopening con view ask note past decides in
    let is_edition : view.edition ≡ past.edition = sym (ap (λ (p : PastSeats). p.edition) of.past_is) in
    let codes : Some of.key ≡ Some code = sym of.named ∙ named in
    let key : of.key ≡ con.code = let same : of.key ≡ code = cc in same ∙ sym (con-code setup code con found) in
    let certified : (con_state s con.code).certified ≡ true = sym (ap (λ (v : View). v.certified) viewed.0) ∙ of.certified in record {
      view = view;
      seen = viewed;
      certified = of.certified;
      at = is_edition;
      with_seats = sym (ap (λ (p : PastSeats). p.seats) of.past_is);
      certificate = certificate-of_view laws setup s ok lawful code con found certified view viewed;
      note = of.note;
      asked = of.asked ∙ ap (λ (k : List ℕ). reopen k of.edition of.note) key ∙ ap (λ (n : ℕ). reopen con.code n of.note) (sym of.edition_is ∙ is_edition);
      answered = reported-edition r (view.edition + 1) ensured ∙ ap (λ (n : ℕ). Ok (Edition (n + 1))) is_edition;
    }

-- what is on record after a change of the constituency was there before, or the change put it there
changed-adds : (s : State) (code : List ℕ) (note : List ℕ) (past : PastSeats) (edition : ℕ) (seats : List ℕ) → IsOnRecord (with_con s code (con_state_after (con_state s code) (open_again note past))) code edition seats
    → IsOnRecord s code edition seats ⊎ ((edition ≡ past.edition) × (seats ≡ past.seats))
changed-adds s code note past edition seats is = go (eq_by_cmp nat_cmp edition past.edition) refl (sym there ∙ is)
  where
    there : fin.get (con_state (with_con s code (con_state_after (con_state s code) (open_again note past))) code).past edition ≡ cond (eq_by_cmp nat_cmp edition past.edition) (Some past.seats) (fin.get (con_state s code).past edition)
    there =
        ap (λ (c : ConState). fin.get c.past edition) (con_state-changed s code (con_state_after (con_state s code) (open_again note past)))
        ∙ fin.get-insert nat_cmp_total (con_state s code).past past.edition past.seats edition

    go : (b : Bool) → eq_by_cmp nat_cmp edition past.edition ≡ b → cond b (Some past.seats) (fin.get (con_state s code).past edition) ≡ Some seats
        → IsOnRecord s code edition seats ⊎ ((edition ≡ past.edition) × (seats ≡ past.seats))
    go true tied is = let same : past.seats ≡ seats = cc in inr (same-edition edition past.edition tied, sym same)
    go false apart is = inl is

-- a change of another constituency, or one that puts nothing on record
elsewhere : (s : State) (code : List ℕ) (c : ConState) (q : List ℕ) (edition : ℕ) (seats : List ℕ) → eq_by_cmp code_cmp q code ≡ false → IsOnRecord (with_con s code c) q edition seats → IsOnRecord s q edition seats
elsewhere s code c q edition seats apart is =
    sym (ap (λ (d : ConState). fin.get d.past edition) (con_state-with_con s code c q ∙ ap (λ (b : Bool). cond b c (con_state s q)) apart)) ∙ is

same-past : (s : State) (code : List ℕ) (c : ConState) (q : List ℕ) (edition : ℕ) (seats : List ℕ) → c.past ≡ (con_state s code).past → IsOnRecord (with_con s code c) q edition seats → IsOnRecord s q edition seats
same-past s code c q edition seats same is =
    sym (ap (λ (past : PastRecords). fin.get past edition) (with_con-each (λ (x y : ConState). y.past ≡ x.past) (λ x. refl) s code c same q)) ∙ is

con-adds : AllotmentLaws → (setup : List Constituency) (s : State) (ask : Ask) (r : Result Reply Refusal) (t : State) (key : List ℕ) (other : Constituency) → IsSetup setup → IsLawfulState setup s
    → con_named ask ≡ Some key → constituency_with key setup ≡ Some other → IsConStep (Some other) s ask r t
    → (code : List ℕ) (con : Constituency) (edition : ℕ) (seats : List ℕ) → constituency_with code setup ≡ Some con → IsOnRecord t con.code edition seats
    → IsOnRecord s con.code edition seats ⊎ IsReopened con edition seats s ask r
con-adds laws setup s ask r t key other ok lawful named known step code con edition seats found on =
    go step.1 step.3 step.4 (subst (λ (x : State). IsOnRecord x con.code edition seats) step.5 on)
  where
    here : (note : List ℕ) (past : PastSeats) → Decides other step.0 ask (Ok (open_again note past)) → reply_seen r ≡ Ok (edition_now (step.0.edition + 1)) → con.code ≡ other.code → con ≡ other
        → IsOnRecord s other.code edition seats ⊎ ((edition ≡ past.edition) × (seats ≡ past.seats)) → IsOnRecord s con.code edition seats ⊎ IsReopened con edition seats s ask r
    here note past decides ensured codes same (inl before) = inl (subst (λ (q : List ℕ). IsOnRecord s q edition seats) (sym codes) before)
    here note past decides ensured codes same (inr made) =
        let its : IsReopened other past.edition past.seats s ask r = reopened-now laws setup s ask r key other step.0 note past ok lawful named known step.2 decides ensured in
        inr (subst (λ (x : Constituency). IsReopened x edition seats s ask r) (sym same)
        (subst (λ (n : ℕ). IsReopened other n seats s ask r) (sym made.0) (subst (λ (a : List ℕ). IsReopened other past.edition a s ask r) (sym made.1) its)))

    by_tie : (note : List ℕ) (past : PastSeats) → Decides other step.0 ask (Ok (open_again note past)) → reply_seen r ≡ Ok (edition_now (step.0.edition + 1))
        → IsOnRecord (with_con s other.code (con_state_after (con_state s other.code) (open_again note past))) con.code edition seats
        → (b : Bool) → eq_by_cmp code_cmp con.code other.code ≡ b → IsOnRecord s con.code edition seats ⊎ IsReopened con edition seats s ask r
    by_tie note past decides ensured is true tied =
        let codes : con.code ≡ other.code = same_code con.code other.code tied in
        let same : con ≡ other = same-constituency setup code key con other found known (sym codes) in
        here note past decides ensured codes same
        (changed-adds s other.code note past edition seats (subst (λ (q : List ℕ). IsOnRecord (with_con s other.code (con_state_after (con_state s other.code) (open_again note past))) q edition seats) codes is))
    by_tie note past decides ensured is false apart = inl (elsewhere s other.code (con_state_after (con_state s other.code) (open_again note past)) con.code edition seats apart is)

    go : (decided : Result ConChange Refusal) → Decides other step.0 ask decided → reply_seen r ≡ con_answer step.0 decided → IsOnRecord (after_change s other.code decided) con.code edition seats
        → IsOnRecord s con.code edition seats ⊎ IsReopened con edition seats s ask r
    go (Ok no_change) decides ensured is = inl is
    go (Ok (lot_set places)) decides ensured is = inl (same-past s other.code (con_state_after (con_state s other.code) (lot_set places)) con.code edition seats refl is)
    go (Ok (certified_with given)) decides ensured is = inl (same-past s other.code (con_state_after (con_state s other.code) (certified_with given)) con.code edition seats refl is)
    go (Ok (open_again note past)) decides ensured is = by_tie note past decides ensured is (eq_by_cmp code_cmp con.code other.code) refl
    go (Ok (gone_for_good candidate next)) decides ensured is = inl (same-past s other.code (con_state_after (con_state s other.code) (gone_for_good candidate next)) con.code edition seats refl is)
    go (Err refusal) decides ensured is = inl is

-- what is on record after a step was there before, or the request put it there
step-adds : AllotmentLaws → (setup : List Constituency) (s : State) (ask : Ask) (r : Result Reply Refusal) (t : State) → IsSetup setup → IsLawfulState setup s
    → (named : Option (List ℕ)) → con_named ask ≡ named → IsStepSeenAt named setup s ask (reply_seen r) t
    → (code : List ℕ) (con : Constituency) (edition : ℕ) (seats : List ℕ) → constituency_with code setup ≡ Some con → IsOnRecord t con.code edition seats
    → IsOnRecord s con.code edition seats ⊎ IsReopened con edition seats s ask r
step-adds laws setup s ask r t ok lawful None named step code con edition seats found on =
    inl (sym (ap (λ (past : PastRecords). fin.get past edition) (after-as_before setup s ask (change_in_state setup s ask) con.code).0) ∙ subst (λ (x : State). IsOnRecord x con.code edition seats) step.1 on)
step-adds laws setup s ask r t ok lawful (Some key) named step code con edition seats found on = at (constituency_with key setup) refl step
  where
    at : (known : Option Constituency) → constituency_with key setup ≡ known → IsConStep known s ask r t → IsOnRecord s con.code edition seats ⊎ IsReopened con edition seats s ask r
    at None known is = inl (subst (λ (x : State). IsOnRecord x con.code edition seats) is.1 on)
    at (Some other) known is = con-adds laws setup s ask r t key other ok lawful named known is code con edition seats found on

pub records-of-allotments : AllotmentLaws → RecordsAreOfAllotments
records-of-allotments laws setup s t ask r ok lawful (inl step) code con edition seats found on = step-adds laws setup s ask r t ok lawful (con_named ask) refl step code con edition seats found on
records-of-allotments laws setup s t ask r ok lawful (inr not_accepted) code con edition seats found on = inl (subst (λ (x : State). IsOnRecord x con.code edition seats) not_accepted.1 on)

-- what is on record after a run was there before, or a request of the run put it there
pub records-of-run : AllotmentLaws → RecordsOfRunsAreOfAllotments
records-of-run laws setup s t [] [] brings ok lawful run code con edition seats found on = inl (subst (λ (x : State). IsOnRecord x con.code edition seats) run on)
records-of-run laws setup s t [] (r ∷ rs) brings ok lawful run code con edition seats found on = absurd run
records-of-run laws setup s t (ask ∷ asks) [] brings ok lawful run code con edition seats found on = absurd run
records-of-run laws setup s t (ask ∷ asks) (r ∷ rs) brings ok lawful run code con edition seats found on =
    go (records-of-run laws setup run.0 t asks rs (All-tail BringsCode ask asks brings) ok (answered-lawful setup s run.0 ask r (All-head BringsCode ask asks brings) ok lawful run.1) run.2 code con edition seats found on)
  where
    first : IsOnRecord s con.code edition seats ⊎ IsReopened con edition seats s ask r → IsOnRecord s con.code edition seats ⊎ IsReopenedIn con edition seats setup s (ask ∷ asks) (r ∷ rs) t
    first (inl before) = inl before
    first (inr made) = inr (record { place = 0; state = s; ask = ask; answer = r; before = refl; after = run; asked = refl; answered = refl; reopened = made })

    go : IsOnRecord run.0 con.code edition seats ⊎ IsReopenedIn con edition seats setup run.0 asks rs t → IsOnRecord s con.code edition seats ⊎ IsReopenedIn con edition seats setup s (ask ∷ asks) (r ∷ rs) t
    go (inl before) = first (records-of-allotments laws setup s run.0 ask r ok lawful run.1 code con edition seats found before)
    go (inr later) = inr (record {
      place = suc later.place;
      state = later.state;
      ask = later.ask;
      answer = later.answer;
      before = (run.0, run.1, later.before);
      after = later.after;
      asked = later.asked;
      answered = later.answered;
      reopened = later.reopened;
    })
