use Rattle.std.proofs.Common.{◌∙◌, IsTrue, ap, sym, true≢false}
use Rattle.tally_machine_law.proofs.CertificationLemmas.{on_ok}
use Rattle.tally_machine_law.specs.Outcome.{IsLawfulView}
use Rattle.tally_returns.specs.View.{View}
use Rattle.tally_store_open.specs.internal.Seen.{IsOpen}
use Rattle.tally_store_open.proofs.SeenLemmas.{certificate_of, certified_view, frame_of, open_of, open_view}
use Rattle.tally_store_open.proofs.view.is_lawful_view.Goals as goal

pub is_certificate-requires : goal.is_certificate-requires
is_certificate-requires c = let passed : IsTrue c.has_lawful_frame.result = c.if-not-has_lawful_frame.false in (c.has_lawful_frame.ensures.lawful passed).fits

pub is_open-requires : goal.is_open-requires
is_open-requires c = let passed : IsTrue c.has_lawful_frame.result = c.if-not-has_lawful_frame.false in (c.has_lawful_frame.ensures.lawful passed).fits

pub returns-then-not-has_lawful_frame-clause-otherwise : goal.returns-then-not-has_lawful_frame-clause-otherwise
returns-then-not-has_lawful_frame-clause-otherwise c lawful =
    let passed = c.has_lawful_frame.ensures.otherwise (frame_of c.args.con.now c.args.view.now lawful) in
    absurd (true≢false (sym passed ∙ c.if-not-has_lawful_frame.true))

pub returns-then-view-clause-lawful : goal.returns-then-view-clause-lawful
returns-then-view-clause-lawful c ensured =
    let passed : IsTrue c.has_lawful_frame.result = c.if-not-has_lawful_frame.false in
    let certified = sym (ap (λ (v : View). v.certified) c.view.view_is) ∙ c.if-view.true in
    certified_view c.args.con.now c.args.view.now (c.has_lawful_frame.ensures.lawful passed) certified (c.is_certificate.ensures.certified ensured)

pub returns-then-view-clause-otherwise : goal.returns-then-view-clause-otherwise
returns-then-view-clause-otherwise c lawful =
    let certified = sym (ap (λ (v : View). v.certified) c.view.view_is) ∙ c.if-view.true in
    c.is_certificate.ensures.otherwise (certificate_of c.args.con.now c.args.view.now certified lawful)

pub returns-clause-lawful : goal.returns-clause-lawful
returns-clause-lawful c =
    let con = c.args.con.now in
    let view = c.args.view.now in
    let passed : IsTrue c.has_lawful_frame.result = c.if-not-has_lawful_frame.false in
    let open_is = sym (ap (λ (v : View). v.certified) c.view.view_is) ∙ c.if-view.false in
    on_ok c.is_open.result (λ yes. IsTrue yes → IsOpen con view) (λ yes. IsTrue yes → IsLawfulView con view)
    (λ yes ensured is. open_view con view (c.has_lawful_frame.ensures.lawful passed) open_is (ensured is)) c.is_open.ensures.open

pub returns-clause-otherwise : goal.returns-clause-otherwise
returns-clause-otherwise c =
    let con = c.args.con.now in
    let view = c.args.view.now in
    let open_is = sym (ap (λ (v : View). v.certified) c.view.view_is) ∙ c.if-view.false in
    on_ok c.is_open.result (λ yes. IsOpen con view → IsTrue yes) (λ yes. IsLawfulView con view → IsTrue yes) (λ yes ensured lawful. ensured (open_of con view open_is lawful)) c.is_open.ensures.otherwise
