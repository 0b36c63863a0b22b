use Rattle.std.proofs.Common.{◌∙◌, IsTrue, true≢false, ap, subst, sym}
use Rattle.std.specs.Prelude.{All}
use Rattle.tally_machine_law.specs.Outcome.{IsLawfulGone, IsLawfulPast}
use Rattle.tally_returns.specs.View.{View, HasEachList}
use Rattle.tally_store_open.proofs.view.has_lawful_frame.Goals as goal

pub are_earlier-requires : goal.are_earlier-requires
are_earlier-requires c =
    let passed : IsTrue c.fits.result = c.if-not-fits.false in
    let past = c.deref-2.ensures.value ∙ ap (λ (v : View). v.past) c.view.view_is in
    subst (All (HasEachList c.args.con.now)) (sym past) (c.fits.ensures.fits passed).past

pub returns-then-not-fits-clause-otherwise : goal.returns-then-not-fits-clause-otherwise
returns-then-not-fits-clause-otherwise c frame = absurd (true≢false (sym (c.fits.ensures.otherwise frame.fits) ∙ c.if-not-fits.true))

pub returns-then-not-is_in_range-clause-otherwise : goal.returns-then-not-is_in_range-clause-otherwise
returns-then-not-is_in_range-clause-otherwise c frame = absurd (true≢false (sym frame.range ∙ sym c.is_in_range.ensures ∙ c.if-not-is_in_range.true))

pub returns-then-not-are_candidates-clause-otherwise : goal.returns-then-not-are_candidates-clause-otherwise
returns-then-not-are_candidates-clause-otherwise c frame =
    let gone = c.deref.ensures.value ∙ ap (λ (v : View). v.gone) c.view.view_is in
    let passed = c.are_candidates.ensures.otherwise (subst (All (IsLawfulGone c.args.con.now)) (sym gone) frame.gone) in
    absurd (true≢false (sym passed ∙ c.if-not-are_candidates.true))

pub returns-clause-lawful : goal.returns-clause-lawful
returns-clause-lawful c ensured =
    let con = c.args.con.now in
    let fits : IsTrue c.fits.result = c.if-not-fits.false in
    let candidates : IsTrue c.are_candidates.result = c.if-not-are_candidates.false in
    let gone = c.deref.ensures.value ∙ ap (λ (v : View). v.gone) c.view.view_is in
    let past = c.deref-2.ensures.value ∙ ap (λ (v : View). v.past) c.view.view_is in
    let edition = ap (λ (v : View). v.edition) c.view.view_is in record {
      fits = c.fits.ensures.fits fits;
      range = sym c.is_in_range.ensures ∙ c.if-not-is_in_range.false;
      gone = subst (All (IsLawfulGone con)) gone (c.are_candidates.ensures.candidates candidates);
      past = subst (λ e. All (IsLawfulPast con e) c.args.view.now.past) edition (subst (All (IsLawfulPast con c.view.inside.edition)) past (c.are_earlier.ensures.earlier ensured));
    }

pub returns-clause-otherwise : goal.returns-clause-otherwise
returns-clause-otherwise c frame =
    let con = c.args.con.now in
    let past = c.deref-2.ensures.value ∙ ap (λ (v : View). v.past) c.view.view_is in
    let edition = ap (λ (v : View). v.edition) c.view.view_is in
    c.are_earlier.ensures.otherwise (subst (All (IsLawfulPast con c.view.inside.edition)) (sym past) (subst (λ e. All (IsLawfulPast con e) c.args.view.now.past) (sym edition) frame.past))
