use Rattle.std.proofs.Common.{◌≡◌, ◌∙◌, ap, sum, arith}
use Rattle.tally_returns.specs.View.{View}
use Rattle.tally_returns.proofs.view.ConView.fits.Goals as goal

pub returns-then-self-2-clause-otherwise : goal.returns-then-self-2-clause-otherwise
returns-then-self-2-clause-otherwise c = λ fits.
    let votes : sum c.deref-then-self-2.result.now ≡ sum c.args.self.now.votes = ap sum (c.deref-then-self-2.ensures.value ∙ ap (λ (v : View). v.votes) c.self.view_is) in
    let blank : c.self.inside.blank ≡ c.args.self.now.blank = ap (λ (v : View). v.blank) c.self.view_is in
    c.are_within.ensures.otherwise (omega (arith, votes, blank, fits.votes))
