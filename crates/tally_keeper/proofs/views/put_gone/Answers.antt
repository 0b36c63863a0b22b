use Rattle.std.proofs.Common.{arith}
use Rattle.std.proofs.lemmas.List.Sums.{prefix_len-le-length}
use Rattle.tally_returns.specs.GoneCandidate.{GoneCandidate}
use Rattle.tally_returns.specs.View.{is_before}
use Rattle.tally_keeper.proofs.views.put_gone.Goals as goal

pub insert-requires : goal.insert-requires
insert-requires c =
    let within = prefix_len-le-length (λ (g : GoneCandidate). is_before g c.args.candidate) c.deref.result.now in
    omega (arith, within, c.gone_place-place.ensures, c.deref.ensures.len)
