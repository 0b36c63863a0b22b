use Rattle.std.proofs.Common.{sym, ap, ◌∙◌}
use Rattle.std.specs.Option.{option_copied}
use Rattle.tally_returns.proofs.DecideLemmas.{limits_named-found}
use Rattle.tally_returns.proofs.decide.decide_return.Goals as goal

pub decide_at-requires : goal.decide_at-requires
decide_at-requires c = record {
  lawful = c.requires.lawful _ (limits_named-found c.args.con.now c.args.ask.now c.in-Some.code c.in-Some-station_in.station.now (sym c.station.ensures ∙ c.in-Some.is) (sym c.station_in.ensures ∙ ap option_copied c.in-Some-station_in.is));
}
