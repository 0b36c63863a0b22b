use Rattle.std.proofs.Common.{arith}
use Rattle.std.proofs.lemmas.List.Sums.{prefix_len-le-length}
use Rattle.tally_store_rows.specs.Reading.{has_text}
use Rattle.tally_store_rows.proofs.parts.split_rows.Goals as goal

pub split_at-requires : goal.split_at-requires
split_at-requires c = omega (arith, c.key_len.ensures, prefix_len-le-length (λ row. has_text row 0 c.args.key.now) c.args.rows.now)
