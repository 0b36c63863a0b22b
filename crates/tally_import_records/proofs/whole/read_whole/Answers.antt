use Rattle.std.proofs.Common.{◌≤◌, ◌<◌, Some, length, arith, subst}
use Rattle.tally_import_records.specs.internal.Pieces.{FillsHeld}
use Rattle.tally_import_records.proofs.WholeLemmas.{came_of, ended_within, too_long}
use Rattle.tally_import_records.proofs.whole.read_whole.Goals as goal

pub returns-then-len-limit-clause-gave : goal.returns-then-len-limit-clause-gave
returns-then-len-limit-clause-gave g c =
    let old = g.R.Read.remaining c.args.input.now in
    let left = g.R.Read.remaining c.fill.new.input in
    let held = c.fill.new.self in
    let came = came_of old left c.new-held.result held c.in_ok-end.end c.new-held.ensures.bytes c.new-held.ensures.taken c.in_ok-end.ensures.fills in
    let more : c.args.limit < length held.bytes.items = omega (arith, c.if-len-limit.true, c.len.ensures) in
    too_long c.args.limit c.requires old left held.bytes.items _ held.taken c.in_ok-end.end came more c.truncate.ensures.items

pub returns-clause-gave : goal.returns-clause-gave
returns-clause-gave g c =
    let old = g.R.Read.remaining c.args.input.now in
    let left = g.R.Read.remaining c.fill.new.input in
    let held = c.fill.new.self in
    let fills = subst (FillsHeld old left c.new-held.result held) c.in-Some.is c.in_ok-end.ensures.fills in
    let came = came_of old left c.new-held.result held (Some c.in-Some.end) c.new-held.ensures.bytes c.new-held.ensures.taken fills in
    let few : length held.bytes.items ≤ c.args.limit = omega (arith, c.if-len-limit.false, c.len.ensures) in
    ended_within c.args.limit c.requires old left held.bytes.items held.taken c.in-Some.end came few
