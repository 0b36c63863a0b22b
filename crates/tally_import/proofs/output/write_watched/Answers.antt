use Rattle.std.proofs.Common.{◌≡◌, ◌≤◌, ◌-◌, take, drop, length, arith, rules, length-drop}
use Rattle.std.proofs.lemmas.List.{take_all}
use Rattle.std.proofs.Math.Seq.{take-add}
use Rattle.csv.proofs.WriteFacts.{appends-more}
use Rattle.tally_import.proofs.output.write_watched.Goals as goal

pub loop-written-preserved : goal.loop-written-preserved
loop-written-preserved g c =
    let text = c.args.text.now in
    let written = c.loop-written.written in
    let all : length (drop written text) ≤ length text - written = omega (arith, length-drop written text) in
    let rest : take (length text - written) (drop written text) ≡ drop written text = take_all _ _ all in
    record {
      watch = search rules;
      within = omega (arith, rw rest at c.in-Ok.ensures.bound, length-drop written text);
      front = rw (take-add written c.in-Ok.taken text) (appends-more _ _ _ _ _ c.loop-written.invariant.front (rw rest at c.in-Ok.ensures.bytes));
    }
