use Rattle.std.proofs.Common.{◌≡◌, ◌<◌, ◌≤◌, ◌+◌, ◌-◌, ◌∙◌, ℕ, min, List, [], Option, option_to_list, length, ap, length-append, length-take, refl, subst, sym, arith}
use Rattle.std.specs.Io.KnownBytes.{Consumes}
use Rattle.std.proofs.lemmas.List.{append-nil}
use Rattle.tally_import_records.specs.Watch.{flag_after_end}
use Rattle.tally_import_records.specs.internal.Pieces.{HoldsMore, HoldsNoMore}
use Rattle.tally_import_records.specs.declared.held.HeldText.{HeldText}
use Rattle.tally_import_records.proofs.InputLemmas.{Fills-too_long, HoldsMore-end, HoldsMore-fills, HoldsMore-on}
use Rattle.tally_import_records.proofs.held.HeldText.fill.Goals as goal

-- what is held beyond what was held before has come from the reader
no-more : (old_left left : Option (List ℕ)) (old new : HeldText) → HoldsMore old_left left old new → HoldsNoMore old new
no-more old_left left old new came = omega (arith, came.2, ap length came.1, length-append old.bytes.items came.0)

pub returns-in-Some-clause-few : goal.returns-in-Some-clause-few
returns-in-Some-clause-few g c =
    let ended = c.in_ok-end.ensures.ended c.in-Some.end c.in-Some.is in
    subst (HoldsNoMore c.args.self.now) (sym ended.0)
    (no-more (g.R.Read.remaining c.args.input.now) (g.R.Read.remaining c.loop-self.input) c.args.self.now c.loop-self.self c.loop-self.invariant.came)

pub returns-then-len-size-clause-few : goal.returns-then-len-size-clause-few
returns-then-len-size-clause-few g c =
    no-more (g.R.Read.remaining c.args.input.now) (g.R.Read.remaining c.loop-self.input) c.args.self.now c.loop-self.self c.loop-self.invariant.came

pub returns-then-len-size-clause-fills : goal.returns-then-len-size-clause-fills
returns-then-len-size-clause-fills g c =
    HoldsMore-fills (g.R.Read.remaining c.args.input.now) (g.R.Read.remaining c.loop-self.input) c.args.self.now c.loop-self.self c.loop-self.invariant.came
    (omega (arith, c.if-self-gt-SIZE_LIMIT.false))

pub returns-in-Some-clause-fills : goal.returns-in-Some-clause-fills
returns-in-Some-clause-fills g c =
    let ended = c.in_ok-end.ensures.ended c.in-Some.end c.in-Some.is in
    HoldsMore-end (g.R.Read.remaining c.args.input.now) (g.R.Read.remaining c.loop-self.input) (g.R.Read.remaining c.read_once.new.input)
    c.args.self.now c.loop-self.self c.read_once.new.self c.in-Some.end c.loop-self.invariant.came
    (omega (arith, c.if-self-gt-SIZE_LIMIT.false)) ended.0 ended.1

pub loop-self-init : goal.loop-self-init
loop-self-init g c = record {
  limit = omega (arith, c.requires);
  watch = refl;
  came = (
    [],
    c.in_ok-reserve.ensures.items ∙ sym (append-nil c.args.self.now.bytes.items),
    omega arith,
    λ text bytes given. subst (Consumes text (g.R.Read.remaining c.args.input.now)) (sym (append-nil bytes)) given,
  );
}

pub returns-then-self-gt-SIZE_LIMIT-clause-few : goal.returns-then-self-gt-SIZE_LIMIT-clause-few
returns-then-self-gt-SIZE_LIMIT-clause-few g c =
    let came = c.loop-self.invariant.came in
    omega (arith, came.2, ap length came.1, length-append c.args.self.now.bytes.items came.0, ap length c.pop.ensures.items, length-append c.pop.new.self.items (option_to_list c.pop.result))

pub returns-then-len-size-clause-count : goal.returns-then-len-size-clause-count
returns-then-len-size-clause-count g c =
    let came = c.loop-self.invariant.came in
    omega (arith, came.2, ap length came.1, length-append c.args.self.now.bytes.items came.0)

pub loop-self-preserved : goal.loop-self-preserved
loop-self-preserved g c =
    let goes = c.in_default.is in
    record {
      limit = c.in_ok-end.ensures.limit;
      watch = subst (λ e. c.read_once.new.watch.failed ≡ flag_after_end e c.loop-self.watch.failed) goes c.in_ok-end.ensures.failed
          ∙ c.loop-self.invariant.watch;
      came = HoldsMore-on (g.R.Read.remaining c.args.input.now) (g.R.Read.remaining c.loop-self.input) (g.R.Read.remaining c.read_once.new.input)
          c.args.self.now c.loop-self.self c.read_once.new.self c.loop-self.invariant.came (c.in_ok-end.ensures.came goes);
    }

pub returns-then-self-gt-SIZE_LIMIT-clause-fills : goal.returns-then-self-gt-SIZE_LIMIT-clause-fills
returns-then-self-gt-SIZE_LIMIT-clause-fills g c =
    let came = c.loop-self.invariant.came in
    let some : 0 < length came.0 = omega (arith, came.2, c.requires, c.if-self-gt-SIZE_LIMIT.true) in
    Fills-too_long _ (g.R.Read.remaining c.loop-self.input) c.args.self.now.bytes.items _ _ came.0 c.args.self.now.taken _ came.1 c.pop.ensures.rest
    (omega (arith, c.loop-self.self.bytes.ok.0, ap length came.1, length-append c.args.self.now.bytes.items came.0, some))
    (omega (arith, came.2, c.loop-self.invariant.limit, c.if-self-gt-SIZE_LIMIT.true)) some came.3

-- what is asked for is within the limit
asked : (wanted most taken : ℕ) → wanted ≡ min most (16777217 - taken) → taken ≤ 16777216 → taken + wanted ≤ 16777217
asked wanted most taken is within = omega arith

less-left : (old new : ℕ) → old < new → new ≤ 16777217 → 16777217 - new < 16777217 - old
less-left old new more within = omega arith

pub read_once-requires-clause-limit : goal.read_once-requires-clause-limit
read_once-requires-clause-limit g c =
    let wanted = c.min-wanted.result in
    omega (arith, asked wanted _ _ c.min-wanted.ensures c.if-self-gt-SIZE_LIMIT.false, length-take wanted c.loop-self.buffer)

pub loop-self-smaller : goal.loop-self-smaller
loop-self-smaller g c = less-left c.loop-self.self.taken c.read_once.new.self.taken (c.in_ok-end.ensures.some c.in_default.is) c.in_ok-end.ensures.limit
