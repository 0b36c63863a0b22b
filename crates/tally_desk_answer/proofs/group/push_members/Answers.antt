use Rattle.std.proofs.Common.{◌≡◌, ◌++◌, ◌||◌, Bool, List, ℕ, suc, ap, sym, ◌∙◌, append_assoc, arith, take, get_or, slice_index_or, false}
use Rattle.tally_frac.specs.ListSet.{has_place}
use Rattle.tally_setup.specs.Constituency.{ListEntry}
use Rattle.tally_desk_answer.specs.Outcome.{marked_lists, quoted_codes}
use Rattle.tally_desk_answer.specs.internal.Group.{is_begun, code_in_group}
use Rattle.tally_desk_answer.proofs.GroupLemmas.{written_next, begun_by}
use Rattle.tally_desk_answer.proofs.group.push_members.Goals as goal

pub loop-list-preserved : goal.loop-list-preserved
loop-list-preserved c =
    let old = c.args.out.now.items in
    let lists = c.args.lists.now in
    let group = c.args.group.now in
    let i = c.loop-list.list-index in
    let list = c.list-item.result in
    let so_far = marked_lists (take i lists) group in
    let at : c.loop-list.place ≡ suc i = omega (arith, c.loop-list.invariant.place) in
    let mark : c.has.result ≡ slice_index_or group i false = c.has.ensures ∙ ap (has_place group) at in
    let within = c.loop-list-test.true in
    let piece : code_in_group c.loop-list.begun c.has.result list ≡ code_in_group (is_begun so_far) (slice_index_or group i false) (get_or lists i list) =
    ap (λ (b : Bool). code_in_group b c.has.result list) c.loop-list.invariant.begun
    ∙ ap (λ (m : Bool). code_in_group (is_begun so_far) m list) mark
    ∙ ap (λ (e : ListEntry). code_in_group (is_begun so_far) (slice_index_or group i false) e) c.list-item.is in
    record {
      place = omega (arith, c.loop-list.invariant.place);
      begun = c.push_marked-begun.ensures.begun
          ∙ ap (λ (b : Bool). b || c.has.result) c.loop-list.invariant.begun
          ∙ ap (λ (m : Bool). is_begun so_far || m) mark
          ∙ sym (begun_by lists group i list within);
      items = c.push_marked-begun.ensures.items
          ∙ ap (λ (l : List ℕ). l ++ code_in_group c.loop-list.begun c.has.result list) c.loop-list.invariant.items
          ∙ append_assoc old (quoted_codes so_far) (code_in_group c.loop-list.begun c.has.result list)
          ∙ ap (λ (l : List ℕ). old ++ l) (ap (λ (l : List ℕ). quoted_codes so_far ++ l) piece ∙ sym (written_next lists group i list within));
      len = omega (arith, c.push_marked-begun.ensures.len, c.loop-list.invariant.len);
      room = omega (arith, c.push_marked-begun.ensures.room, c.loop-list.invariant.room);
    }
