use Rattle.std.proofs.Common.{◌≡◌, ◌≤◌, ◌+◌, ◌*◌, ◌++◌, take, vec_len, vec_capacity}
use Rattle.tally_desk_answer.specs.Outcome.{marked_lists, quoted_codes}
use Rattle.tally_desk_answer.specs.internal.Group.{is_begun}
use Rattle.tally_desk_answer.proofs.group.push_members.Given as goal

abbrev pub invariant-loop-list : goal.invariant-loop-list
invariant-loop-list l = record {
  place : l.place ≡ l.list-index + 1;
  begun : l.begun ≡ is_begun (marked_lists (take l.list-index l.lists) l.group);
  items : l.out.items ≡ l.fn.out.items ++ quoted_codes (marked_lists (take l.list-index l.lists) l.group);
  len : vec_len l.out ≤ vec_len l.fn.out + 19 * l.list-index;
  room : vec_capacity l.fn.out ≤ vec_capacity l.out;
}
