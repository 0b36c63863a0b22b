use Rattle.tally_theorems.proofs.AgainLemmas.{accepted-again, acted-again, imported-again}
use Rattle.tally_theorems.proofs.messages.a_message_that_is_sent_again_acts_no_second_time.Goals as goal

pub returns-clause-later : goal.returns-clause-later
returns-clause-later c = acted-again (record {
  equal = c.no_two_equal_requests_act.ensures;
  runs = c.requests_and_imports_are_a_run.ensures.«open»;
  imports = c.the_same_import_again_lodges_nothing.ensures;
  idle = c.what_does_not_act_can_be_left_out.ensures.all;
  one = c.a_step_is_one.ensures.one;
})

pub returns-clause-at_once : goal.returns-clause-at_once
returns-clause-at_once c = accepted-again (record {
  equal = c.no_two_equal_requests_act.ensures;
  runs = c.requests_and_imports_are_a_run.ensures.«open»;
  imports = c.the_same_import_again_lodges_nothing.ensures;
  idle = c.what_does_not_act_can_be_left_out.ensures.all;
  one = c.a_step_is_one.ensures.one;
})

pub returns-clause-import : goal.returns-clause-import
returns-clause-import c = imported-again (record {
  equal = c.no_two_equal_requests_act.ensures;
  runs = c.requests_and_imports_are_a_run.ensures.«open»;
  imports = c.the_same_import_again_lodges_nothing.ensures;
  idle = c.what_does_not_act_can_be_left_out.ensures.all;
  one = c.a_step_is_one.ensures.one;
})
