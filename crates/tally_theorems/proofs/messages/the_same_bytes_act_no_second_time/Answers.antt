use Rattle.tally_theorems.proofs.BytesLemmas.{bytes-acted, bytes-imported}
use Rattle.tally_theorems.proofs.messages.the_same_bytes_act_no_second_time.Goals as goal

pub returns-clause-later : goal.returns-clause-later
returns-clause-later c =
    bytes-acted c.bytes_are_one_message.ensures c.a_message_that_is_sent_again_acts_no_second_time.ensures.later

pub returns-clause-import : goal.returns-clause-import
returns-clause-import c =
    bytes-imported c.bytes_are_one_message.ensures c.a_message_that_is_sent_again_acts_no_second_time.ensures.import
