use Rattle.tally_allot_award.proofs.PollLemmas.{sound_under}
use Rattle.tally_allot_award.proofs.hare_contest.HareContest.new.Goals as goal

pub returns-clause-sound : goal.returns-clause-sound
returns-clause-sound c =
    let p = c.args.poll.now in
    record { rule = tt; poll = sound_under p.threshold p.base p.votes.now; some_seat = c.requires.some_seat; few_seats = c.requires.few_seats; few_lists = p.few_lists }
