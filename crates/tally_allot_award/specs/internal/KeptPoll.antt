-- The poll that a `Poll` of the code is. No promise to a caller speaks of it.
use Rattle.tally_law.specs.Poll.{Poll}
use Rattle.tally_allot_award.specs.internal.Terms.{poll_under}
use Rattle.tally_allot_award.specs.declared.poll.Poll.{Poll as PollCode}

-- its votes, and the lists that reach its threshold
abbrev pub kept_poll : PollCode → Poll
kept_poll kept = poll_under kept.threshold kept.base kept.votes.now
