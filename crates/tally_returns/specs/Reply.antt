-- The reply that a Lodge is answered, among all replies.
use Rattle.tally_returns.specs.declared.reply.LodgeReply.{LodgeReply}
use Rattle.tally_returns.specs.declared.reply.LodgeReply.TheVariants as lodge
use Rattle.tally_returns.specs.declared.reply.Reply.{Reply}
use Rattle.tally_returns.specs.declared.reply.Reply.TheVariants.{Lodged, Same}

abbrev pub as_reply : LodgeReply → Reply
as_reply (lodge.Lodged rev) = Lodged rev
as_reply (lodge.Same rev) = Same rev
