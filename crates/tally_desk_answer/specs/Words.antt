-- The answers that are a word alone: where a message asks for nothing that the desk has, where a
-- body, an import or a report is refused, and where a request was not accepted.
use Rattle.std.specs.Prelude.{ℕ, List, ◌++◌, codes}
use Rattle.tally_desk_answer.specs.declared.status.AnswerStatus.{AnswerStatus}
use Rattle.tally_desk_answer.specs.declared.status.AnswerStatus.TheVariants as status
use Rattle.tally_desk_answer.specs.declared.status.BodyType.TheVariants as body
use Rattle.tally_desk_answer.specs.declared.word.Word.{Word}
use Rattle.tally_desk_answer.specs.declared.word.Word.TheVariants as word
use Rattle.tally_desk_answer.specs.Answer.{answer_text}

-- the status and the word
abbrev pub word_answer : Word → AnswerStatus × List ℕ
word_answer word.BadHead = (status.BadRequest, codes "bad_head")
word_answer word.HeadTooLong = (status.BadRequest, codes "head_too_long")
word_answer word.LengthRequired = (status.LengthRequired, codes "length_required")
word_answer word.BadLength = (status.BadRequest, codes "bad_length")
word_answer word.BodyTooLong = (status.BadRequest, codes "body_too_long")
word_answer word.EndedEarly = (status.BadRequest, codes "ended_early")
word_answer word.NoRoute = (status.NotFound, codes "no_route")
word_answer word.GetOnly = (status.GetOnly, codes "no_method")
word_answer word.PostOnly = (status.PostOnly, codes "no_method")
word_answer word.BadBody = (status.BadRequest, codes "bad_body")
word_answer word.BadHeader = (status.BadRequest, codes "bad_header")
word_answer word.TooLong = (status.BadRequest, codes "too_long")
word_answer word.NotCertified = (status.Conflict, codes "not_certified")
word_answer word.OtherMethod = (status.Conflict, codes "other_method")
word_answer word.Unavailable = (status.Unavailable, codes "unavailable")

-- its JSON
abbrev pub word_body : List ℕ → List ℕ
word_body word = codes "{\"word\":\"" ++ word ++ codes "\"}"

abbrev pub word_text : Word → List ℕ
word_text word = answer_text (word_answer word).0 body.Json (word_body (word_answer word).1)
