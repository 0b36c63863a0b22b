-- The answer to a command: for each reply and each refusal its status and its JSON (RFC 8259),
-- compact and with its keys in the order of their bytes.
use Rattle.std.specs.Prelude.{ℕ, Bool, true, false, List, [], ◌∷◌, ◌++◌, codes, decimal, Some, None}
use Rattle.std.specs.Prelude.{Result, Ok, Err}
use Rattle.std.specs.List.{flat_map}
use Rattle.tally_setup.specs.Constituency.{ListEntry}
use Rattle.tally_returns.specs.Refusals.{refusal_number, refusal_word}
use Rattle.tally_returns.specs.Return.{status_word}
use Rattle.tally_returns.specs.declared.reply.Reply.{Reply}
use Rattle.tally_returns.specs.declared.reply.Reply.TheVariants as reply
use Rattle.tally_returns.specs.declared.refusal.Refusal.{Refusal}
use Rattle.tally_returns.specs.declared.refusal.Refusal.TheVariants as refusal
use Rattle.tally_desk_answer.specs.declared.status.AnswerStatus.{AnswerStatus}
use Rattle.tally_desk_answer.specs.declared.status.AnswerStatus.TheVariants as status
use Rattle.tally_desk_answer.specs.declared.status.BodyType.TheVariants as body
use Rattle.tally_desk_answer.specs.Answer.{answer_text}

-- ---- replies

-- What is shown (a return, a constituency, progress) has answers of its own.
abbrev pub reply_body : Reply → List ℕ
reply_body (reply.Lodged rev) = codes "{\"ok\":\"lodged\",\"rev\":" ++ decimal rev ++ codes "}"
reply_body (reply.Same rev) = codes "{\"ok\":\"same\",\"rev\":" ++ decimal rev ++ codes "}"
reply_body (reply.Moved rev) = codes "{\"ok\":\"moved\",\"rev\":" ++ decimal rev ++ codes "}"
reply_body (reply.Edition edition) =
    codes "{\"edition\":" ++ decimal edition ++ codes ",\"ok\":\"edition\"}"
reply_body (reply.Vacated (Some next)) =
    codes "{\"next\":" ++ decimal next ++ codes ",\"ok\":\"vacated\"}"
reply_body (reply.Vacated None) = codes "{\"next\":null,\"ok\":\"vacated\"}"
reply_body (reply.Return shown) = []
reply_body (reply.Con shown) = []
reply_body (reply.Progress shown) = []

-- ---- refusals

-- the lists that are marked, in order
abbrev pub marked_lists : List ListEntry → List Bool → List ListEntry
marked_lists [] marks = []
marked_lists (list ∷ lists) [] = []
marked_lists (list ∷ lists) (true ∷ marks) = list ∷ marked_lists lists marks
marked_lists (list ∷ lists) (false ∷ marks) = marked_lists lists marks

abbrev pub quoted_code : ListEntry → List ℕ
quoted_code list = codes "\"" ++ list.code ++ codes "\""

abbrev pub next_code : ListEntry → List ℕ
next_code list = codes "," ++ quoted_code list

-- codes in quotes, with commas between them
abbrev pub quoted_codes : List ListEntry → List ℕ
quoted_codes [] = []
quoted_codes (list ∷ lists) = quoted_code list ++ flat_map next_code lists

-- the codes of a group of lists, in order of place
abbrev pub group_text : List ListEntry → List Bool → List ℕ
group_text lists group = codes "[" ++ quoted_codes (marked_lists lists group) ++ codes "]"

abbrev pub refusal_status : Refusal → AnswerStatus
refusal_status refusal.NoStation = status.NotFound
refusal_status refusal.NoConstituency = status.NotFound
refusal_status refusal.NoCandidate = status.NotFound
refusal_status refusal.BadCounts = status.BadRequest
refusal_status refusal.BadNote = status.BadRequest
refusal_status refusal.TooManyVotes = status.BadRequest
refusal_status refusal.NoReturn = status.NotFound
refusal_status refusal.Memory = status.Unavailable
refusal_status refusal.Store = status.Unavailable
refusal_status other = status.Conflict

-- what else a refusal says, in a constituency with these lists: before its number, and after it
abbrev pub members_before : List ListEntry → Refusal → List ℕ
members_before lists (refusal.Stale now) = codes "\"now\":" ++ decimal now ++ codes ","
members_before lists (refusal.NotAllClosed left) = codes "\"left\":" ++ decimal left ++ codes ","
members_before lists (refusal.LotWrongGroup group) =
    codes "\"group\":" ++ group_text lists group ++ codes ","
members_before lists (refusal.LotMissing group seats) =
    codes "\"group\":" ++ group_text lists group ++ codes ","
members_before lists other = []

abbrev pub members_after : Refusal → List ℕ
members_after (refusal.Differs rev) = codes "\"rev\":" ++ decimal rev ++ codes ","
members_after (refusal.WrongStatus standing) =
    codes "\"status\":\"" ++ status_word standing ++ codes "\","
members_after (refusal.LotMissing group seats) = codes "\"seats\":" ++ decimal seats ++ codes ","
members_after other = []

abbrev pub word_member : Refusal → List ℕ
word_member why = codes "\"word\":\"" ++ refusal_word why ++ codes "\"}"

abbrev pub refusal_members : List ListEntry → Refusal → List ℕ
refusal_members lists why =
    codes "{" ++ members_before lists why
    ++ (codes "\"refused\":" ++ decimal (refusal_number why) ++ codes ",")
    ++ members_after why ++ word_member why

-- Memory and Store are no refusals of a command: their answer has no number.
abbrev pub refusal_body : List ListEntry → Refusal → List ℕ
refusal_body lists refusal.Memory = codes "{" ++ word_member refusal.Memory
refusal_body lists refusal.Store = codes "{" ++ word_member refusal.Store
refusal_body lists other = refusal_members lists other

-- ---- the answer to a command on a constituency with these lists, or on a station of one

abbrev pub outcome_answer : List ListEntry → Result Reply Refusal → AnswerStatus × List ℕ
outcome_answer lists (Ok said) = (status.Done, reply_body said)
outcome_answer lists (Err why) = (refusal_status why, refusal_body lists why)

abbrev pub outcome_text : List ListEntry → Result Reply Refusal → List ℕ
outcome_text lists outcome =
    answer_text (outcome_answer lists outcome).0 body.Json (outcome_answer lists outcome).1
