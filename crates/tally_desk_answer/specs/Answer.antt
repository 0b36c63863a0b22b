-- The bytes of an answer: an HTTP/1.1 response (RFC 9112, section 4) from its status, the type of
-- its body and its body.
use Rattle.std.specs.Prelude.{ℕ, List, [], ◌++◌, length, codes, decimal, unwrap_or}
use Rattle.http.specs.StatusCode.{reason_phrase}
use Rattle.tally_desk_answer.specs.declared.status.AnswerStatus.{AnswerStatus}
use Rattle.tally_desk_answer.specs.declared.status.AnswerStatus.TheVariants as status
use Rattle.tally_desk_answer.specs.declared.status.BodyType.{BodyType}
use Rattle.tally_desk_answer.specs.declared.status.BodyType.TheVariants as body

-- RFC 9110, section 15
abbrev pub http_status : AnswerStatus → ℕ
http_status status.Done = 200
http_status status.BadRequest = 400
http_status status.NotFound = 404
http_status status.GetOnly = 405
http_status status.PostOnly = 405
http_status status.Conflict = 409
http_status status.LengthRequired = 411
http_status status.Unavailable = 503

-- the reason phrase that goes with the status, as `http` has it
abbrev pub phrase : AnswerStatus → List ℕ
phrase s = unwrap_or (reason_phrase (http_status s)) []

abbrev pub type_name : BodyType → List ℕ
type_name body.Json = codes "application/json"
type_name body.Text = codes "text/plain; charset=utf-8"
type_name body.Csv = codes "text/csv; charset=utf-8"

-- The lines of a head, each with its line end.
abbrev pub status_line : AnswerStatus → List ℕ
status_line s =
    codes "HTTP/1.1 " ++ decimal (http_status s) ++ codes " " ++ phrase s ++ codes "\r\n"

abbrev pub type_line : BodyType → List ℕ
type_line t = codes "Content-Type: " ++ type_name t ++ codes "\r\n"

abbrev pub length_line : ℕ → List ℕ
length_line n = codes "Content-Length: " ++ decimal n ++ codes "\r\n"

-- the methods that a 405 allows (RFC 9110, section 10.2.1); other statuses have no such line
abbrev pub allow_line : AnswerStatus → List ℕ
allow_line status.Done = []
allow_line status.BadRequest = []
allow_line status.NotFound = []
allow_line status.GetOnly = codes "Allow: GET\r\n"
allow_line status.PostOnly = codes "Allow: POST\r\n"
allow_line status.Conflict = []
allow_line status.LengthRequired = []
allow_line status.Unavailable = []

abbrev pub close_line : List ℕ
close_line = codes "Connection: close\r\n"

-- the fields of an answer whose body has this many bytes, and the empty line after them
abbrev pub fields_text : AnswerStatus → BodyType → ℕ → List ℕ
fields_text s t n = type_line t ++ length_line n ++ allow_line s ++ close_line ++ codes "\r\n"

abbrev pub head_text : AnswerStatus → BodyType → ℕ → List ℕ
head_text s t n = status_line s ++ fields_text s t n

abbrev pub answer_text : AnswerStatus → BodyType → List ℕ → List ℕ
answer_text s t text = head_text s t (length text) ++ text
