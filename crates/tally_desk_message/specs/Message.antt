-- Which message or which fault the bytes of a connection are: HTTP/1.1 (RFC 9112) as far as the
-- desk speaks it.
use Rattle.std.specs.Prelude.{◌≡◌, ◌⊎◌, ℕ, ◌+◌, ◌<◌, ◌≤◌, Bool, true, false, ◌&&◌, ◌||◌}
use Rattle.std.specs.Prelude.{if◌then◌else◌, nat_le, List, [], ◌∷◌, ◌++◌, map, filter, length, take}
use Rattle.std.specs.Prelude.{codes, bytes_eq, Option, Some, None, Result, Ok, Err, ⊤}
use Rattle.std.specs.List.{list_any, list_all}
use Rattle.std.specs.Char.{is_ascii_digit}
use Rattle.std.specs.Str.{str_eq_ignore_ascii_case}
use Rattle.std.specs.Str.Parse.{digits_value}
use Rattle.http.specs.Token.{IsToken}
use Rattle.httparse.specs.Grammar.{RequestHead, ReadsRequest, print_request}
use Rattle.httparse.specs.Spans.{name_and_value}
use Rattle.tally_desk_message.specs.Connection.{Connection}
use Rattle.tally_desk_message.specs.declared.message.Message.{Message}
use Rattle.tally_desk_message.specs.declared.message.MessageFault.{MessageFault}
use Rattle.tally_desk_message.specs.declared.message.MessageFault.TheVariants.{BadHead, HeadTooLong}
use Rattle.tally_desk_message.specs.declared.message.MessageFault.TheVariants.{LengthRequired}
use Rattle.tally_desk_message.specs.declared.message.MessageFault.TheVariants.{BadLength}
use Rattle.tally_desk_message.specs.declared.message.MessageFault.TheVariants.{BodyTooLong}
use Rattle.tally_desk_message.specs.declared.message.MessageFault.TheVariants.{EndedEarly}
use Rattle.tally_desk_message.specs.declared.message.MessageFault.TheVariants.{Read, Memory}

-- the most bytes of a head, the most fields in it, the most bytes of a body
abbrev pub head_limit : ℕ
head_limit = 16384

abbrev pub field_limit : ℕ
field_limit = 64

abbrev pub body_limit : ℕ
body_limit = 1048576

-- ---- heads

-- The text begins with a head, and `rest` follows it: a start line and fields up to an empty line
-- (RFC 9112, sections 2 to 5) as `httparse` reads them, within the limits, whose method is a token
-- (RFC 9110, section 9.1).
pub record BeginsWithHead (text : List ℕ) (head : RequestHead) (rest : List ℕ) : Type 0 where
  pub reads : ReadsRequest text head rest
  pub short : length (print_request head) ≤ head_limit
  pub few : length head.fields ≤ field_limit
  pub method : IsToken head.method

abbrev pub HasNoHead : List ℕ → Type 0
HasNoHead text = (head : RequestHead) (rest : List ℕ) → BeginsWithHead text head rest → ⊥

-- Whatever follows these bytes, they begin with no head that has at most 64 fields.
abbrev pub CannotBecomeHead : List ℕ → Type 0
CannotBecomeHead text =
    (more : List ℕ) (head : RequestHead) (rest : List ℕ) → ReadsRequest (text ++ more) head rest
    → length head.fields ≤ field_limit → ⊥

-- ---- the length of the body (RFC 9112, section 6; RFC 9110, section 8.6)

-- a field's name, and its value without the white space around it
abbrev pub NameAndValue : Type 0
NameAndValue = List ℕ × List ℕ

-- names are the same whatever the case of ASCII letters (RFC 9110, section 5.1)
abbrev pub is_field_named : List ℕ → NameAndValue → Bool
is_field_named name field = str_eq_ignore_ascii_case field.0 name

abbrev pub values_of : List ℕ → List NameAndValue → List (List ℕ)
values_of name fields = map (λ field. field.1) (filter (is_field_named name) fields)

-- the value of a field that may be given once
abbrev pub single_value : List (List ℕ) → Result (Option (List ℕ)) MessageFault
single_value [] = Ok None
single_value (value ∷ []) = Ok (Some value)
single_value (value ∷ other ∷ more) = Err BadLength

-- 1 to 18 digits
abbrev pub is_content_length : List ℕ → Bool
is_content_length value =
    nat_le 1 (length value) && nat_le (length value) 18 && list_all is_ascii_digit value

abbrev pub within_body_limit : ℕ → Result ℕ MessageFault
within_body_limit n = if nat_le n body_limit then Ok n else Err BodyTooLong

abbrev pub content_length : List ℕ → Result ℕ MessageFault
content_length value =
    if is_content_length value then within_body_limit (digits_value 10 value) else Err BadLength

-- Without a Content-Length the body is empty; but a POST has to have the field.
abbrev pub length_by : Bool → Result (Option (List ℕ)) MessageFault → Result ℕ MessageFault
length_by is_post (Ok None) = if is_post then Err LengthRequired else Ok 0
length_by is_post (Ok (Some value)) = content_length value
length_by is_post (Err fault) = Err fault

-- How many bytes of body a method and fields announce, or the fault in them. A body with a
-- Transfer-Encoding, such as a chunked one, is not read: its length is required.
abbrev pub announced_length : List ℕ → List NameAndValue → Result ℕ MessageFault
announced_length method fields =
    if list_any (is_field_named (codes "transfer-encoding")) fields then Err LengthRequired
    else length_by (bytes_eq method (codes "POST"))
    (single_value (values_of (codes "content-length") fields))

abbrev pub body_length : RequestHead → Result ℕ MessageFault
body_length head = announced_length head.method (map name_and_value head.fields)

-- ---- messages and faults

-- the text begins with a head that announces a body of this many bytes
pub record Announces (text : List ℕ) (count : ℕ) (head : RequestHead) (rest : List ℕ) : Type 0 where
  pub begins : BeginsWithHead text head rest
  pub length : body_length head ≡ Ok count

-- The text is this message: such a head, and as many bytes of body. What follows the body does not
-- matter.
pub record IsMessage
    (text : List ℕ) (m : Message) (count : ℕ) (head : RequestHead) (rest : List ℕ)
    : Type 0 where
  pub announces : Announces text count head rest
  pub whole : count ≤ length rest
  pub method : m.method ≡ head.method
  pub target : m.target.items ≡ head.target
  pub body : m.body.items ≡ take count rest

-- the text begins with a head whose fields have this fault
abbrev pub HasFaultyHead : List ℕ → MessageFault → Type 0
HasFaultyHead text fault =
    (head : RequestHead) × (rest : List ℕ) × BeginsWithHead text head rest
    × (body_length head ≡ Err fault)

-- the text ends before the body that its head announces does
abbrev pub HasCutBody : List ℕ → Type 0
HasCutBody text =
    (count : ℕ) × (head : RequestHead) × (rest : List ℕ) × Announces text count head rest
    × (length rest < count)

-- The faults of a connection that gives this text and then ends or, where it `fails`, has a failing
-- read. A text of 16,384 bytes or more that can no longer become a head has either of the first
-- two. A shorter one after which a read fails has BadHead where that read was not made, and Read
-- where it was (`FailsAs`).
abbrev pub IsFault : List ℕ → Bool → MessageFault → Type 0
IsFault text fails BadHead =
    HasNoHead text
    × (((length text < head_limit) × (fails ≡ false)) ⊎ CannotBecomeHead (take head_limit text))
IsFault text fails HeadTooLong = HasNoHead text × (head_limit ≤ length text)
IsFault text fails LengthRequired = HasFaultyHead text LengthRequired
IsFault text fails BadLength = HasFaultyHead text BadLength
IsFault text fails BodyTooLong = HasFaultyHead text BodyTooLong
IsFault text fails EndedEarly = (fails ≡ false) × HasCutBody text
IsFault text fails Read =
    (fails ≡ true) × ((HasNoHead text × (length text < head_limit)) ⊎ HasCutBody text)
IsFault text fails Memory = ⊤

abbrev pub IsMessageOrFault : List ℕ → Bool → Result Message MessageFault → Type 0
IsMessageOrFault text fails (Ok m) =
    (count : ℕ) × (head : RequestHead) × (rest : List ℕ) × IsMessage text m count head rest
IsMessageOrFault text fails (Err fault) = IsFault text fails fault

-- whether a fault is a read that failed
abbrev pub is_failed_read : MessageFault → Bool
is_failed_read BadHead = false
is_failed_read HeadTooLong = false
is_failed_read LengthRequired = false
is_failed_read BadLength = false
is_failed_read BodyTooLong = false
is_failed_read EndedEarly = false
is_failed_read Read = true
is_failed_read Memory = false

abbrev pub has_failed_read : {X : Type 0} → Result X MessageFault → Bool
has_failed_read (Ok x) = false
has_failed_read (Err fault) = is_failed_read fault

-- Bytes were taken from the beginning of a connection's input, or a read of it failed, and nothing
-- else of it changed.
abbrev pub OnlyReadsInput : Connection → Connection → Type 0
OnlyReadsInput c d =
    (taken : List ℕ) × (c.input ≡ taken ++ d.input)
    × (d ≡ record c { input = d.input; read_failed = d.read_failed })

-- A read of the connection failed where that is the answer, and only there.
abbrev pub FailsAs : {X : Type 0} → Result X MessageFault → Connection → Connection → Type 0
FailsAs answer c d = d.read_failed ≡ (has_failed_read answer || c.read_failed)

-- at most this many bytes of a connection's input were taken
abbrev pub TakesAtMost : ℕ → Connection → Connection → Type 0
TakesAtMost most c d = length c.input ≤ most + length d.input

-- With a message, at most as many bytes were taken as a head may have and the body has; with a
-- fault, as many as both may have.
abbrev pub TakesWithinLimits : Result Message MessageFault → Connection → Connection → Type 0
TakesWithinLimits (Ok m) c d = TakesAtMost (head_limit + length m.body.items) c d
TakesWithinLimits (Err fault) c d = TakesAtMost (head_limit + body_limit) c d

-- What was answered is the message or a fault of the connection's whole input, of which some was
-- taken.
abbrev pub HasReadMessage : Result Message MessageFault → Connection → Connection → Type 0
HasReadMessage answer c d = OnlyReadsInput c d × IsMessageOrFault c.input c.fails answer
