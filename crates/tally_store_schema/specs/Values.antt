-- What is read of a value that a query answered.
use Rattle.std.specs.Prelude.{ℕ, ◌^◌, Option, Some, None, List, pos, negsuc, if◌then◌else◌, nat_lt}
use Rattle.sqlite_value.specs.declared.value.Value.{Value}
use Rattle.sqlite_value.specs.declared.value.Value.TheVariants.{Null, Int, Real, Text, Blob}

-- a text, as its bytes
abbrev pub text_of : Value → Option (List ℕ)
text_of Null = None
text_of (Int n) = None
text_of (Real x) = None
text_of (Text t) = Some t
text_of (Blob b) = None

-- a whole number that fits in 32 bits
abbrev pub number_of : Value → Option ℕ
number_of Null = None
number_of (Int (pos n)) = if nat_lt n (2 ^ 32) then Some n else None
number_of (Int (negsuc n)) = None
number_of (Real x) = None
number_of (Text t) = None
number_of (Blob b) = None

-- a whole number of any size
abbrev pub wide_number_of : Value → Option ℕ
wide_number_of Null = None
wide_number_of (Int (pos n)) = Some n
wide_number_of (Int (negsuc n)) = None
wide_number_of (Real x) = None
wide_number_of (Text t) = None
wide_number_of (Blob b) = None
