-- The limits of what seats are allotted by. The crates of the setup, of the law and of the seats
-- speak of them by these names.
use Rattle.std.specs.Prelude.{ℕ}

-- the lists of a constituency
abbrev pub most_lists : ℕ
most_lists = 60

-- the seats of a constituency
abbrev pub most_seats : ℕ
most_seats = 500

-- the seat that a list with all of them would win next
abbrev pub last_divisor : ℕ
last_divisor = 501

-- the greatest of the first 501 divisors of any rule, in its units
abbrev pub greatest_divisor : ℕ
greatest_divisor = 5005

-- the greatest threshold: the whole base, in ten-thousandths
abbrev pub whole_base : ℕ
whole_base = 10000

-- the votes of a constituency
abbrev pub most_votes : ℕ
most_votes = 5000000000
