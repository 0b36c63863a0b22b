-- Constituencies that were read and are those of a lawful state.
use Rattle.std.specs.Prelude.{◌≡◌, ◌==◌, ◌&&◌, ℕ, Bool, true, List, [], ◌∷◌, Option, Some, All}
use Rattle.std.specs.Prelude.{length, option_map}
use Rattle.std.specs.Prelude.{nat_eq}
use Rattle.std.specs.Ordering.{nat_cmp}
use Rattle.std.specs.Cmp.Lexicographic.{pointwise}
use Rattle.sqlite_value.specs.Order.{Row}
use Rattle.tally_keeper.specs.Kept.{Kept, view_in}
use Rattle.tally_machine_law.specs.Outcome.{IsLawfulView}
use Rattle.tally_returns.specs.GoneCandidate.{GoneCandidate}
use Rattle.tally_returns.specs.PastSeats.{PastSeats}
use Rattle.tally_returns.specs.View.{View}
use Rattle.tally_store_schema.specs.Rows.{text_cmp}
use Rattle.tally_setup.specs.Constituency.{Constituency}
use Rattle.tally_setup.specs.Setup.{constituency_with}
use Rattle.tally_store_open.specs.internal.Entries.{rises, rises_on}
use Rattle.tally_store_rows.specs.Views.{Tables, con_at, views_from}

-- the constituency that a row of `cons` names, and what is seen of it by its returns
abbrev pub con_counted : List Constituency → (Constituency → View) → Row →
    Option (Constituency × View)
con_counted setup counted row = option_map (λ con. (con, counted con)) (con_at setup row)

-- the same numbers of returns and the same sums
abbrev pub same_numbers : View → View → Bool
same_numbers counted view =
    (view.stations == counted.stations) && (view.received == counted.received)
    && (view.queried == counted.queried) && (view.corrected == counted.corrected)
    && (view.closed == counted.closed) && pointwise nat_eq view.votes counted.votes
    && (view.blank == counted.blank) && (view.spoiled == counted.spoiled)

-- the places of one who is gone: that of the list and the candidate's own
abbrev pub gone_places : GoneCandidate → List ℕ
gone_places gone = gone.list ∷ gone.place ∷ []

abbrev pub past_edition : PastSeats → ℕ
past_edition past = past.edition

-- the numbers and sums are those that were counted, and those who are gone and the certificates
-- that were reopened are in order
abbrev pub is_as_counted : View → View → Bool
is_as_counted counted view =
    same_numbers counted view && rises_on gone_places text_cmp view.gone
    && rises_on past_edition nat_cmp view.past

-- What was read of a constituency, under its code, is what a lawful state with these returns shows
-- of it.
pub record IsLawfulFound (kept : Kept) (e : List ℕ × View) : Type 0 where
  pub con : Constituency
  pub known : constituency_with e.0 kept.setup ≡ Some con
  pub numbers : same_numbers (view_in kept con) e.1 ≡ true
  pub gone : rises_on gone_places text_cmp e.1.gone ≡ true
  pub past : rises_on past_edition nat_cmp e.1.past ≡ true
  pub lawful : IsLawfulView con e.1

-- each is one of a lawful state with these returns
abbrev pub AreEachLawful : Kept → List (List ℕ × View) → Type 0
AreEachLawful kept found = All (IsLawfulFound kept) found

-- What was read are the constituencies of a lawful state with these returns, in the order of their
-- codes.
pub record AreAllLawful (kept : Kept) (found : List (List ℕ × View)) : Type 0 where
  pub many : length found ≡ length kept.setup
  pub rise : rises found ≡ true
  pub each : AreEachLawful kept found

-- These rows read as them.
abbrev pub AreLawfulCons : Kept → List Row → Tables → Type 0
AreLawfulCons kept cons tables = (found : List (List ℕ × View)) ×
    (views_from kept.setup (view_in kept) cons tables ≡ Some found) × AreAllLawful kept found
