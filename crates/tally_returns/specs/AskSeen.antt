-- Commands as contracts see them: a note is its bytes and an order its codes, however a program
-- keeps them.
use Rattle.std.specs.Prelude.{ℕ, List, string_bytes}
use Rattle.tally_returns.specs.Counts.{VoteCounts}
use Rattle.tally_returns.specs.declared.ask.Ask.{Ask}
use Rattle.tally_returns.specs.declared.ask.Ask.TheVariants as ask

pub data AskSeen : Type 0 where
  lodge : List ℕ → List ℕ → VoteCounts → AskSeen
  query : List ℕ → ℕ → List ℕ → AskSeen
  correct : List ℕ → ℕ → List ℕ → VoteCounts → AskSeen
  close : List ℕ → ℕ → AskSeen
  confirm : List ℕ → ℕ → List ℕ → VoteCounts → AskSeen
  show_return : List ℕ → AskSeen
  draw : List ℕ → ℕ → List (List ℕ) → AskSeen
  certify : List ℕ → ℕ → AskSeen
  reopen : List ℕ → ℕ → List ℕ → AskSeen
  vacate : List ℕ → List ℕ → ℕ → List ℕ → AskSeen
  show_con : List ℕ → AskSeen
  show_progress : AskSeen

abbrev pub ask_seen : Ask → AskSeen
ask_seen (ask.Lodge station slip counts) = lodge station slip counts
ask_seen (ask.Query station rev note) = query station rev (string_bytes note)
ask_seen (ask.Correct station rev slip counts) = correct station rev slip counts
ask_seen (ask.Close station rev) = close station rev
ask_seen (ask.Confirm station rev slip counts) = confirm station rev slip counts
ask_seen (ask.ShowReturn station) = show_return station
ask_seen (ask.Draw con edition order) = draw con edition order.items
ask_seen (ask.Certify con edition) = certify con edition
ask_seen (ask.Reopen con edition note) = reopen con edition (string_bytes note)
ask_seen (ask.Vacate con list place note) = vacate con list place (string_bytes note)
ask_seen (ask.ShowCon con) = show_con con
ask_seen ask.ShowProgress = show_progress
