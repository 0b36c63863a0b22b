use Rattle.tally_store_open.proofs.office.ledger_of_rows.Goals as goal

pub ledger_of-requires-clause-rise : goal.ledger_of-requires-clause-rise
ledger_of-requires-clause-rise c = let read = rw c.in-Some.is at c.in_ok-entries.ensures.read in read.rise

pub ledger_of-requires-clause-lawful : goal.ledger_of-requires-clause-lawful
ledger_of-requires-clause-lawful c = let read = rw c.in-Some.is at c.in_ok-entries.ensures.read in read.lawful

pub returns-clause-read : goal.returns-clause-read
returns-clause-read c =
    let read = rw c.in-Some.is at c.in_ok-entries.ensures.read in
    record { es = c.in-Some.entries.items; entries = read; kept_is = c.in_ok-ledger_of.ensures }
