-- How the code's record is read as a ledger. Assumes nothing.
use Rattle.ledger.specs.Ledger.{Ledger}
use Rattle.ledger.specs.declared.records.Record.{Record}

-- every field of the code's record is in it
abbrev pub read : Record → Ledger
read r = record { number = r.number; day = r.day; stage = r.stage; accounts = r.accounts; futures = r.futures; options = r.options.rows; requests = r.requests.places; draw = r.draw }
