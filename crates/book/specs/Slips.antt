-- What a slip says. Assumes nothing.
use Rattle.ledger.specs.declared.records.Slip.{Slip}
use Rattle.ledger.specs.declared.records.Stage.TheVariants.{Trading}
use Rattle.book.specs.declared.slips.TradingSlip.{TradingSlip}

-- a trading slip is of the trading stage
abbrev pub shown : TradingSlip → Slip
shown t = record { number = t.number; day = t.day; stage = Trading }
