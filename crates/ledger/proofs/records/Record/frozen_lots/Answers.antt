use Rattle.std.proofs.Common.{◌^◌, rules, tests, arith}
use Rattle.std.proofs.lemmas.Iterator.{YieldsList-from_slice}
use Rattle.std.proofs.lemmas.Iterator.Adapters.{fits_from_length, at_most_from_yields_List}
use Rattle.ledger.proofs.records.Record.frozen_lots.Goals as goal

pub sum-requires-clause-fits : goal.sum-requires-clause-fits
sum-requires-clause-fits c =
    let places = c.args.self.now.requests.whole in
    fits_from_length _ _ 256 (2 ^ 64) (at_most_from_yields_List (YieldsList-from_slice c.args.self.now.requests.places cc) (omega (arith, places))) c.map.ensures.closure (omega arith) (λ x r q k. search (rules, tests))
