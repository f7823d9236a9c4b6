-- What a teller has counted. Assumes nothing.
use Rattle.rogbeku.specs.Tally.{Count}
use Rattle.rogbeku.specs.declared.teller.Teller.{Teller}

abbrev pub count_of : {W : Type 0} → Teller W → Count
count_of t = record { done = t.done; refused = t.refused }
