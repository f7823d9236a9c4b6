-- On which side the parties of an option enter its future. Assumes nothing.
use Rattle.margin.specs.declared.rule.Right.{Right}
use Rattle.margin.specs.declared.rule.Right.TheVariants.{Call, Put}
use Rattle.kinds.specs.declared.side.Party.{Party}
use Rattle.kinds.specs.declared.side.Party.TheVariants.{Buyer, Seller}
use Rattle.kinds.specs.declared.side.Side.{Side}
use Rattle.kinds.specs.declared.side.Side.TheVariants.{Long, Short}

-- a call's buyer and a put's seller get the long side, a call's seller and a put's buyer the short one
abbrev pub side_entered : Right → Party → Side
side_entered Call Buyer = Long
side_entered Call Seller = Short
side_entered Put Buyer = Short
side_entered Put Seller = Long
