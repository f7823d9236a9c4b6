-- The number, the layer and the place of every refusal. Assumes nothing.
use Rattle.std.specs.Prelude.{ℕ}
use Rattle.refusals.specs.declared.Layer.{Layer}
use Rattle.refusals.specs.declared.Layer.TheVariants.{Day, Book, Holding, Funds}
use Rattle.refusals.specs.declared.Refusal.{Refusal}
use Rattle.refusals.specs.declared.Refusal.TheVariants.{WrongSlip, NoSuch, OutOfLimits, Occupied, WrongDay, BeyondHolding, ShortOfFunds, BeyondRange, OutOfTurn, NotLive}

-- what a refusal is told by
pub record Telling : Type 0 where
  pub number : ℕ
  pub layer : Layer
  pub place : ℕ

-- how each refusal is told
abbrev pub told : Refusal → Telling
told (WrongSlip place) = record { number = 1; layer = Day; place = place }
told (NoSuch place) = record { number = 2; layer = Book; place = place }
told (OutOfLimits place) = record { number = 3; layer = Book; place = place }
told (Occupied place) = record { number = 4; layer = Book; place = place }
told (WrongDay place) = record { number = 5; layer = Day; place = place }
told (BeyondHolding place) = record { number = 6; layer = Holding; place = place }
told (ShortOfFunds place) = record { number = 7; layer = Funds; place = place }
told (BeyondRange place) = record { number = 8; layer = Funds; place = place }
told (OutOfTurn place) = record { number = 9; layer = Day; place = place }
told (NotLive place) = record { number = 10; layer = Book; place = place }
