-- How the making of a rule is turned down. Assumes nothing.
use Rattle.std.specs.Prelude.{◌≡◌}
use Rattle.refusals.specs.Told.{told}
use Rattle.refusals.specs.declared.Layer.TheVariants.{Book}
use Rattle.refusals.specs.declared.Refusal.TheVariants.{OutOfLimits}
use Rattle.margin.specs.declared.unmade.Unmade.{Unmade}

-- a number outside its limits: the case, how it is told, and what was handed in
pub record Returned {T : Type 0} (given : T) (unmade : Unmade T) : Type 0 where
  pub refused : unmade.refusal ≡ OutOfLimits 1
  pub told_as : told unmade.refusal ≡ record { number = 3; layer = Book; place = 1 }
  pub back : unmade.given ≡ given
