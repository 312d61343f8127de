-- Which calls of a site in memory fail.
use Rattle.std.specs.Prelude.{◌≡◌, ◌⊎◌, ◌<◌, ℕ, Bool, IsTrue, Contains}
use Rattle.ml_base.specs.Faults.{next_call}
use Rattle.ml_base.specs.declared.fault_plan.FaultPlan.{FaultPlan}

-- A call was counted. It fails exactly if its number is named or above the last one's, if the record of calls is full, or if
-- there is no room elsewhere.
pub record FailsAsPlanned (before now : FaultPlan) (last : ℕ) (full short result : Bool) : Type 0 where
  pub counted : now.made ≡ next_call before.made
  pub failing : now.failing ≡ before.failing
  pub cause : IsTrue result → Contains before.failing now.made ⊎ ((last < now.made) ⊎ (IsTrue full ⊎ IsTrue short))
  pub named : Contains before.failing now.made ⊎ ((last < now.made) ⊎ (IsTrue full ⊎ IsTrue short)) → IsTrue result
