-- One step of the search for an input that is not fed.
use Rattle.std.proofs.Common.{◌≡◌, ℕ, suc, ◌+◌, ◌-◌, ◌<◌, Bool, true, refl, arith}
use Rattle.pt_types.specs.Ends.{unfed_from}

fed_once_more : (fed : ℕ → Bool) (port left : ℕ) → fed port ≡ true → unfed_from fed port (suc left) ≡ unfed_from fed (port + 1) left
fed_once_more fed port left here = rw here refl

pub fed_step : (fed : ℕ → Bool) (port inputs : ℕ) → port < inputs → fed port ≡ true
    → unfed_from fed port (inputs - port) ≡ unfed_from fed (port + 1) (inputs - (port + 1))
fed_step fed port inputs less here =
    let one : inputs - port ≡ suc (inputs - (port + 1)) = omega arith in
    rw one (fed_once_more fed port _ here)
