-- Conditions under which nothing was found.
use Rattle.std.proofs.Common.{◌≡◌, Bool, true, false, cond, refl, Option, Some, None}

-- nothing is found behind a condition only where it fails and the rest finds nothing
pub none_if : {A : Type 0} (b : Bool) (x : A) (o : Option A) → cond b (Some x) o ≡ None → (b ≡ false) × (o ≡ None)
none_if true x o h = absurd cc
none_if false x o h = (refl, h)

pub none_unless : {A : Type 0} (b : Bool) (x : A) → cond b None (Some x) ≡ None → b ≡ true
none_unless true x h = refl
none_unless false x h = absurd cc
