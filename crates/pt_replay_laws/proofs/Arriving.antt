-- Arrivals never fall.
use Rattle.std.proofs.Common.{◌≡◌, ℕ, ◌<◌, ◌≤◌, List, [], ◌∷◌, ◌++◌, subst, drop, get_or, arith}
use Rattle.pt_semantics.specs.Lists.{Each}
use Rattle.pt_tags.specs.declared.message.Message.{Message}
use Rattle.pt_types.specs.declared.air.InAir.{InAir}
use Rattle.pt_semantics.specs.Arrivals.{NeverFall}

pub NeverFall-push : (least : ℕ) (ms : List InAir) (latest next : ℕ) (message : Message) → NeverFall least ms latest → latest ≤ next
    → NeverFall least (ms ++ record { arrives = next; message = message } ∷ []) next
NeverFall-push least [] latest next message h later = (omega arith, omega arith)
NeverFall-push least (m ∷ ms) latest next message h later = (h.0, NeverFall-push m.arrives ms latest next message h.1 later)

from_less : (less least : ℕ) (ms : List InAir) (latest : ℕ) → less ≤ least → NeverFall least ms latest → NeverFall less ms latest
from_less less least [] latest below h = omega arith
from_less less least (m ∷ ms) latest below h = (omega (arith, h.0), h.1)

pub NeverFall-rest : (ms : List InAir) (latest : ℕ) → NeverFall 0 ms latest → NeverFall 0 (drop 1 ms) latest
NeverFall-rest [] latest h = h
NeverFall-rest (m ∷ ms) latest h = from_less 0 m.arrives ms latest (omega arith) h.1

above : (now least : ℕ) (ms : List InAir) (latest : ℕ) → now < least → NeverFall least ms latest → Each (λ m. now < m.arrives) ms
above now least [] latest past h = tt
above now least (m ∷ ms) latest past h =
    let later : now < m.arrives = omega (arith, h.0) in
    (later, above now m.arrives ms latest later h.1)

-- if the first message has not arrived, none has
pub all_later : (now : ℕ) (ms : List InAir) (latest : ℕ) (first : InAir) → NeverFall 0 ms latest → first ≡ get_or ms 0 first → now < first.arrives → Each (λ m. now < m.arrives) ms
all_later now [] latest first h is past = tt
all_later now (m ∷ ms) latest first h is past =
    let later : now < m.arrives = subst (λ (x : InAir). now < x.arrives) is past in
    (later, above now m.arrives ms latest later h.1)
