-- The hidden wires of a graph, of which each actor that begins by itself has one.
use Rattle.std.proofs.Common.{◌≡◌, ℕ, zero, suc, ◌+◌, ◌<◌, ◌≤◌, List, [], ◌∷◌, length, slice_get, Some, refl, ap, ◌∙◌, arith, ◌⊎◌, inl, inr, ⊎_elim}
use Rattle.pt_types.specs.declared.graph.Actor.{Actor}
use Rattle.pt_types.specs.declared.graph.Wire.{Wire}
use Rattle.pt_types.specs.declared.kind.Kind.{Kind}
use Rattle.pt_types.specs.declared.kind.Kind.TheVariants.{Every}
use Rattle.pt_types.specs.Groups.{held, actor_at}
use Rattle.pt_types.specs.Ends.{hidden_wire, then_wires, hidden_wires}
use Rattle.pt_types.proofs.Distinct.{Once, once_cons, some_is}

-- the hidden wire of the actor of that number
abbrev pub own_wire : ℕ → Wire
own_wire a = record { from = held a; output = 1; to = held a; input = 0 }

-- a wire is the hidden one of one of these actors, of which the first has that number
pub record IsHidden (first : ℕ) (actors : List Actor) (w : Wire) : Type 0 where
  pub index : ℕ
  pub start : ℕ
  pub period : ℕ
  pub below : index < length actors
  pub kind : (actor_at actors index).kind ≡ Every start period
  pub is : own_wire (first + index) ≡ w

first_or_later : (a : ℕ) (k : Kind) (ws : List Wire) (i : ℕ) (w : Wire) → slice_get (then_wires (hidden_wire a k) ws) i ≡ Some w → ((start : ℕ) × (period : ℕ) × (k ≡ Every start period) × (own_wire a ≡ w)) ⊎ ((j : ℕ) × (slice_get ws j ≡ Some w))
first_or_later a (Every start period) ws zero w h = inl (start, period, refl, some_is (own_wire a) w h)
first_or_later a (Every start period) ws (suc i) w h = inr (i, h)
first_or_later a _ ws i w h = inr (i, h)

later : (first : ℕ) (a : Actor) (actors : List Actor) (w : Wire) → IsHidden (first + 1) actors w → IsHidden first (a ∷ actors) w
later first a actors w h =
    let number : first + suc h.index ≡ (first + 1) + h.index = omega arith in
    let less = h.below in
    record { index = suc h.index; start = h.start; period = h.period; below = omega arith; kind = h.kind; is = ap own_wire number ∙ h.is }

pub hidden_at : (first : ℕ) (actors : List Actor) (i : ℕ) (w : Wire) → slice_get (hidden_wires first actors) i ≡ Some w → IsHidden first actors w
hidden_at first [] i w h = absurd cc
hidden_at first (a ∷ actors) i w h = ⊎_elim
    (λ (e : (start : ℕ) × (period : ℕ) × (a.kind ≡ Every start period) × (own_wire first ≡ w)).
    let number : first + 0 ≡ first = omega arith in
    record { index = 0; start = e.0; period = e.1; below = omega arith; kind = e.2; is = ap own_wire number ∙ e.3 })
    (λ (e : (j : ℕ) × (slice_get (hidden_wires (first + 1) actors) j ≡ Some w)). later first a actors w (hidden_at (first + 1) actors e.0 w e.1))
    (first_or_later first a.kind (hidden_wires (first + 1) actors) i w h)

first_once : (a : ℕ) (k : Kind) (ws : List Wire) → Once (λ (w : Wire). w.to) (λ (w : Wire). w.input) ws → ((j : ℕ) (v : Wire) → slice_get ws j ≡ Some v → held a ≡ v.to → ⊥) → Once (λ (w : Wire). w.to) (λ (w : Wire). w.input) (then_wires (hidden_wire a k) ws)
first_once a (Every start period) ws once apart = once_cons (λ (w : Wire). w.to) (λ (w : Wire). w.input) (own_wire a) ws once (λ j v p e d. apart j v p e)
first_once a _ ws once apart = once

none_there : (i : ℕ) (w : Wire) → slice_get {X = Wire} [] i ≡ Some w → ⊥
none_there i w h = absurd cc

pub hidden_once : (first : ℕ) (actors : List Actor) → first + length actors ≤ 1024 → Once (λ (w : Wire). w.to) (λ (w : Wire). w.input) (hidden_wires first actors)
hidden_once first [] few = λ i j x y p q e d. absurd (none_there i x p)
hidden_once first (a ∷ actors) few = first_once first a.kind (hidden_wires (first + 1) actors) (hidden_once (first + 1) actors (omega arith))
    (λ (j : ℕ) (v : Wire) (p : slice_get (hidden_wires (first + 1) actors) j ≡ Some v) (e : held first ≡ v.to).
    let h = hidden_at (first + 1) actors j v p in
    let same : held ((first + 1) + h.index) ≡ v.to = ap (λ (w : Wire). w.to) h.is in
    let less = h.below in
    omega arith)
