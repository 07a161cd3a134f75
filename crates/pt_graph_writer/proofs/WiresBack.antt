-- The wires of a graph that are written are those of its file.
use Rattle.std.proofs.Common.{◌≡◌, ℕ, suc, ◌+◌, ◌<◌, ◌≤◌, Bool, true, false, ◌&&◌, List, [], ◌∷◌, ◌++◌, length, nat_lt, Some, refl, ap, sym, ◌∙◌, arith, slice_get, append-nil}
use Rattle.std.specs.List.{list_all, filter}
use Rattle.std.proofs.lemmas.Bool.{and_parts}
use Rattle.std.proofs.lemmas.List.Elements.{filter-append}
use Rattle.pt_types.specs.declared.graph.Actor.{Actor}
use Rattle.pt_types.specs.declared.graph.Wire.{Wire}
use Rattle.pt_types.specs.Kinds.{visible_outputs}
use Rattle.pt_types.specs.Groups.{held, actor_at}
use Rattle.pt_types.specs.Ends.{ends_fit, hidden_wires}
use Rattle.pt_types.proofs.HiddenWires.{IsHidden, hidden_at}

filter_all : {A : Type 0} (test : A → Bool) (xs : List A) → list_all test xs ≡ true → filter test xs ≡ xs
filter_all test [] h = refl
filter_all test (x ∷ xs) h =
    let both = and_parts (test x) (list_all test xs) h in
    rw (both.0, filter_all test xs both.1) refl

filter_none : {A : Type 0} (test : A → Bool) (xs : List A) → ((i : ℕ) (x : A) → slice_get xs i ≡ Some x → test x ≡ false) → filter test xs ≡ []
filter_none test [] h = refl
filter_none test (x ∷ xs) h = rw (h 0 x refl, filter_none test xs (λ i y e. h (suc i) y e)) refl

not_both : (a b : Bool) → a ≡ false → (a && b) ≡ false
not_both true b h = absurd cc
not_both false b h = refl

-- each actor has so many visible outputs as its kind
abbrev pub HasOutputs : List Actor → Type 0
HasOutputs actors = (i : ℕ) → i < length actors → (actor_at actors i).outputs ≡ held (visible_outputs (actor_at actors i).kind)

hidden_apart : (actors : List Actor) (w : Wire) → length actors ≤ 1024 → HasOutputs actors → IsHidden 0 actors w → ends_fit actors w ≡ false
hidden_apart actors w few outputs h =
    let less = h.below in
    let number : held (0 + h.index) ≡ h.index = omega arith in
    let from : w.from ≡ h.index = ap (λ (x : Wire). x.from) (sym h.is) ∙ number in
    let output : w.output ≡ 1 = ap (λ (x : Wire). x.output) (sym h.is) in
    let one : (actor_at actors h.index).outputs ≡ 1 = outputs h.index less ∙ ap (λ k. held (visible_outputs k)) h.kind in
    not_both (nat_lt w.output (actor_at actors w.from).outputs) (nat_lt w.input (actor_at actors w.to).inputs) (rw (from, output, one) refl)

pub visible_only : (actors : List Actor) (wires : List Wire) → length actors ≤ 1024 → HasOutputs actors → list_all (ends_fit actors) wires ≡ true → filter (ends_fit actors) (wires ++ hidden_wires 0 actors) ≡ wires
visible_only actors wires few outputs fit =
    filter-append (ends_fit actors) wires (hidden_wires 0 actors)
    ∙ (ap (λ xs. xs ++ filter (ends_fit actors) (hidden_wires 0 actors)) (filter_all (ends_fit actors) wires fit)
    ∙ (ap (λ xs. wires ++ xs) (filter_none (ends_fit actors) (hidden_wires 0 actors) (λ i w e. hidden_apart actors w few outputs (hidden_at 0 actors i w e))) ∙ append-nil wires))
