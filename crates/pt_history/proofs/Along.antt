-- What a function gives along a list, one member more.
use Rattle.std.proofs.Common.{◌≡◌, ℕ, zero, suc, ◌+◌, List, [], ◌∷◌, ◌++◌, Option, Some, None, take, refl, sym, ap, ◌∙◌, arith}
use Rattle.std.specs.Prelude.{flat_map, option_map, slice_get}
use Rattle.std.proofs.lemmas.List.{append_assoc, append-nil}
use Rattle.pt_semantics.proofs.Lookups.{none_some, same_some}

flat_map_more : {X Y : Type 0} (f : X → List Y) (xs : List X) (n : ℕ) (x : X) → slice_get xs n ≡ Some x → flat_map f (take (suc n) xs) ≡ flat_map f (take n xs) ++ f x
flat_map_more f [] n x at = absurd (none_some x at)
flat_map_more f (y ∷ xs) zero x at = append-nil (f y) ∙ ap f (same_some y x at)
flat_map_more f (y ∷ xs) (suc n) x at = ap (λ l. f y ++ l) (flat_map_more f xs n x at) ∙ sym (append_assoc (f y) (flat_map f (take n xs)) (f x))

grown : {X Y : Type 0} (f : X → List Y) (xs : List X) (n : ℕ) (start old new : List Y) (o : Option X) → slice_get xs n ≡ o → old ≡ start ++ flat_map f (take n xs)
    → option_map (λ (x : X). old ++ f x) o ≡ Some new → new ≡ start ++ flat_map f (take (suc n) xs)
grown f xs n start old new None at was is = absurd (none_some new is)
grown f xs n start old new (Some x) at was is =
    sym (same_some (old ++ f x) new is) ∙ ap (λ l. l ++ f x) was ∙ append_assoc start (flat_map f (take n xs)) (f x)
    ∙ ap (λ l. start ++ l) (sym (flat_map_more f xs n x at))

-- what was appended for the members before a place, and then for the one there
pub grows : {X Y : Type 0} (f : X → List Y) (xs : List X) (n : ℕ) (start old new : List Y) → old ≡ start ++ flat_map f (take n xs)
    → option_map (λ (x : X). old ++ f x) (slice_get xs n) ≡ Some new → new ≡ start ++ flat_map f (take (n + 1) xs)
grows f xs n start old new was is =
    let next : suc n ≡ n + 1 = omega arith in
    grown f xs n start old new (slice_get xs n) refl was is ∙ ap (λ k. start ++ flat_map f (take k xs)) next
