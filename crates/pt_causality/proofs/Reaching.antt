-- The units that arcs reach, one after another.
use Rattle.std.proofs.Common.{◌≡◌, ℕ, ◌+◌, ◌<◌, List, [], ◌∷◌, ◌++◌, Bool, true, false, cond, filter, map, take, length, append-nil, slice_index_or, sym, ap, subst, ◌∙◌, append_assoc}
use Rattle.std.specs.List.Sorted.{IsPermutation}
use Rattle.std.proofs.lemmas.List.{map-append, take_more}
use Rattle.std.proofs.lemmas.List.Elements.{filter-append}
use Rattle.std.proofs.lemmas.List.Sorted.{IsPermutation-trans, IsPermutation-cons, IsPermutation-middle}

-- of the first i + 1 of a list: the last passes the test, or does not
pass_last : {X : Type 0} (p : X → Bool) (xs : List X) (i : ℕ) (d : X) → i < length xs → p (slice_index_or xs i d) ≡ true → filter p (take (i + 1) xs) ≡ filter p (take i xs) ++ slice_index_or xs i d ∷ []
pass_last p xs i d less passes =
    ap (filter p) (take_more xs i d less) ∙ filter-append p (take i xs) (slice_index_or xs i d ∷ []) ∙ ap (λ b. filter p (take i xs) ++ cond b (slice_index_or xs i d ∷ []) []) passes

pass_no_last : {X : Type 0} (p : X → Bool) (xs : List X) (i : ℕ) (d : X) → i < length xs → p (slice_index_or xs i d) ≡ false → filter p (take (i + 1) xs) ≡ filter p (take i xs)
pass_no_last p xs i d less fails =
    ap (filter p) (take_more xs i d less) ∙ filter-append p (take i xs) (slice_index_or xs i d ∷ []) ∙ ap (λ b. filter p (take i xs) ++ cond b (slice_index_or xs i d ∷ []) []) fails ∙ append-nil (filter p (take i xs))

-- one more goes onto a queue that holds what f gave of those of the first i that pass, and others
pub one_more : {X Y : Type 0} (f : X → Y) (p : X → Bool) (xs : List X) (i : ℕ) (d : X) (others held next : List Y) → i < length xs → p (slice_index_or xs i d) ≡ true → IsPermutation (map f (filter p (take i xs)) ++ others) held → IsPermutation (f (slice_index_or xs i d) ∷ held) next → IsPermutation (map f (filter p (take (i + 1) xs)) ++ others) next
one_more f p xs i d others held next less passes before pushed =
    let x = slice_index_or xs i d in
    let some = filter p (take i xs) in
    let split : map f (filter p (take (i + 1) xs)) ++ others ≡ map f some ++ f x ∷ others =
    ap (λ z. map f z ++ others) (pass_last p xs i d less passes) ∙ ap (λ z. z ++ others) (map-append f some (x ∷ [])) ∙ append_assoc (map f some) (f x ∷ []) others in
    subst (λ z. IsPermutation z next) (sym split)
    (IsPermutation-trans (map f some ++ f x ∷ others) (f x ∷ held) next
    (IsPermutation-trans (map f some ++ f x ∷ others) (f x ∷ (map f some ++ others)) (f x ∷ held)
    (IsPermutation-middle (map f some) (f x) others)
    (IsPermutation-cons (f x) (map f some ++ others) held before))
    pushed)

pub no_more : {X Y : Type 0} (f : X → Y) (p : X → Bool) (xs : List X) (i : ℕ) (d : X) (others held : List Y) → i < length xs → p (slice_index_or xs i d) ≡ false → IsPermutation (map f (filter p (take i xs)) ++ others) held → IsPermutation (map f (filter p (take (i + 1) xs)) ++ others) held
no_more f p xs i d others held less fails before = subst (λ z. IsPermutation (map f z ++ others) held) (sym (pass_no_last p xs i d less fails)) before
