-- A list taken apart at an index.
use Rattle.std.proofs.Common.{◌≡◌, ℕ, ◌+◌, ◌<◌, List, [], ◌∷◌, ◌++◌, get_or, length, take, drop, sym, ap, ◌∙◌, append_assoc}
use Rattle.std.proofs.lemmas.List.{take-append-drop, take_more}

pub parted : {X : Type 0} (xs : List X) (k : ℕ) (d : X) → k < length xs → xs ≡ take k xs ++ get_or xs k d ∷ drop (k + 1) xs
parted xs k d lt =
    sym (take-append-drop (k + 1) xs)
    ∙ ap (λ ys. ys ++ drop (k + 1) xs) (take_more xs k d lt)
    ∙ append_assoc (take k xs) (get_or xs k d ∷ []) (drop (k + 1) xs)
