-- Lists of lists, and a list cut into pieces.
use Rattle.std.specs.Prelude.{◌≡◌, ℕ, ◌≤◌, List, [], ◌∷◌, ◌++◌, take, drop, replicate}

-- lists, and the room left for more items and lists
pub record RoomyLists (X : Type 0) : Type 0 where
  pub lists : List (List X)
  pub spare_items : ℕ
  pub spare_lists : ℕ

-- where lists end that are stored one after another, the number of items of all, and the room left for more lists
pub record RoomyEnds : Type 0 where
  pub ends : List ℕ
  pub total : ℕ
  pub spare : ℕ

-- a list with its last item changed by f
abbrev pub on_last : {X : Type 0} → (X → X) → List X → List X
on_last f [] = []
on_last f (x ∷ []) = f x ∷ []
on_last f (x ∷ y ∷ rest) = x ∷ on_last f (y ∷ rest)

-- the pieces of a list: the first begins at `from`, each stops before its end, and the next begins there
abbrev pub pieces : {X : Type 0} → ℕ → List ℕ → List X → List (List X)
pieces from [] xs = []
pieces from (e ∷ ends) xs = drop from (take e xs) ∷ pieces e ends xs

-- the ends start at or above `from` and never fall, and the last is n (without ends, `from` is n)
abbrev pub Rises : ℕ → List ℕ → ℕ → Type 0
Rises from [] n = from ≡ n
Rises from (e ∷ ends) n = (from ≤ e) × Rises e ends n

-- where lists end, by where they start: each but the last ends where the next one starts, and the last after `total` items
abbrev pub ends_of : List ℕ → ℕ → List ℕ
ends_of [] total = []
ends_of (start ∷ starts) total = starts ++ total ∷ []

-- where lists start: first those that are stored, and then those pending, which are empty and start after `total` items
abbrev pub starts_of : List ℕ → ℕ → ℕ → List ℕ
starts_of stored pending total = stored ++ replicate pending total
