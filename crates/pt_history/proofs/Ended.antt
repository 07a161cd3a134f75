-- Lists of flat items by their ends: one list more, more items, and the items of a list.
use Rattle.std.proofs.Common.{◌≡◌, ℕ, zero, suc, ◌+◌, ◌-◌, ◌<◌, ◌≤◌, Some, Option, List, [], ◌∷◌, ◌++◌, refl, sym, ap, ap₂, subst, ◌∙◌, arith, length, get_or, set, take, drop}
use Rattle.std.specs.Prelude.{slice_get}
use Rattle.std.proofs.lemmas.List.{length-take, length-drop}
use Rattle.std.proofs.lemmas.Option.{get_or_from_slice_get}
use Rattle.pt_history.specs.Lists.{Rises, RoomyEnds, on_last, pieces}
use Rattle.pt_history.specs.WorkLists.{AreListEnds}
use Rattle.pt_history.proofs.Cutting.{IsWithin, length-pieces, piece_within, pieces_begin, pieces_extend, pieces_get, rises_begin, rises_extend}

-- an empty list is begun
pub ends_begin : (old new : RoomyEnds) (n spare : ℕ) → AreListEnds old n spare → new.ends ≡ old.ends ++ old.total ∷ [] → new.total ≡ old.total → AreListEnds new n spare
ends_begin old new n spare are is total = record {
  rises = subst (λ es. Rises 0 es n) (sym (is ∙ ap (λ k. old.ends ++ k ∷ []) are.total)) (rises_begin 0 old.ends n are.rises);
  total = total ∙ are.total;
  fits = are.fits;
}

pub lists_begin : {X : Type 0} (old new : RoomyEnds) (items : List X) (spare : ℕ) → AreListEnds old (length items) spare → new.ends ≡ old.ends ++ old.total ∷ [] → pieces 0 new.ends items ≡ pieces 0 old.ends items ++ [] ∷ []
lists_begin old new items spare are is = ap (λ es. pieces 0 es items) (is ∙ ap (λ k. old.ends ++ k ∷ []) are.total) ∙ pieces_begin 0 old.ends items are.rises

-- the last list grows
pub ends_grow : (old new : RoomyEnds) (n more m spare left : ℕ) → AreListEnds old n spare → 0 < length old.ends → new.ends ≡ set old.ends (length old.ends - 1) (old.total + more) → new.total ≡ old.total + more
    → m ≡ n + more → left + more ≡ spare → AreListEnds new m left
ends_grow old new n more m spare left are some is total many room =
    let last : (length old.ends - 1) + 1 ≡ length old.ends = omega (arith, some) in
    let sum : old.total + more ≡ n + more = ap (λ k. k + more) are.total in
    record {
      rises = subst (λ k. Rises 0 new.ends k) (sym many) (subst (λ es. Rises 0 es (n + more)) (sym (is ∙ ap (set old.ends (length old.ends - 1)) sum)) (rises_extend 0 old.ends n more (length old.ends - 1) last are.rises));
      total = total ∙ sum ∙ sym many;
      fits = omega (arith, many, room, are.fits);
    }

pub lists_grow : {X : Type 0} (old new : RoomyEnds) (items more all : List X) (spare : ℕ) → AreListEnds old (length items) spare → 0 < length old.ends → new.ends ≡ set old.ends (length old.ends - 1) (old.total + length more)
    → all ≡ items ++ more → pieces 0 new.ends all ≡ on_last (λ (l : List X). l ++ more) (pieces 0 old.ends items)
lists_grow old new items more all spare are some is appended =
    let last : (length old.ends - 1) + 1 ≡ length old.ends = omega (arith, some) in
    ap₂ (λ es xs. pieces 0 es xs) (is ∙ ap (λ k. set old.ends (length old.ends - 1) (k + length more)) are.total) appended
    ∙ pieces_extend 0 old.ends items more (length old.ends - 1) last are.rises

-- the items of a list
pub record IsCut {X : Type 0} (ends : List ℕ) (items : List X) (list start end : ℕ) : Type 0 where
  pub rises : start ≤ end
  pub within : end ≤ length items
  pub is : slice_get (pieces 0 ends items) list ≡ Some (take (end - start) (drop start items))

pub cut_at : {X : Type 0} (ends : RoomyEnds) (items : List X) (spare list start end : ℕ) → AreListEnds ends (length items) spare → list < length (pieces 0 ends.ends items) → start ≡ get_or (0 ∷ ends.ends) list 0 → end ≡ get_or ends.ends list 0 → IsCut ends.ends items list start end
cut_at ends items spare list start end are lt starts stops =
    let inside : list < length ends.ends = omega (arith, lt, length-pieces 0 ends.ends items) in
    let w : IsWithin 0 ends.ends list (length items) = piece_within 0 ends.ends list (length items) inside are.rises in
    record {
      rises = omega (arith, starts, stops, w.rises);
      within = omega (arith, stops, w.within);
      is = pieces_get 0 ends.ends items list inside are.rises ∙ ap₂ (λ s e. Some (take (e - s) (drop s items))) (sym starts) (sym stops);
    }

pub cut_length : {X : Type 0} (ends : List ℕ) (items : List X) (list start end : ℕ) → IsCut ends items list start end → end - start ≡ length (get_or (pieces 0 ends items) list [])
cut_length ends items list start end cut =
    sym (ap length (get_or_from_slice_get (pieces 0 ends items) list (take (end - start) (drop start items)) [] cut.is) ∙ many items start end cut.rises cut.within)
  where
    many : {X : Type 0} (items : List X) (start end : ℕ) → start ≤ end → end ≤ length items → length (take (end - start) (drop start items)) ≡ end - start
    many items start end rises within = simp (length-take, length-drop) (omega (arith, rises, within))

nothing_in : {X : Type 0} (k i : ℕ) → ◌≡◌ {A = Option X} (slice_get (take k []) i) (slice_get [] i)
nothing_in zero i = refl
nothing_in (suc k) i = refl

first_of : {X : Type 0} (xs : List X) (k i : ℕ) → i < k → slice_get (take k xs) i ≡ slice_get xs i
first_of xs zero i lt = absurd (omega arith)
first_of [] (suc k) i lt = refl
first_of (x ∷ xs) (suc k) zero lt = refl
first_of (x ∷ xs) (suc k) (suc i) lt = first_of xs k i (omega arith)

window : {X : Type 0} (xs : List X) (s k i n : ℕ) → n ≡ s + i → i < k → slice_get (take k (drop s xs)) i ≡ slice_get xs n
window xs zero k i n is lt = let same : i ≡ n = omega (arith, is) in first_of xs k i lt ∙ ap (slice_get xs) same
window [] (suc s) k i n is lt = nothing_in k i
window (x ∷ xs) (suc s) k i zero is lt = absurd (omega (arith, is))
window (x ∷ xs) (suc s) k i (suc n) is lt = window xs s k i n (omega (arith, is)) lt

-- the length of a list, and an item of it
pub cut_within : {X : Type 0} (ends : List ℕ) (items : List X) (list start end number : ℕ) → IsCut ends items list start end → number < length (get_or (pieces 0 ends items) list []) → start + number < end
cut_within ends items list start end number cut lt =
    let is : get_or (pieces 0 ends items) list [] ≡ take (end - start) (drop start items) = get_or_from_slice_get (pieces 0 ends items) list (take (end - start) (drop start items)) [] cut.is in
    let many : length (take (end - start) (drop start items)) ≤ end - start = simp (length-take, length-drop) (omega (arith, cut.rises, cut.within)) in
    let low : number < length (take (end - start) (drop start items)) = subst (λ l. number < length l) is lt in
    omega (arith, low, many)

pub cut_item : {X : Type 0} (ends : List ℕ) (items : List X) (list start end number : ℕ) → IsCut ends items list start end → number < length (get_or (pieces 0 ends items) list [])
    → slice_get (get_or (pieces 0 ends items) list []) number ≡ slice_get items (start + number)
cut_item ends items list start end number cut lt =
    let is : get_or (pieces 0 ends items) list [] ≡ take (end - start) (drop start items) = get_or_from_slice_get (pieces 0 ends items) list (take (end - start) (drop start items)) [] cut.is in
    let low : start + number < end = cut_within ends items list start end number cut lt in
    ap (λ l. slice_get l number) is ∙ window items start (end - start) number (start + number) refl (omega (arith, low))

pub cut_get : {X : Type 0} (ends : List ℕ) (items : List X) (list start end number : ℕ) (x : X) → IsCut ends items list start end → number < length (get_or (pieces 0 ends items) list []) → slice_get items (start + number) ≡ Some x
    → slice_get (get_or (pieces 0 ends items) list []) number ≡ Some x
cut_get ends items list start end number x cut lt at = cut_item ends items list start end number cut lt ∙ at
