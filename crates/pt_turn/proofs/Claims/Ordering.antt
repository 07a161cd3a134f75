-- The order of tag, actor and group, and a unit put at its place.
use Rattle.std.proofs.Common.{◌≡◌, ℕ, zero, suc, ◌+◌, ◌<◌, ◌≤◌, ◌==◌, ◌⊎◌, false, List, [], ◌∷◌, ◌++◌, length, get_or, take, drop, refl, sym, ap, subst, ◌∙◌, inl, inr, ⊎_elim, arith}
use Rattle.std.specs.List.{insert}
use Rattle.std.proofs.lemmas.List.{drop_all, get_or_default, drop_more, take_all}
use Rattle.std.proofs.lemmas.List.Edits.{length-insert}
use Rattle.pt_semantics.specs.Lists.{Each, IsIn}
use Rattle.pt_semantics.proofs.Lookups.{Each-append, Each-in, IsIn-append_right}
use Rattle.pt_queue.specs.declared.waiting.Waiting.{Waiting}
use Rattle.pt_turn.specs.Claims.Fronts.{IsAhead, IsInOrder, IsInserted}

pub ahead_trans : (c d e : Waiting) → IsAhead c d → IsAhead d e → IsAhead c e
ahead_trans c d e h k = plain c.tag.time c.tag.step c.unit.actor c.unit.group d.tag.time d.tag.step d.unit.actor d.unit.group e.tag.time e.tag.step e.unit.actor e.unit.group h k
  where
    plain : (a1 a2 a3 a4 b1 b2 b3 b4 c1 c2 c3 c4 : ℕ) → (a1 ≤ b1) × (b1 ≤ a1 → (a2 ≤ b2) × (b2 ≤ a2 → (a3 ≤ b3) × (b3 ≤ a3 → a4 < b4))) → (b1 ≤ c1) × (c1 ≤ b1 → (b2 ≤ c2) × (c2 ≤ b2 → (b3 ≤ c3) × (c3 ≤ b3 → b4 < c4))) → (a1 ≤ c1) × (c1 ≤ a1 → (a2 ≤ c2) × (c2 ≤ a2 → (a3 ≤ c3) × (c3 ≤ a3 → a4 < c4)))
    plain a1 a2 a3 a4 b1 b2 b3 b4 c1 c2 c3 c4 h k = grind arith

-- what doesn't come after a unit comes before all that does
pub ahead_past : (cut c x : Waiting) → (IsAhead cut c → ⊥) → IsAhead cut x → IsAhead c x
ahead_past cut c x n h = plain cut.tag.time cut.tag.step cut.unit.actor cut.unit.group c.tag.time c.tag.step c.unit.actor c.unit.group x.tag.time x.tag.step x.unit.actor x.unit.group n h
  where
    plain : (a1 a2 a3 a4 b1 b2 b3 b4 c1 c2 c3 c4 : ℕ) → ((a1 ≤ b1) × (b1 ≤ a1 → (a2 ≤ b2) × (b2 ≤ a2 → (a3 ≤ b3) × (b3 ≤ a3 → a4 < b4))) → ⊥) → (a1 ≤ c1) × (c1 ≤ a1 → (a2 ≤ c2) × (c2 ≤ a2 → (a3 ≤ c3) × (c3 ≤ a3 → a4 < c4))) → (b1 ≤ c1) × (c1 ≤ b1 → (b2 ≤ c2) × (c2 ≤ b2 → (b3 ≤ c3) × (c3 ≤ b3 → b4 < c4)))
    plain a1 a2 a3 a4 b1 b2 b3 b4 c1 c2 c3 c4 n h = grind arith

-- one number and then what comes after it
level : (m n : ℕ) (R S : Type 0) → (m ≡ n → R ⊎ S) → ((m ≤ n) × (n ≤ m → R)) ⊎ ((n ≤ m) × (m ≤ n → S))
level m n R S f = ⊎_elim
    (λ (l : m < n). inl (omega (arith, l), λ k. absurd (omega (arith, l, k))))
    (λ (h : (m ≡ n) ⊎ (n < m)). ⊎_elim
    (λ (e : m ≡ n). ⊎_elim (λ (r : R). inl (omega (arith, e), λ k. r)) (λ (s : S). inr (omega (arith, e), λ k. s)) (f e))
    (λ (l : n < m). inr (omega (arith, l), λ k. absurd (omega (arith, l, k))))
    h)
    (tri m n)
  where
    tri : (m n : ℕ) → (m < n) ⊎ ((m ≡ n) ⊎ (n < m))
    tri m n = grind arith

-- of two units one comes before the other
pub ahead_or : (c d : Waiting) → (c.unit ≡ d.unit → ⊥) → IsAhead c d ⊎ IsAhead d c
ahead_or c d ne = level c.tag.time d.tag.time _ _ (λ x. level c.tag.step d.tag.step _ _ (λ y. level c.unit.actor d.unit.actor _ _ (λ z. last c.unit.group d.unit.group (λ g. ne (λ i. record { actor = z i; group = g i })))))
  where
    last : (m n : ℕ) → (m ≡ n → ⊥) → (m < n) ⊎ (n < m)
    last m n h = grind arith

pub each_take : {X : Type 0} (P : X → Type 0) (n : ℕ) (xs : List X) → Each P xs → Each P (take n xs)
each_take P zero xs h = tt
each_take P (suc n) [] h = tt
each_take P (suc n) (x ∷ xs) h = (h.0, each_take P n xs h.1)

pub each_drop : {X : Type 0} (P : X → Type 0) (n : ℕ) (xs : List X) → Each P xs → Each P (drop n xs)
each_drop P zero xs h = h
each_drop P (suc n) [] h = tt
each_drop P (suc n) (x ∷ xs) h = each_drop P n xs h.1

pub each_map : {X : Type 0} (P Q : X → Type 0) (xs : List X) → ((x : X) → P x → Q x) → Each P xs → Each Q xs
each_map P Q [] f h = tt
each_map P Q (x ∷ xs) f h = (f x h.0, each_map P Q xs f h.1)

pub each_insert : {X : Type 0} (P : X → Type 0) (xs : List X) (n : ℕ) (x : X) → Each P xs → P x → Each P (insert xs n x)
each_insert P xs n x h k = Each-append P (take n xs) (x ∷ drop n xs) (each_take P n xs h) (k, each_drop P n xs h)

pub each_at : (P : Waiting → Type 0) (cs : List Waiting) (n : ℕ) (c : Waiting) → Each P cs → n < length cs → c ≡ get_or cs n c → P c
each_at P [] n c h l is = absurd (omega (arith, l))
each_at P (x ∷ cs) zero c h l is = subst P (sym is) h.0
each_at P (x ∷ cs) (suc n) c h l is = each_at P cs n c h.1 (omega (arith, l)) is

-- what comes before a unit that comes before c comes before c
pub all_ahead : (cs : List Waiting) (n : ℕ) (c last : Waiting) → IsInOrder cs → n < length cs → last ≡ get_or cs n last → IsAhead last c → Each (λ (d : Waiting). IsAhead d c) (take (suc n) cs)
all_ahead [] n c last h l is k = tt
all_ahead (x ∷ cs) zero c last h l is k = (subst (λ (z : Waiting). IsAhead z c) is k, tt)
all_ahead (x ∷ cs) (suc n) c last h l is k = (ahead_trans x last c (each_at (IsAhead x) cs n last h.0 (omega (arith, l)) is) k, all_ahead cs n c last h.1 (omega (arith, l)) is k)

pub order_take : (n : ℕ) (cs : List Waiting) → IsInOrder cs → IsInOrder (take n cs)
order_take zero cs h = tt
order_take (suc n) [] h = tt
order_take (suc n) (c ∷ cs) h = (each_take (IsAhead c) n cs h.0, order_take n cs h.1)

pub order_insert : (cs : List Waiting) (n : ℕ) (c : Waiting) → IsInOrder cs → Each (λ (d : Waiting). IsAhead d c) (take n cs) → Each (IsAhead c) (drop n cs) → IsInOrder (insert cs n c)
order_insert cs zero c h before behind = (behind, h)
order_insert [] (suc n) c h before behind = (tt, tt)
order_insert (x ∷ cs) (suc n) c h before behind = (each_insert (IsAhead x) cs n c h.0 before.0, order_insert cs n c h.1 before.1 behind)

-- the last one leaves before, or is cut off after
pub insert_popped : (cs : List Waiting) (n m : ℕ) (c : Waiting) → n ≤ m → insert (take m cs) n c ≡ take (suc m) (insert cs n c)
insert_popped cs zero m c l = refl
insert_popped cs (suc n) zero c l = absurd (omega (arith, l))
insert_popped [] (suc n) (suc m) c l = refl
insert_popped (x ∷ cs) (suc n) (suc m) c l = ap (λ ds. x ∷ ds) (insert_popped cs n m c (omega (arith, l)))

-- one that is put behind n others is none of the first n
pub take_insert : (cs : List Waiting) (n p : ℕ) (c : Waiting) → n ≤ p → p ≤ length cs → take n (insert cs p c) ≡ take n cs
take_insert cs zero p c l m = refl
take_insert cs (suc n) zero c l m = absurd (omega (arith, l))
take_insert [] (suc n) (suc p) c l m = absurd (omega (arith, m))
take_insert (x ∷ cs) (suc n) (suc p) c l m = ap (λ ds. x ∷ ds) (take_insert cs n p c (omega (arith, l)) (omega (arith, m)))

pub in_take : (x : Waiting) (n : ℕ) (cs : List Waiting) → IsIn x (take n cs) → IsIn x cs
in_take x zero cs h = absurd h
in_take x (suc n) [] h = h
in_take x (suc n) (c ∷ cs) h = ⊎_elim (λ (e : x ≡ c). inl e) (λ (k : IsIn x (take n cs)). inr (in_take x n cs k)) h

pub in_drop : (x : Waiting) (n : ℕ) (cs : List Waiting) → IsIn x (drop n cs) → IsIn x cs
in_drop x zero cs h = h
in_drop x (suc n) [] h = h
in_drop x (suc n) (c ∷ cs) h = inr (in_drop x n cs h)

pub in_insert : (x : Waiting) (cs : List Waiting) (n : ℕ) (c : Waiting) → IsIn x cs → IsIn x (insert cs n c)
in_insert x cs zero c h = inr h
in_insert x [] (suc n) c h = absurd h
in_insert x (d ∷ cs) (suc n) c h = ⊎_elim (λ (e : x ≡ d). inl e) (λ (k : IsIn x cs). inr (in_insert x cs n c k)) h

pub itself_in : (cs : List Waiting) (n : ℕ) (c : Waiting) → IsIn c (insert cs n c)
itself_in cs n c = IsIn-append_right c (take n cs) (c ∷ drop n cs) (inl refl)

-- a unit that isn't one of the first n comes behind them
pub cut_off : (x : Waiting) (n : ℕ) (cs : List Waiting) → IsInOrder cs → IsIn x cs → IsIn x (take n cs) ⊎ ((n ≤ length (take n cs)) × Each (λ (d : Waiting). IsAhead d x) (take n cs))
cut_off x zero cs h m = inr (omega arith, tt)
cut_off x (suc n) [] h m = absurd m
cut_off x (suc n) (c ∷ cs) h m = ⊎_elim
    (λ (e : x ≡ c). inl (inl e))
    (λ (k : IsIn x cs). ⊎_elim
    (λ (i : IsIn x (take n cs)). inl (inr i))
    (λ (o : (n ≤ length (take n cs)) × Each (λ (d : Waiting). IsAhead d x) (take n cs)). inr (omega (arith, o.0), (Each-in (IsAhead c) cs h.0 x k, o.1)))
    (cut_off x n cs h.1 k))
    m

pub some_behind : (n : ℕ) (cs : List Waiting) → n < length cs → (d : Waiting) × IsIn d (drop n cs)
some_behind n [] l = absurd (omega (arith, l))
some_behind zero (c ∷ cs) l = (c, inl refl)
some_behind (suc n) (c ∷ cs) l = some_behind n cs (omega (arith, l))

-- the same, whatever would be read past the end
pub ahead_at : (cs : List Waiting) (n : ℕ) (c d : Waiting) → IsInOrder cs → n < length cs → IsAhead (get_or cs n d) c → Each (λ (x : Waiting). IsAhead x c) (take (suc n) cs)
ahead_at cs n c d h l k = all_ahead cs n c (get_or cs n d) h l (get_or_default cs n d (get_or cs n d) l) k

pub more_behind : (cs : List Waiting) (n : ℕ) (c d : Waiting) → n < length cs → (IsAhead (get_or cs n d) c → ⊥) → Each (λ (x : Waiting). IsAhead x c → ⊥) (drop (n + 1) cs) → Each (λ (x : Waiting). IsAhead x c → ⊥) (drop n cs)
more_behind cs n c d l k h = subst (Each (λ (x : Waiting). IsAhead x c → ⊥)) (sym (drop_more cs n d l)) (k, h)

pub not_full : (n : ℕ) → n ≤ 64 → (n == 64) ≡ false → n < 64
not_full n l h = grind arith

-- one that all come before is inserted at the end
pub inserted_last : (cs new : List Waiting) (c : Waiting) → length cs < 64 → Each (λ (d : Waiting). IsAhead d c) cs → new ≡ cs ++ c ∷ [] → IsInserted c cs new
inserted_last cs new c less before is = record {
  place = length cs;
  is_place = record {
    within = omega arith;
    before = subst (Each (λ (d : Waiting). IsAhead d c)) (sym whole) before;
    behind = subst (Each (λ (d : Waiting). IsAhead d c → ⊥)) (sym none) tt;
  };
  is = is ∙ sym at_end ∙ sym (take_all 64 (insert cs (length cs) c) (omega (arith, less, length-insert cs (length cs) c (omega arith))));
}
  where
    whole : take (length cs) cs ≡ cs
    whole = take_all (length cs) cs (omega arith)

    none : drop (length cs) cs ≡ []
    none = drop_all (length cs) cs (omega arith)

    at_end : insert cs (length cs) c ≡ cs ++ c ∷ []
    at_end = ap (λ (xs : List Waiting). xs ++ c ∷ drop (length cs) cs) whole ∙ ap (λ (ys : List Waiting). cs ++ c ∷ ys) none
