-- Linked platforms by their numbers.
use Rattle.std.proofs.Common.{◌≡◌, ℕ, zero, suc, ◌+◌, ◌*◌, ◌^◌, ◌<◌, ◌≤◌, ◌⊎◌, inl, inr, ⊎_elim, Option, Some, List, [], ◌∷◌, ◌++◌, length, get_or, set, refl, ap, sym, ◌∙◌, subst, arith, add-one}
use Rattle.std.proofs.lemmas.Bool.{cases_eq}
use Rattle.std.proofs.lemmas.List.{get_or-set_other, length-map}
use Rattle.std.proofs.lemmas.Grind.{get_or-set_at}
use Rattle.std.proofs.Math.Nat.{pow-suc}
use Rattle.std.proofs.lemmas.List.{map-append}
use Rattle.pt_pool.specs.LinkedPlatform.{LinkedPlatformView}
use Rattle.pt_workers.specs.Working.Orders.{numbers, count_up, order_weight, Among, HasAt}
use Rattle.pt_workers.proofs.Working.Powers.{weight-snoc}

abbrev init : List ℕ → List ℕ
init [] = []
init (x ∷ []) = []
init (x ∷ y ∷ ys) = x ∷ init (y ∷ ys)

abbrev final : List ℕ → ℕ
final [] = 0
final (x ∷ []) = x
final (x ∷ y ∷ ys) = final (y ∷ ys)

init-snoc : (xs : List ℕ) (x : ℕ) → init (xs ++ x ∷ []) ≡ xs
init-snoc [] x = refl
init-snoc (y ∷ []) x = refl
init-snoc (y ∷ z ∷ zs) x = ap (λ (l : List ℕ). y ∷ l) (init-snoc (z ∷ zs) x)

final-snoc : (xs : List ℕ) (x : ℕ) → final (xs ++ x ∷ []) ≡ x
final-snoc [] x = refl
final-snoc (y ∷ []) x = refl
final-snoc (y ∷ z ∷ zs) x = final-snoc (z ∷ zs) x

-- the linked platform that is popped has the last number
pub popped : (xs ys : List LinkedPlatformView) (s : LinkedPlatformView) (n m : ℕ) → ys ≡ xs ++ s ∷ [] → n + 1 ≡ m → numbers ys ≡ count_up m → (numbers xs ≡ count_up n) × (s.platform.number ≡ n)
popped xs ys s n m e k h =
    let m' : m ≡ suc n = omega arith in
    let all : numbers xs ++ s.platform.number ∷ [] ≡ count_up n ++ n ∷ [] = sym (map-append (λ (v : LinkedPlatformView). v.platform.number) xs (s ∷ [])) ∙ ap numbers (sym e) ∙ h ∙ ap count_up m' in
    (sym (init-snoc (numbers xs) s.platform.number) ∙ ap init all ∙ init-snoc (count_up n) n, sym (final-snoc (numbers xs) s.platform.number) ∙ ap final all ∙ final-snoc (count_up n) n)

pub halves : (total n m k s : ℕ) → n + 1 ≡ m → s ≡ n → total + 2 ^ m ≡ k → (total + 2 ^ s) + 2 ^ n ≡ k
halves total n m k s e f h =
    let m' : 2 ^ m ≡ 2 ^ n * 2 = ap (λ (x : ℕ). 2 ^ x) (omega arith) ∙ pow-suc 2 n in
    let s' : 2 ^ s ≡ 2 ^ n = ap (λ (x : ℕ). 2 ^ x) f in omega arith

pub weighed : (xs : List LinkedPlatformView) (s : LinkedPlatformView) → order_weight (numbers (xs ++ s ∷ [])) ≡ order_weight (numbers xs) + 2 ^ s.platform.number
weighed xs s = ap order_weight (map-append (λ (v : LinkedPlatformView). v.platform.number) xs (s ∷ [])) ∙ weight-snoc (numbers xs) s.platform.number

among_snoc : (w x : ℕ) (xs : List ℕ) → Among w (xs ++ x ∷ []) → Among w xs ⊎ (x ≡ w)
among_snoc w x [] (zero, lt, is) = inr (is 0)
among_snoc w x [] (suc i, lt, is) = absurd (omega (arith, lt))
among_snoc w x (y ∷ ys) (zero, lt, is) = inl (0, omega arith, is)
among_snoc w x (y ∷ ys) (suc i, lt, is) =
    ⊎_elim (λ (a : Among w ys). inl (suc a.0, omega (arith, a.1), a.2)) (λ (e : x ≡ w). inr e) (among_snoc w x ys (i, omega (arith, lt), is))

pub among_none : (w : ℕ) (xs : List LinkedPlatformView) → length xs ≡ 0 → Among w (numbers xs) → ⊥
among_none w xs e a = let n = length-map xs (λ (v : LinkedPlatformView). v.platform.number) in omega (arith, a.1)

-- one more linked platform has its place
pub placed : (m n : ℕ) (slots : List (Option LinkedPlatformView)) (xs ys : List LinkedPlatformView) (s : LinkedPlatformView) → ys ≡ xs ++ s ∷ [] → n ≡ s.platform.number → n < length slots
    → ((w : ℕ) → w < m → HasAt slots w ⊎ Among w (numbers ys)) → (w : ℕ) → w < m → HasAt (set slots n (Some s)) w ⊎ Among w (numbers xs)
placed m n slots xs ys s e num room each w low = ⊎_elim
    (λ (q : w ≡ n). inl (s, (λ d. get_or-set_at slots n w (Some s) d q room), sym num ∙ sym q))
    (λ (ne : w ≡ n → ⊥). ⊎_elim (λ (h : HasAt slots w). inl (h.0, (λ d. get_or-set_other slots n w (Some s) d ne ∙ h.1 d), h.2))
    (λ (a : Among w (numbers ys)).
    let a' : Among w (numbers xs ++ s.platform.number ∷ []) = subst (λ (l : List ℕ). Among w l) (ap numbers e ∙ map-append (λ (v : LinkedPlatformView). v.platform.number) xs (s ∷ [])) a in
    ⊎_elim (λ (b : Among w (numbers xs)). inr b) (λ (q : s.platform.number ≡ w). absurd (ne (sym q ∙ sym num))) (among_snoc w s.platform.number (numbers xs) a'))
    (each w low))
    (cases_eq w n)

some_same : {A : Type 0} (x y : A) → Some x ≡ Some y → x ≡ y
some_same x y e = cc

-- the linked platform of number k is taken out
pub taken_out : (k : ℕ) (slots : List (Option LinkedPlatformView)) (t : LinkedPlatformView) (d : Option LinkedPlatformView) → HasAt slots k → get_or slots k d ≡ Some t → t.platform.number ≡ k
taken_out k slots t d h e = ap (λ (v : LinkedPlatformView). v.platform.number) (some_same t h.0 (sym e ∙ h.1 d)) ∙ h.2

pub others_stay : (k w : ℕ) (slots : List (Option LinkedPlatformView)) (x : Option LinkedPlatformView) → k + 1 ≤ w → HasAt slots w → HasAt (set slots k x) w
others_stay k w slots x le h = (h.0, (λ d. get_or-set_other slots k w x d (λ q. omega (arith, q)) ∙ h.1 d), h.2)

pub counted : (k : ℕ) (xs ys : List LinkedPlatformView) (t : LinkedPlatformView) → ys ≡ xs ++ t ∷ [] → numbers xs ≡ count_up k → t.platform.number ≡ k → numbers ys ≡ count_up (k + 1)
counted k xs ys t e h n =
    ap numbers e ∙ map-append (λ (v : LinkedPlatformView). v.platform.number) xs (t ∷ []) ∙ (λ i. h i ++ n i ∷ []) ∙ ap count_up (sym (add-one k))
