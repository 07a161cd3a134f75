-- The least of several numbers, one family after another.
use Rattle.std.proofs.Common.{◌≡◌, ℕ, ◌+◌, ◌<◌, ◌≤◌, ◌⊎◌, min, refl, sym, subst, ◌∙◌, inl, inr, ⊎_elim, arith}
use Rattle.pt_offsets.proofs.Maxima.{last_or_before}
use Rattle.pt_turn.specs.Claims.Least.{AtOrIn, Below, IsLeastAmong}

-- no other number
pub least_none : (P : ℕ → Type 0) (b : ℕ) → ((d : ℕ) → P d → ⊥) → IsLeastAmong (AtOrIn b P) b
least_none P b none = (inl refl, λ d h. ⊎_elim (λ (e : d ≡ b). omega (arith, e)) (λ (p : P d). absurd (none d p)) h)

-- one other number
pub least_one : (P : ℕ → Type 0) (b v r : ℕ) → r ≡ min b v → P v → ((d : ℕ) → P d → v ≤ d) → IsLeastAmong (AtOrIn b P) r
least_one P b v r is there least = (
  ⊎_elim (λ (e : r ≡ b). inl e) (λ (e : r ≡ v). inr (subst P (sym e) there)) (one b v r is),
  λ d h. ⊎_elim (λ (e : d ≡ b). omega (arith, e, is)) (λ (p : P d). let le : v ≤ d = least d p in omega (arith, is, le)) h,
)
  where
    one : (b v r : ℕ) → r ≡ min b v → (r ≡ b) ⊎ (r ≡ v)
    one b v r e = grind arith

-- the least of b and P is c, and the least of c and Q is e
pub least_both : (P Q R : ℕ → Type 0) (b c e : ℕ) → ((d : ℕ) → P d → R d) → ((d : ℕ) → Q d → R d) → ((d : ℕ) → R d → P d ⊎ Q d) → IsLeastAmong (AtOrIn b P) c → IsLeastAmong (AtOrIn c Q) e → IsLeastAmong (AtOrIn b R) e
least_both P Q R b c e from_p from_q either first then =
    let below_c : e ≤ c = then.1 c (inl refl) in
    let below_b : c ≤ b = first.1 b (inl refl) in (
      ⊎_elim
          (λ (same : e ≡ c). ⊎_elim (λ (at : c ≡ b). inl (same ∙ at)) (λ (p : P c). inr (from_p e (subst P (sym same) p))) first.0)
          (λ (q : Q e). inr (from_q e q))
          then.0,
      λ d h. ⊎_elim
          (λ (at : d ≡ b). omega (arith, at, below_b, below_c))
          (λ (r : R d). ⊎_elim (λ (p : P d). let le : c ≤ d = first.1 d (inr p) in omega (arith, le, below_c)) (λ (q : Q d). then.1 d (inr q)) (either d r))
          h,
    )

pub below_none : (family : ℕ → ℕ → Type 0) (b : ℕ) → IsLeastAmong (AtOrIn b (Below 0 family)) b
below_none family b = least_none (Below 0 family) b (λ d h. none h.0 h.1)
  where
    none : (k : ℕ) → k < 0 → ⊥
    none k l = omega arith

-- one family more
pub below_more : (family : ℕ → ℕ → Type 0) (b c e n : ℕ) → IsLeastAmong (AtOrIn b (Below n family)) c → IsLeastAmong (AtOrIn c (family n)) e → IsLeastAmong (AtOrIn b (Below (n + 1) family)) e
below_more family b c e n = least_both (Below n family) (family n) (Below (n + 1) family) b c e
    (λ d h. let l : h.0 < n = h.1 in (h.0, omega (arith, l), h.2))
    (λ d h. (n, omega arith, h))
    (λ d h. ⊎_elim (λ (l : h.0 < n). inl (h.0, l, h.2)) (λ (s : h.0 ≡ n). inr (subst (λ k. family k d) s h.2)) (last_or_before n h.0 h.1))

-- the families between have no numbers
pub below_jump : (family : ℕ → ℕ → Type 0) (b c n m : ℕ) → n ≤ m → ((k d : ℕ) → n ≤ k → k < m → family k d → ⊥) → IsLeastAmong (AtOrIn b (Below n family)) c → IsLeastAmong (AtOrIn b (Below m family)) c
below_jump family b c n m le none first = (
  ⊎_elim (λ (e : c ≡ b). inl e) (λ (p : Below n family c). let l : p.0 < n = p.1 in inr (p.0, omega (arith, l, le), p.2)) first.0,
  λ d h. ⊎_elim
      (λ (e : d ≡ b). first.1 d (inl e))
      (λ (p : Below m family d). ⊎_elim (λ (l : p.0 < n). first.1 d (inr (p.0, l, p.2))) (λ (o : n ≤ p.0). absurd (none p.0 d o p.1 p.2)) (either p.0 n))
      h,
)
  where
    either : (k n : ℕ) → (k < n) ⊎ (n ≤ k)
    either k n = grind arith
