-- The closing reading, by what each actor lets.
use Rattle.std.proofs.Common.{◌≡◌, ℕ, ◌+◌, ◌<◌, ◌≤◌, ◌⊎◌, max, List, get_or, Option, Some, None, length, leb-true, refl, sym, ap, subst, ◌∙◌, inl, inr, ⊎_elim, arith}
use Rattle.std.proofs.lemmas.List.{get_or_read}
use Rattle.pt_types.specs.declared.graph.Actor.{Actor}
use Rattle.pt_types.specs.declared.graph.Graph.{Graph}
use Rattle.pt_types.specs.Lawful.{IsLawful}
use Rattle.pt_semantics.specs.Bounds.{bound_of}
use Rattle.pt_types.specs.Groups.{no_actor}
use Rattle.pt_types.specs.Lookups.{platform_of}
use Rattle.pt_semantics.specs.Paced.{IsClosing}
use Rattle.pt_offsets.proofs.Maxima.{last_or_before}
use Rattle.pt_offsets.proofs.Small.{bound_below, bound_small}
use Rattle.pt_turn.specs.Closes.Reading.{past, closes_after}

-- a reading past the horizon and a bound fits 64 bits
pub small : (g : Graph) (a b : ℕ) → IsLawful g → bound_of g a ≡ Some b → g.until + b ≤ 4000000000000000
small g a b lawful bound =
    let until : g.until ≤ 1000000000000000 = leb-true g.until 1000000000000000 lawful.until in
    let le : b ≤ 3000000000000000 = bound_small g a b lawful bound in
    omega (arith, until, le)

-- the platform of an actor, read from the list of actors
pub platform_read : (g : Graph) (actors : List Actor) (a : ℕ) (x : Actor) → actors ≡ g.actors → a < length actors → x ≡ get_or actors a x → x.platform ≡ platform_of g a
platform_read g actors a x same less is = ap (λ (y : Actor). y.platform) (get_or_read actors a x less is no_actor ∙ ap (λ xs. get_or xs a no_actor) same)

-- c is the greatest of what the first n actors let, where they are of platform i
pub record Closes (g : Graph) (i n c : ℕ) : Type 0 where
  pub reached : (c ≡ 0) ⊎ ((a : ℕ) × (platform_of g a ≡ i) × (closes_after g a ≡ c))
  pub covers : (a : ℕ) → a < n → platform_of g a ≡ i → closes_after g a ≤ c

pub closes_none : (g : Graph) (i c : ℕ) → c ≡ 0 → Closes g i 0 c
closes_none g i c e = record { reached = inl e; covers = λ a l home. omega arith }

pub closes_more : (g : Graph) (i n c d : ℕ) → Closes g i n c → platform_of g n ≡ i → d ≡ max c (closes_after g n) → Closes g i (n + 1) d
closes_more g i n c d was home is = record {
  reached = ⊎_elim (λ (old : d ≡ c). subst (λ z. (z ≡ 0) ⊎ ((a : ℕ) × (platform_of g a ≡ i) × (closes_after g a ≡ z))) (sym old) was.reached) (λ (new : d ≡ closes_after g n). inr (n, home, sym new)) (one c (closes_after g n) d is);
  covers = λ a l at.
      ⊎_elim (λ (before : a < n). let le : closes_after g a ≤ c = was.covers a before at in up_to c (closes_after g n) d (closes_after g a) is (inl le))
      (λ (last : a ≡ n). subst (λ z. closes_after g z ≤ d) (sym last) (up_to c (closes_after g n) d (closes_after g n) is (inr (itself (closes_after g n))))) (last_or_before n a l);
}
  where
    one : (b v r : ℕ) → r ≡ max b v → (r ≡ b) ⊎ (r ≡ v)
    one b v r e = grind arith

    up_to : (b v r x : ℕ) → r ≡ max b v → (x ≤ b) ⊎ (x ≤ v) → x ≤ r
    up_to b v r x e h = grind arith

    itself : (x : ℕ) → x ≤ x
    itself x = omega arith

pub closes_same : (g : Graph) (i n c : ℕ) → Closes g i n c → (platform_of g n ≡ i → ⊥) → Closes g i (n + 1) c
closes_same g i n c was other = record {
  reached = was.reached;
  covers = λ a l at.
      ⊎_elim (λ (before : a < n). was.covers a before at)
      (λ (last : a ≡ n). absurd (other (subst (λ z. platform_of g z ≡ i) last at))) (last_or_before n a l);
}

pub is_closing : (g : Graph) (i n c : ℕ) → IsLawful g → length g.actors ≤ n → Closes g i n c → IsClosing g i c
is_closing g i n c lawful all is =
    ⊎_elim
    (λ (zero : c ≡ 0). inl (zero, λ a b home bound. let le : g.until + b + 1 ≤ c = each a b home bound in absurd (omega (arith, zero, le))))
    (λ (some : (a : ℕ) × (platform_of g a ≡ i) × (closes_after g a ≡ c)). reached some.0 some.1 (bound_of g some.0) refl some.2)
    is.reached
  where
    each : (a b : ℕ) → platform_of g a ≡ i → bound_of g a ≡ Some b → g.until + b + 1 ≤ c
    each a b home bound = let l : a < length g.actors = bound_below g a b lawful bound in subst (λ o. past g.until o ≤ c) bound (is.covers a (omega (arith, l, all)) home)

    reached : (a : ℕ) → platform_of g a ≡ i → (o : Option ℕ) → bound_of g a ≡ o → past g.until o ≡ c → IsClosing g i c
    reached a home None bound e = inl (sym e, λ x b at has. let le : g.until + b + 1 ≤ c = each x b at has in absurd (omega (arith, e, le)))
    reached a home (Some b) bound e = inr ((a, b, home, bound, sym e), each)
