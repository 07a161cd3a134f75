-- Each platform has a closing reading.
use Rattle.std.proofs.Common.{◌≡◌, ◌≢◌, ℕ, ◌<◌, ◌≤◌, ◌+◌, ◌==◌, zero, suc, ◌⊎◌, List, [], ◌∷◌, Option, None, Some, length, map, refl, sym, ap, subst, ◌∙◌, inl, inr, ⊎_elim, eqb-true, arith}
use Rattle.std.proofs.lemmas.Bool.{cases_lt}
use Rattle.pt_types.specs.declared.graph.Actor.{Actor}
use Rattle.pt_types.specs.declared.graph.Graph.{Graph}
use Rattle.pt_types.specs.declared.graph.Link.{Link}
use Rattle.pt_types.specs.Groups.{no_actor}
use Rattle.pt_types.specs.Lookups.{platform_of}
use Rattle.pt_types.specs.Ports.{when}
use Rattle.pt_semantics.specs.Bounds.{bound_by, bound_of, link_bound}
use Rattle.pt_semantics.specs.Edges.{links, of_link, wires}
use Rattle.pt_semantics.specs.Lists.{IsIn}
use Rattle.pt_semantics.specs.Paced.{IsClosing}
use Rattle.pt_semantics.specs.Wired.{IsWired}
use Rattle.pt_semantics.proofs.Lookups.{IsIn-append_right, first_of_found, none_some, same_some, when_found}
use Rattle.pt_laws.proofs.Onward.{cases_same}
use Rattle.pt_laws.proofs.Progress.{past_end}

link_in : (xs : List Link) (link : Link) → IsIn link xs → IsIn (of_link link) (map of_link xs)
link_in [] link mem = mem
link_in (x ∷ xs) link mem = ⊎_elim (λ (e : link ≡ x). inl (ap of_link e)) (λ (m : IsIn link xs). inr (link_in xs link m)) mem

-- what has a bound is an actor of the graph
bound_within : (g : Graph) (a b : ℕ) → IsWired g → bound_of g a ≡ Some b → a < length g.actors
bound_within g a b wired bound = ⊎_elim
    (λ (lt : a < length g.actors). lt)
    (λ (past : length g.actors ≤ a).
    let (link, mem, is) = first_of_found (λ (l : Link). when (l.to == a) (Some (link_bound g l))) g.links b
    (sym (ap (λ (x : Actor). bound_by g a x.kind) (past_end g.actors a no_actor past)) ∙ bound) in
    let to : link.to ≡ a = eqb-true link.to a (when_found (link.to == a) (Some (link_bound g link)) b is).0 in
    subst (λ n. n < length g.actors) to (wired.ends (of_link link) (IsIn-append_right (of_link link) (wires g) (links g) (link_in g.links link mem))).1)
    (cases_lt a (length g.actors))

module _ (g : Graph) (i : ℕ) where
  -- the greatest of what the first n actors let, if one of them has a bound and is on the platform
  abbrev Top : ℕ → Type 0
  Top n =
      ((a b : ℕ) → a < n → platform_of g a ≡ i → bound_of g a ≡ Some b → ⊥)
      ⊎ ((c a b : ℕ) × (platform_of g a ≡ i) × (bound_of g a ≡ Some b) × (c ≡ g.until + b + 1) × ((x d : ℕ) → x < n → platform_of g x ≡ i → bound_of g x ≡ Some d → g.until + d + 1 ≤ c))

  last_or_below : (x n : ℕ) → x < suc n → (x ≡ n) ⊎ (x < n)
  last_or_below x n lt = ⊎_elim (λ (e : x ≡ n). inl e) (λ (ne : x ≢ n). inr (omega (arith, lt, ne))) (cases_same x n)

  -- one more actor, which lets nothing
  same_top : (n : ℕ) → ((b : ℕ) → platform_of g n ≡ i → bound_of g n ≡ Some b → ⊥) → Top n → Top (suc n)
  same_top n none top = ⊎_elim
      (λ (nobody : (a b : ℕ) → a < n → platform_of g a ≡ i → bound_of g a ≡ Some b → ⊥).
      inl (λ a b lt home bound. ⊎_elim
      (λ (e : a ≡ n). none b (subst (λ k. platform_of g k ≡ i) e home) (subst (λ k. bound_of g k ≡ Some b) e bound))
      (λ (below : a < n). nobody a b below home bound)
      (last_or_below a n lt)))
      (λ (some : (c a b : ℕ) × (platform_of g a ≡ i) × (bound_of g a ≡ Some b) × (c ≡ g.until + b + 1) × ((x d : ℕ) → x < n → platform_of g x ≡ i → bound_of g x ≡ Some d → g.until + d + 1 ≤ c)).
      inr (
        some.0,
        some.1,
        some.2,
        some.3,
        some.4,
        some.5,
        λ x d lt home bound. ⊎_elim
            (λ (e : x ≡ n). absurd (none d (subst (λ k. platform_of g k ≡ i) e home) (subst (λ k. bound_of g k ≡ Some d) e bound)))
            (λ (below : x < n). some.6 x d below home bound)
            (last_or_below x n lt),
      ))
      top

  -- one more actor, on the platform and with this bound
  next_top : (n b : ℕ) → platform_of g n ≡ i → bound_of g n ≡ Some b → Top n → Top (suc n)
  next_top n b home bound top = ⊎_elim
      (λ (nobody : (a d : ℕ) → a < n → platform_of g a ≡ i → bound_of g a ≡ Some d → ⊥).
      inr (
        g.until + b + 1,
        n,
        b,
        home,
        bound,
        refl,
        λ x d lt h k. ⊎_elim
            (λ (e : x ≡ n). here (g.until + b + 1) d (omega arith) (subst (λ j. bound_of g j ≡ Some d) e k))
            (λ (below : x < n). absurd (nobody x d below h k))
            (last_or_below x n lt),
      ))
      (λ (some : (c a d : ℕ) × (platform_of g a ≡ i) × (bound_of g a ≡ Some d) × (c ≡ g.until + d + 1) × ((x e : ℕ) → x < n → platform_of g x ≡ i → bound_of g x ≡ Some e → g.until + e + 1 ≤ c)).
      ⊎_elim
      (λ (less : some.0 < g.until + b + 1).
      inr (
        g.until + b + 1,
        n,
        b,
        home,
        bound,
        refl,
        λ x d lt h k. ⊎_elim
            (λ (e : x ≡ n). here (g.until + b + 1) d (omega arith) (subst (λ j. bound_of g j ≡ Some d) e k))
            (λ (below : x < n). let le = some.6 x d below h k in omega (arith, le, less))
            (last_or_below x n lt),
      ))
      (λ (more : g.until + b + 1 ≤ some.0).
      inr (
        some.0,
        some.1,
        some.2,
        some.3,
        some.4,
        some.5,
        λ x d lt h k. ⊎_elim
            (λ (e : x ≡ n). here some.0 d more (subst (λ j. bound_of g j ≡ Some d) e k))
            (λ (below : x < n). some.6 x d below h k)
            (last_or_below x n lt),
      ))
      (cases_lt some.0 (g.until + b + 1)))
      top
    where
      here : (c d : ℕ) → g.until + b + 1 ≤ c → bound_of g n ≡ Some d → g.until + d + 1 ≤ c
      here c d le k = let same : b ≡ d = same_some b d (sym bound ∙ k) in omega (arith, le, same)

  top_of : (n : ℕ) → Top n
  top_of zero = inl (λ a b lt. absurd (omega (arith, lt)))
  top_of (suc n) = ⊎_elim
      (λ (home : platform_of g n ≡ i). by_bound home (bound_of g n) refl (top_of n))
      (λ (away : platform_of g n ≢ i). same_top n (λ b home bound. away home) (top_of n))
      (cases_same (platform_of g n) i)
    where
      by_bound : platform_of g n ≡ i → (o : Option ℕ) → bound_of g n ≡ o → Top n → Top (suc n)
      by_bound home None is top = same_top n (λ b h bound. none_some b (sym is ∙ bound)) top
      by_bound home (Some b) is top = next_top n b home is top

pub closing_of : (g : Graph) (i : ℕ) → IsWired g → (c : ℕ) × IsClosing g i c
closing_of g i wired = ⊎_elim
    (λ (nobody : (a b : ℕ) → a < length g.actors → platform_of g a ≡ i → bound_of g a ≡ Some b → ⊥).
    (0, inl (refl, λ a b home bound. nobody a b (bound_within g a b wired bound) home bound)))
    (λ (some : (c a b : ℕ) × (platform_of g a ≡ i) × (bound_of g a ≡ Some b) × (c ≡ g.until + b + 1) × ((x d : ℕ) → x < length g.actors → platform_of g x ≡ i → bound_of g x ≡ Some d → g.until + d + 1 ≤ c)).
    (some.0, inr ((some.1, some.2, some.3, some.4, some.5), λ a b home bound. some.6 a b (bound_within g a b wired bound) home bound)))
    (top_of g i (length g.actors))
