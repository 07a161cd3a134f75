-- Numbers that lie one above the highest from which such an edge leads are the lengths of the longest such paths.
use Rattle.std.proofs.Common.{◌≡◌, ℕ, zero, suc, ◌+◌, ◌<◌, ◌≤◌, List, [], ◌∷◌, ◌++◌, length, length-append, refl, sym, ap, subst, ◌∙◌, arith, ◌⊎◌, ⊎_elim}
use Rattle.pt_tags.specs.declared.tag.Delay.{Delay}
use Rattle.pt_tags.specs.Tags.{then, zero_delay}
use Rattle.pt_types.specs.declared.graph.Graph.{Graph}
use Rattle.pt_semantics.specs.Lists.{IsIn}
use Rattle.pt_semantics.specs.Edges.{Edge, edges}
use Rattle.pt_semantics.specs.Ranks.{AreLevels, AreRanks, IsLongest, Leads, NoDelay, NoTime, sum_along}
use Rattle.pt_semantics.proofs.Longest.{leads_push, sum_time, sum_step}

-- an actor lies one above that from which such an edge leads to it
pub record LiesOver (g : Graph) (adds : Edge → Type 0) (n : ℕ → ℕ) (a : ℕ) : Type 0 where
  pub edge : Edge
  pub in_graph : IsIn edge (edges g)
  pub to : edge.to ≡ a
  pub such_edge : adds edge
  pub over : n a ≡ n edge.from + 1

pub record AreHighest (g : Graph) (adds : Edge → Type 0) (n : ℕ → ℕ) : Type 0 where
  pub rises : (e : Edge) → IsIn e (edges g) → adds e → n e.from < n e.to
  pub comes : (a : ℕ) → (n a ≡ 0) ⊎ LiesOver g adds n a

module _ (g : Graph) (such : Delay → Type 0) (adds : Edge → Type 0)
    (nil : such zero_delay)
    (parts : (e : Edge) (d : Delay) → such (then e.weight d) → adds e × such d)
    (push : (path : List Edge) (e : Edge) → such (sum_along path) → adds e → such (sum_along (path ++ e ∷ [])))
    (n : ℕ → ℕ) (are : AreHighest g adds n) where
  path_rises : (b a : ℕ) (path : List Edge) → Leads g b path a → such (sum_along path) → n b + length path ≤ n a
  path_rises b a [] leads is = let same : n b ≡ n a = ap n leads in omega (arith, same)
  path_rises b a (e ∷ path) (mem, from, rest) is =
      let split = parts e (sum_along path) is in
      let one : n e.from < n e.to = are.rises e mem split.0 in
      let more : n e.to + length path ≤ n a = path_rises e.to a path rest split.1 in
      let same : n e.from ≡ n b = ap n from in
      omega (arith, one, more, same)

  -- such a path of that many edges ends at the actor
  record HasPath (a m : ℕ) : Type 0 where
    pub start : ℕ
    pub path : List Edge
    pub leads : Leads g start path a
    pub is_such : such (sum_along path)
    pub long : length path ≡ m

  path_of : (m a : ℕ) → n a ≡ m → HasPath a m
  path_of zero a is = record { start = a; path = []; leads = refl; is_such = nil; long = refl }
  path_of (suc m) a is =
      ⊎_elim
      (λ (none : n a ≡ 0). let no : suc m ≡ 0 = sym is ∙ none in absurd (omega (arith, no)))
      (λ (lies : LiesOver g adds n a).
      let up : suc m ≡ n lies.edge.from + 1 = sym is ∙ lies.over in
      let before : n lies.edge.from ≡ m = omega (arith, up) in
      let h = path_of m lies.edge.from before in
      let long : length h.path ≡ m = h.long in
      record {
        start = h.start;
        path = h.path ++ lies.edge ∷ [];
        leads = subst (λ b. Leads g h.start (h.path ++ lies.edge ∷ []) b) lies.to (leads_push g h.start lies.edge.from h.path lies.edge h.leads lies.in_graph refl);
        is_such = push h.path lies.edge h.is_such lies.such_edge;
        long = length-append h.path (lies.edge ∷ []) ∙ omega (arith, long);
      })
      (are.comes a)

  pub are_longest : (a : ℕ) → IsLongest g such a (n a)
  are_longest a =
      let h = path_of (n a) a refl in
      record {
        one = (h.start, h.path, h.leads, h.is_such, h.long);
        longest = λ b path leads is. let whole : n b + length path ≤ n a = path_rises b a path leads is in omega (arith, whole);
      }

abbrev pub AddsNoTime : Edge → Type 0
AddsNoTime e = e.weight.time ≡ 0

abbrev pub AddsNothing : Edge → Type 0
AddsNothing e = (e.weight.time ≡ 0) × (e.weight.step ≡ 0)

pub are_levels : (g : Graph) (level : ℕ → ℕ) → AreHighest g AddsNoTime level → AreLevels g level
are_levels g level are = are_longest g NoTime AddsNoTime refl parts push level are
  where
    parts : (e : Edge) (d : Delay) → NoTime (then e.weight d) → AddsNoTime e × NoTime d
    parts e d is = let sum : e.weight.time + d.time ≡ 0 = is in (omega (arith, sum), omega (arith, sum))

    push : (path : List Edge) (e : Edge) → NoTime (sum_along path) → AddsNoTime e → NoTime (sum_along (path ++ e ∷ []))
    push path e is adds = let sum : (sum_along (path ++ e ∷ [])).time ≡ (sum_along path).time + e.weight.time = sum_time path e in omega (arith, sum, is, adds)

pub are_ranks : (g : Graph) (rank : ℕ → ℕ) → AreHighest g AddsNothing rank → AreRanks g rank
are_ranks g rank are = are_longest g NoDelay AddsNothing (refl, refl) parts push rank are
  where
    parts : (e : Edge) (d : Delay) → NoDelay (then e.weight d) → AddsNothing e × NoDelay d
    parts e d is =
        let time : e.weight.time + d.time ≡ 0 = is.0 in
        let step : e.weight.step + d.step ≡ 0 = is.1 in
        ((omega (arith, time), omega (arith, step)), (omega (arith, time), omega (arith, step)))

    push : (path : List Edge) (e : Edge) → NoDelay (sum_along path) → AddsNothing e → NoDelay (sum_along (path ++ e ∷ []))
    push path e is adds =
        let time : (sum_along (path ++ e ∷ [])).time ≡ (sum_along path).time + e.weight.time = sum_time path e in
        let step : (sum_along (path ++ e ∷ [])).step ≡ (sum_along path).step + e.weight.step = sum_step path e in
        let t0 : (sum_along path).time ≡ 0 = is.0 in
        let s0 : (sum_along path).step ≡ 0 = is.1 in
        let t1 : e.weight.time ≡ 0 = adds.0 in
        let s1 : e.weight.step ≡ 0 = adds.1 in
        (omega (arith, time, t0, t1), omega (arith, step, s0, s1))
