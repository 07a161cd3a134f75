-- The wires of each actor, from the last wire to the first.
use Rattle.std.proofs.Common.{◌≡◌, ℕ, zero, suc, refl, inl, inr, [], ◌∷◌, ◌++◌, map, ◌+◌, ◌<◌, ◌≤◌, List, Some, length, set, get_or, sym, ap, subst, ◌∙◌, ⊎_elim, arith, replicate}
use Rattle.std.specs.Prelude.{slice_get}
use Rattle.std.proofs.lemmas.Bool.{cases_eq}
use Rattle.std.proofs.lemmas.List.{length-set, length-replicate, get_or-replicate, get_or-set_same, get_or-set_other}
use Rattle.std.proofs.lemmas.Option.{slice_get_within, slice_get_past}
use Rattle.pt_types.specs.declared.graph.Wire.{Wire}
use Rattle.pt_types.specs.declared.graph.Graph.{Graph}
use Rattle.pt_semantics.specs.Edges.{edges, links, of_wire, wires}
use Rattle.pt_semantics.specs.Lists.{IsIn}
use Rattle.pt_semantics.proofs.Lookups.{IsIn-append_left, none_some, same_some}
use Rattle.pt_causality.specs.Branches.{IsNextWire}

-- the places of the wires from place j on
pub record AreNext (ws : List Wire) (actors j : ℕ) (first next : List ℕ) : Type 0 where
  pub actors_len : length first ≡ actors
  pub wires_len : length next ≡ length ws
  pub firsts : (a : ℕ) → a < actors → IsNextWire ws a j (get_or first a 0)
  pub nexts : (i : ℕ) (w : Wire) → j ≤ i → slice_get ws i ≡ Some w → IsNextWire ws w.from (i + 1) (get_or next i 0)

-- one wire more, in front of the others
pub one_before : (ws : List Wire) (actors j : ℕ) (first next : List ℕ) (w : Wire) → slice_get ws j ≡ Some w → w.from < actors → AreNext ws actors (j + 1) first next → AreNext ws actors j (set first w.from j) (set next j (get_or first w.from 0))
one_before ws actors j first next w at from is = record {
  actors_len = length-set first w.from j ∙ is.actors_len;
  wires_len = length-set next j (get_or first w.from 0) ∙ is.wires_len;
  firsts = λ a lt. ⊎_elim
      (λ (e : a ≡ w.from). subst (IsNextWire ws a j) (sym (ap (λ k. get_or (set first w.from j) k 0) e ∙ get_or-set_same first w.from j 0 (subst (λ n. w.from < n) (sym is.actors_len) from))) (record {
        later = omega arith;
        none = λ i v le below. absurd (omega (arith, le, below));
        is = λ v here. ap (λ (x : Wire). x.from) (same_some v w (sym here ∙ at)) ∙ sym e;
      }))
      (λ (ne : a ≡ w.from → ⊥).
      let rest : IsNextWire ws a (j + 1) (get_or first a 0) = is.firsts a lt in
      let later : j + 1 ≤ get_or first a 0 = rest.later in
      subst (IsNextWire ws a j) (sym (get_or-set_other first w.from a j 0 ne)) (record {
        later = omega (arith, later);
        none = λ i v le below here of. ⊎_elim
            (λ (e : i ≡ j). ne (sym of ∙ ap (λ (x : Wire). x.from) (same_some v w (sym here ∙ ap (slice_get ws) e ∙ at))))
            (λ (other : i ≡ j → ⊥). rest.none i v (omega (arith, le, other)) below here of)
            (cases_eq i j);
        is = rest.is;
      }))
      (cases_eq a w.from);
  nexts = λ i v le here. ⊎_elim
      (λ (e : i ≡ j).
      let same : v ≡ w = same_some v w (sym here ∙ ap (slice_get ws) e ∙ at) in
      let within : j < length next = subst (λ n. j < n) (sym is.wires_len) (slice_get_within ws j w at) in
      subst (IsNextWire ws v.from (i + 1)) (sym (ap (λ k. get_or (set next j (get_or first w.from 0)) k 0) e ∙ get_or-set_same next j (get_or first w.from 0) 0 within))
      (subst (λ (x : Wire). IsNextWire ws x.from (i + 1) (get_or first w.from 0)) (sym same) (subst (λ k. IsNextWire ws w.from (k + 1) (get_or first w.from 0)) (sym e) (is.firsts w.from from))))
      (λ (ne : i ≡ j → ⊥). subst (IsNextWire ws v.from (i + 1)) (sym (get_or-set_other next j i (get_or first w.from 0) 0 ne)) (is.nexts i v (omega (arith, le, ne)) here))
      (cases_eq i j);
}

-- none at first
pub none_before : (ws : List Wire) (actors : ℕ) → AreNext ws actors (length ws) (replicate actors (length ws)) (replicate (length ws) (length ws))
none_before ws actors = record {
  actors_len = length-replicate {A = ℕ} actors (length ws);
  wires_len = length-replicate {A = ℕ} (length ws) (length ws);
  firsts = λ a lt. subst (IsNextWire ws a (length ws)) (sym (get_or-replicate {A = ℕ} actors a (length ws) 0 lt)) (record {
    later = omega arith;
    none = λ i w le below here. absurd (omega (arith, le, below));
    is = λ w here. absurd (none_some w (sym (slice_get_past ws (length ws) (omega arith)) ∙ here));
  });
  nexts = λ i w le here. let lt = slice_get_within ws i w here in absurd (omega (arith, le, lt));
}

-- a wire of the graph is among its edges
pub at_in : (g : Graph) (ws : List Wire) (i : ℕ) (d : Wire) → i < length ws → IsIn (of_wire g (get_or ws i d)) (map (of_wire g) ws)
at_in g [] i d lt = absurd (omega arith)
at_in g (w ∷ ws) zero d lt = inl refl
at_in g (w ∷ ws) (suc i) d lt = inr (at_in g ws i d (omega arith))

pub wire_in : (g : Graph) (ws : List Wire) (i : ℕ) (d : Wire) → ws ≡ g.wires → i < length ws → IsIn (of_wire g (get_or ws i d)) (edges g)
wire_in g ws i d same lt = subst (λ l. IsIn (of_wire g (get_or ws i d)) (map (of_wire g) l ++ links g)) same (IsIn-append_left (of_wire g (get_or ws i d)) (map (of_wire g) ws) (links g) (at_in g ws i d lt))

pub wire_among : (g : Graph) (ws : List Wire) (i : ℕ) (d : Wire) → ws ≡ g.wires → i < length ws → IsIn (of_wire g (get_or ws i d)) (wires g)
wire_among g ws i d same lt = subst (λ l. IsIn (of_wire g (get_or ws i d)) (map (of_wire g) l)) same (at_in g ws i d lt)
