-- One wire more among those that leave each unit.
use Rattle.std.proofs.Common.{◌≡◌, ◌≢◌, ℕ, ◌+◌, ◌<◌, List, [], ◌∷◌, ◌++◌, map, filter, take, length, slice_index_or, slice_set, cond, refl, sym, ap, subst, ◌∙◌, ⊎_elim, append-nil, get_or-set_same, get_or-set_other}
use Rattle.std.proofs.lemmas.Bool.{eq-eqb, ne_eqb}
use Rattle.std.proofs.lemmas.List.{map-append, take_more}
use Rattle.std.proofs.lemmas.List.Elements.{filter-append}
use Rattle.pt_types.specs.declared.graph.Graph.{Graph}
use Rattle.pt_semantics.specs.Edges.{Edge}
use Rattle.pt_semantics.specs.Units.{source}
use Rattle.pt_causality.specs.declared.arcs.Arc.{Arc}
use Rattle.pt_causality.specs.Cells.{number_in}
use Rattle.pt_causality.specs.Arcs.{arcs_from, arc_of, leaves_place}
use Rattle.pt_causality.proofs.Members.{cases_nat}

module _ (g : Graph) (firsts : List ℕ) where
  of_place : ℕ → List Edge → List Arc
  of_place j es = map (arc_of g firsts) (filter (leaves_place g firsts j) es)

  of_more : (j i : ℕ) (es : List Edge) (d : Edge) → i < length es → of_place j (take (i + 1) es) ≡ of_place j (take i es) ++ of_place j (slice_index_or es i d ∷ [])
  unfolding of_place
  of_more j i es d less =
      ap (λ z. map (arc_of g firsts) (filter (leaves_place g firsts j) z)) (take_more es i d less)
      ∙ ap (map (arc_of g firsts)) (filter-append (leaves_place g firsts j) (take i es) (slice_index_or es i d ∷ []))
      ∙ map-append (arc_of g firsts) (filter (leaves_place g firsts j) (take i es)) (filter (leaves_place g firsts j) (slice_index_or es i d ∷ []))

  of_one : (j : ℕ) (e : Edge) → number_in firsts (source g e) ≡ j → of_place j (e ∷ []) ≡ arc_of g firsts e ∷ []
  unfolding of_place
  of_one j e h = ap (λ b. map (arc_of g firsts) (cond b (e ∷ []) [])) (eq-eqb (number_in firsts (source g e)) j h)

  of_other : (j : ℕ) (e : Edge) → number_in firsts (source g e) ≢ j → of_place j (e ∷ []) ≡ []
  unfolding of_place
  of_other j e h = ap (λ b. map (arc_of g firsts) (cond b (e ∷ []) [])) (ne_eqb (number_in firsts (source g e)) j h)

  pub one_wire : (es : List Edge) (i : ℕ) (d : Edge) (all : List (List Arc)) (these : List Arc) (from : ℕ) → i < length es → from ≡ number_in firsts (source g (slice_index_or es i d)) → from < length all
      → these ≡ arcs_from all from ++ arc_of g firsts (slice_index_or es i d) ∷ []
      → ((j : ℕ) → j < length all → arcs_from all j ≡ map (arc_of g firsts) (filter (leaves_place g firsts j) (take i es)))
      → (j : ℕ) → j < length all → arcs_from (slice_set all from these) j ≡ map (arc_of g firsts) (filter (leaves_place g firsts j) (take (i + 1) es))
  unfolding of_place
  one_wire es i d all these from less is within more before j small = ⊎_elim
      (λ (same : j ≡ from).
      subst (λ k. arcs_from (slice_set all from these) k ≡ of_place k (take (i + 1) es)) (sym same)
      (set_here
      ∙ more
      ∙ ap (λ z. z ++ arc_of g firsts (slice_index_or es i d) ∷ []) (before from within)
      ∙ ap (λ z. of_place from (take i es) ++ z) (sym (of_one from (slice_index_or es i d) (sym is)))
      ∙ sym (of_more from i es d less)))
      (λ (other : j ≢ from).
      set_there other
      ∙ before j small
      ∙ sym (append-nil (of_place j (take i es)))
      ∙ ap (λ z. of_place j (take i es) ++ z) (sym (of_other j (slice_index_or es i d) (λ e. other (sym e ∙ sym is))))
      ∙ sym (of_more j i es d less))
      (cases_nat j from)
    where
      set_here : arcs_from (slice_set all from these) from ≡ these
      set_here = rw get_or-set_same refl

      set_there : j ≢ from → arcs_from (slice_set all from these) j ≡ arcs_from all j
      set_there other = rw get_or-set_other refl
