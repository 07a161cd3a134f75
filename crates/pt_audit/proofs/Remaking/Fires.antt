-- Results of claims by their numbers, one by one.
use Rattle.std.proofs.Common.{◌≡◌, ℕ, ◌+◌, ◌<◌, true, false, List, [], ◌∷◌, ◌++◌, Some, length, slice_get, refl, sym, ap, subst, ◌∙◌, ⊎_elim, arith, length-append, eqb-true, eq-eqb}
use Rattle.std.specs.Prelude.{◌==◌}
use Rattle.std.proofs.lemmas.Bool.{cases_Bool, false≢true}
use Rattle.std.proofs.lemmas.Option.{slice_get_within}
use Rattle.pt_types.specs.declared.graph.Graph.{Graph}
use Rattle.pt_types.specs.declared.firing.Done.{Done}
use Rattle.pt_types.specs.declared.firing.Task.{Task}
use Rattle.pt_semantics.proofs.Lookups.{Each-append, none_some, same_some}
use Rattle.pt_turn.specs.Posts.Posted.{AreDone, IsDone}
use Rattle.pt_audit.specs.Remaking.Steps.{AreOf}
use Rattle.pt_audit.proofs.Remaking.Tidy.{at_before, at_front, at_seam}

-- the claims with these numbers were fired
pub record FiresOn (g : Graph) (claims : List Task) (numbers : List ℕ) (dones : List Done) : Type 0 where
  pub done : AreDone g dones
  pub are : AreOf claims numbers dones

pub nothing_fired : (g : Graph) (claims : List Task) (dones : List Done) → dones ≡ [] → FiresOn g claims [] dones
nothing_fired g claims dones none = subst (FiresOn g claims []) (sym none) (record { done = tt; are = record { count = refl; each = λ k number at. absurd (none_some number at) } })

pub one_fires : (g : Graph) (claims : List Task) (numbers : List ℕ) (dones : List Done) (number : ℕ) (d : Done) → FiresOn g claims numbers dones → slice_get claims number ≡ Some d.task → IsDone g d → FiresOn g claims (numbers ++ number ∷ []) (dones ++ d ∷ [])
one_fires g claims numbers dones number d h task done = record {
  done = Each-append (IsDone g) dones (d ∷ []) h.done (done, tt);
  are = record {
    count =
        let a : length (dones ++ d ∷ []) ≡ length dones + 1 = length-append dones (d ∷ []) in
        let b : length (numbers ++ number ∷ []) ≡ length numbers + 1 = length-append numbers (number ∷ []) in
        let n : length dones ≡ length numbers = h.are.count in
        omega (arith, a, b, n);
    each = λ k n at.
        let b : length (numbers ++ number ∷ []) ≡ length numbers + 1 = length-append numbers (number ∷ []) in
        let within : k < length (numbers ++ number ∷ []) = slice_get_within (numbers ++ number ∷ []) k n at in
        ⊎_elim
        (λ (here : (k == length numbers) ≡ true).
        let k_is : k ≡ length numbers = eqb-true k (length numbers) here in
        let n_is : n ≡ number = same_some n number (sym at ∙ ap (slice_get (numbers ++ number ∷ [])) k_is ∙ at_seam numbers [] number) in
        (d, ap (slice_get (dones ++ d ∷ [])) (k_is ∙ sym h.are.count) ∙ at_seam dones [] d, ap (slice_get claims) n_is ∙ task))
        (λ (there : (k == length numbers) ≡ false).
        let apart : k ≡ length numbers → ⊥ = λ same. false≢true (sym there ∙ eq-eqb k (length numbers) same) in
        let lt : k < length numbers = omega (arith, within, b, apart) in
        let old = h.are.each k n (at_front numbers (number ∷ []) k n lt at) in
        (old.0, at_before dones (d ∷ []) k old.0 old.1, old.2))
        (cases_Bool (k == length numbers));
  };
}
