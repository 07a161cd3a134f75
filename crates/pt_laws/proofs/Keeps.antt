-- What a platform keeps: how what waits, what was claimed, what was posted, taken and sent hang together.
use Rattle.std.proofs.Common.{◌≡◌, ℕ, ◌==◌, ◌≢◌, true, false, List, [], ◌∷◌, ◌++◌, Option, Some, None, ℤ, refl, sym, ap, ap₂, subst, ◌∙◌, ⊎_elim, append-nil, eqb-true, eq-eqb}
use Rattle.std.proofs.lemmas.Bool.{cases_Bool, cases_eq, cond-true, cond-false}
use Rattle.pt_types.specs.declared.graph.Graph.{Graph}
use Rattle.pt_types.specs.declared.kind.Kind.{Kind}
use Rattle.pt_types.specs.declared.graph.Unit.{Unit}
use Rattle.pt_semantics.specs.Lists.{IsIn}
use Rattle.pt_semantics.specs.Edges.{first_state}
use Rattle.pt_types.specs.Lookups.{kind_of}
use Rattle.pt_semantics.specs.Units.{at_input, unit_inputs, HasEvent, first_port, unit_of}
use Rattle.pt_types.specs.Groups.{input_group}
use Rattle.pt_semantics.specs.Firing.{fired, any_present}
use Rattle.pt_semantics.specs.Behaviours.{Firing, Firings}
use Rattle.pt_semantics.specs.Meaning.{put_state}
use Rattle.pt_semantics.specs.Parts.{narrowed}
use Rattle.pt_types.specs.declared.firing.Task.{Task}
use Rattle.pt_semantics.specs.Platform.{State, put_busy}
use Rattle.pt_semantics.specs.History.{firing_by}
use Rattle.pt_semantics.proofs.Lookups.{none_some, cases_part}
use Rattle.pt_semantics.proofs.Floor.{put_same, put_other}
use Rattle.pt_semantics.proofs.Claiming.{more, more_same, more_other, more_found, AtPort, event_found}
use Rattle.pt_laws.proofs.Threads.{IsFiring, Threaded, last_state, threaded_push, last_push, keeps_last, kind_cases, inputs_shape}

-- the firing of an open claim
abbrev pub open_list : Graph → Option Task → List Firing
open_list g None = []
open_list g (Some task) = firing_by g task ∷ []

-- claimed firings c, posted firings q
pub record Chains (g : Graph) (busy : Unit → Option Task) (states : ℕ → ℤ) (c q : Firings) : Type 0 where
  pub open_is : (u : Unit) → c u ≡ q u ++ open_list g (busy u)
  pub threaded : (u : Unit) → Threaded (kind_of g u.actor) u.group (first_state (kind_of g u.actor)) (c u)
  pub states_are : (a p : ℕ) → busy (at_input g a p) ≡ None → states a ≡ last_state (first_state (kind_of g a)) (c (at_input g a p))
  pub real : (u : Unit) (x : Firing) → IsIn x (c u) → (p : ℕ) × (at_input g u.actor p ≡ u)

same_groups : (k : Kind) (p o : ℕ) → ((m n : ℕ) → input_group k m ≡ input_group k n) → input_group k p ≡ input_group k o
same_groups k p o h = h p o

pub chains_post : (g : Graph) (busy : Unit → Option Task) (states : ℕ → ℤ) (c q : Firings) (task : Task) (result : ℤ) → Chains g busy states c q → busy (unit_of g task) ≡ Some task → result ≡ (firing_by g task).after → Chains g (put_busy busy (unit_of g task) None) (put_state states task.actor result) c (more q (unit_of g task) (firing_by g task))
chains_post g busy states c q task result h is_open res = record {
  open_is = λ u.
      ⊎_elim
      (λ (here : w ≡ u).
      h.open_is u ∙ ap (λ o. q u ++ open_list g o) (sym (ap busy here) ∙ is_open) ∙ sym (more_same q w u x here)
      ∙ sym (append-nil (more q w x u)) ∙ ap (λ o. more q w x u ++ open_list g o) (sym (put_same busy w u None here)))
      (λ (there : w ≢ u).
      h.open_is u ∙ ap₂ (λ l o. l ++ open_list g o) (sym (more_other q w u x there)) (sym (put_other busy w u None there)))
      (cases_part w u);
  threaded = h.threaded;
  states_are = λ a p free.
      ⊎_elim
      (λ (here : w ≡ at_input g a p).
      let actor : task.actor ≡ a = ap (λ (v : Unit). v.actor) here in
      put_here states task.actor a result actor ∙ res
      ∙ sym (last_push (first_state (kind_of g a)) (q w) x)
      ∙ ap (last_state (first_state (kind_of g a))) (sym c_here ∙ ap c here))
      (λ (there : w ≢ at_input g a p).
      ⊎_elim
      (λ (actor : task.actor ≡ a). same_actor a p there actor (sym (put_other busy w (at_input g a p) None there) ∙ free))
      (λ (other : task.actor ≡ a → ⊥).
      put_there states task.actor a result other ∙ h.states_are a p (sym (put_other busy w (at_input g a p) None there) ∙ free))
      (cases_eq task.actor a))
      (cases_part w (at_input g a p));
  real = h.real;
}
  where
    w : Unit
    w = unit_of g task

    x : Firing
    x = firing_by g task

    c_here : c w ≡ q w ++ x ∷ []
    c_here = h.open_is w ∙ ap (λ o. q w ++ open_list g o) is_open

    put_here : (states : ℕ → ℤ) (b a : ℕ) (v : ℤ) → b ≡ a → put_state states b v a ≡ v
    put_here states b a v e = cond-true (a == b) v (states a) (eq-eqb a b (sym e))

    put_there : (states : ℕ → ℤ) (b a : ℕ) (v : ℤ) → (b ≡ a → ⊥) → put_state states b v a ≡ states a
    put_there states b a v ne = cond-false (a == b) v (states a) (⊎_elim (λ (t : (a == b) ≡ true). absurd (ne (sym (eqb-true a b t)))) (λ (f : (a == b) ≡ false). f) (cases_Bool (a == b)))

    -- another unit of the same actor: its kind keeps the state
    same_actor : (a p : ℕ) → w ≢ at_input g a p → task.actor ≡ a → busy (at_input g a p) ≡ None → put_state states task.actor result a ≡ last_state (first_state (kind_of g a)) (c (at_input g a p))
    same_actor a p there actor free =
        ⊎_elim
        (λ (one : (m n : ℕ) → input_group (kind_of g a) m ≡ input_group (kind_of g a) n).
        absurd (there (
        let groups : w.group ≡ input_group (kind_of g a) p = ap (λ b. input_group (kind_of g b) (first_port task.inputs)) actor ∙ one (first_port task.inputs) p in
        λ j. record { actor = actor j; group = groups j })))
        (λ (keeps : (r : ℤ) (inputs : List (Option ℤ)) → (fired (kind_of g a) r inputs).state ≡ r).
        let keeps_w : (r : ℤ) (inputs : List (Option ℤ)) → (fired (kind_of g task.actor) r inputs).state ≡ r = λ r inputs. ap (λ b. (fired (kind_of g b) r inputs).state) actor ∙ keeps r inputs in
        put_here states task.actor a result actor ∙ res
        ∙ sym (last_push (first_state (kind_of g task.actor)) (q w) x)
        ∙ keeps_last (kind_of g task.actor) w.group (first_state (kind_of g task.actor)) (q w ++ x ∷ []) keeps_w (subst (λ l. Threaded (kind_of g task.actor) w.group (first_state (kind_of g task.actor)) l) c_here (h.threaded w))
        ∙ ap (λ b. first_state (kind_of g b)) actor
        ∙ sym (keeps_last (kind_of g a) (at_input g a p).group (first_state (kind_of g a)) (c (at_input g a p)) keeps (h.threaded (at_input g a p))))
        (kind_cases (kind_of g a))

pub chains_claim : (g : Graph) (s : State) (c q : Firings) (task : Task) → Chains g s.busy s.states c q → s.busy (unit_of g task) ≡ None → HasEvent g s.waits (unit_of g task) task.tag → task.inputs ≡ unit_inputs g s.waits (unit_of g task) task.tag → task.state ≡ s.states task.actor → Chains g (put_busy s.busy (unit_of g task) (Some task)) s.states (more c (unit_of g task) (firing_by g task)) q
chains_claim g s c q task h free event inputs state = record {
  open_is = λ u.
      ⊎_elim
      (λ (here : w ≡ u).
      more_same c w u x here
      ∙ ap (λ l. l ++ x ∷ []) (h.open_is u ∙ ap (λ o. q u ++ open_list g o) (sym (ap s.busy here) ∙ free) ∙ append-nil (q u))
      ∙ ap (λ o. q u ++ open_list g o) (sym (put_same s.busy w u (Some task) here)))
      (λ (there : w ≢ u).
      more_other c w u x there ∙ h.open_is u ∙ ap (λ o. q u ++ open_list g o) (sym (put_other s.busy w u (Some task) there)))
      (cases_part w u);
  threaded = λ u.
      ⊎_elim
      (λ (here : w ≡ u).
      subst (λ v. Threaded (kind_of g v.actor) v.group (first_state (kind_of g v.actor)) (more c w x v)) here
      (subst (λ l. Threaded (kind_of g w.actor) w.group (first_state (kind_of g w.actor)) l) (sym (more_same c w w x refl))
      (threaded_push (kind_of g w.actor) w.group (first_state (kind_of g w.actor)) (c w) x (h.threaded w) fires)))
      (λ (there : w ≢ u). subst (λ l. Threaded (kind_of g u.actor) u.group (first_state (kind_of g u.actor)) l) (sym (more_other c w u x there)) (h.threaded u))
      (cases_part w u);
  states_are = λ a p none.
      ⊎_elim
      (λ (here : w ≡ at_input g a p). absurd (none_some task (sym none ∙ put_same s.busy w (at_input g a p) (Some task) here)))
      (λ (there : w ≢ at_input g a p).
      h.states_are a p (sym (put_other s.busy w (at_input g a p) (Some task) there) ∙ none)
      ∙ ap (last_state (first_state (kind_of g a))) (sym (more_other c w (at_input g a p) x there)))
      (cases_part w (at_input g a p));
  real = λ u y mem.
      ⊎_elim
      (λ (old : IsIn y (c u)). h.real u y old)
      (λ (new : (w ≡ u) × (y ≡ x)). subst (λ v. (p : ℕ) × (at_input g v.actor p ≡ v)) new.0 (at.port, at.unit))
      (more_found c w u x y mem);
}
  where
    w : Unit
    w = unit_of g task

    x : Firing
    x = firing_by g task

    at : AtPort g s.waits (unit_of g task) task.tag
    at = event_found g s.waits (unit_of g task) task.tag event

    fires : IsFiring (kind_of g w.actor) w.group (last_state (first_state (kind_of g w.actor)) (c w)) x
    fires =
        let here : s.states w.actor ≡ last_state (first_state (kind_of g w.actor)) (c w) =
        h.states_are w.actor at.port (ap s.busy at.unit ∙ free) ∙ ap (λ v. last_state (first_state (kind_of g w.actor)) (c v)) at.unit in
        let is : x.before ≡ last_state (first_state (kind_of g w.actor)) (c w) = state ∙ here in
        record {
          before = is;
          after = ap (λ z. (fired (kind_of g w.actor) z task.inputs).state) is;
          outputs = ap (λ z. (fired (kind_of g w.actor) z task.inputs).outputs) is;
          present = ap any_present inputs ∙ event;
          shape = ap (narrowed (kind_of g w.actor) w.group) inputs ∙ inputs_shape g s.waits w task.tag ∙ sym inputs;
        }
