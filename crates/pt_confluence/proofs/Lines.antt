-- The lines of an actuator are those of its unit's firings.
use Rattle.std.proofs.Common.{◌≡◌, ◌==◌, ◌&&◌, ℕ, suc, ◌+◌, true, false, List, [], ◌∷◌, ◌++◌, Option, Some, None, map, append_assoc, append-nil, arith, length, take, slice_index_or, ◌<◌, refl, sym, ap, ap₂, subst, ◌∙◌, ⊎_elim, slice_get, eqb-true}
use Rattle.std.specs.List.{cons_option, filter_map, flat_map}
use Rattle.std.proofs.lemmas.List.{map-append, take_more}
use Rattle.std.proofs.lemmas.List.Concat.{flat_map-append}
use Rattle.std.proofs.lemmas.Bool.{cases_Bool, cond-false, cond-true, and_from}
use Rattle.std.proofs.lemmas.Option.{get_or_from_slice_get, slice_get-get_or}
use Rattle.pt_types.specs.Ports.{at_port, eight}
use Rattle.pt_types.specs.declared.firing.ActorFiring.{ActorFiring}
use Rattle.pt_types.specs.declared.firing.Task.{Task}
use Rattle.pt_types.specs.declared.graph.Actor.{Actor}
use Rattle.pt_types.specs.declared.graph.Graph.{Graph}
use Rattle.pt_types.specs.declared.graph.Unit.{Unit}
use Rattle.pt_types.specs.declared.kind.Kind.{Kind}
use Rattle.pt_types.specs.declared.kind.Kind.TheVariants.{Actuator}
use Rattle.pt_semantics.specs.Behaviours.{Firing}
use Rattle.pt_types.specs.Groups.{no_actor}
use Rattle.pt_types.specs.Lookups.{kind_of}
use Rattle.pt_semantics.specs.Firing.{any_present, or_zero}
use Rattle.pt_semantics.specs.History.{firing_by, of_unit}
use Rattle.pt_semantics.specs.Lists.{Each}
use Rattle.pt_semantics.specs.Meaning.{Runs, World, after_firing}
use Rattle.pt_semantics.specs.Parts.{narrowed, part_by, part_of, parts}
use Rattle.pt_semantics.specs.Tables.{line, line_of, lines_of, table_of}
use Rattle.pt_semantics.specs.Units.{first_port, same_part, unit_of}
use Rattle.pt_types.specs.Groups.{input_group}
use Rattle.pt_semantics.proofs.Words.{when-false, when-true}
use Rattle.pt_history.specs.Tasks.{no_task}
use Rattle.pt_tables.specs.Gathered.{texts_from}
use Rattle.pt_confluence.specs.Gathered.{by_task}

-- the lines of firings of a unit
abbrev pub lines_by : List ℕ → List Firing → List ℕ
lines_by name [] = []
lines_by name (x ∷ xs) = line name x.tag (or_zero (at_port x.inputs 0)) ++ lines_by name xs

-- a firing that has an input
pub record HasInputs (x : ActorFiring) : Type 0 where
  pub ports : x.inputs ≡ eight (λ p. at_port x.inputs p)
  pub present : any_present x.inputs ≡ true

-- the unit of an actor that has one
abbrev pub lone : ℕ → Unit
lone a = record { actor = a; group = 0 }

lines_cons : (name : List ℕ) (o : Option Firing) (xs : List Firing) → lines_by name (cons_option o xs) ≡ lines_by name (cons_option o []) ++ lines_by name xs
lines_cons name None xs = refl
lines_cons name (Some x) xs = ap (λ l. l ++ lines_by name xs) (sym (append-nil (line name x.tag (or_zero (at_port x.inputs 0)))))

module _ (g : Graph) (a : ℕ) (name : List ℕ) (slack : ℕ) (kind : kind_of g a ≡ Actuator slack) where
  not_here : (x : ActorFiring) → (x.actor == a) ≡ false → line_of a name x ≡ []
  not_here x off = cond-false (x.actor == a) (line name x.tag (or_zero (at_port x.inputs 0))) [] off

  here : (x : ActorFiring) → (x.actor == a) ≡ true → line_of a name x ≡ line name x.tag (or_zero (at_port x.inputs 0))
  here x on = cond-true (x.actor == a) (line name x.tag (or_zero (at_port x.inputs 0))) [] on

  one_claimed : (task : Task) → lines_by name (cons_option (of_unit g (lone a) task) []) ≡ line_of a name (by_task task)
  one_claimed task =
      ⊎_elim
      (λ (on : (task.actor == a) ≡ true).
      let same : task.actor ≡ a = eqb-true task.actor a on in
      let group : (unit_of g task).group ≡ 0 = ap (λ n. input_group (kind_of g n) (first_port task.inputs)) same ∙ ap (λ k. input_group k (first_port task.inputs)) kind in
      let is : same_part (unit_of g task) (lone a) ≡ true = and_from (task.actor == a) ((unit_of g task).group == 0) on (ap (λ n. n == 0) group) in
      ap (λ o. lines_by name (cons_option o [])) (when-true (same_part (unit_of g task) (lone a)) (Some (firing_by g task)) is)
      ∙ append-nil (line name task.tag (or_zero (at_port task.inputs 0)))
      ∙ sym (here (by_task task) on))
      (λ (off : (task.actor == a) ≡ false).
      let is : same_part (unit_of g task) (lone a) ≡ false = ap (λ b. b && ((unit_of g task).group == 0)) off in
      ap (λ o. lines_by name (cons_option o [])) (when-false (same_part (unit_of g task) (lone a)) (Some (firing_by g task)) is)
      ∙ sym (not_here (by_task task) off))
      (cases_Bool (task.actor == a))

  one_meant : (x : ActorFiring) → HasInputs x → lines_by name (cons_option (part_of g (lone a) x) []) ≡ line_of a name x
  one_meant x has =
      ⊎_elim
      (λ (on : (x.actor == a) ≡ true).
      let part : part_of g (lone a) x ≡ part_by (Actuator slack) x x.inputs =
      when-true (x.actor == a) (part_by (kind_of g a) x (narrowed (kind_of g a) 0 x.inputs)) on
      ∙ ap (λ k. part_by k x (narrowed k 0 x.inputs)) kind ∙ ap (part_by (Actuator slack) x) (sym has.ports) in
      ap (λ o. lines_by name (cons_option o [])) (part ∙ when-true (any_present x.inputs) _ has.present)
      ∙ append-nil (line name x.tag (or_zero (at_port x.inputs 0)))
      ∙ sym (here x on))
      (λ (off : (x.actor == a) ≡ false).
      ap (λ o. lines_by name (cons_option o [])) (when-false (x.actor == a) (part_by (kind_of g a) x (narrowed (kind_of g a) 0 x.inputs)) off)
      ∙ sym (not_here x off))
      (cases_Bool (x.actor == a))

  lines_claimed : (tasks : List Task) → lines_of a name (map by_task tasks) ≡ lines_by name (filter_map (of_unit g (lone a)) tasks)
  lines_claimed [] = refl
  lines_claimed (task ∷ tasks) =
      ap₂ (λ l ls. l ++ ls) (sym (one_claimed task)) (lines_claimed tasks)
      ∙ sym (lines_cons name (of_unit g (lone a) task) (filter_map (of_unit g (lone a)) tasks))

  lines_meant : (xs : List ActorFiring) → Each HasInputs xs → lines_of a name xs ≡ lines_by name (parts g xs (lone a))
  lines_meant [] h = refl
  lines_meant (x ∷ xs) h =
      ap₂ (λ l ls. l ++ ls) (sym (one_meant x h.0)) (lines_meant xs h.1)
      ∙ sym (lines_cons name (part_of g (lone a) x) (parts g xs (lone a)))

-- each firing of a meaning has an input
pub have_inputs : (g : Graph) (rank : ℕ → ℕ) (w : World) (xs : List ActorFiring) → Runs g rank w xs → Each HasInputs xs
have_inputs g rank w [] h = tt
have_inputs g rank w (x ∷ xs) h = (
  record { ports = subst (λ is. is ≡ eight (λ p. at_port is p)) (sym h.0.inputs) refl; present = h.0.present },
  have_inputs g rank (after_firing g w x) xs h.1,
)

-- where the claims are the parts of firings, the tables are theirs
module _ (g : Graph) (tasks : List Task) (xs : List ActorFiring) (inputs : Each HasInputs xs) (same : (u : Unit) → filter_map (of_unit g u) tasks ≡ parts g xs u) where
  same_table : (a : ℕ) (name : List ℕ) (kind : Kind) → kind_of g a ≡ kind → table_of a name kind (map by_task tasks) ≡ table_of a name kind xs
  same_table a name (Actuator slack) is =
      lines_claimed g a name slack is tasks ∙ ap (lines_by name) (same (lone a)) ∙ sym (lines_meant g a name slack is xs inputs)
  same_table a name _ is = refl

  same_from : (s : ℕ) (actors : List Actor) → ((i : ℕ) (actor : Actor) → slice_get actors i ≡ Some actor → kind_of g (s + i) ≡ actor.kind) → texts_from s actors (map by_task tasks) ≡ texts_from s actors xs
  same_from s [] kinds = refl
  same_from s (actor ∷ actors) kinds =
      ap₂ (λ t ts. t ∷ ts)
      (same_table s actor.name actor.kind (ap (kind_of g) (omega arith) ∙ kinds 0 actor refl))
      (same_from (suc s) actors (λ i y h. ap (kind_of g) (omega arith) ∙ kinds (suc i) y h))

  pub same_texts : texts_from 0 g.actors (map by_task tasks) ≡ texts_from 0 g.actors xs
  same_texts = same_from 0 g.actors (λ i actor h. ap (kind_of g) (omega arith) ∙ ap (λ (y : Actor). y.kind) (get_or_from_slice_get g.actors i actor no_actor h))

-- one task more
pub next_task : (tasks : List Task) (i : ℕ) → i < length tasks → (task : Task) × (slice_get tasks i ≡ Some task) × ((xs : List ActorFiring) → (xs ++ map by_task (take i tasks)) ++ by_task task ∷ [] ≡ xs ++ map by_task (take (i + 1) tasks))
next_task tasks i lt =
    let task : Task = slice_index_or tasks i no_task in
    let at : slice_get tasks i ≡ Some task = slice_get-get_or tasks i no_task lt in (
      task,
      at,
      λ xs.
          append_assoc xs (map by_task (take i tasks)) (by_task task ∷ [])
          ∙ ap (λ ys. xs ++ ys) (sym (map-append by_task (take i tasks) (task ∷ [])) ∙ ap (map by_task) (sym (take_more tasks i no_task lt))),
    )

-- the tasks of one more of some others
pub more_tasks : {X : Type 0} (f : X → List Task) (ys : List X) (i : ℕ) (y : X) → i < length ys → y ≡ slice_index_or ys i y → flat_map f (take i ys) ++ f y ≡ flat_map f (take (i + 1) ys)
more_tasks f ys i y lt is =
    ap (λ zs. flat_map f (take i ys) ++ zs) (sym (append-nil (f y)) ∙ ap (λ z. flat_map f (z ∷ [])) is)
    ∙ sym (flat_map-append f (take i ys) (slice_index_or ys i y ∷ []))
    ∙ ap (flat_map f) (sym (take_more ys i y lt))

pub more_of : {X : Type 0} (f : X → List Task) (xs : List ActorFiring) (ys : List X) (i : ℕ) (y : X) → i < length ys → y ≡ slice_index_or ys i y → (xs ++ map by_task (flat_map f (take i ys))) ++ map by_task (f y) ≡ xs ++ map by_task (flat_map f (take (i + 1) ys))
more_of f xs ys i y lt is =
    append_assoc xs (map by_task (flat_map f (take i ys))) (map by_task (f y))
    ∙ ap (λ zs. xs ++ zs) (sym (map-append by_task (flat_map f (take i ys)) (f y)) ∙ ap (map by_task) (more_tasks f ys i y lt is))
