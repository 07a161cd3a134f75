-- The firing of the actor that comes first, and the world after it.
use Rattle.std.proofs.Common.{◌≡◌, ℕ, zero, suc, ◌==◌, ◌&&◌, Bool, true, false, cond, nat_lt, None, Option, ℤ, pos, List, [], ◌∷◌, ◌++◌, map, filter, refl, sym, ap, ap₂, subst, ◌∙◌, slice_index_or}
use Rattle.pt_tags.specs.declared.tag.Tag.{Tag}
use Rattle.pt_tags.specs.Tags.{same_tag, plus}
use Rattle.pt_types.specs.declared.graph.Graph.{Graph}
use Rattle.pt_types.specs.declared.graph.Actor.{Actor}
use Rattle.pt_types.specs.declared.graph.Edge.{Edge}
use Rattle.pt_types.specs.Ports.{when, at_port}
use Rattle.pt_semantics.specs.Lists.{or_else, first_of, Each}
use Rattle.pt_semantics.specs.Edges.{edges, first_state}
use Rattle.pt_types.specs.Groups.{no_actor}
use Rattle.pt_types.specs.Lookups.{kind_of}
use Rattle.pt_semantics.specs.Firing.{any_present}
use Rattle.pt_semantics.specs.Meaning.{Values, World, ActorFiring, IsFirst, Fires, Steps, Runs, added, going, without, waiting, put_state, leaves_actor, after_firing}
use Rattle.pt_meaning.specs.Emission.{IsUsable, AddsOneStep, LeavesActor}
use Rattle.pt_meaning.specs.Running.{states_from, state_at_start, actor_firing}
use Rattle.pt_meaning.proofs.Currents.{equal_then}

pub fires_by : (g : Graph) (rank : ℕ → ℕ) (w : World) (a : ℕ) (t : Tag) → IsFirst rank w.waits a t → any_present (waiting w.waits a t) ≡ true
    → Fires g rank w (actor_firing g w.states a t (waiting w.waits a t))
fires_by g rank w a t first present = record { first = first; inputs = refl; present = present; before = refl; after = refl; outputs = refl }

-- edges that leave another actor carry nothing
abbrev nothing_sent : Option ℤ
nothing_sent = None

hop_filtered : (actor a p : ℕ) (t u : Tag) (outputs : List (Option ℤ)) (e : Edge) (es : List Edge) (b : Bool) → (e.from == actor) ≡ b
    → first_of (λ (x : Edge). when (x.to == a && x.input == p) (when (leaves_actor actor x && same_tag (plus t x.weight) u) (at_port outputs x.output))) (filter (leaves_actor actor) es)
    ≡ first_of (λ (x : Edge). when (x.to == a && x.input == p) (when (leaves_actor actor x && same_tag (plus t x.weight) u) (at_port outputs x.output))) es
    → first_of (λ (x : Edge). when (x.to == a && x.input == p) (when (leaves_actor actor x && same_tag (plus t x.weight) u) (at_port outputs x.output))) (cond b (e ∷ filter (leaves_actor actor) es) (filter (leaves_actor actor) es))
    ≡ or_else (when (e.to == a && e.input == p) (when ((e.from == actor) && same_tag (plus t e.weight) u) (at_port outputs e.output)))
    (first_of (λ (x : Edge). when (x.to == a && x.input == p) (when (leaves_actor actor x && same_tag (plus t x.weight) u) (at_port outputs x.output))) es)
hop_filtered actor a p t u outputs e es true leaves rest = ap (or_else (when (e.to == a && e.input == p) (when ((e.from == actor) && same_tag (plus t e.weight) u) (at_port outputs e.output)))) rest
hop_filtered actor a p t u outputs e es false leaves rest =
    rest ∙ sym (ap (λ (x : Option ℤ). or_else x (first_of (λ (x : Edge). when (x.to == a && x.input == p) (when (leaves_actor actor x && same_tag (plus t x.weight) u) (at_port outputs x.output))) es))
    (ap (λ b. when (e.to == a && e.input == p) (when (b && same_tag (plus t e.weight) u) (at_port outputs e.output))) leaves ∙ silent (e.to == a && e.input == p)))
  where
    silent : (b : Bool) → when b nothing_sent ≡ nothing_sent
    silent true = refl
    silent false = refl

first_filtered : (actor a p : ℕ) (t u : Tag) (outputs : List (Option ℤ)) (es : List Edge)
    → first_of (λ (x : Edge). when (x.to == a && x.input == p) (when (leaves_actor actor x && same_tag (plus t x.weight) u) (at_port outputs x.output))) (filter (leaves_actor actor) es)
    ≡ first_of (λ (x : Edge). when (x.to == a && x.input == p) (when (leaves_actor actor x && same_tag (plus t x.weight) u) (at_port outputs x.output))) es
first_filtered actor a p t u outputs [] = refl
first_filtered actor a p t u outputs (e ∷ es) = hop_filtered actor a p t u outputs e es (e.from == actor) refl (first_filtered actor a p t u outputs es)

-- what leaves an actor goes along the edges that leave it
pub going_filtered : (g : Graph) (actor : ℕ) (t : Tag) (outputs : List (Option ℤ)) (es : List Edge)
    → going g (filter (leaves_actor actor) es) (leaves_actor actor) t outputs ≡ going g es (leaves_actor actor) t outputs
going_filtered g actor t outputs es = λ i a p u. when (nat_lt u.time (suc g.until)) (first_filtered actor a p t u outputs es i)

pub after_by : (g : Graph) (w : World) (x : ActorFiring) (a : ℕ) (t : Tag) (taken now : Values) (states : ℕ → ℤ) (leaving : List Edge) → x.actor ≡ a → x.tag ≡ t
    → taken ≡ without w.waits a t → leaving ≡ filter (leaves_actor a) (edges g) → now ≡ added taken (going g leaving (leaves_actor a) t x.outputs) → states ≡ put_state w.states a x.after
    → record { waits = now; states = states } ≡ after_firing g w x
after_by g w x a t taken now states leaving actor tag was edges_are put after =
    let waits : now ≡ added (without w.waits x.actor x.tag) (going g (edges g) (leaves_actor x.actor) x.tag x.outputs) =
    put
    ∙ ap₂ (λ v es. added v (going g es (leaves_actor a) t x.outputs)) was edges_are
    ∙ ap (added (without w.waits a t)) (going_filtered g a t x.outputs (edges g))
    ∙ ap₂ (λ b u. added (without w.waits b u) (going g (edges g) (leaves_actor b) u x.outputs)) (sym actor) (sym tag) in
    let kept : states ≡ put_state w.states x.actor x.after = after ∙ ap (λ b. put_state w.states b x.after) (sym actor) in
    λ i. record { waits = waits i; states = kept i }

-- a fact of each is one of each that passes a test
kept_by : {X : Type 0} (P : X → Type 0) (b : Bool) (x : X) (xs : List X) → P x → Each P xs → Each P (cond b (x ∷ xs) xs)
kept_by P true x xs p ps = (p, ps)
kept_by P false x xs p ps = ps

pub each_filter : {X : Type 0} (P : X → Type 0) (test : X → Bool) (xs : List X) → Each P xs → Each P (filter test xs)
each_filter P test [] each = tt
each_filter P test (x ∷ xs) each = kept_by P (test x) x (filter test xs) each.0 (each_filter P test xs each.1)

pub each_adds : (n : ℕ) (es : List Edge) → Each (IsUsable n) es → Each AddsOneStep es
each_adds n [] each = tt
each_adds n (e ∷ es) each = (each.0.step, each_adds n es each.1)

leaves_by : (actor : ℕ) (b : Bool) (e : Edge) (es : List Edge) → (e.from == actor) ≡ b → Each (LeavesActor actor) es → Each (LeavesActor actor) (cond b (e ∷ es) es)
leaves_by actor true e es is rest = (equal_then e.from actor is, rest)
leaves_by actor false e es is rest = rest

pub filter_leaves : (actor : ℕ) (es : List Edge) → Each (LeavesActor actor) (filter (leaves_actor actor) es)
filter_leaves actor [] = tt
filter_leaves actor (e ∷ es) = leaves_by actor (e.from == actor) e (filter (leaves_actor actor) es) refl (filter_leaves actor es)

-- the states at the start
starts_at : (actors : List Actor) (a : ℕ) → slice_index_or (map state_at_start actors) a (pos 0) ≡ first_state (slice_index_or actors a no_actor).kind
unfolding state_at_start
starts_at [] a = refl
starts_at (x ∷ actors) zero = refl
starts_at (x ∷ actors) (suc a) = starts_at actors a

pub states_start : (g : Graph) → states_from (map state_at_start g.actors) ≡ (λ a. first_state (kind_of g a))
states_start g = λ i a. starts_at g.actors a i

-- one firing more
pub steps_push : (g : Graph) (rank : ℕ → ℕ) (w : World) (xs : List ActorFiring) (v : World) (x : ActorFiring) (u : World) → Steps g rank w xs v → Fires g rank v x → u ≡ after_firing g v x → Steps g rank w (xs ++ x ∷ []) u
steps_push g rank w [] v x u steps fires after = (subst (λ z. Fires g rank z x) (sym steps) fires, ap (λ z. after_firing g z x) steps ∙ sym after)
steps_push g rank w (y ∷ xs) v x u steps fires after = (steps.0, steps_push g rank (after_firing g w y) xs v x u steps.1 fires after)

-- firings that lead to a world where nothing waits are a run
pub steps_end : (g : Graph) (rank : ℕ → ℕ) (w : World) (xs : List ActorFiring) (v : World) → Steps g rank w xs v → ((a p : ℕ) (t : Tag) → v.waits a p t ≡ None) → Runs g rank w xs
steps_end g rank w [] v steps none = λ a p t. ap (λ (z : World). z.waits a p t) steps ∙ none a p t
steps_end g rank w (x ∷ xs) v steps none = (steps.0, steps_end g rank (after_firing g w x) xs v steps.1 none)
