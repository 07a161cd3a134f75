-- A claim keeps the floor.
use Rattle.std.proofs.Common.{◌≡◌, ℕ, ◌+◌, ◌<◌, ◌==◌, ◌⊎◌, ◌≢◌, Bool, true, not, ◌&&◌, List, [], ◌∷◌, ◌++◌, Some, ℤ, arith, refl, sym, ap, subst, ◌∙◌, inl, inr, ⊎_elim, eqb-true, if◌then◌else◌, eq-eqb}
use Rattle.std.proofs.lemmas.Bool.{and_from, false≢true, cond-true, cond-false}
use Rattle.pt_tags.specs.declared.tag.Tag.{Tag}
use Rattle.pt_tags.specs.declared.tag.Delay.{Delay}
use Rattle.pt_types.specs.declared.graph.Graph.{Graph}
use Rattle.pt_types.specs.declared.graph.Unit.{Unit}
use Rattle.pt_tags.specs.Tags.{Before, UpTo, same_tag, plus}
use Rattle.pt_types.specs.Ports.{when}
use Rattle.pt_semantics.specs.Lists.{IsIn}
use Rattle.pt_types.specs.Lookups.{kind_of}
use Rattle.pt_semantics.specs.Units.{at_input, HasEvent, same_part}
use Rattle.pt_types.specs.Groups.{input_group}
use Rattle.pt_semantics.specs.Meaning.{Values}
use Rattle.pt_semantics.specs.Behaviours.{Firing, Firings, Rising}
use Rattle.pt_semantics.specs.Ranks.{sum_along}
use Rattle.pt_semantics.specs.Paths.{Goes}
use Rattle.pt_semantics.specs.Bounds.{Feeds}
use Rattle.pt_types.specs.declared.firing.Task.{Task}
use Rattle.pt_semantics.specs.Platform.{State}
use Rattle.pt_semantics.specs.Safe.{IsSafe}
use Rattle.pt_semantics.specs.Claiming.{after_claim, without_unit}
use Rattle.pt_semantics.specs.History.{firing_by}
use Rattle.pt_semantics.specs.Floor.{Floor}
use Rattle.pt_semantics.proofs.Tags.{same_tag-refl}
use Rattle.pt_semantics.proofs.Words.{when-true}
use Rattle.pt_semantics.proofs.Lookups.{same_some, when_found, IsIn-append, IsIn-append_right, Each-append, same_part-refl, same_part_not, cases_part, eight_found, eight_present}
use Rattle.pt_semantics.proofs.Floor.{plus_zero, put_other, put_same}

-- one firing more at a unit
abbrev pub more : Firings → Unit → Firing → Firings
more c w x u = if same_part w u then c u ++ x ∷ [] else c u

pub more_same : (c : Firings) (w u : Unit) (x : Firing) → w ≡ u → more c w x u ≡ c u ++ x ∷ []
more_same c w u x e = cond-true (same_part w u) (c u ++ x ∷ []) (c u) (subst (λ z. same_part w z ≡ true) e (same_part-refl w))

pub more_other : (c : Firings) (w u : Unit) (x : Firing) → w ≢ u → more c w x u ≡ c u
more_other c w u x ne = cond-false (same_part w u) (c u ++ x ∷ []) (c u) (same_part_not w u ne)

-- a member after one more is a member before, or the new one
pub more_found : (c : Firings) (w u : Unit) (x y : Firing) → IsIn y (more c w x u) → IsIn y (c u) ⊎ ((w ≡ u) × (y ≡ x))
more_found c w u x y mem =
    ⊎_elim
    (λ (e : w ≡ u).
    ⊎_elim (λ (old : IsIn y (c u)). inl old) (λ (new : IsIn y (x ∷ [])). inr (e, ⊎_elim (λ (s : y ≡ x). s) (λ (h : ⊥). absurd h) new))
    (IsIn-append y (c u) (x ∷ []) (subst (IsIn y) (more_same c w u x e) mem)))
    (λ (ne : w ≢ u). inl (subst (IsIn y) (more_other c w u x ne) mem))
    (cases_part w u)

-- an event of a unit waits at one of its ports
pub record AtPort (g : Graph) (waits : Values) (u : Unit) (t : Tag) : Type 0 where
  pub port : ℕ
  pub value : ℤ
  pub below : port < 8
  pub unit : at_input g u.actor port ≡ u
  pub waits_there : waits u.actor port t ≡ Some value

pub event_found : (g : Graph) (waits : Values) (u : Unit) (t : Tag) → HasEvent g waits u t → AtPort g waits u t
event_found g waits u t h =
    let f = eight_found (λ p. when (input_group (kind_of g u.actor) p == u.group) (waits u.actor p t)) h in
    let w = when_found (input_group (kind_of g u.actor) f.0 == u.group) (waits u.actor f.0 t) f.1 f.3 in
    let eg : input_group (kind_of g u.actor) f.0 ≡ u.group = eqb-true _ u.group w.0 in
    record { port = f.0; value = f.1; below = f.2; unit = λ i. record { actor = u.actor; group = eg i }; waits_there = w.1 }

pub has_event : (g : Graph) (waits : Values) (a p : ℕ) (t : Tag) (v : ℤ) → p < 8 → waits a p t ≡ Some v → HasEvent g waits (at_input g a p) t
has_event g waits a p t v l h =
    eight_present (λ q. when (input_group (kind_of g a) q == input_group (kind_of g a) p) (waits a q t)) p v l
    (when-true (input_group (kind_of g a) p == input_group (kind_of g a) p) (waits a p t) (eq-eqb _ _ refl) ∙ h)

-- what is left when a unit's events of a tag are taken
pub without_found : (g : Graph) (waits : Values) (w : Unit) (s : Tag) (a p : ℕ) (t : Tag) (v : ℤ) → without_unit g waits w s a p t ≡ Some v → (waits a p t ≡ Some v) × (at_input g a p ≡ w → s ≡ t → ⊥)
without_found g waits w s a p t v h =
    let f = when_found (not (same_part (at_input g a p) w && same_tag s t)) (waits a p t) v h in (
      f.1,
      λ ew et. clash (same_part (at_input g a p) w && same_tag s t) f.0
          (and_from (same_part (at_input g a p) w) (same_tag s t)
          (subst (λ z. same_part z w ≡ true) (sym ew) (same_part-refl w)) (subst (λ z. same_tag s z ≡ true) et (same_tag-refl s))),
    )
  where
    clash : (b : Bool) → not b ≡ true → b ≡ true → ⊥
    clash b n y = false≢true (sym (ap not y) ∙ n)

later_tag : (s t : Tag) (d : Delay) → UpTo s t → (s ≡ t → ⊥) → Before s (plus t d)
later_tag s t d up ne = grind arith

pub rising_push : (xs : List Firing) (x : Firing) → Rising xs → ((y : Firing) → IsIn y xs → Before y.tag x.tag) → Rising (xs ++ x ∷ [])
rising_push [] x r h = (tt, tt)
rising_push (y ∷ xs) x r h = (Each-append _ xs (x ∷ []) r.0 (h y (inl refl), tt), rising_push xs x r.1 (λ z m. h z (inr m)))

-- what a unit claimed before is below the tag that it claims now
pub claimed_below : (g : Graph) (s : State) (c : Firings) (u : Unit) (t : Tag) (x : Firing) → Floor g s c → HasEvent g s.waits u t → IsIn x (c u) → Before x.tag t
claimed_below g s c u t x f has mem =
    let at = event_found g s.waits u t has in
    subst (λ z. Before x.tag z) (plus_zero t) (f.waits u.actor at.port t at.value [] u x at.below at.waits_there at.unit mem)

pub floor_claim : (g : Graph) (s : State) (c : Firings) (w : Unit) (task : Task) (r : ℕ) → Floor g s c → s.reading ≡ Some r → IsSafe g s.waits s.busy r w task.tag → Floor g (after_claim g s w task) (more c w (firing_by g task))
floor_claim g s c w task r f reading safe = record {
  waits = λ a p t v path u x lt found go mem.
      let left = without_found g s.waits w task.tag a p t v found in
      ⊎_elim
      (λ (old : IsIn x (c u)). f.waits a p t v path u x lt left.0 go old)
      (λ (new : (w ≡ u) × (x ≡ firing_by g task)).
      let goal : Before task.tag (plus t (sum_along path)) =
      ⊎_elim
      (λ (same : at_input g a p ≡ w).
      later_tag task.tag t (sum_along path)
      (safe.least t (subst (λ z. HasEvent g s.waits z t) same (has_event g s.waits a p t v lt left.0)))
      (left.1 same))
      (λ (other : at_input g a p ≢ w).
      safe.events (at_input g a p) t path other (has_event g s.waits a p t v lt left.0) (subst (λ z. Goes g (at_input g a p) path z) (sym new.0) go))
      (cases_part (at_input g a p) w) in
      subst (λ (z : Firing). Before z.tag (plus t (sum_along path))) (sym new.1) goal)
      (more_found c w u (firing_by g task) x mem);
  open_elsewhere = λ v other path u x busy ne go mem.
      ⊎_elim
      (λ (here : w ≡ v).
      -- the new claim, and what was claimed elsewhere before
      let et : task ≡ other = same_some task other (sym (put_same s.busy w v (Some task) here) ∙ busy) in
      let at = event_found g s.waits w task.tag safe.event in
      let old : IsIn x (c u) =
      ⊎_elim (λ (o : IsIn x (c u)). o) (λ (new : (w ≡ u) × (x ≡ firing_by g task)). absurd (ne (sym here ∙ new.0))) (more_found c w u (firing_by g task) x mem) in
      let path_w : Goes g (at_input g w.actor at.port) path u = subst (λ z. Goes g z path u) (sym (at.unit ∙ here)) go in
      subst (λ (z : Task). Before x.tag (plus z.tag (sum_along path))) et
      (f.waits w.actor at.port task.tag at.value path u x at.below at.waits_there path_w old))
      (λ (there : w ≢ v).
      let was : s.busy v ≡ Some other = sym (put_other s.busy w v (Some task) there) ∙ busy in
      ⊎_elim
      (λ (old : IsIn x (c u)). f.open_elsewhere v other path u x was ne go old)
      (λ (new : (w ≡ u) × (x ≡ firing_by g task)).
      subst (λ (z : Firing). Before z.tag (plus other.tag (sum_along path))) (sym new.1)
      (safe.claims v other path was (subst (λ z. Goes g v path z) (sym new.0) go)))
      (more_found c w u (firing_by g task) x mem))
      (cases_part w v);
  open_here = λ u other x busy mem.
      ⊎_elim
      (λ (here : w ≡ u).
      let et : task ≡ other = same_some task other (sym (put_same s.busy w u (Some task) here) ∙ busy) in
      subst (λ (z : Task). UpTo x.tag z.tag) et
      (⊎_elim
      (λ (old : IsIn x (c u)).
      let b : Before x.tag task.tag = claimed_below g s c w task.tag x f safe.event (subst (λ z. IsIn x (c z)) (sym here) old) in
      omega arith)
      (λ (new : (w ≡ u) × (x ≡ firing_by g task)).
      let same : x.tag ≡ task.tag = ap (λ (z : Firing). z.tag) new.1 in
      subst (λ z. UpTo z task.tag) (sym same) (omega arith))
      (more_found c w u (firing_by g task) x mem)))
      (λ (there : w ≢ u).
      let was : s.busy u ≡ Some other = sym (put_other s.busy w u (Some task) there) ∙ busy in
      f.open_here u other x was (subst (IsIn x) (more_other c w u (firing_by g task) there) mem))
      (cases_part w u);
  open_claimed = λ u other busy.
      ⊎_elim
      (λ (here : w ≡ u).
      let et : task ≡ other = same_some task other (sym (put_same s.busy w u (Some task) here) ∙ busy) in
      subst (IsIn (firing_by g other)) (sym (more_same c w u (firing_by g task) here))
      (subst (λ (z : Task). IsIn (firing_by g z) (c u ++ firing_by g task ∷ [])) et (IsIn-append_right (firing_by g task) (c u) (firing_by g task ∷ []) (inl refl))))
      (λ (there : w ≢ u).
      subst (IsIn (firing_by g other)) (sym (more_other c w u (firing_by g task) there))
      (f.open_claimed u other (sym (put_other s.busy w u (Some task) there) ∙ busy)))
      (cases_part w u);
  sources = λ a b path u x feeds mem.
      ⊎_elim
      (λ (old : IsIn x (c u)). f.sources a b path u x feeds old)
      (λ (new : (w ≡ u) × (x ≡ firing_by g task)).
      let b_w : Feeds g a b path w = subst (λ z. Feeds g a b path z) (sym new.0) feeds in
      (r, reading, subst (λ (z : Firing). z.tag.time + b < r + (sum_along path).time) (sym new.1) (safe.bounds a b path b_w)))
      (more_found c w u (firing_by g task) x mem);
  rises = λ u.
      ⊎_elim
      (λ (here : w ≡ u).
      subst Rising (sym (more_same c w u (firing_by g task) here))
      (rising_push (c u) (firing_by g task) (f.rises u) (λ y mem. claimed_below g s c w task.tag y f safe.event (subst (λ z. IsIn y (c z)) (sym here) mem))))
      (λ (there : w ≢ u). subst Rising (sym (more_other c w u (firing_by g task) there)) (f.rises u))
      (cases_part w u);
}
