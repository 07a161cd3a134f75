-- What a turn claims is a front of the units that are safe when it begins to claim.
use Rattle.std.proofs.Common.{◌≡◌, ℕ, zero, suc, ◌+◌, ◌⊎◌, ◌≤◌, ◌==◌, ◌≢◌, Bool, true, false, not, ◌&&◌, List, [], ◌∷◌, length, take, drop, Option, Some, None, ℤ, arith, refl, sym, ap, ap₂, subst, ◌∙◌, inl, inr, ⊎_elim, eqb-true}
use Rattle.pt_types.specs.declared.graph.Graph.{Graph}
use Rattle.pt_tags.specs.declared.tag.Tag.{Tag}
use Rattle.pt_tags.specs.declared.tag.Delay.{Delay}
use Rattle.pt_types.specs.declared.graph.Unit.{Unit}
use Rattle.pt_tags.specs.Tags.{Before, UpTo, plus, same_tag}
use Rattle.pt_types.specs.Ports.{when, at_port, eight}
use Rattle.pt_semantics.specs.Lists.{IsIn}
use Rattle.pt_types.specs.Lookups.{kind_of}
use Rattle.pt_semantics.specs.Units.{at_input, unit_inputs, HasEvent, same_part, unit_of, first_port}
use Rattle.pt_types.specs.Groups.{input_group}
use Rattle.pt_semantics.specs.Firing.{any_present}
use Rattle.pt_semantics.specs.Meaning.{Values}
use Rattle.pt_semantics.specs.Ranks.{sum_along}
use Rattle.pt_semantics.specs.Paths.{Goes}
use Rattle.pt_types.specs.declared.firing.Task.{Task}
use Rattle.pt_semantics.specs.Platform.{State}
use Rattle.pt_semantics.specs.Safe.{IsSafe, NothingSafe}
use Rattle.pt_semantics.specs.Claiming.{IsNext, NoLater, Claims, after_claim, without_unit}
use Rattle.pt_semantics.specs.Candidates.{Candidate, IsClaimedBefore, InClaimOrder, AreCandidates, task_of, tasks_of, after_claims}
use Rattle.pt_laws.specs.TurnTheorems.{TurnClaims, ClaimsApart, CutClaims}
use Rattle.pt_semantics.proofs.Words.{when-true, when_same, eight_same}
use Rattle.pt_semantics.proofs.Lookups.{none_some, same_some, Each-in, same_part_not, cases_part, when_found, eight_found, eight_present}
use Rattle.pt_semantics.proofs.Floor.{put_other, put_same}

-- the taken events are those of the unit alone
pub others_stay : (g : Graph) (waits : Values) (u v : Unit) (t w : Tag) → v ≢ u → unit_inputs g (without_unit g waits u t) v w ≡ unit_inputs g waits v w
others_stay g waits u v t w ne =
    eight_same
    (λ p. when (input_group (kind_of g v.actor) p == v.group) (without_unit g waits u t v.actor p w))
    (λ p. when (input_group (kind_of g v.actor) p == v.group) (waits v.actor p w))
    (λ p. when_same (input_group (kind_of g v.actor) p == v.group) (without_unit g waits u t v.actor p w) (waits v.actor p w)
    (λ h.
    let eg : input_group (kind_of g v.actor) p ≡ v.group = eqb-true _ v.group h in
    let ev : at_input g v.actor p ≡ v = λ i. record { actor = v.actor; group = eg i } in
    ap (λ b. when (not (b && same_tag t w)) (waits v.actor p w)) (same_part_not (at_input g v.actor p) u (λ e. ne (sym ev ∙ e)))))

-- a task is of the unit whose inputs it has
first_in : (xs : List (Option ℤ)) → any_present xs ≡ true → (v : ℤ) × (at_port xs (first_port xs) ≡ Some v)
first_in [] h = absurd (none h)
  where
    none : false ≡ true → ⊥
    none e = cc
first_in (Some x ∷ xs) h = (x, refl)
first_in (None ∷ xs) h = first_in xs h

port_of : (f : ℕ → Option ℤ) (p : ℕ) (v : ℤ) → at_port (eight f) p ≡ Some v → f p ≡ Some v
port_of f zero v h = h
port_of f (suc zero) v h = h
port_of f (suc (suc zero)) v h = h
port_of f (suc (suc (suc zero))) v h = h
port_of f (suc (suc (suc (suc zero)))) v h = h
port_of f (suc (suc (suc (suc (suc zero))))) v h = h
port_of f (suc (suc (suc (suc (suc (suc zero)))))) v h = h
port_of f (suc (suc (suc (suc (suc (suc (suc zero))))))) v h = h
port_of f (suc (suc (suc (suc (suc (suc (suc (suc p)))))))) v h = absurd (none_some v h)

pub unit_is : (g : Graph) (waits : Values) (u : Unit) (t : Tag) → HasEvent g waits u t → at_input g u.actor (first_port (unit_inputs g waits u t)) ≡ u
unit_is g waits u t event =
    let f = first_in (unit_inputs g waits u t) event in
    let at = port_of (λ p. when (input_group (kind_of g u.actor) p == u.group) (waits u.actor p t)) (first_port (unit_inputs g waits u t)) f.0 f.1 in
    let w = when_found (input_group (kind_of g u.actor) (first_port (unit_inputs g waits u t)) == u.group) _ f.0 at in
    let eg : input_group (kind_of g u.actor) (first_port (unit_inputs g waits u t)) ≡ u.group = eqb-true _ u.group w.0 in
    λ i. record { actor = u.actor; group = eg i }

-- what is present stays where each value that is there stays
pub more_there : (f h : ℕ → Option ℤ) → ((p : ℕ) (v : ℤ) → f p ≡ Some v → h p ≡ Some v) → any_present (eight f) ≡ true → any_present (eight h) ≡ true
more_there f h up e = let k = eight_found f e in eight_present h k.0 k.1 k.2 (up k.0 k.1 k.3)

later_by : (t w z : Tag) (d : Delay) → UpTo z w → Before t (plus z d) → Before t (plus w d)
later_by t w z d h k = omega arith

-- a claim of u blocks no other unit
pub keeps_safe : (g : Graph) (s : State) (r : ℕ) (u v : Unit) (task : Task) (t : Tag) → IsSafe g s.waits s.busy r u task.tag → IsSafe g s.waits s.busy r v t → (v ≡ u → ⊥) → IsSafe g (after_claim g s u task).waits (after_claim g s u task).busy r v t
keeps_safe g s r u v task t claimed safe ne = record {
  event = ap any_present (others_stay g s.waits u v task.tag t ne) ∙ safe.event;
  least = λ w h. safe.least w (ap any_present (sym (others_stay g s.waits u v task.tag w ne)) ∙ h);
  free = put_other s.busy u v (Some task) (λ e. ne (sym e)) ∙ safe.free;
  bounds = safe.bounds;
  events = λ x w path nx h go. safe.events x w path nx (was x w h) go;
  claims = λ x other path busy go.
      ⊎_elim
      (λ (here : u ≡ x).
      let et : task ≡ other = same_some task other (sym (put_same s.busy u x (Some task) here) ∙ busy) in
      subst (λ (z : Task). Before t (plus z.tag (sum_along path))) et
      (safe.events u task.tag path (λ e. ne (sym e)) claimed.event (subst (λ z. Goes g z path v) (sym here) go)))
      (λ (there : u ≢ x). safe.claims x other path (sym (put_other s.busy u x (Some task) there) ∙ busy) go)
      (cases_part u x);
}
  where
    drop_not : (b : Bool) (o : Option ℤ) (z : ℤ) → when (not b) o ≡ Some z → o ≡ Some z
    drop_not true o z h = absurd (none_some z h)
    drop_not false o z h = h

    was : (x : Unit) (w : Tag) → HasEvent g (without_unit g s.waits u task.tag) x w → HasEvent g s.waits x w
    was x w h = more_there (λ p. when (input_group (kind_of g x.actor) p == x.group) (without_unit g s.waits u task.tag x.actor p w)) (λ p. when (input_group (kind_of g x.actor) p == x.group) (s.waits x.actor p w))
        (λ p z e. let k = when_found (input_group (kind_of g x.actor) p == x.group) _ z e in
        when-true (input_group (kind_of g x.actor) p == x.group) (s.waits x.actor p w) k.0 ∙ drop_not (same_part (at_input g x.actor p) u && same_tag task.tag w) (s.waits x.actor p w) z k.1) h

-- nor does it free one
was_safe : (g : Graph) (s : State) (r : ℕ) (u v : Unit) (task : Task) (t : Tag) → IsSafe g s.waits s.busy r u task.tag → IsSafe g (after_claim g s u task).waits (after_claim g s u task).busy r v t → IsSafe g s.waits s.busy r v t × (v ≡ u → ⊥)
was_safe g s r u v task t claimed safe = (
  record {
    event = ap any_present (sym (others_stay g s.waits u v task.tag t ne)) ∙ safe.event;
    least = λ w h. safe.least w (ap any_present (others_stay g s.waits u v task.tag w ne) ∙ h);
    free = sym (put_other s.busy u v (Some task) (λ e. ne (sym e))) ∙ safe.free;
    bounds = safe.bounds;
    events = λ x w path nx h go.
        ⊎_elim
        (λ (here : u ≡ x).
        later_by t w task.tag (sum_along path) (claimed.least w (subst (λ z. HasEvent g s.waits z w) (sym here) h))
        (safe.claims x task path (put_same s.busy u x (Some task) here) go))
        (λ (there : u ≢ x). safe.events x w path nx (ap any_present (others_stay g s.waits u x task.tag w (λ e. there (sym e))) ∙ h) go)
        (cases_part u x);
    claims = λ x other path busy go.
        ⊎_elim
        (λ (here : u ≡ x). absurd (none_some other (sym claimed.free ∙ ap s.busy here ∙ busy)))
        (λ (there : u ≢ x). safe.claims x other path (put_other s.busy u x (Some task) there ∙ busy) go)
        (cases_part u x);
  },
  ne,
)
  where
    ne : v ≡ u → ⊥
    ne e = none_some task (sym safe.free ∙ put_same s.busy u v (Some task) (sym e))

pub claims_apart : ClaimsApart
claims_apart g s r u v task t claimed = ((λ safe ne. keeps_safe g s r u v task t claimed safe ne), (λ safe. was_safe g s r u v task t claimed safe))

-- one unit is not safe at two tags
one_tag : (c d : Candidate) → IsClaimedBefore c d → UpTo d.tag c.tag → d.unit ≡ c.unit → ⊥
one_tag c d before up same =
    let a : d.unit.actor ≡ c.unit.actor = ap (λ (x : Unit). x.actor) same in
    let b : d.unit.group ≡ c.unit.group = ap (λ (x : Unit). x.group) same in
    grind arith

not_before : (c : Candidate) (t : Tag) (u : Unit) → IsClaimedBefore c (record { unit = u; tag = t }) → NoLater t u c.tag c.unit → ⊥
not_before c t u h k = grind arith

module _ (g : Graph) (r : ℕ) where
  apart : (s : State) (c d : Candidate) (cs : List Candidate) → AreCandidates g s r (c ∷ cs) → IsIn d cs → d.unit ≡ c.unit → ⊥
  apart s c d cs h mem same =
      let sd : IsSafe g s.waits s.busy r d.unit d.tag = h.safe d (inr mem) in
      let sc : IsSafe g s.waits s.busy r c.unit c.tag = h.safe c (inl refl) in
      one_tag c d (Each-in (IsClaimedBefore c) cs h.in_order.0 d mem) (sd.least c.tag (subst (λ z. HasEvent g s.waits z c.tag) (sym same) sc.event)) same

  -- the first candidate is claimed next
  unit_of_first : (s : State) (n : ℕ) (c : Candidate) → IsSafe g s.waits s.busy r c.unit c.tag → unit_of g (task_of g s n c) ≡ c.unit
  unit_of_first s n c safe = unit_is g s.waits c.unit c.tag safe.event

  is_first : (c : Candidate) (cs : List Candidate) (v : Unit) (w : Tag) → InClaimOrder (c ∷ cs) → IsIn (record { unit = v; tag = w }) (c ∷ cs) → NoLater c.tag c.unit w v
  is_first c cs v w order mem =
      ⊎_elim
      (λ (e : record { unit = v; tag = w } ≡ c). subst (λ (z : Candidate). NoLater c.tag c.unit z.tag z.unit) (sym e) (same_is c.tag c.unit))
      (λ (m : IsIn (record { unit = v; tag = w }) cs). weaker c (record { unit = v; tag = w }) (Each-in (IsClaimedBefore c) cs order.0 (record { unit = v; tag = w }) m))
      mem
    where
      same_is : (t : Tag) (u : Unit) → NoLater t u t u
      same_is t u = grind arith

      weaker : (x y : Candidate) → IsClaimedBefore x y → NoLater x.tag x.unit y.tag y.unit
      weaker x y k = grind arith

  next_is : (s : State) (c : Candidate) (cs : List Candidate) → AreCandidates g s r (c ∷ cs) → IsNext g s r (unit_of g (task_of g s s.claims c)) (task_of g s s.claims c)
  next_is s c cs h =
      let safe : IsSafe g s.waits s.busy r c.unit c.tag = h.safe c (inl refl) in
      let e : c.unit ≡ unit_of g (task_of g s s.claims c) = sym (unit_of_first s s.claims c safe) in
      record {
        safe = subst (λ z. IsSafe g s.waits s.busy r z c.tag) e safe;
        first = λ v w sv. subst (λ z. NoLater c.tag z w v) e (is_first c cs v w h.in_order (h.all v w sv));
        actor = refl;
        inputs = ap (λ z. unit_inputs g s.waits z c.tag) e;
        state = refl;
        number = refl;
      }

  -- after it, the others are the candidates
  rest_of : (s : State) (c : Candidate) (cs : List Candidate) (u : Unit) (task : Task) → u ≡ c.unit → task.tag ≡ c.tag → AreCandidates g s r (c ∷ cs) → AreCandidates g (after_claim g s u task) r cs
  rest_of s c cs u task eu et h =
      let claimed : IsSafe g s.waits s.busy r u task.tag = subst (λ z. IsSafe g s.waits s.busy r z task.tag) (sym eu) (subst (λ z. IsSafe g s.waits s.busy r c.unit z) (sym et) (h.safe c (inl refl))) in
      record {
        in_order = h.in_order.1;
        safe = λ d mem. keeps_safe g s r u d.unit task d.tag claimed (h.safe d (inr mem)) (λ e. apart s c d cs h mem (e ∙ eu));
        all = λ v t safe.
            let w = was_safe g s r u v task t claimed safe in
            ⊎_elim
            (λ (e : record { unit = v; tag = t } ≡ c). absurd (w.1 (ap (λ (z : Candidate). z.unit) e ∙ sym eu)))
            (λ (m : IsIn (record { unit = v; tag = t }) cs). m)
            (h.all v t w.0);
      }

  -- and their tasks are the same
  tasks_stay : (s : State) (u : Unit) (task : Task) (n : ℕ) (cs : List Candidate) → ((d : Candidate) → IsIn d cs → d.unit ≢ u) → tasks_of g (after_claim g s u task) n cs ≡ tasks_of g s n cs
  tasks_stay s u task n [] ne = refl
  tasks_stay s u task n (c ∷ cs) ne =
      ap₂ (λ (inputs : List (Option ℤ)) rest. record { number = n; actor = c.unit.actor; tag = c.tag; inputs = inputs; state = s.states c.unit.actor } ∷ rest)
      (others_stay g s.waits u c.unit task.tag c.tag (ne c (inl refl)))
      (tasks_stay s u task (suc n) cs (λ d m. ne d (inr m)))

  in_take : (k : ℕ) (d : Candidate) (cs : List Candidate) → IsIn d (take k cs) → IsIn d cs
  in_take zero d cs m = absurd m
  in_take (suc k) d [] m = absurd m
  in_take (suc k) d (c ∷ cs) m = ⊎_elim (λ (e : d ≡ c). inl e) (λ (n : IsIn d (take k cs)). inr (in_take k d cs n)) m

  front_stays : (s : State) (c : Candidate) (cs : List Candidate) (u : Unit) (task : Task) (k : ℕ) → u ≡ c.unit → AreCandidates g s r (c ∷ cs) → tasks_of g (after_claim g s u task) (suc s.claims) (take k cs) ≡ tasks_of g s (suc s.claims) (take k cs)
  front_stays s c cs u task k eu h = tasks_stay s u task (suc s.claims) (take k cs) (λ d m e. apart s c d cs h (in_take k d cs m) (e ∙ eu))

  claims_of_front : (cs : List Candidate) (s : State) → AreCandidates g s r cs → (k : ℕ) → Claims g r s (tasks_of g s s.claims (take k cs)) (after_claims g s (tasks_of g s s.claims (take k cs)))
  claims_of_front cs s h zero = refl
  claims_of_front [] s h (suc k) = refl
  claims_of_front (c ∷ cs) s h (suc k) =
      let task : Task = task_of g s s.claims c in
      let eu : unit_of g task ≡ c.unit = unit_of_first s s.claims c (h.safe c (inl refl)) in
      let on = claims_of_front cs (after_claim g s (unit_of g task) task) (rest_of s c cs (unit_of g task) task eu refl h) k in
      (next_is s c cs h, subst (λ z. Claims g r (after_claim g s (unit_of g task) task) z (after_claims g (after_claim g s (unit_of g task) task) z)) (front_stays s c cs (unit_of g task) task k eu h) on)

  left_by_front : (cs : List Candidate) (s : State) → AreCandidates g s r cs → (k : ℕ) → AreCandidates g (after_claims g s (tasks_of g s s.claims (take k cs))) r (drop k cs)
  left_by_front cs s h zero = h
  left_by_front [] s h (suc k) = h
  left_by_front (c ∷ cs) s h (suc k) =
      let task : Task = task_of g s s.claims c in
      let eu : unit_of g task ≡ c.unit = unit_of_first s s.claims c (h.safe c (inl refl)) in
      let on = left_by_front cs (after_claim g s (unit_of g task) task) (rest_of s c cs (unit_of g task) task eu refl h) k in
      subst (λ z. AreCandidates g (after_claims g (after_claim g s (unit_of g task) task) z) r (drop k cs)) (front_stays s c cs (unit_of g task) task k eu h) on

  -- what is claimed next is the first candidate
  head_is : (s : State) (c : Candidate) (cs : List Candidate) (task : Task) → AreCandidates g s r (c ∷ cs) → IsNext g s r (unit_of g task) task → record { unit = unit_of g task; tag = task.tag } ≡ c
  head_is s c cs task h next =
      ⊎_elim
      (λ (e : record { unit = unit_of g task; tag = task.tag } ≡ c). e)
      (λ (m : IsIn (record { unit = unit_of g task; tag = task.tag }) cs).
      absurd (not_before c task.tag (unit_of g task) (Each-in (IsClaimedBefore c) cs h.in_order.0 (record { unit = unit_of g task; tag = task.tag }) m) (next.first c.unit c.tag (h.safe c (inl refl)))))
      (h.all (unit_of g task) task.tag next.safe)

  task_is : (s : State) (c : Candidate) (task : Task) → record { unit = unit_of g task; tag = task.tag } ≡ c → IsNext g s r (unit_of g task) task → task ≡ task_of g s s.claims c
  task_is s c task e next =
      let eu : unit_of g task ≡ c.unit = ap (λ (z : Candidate). z.unit) e in
      let et : task.tag ≡ c.tag = ap (λ (z : Candidate). z.tag) e in
      let ea : task.actor ≡ c.unit.actor = ap (λ (z : Unit). z.actor) eu in
      let ei : task.inputs ≡ unit_inputs g s.waits c.unit c.tag = next.inputs ∙ ap₂ (λ z w. unit_inputs g s.waits z w) eu et in
      let es : task.state ≡ s.states c.unit.actor = next.state ∙ ap s.states ea in
      let en : task.number ≡ s.claims = next.number in
      λ i. record { number = en i; actor = ea i; tag = et i; inputs = ei i; state = es i }

  fronts_alone : (tasks : List Task) (cs : List Candidate) (s new : State) → AreCandidates g s r cs → Claims g r s tasks new → (length tasks ≤ length cs) × (tasks ≡ tasks_of g s s.claims (take (length tasks) cs)) × (new ≡ after_claims g s tasks)
  fronts_alone [] cs s new h e = (omega arith, refl, e)
  fronts_alone (task ∷ tasks) [] s new h (next, rest) = absurd (h.all (unit_of g task) task.tag next.safe)
  fronts_alone (task ∷ tasks) (c ∷ cs) s new h (next, rest) =
      let e = head_is s c cs task h next in
      let eu : unit_of g task ≡ c.unit = ap (λ (z : Candidate). z.unit) e in
      let et : task.tag ≡ c.tag = ap (λ (z : Candidate). z.tag) e in
      let on = fronts_alone tasks cs (after_claim g s (unit_of g task) task) new (rest_of s c cs (unit_of g task) task eu et h) rest in
      let le : length tasks ≤ length cs = on.0 in
      (omega arith, ap₂ (λ x xs. x ∷ xs) (task_is s c task e next) (on.1 ∙ front_stays s c cs (unit_of g task) task (length tasks) eu h), on.2)

pub turn_claims : TurnClaims
turn_claims g s r cs h = record {
  claims = claims_of_front g r cs s h;
  fronts = λ tasks new claims. fronts_alone g r tasks cs s new h claims;
  left = left_by_front g r cs s h;
}

-- cut
claims_after : (g : Graph) (s : State) (tasks : List Task) → (after_claims g s tasks).claims ≡ s.claims + length tasks
claims_after g s [] = omega arith
claims_after g s (task ∷ tasks) =
    let on : (after_claims g (after_claim g s (unit_of g task) task) tasks).claims ≡ suc s.claims + length tasks = claims_after g (after_claim g s (unit_of g task) task) tasks in
    omega arith

tasks_length : (g : Graph) (s : State) (n : ℕ) (cs : List Candidate) → length (tasks_of g s n cs) ≡ length cs
tasks_length g s n [] = refl
tasks_length g s n (c ∷ cs) = ap suc (tasks_length g s (suc n) cs)

take_short : (k : ℕ) (cs : List Candidate) → length (take k cs) ≤ k
take_short zero cs = omega arith
take_short (suc k) [] = omega arith
take_short (suc k) (c ∷ cs) = let on : length (take k cs) ≤ k = take_short k cs in omega arith

-- a cut takes all, or so many
take_or_all : (k : ℕ) (cs : List Candidate) → (drop k cs ≡ []) ⊎ (k ≤ length (take k cs))
take_or_all zero cs = inr (omega arith)
take_or_all (suc k) [] = inl refl
take_or_all (suc k) (c ∷ cs) = ⊎_elim (λ (e : drop k cs ≡ []). inl e) (λ (l : k ≤ length (take k cs)). inr (omega arith)) (take_or_all k cs)

pub cut_claims : CutClaims
cut_claims g s r most k cs h one le all cut = record {
  claims = (turn_claims g s r cs h).claims k;
  at_most = omega (arith, short, many);
  in_all = omega (arith, short, many, after);
  greedy = λ none. by_cut k cs h cut none;
  all_or =
      ⊎_elim
      (λ (e : drop k cs ≡ []). inl (nothing e))
      (λ (l : k ≤ length (take k cs)).
      inr (⊎_elim (λ (m : k ≡ most). inl (omega (arith, many))) (λ (m : k + s.claims ≡ g.claims). inr (omega (arith, many, after))) cut))
      (take_or_all k cs);
}
  where
    short : length (take k cs) ≤ k
    short = take_short k cs

    many : length (tasks_of g s s.claims (take k cs)) ≡ length (take k cs)
    many = tasks_length g s s.claims (take k cs)

    after : (after_claims g s (tasks_of g s s.claims (take k cs))).claims ≡ s.claims + length (tasks_of g s s.claims (take k cs))
    after = claims_after g s (tasks_of g s s.claims (take k cs))

    nothing : drop k cs ≡ [] → NothingSafe g (after_claims g s (tasks_of g s s.claims (take k cs))).waits (after_claims g s (tasks_of g s s.claims (take k cs))).busy r
    nothing e u t safe = subst (λ (z : List Candidate). IsIn {X = Candidate} (record { unit = u; tag = t }) z) e (((turn_claims g s r cs h).left k).all u t safe)

    by_cut : (k : ℕ) (cs : List Candidate) → AreCandidates g s r cs → (k ≡ most) ⊎ (k + s.claims ≡ g.claims) → tasks_of g s s.claims (take k cs) ≡ [] → NothingSafe g (after_claims g s (tasks_of g s s.claims (take k cs))).waits (after_claims g s (tasks_of g s s.claims (take k cs))).busy r ⊎ (g.claims ≤ s.claims)
    by_cut zero cs h cut none = ⊎_elim (λ (m : 0 ≡ most). absurd (omega arith)) (λ (m : 0 + s.claims ≡ g.claims). inr (omega arith)) cut
    by_cut (suc k) [] h cut none = inl (λ u t safe. absurd (h.all u t safe))
    by_cut (suc k) (c ∷ cs) h cut none = absurd (never (task_of g s s.claims c) (tasks_of g s (suc s.claims) (take k cs)) none)
      where
        never : (x : Task) (xs : List Task) → x ∷ xs ≡ [] → ⊥
        never x xs e = cc
