-- The claims that a platform counts are those of its units.
use Rattle.std.proofs.Common.{◌≡◌, ℕ, suc, ◌+◌, ◌<◌, ◌≤◌, ◌==◌, Bool, true, false, ◌&&◌, if◌then◌else◌, List, [], ◌∷◌, ◌++◌, Some, ℤ, length, slice_get, arith, refl, sym, ap, subst, ◌∙◌, ⊎_elim, eqb-true, length-append}
use Rattle.std.proofs.lemmas.Bool.{cases_Bool, and_parts, cases_lt, and_from, cond-true, cond-false, false≢true}
use Rattle.std.proofs.lemmas.Bool.Decides.{nat_tests}
use Rattle.pt_types.specs.declared.graph.Actor.{Actor}
use Rattle.pt_tags.specs.declared.tag.Tag.{Tag}
use Rattle.pt_types.specs.declared.graph.Graph.{Graph}
use Rattle.pt_types.specs.declared.graph.Link.{Link}
use Rattle.pt_types.specs.declared.graph.Unit.{Unit}
use Rattle.pt_types.specs.declared.kind.Kind.{Kind}
use Rattle.pt_types.specs.declared.kind.Kind.TheVariants.{Sensor, Receive, Every}
use Rattle.pt_types.specs.declared.rows.Row.{Row}
use Rattle.pt_types.specs.declared.firing.Task.{Task}
use Rattle.pt_types.specs.declared.firing.Done.{Done}
use Rattle.pt_types.specs.declared.firing.OnLink.{OnLink}
use Rattle.pt_types.specs.Ports.{when}
use Rattle.pt_tags.specs.Tags.{same_tag}
use Rattle.pt_semantics.specs.Lists.{IsIn}
use Rattle.pt_semantics.specs.Edges.{Edge, edges, wires, links, of_link}
use Rattle.pt_types.specs.Groups.{no_actor}
use Rattle.pt_types.specs.Lookups.{kind_of, platform_of}
use Rattle.pt_semantics.specs.Units.{groups, unit_of, leaves_unit, same_part}
use Rattle.pt_types.specs.Groups.{input_group}
use Rattle.pt_semantics.specs.Behaviours.{Firing, Firings}
use Rattle.pt_semantics.specs.Cycles.{HasLevels}
use Rattle.pt_semantics.specs.Wired.{IsWired}
use Rattle.pt_semantics.specs.Rows.{FitRows, FitsRow}
use Rattle.pt_semantics.specs.Meaning.{at_time, going, row_at, start_at}
use Rattle.pt_semantics.specs.Platform.{State, opened}
use Rattle.pt_semantics.specs.Posting.{after_post}
use Rattle.pt_semantics.specs.Entering.{after_rows, due, not_due}
use Rattle.pt_semantics.specs.Taking.{after_message, value_of}
use Rattle.pt_semantics.specs.Orderly.{IsOrderly}
use Rattle.pt_semantics.specs.Claiming.{IsNext, after_claim}
use Rattle.pt_semantics.specs.Turn.{Turn}
use Rattle.pt_semantics.specs.History.{LegalOnTime, claims_of, firing_by}
use Rattle.pt_semantics.specs.Counts.{actor_firings, unit_firings}
use Rattle.pt_semantics.proofs.Lookups.{none_some, or_else_found, when_found, first_of_found, IsIn-append_left, IsIn-append_right, same_part-true}
use Rattle.pt_laws.proofs.Rows.{due_split}
use Rattle.pt_semantics.proofs.Floor.{going_found}
use Rattle.pt_semantics.proofs.Claiming.{more, event_found, without_found}
use Rattle.pt_laws.proofs.FloorHolds.{Sound, opened_sound}
use Rattle.pt_laws.proofs.Finish.{link_in}
use Rattle.pt_laws.proofs.Progress.{sensor_in, past_end}
use Rattle.pt_laws.proofs.Walk.{on_time_keeps}
use Rattle.pt_laws.proofs.Home.{Home, opened_home, post, enter, message, claim}
use Rattle.pt_laws.proofs.Sums.{sum_same, sum_nothing, sum_one, sum_le, sum_lt}

-- counting

more_here : (c : Firings) (u : Unit) (x : Firing) → length (more c u x u) ≡ suc (length (c u))
more_here c u x = ap length (cond-true (same_part u u) (c u ++ x ∷ []) (c u) (self u)) ∙ length-append (c u) (x ∷ []) ∙ plus_one (length (c u))
  where
    self : (u : Unit) → same_part u u ≡ true
    self u = and_from (u.actor == u.actor) (u.group == u.group) (eq_self u.actor) (eq_self u.group)
      where
        eq_self : (n : ℕ) → (n == n) ≡ true
        eq_self n = grind (arith, nat_tests)

    plus_one : (n : ℕ) → n + 1 ≡ suc n
    plus_one n = omega arith

more_there : (c : Firings) (u v : Unit) (x : Firing) → (u ≡ v → ⊥) → length (more c u x v) ≡ length (c v)
more_there c u v x other =
    ⊎_elim
    (λ (same : same_part u v ≡ true). absurd (other (same_part-true u v same)))
    (λ (apart : same_part u v ≡ false). ap length (cond-false (same_part u v) (c v ++ x ∷ []) (c v) apart))
    (cases_Bool (same_part u v))

-- one claim more of a unit of platform i
count_more : (g : Graph) (i : ℕ) (c : Firings) (u : Unit) (x : Firing) → platform_of g u.actor ≡ i → u.actor < length g.actors → u.group < groups (kind_of g u.actor) → unit_firings g i (more c u x) ≡ suc (unit_firings g i c)
count_more g i c u x home actor group =
    sum_one (λ a. if platform_of g a == i then actor_firings g c a else 0) (λ a. if platform_of g a == i then actor_firings g (more c u x) a else 0) (length g.actors) u.actor
    (λ a other. ap (λ n. if platform_of g a == i then n else 0) (sum_same (λ k. length (more c u x (record { actor = a; group = k }))) (λ k. length (c (record { actor = a; group = k }))) (groups (kind_of g a))
    (λ k l. more_there c u (record { actor = a; group = k }) x (λ e. other (sym (ap (λ (v : Unit). v.actor) e))))))
    actor
    (cond-true (platform_of g u.actor == i) (actor_firings g (more c u x) u.actor) 0 here
    ∙ sum_one (λ k. length (c (record { actor = u.actor; group = k }))) (λ k. length (more c u x (record { actor = u.actor; group = k }))) (groups (kind_of g u.actor)) u.group
    (λ k other. more_there c u (record { actor = u.actor; group = k }) x (λ e. other (sym (ap (λ (v : Unit). v.group) e))))
    group (more_here c u x)
    ∙ ap suc (sym (cond-true (platform_of g u.actor == i) (actor_firings g c u.actor) 0 here)))
  where
    here : (platform_of g u.actor == i) ≡ true
    here = is_true (platform_of g u.actor) i home
      where
        is_true : (m n : ℕ) → m ≡ n → (m == n) ≡ true
        is_true m n e = grind (arith, nat_tests)

pub count_le : (g : Graph) (i : ℕ) (f h : Firings) → ((u : Unit) → length (f u) ≤ length (h u)) → unit_firings g i f ≤ unit_firings g i h
count_le g i f h le = sum_le _ _ (length g.actors) (λ a. by_home (platform_of g a == i) a)
  where
    by_home : (b : Bool) (a : ℕ) → (if b then actor_firings g f a else 0) ≤ (if b then actor_firings g h a else 0)
    by_home true a = sum_le _ _ (groups (kind_of g a)) (λ k. le (record { actor = a; group = k }))
    by_home false a = omega arith

pub count_lt : (g : Graph) (f h : Firings) (u : Unit) → ((v : Unit) → length (f v) ≤ length (h v)) → u.actor < length g.actors → u.group < groups (kind_of g u.actor) → length (f u) < length (h u) → unit_firings g (platform_of g u.actor) f < unit_firings g (platform_of g u.actor) h
count_lt g f h u le actor group less =
    sum_lt _ _ (length g.actors) u.actor (λ a. by_home (platform_of g a == platform_of g u.actor) a) actor
    (here (platform_of g u.actor == platform_of g u.actor) (eq_self (platform_of g u.actor)))
  where
    by_home : (b : Bool) (a : ℕ) → (if b then actor_firings g f a else 0) ≤ (if b then actor_firings g h a else 0)
    by_home true a = sum_le _ _ (groups (kind_of g a)) (λ k. le (record { actor = a; group = k }))
    by_home false a = omega arith

    here : (b : Bool) → b ≡ true → (if b then actor_firings g f u.actor else 0) < (if b then actor_firings g h u.actor else 0)
    here true e = sum_lt _ _ (groups (kind_of g u.actor)) u.group (λ k. le (record { actor = u.actor; group = k })) group less
    here false e = absurd (false≢true e)

    eq_self : (n : ℕ) → (n == n) ≡ true
    eq_self n = grind (arith, nat_tests)

-- an input of a unit of the graph
pub record IsInside (g : Graph) (a p : ℕ) : Type 0 where
  pub actor : a < length g.actors
  pub group : input_group (kind_of g a) p < groups (kind_of g a)

plain_group : (k : Kind) → k ≡ Receive → (p : ℕ) → input_group k p < groups k
plain_group k e p = subst (λ z. input_group z p < groups z) (sym e) (omega arith)

sensor_group : (k : Kind) (file : List ℕ) (bound : ℕ) → k ≡ Sensor file bound → (p : ℕ) → input_group k p < groups k
sensor_group k file bound e p = subst (λ z. input_group z p < groups z) (sym e) (omega arith)

start_inside : (g : Graph) (a p : ℕ) (k : Kind) (t : Tag) (v : ℤ) → kind_of g a ≡ k → start_at g k t ≡ Some v → IsInside g a p
start_inside g a p (Every start period) t v ek h = record {
  actor = ⊎_elim (λ (l : a < length g.actors). l) (λ (l : length g.actors ≤ a). absurd (clash start period (sym (ap (λ (x : Actor). x.kind) (past_end g.actors a no_actor l)) ∙ ek))) (cases_lt a (length g.actors));
  group = subst (λ z. input_group z p < groups z) (sym ek) (omega arith);
}
  where
    clash : (start period : ℕ) → Receive ≡ Every start period → ⊥
    clash start period h = cc
start_inside g a p _ t v ek h = absurd (none_some v h)

pub record Counted (g : Graph) (i : ℕ) (s : State) (c : Firings) : Type 0 where
  pub home : Home g i s c
  pub inside : (a p : ℕ) (t : Tag) (v : ℤ) → s.waits a p t ≡ Some v → IsInside g a p
  pub count : unit_firings g i c ≡ s.claims

module _ (g : Graph) (i : ℕ) (wired : IsWired g) where
  count_post : (s : State) (c : Firings) (d : Done) → Counted g i s c → s.busy (unit_of g d.task) ≡ Some d.task → Counted g i (after_post g s d) c
  count_post s c d k busy = record {
    home = post g i wired s c d k.home busy;
    count = k.count;
    inside = λ a p t v found.
        ⊎_elim
        (λ (old : s.waits a p t ≡ Some v). k.inside a p t v old)
        (λ (new : going g (wires g) (leaves_unit g (unit_of g d.task)) d.task.tag d.fired.outputs a p t ≡ Some v).
        let went = going_found g (wires g) (leaves_unit g (unit_of g d.task)) d.task.tag d.fired.outputs a p t v new in
        let e : Edge = went.edge in
        let mem : IsIn e (edges g) = IsIn-append_left e (wires g) (links g) went.mem in
        record {
          actor = subst (λ n. n < length g.actors) went.to (wired.ends e mem).1;
          group = subst (λ n. input_group (kind_of g a) n < groups (kind_of g a)) went.input (subst (λ n. input_group (kind_of g n) e.input < groups (kind_of g n)) went.to (wired.in_unit e mem));
        })
        (or_else_found (s.waits a p t) _ v found);
  }

  count_enter : (s : State) (c : Firings) (r : ℕ) → Sound g s s.reading c → Counted g i s c → Counted g i (after_rows s r) c
  count_enter s c r h k = record {
    home = enter g i wired s c r h k.home;
    count = k.count;
    inside = λ a p t v found.
        ⊎_elim
        (λ (old : s.waits a p t ≡ Some v). k.inside a p t v old)
        (λ (new : when (p == 0) (row_at (due r (s.left a)) t) ≡ Some v).
        let here = when_found (p == 0) (row_at (due r (s.left a)) t) v new in
        let y = first_of_found (λ (row : Row). when (same_tag (at_time row.time) t) (Some row.value)) (due r (s.left a)) v here.1 in
        let mem : IsIn y.0 (s.left a) = subst (IsIn y.0) (due_split r (s.left a)) (IsIn-append_left y.0 (due r (s.left a)) (not_due r (s.left a)) y.1) in
        let fit : FitsRow g a y.0 = h.rest.fit a y.0 mem in
        record { actor = sensor_in g fit.file a fit.bound fit.sensor; group = sensor_group (kind_of g a) fit.file fit.bound fit.sensor p })
        (or_else_found (s.waits a p t) _ v found);
  }

  count_message : (level : ℕ → ℕ) (s : State) (c : Firings) (m : OnLink) (link : Link) → Counted g i s c → slice_get g.links m.link ≡ Some link → platform_of g link.to ≡ i → IsOrderly g level link (s.taken m.link ++ m.message ∷ []) → Counted g i (after_message s m.link link m.message) c
  count_message level s c m link k at home orderly = record {
    home = message g i wired level s c m link k.home home orderly;
    count = k.count;
    inside = λ a p t v found.
        ⊎_elim
        (λ (old : s.waits a p t ≡ Some v). k.inside a p t v old)
        (λ (new : when (a == link.to && p == 0) (value_of t m.message) ≡ Some v).
        let here = when_found (a == link.to && p == 0) (value_of t m.message) v new in
        let to : a ≡ link.to = eqb-true a link.to (and_parts (a == link.to) (p == 0) here.0).0 in
        record {
          actor = subst (λ n. n < length g.actors) (sym to) (wired.ends (of_link link) (IsIn-append_right (of_link link) (wires g) (links g) (link_in g.links m.link link at))).1;
          group = plain_group (kind_of g a) (ap (kind_of g) to ∙ wired.receives m.link link at) p;
        })
        (or_else_found (s.waits a p t) _ v found);
  }

  count_claim : (s : State) (c : Firings) (r : ℕ) (task : Task) → Counted g i s c → IsNext g s r (unit_of g task) task → Counted g i (after_claim g s (unit_of g task) task) (more c (unit_of g task) (firing_by g task))
  count_claim s c r task k next =
      let at = event_found g s.waits (unit_of g task) task.tag next.safe.event in
      let there = k.inside task.actor at.port task.tag at.value at.waits_there in
      record {
        home = claim g i wired s c r task k.home next;
        count =
            count_more g i c (unit_of g task) (firing_by g task)
            (k.home.waits task.actor at.port task.tag at.value at.waits_there).0
            there.actor
            (subst (λ (u : Unit). u.group < groups (kind_of g task.actor)) at.unit there.group)
            ∙ ap suc k.count;
        inside = λ a p t v found. k.inside a p t v (without_found g s.waits (unit_of g task) task.tag a p t v found).0;
      }

opened_counted : (g : Graph) (i : ℕ) (rows : ℕ → List Row) → Counted g i (opened g i rows) (λ u. [])
opened_counted g i rows = record {
  home = opened_home g i rows;
  inside = λ a p t v h. start_inside g a p (kind_of g a) t v refl (when_found (platform_of g a == i && p == 0) _ v h).1;
  count = sum_nothing _ (length g.actors) (λ a. by_home (platform_of g a == i) a);
}
  where
    by_home : (b : Bool) (a : ℕ) → (if b then actor_firings g (λ u. []) a else 0) ≡ 0
    by_home true a = sum_nothing (λ k. 0) (groups (kind_of g a)) (λ k. refl)
    by_home false a = refl

-- in each state of a history without a late turn the claims made are the firings of all units
pub counted : (g : Graph) (level : ℕ → ℕ) (i : ℕ) (rows : ℕ → List Row) (turns : List Turn) (s : State) → IsWired g → HasLevels g level → FitRows g rows → LegalOnTime g level i (opened g i rows) turns s → Counted g i s (claims_of g turns)
counted g level i rows turns s wired up fits legal =
    on_time_keeps g level i wired up (λ x c. Counted g i x c)
    (λ x o c d h k busy result. count_post g i wired x c d k busy)
    (λ x c r h k. count_enter g i wired x c r h k)
    (λ x o c m link h k at home ok orderly. count_message g i wired level x c m link k at home orderly)
    (λ x c l m k. record { home = record { waits = k.home.waits; busy = k.home.busy; left = k.home.left; claims = k.home.claims }; inside = k.inside; count = k.count })
    (λ x c r later k. record { home = record { waits = k.home.waits; busy = k.home.busy; left = k.home.left; claims = k.home.claims }; inside = k.inside; count = k.count })
    (λ x o c r task reading h k next. count_claim g i wired x c r task k next)
    (λ x c k. record { home = record { waits = k.home.waits; busy = k.home.busy; left = k.home.left; claims = k.home.claims }; inside = k.inside; count = k.count })
    (λ x c rest k. record { home = record { waits = k.home.waits; busy = k.home.busy; left = k.home.left; claims = k.home.claims }; inside = k.inside; count = k.count })
    turns (opened g i rows) s (λ u. []) (opened_sound g i rows fits) (opened_counted g i rows) legal
