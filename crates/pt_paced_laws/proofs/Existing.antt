-- Where each cycle takes time there is a meaning: all times, steps, ranks and actors are gone through in their order.
use Rattle.std.proofs.Common.{◌≡◌, ◌≢◌, ℕ, zero, suc, ◌+◌, ◌*◌, ◌<◌, ◌≤◌, ◌⊎◌, ◌==◌, ◌&&◌, if◌then◌else◌, Bool, true, false, not, nat_lt, ltb-true, List, [], ◌∷◌, ◌++◌, None, Some, ℤ, pos, length, map, arith, refl, sym, ap, subst, ◌∙◌, inl, inr, ⊎_elim, eqb-true}
use Rattle.std.proofs.lemmas.Bool.{and_parts, cases_Bool, cases_lt, false≢true}
use Rattle.pt_tags.specs.declared.tag.Delay.{Delay}
use Rattle.pt_tags.specs.declared.tag.Tag.{Tag}
use Rattle.pt_tags.specs.Tags.{same_tag}
use Rattle.pt_types.specs.declared.graph.Actor.{Actor}
use Rattle.pt_types.specs.declared.graph.Graph.{Graph}
use Rattle.pt_types.specs.declared.graph.Link.{Link}
use Rattle.pt_types.specs.declared.graph.Wire.{Wire}
use Rattle.pt_types.specs.declared.kind.Kind.{Kind}
use Rattle.pt_types.specs.declared.kind.Kind.TheVariants.{Every, Receive, Sensor}
use Rattle.pt_types.specs.declared.rows.Row.{Row}
use Rattle.pt_types.specs.Ports.{when}
use Rattle.pt_semantics.specs.Edges.{Edge, edges, links, of_link, of_wire, weight, wires}
use Rattle.pt_types.specs.Groups.{no_actor}
use Rattle.pt_types.specs.Lookups.{kind_of}
use Rattle.pt_semantics.specs.Firing.{any_present, fired}
use Rattle.pt_semantics.specs.Floor.{IsBounded}
use Rattle.pt_semantics.specs.Lists.{IsIn, or_else}
use Rattle.pt_semantics.specs.Meaning.{ActorFiring, Fires, IsMeaning, Runs, Steps, World, after_firing, at_start, at_time, going, leaves_actor, row_at, start_at, waiting, without}
use Rattle.pt_semantics.specs.Ranks.{AreLevels, AreRanks}
use Rattle.pt_semantics.specs.Rows.{FitRows, FitsRow}
use Rattle.pt_semantics.specs.Wired.{IsWired}
use Rattle.pt_semantics.proofs.Acyclic.{levels_are_small}
use Rattle.pt_semantics.proofs.Floor.{going_found}
use Rattle.pt_semantics.proofs.Longest.{levels_grow, ranks_grow}
use Rattle.pt_semantics.proofs.Lookups.{Each-in, IsIn-append, IsIn-append_right, eight_found, eight_present, first_of_found, none_some, or_else_found, when_found}
use Rattle.pt_laws.proofs.MeaningSteps.{Mid, absent, mid_start, mid_step}
use Rattle.pt_laws.proofs.Onward.{cases_same}
use Rattle.pt_laws.proofs.Progress.{past_end}
use Rattle.pt_semantics.proofs.Tags.{same_tag-true}
use Rattle.pt_paced_laws.specs.Existence.{MeaningsExist}

-- a weight is whole microseconds, or one step
abbrev Form : Delay → Type 0
Form w = (w.step ≡ 0) ⊎ ((w.time ≡ 0) × (w.step ≡ 1))

delay_form : (b : Bool) (d : ℕ) → Form (if b then record { time = 0; step = 1 } else record { time = d; step = 0 })
delay_form true d = inr (refl, refl)
delay_form false d = inl refl

every_form : (b : Bool) (d : ℕ) → Form (if b then record { time = d; step = 0 } else record { time = 0; step = 0 })
every_form true d = inl refl
every_form false d = inl refl

weight_form : (k : Kind) (o : ℕ) → Form (weight k o)
weight_form (Kind.Delay d) o = delay_form (d == 0) d
weight_form (Every start period) o = every_form (o == 1) period
weight_form _ o = inl refl

wire_form : (g : Graph) (ws : List Wire) (e : Edge) → IsIn e (map (of_wire g) ws) → Form e.weight
wire_form g [] e m = absurd m
wire_form g (w ∷ ws) e m = ⊎_elim (λ (s : e ≡ of_wire g w). subst (λ (d : Edge). Form d.weight) (sym s) (weight_form (kind_of g w.from) w.output)) (λ (r : IsIn e (map (of_wire g) ws)). wire_form g ws e r) m

link_form : (ls : List Link) (e : Edge) → IsIn e (map of_link ls) → Form e.weight
link_form [] e m = absurd m
link_form (l ∷ ls) e m = ⊎_elim (λ (s : e ≡ of_link l). subst (λ (d : Edge). Form d.weight) (sym s) (inl refl)) (λ (r : IsIn e (map of_link ls)). link_form ls e r) m

edge_form : (g : Graph) (e : Edge) → IsIn e (edges g) → Form e.weight
edge_form g e m = ⊎_elim (λ (w : IsIn e (wires g)). wire_form g g.wires e w) (λ (l : IsIn e (links g)). link_form g.links e l) (IsIn-append e (wires g) (links g) m)

-- along an edge the bound of a step goes on
at_zero : (n time step lx la ws : ℕ) → step ≤ n * time + lx → lx < la → ws ≤ 1 → step + ws ≤ n * (time + 0) + la
at_zero n time step lx la ws h l w = omega arith

at_more : (n time step lx la ws w : ℕ) → step ≤ n * time + lx → lx ≤ n → ws ≡ 0 → step + ws ≤ n * (time + suc w) + la
at_more n time step lx la ws w h l z = omega arith

goes_on : (n time step lx la wt ws : ℕ) → step ≤ n * time + lx → lx ≤ n → (wt ≡ 0 → lx < la) → (ws ≡ 0) ⊎ ((wt ≡ 0) × (ws ≡ 1)) → step + ws ≤ n * (time + wt) + la
goes_on n time step lx la zero ws h small up form =
    at_zero n time step lx la ws h (up refl) (⊎_elim (λ (z : ws ≡ 0). omega arith) (λ (o : (zero ≡ 0) × (ws ≡ 1)). let e : ws ≡ 1 = o.1 in omega arith) form)
goes_on n time step lx la (suc w) ws h small up form =
    at_more n time step lx la ws w h small (⊎_elim (λ (z : ws ≡ 0). z) (λ (o : (suc w ≡ 0) × (ws ≡ 1)). let e : suc w ≡ 0 = o.0 in absurd (omega arith)) form)

-- at this time, step, rank and actor, or past it
abbrev NotBefore : ℕ → ℕ → ℕ → ℕ → Tag → ℕ → ℕ → Type 0
NotBefore time step r a u rb b = (time ≤ u.time) × (u.time ≤ time → (step ≤ u.step) × (u.step ≤ step → (r ≤ rb) × (rb ≤ r → a ≤ b)))

next_actor : (time step r a b rb : ℕ) (u : Tag) → NotBefore time step r a u rb b → (u.time ≡ time → u.step ≡ step → rb ≡ r → b ≡ a → ⊥) → NotBefore time step r (suc a) u rb b
next_actor time step r a b rb u h ne = grind arith

after_fired : (time step r a b ra rb : ℕ) (u : Tag) → ra ≡ r → ((time ≤ u.time) × (u.time ≤ time → (step ≤ u.step) × (u.step ≤ step → (ra ≤ rb) × (rb ≤ ra → a < b)))) → NotBefore time step r (suc a) u rb b
after_fired time step r a b ra rb u e h = grind arith

as_first : (time step r a b ra rb : ℕ) (u : Tag) → ra ≡ r → NotBefore time step r a u rb b → (time ≤ u.time) × (u.time ≤ time → (step ≤ u.step) × (u.step ≤ step → (ra ≤ rb) × (rb ≤ ra → a ≤ b)))
as_first time step r a b ra rb u e h = grind arith

next_rank : (time step r n b rb : ℕ) (u : Tag) → NotBefore time step r n u rb b → b < n → NotBefore time step (suc r) 0 u rb b
next_rank time step r n b rb u h lt = grind arith

next_step : (time step r b rb : ℕ) (u : Tag) → NotBefore time step r 0 u rb b → rb < r → NotBefore time (suc step) 0 0 u rb b
next_step time step r b rb u h lt = grind arith

past_steps : (time step b rb : ℕ) (u : Tag) → NotBefore time step 0 0 u rb b → (u.time ≡ time → u.step < step) → NotBefore (suc time) 0 0 0 u rb b
past_steps time step b rb u h few = grind arith

in_graph : (g : Graph) (a : ℕ) → (kind_of g a ≡ Receive → ⊥) → a < length g.actors
in_graph g a other = ⊎_elim (λ (l : a < length g.actors). l) (λ (l : length g.actors ≤ a). absurd (other (ap (λ (x : Actor). x.kind) (past_end g.actors a no_actor l)))) (cases_lt a (length g.actors))

module _ (g : Graph) (level rank : ℕ → ℕ) (rows : ℕ → List Row) (wired : IsWired g) (levels : AreLevels g level) (ranks : AreRanks g rank) (fits : FitRows g rows) where
  -- what waits waits at an actor's input, up to the horizon and at one of few steps
  abbrev IsSound : World → Type 0
  IsSound w = (a p : ℕ) (t : Tag) (v : ℤ) → w.waits a p t ≡ Some v → (a < length g.actors) × (p < 8) × IsBounded g level a t

  small : (a : ℕ) → level a ≤ length g.actors
  small = levels_are_small g level wired levels

  rank_small : (a : ℕ) → rank a ≤ length g.actors
  rank_small a =
      let (b, path, leads, none, long) = (ranks a).one in
      let le : length path ≤ level a = (levels a).longest b path leads none.0 in
      let most = small a in
      omega (arith, le, long, most)

  sensor : (a : ℕ) (row : Row) → FitsRow g a row → a < length g.actors
  sensor a row fit = in_graph g a (λ e. other fit.file fit.bound (sym fit.sensor ∙ e))
    where
      other : (file : List ℕ) (bound : ℕ) → Sensor file bound ≡ Receive → ⊥
      other file bound e = cc

  starts : (k : Kind) (a : ℕ) (t : Tag) (v : ℤ) → start_at g k t ≡ Some v → IsBounded g level a t
  starts (Every start period) a t v h =
      let two = and_parts (nat_lt start (suc g.until)) (same_tag (at_time start) t) (when_found (nat_lt start (suc g.until) && same_tag (at_time start) t) (Some (pos 0)) v h).0 in
      let lt : start < suc g.until = ltb-true start (suc g.until) two.0 in
      let le : start ≤ g.until = omega arith in
      subst (IsBounded g level a) (same_tag-true (at_time start) t two.1) (le, omega arith)
  starts _ a t v h = absurd (none_some v h)

  sound_start : IsSound (at_start g rows)
  sound_start a p t v found =
      let here = when_found (p == 0) (or_else (start_at g (kind_of g a) t) (row_at (rows a) t)) v found in
      let port : p ≡ 0 = eqb-true p 0 here.0 in
      ⊎_elim
      (λ (start : start_at g (kind_of g a) t ≡ Some v).
      (in_graph g a (λ e. none_some v (sym (ap (λ k. start_at g k t) e) ∙ start)), omega arith, starts (kind_of g a) a t v start))
      (λ (row : row_at (rows a) t ≡ Some v).
      let y = first_of_found (λ (row : Row). when (same_tag (at_time row.time) t) (Some row.value)) (rows a) v row in
      let tag : at_time y.0.time ≡ t = same_tag-true (at_time y.0.time) t (when_found (same_tag (at_time y.0.time) t) (Some y.0.value) v y.2).0 in
      let fit : FitsRow g a y.0 = Each-in (FitsRow g a) (rows a) (fits.fit a) y.0 y.1 in
      (sensor a y.0 fit, omega arith, subst (IsBounded g level a) tag (fit.within, omega arith)))
      (or_else_found (start_at g (kind_of g a) t) (row_at (rows a) t) v here.1)

  -- firings led to a world in which nothing waits before this time, step, rank and actor
  record At (time step r a : ℕ) : Type 0 where
    zs : List ActorFiring
    w : World
    steps : Steps g rank (at_start g rows) zs w
    mid : Mid g rank rows w zs
    sound : IsSound w
    past : (b p : ℕ) (u : Tag) (v : ℤ) → w.waits b p u ≡ Some v → NotBefore time step r a u (rank b) b

  steps_push : (zs : List ActorFiring) (w v : World) (x : ActorFiring) → Steps g rank w zs v → Fires g rank v x → Steps g rank w (zs ++ x ∷ []) (after_firing g v x)
  steps_push [] w v x e fires = (subst (λ z. Fires g rank z x) (sym e) fires, ap (λ z. after_firing g z x) e)
  steps_push (y ∷ zs) w v x (first, rest) fires = (first, steps_push zs (after_firing g w y) v x rest fires)

  sound_after : (w : World) (x : ActorFiring) → IsSound w → IsBounded g level x.actor x.tag → IsSound (after_firing g w x)
  sound_after w x sound here a p t v found =
      ⊎_elim
      (λ (old : without w.waits x.actor x.tag a p t ≡ Some v). sound a p t v (when_found (not (a == x.actor && same_tag x.tag t)) (w.waits a p t) v old).1)
      (λ (new : going g (edges g) (leaves_actor x.actor) x.tag x.outputs a p t ≡ Some v).
      let went = going_found g (edges g) (leaves_actor x.actor) x.tag x.outputs a p t v new in
      let e : Edge = went.edge in
      let from : e.from ≡ x.actor = eqb-true e.from x.actor went.leaves_it in
      let up : e.weight.time ≡ 0 → level x.actor < level a = λ z. subst (λ b. level b < level a) from (subst (λ b. level e.from < level b) went.to (levels_grow g level levels e went.mem z)) in
      let on = goes_on (length g.actors) x.tag.time x.tag.step (level x.actor) (level a) e.weight.time e.weight.step here.1 (small x.actor) up (edge_form g e went.mem) in (
        subst (λ b. b < length g.actors) went.to (wired.ends e went.mem).1,
        subst (λ q. q < 8) went.input (wired.ports e went.mem),
        (went.within, subst (λ (z : Tag). z.step ≤ length g.actors * z.time + level a) went.when_is on),
      ))
      (or_else_found (without w.waits x.actor x.tag a p t) (going g (edges g) (leaves_actor x.actor) x.tag x.outputs a p t) v found)

  -- one actor further
  step_on : (time step r a : ℕ) → At time step r a → At time step r (suc a)
  step_on time step r a h =
      ⊎_elim
      (λ (is : rank a ≡ r).
      ⊎_elim
      (λ (present : any_present (waiting h.w.waits a t) ≡ true). fires is present)
      (λ (none : any_present (waiting h.w.waits a t) ≡ false). passes (λ b p u v found et es er eb.
      false≢true (sym none ∙ eight_present (λ q. h.w.waits a q t) p v (h.sound b p u v found).1 (sym (ap (λ z. h.w.waits z p t) eb) ∙ sym (ap (λ z. h.w.waits b p z) (tag_is u et es)) ∙ found))))
      (cases_Bool (any_present (waiting h.w.waits a t))))
      (λ (other : rank a ≢ r). passes (λ b p u v found et es er eb. other (sym (ap rank eb) ∙ er)))
      (cases_same (rank a) r)
    where
      t : Tag
      t = record { time = time; step = step }

      tag_is : (u : Tag) → u.time ≡ time → u.step ≡ step → u ≡ t
      tag_is u et es = λ i. record { time = et i; step = es i }

      passes : ((b p : ℕ) (u : Tag) (v : ℤ) → h.w.waits b p u ≡ Some v → u.time ≡ time → u.step ≡ step → rank b ≡ r → b ≡ a → ⊥) → At time step r (suc a)
      passes never = record {
        zs = h.zs;
        w = h.w;
        steps = h.steps;
        mid = h.mid;
        sound = h.sound;
        past = λ b p u v found. next_actor time step r a b (rank b) u (h.past b p u v found) (never b p u v found);
      }

      fires : rank a ≡ r → any_present (waiting h.w.waits a t) ≡ true → At time step r (suc a)
      fires is present = record {
        zs = h.zs ++ x ∷ [];
        w = after_firing g h.w x;
        steps = steps_push h.zs (at_start g rows) h.w x h.steps fire;
        mid = mid;
        sound = sound_after h.w x h.sound (h.sound a at.0 t at.1 at.3).2;
        past = λ b p u v found. after_fired time step r a b (rank a) (rank b) u is (mid.order x b p u v (IsIn-append_right x h.zs (x ∷ []) (inl refl)) found);
      }
        where
          x : ActorFiring
          x = record {
            actor = a;
            tag = t;
            inputs = waiting h.w.waits a t;
            before = h.w.states a;
            after = (fired (kind_of g a) (h.w.states a) (waiting h.w.waits a t)).state;
            outputs = (fired (kind_of g a) (h.w.states a) (waiting h.w.waits a t)).outputs;
          }

          at : (p : ℕ) × (v : ℤ) × (p < 8) × (h.w.waits a p t ≡ Some v)
          at = eight_found (λ p. h.w.waits a p t) present

          fire : Fires g rank h.w x
          fire = record {
            first = λ b p u v found. as_first time step r a b (rank a) (rank b) u is (h.past b p u v found);
            inputs = refl;
            present = present;
            before = refl;
            after = refl;
            outputs = refl;
          }

          mid : Mid g rank rows (after_firing g h.w x) (h.zs ++ x ∷ [])
          mid = mid_step g rank rows wired (ranks_grow g rank ranks) h.w h.zs h.mid x fire

  -- what is past in one way is past in another
  weaker : (time step r a time2 step2 r2 a2 : ℕ) → (h : At time step r a) → ((b p : ℕ) (u : Tag) (v : ℤ) → h.w.waits b p u ≡ Some v → NotBefore time2 step2 r2 a2 u (rank b) b) → At time2 step2 r2 a2
  weaker time step r a time2 step2 r2 a2 h past = record { zs = h.zs; w = h.w; steps = h.steps; mid = h.mid; sound = h.sound; past = past }

  actors : (time step r n a end : ℕ) → n + a ≡ end → At time step r a → At time step r end
  actors time step r zero a end e h = subst (At time step r) (let is : a ≡ end = omega (arith, e) in is) h
  actors time step r (suc n) a end e h = actors time step r n (suc a) end (omega (arith, e)) (step_on time step r a h)

  one_rank : (time step r : ℕ) → At time step r 0 → At time step (suc r) 0
  one_rank time step r h =
      let all = actors time step r (length g.actors) 0 (length g.actors) (omega arith) h in
      weaker time step r (length g.actors) time step (suc r) 0 all (λ b p u v found. next_rank time step r (length g.actors) b (rank b) u (all.past b p u v found) (all.sound b p u v found).0)

  all_ranks : (time step n r end : ℕ) → n + r ≡ end → At time step r 0 → At time step end 0
  all_ranks time step zero r end e h = subst (λ k. At time step k 0) (let is : r ≡ end = omega (arith, e) in is) h
  all_ranks time step (suc n) r end e h = all_ranks time step n (suc r) end (omega (arith, e)) (one_rank time step r h)

  one_step : (time step : ℕ) → At time step 0 0 → At time (suc step) 0 0
  one_step time step h =
      let all = all_ranks time step (suc (length g.actors)) 0 (suc (length g.actors)) (omega arith) h in
      weaker time step (suc (length g.actors)) 0 time (suc step) 0 0 all (λ b p u v found. next_step time step (suc (length g.actors)) b (rank b) u (all.past b p u v found) (let le = rank_small b in omega (arith, le)))

  all_steps : (time n step end : ℕ) → n + step ≡ end → At time step 0 0 → At time end 0 0
  all_steps time zero step end e h = subst (λ k. At time k 0 0) (let is : step ≡ end = omega (arith, e) in is) h
  all_steps time (suc n) step end e h = all_steps time n (suc step) end (omega (arith, e)) (one_step time step h)

  one_time : (time : ℕ) → At time 0 0 0 → At (suc time) 0 0 0
  one_time time h =
      let most : ℕ = suc (length g.actors * time + length g.actors) in
      let all = all_steps time most 0 most (omega arith) h in
      weaker time most 0 0 (suc time) 0 0 0 all (λ b p u v found. past_steps time most b (rank b) u (all.past b p u v found)
      (λ e. few (length g.actors) time u.time u.step (level b) e (all.sound b p u v found).2.1 (small b)))
    where
      few : (n time at step l : ℕ) → at ≡ time → step ≤ n * at + l → l ≤ n → step < suc (n * time + n)
      few n time at step l e le small = let le2 : step ≤ n * time + l = subst (λ k. step ≤ n * k + l) e le in omega (arith, le2, small)

  all_times : (n time end : ℕ) → n + time ≡ end → At time 0 0 0 → At end 0 0 0
  all_times zero time end e h = subst (λ k. At k 0 0 0) (let is : time ≡ end = omega (arith, e) in is) h
  all_times (suc n) time end e h = all_times n (suc time) end (omega (arith, e)) (one_time time h)

  begin : At 0 0 0 0
  begin = record {
    zs = [];
    w = at_start g rows;
    steps = refl;
    mid = mid_start g rank rows;
    sound = sound_start;
    past = λ b p u v found. (omega arith, λ e. (omega arith, λ e2. (omega arith, λ e3. omega arith)));
  }

  runs : (zs : List ActorFiring) (w v : World) → Steps g rank w zs v → ((a p : ℕ) (t : Tag) → v.waits a p t ≡ None) → Runs g rank w zs
  runs [] w v e none = subst (λ (z : World). (a p : ℕ) (t : Tag) → z.waits a p t ≡ None) (sym e) none
  runs (x ∷ zs) w v (first, rest) none = (first, runs zs (after_firing g w x) v rest none)

  meaning : (xs : List ActorFiring) × IsMeaning g rank rows xs
  meaning =
      let end = all_times (suc g.until) 0 (suc g.until) (omega arith) begin in (
        end.zs,
        runs end.zs (at_start g rows) end.w end.steps (λ a p t. absent (end.w.waits a p t) (λ v found. clash g.until t.time (end.past a p t v found).0 (end.sound a p t v found).2.0)),
      )
    where
      clash : (until time : ℕ) → suc until ≤ time → time ≤ until → ⊥
      clash until time up down = omega (arith, up, down)

pub meanings_exist : MeaningsExist
meanings_exist g level rank rows wired levels ranks fits = meaning g level rank rows wired levels ranks fits
