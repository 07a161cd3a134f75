-- In a paced run over the made input each claim is at step 0 and a multiple of 100 microseconds, so there are few.
use Rattle.std.proofs.Common.{◌≡◌, ℕ, zero, suc, ◌+◌, ◌*◌, ◌<◌, ◌≤◌, ◌==◌, ◌&&◌, Bool, true, false, List, [], ◌∷◌, ◌++◌, Option, Some, None, ℤ, length, nat_lt, slice_get, if◌then◌else◌, arith, refl, sym, ap, subst, ◌∙◌, inl, inr, ⊎_elim, eqb-true}
use Rattle.std.proofs.lemmas.Bool.{cases_Bool, and_parts, false≢true}
use Rattle.std.proofs.lemmas.Bool.Decides.{nat_tests}
use Rattle.pt_tags.specs.declared.message.Message.{Message}
use Rattle.pt_tags.specs.declared.message.Message.TheVariants.{Event, End}
use Rattle.pt_tags.specs.declared.tag.Tag.{Tag}
use Rattle.pt_tags.specs.Tags.{Before, plus, same_tag}
use Rattle.pt_types.specs.declared.graph.Graph.{Graph}
use Rattle.pt_types.specs.declared.graph.Link.{Link}
use Rattle.pt_types.specs.declared.graph.Unit.{Unit}
use Rattle.pt_types.specs.declared.kind.Kind.{Kind}
use Rattle.pt_types.specs.declared.kind.Kind.TheVariants.{Every}
use Rattle.pt_types.specs.declared.rows.Row.{Row}
use Rattle.pt_types.specs.Ports.{at_port, when}
use Rattle.pt_semantics.specs.Lists.{IsIn, first_of}
use Rattle.pt_semantics.specs.Edges.{Edge, edges, wires, links, of_link}
use Rattle.pt_types.specs.Lookups.{kind_of, platform_of}
use Rattle.pt_semantics.specs.Units.{at_input, at_output, groups, source}
use Rattle.pt_types.specs.Groups.{input_group}
use Rattle.pt_semantics.specs.Behaviours.{Firing, Rising, comes_along, firing_at}
use Rattle.pt_semantics.specs.Counts.{actor_firings, sum_below, unit_firings}
use Rattle.pt_semantics.specs.Firing.{any_present}
use Rattle.pt_semantics.specs.History.{claims_of}
use Rattle.pt_semantics.specs.Linked.{all_claims, all_sent, all_taken}
use Rattle.pt_semantics.specs.Meaning.{at_time, row_at, start_at}
use Rattle.pt_semantics.specs.Offsets.{HasOffset}
use Rattle.pt_semantics.specs.Parts.{narrowed}
use Rattle.pt_semantics.specs.Posting.{as_message}
use Rattle.pt_semantics.specs.Ranks.{AreLevels}
use Rattle.pt_semantics.specs.Rounds.{IsWholeRun}
use Rattle.pt_semantics.specs.Rows.{FitRows, FitsRow}
use Rattle.pt_semantics.specs.Taking.{value_of}
use Rattle.pt_semantics.specs.Visits.{RunState}
use Rattle.pt_semantics.specs.Wired.{IsWired}
use Rattle.pt_laws.proofs.Counting.{counted}
use Rattle.pt_laws.proofs.Finish as finish
use Rattle.pt_laws.proofs.Finish.{SourceKind, source_kind, link_in}
use Rattle.pt_laws.proofs.Flows.{flows}
use Rattle.pt_laws.proofs.Came.{in_messages}
use Rattle.pt_semantics.proofs.Longest.{levels_grow}
use Rattle.pt_semantics.proofs.Lookups.{none_some, or_else_found, when_found, first_of_found, eight_found, Each-in, IsIn-append, IsIn-append_left, IsIn-append_right}
use Rattle.pt_laws.proofs.Onward.{Onward, round_onward}
use Rattle.pt_paced_laws.proofs.PacedRuns.{run_onward, whole_of}
use Rattle.pt_laws.proofs.Steps.{messages_of}
use Rattle.pt_laws.proofs.Sums.{sum_le}
use Rattle.pt_semantics.proofs.Tags.{Before-irrefl, same_tag-true}
use Rattle.pt_laws.proofs.Threads.{Threaded}
use Rattle.pt_laws.proofs.Walks.{Whole}
use Rattle.pt_semantics.proofs.Words.{firing_at_head, firing_at_tail}
use Rattle.pt_semantics.proofs.LawfulEdges.{wired}
use Rattle.pt_sensors.specs.Places.{of_run}
use Rattle.pt_make.specs.Input.{made_graph, made_rows}
use Rattle.pt_make.proofs.Fitting.{row_time, rows_fit}
use Rattle.pt_make.proofs.Shape.{adds, feasible, lawful, is_plain, leads_up, plain}
use Rattle.pt_types.specs.Limits.{usual_claims}

-- a tag at step 0, at a multiple of 100 microseconds up to the horizon
pub record IsSteady (n : ℕ) (t : Tag) : Type 0 where
  pub step : t.step ≡ 0
  pub times : ℕ
  pub time : t.time ≡ 100 * times
  pub within : t.time ≤ (made_graph n).until

-- what a unit fired at a tag
firing_there : (xs : List Firing) (x : Firing) → Rising xs → IsIn x xs → firing_at xs x.tag ≡ Some x
firing_there [] x rises mem = absurd mem
firing_there (y ∷ ys) x rises mem =
    ⊎_elim
    (λ (here : x ≡ y). subst (λ z. firing_at (y ∷ ys) z.tag ≡ Some z) (sym here) (firing_at_head y ys))
    (λ (there : IsIn x ys).
    ⊎_elim
    (λ (same : same_tag y.tag x.tag ≡ true). absurd (Before-irrefl x.tag (subst (λ t. Before t x.tag) (same_tag-true y.tag x.tag same) (Each-in (λ (z : Firing). Before y.tag z.tag) ys rises.0 x there))))
    (λ (other : same_tag y.tag x.tag ≡ false). firing_at_tail y ys x.tag other ∙ firing_there ys x rises.1 there)
    (cases_Bool (same_tag y.tag x.tag)))
    mem

-- a firing in a thread has inputs, all of its group
firing_in : (kind : Kind) (group : ℕ) (q : ℤ) (xs : List Firing) (x : Firing) → Threaded kind group q xs → IsIn x xs → (any_present x.inputs ≡ true) × (narrowed kind group x.inputs ≡ x.inputs)
firing_in kind group q [] x h mem = absurd mem
firing_in kind group q (y ∷ ys) x h mem =
    ⊎_elim
    (λ (here : x ≡ y). (ap (λ (z : Firing). any_present z.inputs) here ∙ h.0.present, subst (λ (z : Firing). narrowed kind group z.inputs ≡ z.inputs) (sym here) h.0.shape))
    (λ (there : IsIn x ys). firing_in kind group y.after ys x h.1 there)
    mem

-- an input of that unit that is there
record HasInput (g : Graph) (u : Unit) (x : Firing) : Type 0 where
  pub port : ℕ
  pub value : ℤ
  pub below : port < 8
  pub unit : at_input g u.actor port ≡ u
  pub there : at_port x.inputs port ≡ Some value

input_of : (g : Graph) (u : Unit) (x : Firing) → any_present x.inputs ≡ true → narrowed (kind_of g u.actor) u.group x.inputs ≡ x.inputs → HasInput g u x
input_of g u x present shape =
    let f = eight_found (λ p. when (input_group (kind_of g u.actor) p == u.group) (at_port x.inputs p)) (subst (λ z. any_present z ≡ true) (sym shape) present) in
    let w = when_found (input_group (kind_of g u.actor) f.0 == u.group) (at_port x.inputs f.0) f.1 f.3 in
    let same : input_group (kind_of g u.actor) f.0 ≡ u.group = eqb-true (input_group (kind_of g u.actor) f.0) u.group w.0 in
    record { port = f.0; value = f.1; below = f.2; unit = λ j. record { actor = u.actor; group = same j }; there = w.1 }

-- an event among the messages of firings is the output of one
message_in : (xs : List Firing) (t : Tag) (v : ℤ) → IsIn (Event t v) (messages_of xs) → (z : Firing) × IsIn z xs × (z.tag ≡ t)
message_in [] t v mem = absurd mem
message_in (x ∷ xs) t v mem =
    ⊎_elim
    (λ (here : IsIn (Event t v) (as_message x.tag (at_port x.outputs 0))). (x, inl refl, of_one (at_port x.outputs 0) here))
    (λ (there : IsIn (Event t v) (messages_of xs)). let on = message_in xs t v there in (on.0, inr on.1, on.2))
    (IsIn-append (Event t v) (as_message x.tag (at_port x.outputs 0)) (messages_of xs) mem)
  where
    of_one : (o : Option ℤ) → IsIn (Event t v) (as_message x.tag o) → x.tag ≡ t
    of_one None h = absurd h
    of_one (Some w) h = ⊎_elim (λ (e : Event t v ≡ Event x.tag w). cc) (λ (no_more : ⊥). absurd no_more) h

-- an event that has this tag in a list of messages
value_in : (ms : List Message) (t : Tag) (v : ℤ) → (m : Message) × IsIn m ms × (value_of t m ≡ Some v) → (w : ℤ) × IsIn (Event t w) ms
value_in ms t v (Event u w, mem, is) = (w, subst (λ z. IsIn (Event z w) ms) (same_tag-true u t (when_found (same_tag u t) (Some w) v is).0) mem)
value_in ms t v (End, mem, is) = absurd (none_some v is)

-- none begins by itself
no_start : (g : Graph) (k : Kind) (t : Tag) (v : ℤ) → start_at g k t ≡ Some v → is_plain k ≡ true → ⊥
no_start g (Every start period) t v h is = false≢true is
no_start g _ t v h is = none_some v h

one_group : (k : Kind) → is_plain k ≡ true → groups k ≡ 1
one_group (Every start period) h = absurd (false≢true h)
one_group k h = eqb-true (groups k) 1 h

le_trans : (a b d : ℕ) → a ≤ b → b ≤ d → a ≤ d
le_trans a b d h k = omega arith

plus_zero : (a b : ℕ) → a ≤ b → a + 0 ≤ b
plus_zero a b h = omega arith

eighteen : (m : ℕ) → sum_below (λ a. m) 18 ≤ 18 * m
eighteen m = omega arith

-- steady tags that rise from a number of hundreds on
rising_few : (n low : ℕ) (xs : List Firing) → low ≤ 100 * n + 5 → Rising xs → ((x : Firing) → IsIn x xs → (s : IsSteady n x.tag) × (low ≤ s.times)) → length xs + low ≤ 100 * n + 5
rising_few n low [] le rises each = omega arith
rising_few n low (x ∷ xs) le rises each =
    let this = each x (inl refl) in
    let last : this.0.times + 1 ≤ 100 * n + 5 = before_end this.0.times x.tag.time this.0.time this.0.within in
    let rest : length xs + (this.0.times + 1) ≤ 100 * n + 5 =
    rising_few n (this.0.times + 1) xs last rises.1 (λ z mem.
    let there = each z (inr mem) in
    (there.0, after x.tag z.tag this.0.times there.0.times (Each-in (λ (w : Firing). Before x.tag w.tag) xs rises.0 z mem) this.0.step there.0.step this.0.time there.0.time)) in
    omega (arith, rest, this.1)
  where
    before_end : (k t : ℕ) → t ≡ 100 * k → t ≤ 100 * (100 * n) + 400 → k + 1 ≤ 100 * n + 5
    before_end k t e h = omega arith

    after : (s t : Tag) (j k : ℕ) → Before s t → s.step ≡ 0 → t.step ≡ 0 → s.time ≡ 100 * j → t.time ≡ 100 * k → j + 1 ≤ k
    after s t j k before zs zt es et = grind arith

module _ (n : ℕ) (few : n ≤ 100) (level : ℕ → ℕ) (offset : Unit → Option ℤ) (are : AreLevels (made_graph n) level) (has : (u : Unit) → HasOffset (made_graph n) u (offset u)) (c : ℕ) (y : RunState) where
  abbrev g : Graph
  g = made_graph n

  abbrev rows : ℕ → List Row
  rows = of_run g (made_rows n)

  fits : FitRows g rows
  fits = rows_fit n

  is_wired : IsWired g
  is_wired = wired g (lawful n few)

  module _ (h : Onward g level rows offset c y) where
    whole : (i : ℕ) → i < length g.platforms → Whole g level i rows (y.at i) (y.at i).reading (claims_of g (y.did i)) (λ l. all_sent l (y.did i)) (λ l. all_taken l (y.did i))
    whole i lt = whole_of g level rows offset is_wired are fits (feasible n) has c y i lt h

    here : (a : ℕ) → Whole g level (platform_of g a) rows (y.at (platform_of g a)) (y.at (platform_of g a)).reading (claims_of g (y.did (platform_of g a))) (λ l. all_sent l (y.did (platform_of g a))) (λ l. all_taken l (y.did (platform_of g a)))
    here a = whole (platform_of g a) (is_wired.homes a)

    -- what was posted was claimed
    posted : (a : ℕ) (v : Unit) (z : Firing) → IsIn z ((here a).keeps.q v) → IsIn z (claims_of g (y.did (platform_of g a)) v)
    posted a v z mem = subst (IsIn z) (sym ((here a).keeps.chains.open_is v)) (IsIn-append_left z ((here a).keeps.q v) _ mem)

    -- an event that was taken was claimed by its sender
    taken_from : (l : ℕ) (link : Link) (t : Tag) (w : ℤ) → slice_get g.links l ≡ Some link → IsIn (Event t w) (all_taken l (y.did (platform_of g link.to))) → (z : Firing) × IsIn z (all_claims g y.did (at_output g link.from 0)) × (z.tag ≡ t)
    taken_from l link t w at mem =
        let sent : IsIn (Event t w) (all_sent l (y.did (platform_of g link.from))) = subst (IsIn (Event t w)) (sym (h.linked l link at)) (IsIn-append_left (Event t w) (all_taken l (y.did (platform_of g link.to))) (y.on_way l) mem) in
        let all : IsIn (Event t w) (all_sent l (y.did (platform_of g link.from)) ++ (y.at (platform_of g link.from)).outbox l) = IsIn-append_left (Event t w) (all_sent l (y.did (platform_of g link.from))) ((y.at (platform_of g link.from)).outbox l) sent in
        let out = (here link.from).keeps.out in
        let q = (here link.from).keeps.q (at_output g link.from 0) in
        let among : IsIn (Event t w) (messages_of q) =
        ⊎_elim
        (λ (shut : (y.at (platform_of g link.from)).closed ≡ true).
        ⊎_elim
        (λ (m : IsIn (Event t w) (messages_of q)). m)
        (λ (m : IsIn (Event t w) (End ∷ [])). absurd (⊎_elim (λ (e : Event t w ≡ End). cc) (λ (none : ⊥). none) m))
        (IsIn-append (Event t w) (messages_of q) (End ∷ []) (subst (IsIn (Event t w)) (out.once_shut shut l link at refl) all)))
        (λ (open_yet : (y.at (platform_of g link.from)).closed ≡ false). subst (IsIn (Event t w)) (out.while_open open_yet l link at refl) all)
        (cases_Bool (y.at (platform_of g link.from)).closed) in
        let z = message_in q t w among in
        (z.0, posted link.from (at_output g link.from 0) z.0 z.1, z.2)

    -- how a claim's tag comes from an earlier one
    steady_after : (z t : Tag) (e : Edge) → IsIn e (edges g) → IsSteady n z → plus z e.weight ≡ t → t.time ≤ g.until → IsSteady n t
    steady_after z t e mem was is within =
        let more = adds n e mem in
        record {
          step = sym (ap (λ (s : Tag). s.step) is) ∙ sums was.step more.0;
          times = was.times + more.1.0;
          time = sym (ap (λ (s : Tag). s.time) is) ∙ both was.times more.1.0 was.time more.1.1;
          within = within;
        }
      where
        sums : z.step ≡ 0 → e.weight.step ≡ 0 → z.step + e.weight.step ≡ 0
        sums a b = omega arith

        both : (j k : ℕ) → z.time ≡ 100 * j → e.weight.time ≡ 100 * k → z.time + e.weight.time ≡ 100 * (j + k)
        both j k a b = omega arith

    until_of : (t : Tag) → nat_lt t.time (suc g.until) ≡ true → t.time ≤ g.until
    until_of t lt = grind (arith, nat_tests)

    -- the tag of a claim, by what came to the unit
    steady_by : (u : Unit) (x : Firing) (i : HasInput g u x) → (here u.actor).keeps.arr u.actor i.port x.tag ≡ Some i.value → SourceKind g u.actor → ((v : Unit) (z : Firing) → v.actor < u.actor → IsIn z (all_claims g y.did v) → IsSteady n z.tag) → IsSteady n x.tag
    steady_by u x i arrived (finish.plain none) on =
        let o = or_else_found (when (platform_of g u.actor == platform_of g u.actor && i.port == 0) (start_at g (kind_of g u.actor) x.tag)) (flows g (wires g) (here u.actor).keeps.q u.actor i.port x.tag) i.value (sym ((here u.actor).keeps.came.inner u.actor i.port x.tag none) ∙ arrived) in
        ⊎_elim
        (λ (start : when (platform_of g u.actor == platform_of g u.actor && i.port == 0) (start_at g (kind_of g u.actor) x.tag) ≡ Some i.value).
        absurd (no_start g (kind_of g u.actor) x.tag i.value (when_found (platform_of g u.actor == platform_of g u.actor && i.port == 0) (start_at g (kind_of g u.actor) x.tag) i.value start).1 (plain n u.actor)))
        (λ (flow : flows g (wires g) (here u.actor).keeps.q u.actor i.port x.tag ≡ Some i.value).
        let w = when_found (nat_lt x.tag.time (suc g.until)) (first_of (λ (e : Edge). when (e.to == u.actor && e.input == i.port) (comes_along (here u.actor).keeps.q g e x.tag)) (wires g)) i.value flow in
        let f = first_of_found (λ (e : Edge). when (e.to == u.actor && e.input == i.port) (comes_along (here u.actor).keeps.q g e x.tag)) (wires g) i.value w.1 in
        along f.0 f.1 (when_found (f.0.to == u.actor && f.0.input == i.port) (comes_along (here u.actor).keeps.q g f.0 x.tag) i.value f.2) (until_of x.tag w.0))
        o
      where
        along : (e : Edge) → IsIn e (wires g) → ((e.to == u.actor && e.input == i.port) ≡ true) × (comes_along (here u.actor).keeps.q g e x.tag ≡ Some i.value) → x.tag.time ≤ g.until → IsSteady n x.tag
        along e mem (goes, comes) within =
            let to : e.to ≡ u.actor = eqb-true e.to u.actor (and_parts (e.to == u.actor) (e.input == i.port) goes).0 in
            let z = first_of_found (λ (z : Firing). when (same_tag (plus z.tag e.weight) x.tag) (at_port z.outputs e.output)) ((here u.actor).keeps.q (source g e)) i.value comes in
            let is : plus z.0.tag e.weight ≡ x.tag = same_tag-true (plus z.0.tag e.weight) x.tag (when_found (same_tag (plus z.0.tag e.weight) x.tag) (at_port z.0.outputs e.output) i.value z.2).0 in
            let in_edges : IsIn e (edges g) = IsIn-append_left e (wires g) (links g) mem in
            let home : platform_of g e.from ≡ platform_of g u.actor = is_wired.at_home e mem ∙ ap (platform_of g) to in
            let claimed : IsIn z.0 (all_claims g y.did (source g e)) = subst (λ j. IsIn z.0 (claims_of g (y.did j) (source g e))) (sym home) (posted u.actor (source g e) z.0 z.1) in
            steady_after z.0.tag x.tag e in_edges (on (source g e) z.0 (subst (λ b. e.from < b) to (leads_up n e in_edges)) claimed) is within
    steady_by u x i arrived (finish.sensor file b is) on =
        let r = when_found (i.port == 0) (row_at ((here u.actor).keeps.came.entered u.actor) x.tag) i.value (sym ((here u.actor).keeps.came.sensors file u.actor b i.port x.tag is) ∙ arrived) in
        let f = first_of_found (λ (row : Row). when (same_tag (at_time row.time) x.tag) (Some row.value)) ((here u.actor).keeps.came.entered u.actor) i.value r.1 in
        let at : at_time f.0.time ≡ x.tag = same_tag-true (at_time f.0.time) x.tag (when_found (same_tag (at_time f.0.time) x.tag) (Some f.0.value) i.value f.2).0 in
        let among : IsIn f.0 (rows u.actor) = in_rows f.0 (platform_of g u.actor == platform_of g u.actor) (subst (IsIn f.0) ((here u.actor).keeps.came.split u.actor) (IsIn-append_left f.0 ((here u.actor).keeps.came.entered u.actor) _ f.1)) in
        let time = row_time n u.actor f.0 among in
        let fit : FitsRow g u.actor f.0 = Each-in (FitsRow g u.actor) (rows u.actor) (fits.fit u.actor) f.0 among in
        subst (IsSteady n) at (record { step = refl; times = time.0; time = time.1; within = fit.within })
      where
        in_rows : (row : Row) (b : Bool) → IsIn row (if b then rows u.actor else []) → IsIn row (rows u.actor)
        in_rows row true m = m
        in_rows row false m = absurd m
    steady_by u x i arrived (finish.receiver l link at to) on =
        let came : (here u.actor).keeps.arr link.to i.port x.tag ≡ Some i.value = subst (λ a. (here u.actor).keeps.arr a i.port x.tag ≡ Some i.value) (sym to) arrived in
        let m = when_found (i.port == 0) (in_messages ((y.at (platform_of g u.actor)).taken l) x.tag) i.value (sym ((here u.actor).keeps.came.receivers l link i.port x.tag at) ∙ came) in
        let e = value_in ((y.at (platform_of g u.actor)).taken l) x.tag i.value (first_of_found (value_of x.tag) ((y.at (platform_of g u.actor)).taken l) i.value m.1) in
        let took : IsIn (Event x.tag e.0) (all_taken l (y.did (platform_of g u.actor))) = subst (IsIn (Event x.tag e.0)) ((here u.actor).keeps.taken_is l) e.1 in
        let from = taken_from l link x.tag e.0 at (subst (λ a. IsIn (Event x.tag e.0) (all_taken l (y.did (platform_of g a)))) (sym to) took) in
        let up : link.from < u.actor = subst (λ a. link.from < a) to (leads_up n (of_link link) (IsIn-append_right (of_link link) (wires g) (links g) (link_in g.links l link at))) in
        subst (IsSteady n) from.2 (on (at_output g link.from 0) from.0 up from.1)

    -- each claim of the actors below m
    steady_below : (m : ℕ) (u : Unit) (x : Firing) → u.actor < m → IsIn x (all_claims g y.did u) → IsSteady n x.tag
    steady_below zero u x lt mem = absurd (omega (arith, lt))
    steady_below (suc m) u x lt mem =
        let one = firing_in (kind_of g u.actor) u.group _ (all_claims g y.did u) x ((here u.actor).keeps.chains.threaded u) mem in
        let i : HasInput g u x = input_of g u x one.0 one.1 in
        let fired : firing_at (claims_of g (y.did (platform_of g u.actor)) (at_input g u.actor i.port)) x.tag ≡ Some x =
        subst (λ v. firing_at (claims_of g (y.did (platform_of g u.actor)) v) x.tag ≡ Some x) (sym i.unit) (firing_there (all_claims g y.did u) x ((here u.actor).sound.floor.rises u) mem) in
        steady_by u x i (sym ((here u.actor).keeps.held.used u.actor i.port x.tag x i.below fired) ∙ i.there) (source_kind g u.actor) (λ v z below there. steady_below m v z (omega (arith, lt, below)) there)

    pub steady : (u : Unit) (x : Firing) → IsIn x (all_claims g y.did u) → IsSteady n x.tag
    steady u x mem = steady_below (suc u.actor) u x (omega arith) mem

    -- so each unit makes few claims,
    claims_few : (u : Unit) → length (all_claims g y.did u) ≤ 100 * n + 5
    claims_few u = plus_none (length (all_claims g y.did u)) (100 * n + 5) (rising_few n 0 (all_claims g y.did u) (omega arith) ((here u.actor).sound.floor.rises u) (λ x mem. (steady u x mem, omega arith)))
      where
        plus_none : (a b : ℕ) → a + 0 ≤ b → a ≤ b
        plus_none a b h = omega arith

    -- and each platform does
    pub platform_few : (i : ℕ) → i < length g.platforms → (y.at i).claims ≤ 18 * (100 * n + 5)
    platform_few i lt =
        let count = (counted g level i rows (y.did i) (y.at i) is_wired (levels_grow g level are) fits (h.legal i lt)).count in
        subst (λ k. k ≤ 18 * (100 * n + 5)) count
        (in_all (sum_le (λ a. if platform_of g a == i then actor_firings g (claims_of g (y.did i)) a else 0) (λ a. 100 * n + 5) 18 (λ a. of_actor a (platform_of g a == i) refl)))
      where
        in_all : sum_below (λ a. if platform_of g a == i then actor_firings g (claims_of g (y.did i)) a else 0) 18 ≤ sum_below (λ a. 100 * n + 5) 18 → unit_firings g i (claims_of g (y.did i)) ≤ 18 * (100 * n + 5)
        in_all le = le_trans (unit_firings g i (claims_of g (y.did i))) (sum_below (λ a. 100 * n + 5) 18) (18 * (100 * n + 5)) le (eighteen (100 * n + 5))

        of_actor : (a : ℕ) (b : Bool) → (platform_of g a == i) ≡ b → (if b then actor_firings g (claims_of g (y.did i)) a else 0) ≤ 100 * n + 5
        of_actor a true e =
            subst (λ k. sum_below (λ k. length (claims_of g (y.did i) (record { actor = a; group = k }))) k ≤ 100 * n + 5) (sym (one_group (kind_of g a) (plain n a)))
            (plus_zero (length (claims_of g (y.did i) (record { actor = a; group = 0 }))) (100 * n + 5)
            (subst (λ j. length (claims_of g (y.did j) (record { actor = a; group = 0 })) ≤ 100 * n + 5) (eqb-true (platform_of g a) i e) (claims_few (record { actor = a; group = 0 }))))
        of_actor a false e = omega arith

-- so no platform of a whole paced run makes all the claims that it may
pub never_long : (n : ℕ) → n ≤ 100 → (level : ℕ → ℕ) (offset : Unit → Option ℤ) → AreLevels (made_graph n) level → ((u : Unit) → HasOffset (made_graph n) u (offset u)) → (y : RunState) → IsWholeRun (made_graph n) level (of_run (made_graph n) (made_rows n)) y → (i : ℕ) → i < 4 → (y.at i).claims < usual_claims
never_long n few level offset are has y run i lt =
    below (y.at i).claims (platform_few n few level offset are has run.reading y on i lt)
  where
    below : (k : ℕ) → k ≤ 18 * (100 * n + 5) → k < usual_claims
    below k h = omega arith

    w : IsWired (made_graph n)
    w = wired (made_graph n) (lawful n few)

    on : Onward (made_graph n) level (of_run (made_graph n) (made_rows n)) offset run.reading y
    on = (round_onward (made_graph n) level (of_run (made_graph n) (made_rows n)) offset has w (feasible n) run.reading 4 0 run.before y run.made (omega arith)
        (run_onward (made_graph n) level (of_run (made_graph n) (made_rows n)) offset w are (rows_fit n) (feasible n) has run.rounds run.reading run.before run.run) run.round).1
