-- At any time in a run a unit that is safe has a firing in the meaning at its least tag, though it is not claimed.
use Rattle.std.proofs.Common.{append-nil, length-append, ◌≡◌, ℕ, zero, suc, ◌+◌, ◌<◌, ◌≤◌, ◌==◌, ◌⊎◌, ◌≢◌, true, ◌&&◌, List, [], ◌∷◌, ◌++◌, Option, Some, None, ℤ, length, slice_get, nat_lt, arith, refl, sym, ap, subst, ◌∙◌, inl, inr, ⊎_elim, eqb-true, append_assoc}
use Rattle.std.proofs.lemmas.Bool.{cases_lt, and_parts}
use Rattle.pt_tags.specs.declared.tag.Tag.{Tag}
use Rattle.pt_tags.specs.declared.tag.Delay.{Delay}
use Rattle.pt_tags.specs.Tags.{Before, UpTo, same_tag, plus}
use Rattle.pt_tags.specs.declared.message.Message.TheVariants.{Event}
use Rattle.pt_types.specs.declared.graph.Graph.{Graph}
use Rattle.pt_types.specs.declared.graph.Link.{Link}
use Rattle.pt_types.specs.declared.graph.Unit.{Unit}
use Rattle.pt_types.specs.declared.rows.Row.{Row}
use Rattle.pt_types.specs.declared.firing.Task.{Task}
use Rattle.pt_types.specs.Ports.{when}
use Rattle.pt_semantics.specs.Lists.{IsIn, or_else}
use Rattle.pt_semantics.specs.Edges.{Edge, edges, of_link, first_state}
use Rattle.pt_types.specs.Lookups.{kind_of, platform_of}
use Rattle.pt_semantics.specs.Firing.{any_present, fired}
use Rattle.pt_semantics.specs.Units.{at_input, at_output, source, target, unit_inputs, HasEvent}
use Rattle.pt_types.specs.Groups.{input_group}
use Rattle.pt_semantics.specs.Ranks.{sum_along, AreLevels, AreRanks}
use Rattle.pt_semantics.specs.Paths.{Goes}
use Rattle.pt_semantics.specs.Bounds.{Feeds, bound_by, link_bound}
use Rattle.pt_semantics.specs.Offsets.{HasOffset, IsFeasible}
use Rattle.pt_semantics.specs.Cycles.{HasLevels}
use Rattle.pt_semantics.specs.Wired.{IsWired}
use Rattle.pt_semantics.specs.Rows.{FitRows}
use Rattle.pt_semantics.specs.Meaning.{ActorFiring, IsMeaning, at_time, opening}
use Rattle.pt_semantics.specs.Behaviours.{Firing, IsClosed, firing_at, state_before, comes, comes_along}
use Rattle.pt_semantics.specs.Parts.{parts}
use Rattle.pt_semantics.specs.Safe.{IsSafe}
use Rattle.pt_semantics.specs.Settled.{AreCaughtUp}
use Rattle.pt_semantics.specs.Linked.{all_claims, all_taken}
use Rattle.pt_semantics.specs.History.{claims_of}
use Rattle.pt_semantics.specs.Paced.{paced_by}
use Rattle.pt_semantics.specs.Visits.{RunState}
use Rattle.pt_semantics.proofs.Tags.{Before-trans, cases_tags, same_tag-before}
use Rattle.pt_semantics.proofs.Longest.{levels_grow, sum_time, sum_step}
use Rattle.pt_semantics.proofs.Words.{when-false, when-true, first_of_same, when_same, eight_same}
use Rattle.pt_laws.proofs.Agree.{brings_agree, at_end}
use Rattle.pt_semantics.proofs.Lookups.{none_some, first_of_none, cases_part, eight_below}
use Rattle.pt_semantics.proofs.Floor.{plus_zero, sensor_unit}
use Rattle.pt_laws.proofs.Finish.{Unfed, came_is, source_kind}
use Rattle.pt_laws.proofs.MeaningSteps.{meaning_behaves}
use Rattle.pt_laws.specs.NearClocks.{AreNear}
use Rattle.pt_laws.proofs.NearClocks.{received_later, sent_in_bound}
use Rattle.pt_laws.proofs.Progress.{goes_home}
use Rattle.pt_semantics.proofs.Claiming.{event_found, has_event}
use Rattle.pt_laws.proofs.Paces.{as_le, row_when_paced}
use Rattle.pt_laws.proofs.Onward.{OnwardNear}
use Rattle.pt_paced_laws.proofs.Prefix.{Along, along_push, before_push, IsPast, Crosses, split, sooner_time, not_itself, not_one, later_path, whole, in_bound, by_link, same_there, prefixes}

-- what waits at v at t itself is left out
pub record IsAhead (g : Graph) (y : RunState) (v : Unit) (t : Tag) (u : Unit) (s : Tag) : Type 0 where
  pub waits : (i a p : ℕ) (w : Tag) (x : ℤ) → i < length g.platforms → p < 8 → (y.at i).waits a p w ≡ Some x → (at_input g a p ≡ v → w ≡ t → ⊥) → (path : List Edge) → Along g (at_input g a p) path u → Before s (plus w (sum_along path))
  pub left : (i a : ℕ) (row : Row) → i < length g.platforms → IsIn row ((y.at i).left a) → (path : List Edge) → Along g (at_input g a 0) path u → Before s (plus (at_time row.time) (sum_along path))
  pub messages : (l : ℕ) (link : Link) (w : Tag) (x : ℤ) → slice_get g.links l ≡ Some link → IsIn (Event w x) (y.on_way l ++ (y.at (platform_of g link.from)).outbox l) → (path : List Edge) → Along g (at_input g link.to 0) path u → Before s (plus w (sum_along path))
  pub busy : (i : ℕ) (x : Unit) (task : Task) (e : Edge) (path : List Edge) → i < length g.platforms → (y.at i).busy x ≡ Some task → Along g x (e ∷ path) u → Before s (plus task.tag (sum_along (e ∷ path)))

ahead_is_closed : (g : Graph) (y : RunState) (v : Unit) (t : Tag) → IsClosed g (IsAhead g y v t)
ahead_is_closed g y v t = record {
  earlier = λ u s r l h. record {
    waits = λ i a p w x lt below there other path go. Before-trans s r (plus w (sum_along path)) l (h.waits i a p w x lt below there other path go);
    left = λ i a row lt m path go. Before-trans s r (plus (at_time row.time) (sum_along path)) l (h.left i a row lt m path go);
    messages = λ k link w x at m path go. Before-trans s r (plus w (sum_along path)) l (h.messages k link w x at m path go);
    busy = λ i x task e path lt b go. Before-trans s r (plus task.tag (sum_along (e ∷ path))) l (h.busy i x task e path lt b go);
  };
  sources = λ e s mem h. record {
    waits = λ i a p w x lt below there other path go. before_push s w (sum_along path) e.weight (sum_along (path ++ e ∷ [])) (sum_time path e) (sum_step path e) (h.waits i a p w x lt below there other (path ++ e ∷ []) (along_push g (at_input g a p) path e go mem));
    left = λ i a row lt m path go. before_push s (at_time row.time) (sum_along path) e.weight (sum_along (path ++ e ∷ [])) (sum_time path e) (sum_step path e) (h.left i a row lt m (path ++ e ∷ []) (along_push g (at_input g a 0) path e go mem));
    messages = λ k link w x at m path go. before_push s w (sum_along path) e.weight (sum_along (path ++ e ∷ [])) (sum_time path e) (sum_step path e) (h.messages k link w x at m (path ++ e ∷ []) (along_push g (at_input g link.to 0) path e go mem));
    busy = λ i x task d path lt b go. before_push s task.tag (sum_along (d ∷ path)) e.weight (sum_along (d ∷ (path ++ e ∷ []))) (sum_time (d ∷ path) e) (sum_step (d ∷ path) e) (h.busy i x task d (path ++ e ∷ []) lt b (along_push g x (d ∷ path) e go mem));
  };
}

-- a cycle of wires and links takes time
along_grows : (g : Graph) (level : ℕ → ℕ) → HasLevels g level → (path : List Edge) (x a : Unit) → Along g x path a → (sum_along path).time ≡ 0 → level x.actor ≤ level a.actor
along_grows g level up [] x a go z = subst (λ (u : Unit). level x.actor ≤ level u.actor) go (omega arith)
along_grows g level up (e ∷ path) x a (mem, src, go) z =
    let here : level e.from < level e.to = up e mem (omega (arith, z)) in
    let on : level e.to ≤ level a.actor = along_grows g level up path (target g e) a go (omega (arith, z)) in
    subst (λ (u : Unit). level u.actor ≤ level a.actor) src (omega (arith, here, on))

-- what comes to v at t from v at t itself does not: it would come later
round_trip : (g : Graph) (level : ℕ → ℕ) → HasLevels g level → (v : Unit) (t s : Tag) (e : Edge) (path : List Edge) → IsIn e (edges g) → target g e ≡ v → plus s e.weight ≡ t → Along g v path (source g e) → Before s (plus t (sum_along path))
round_trip g level up v t s e path mem end sum go =
    let time : s.time + e.weight.time ≡ t.time = ap (λ (w : Tag). w.time) sum in
    ⊎_elim
    (λ (none : (sum_along path).time + e.weight.time ≡ 0).
    let grows : level v.actor ≤ level e.from = along_grows g level up path v (source g e) go (omega (arith, none)) in
    let more : level e.from < level e.to = up e mem (omega (arith, none)) in
    let same : level e.to ≡ level v.actor = ap (λ (u : Unit). level u.actor) end in
    absurd (omega (arith, grows, more, same)))
    (λ (some : (sum_along path).time + e.weight.time ≢ 0). later s t (sum_along path) e.weight time some)
    (cases_zero ((sum_along path).time + e.weight.time))
  where
    later : (s t : Tag) (d w : Delay) → s.time + w.time ≡ t.time → d.time + w.time ≢ 0 → Before s (plus t d)
    later s t d w e some = ⊎_elim (λ (l : s.time < t.time + d.time). soon s t d l) (λ (k : t.time + d.time ≤ s.time). absurd (some (omega (arith, e, k)))) (cases_lt s.time (t.time + d.time))
      where
        soon : (s t : Tag) (d : Delay) → s.time < t.time + d.time → Before s (plus t d)
        soon s t d l = omega (arith, l)

    cases_zero : (n : ℕ) → (n ≡ 0) ⊎ (n ≢ 0)
    cases_zero zero = inl refl
    cases_zero (suc n) = inr (λ e. absurd (omega (arith, e)))

module _ (g : Graph) (level : ℕ → ℕ) (rows : ℕ → List Row) (offset : Unit → Option ℤ) (wired : IsWired g) (are : AreLevels g level) (fits : FitRows g rows) (feasible : IsFeasible g) (has : (u : Unit) → HasOffset g u (offset u)) (c : ℕ → ℕ) (near : AreNear g c) (y : RunState) (h : OnwardNear g level rows offset c y) (v : Unit) (t : Tag) (safe : IsSafe g (y.at (platform_of g v.actor)).waits (y.at (platform_of g v.actor)).busy (c (platform_of g v.actor)) v t) where
  -- a row or message that is not seen before the platform's reading comes past t
  source_later : (a b : ℕ) (path : List Edge) → Feeds g a b path v → (n : ℕ) → c (platform_of g v.actor) ≤ n + b → t.time < n + (sum_along path).time
  source_later a b path feeds n le =
      let lt : t.time + b < c (platform_of g v.actor) + (sum_along path).time = safe.bounds a b path feeds in
      omega (arith, lt, le)

  -- what comes over a link within its bound comes past t
  message_later : (l : ℕ) (link : Link) (w : Tag) (path : List Edge) → slice_get g.links l ≡ Some link → Goes g (at_input g link.to 0) path v → c (platform_of g link.to) ≤ w.time + link_bound g link → t.time < w.time + (sum_along path).time
  message_later l link w path at go bound =
      source_later link.to (link_bound g link) path (by_link g level rows offset wired are fits feasible has c near y h l link path v at go) w.time
      (subst (λ i. c i ≤ w.time + link_bound g link) (goes_home g wired path (at_input g link.to 0) v go) bound)

  crosses_later : (z : Unit) (w : Tag) (path : List Edge) → Crosses g z path v → c (platform_of g z.actor) ≤ paced_by (offset z) w → Before t (plus w (sum_along path))
  crosses_later z w path k le =
      let sent : c (platform_of g k.link.from) ≤ paced_by (offset (at_output g k.link.from 0)) (plus w (sum_along k.before)) = later_path g level rows offset wired are fits feasible has c near y h k.before z (source g (of_link k.link)) w k.first le in
      let lt : t.time < (w.time + (sum_along k.before).time) + (sum_along k.after).time = message_later k.l k.link (plus w (sum_along k.before)) k.after k.at k.rest (sent_in_bound g offset has wired feasible c near k.l k.link (plus w (sum_along k.before)) k.at sent) in
      let time : (sum_along path).time ≡ (sum_along k.before).time + (sum_along k.after).time = k.time in
      sooner_time t w (sum_along path) (omega (arith, lt, time))

  -- what waits at v itself waits later than t
  own_later : (w : Tag) (d : Delay) → UpTo t w → (w ≡ t → ⊥) → Before t (plus w d)
  own_later w d up other =
      ⊎_elim
      (λ (same : t ≡ w). absurd (other (sym same)))
      (λ (apart : Before t w ⊎ Before w t).
      ⊎_elim (λ (l : Before t w). more t w d l) (λ (l : Before w t). absurd (not_both t w up l)) apart)
      (cases_tags t w)
    where
      more : (t w : Tag) (d : Delay) → Before t w → Before t (plus w d)
      more t w d l = omega (arith, l)

      not_both : (t w : Tag) → UpTo t w → Before w t → ⊥
      not_both t w k l = grind arith

  ahead : IsAhead g y v t v t
  ahead = record {
    waits = λ i a p w x lt below there other path go.
        let k = (h.later i lt).waits a p w x there in
        ⊎_elim
        (λ (wire : Goes g (at_input g a p) path v).
        let home : i ≡ platform_of g v.actor = sym k.0 ∙ goes_home g wired path (at_input g a p) v wire in
        let event : HasEvent g (y.at (platform_of g v.actor)).waits (at_input g a p) w = has_event g (y.at (platform_of g v.actor)).waits a p w x below (subst (λ n. (y.at n).waits a p w ≡ Some x) home there) in
        ⊎_elim
        (λ (same : at_input g a p ≡ v). own_later w (sum_along path) (safe.least w (subst (λ u. HasEvent g (y.at (platform_of g v.actor)).waits u w) same event)) (other same))
        (λ (apart : at_input g a p ≢ v). safe.events (at_input g a p) w path apart event wire)
        (cases_part (at_input g a p) v))
        (λ (cross : Crosses g (at_input g a p) path v). crosses_later (at_input g a p) w path cross (subst (λ n. c n ≤ paced_by (offset (at_input g a p)) w) (sym k.0) k.1))
        (split g path (at_input g a p) v go);
    left = λ i a row lt m path go.
        let k = (h.later i lt).left a row m in
        let seen : c (platform_of g a) ≤ row.seen = subst (λ n. c n ≤ row.seen) (sym k.1) k.2 in
        let in_time : row.seen ≤ row.time + k.0.bound = k.0.in_time in
        ⊎_elim
        (λ (wire : Goes g (at_input g a 0) path v).
        let feeds : Feeds g a k.0.bound path v = record { bound = ap (bound_by g a) k.0.sensor; goes = subst (λ z. Goes g z path v) (sensor_unit g k.0.file a 0 k.0.bound k.0.sensor) wire } in
        let here : c (platform_of g v.actor) ≤ row.seen = subst (λ n. c n ≤ row.seen) (goes_home g wired path (at_input g a 0) v wire) seen in
        sooner_time t (at_time row.time) (sum_along path) (source_later a k.0.bound path feeds row.time (omega (arith, here, in_time))))
        (λ (cross : Crosses g (at_input g a 0) path v).
        let on : row.seen ≤ paced_by (offset (at_input g a 0)) (at_time row.time) = row_when_paced g a 0 row (offset (at_input g a 0)) k.0 (has (at_input g a 0)) in
        crosses_later (at_input g a 0) (at_time row.time) path cross (omega (arith, seen, on)))
        (split g path (at_input g a 0) v go);
    messages = λ l link w x at m path go.
        let bound : c (platform_of g link.to) ≤ w.time + link_bound g link = in_bound g level rows offset wired are fits feasible has c near y h l link w x at m in
        ⊎_elim
        (λ (wire : Goes g (at_input g link.to 0) path v). sooner_time t w (sum_along path) (message_later l link w path at wire bound))
        (λ (cross : Crosses g (at_input g link.to 0) path v). crosses_later (at_input g link.to 0) w path cross (received_later g offset has wired feasible c l link w at bound))
        (split g path (at_input g link.to 0) v go);
    busy = λ i z task e path lt b go.
        let k = (h.later i lt).busy z task b in
        ⊎_elim
        (λ (wire : Goes g z (e ∷ path) v).
        let home : i ≡ platform_of g v.actor = sym k.0 ∙ goes_home g wired (e ∷ path) z v wire in
        safe.claims z task (e ∷ path) (subst (λ n. (y.at n).busy z ≡ Some task) home b) wire)
        (λ (cross : Crosses g z (e ∷ path) v). crosses_later z task.tag (e ∷ path) cross (subst (λ n. c n ≤ paced_by (offset z) task.tag) (sym k.0) (as_le (c i) _ k.1)))
        (split g (e ∷ path) z v go);
  }

  -- what comes to v at t comes from where all is past
  past_source : (e : Edge) (s : Tag) → IsIn e (edges g) → target g e ≡ v → plus s e.weight ≡ t → IsPast g y (source g e) s
  past_source e s mem end sum =
      let k : IsAhead g y v t (source g e) s = (ahead_is_closed g y v t).sources e s mem (subst (λ u. IsAhead g y v t u (plus s e.weight)) (sym end) (subst (IsAhead g y v t v) (sym sum) ahead)) in
      record {
        remains = record {
          waits = λ i a p w x lt below there path go.
              ⊎_elim
              (λ (same : at_input g a p ≡ v).
              ⊎_elim
              (λ (tag : t ≡ w). subst (λ r. Before s (plus r (sum_along path))) tag (round_trip g level (levels_grow g level are) v t s e path mem end sum (subst (λ u. Along g u path (source g e)) same go)))
              (λ (apart : Before t w ⊎ Before w t). k.waits i a p w x lt below there (λ eu ew. absurd (never t w ew apart)) path go)
              (cases_tags t w))
              (λ (other : at_input g a p ≢ v). k.waits i a p w x lt below there (λ eu ew. other eu) path go)
              (cases_part (at_input g a p) v);
          left = λ i a row lt m path go. k.left i a row lt m path go;
          messages = λ l link w x at m path go. k.messages l link w x at m path go;
        };
        busy = λ i x task d path lt b go. k.busy i x task d path lt b go;
      }
    where
      never : (t w : Tag) → w ≡ t → Before t w ⊎ Before w t → ⊥
      never t w e apart = subst (λ r. Before t r ⊎ Before r t → ⊥) (sym e) (λ both. ⊎_elim (λ (l : Before t t). irreflexive t l) (λ (l : Before t t). irreflexive t l) both) apart
        where
          irreflexive : (r : Tag) → Before r r → ⊥
          irreflexive r l = grind arith

  -- v has claimed nothing at t
  pub not_claimed : firing_at (all_claims g y.did v) t ≡ None
  not_claimed =
      let at = event_found g (y.at (platform_of g v.actor)).waits v t safe.event in
      first_of_none (λ (x : Firing). when (same_tag x.tag t) (Some x)) (all_claims g y.did v) (λ x m.
      when-false (same_tag x.tag t) (Some x)
      (same_tag-before x.tag t (subst (Before x.tag) (plus_zero t)
      ((whole g level rows offset wired are fits feasible has c near y h v).sound.floor.waits v.actor at.port t at.value [] v x at.below at.waits_there at.unit m))))

  unfed_at : (a : ℕ) → Unfed g (IsAhead g y v t) (y.at (platform_of g a))
  unfed_at a = record {
    busy = λ e task mem b k. not_one task.tag e.weight (k.busy (platform_of g a) (source g e) task e [] (wired.homes a) b (mem, refl, refl));
    left = λ b row mem k. not_itself (at_time row.time) (k.left (platform_of g a) b row (wired.homes a) mem [] refl);
  }

  caught : AreCaughtUp g (IsAhead g y v t) y.did y.at
  caught l link at = (
    y.on_way l ++ (y.at (platform_of g link.from)).outbox l,
    ap (λ z. z ++ (y.at (platform_of g link.from)).outbox l) (h.linked l link at) ∙ append_assoc (all_taken l (y.did (platform_of g link.to))) (y.on_way l) ((y.at (platform_of g link.from)).outbox l),
    λ w x mem k. not_itself w (k.messages l link w x at mem [] refl),
  )

  -- what waits at v at t is what comes there by what was claimed
  waits_come : unit_inputs g (y.at (platform_of g v.actor)).waits v t ≡ unit_inputs g (comes g (opening g rows) (all_claims g y.did)) v t
  waits_come = eight_below _ _ (λ p lt.
      when_same (input_group (kind_of g v.actor) p == v.group) ((y.at (platform_of g v.actor)).waits v.actor p t) (comes g (opening g rows) (all_claims g y.did) v.actor p t) (λ eg.
      let unit : at_input g v.actor p ≡ v = unit_is p (eqb-true _ v.group eg) in
      (whole g level rows offset wired are fits feasible has c near y h (record { actor = v.actor; group = 0 })).keeps.held.fresh v.actor p t lt (ap (λ u. firing_at (claims_of g (y.did (platform_of g v.actor)) u) t) unit ∙ not_claimed)
      ∙ came_is g level rows y.did y.at wired fits (IsAhead g y v t) (ahead_is_closed g y v t) (λ a. whole g level rows offset wired are fits feasible has c near y h (record { actor = a; group = 0 })) (λ a. unfed_at a) caught v.actor p t (subst (λ u. IsAhead g y v t u t) (sym unit) ahead) (source_kind g v.actor)))
    where
      unit_is : (p : ℕ) → input_group (kind_of g v.actor) p ≡ v.group → at_input g v.actor p ≡ v
      unit_is p eg = λ i. record { actor = v.actor; group = eg i }

  module _ (rank : ℕ → ℕ) (xs : List ActorFiring) (ranks : AreRanks g rank) (meaning : IsMeaning g rank rows xs) where
    -- and so it does by the meaning
    inputs_same : unit_inputs g (comes g (opening g rows) (all_claims g y.did)) v t ≡ unit_inputs g (comes g (opening g rows) (parts g xs)) v t
    inputs_same = eight_same _ _ (λ p.
        when_same (input_group (kind_of g v.actor) p == v.group) (comes g (opening g rows) (all_claims g y.did) v.actor p t) (comes g (opening g rows) (parts g xs) v.actor p t) (λ eg.
        ap (λ o. when (nat_lt t.time (suc g.until)) (or_else (opening g rows v.actor p t) o))
        (first_of_same _ _ (edges g) (λ e mem.
        when_same (e.to == v.actor && e.input == p) (comes_along (all_claims g y.did) g e t) (comes_along (parts g xs) g e t) (λ both.
        let ends = and_parts (e.to == v.actor) (e.input == p) both in
        brings_agree e.weight e.output t (all_claims g y.did (source g e)) (parts g xs (source g e))
        ((whole g level rows offset wired are fits feasible has c near y h (source g e)).sound.floor.rises (source g e))
        ((meaning_behaves g rank rows xs wired ranks fits meaning).rising (source g e))
        (λ s es. same_there g level rows offset wired are fits feasible has c near y h rank xs ranks meaning (source g e) s
        (past_source e s mem (at_end g e v p (eqb-true e.to v.actor ends.0) (eqb-true e.input p ends.1) (eqb-true _ v.group eg)) es)))))))

    pub some_part : (x : Firing) × (firing_at (parts g xs v) t ≡ Some x)
    some_part =
        let inputs = unit_inputs g (comes g (opening g rows) (parts g xs)) v t in
        let q = state_before (first_state (kind_of g v.actor)) (parts g xs v) t in
        let there : any_present inputs ≡ true = ap any_present (sym (waits_come ∙ inputs_same)) ∙ safe.event in (
          record { tag = t; inputs = inputs; before = q; after = (fired (kind_of g v.actor) q inputs).state; outputs = (fired (kind_of g v.actor) q inputs).outputs },
          (meaning_behaves g rank rows xs wired ranks fits meaning).reacts v t tt ∙ when-true (any_present inputs) _ there,
        )

    -- so v has more firings in the meaning than it claimed
    pub has_more : length (all_claims g y.did v) < length (parts g xs v)
    has_more =
        let front = (prefixes g level rows offset wired are fits feasible has c near y h rank xs ranks meaning v).0 in
        by_rest front.0 front.1
      where
        by_rest : (rest : List Firing) → parts g xs v ≡ all_claims g y.did v ++ rest → length (all_claims g y.did v) < length (parts g xs v)
        by_rest [] e = absurd (none_some some_part.0 (sym not_claimed ∙ ap (λ l. firing_at l t) (sym (e ∙ append-nil (all_claims g y.did v))) ∙ some_part.1))
        by_rest (z ∷ zs) e = subst (λ n. length (all_claims g y.did v) < n) (sym (ap length e ∙ length-append (all_claims g y.did v) (z ∷ zs))) (longer (length (all_claims g y.did v)) (length zs))
          where
            longer : (m n : ℕ) → m < m + suc n
            longer m n = omega arith
