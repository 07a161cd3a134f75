-- At any time in a run what each unit claimed is a front of its parts of the meaning.
use Rattle.std.proofs.Common.{◌≡◌, ℕ, ◌+◌, ◌<◌, ◌≤◌, ◌⊎◌, ◌≢◌, true, false, List, [], ◌∷◌, ◌++◌, Option, Some, None, ℤ, length, slice_get, arith, refl, sym, ap, ap₂, subst, ◌∙◌, inl, inr, ⊎_elim, append_assoc}
use Rattle.std.proofs.lemmas.Bool.{cases_Bool}
use Rattle.pt_types.specs.declared.graph.Graph.{Graph}
use Rattle.pt_types.specs.declared.graph.Link.{Link}
use Rattle.pt_tags.specs.declared.tag.Tag.{Tag}
use Rattle.pt_tags.specs.declared.tag.Delay.{Delay}
use Rattle.pt_types.specs.declared.graph.Unit.{Unit}
use Rattle.pt_tags.specs.Tags.{Before, UpTo, plus, then, same_tag, zero_delay}
use Rattle.pt_semantics.specs.Lists.{IsIn, Each}
use Rattle.pt_semantics.specs.Edges.{Edge, edges, wires, links, of_link}
use Rattle.pt_types.specs.Lookups.{platform_of}
use Rattle.pt_semantics.specs.Units.{source, target, at_input, at_output}
use Rattle.pt_semantics.specs.Behaviours.{Firing, Rising, firing_at, IsClosed}
use Rattle.pt_semantics.specs.Ranks.{sum_along, AreLevels, AreRanks}
use Rattle.pt_semantics.specs.Paths.{Goes}
use Rattle.pt_semantics.specs.Bounds.{Feeds, bound_by, link_bound}
use Rattle.pt_semantics.specs.Wired.{IsWired}
use Rattle.pt_semantics.specs.Offsets.{IsFeasible, HasOffset}
use Rattle.pt_types.specs.declared.rows.Row.{Row}
use Rattle.pt_semantics.specs.Meaning.{ActorFiring, IsMeaning, at_time, opening}
use Rattle.pt_semantics.specs.Parts.{parts}
use Rattle.pt_types.specs.declared.firing.Task.{Task}
use Rattle.pt_semantics.specs.Linked.{IsFinished, all_sent, all_taken, all_claims}
use Rattle.pt_semantics.specs.Orderly.{InOrder, IsOrderly}
use Rattle.pt_semantics.specs.History.{claims_of}
use Rattle.pt_tags.specs.declared.message.Message.TheVariants.{Event, End}
use Rattle.pt_semantics.specs.Rows.{FitRows}
use Rattle.pt_semantics.specs.Paced.{paced_by}
use Rattle.pt_semantics.specs.Visits.{RunState}
use Rattle.pt_paced_laws.specs.PacedTheorems.{PacedIsPrefix}
use Rattle.pt_semantics.proofs.Tags.{Before-trans, cases_tags, same_tag-true}
use Rattle.pt_semantics.proofs.Longest.{levels_grow, ranks_grow, sum_time, sum_step}
use Rattle.pt_semantics.proofs.Words.{firing_at_none, firing_at_head, firing_at_tail, past, some_none, firings_agree}
use Rattle.pt_laws.proofs.Agree.{agree}
use Rattle.pt_semantics.proofs.Lookups.{none_some, IsIn-append, cases_part}
use Rattle.pt_semantics.proofs.Floor.{plus_zero, plus_then, past_own, cycle_takes_time, sensor_unit, receiver_unit, bound_of_link}
use Rattle.pt_laws.proofs.Once.{absent}
use Rattle.pt_laws.proofs.Steps.{IsShut}
use Rattle.pt_laws.proofs.Walks.{Whole, on_time_history}
use Rattle.pt_laws.proofs.Finish.{link_of, histories_behave_on}
use Rattle.pt_laws.proofs.MeaningSteps.{meaning_behaves}
use Rattle.pt_laws.proofs.Bounds.{outgoing_orderly}
use Rattle.pt_laws.specs.NearClocks.{AreNear}
use Rattle.pt_laws.proofs.NearClocks.{later_along, one_is_near, received_later, sent_in_bound}
use Rattle.pt_laws.proofs.Progress.{goes_home}
use Rattle.pt_laws.proofs.Paces.{as_le, row_when_paced}
use Rattle.pt_laws.proofs.Onward.{OnwardNear, round_onward}
use Rattle.pt_paced_laws.proofs.PacedRuns.{run_onward, nothing_after_end}

-- these edges, wires and links, lead from unit x to unit a
abbrev pub Along : Graph → Unit → List Edge → Unit → Type 0
Along g x [] a = x ≡ a
Along g x (e ∷ es) a = IsIn e (edges g) × (source g e ≡ x) × Along g (target g e) es a

pub along_push : (g : Graph) (x : Unit) (path : List Edge) (e : Edge) → Along g x path (source g e) → IsIn e (edges g) → Along g x (path ++ e ∷ []) (target g e)
along_push g x [] e h m = (m, sym h, refl)
along_push g x (d ∷ path) e (md, src, rest) m = (md, src, along_push g (target g d) path e rest m)

-- what is still to be done in a run: at this unit's input, at this tag
pub record Remains (g : Graph) (y : RunState) (D : (Unit → Tag → Type 0)) : Type 0 where
  pub waits : (i a p : ℕ) (w : Tag) (v : ℤ) → i < length g.platforms → p < 8 → (y.at i).waits a p w ≡ Some v → D (at_input g a p) w
  pub left : (i a : ℕ) (row : Row) → i < length g.platforms → IsIn row ((y.at i).left a) → D (at_input g a 0) (at_time row.time)
  pub messages : (l : ℕ) (link : Link) (w : Tag) (v : ℤ) → slice_get g.links l ≡ Some link → IsIn (Event w v) (y.on_way l ++ (y.at (platform_of g link.from)).outbox l) → D (at_input g link.to 0) w

-- nothing that is still to be done leads to u at t or before, nor does anything that is open, but a claim of u itself
pub record IsPast (g : Graph) (y : RunState) (u : Unit) (t : Tag) : Type 0 where
  pub remains : Remains g y (λ x w. (path : List Edge) → Along g x path u → Before t (plus w (sum_along path)))
  pub busy : (i : ℕ) (x : Unit) (task : Task) (e : Edge) (path : List Edge) → i < length g.platforms → (y.at i).busy x ≡ Some task → Along g x (e ∷ path) u → Before t (plus task.tag (sum_along (e ∷ path)))

pub before_push : (s w : Tag) (d e f : Delay) → f.time ≡ d.time + e.time → f.step ≡ d.step + e.step → Before (plus s e) (plus w f) → Before s (plus w d)
before_push s w d e f et es h = omega arith

map_remains : (g : Graph) (y : RunState) (D E : Unit → Tag → Type 0) → ((x : Unit) (w : Tag) → D x w → E x w) → Remains g y D → Remains g y E
map_remains g y D E up h = record {
  waits = λ i a p w v lt below there. up (at_input g a p) w (h.waits i a p w v lt below there);
  left = λ i a row lt m. up (at_input g a 0) (at_time row.time) (h.left i a row lt m);
  messages = λ l link w v at m. up (at_input g link.to 0) w (h.messages l link w v at m);
}

pub past_is_closed : (g : Graph) (y : RunState) → IsClosed g (IsPast g y)
past_is_closed g y = record {
  earlier = λ u s t l h. record {
    remains = map_remains g y (λ x w. (path : List Edge) → Along g x path u → Before t (plus w (sum_along path))) (λ x w. (path : List Edge) → Along g x path u → Before s (plus w (sum_along path)))
        (λ x w k path go. Before-trans s t (plus w (sum_along path)) l (k path go)) h.remains;
    busy = λ i x task e path lt b go. Before-trans s t (plus task.tag (sum_along (e ∷ path))) l (h.busy i x task e path lt b go);
  };
  sources = λ e s mem h. record {
    remains = map_remains g y (λ x w. (path : List Edge) → Along g x path (target g e) → Before (plus s e.weight) (plus w (sum_along path))) (λ x w. (path : List Edge) → Along g x path (source g e) → Before s (plus w (sum_along path)))
        (λ x w k path go. before_push s w (sum_along path) e.weight (sum_along (path ++ e ∷ [])) (sum_time path e) (sum_step path e) (k (path ++ e ∷ []) (along_push g x path e go mem))) h.remains;
    busy = λ i x task d path lt b go.
        before_push s task.tag (sum_along (d ∷ path)) e.weight (sum_along (d ∷ (path ++ e ∷ []))) (sum_time (d ∷ path) e) (sum_step (d ∷ path) e)
        (h.busy i x task d (path ++ e ∷ []) lt b (along_push g x (d ∷ path) e go mem));
  };
}

-- a path that stays on wires, or its last link
pub record Crosses (g : Graph) (x : Unit) (path : List Edge) (u : Unit) : Type 0 where
  pub before : List Edge
  pub l : ℕ
  pub link : Link
  pub after : List Edge
  pub at : slice_get g.links l ≡ Some link
  pub first : Along g x before (source g (of_link link))
  pub rest : Goes g (target g (of_link link)) after u
  pub time : (sum_along path).time ≡ (sum_along before).time + (sum_along after).time

pub split : (g : Graph) (path : List Edge) (x u : Unit) → Along g x path u → Goes g x path u ⊎ Crosses g x path u
split g [] x u h = inl h
split g (e ∷ path) x u (mem, src, go) =
    ⊎_elim
    (λ (on : Goes g (target g e) path u).
    ⊎_elim
    (λ (w : IsIn e (wires g)). inl (w, src, on))
    (λ (k : IsIn e (links g)).
    let f = link_of g.links e k in
    let weightless : e.weight.time ≡ 0 = ap (λ (z : Edge). z.weight.time) f.3 in
    inr (record {
      before = [];
      l = f.0;
      link = f.1;
      after = path;
      at = f.2;
      first = sym src ∙ ap (source g) f.3;
      rest = subst (λ z. Goes g (target g z) path u) f.3 on;
      time = omega arith;
    }))
    (IsIn-append e (wires g) (links g) mem))
    (λ (c : Crosses g (target g e) path u).
    let t : (sum_along path).time ≡ (sum_along c.before).time + (sum_along c.after).time = c.time in
    inr (record { before = e ∷ c.before; l = c.l; link = c.link; after = c.after; at = c.at; first = (mem, src, c.first); rest = c.rest; time = omega arith }))
    (split g path (target g e) u go)

-- lists
same_or_none : (x : Firing) (xs : List Firing) (t : Tag) → Rising (x ∷ xs) → Before t x.tag → firing_at (x ∷ xs) t ≡ None
same_or_none x xs t r l = firing_at_none (x ∷ xs) t (past t x xs l r)

some_same : (x y : Firing) → Some x ≡ Some y → x ≡ y
some_same x y h = cc

weak : (s t : Tag) → Before s t → UpTo s t
weak s t h = omega arith

prefix_of : (xs ys : List Firing) → Rising xs → Rising ys → ((x : Firing) → IsIn x xs → (t : Tag) → UpTo t x.tag → firing_at xs t ≡ firing_at ys t) → (rest : List Firing) × (ys ≡ xs ++ rest)
prefix_of [] ys rx ry same = (ys, refl)
prefix_of (x ∷ xs) [] rx ry same = absurd (some_none x (sym (firing_at_head x xs) ∙ same x (inl refl) x.tag (omega arith)))
prefix_of (x ∷ xs) (y ∷ ys) rx ry same =
    ⊎_elim
    (λ (e : x.tag ≡ y.tag).
    let exy : x ≡ y = some_same x y (sym (firing_at_head x xs) ∙ same x (inl refl) x.tag (omega arith) ∙ subst (λ w. firing_at (y ∷ ys) w ≡ Some y) (sym e) (firing_at_head y ys)) in
    let on = prefix_of xs ys rx.1 ry.1 (λ z m t le.
    ⊎_elim
    (λ (k : same_tag x.tag t ≡ true).
    let et : x.tag ≡ t = same_tag-true x.tag t k in
    firing_at_none xs t (subst (λ w. Each (λ (q : Firing). Before w q.tag) xs) et rx.0)
    ∙ sym (firing_at_none ys t (subst (λ w. Each (λ (q : Firing). Before w q.tag) ys) (sym e ∙ et) ry.0)))
    (λ (k : same_tag x.tag t ≡ false).
    sym (firing_at_tail x xs t k) ∙ same z (inr m) t le ∙ firing_at_tail y ys t (subst (λ w. same_tag w t ≡ false) e k))
    (cases_Bool (same_tag x.tag t))) in
    (on.0, ap₂ (λ a b. a ∷ b) (sym exy) on.1))
    (λ (o : Before x.tag y.tag ⊎ Before y.tag x.tag).
    ⊎_elim
    (λ (l : Before x.tag y.tag). absurd (some_none x (sym (firing_at_head x xs) ∙ same x (inl refl) x.tag (omega arith) ∙ same_or_none y ys x.tag ry l)))
    (λ (l : Before y.tag x.tag). absurd (some_none y (sym (firing_at_head y ys) ∙ sym (same x (inl refl) y.tag (weak y.tag x.tag l)) ∙ same_or_none x xs y.tag rx l)))
    o)
    (cases_tags x.tag y.tag)

up_before : (t x z : Tag) → UpTo t x → Before x z → Before t z
up_before t x z h k = omega arith

pub sooner_time : (x w : Tag) (d : Delay) → x.time < w.time + d.time → Before x (plus w d)
sooner_time x w d h = omega arith

pub not_itself : (t : Tag) → Before t (plus t zero_delay) → ⊥
not_itself t h = grind arith

pub not_one : (t : Tag) (d : Delay) → Before (plus t d) (plus t (then d zero_delay)) → ⊥
not_one t d h = grind arith

module _ (g : Graph) (level : ℕ → ℕ) (rows : ℕ → List Row) (offset : Unit → Option ℤ) (wired : IsWired g) (are : AreLevels g level) (fits : FitRows g rows) (feasible : IsFeasible g) (has : (u : Unit) → HasOffset g u (offset u)) (c : ℕ → ℕ) (near : AreNear g c) (y : RunState) (h : OnwardNear g level rows offset c y) where
  -- what is still to be done is no sooner than the reading at each unit to which it leads
  pub later_path : (path : List Edge) (x u : Unit) (w : Tag) → Along g x path u → c (platform_of g x.actor) ≤ paced_by (offset x) w → c (platform_of g u.actor) ≤ paced_by (offset u) (plus w (sum_along path))
  later_path [] x u w go le = subst (λ z. c (platform_of g z.actor) ≤ paced_by (offset z) (plus w zero_delay)) go (subst (λ z. c (platform_of g x.actor) ≤ paced_by (offset x) z) (sym (plus_zero w)) le)
  later_path (e ∷ path) x u w (mem, src, go) le =
      let one : c (platform_of g e.to) ≤ paced_by (offset (target g e)) (plus w e.weight) = later_along g offset has wired feasible c near e w mem (subst (λ z. c (platform_of g z.actor) ≤ paced_by (offset z) w) (sym src) le) in
      subst (λ z. c (platform_of g u.actor) ≤ paced_by (offset u) z) (plus_then w e.weight (sum_along path)) (later_path path (target g e) u (plus w e.weight) go one)

  pub whole_at : (i : ℕ) → i < length g.platforms → Whole g level i rows (y.at i) (y.at i).reading (claims_of g (y.did i)) (λ l. all_sent l (y.did i)) (λ l. all_taken l (y.did i))
  whole_at i lt = on_time_history g level i rows wired (levels_grow g level are) fits (y.did i) (y.at i) (h.legal i lt)

  pub whole : (u : Unit) → Whole g level (platform_of g u.actor) rows (y.at (platform_of g u.actor)) (y.at (platform_of g u.actor)).reading (claims_of g (y.did (platform_of g u.actor))) (λ l. all_sent l (y.did (platform_of g u.actor))) (λ l. all_taken l (y.did (platform_of g u.actor)))
  whole u = whole_at (platform_of g u.actor) (wired.homes u.actor)

  -- a row or message that is not seen before the platform's reading comes past a claim
  source_past : (u : Unit) (x : Firing) → IsIn x (all_claims g y.did u) → (a b : ℕ) (path : List Edge) → Feeds g a b path u → (n : ℕ) → c (platform_of g u.actor) ≤ n + b → x.tag.time < n + (sum_along path).time
  source_past u x mem a b path feeds n le =
      let from = (whole u).sound.floor.sources a b path u x feeds mem in
      let reading : from.0 ≤ c (platform_of g u.actor) = (h.later (platform_of g u.actor) (wired.homes u.actor)).reading from.0 from.1 in
      let lt : x.tag.time + b < from.0 + (sum_along path).time = from.2 in
      omega arith

  pub by_link : (l : ℕ) (link : Link) (path : List Edge) (u : Unit) → slice_get g.links l ≡ Some link → Goes g (at_input g link.to 0) path u → Feeds g link.to (link_bound g link) path u
  by_link l link path u at go = record { bound = bound_of_link g l link wired at; goes = subst (λ z. Goes g z path u) (receiver_unit g link.to 0 (wired.receives l link at)) go }

  -- what comes over a link within its bound comes past a claim that it leads to
  message_past : (u : Unit) (x : Firing) (l : ℕ) (link : Link) (w : Tag) (path : List Edge) → IsIn x (all_claims g y.did u) → slice_get g.links l ≡ Some link → Goes g (at_input g link.to 0) path u → c (platform_of g link.to) ≤ w.time + link_bound g link → x.tag.time < w.time + (sum_along path).time
  message_past u x l link w path mem at go bound =
      source_past u x mem link.to (link_bound g link) path (by_link l link path u at go) w.time
      (subst (λ i. c i ≤ w.time + link_bound g link) (goes_home g wired path (at_input g link.to 0) u go) bound)

  crosses_past : (u z : Unit) (x : Firing) (w : Tag) (path : List Edge) → IsIn x (all_claims g y.did u) → Crosses g z path u → c (platform_of g z.actor) ≤ paced_by (offset z) w → Before x.tag (plus w (sum_along path))
  crosses_past u z x w path mem k le =
      let sent : c (platform_of g k.link.from) ≤ paced_by (offset (at_output g k.link.from 0)) (plus w (sum_along k.before)) = later_path k.before z (source g (of_link k.link)) w k.first le in
      let lt : x.tag.time < (w.time + (sum_along k.before).time) + (sum_along k.after).time = message_past u x k.l k.link (plus w (sum_along k.before)) k.after mem k.at k.rest (sent_in_bound g offset has wired feasible c near k.l k.link (plus w (sum_along k.before)) k.at sent) in
      let time : (sum_along path).time ≡ (sum_along k.before).time + (sum_along k.after).time = k.time in
      sooner_time x.tag w (sum_along path) (omega (arith, lt, time))

  -- what is on its way or still to be sent comes within its link's bound
  pub in_bound : (l : ℕ) (link : Link) (w : Tag) (v : ℤ) → slice_get g.links l ≡ Some link → IsIn (Event w v) (y.on_way l ++ (y.at (platform_of g link.from)).outbox l) → c (platform_of g link.to) ≤ w.time + link_bound g link
  in_bound l link w v at m =
      ⊎_elim
      (λ (a : IsIn (Event w v) (y.on_way l)). h.way l link w v at a)
      (λ (b : IsIn (Event w v) ((y.at (platform_of g link.from)).outbox l)).
      sent_in_bound g offset has wired feasible c near l link w at ((h.later (platform_of g link.from) (wired.homes link.from)).outbox l link w v at b))
      (IsIn-append (Event w v) (y.on_way l) ((y.at (platform_of g link.from)).outbox l) m)

  claim_past : (u : Unit) (x : Firing) (t : Tag) → IsIn x (all_claims g y.did u) → UpTo t x.tag → IsPast g y u t
  claim_past u x t mem le = record {
    remains = record {
      waits = λ i a p w v lt below there path go.
          up_before t x.tag (plus w (sum_along path)) le
          (let k = (h.later i lt).waits a p w v there in
          ⊎_elim
          (λ (wire : Goes g (at_input g a p) path u).
          let home : i ≡ platform_of g u.actor = sym k.0 ∙ goes_home g wired path (at_input g a p) u wire in
          (whole u).sound.floor.waits a p w v path u x below (subst (λ n. (y.at n).waits a p w ≡ Some v) home there) wire mem)
          (λ (cross : Crosses g (at_input g a p) path u). crosses_past u (at_input g a p) x w path mem cross (subst (λ n. c n ≤ paced_by (offset (at_input g a p)) w) (sym k.0) k.1))
          (split g path (at_input g a p) u go));
      left = λ i a row lt m path go.
          up_before t x.tag (plus (at_time row.time) (sum_along path)) le
          (let k = (h.later i lt).left a row m in
          let seen : c (platform_of g a) ≤ row.seen = subst (λ n. c n ≤ row.seen) (sym k.1) k.2 in
          let in_time : row.seen ≤ row.time + k.0.bound = k.0.in_time in
          ⊎_elim
          (λ (wire : Goes g (at_input g a 0) path u).
          let feeds : Feeds g a k.0.bound path u = record { bound = ap (bound_by g a) k.0.sensor; goes = subst (λ z. Goes g z path u) (sensor_unit g k.0.file a 0 k.0.bound k.0.sensor) wire } in
          let here : c (platform_of g u.actor) ≤ row.seen = subst (λ n. c n ≤ row.seen) (goes_home g wired path (at_input g a 0) u wire) seen in
          sooner_time x.tag (at_time row.time) (sum_along path) (source_past u x mem a k.0.bound path feeds row.time (omega (arith, here, in_time))))
          (λ (cross : Crosses g (at_input g a 0) path u).
          let on : row.seen ≤ paced_by (offset (at_input g a 0)) (at_time row.time) = row_when_paced g a 0 row (offset (at_input g a 0)) k.0 (has (at_input g a 0)) in
          crosses_past u (at_input g a 0) x (at_time row.time) path mem cross (omega (arith, seen, on)))
          (split g path (at_input g a 0) u go));
      messages = λ l link w v at m path go.
          up_before t x.tag (plus w (sum_along path)) le
          (let bound : c (platform_of g link.to) ≤ w.time + link_bound g link = in_bound l link w v at m in
          ⊎_elim
          (λ (wire : Goes g (at_input g link.to 0) path u). sooner_time x.tag w (sum_along path) (message_past u x l link w path mem at wire bound))
          (λ (cross : Crosses g (at_input g link.to 0) path u). crosses_past u (at_input g link.to 0) x w path mem cross (received_later g offset has wired feasible c l link w at bound))
          (split g path (at_input g link.to 0) u go));
    };
    busy = λ i z task e path lt b go.
        up_before t x.tag (plus task.tag (sum_along (e ∷ path))) le
        (let k = (h.later i lt).busy z task b in
        ⊎_elim
        (λ (wire : Goes g z (e ∷ path) u).
        let home : i ≡ platform_of g u.actor = sym k.0 ∙ goes_home g wired (e ∷ path) z u wire in
        let here : (y.at (platform_of g u.actor)).busy z ≡ Some task = subst (λ n. (y.at n).busy z ≡ Some task) home b in
        ⊎_elim
        (λ (same : z ≡ u).
        past_own x.tag task.tag (sum_along (e ∷ path))
        ((whole u).sound.floor.open_here u task x (subst (λ n. (y.at (platform_of g u.actor)).busy n ≡ Some task) same here) mem)
        (cycle_takes_time g level (levels_grow g level are) e path u (subst (λ n. Goes g n (e ∷ path) u) same wire)))
        (λ (other : z ≢ u). (whole u).sound.floor.open_elsewhere z task (e ∷ path) u x here other wire mem)
        (cases_part z u))
        (λ (cross : Crosses g z (e ∷ path) u). crosses_past u z x task.tag (e ∷ path) mem cross (subst (λ n. c n ≤ paced_by (offset z) task.tag) (sym k.0) (as_le (c i) _ k.1)))
        (split g (e ∷ path) z u go));
  }

  -- on what is past, the claims are the meaning's
  pub same_there : (rank : ℕ → ℕ) (xs : List ActorFiring) → AreRanks g rank → IsMeaning g rank rows xs → (u : Unit) (t : Tag) → IsPast g y u t → firing_at (all_claims g y.did u) t ≡ firing_at (parts g xs u) t
  same_there rank xs ranks meaning u t d =
      let m = meaning_behaves g rank rows xs wired ranks fits meaning in
      agree g (opening g rows) rank (ranks_grow g rank ranks) (IsPast g y) (past_is_closed g y) (all_claims g y.did) (parts g xs)
      (histories_behave_on g level rows y.did y.at (IsPast g y) wired are fits (past_is_closed g y) h.legal
      (λ i lt. record {
        waits = λ a p w below e. absent ((y.at i).waits a p w) (λ v there. not_itself w (e.remains.waits i a p w v lt below there [] refl));
        busy = λ e task mem b k. not_one task.tag e.weight (k.busy i (source g e) task e [] lt b (mem, refl, refl));
        left = λ a row mem k. not_itself (at_time row.time) (k.remains.left i a row lt mem [] refl);
      })
      (λ l link at. (
        y.on_way l ++ (y.at (platform_of g link.from)).outbox l,
        ap (λ z. z ++ (y.at (platform_of g link.from)).outbox l) (h.linked l link at) ∙ append_assoc (all_taken l (y.did (platform_of g link.to))) (y.on_way l) ((y.at (platform_of g link.from)).outbox l),
        λ w v mem k. not_itself w (k.remains.messages l link w v at mem [] refl),
      )))
      (record { rising = m.rising; reacts = λ v s e. m.reacts v s tt })
      u t d

  -- where all platforms are finished all is past
  all_past : ((i : ℕ) → i < length g.platforms → IsFinished g i (y.at i)) → (u : Unit) (t : Tag) → IsPast g y u t
  all_past done u t = record {
    remains = record {
      waits = λ i a p w v lt below there path go. absurd (none_some v (sym ((shut_at i lt).waits a p w) ∙ there));
      left = λ i a row lt m path go. let none : IsIn row [] = subst (IsIn row) ((shut_at i lt).left a) m in absurd none;
      messages = λ l link w v at m path go.
          let none : IsIn (Event w v) [] = subst (IsIn (Event w v)) (ap₂ (λ a b. a ++ b) (way_none l link at) ((done (platform_of g link.from) (wired.homes link.from)).all_went l)) m in absurd none;
    };
    busy = λ i z task e path lt b go. absurd (none_some task (sym ((shut_at i lt).busy z) ∙ b));
  }
    where
      shut_at : (i : ℕ) → i < length g.platforms → IsShut g i (y.at i)
      shut_at i lt = (whole_at i lt).keeps.is_shut (done i lt).closed

      way_none : (l : ℕ) (link : Link) → slice_get g.links l ≡ Some link → y.on_way l ≡ []
      way_none l link at =
          let order : IsOrderly g level link (all_sent l (y.did (platform_of g link.from)) ++ (y.at (platform_of g link.from)).outbox l) =
          outgoing_orderly g level (platform_of g link.from) rows (y.did (platform_of g link.from)) (y.at (platform_of g link.from)) wired are fits (h.legal (platform_of g link.from) (wired.homes link.from)) l link at refl in
          let ends : IsIn End (all_taken l (y.did (platform_of g link.to))) = subst (IsIn End) ((whole_at (platform_of g link.to) (wired.homes link.to)).keeps.taken_is l) ((done (platform_of g link.to) (wired.homes link.to)).ends l link at refl) in
          nothing_after_end (all_taken l (y.did (platform_of g link.to))) (y.on_way l) ((y.at (platform_of g link.from)).outbox l) ends
          (subst (λ z. InOrder (z ++ (y.at (platform_of g link.from)).outbox l)) (h.linked l link at) order.0)

  pub prefixes : (rank : ℕ → ℕ) (xs : List ActorFiring) → AreRanks g rank → IsMeaning g rank rows xs → (u : Unit) → ((rest : List Firing) × (parts g xs u ≡ all_claims g y.did u ++ rest)) × (((i : ℕ) → i < length g.platforms → IsFinished g i (y.at i)) → all_claims g y.did u ≡ parts g xs u)
  prefixes rank xs ranks meaning u =
      let m = meaning_behaves g rank rows xs wired ranks fits meaning in
      let rises : Rising (all_claims g y.did u) = (whole u).sound.floor.rises u in (
        prefix_of (all_claims g y.did u) (parts g xs u) rises (m.rising u) (λ x mem t le. same_there rank xs ranks meaning u t (claim_past u x t mem le)),
        λ done. firings_agree (all_claims g y.did u) (parts g xs u) rises (m.rising u) (λ t. same_there rank xs ranks meaning u t (all_past done u t)),
      )

pub paced_is_prefix : PacedIsPrefix
paced_is_prefix g level rank rows offset rounds c n ms y xs wired are ranks fits feasible has r meaning u =
    let some : n ≤ length g.platforms = r.some in
    prefixes g level rows offset wired are fits feasible has (λ i. c) (one_is_near g c) y
    (round_onward g level rows offset has wired feasible c n 0 r.before y ms (omega arith) (run_onward g level rows offset wired are fits feasible has rounds c r.before r.run) r.round).1
    rank xs ranks meaning u
