-- What waits, is open or is left on a platform is of its own actors, at one of eight ports, and within the horizon.
use Rattle.std.proofs.Common.{◌≡◌, ℕ, suc, nat_lt, pos, ltb-true, ◌<◌, ◌≤◌, ◌==◌, ◌≢◌, Bool, true, false, ◌&&◌, List, [], ◌∷◌, ◌++◌, Some, ℤ, length, arith, refl, sym, ap, subst, ◌∙◌, inl, ⊎_elim, eqb-true}
use Rattle.std.proofs.lemmas.Bool.{cases_Bool, and_parts, cond-false}
use Rattle.pt_types.specs.declared.graph.Graph.{Graph}
use Rattle.pt_types.specs.declared.graph.Link.{Link}
use Rattle.pt_tags.specs.declared.tag.Tag.{Tag}
use Rattle.pt_types.specs.declared.kind.Kind.{Kind}
use Rattle.pt_types.specs.declared.kind.Kind.TheVariants.{Every}
use Rattle.pt_types.specs.declared.graph.Unit.{Unit}
use Rattle.pt_tags.specs.Tags.{same_tag}
use Rattle.pt_types.specs.Ports.{when}
use Rattle.pt_semantics.specs.Lists.{IsIn}
use Rattle.pt_semantics.specs.Edges.{Edge, wires, links}
use Rattle.pt_types.specs.Lookups.{kind_of, platform_of}
use Rattle.pt_semantics.specs.Units.{source, unit_of, leaves_unit}
use Rattle.pt_semantics.specs.Behaviours.{Firing, Firings}
use Rattle.pt_semantics.specs.Wired.{IsWired}
use Rattle.pt_semantics.specs.Cycles.{HasLevels}
use Rattle.pt_types.specs.declared.rows.Row.{Row}
use Rattle.pt_semantics.specs.Meaning.{row_at, start_at, at_time, going}
use Rattle.pt_types.specs.declared.firing.Task.{Task}
use Rattle.pt_types.specs.declared.firing.Done.{Done}
use Rattle.pt_tags.specs.declared.message.Message.{Message}
use Rattle.pt_types.specs.declared.firing.OnLink.{OnLink}
use Rattle.pt_semantics.specs.Platform.{State, opened, raised}
use Rattle.pt_semantics.specs.Turn.{Turn, IsTurn}
use Rattle.pt_semantics.specs.Claiming.{IsNext, after_claim}
use Rattle.pt_semantics.specs.History.{Legal, firing_by, claims_of, LegalOnTime}
use Rattle.pt_semantics.specs.Posting.{after_post}
use Rattle.pt_semantics.specs.Entering.{after_rows, due, not_due}
use Rattle.pt_semantics.specs.Taking.{after_message, value_of}
use Rattle.pt_semantics.specs.Orderly.{IsOrderly, FitsStep}
use Rattle.pt_tags.specs.declared.message.Message.TheVariants.{Event, End}
use Rattle.pt_semantics.specs.Rows.{FitsRow, FitRows}
use Rattle.pt_semantics.proofs.Tags.{same_tag-true}
use Rattle.pt_semantics.proofs.Lookups.{none_some, or_else_found, when_found, first_of_found, Each-in, IsIn-append_left, IsIn-append_right, same_part-true, cases_part}
use Rattle.pt_laws.proofs.Rows.{due_split}
use Rattle.pt_semantics.proofs.Floor.{going_found, put_none_found, put_other}
use Rattle.pt_semantics.proofs.Claiming.{more, more_found, event_found, without_found}
use Rattle.pt_laws.proofs.FloorHolds.{Sound, opened_sound, legal_sound}
use Rattle.pt_laws.proofs.Walk.{legal_keeps, on_time_keeps, keeps_to_claims}

abbrev pub IsPlace : Graph → ℕ → ℕ → ℕ → Tag → Type 0
IsPlace g i a p t = (platform_of g a ≡ i) × (p < 8) × (t.time ≤ g.until)

pub record Home (g : Graph) (i : ℕ) (s : State) (c : Firings) : Type 0 where
  pub waits : (a p : ℕ) (t : Tag) (v : ℤ) → s.waits a p t ≡ Some v → IsPlace g i a p t
  pub busy : (u : Unit) (task : Task) → s.busy u ≡ Some task → platform_of g u.actor ≡ i
  pub left : (a : ℕ) (row : Row) → IsIn row (s.left a) → platform_of g a ≡ i
  pub claims : (u : Unit) (x : Firing) → IsIn x (c u) → platform_of g u.actor ≡ i

of_start : (g : Graph) (a : ℕ) (k : Kind) (t : Tag) (v : ℤ) → start_at g k t ≡ Some v → t.time ≤ g.until
of_start g a (Every start period) t v h =
    let two = and_parts (nat_lt start (suc g.until)) (same_tag (at_time start) t) (when_found (nat_lt start (suc g.until) && same_tag (at_time start) t) (Some (pos 0)) v h).0 in
    let lt : start < suc g.until = ltb-true start (suc g.until) two.0 in
    subst (λ (z : Tag). z.time ≤ g.until) (same_tag-true (at_time start) t two.1) (omega arith)
of_start g a _ t v h = absurd (none_some v h)

pub opened_home : (g : Graph) (i : ℕ) (rows : ℕ → List Row) → Home g i (opened g i rows) (λ u. [])
opened_home g i rows = record {
  waits = λ a p t v h.
      let w = when_found (platform_of g a == i && p == 0) _ v h in
      let two = and_parts (platform_of g a == i) (p == 0) w.0 in
      let zero_p : p ≡ 0 = eqb-true p 0 two.1 in
      (eqb-true (platform_of g a) i two.0, omega arith, of_start g a (kind_of g a) t v w.1);
  busy = λ u task b. absurd (none_some task b);
  claims = λ u x m. absurd m;
  left = λ a row m.
      ⊎_elim
      (λ (h : (platform_of g a == i) ≡ true). eqb-true (platform_of g a) i h)
      (λ (h : (platform_of g a == i) ≡ false). let none : IsIn row [] = subst (IsIn row) (cond-false (platform_of g a == i) (rows a) [] h) m in absurd none)
      (cases_Bool (platform_of g a == i));
}

module _ (g : Graph) (i : ℕ) (wired : IsWired g) where
  pub post : (s : State) (c : Firings) (d : Done) → Home g i s c → s.busy (unit_of g d.task) ≡ Some d.task → Home g i (after_post g s d) c
  post s c d k busy = record {
    waits = λ a p t v found.
        ⊎_elim
        (λ (old : s.waits a p t ≡ Some v). k.waits a p t v old)
        (λ (new : going g (wires g) (leaves_unit g (unit_of g d.task)) d.task.tag d.fired.outputs a p t ≡ Some v).
        let went = going_found g (wires g) (leaves_unit g (unit_of g d.task)) d.task.tag d.fired.outputs a p t v new in
        let e : Edge = went.edge in
        let from : d.task.actor ≡ e.from = ap (λ (z : Unit). z.actor) (same_part-true (unit_of g d.task) (source g e) went.leaves_it) in (
          ap (platform_of g) (sym went.to) ∙ sym (wired.at_home e went.mem) ∙ ap (platform_of g) (sym from) ∙ k.busy (unit_of g d.task) d.task busy,
          subst (λ n. n < 8) went.input (wired.ports e (IsIn-append_left e (wires g) (links g) went.mem)),
          went.within,
        ))
        (or_else_found (s.waits a p t) _ v found);
    busy = λ u task b. k.busy u task (put_none_found s.busy (unit_of g d.task) u task b);
    left = k.left;
    claims = k.claims;
  }

  pub enter : (s : State) (c : Firings) (r : ℕ) → Sound g s s.reading c → Home g i s c → Home g i (after_rows s r) c
  enter s c r h k = record {
    waits = λ a p t v found.
        ⊎_elim
        (λ (old : s.waits a p t ≡ Some v). k.waits a p t v old)
        (λ (new : when (p == 0) (row_at (due r (s.left a)) t) ≡ Some v).
        let here = when_found (p == 0) (row_at (due r (s.left a)) t) v new in
        let zero_p : p ≡ 0 = eqb-true p 0 here.0 in
        let y = first_of_found (λ (row : Row). when (same_tag (at_time row.time) t) (Some row.value)) (due r (s.left a)) v here.1 in
        let tag : at_time y.0.time ≡ t = same_tag-true (at_time y.0.time) t (when_found (same_tag (at_time y.0.time) t) _ v y.2).0 in
        let mem : IsIn y.0 (s.left a) = subst (IsIn y.0) (due_split r (s.left a)) (IsIn-append_left y.0 (due r (s.left a)) (not_due r (s.left a)) y.1) in
        let fit : FitsRow g a y.0 = h.rest.fit a y.0 mem in
        (k.left a y.0 mem, omega arith, subst (λ (z : Tag). z.time ≤ g.until) tag fit.within))
        (or_else_found (s.waits a p t) _ v found);
    busy = k.busy;
    claims = k.claims;
    left = λ a row m. k.left a row (subst (IsIn row) (due_split r (s.left a)) (IsIn-append_right row (due r (s.left a)) (not_due r (s.left a)) m));
  }

  pub message : (level : ℕ → ℕ) (s : State) (c : Firings) (m : OnLink) (link : Link) → Home g i s c → platform_of g link.to ≡ i → IsOrderly g level link (s.taken m.link ++ m.message ∷ []) → Home g i (after_message s m.link link m.message) c
  message level s c m link k home orderly = record {
    waits = λ a p t v found.
        ⊎_elim
        (λ (old : s.waits a p t ≡ Some v). k.waits a p t v old)
        (λ (new : when (a == link.to && p == 0) (value_of t m.message) ≡ Some v).
        let here = when_found (a == link.to && p == 0) (value_of t m.message) v new in
        let two = and_parts (a == link.to) (p == 0) here.0 in
        let to : a ≡ link.to = eqb-true a link.to two.0 in
        let zero_p : p ≡ 0 = eqb-true p 0 two.1 in
        let fits = Each-in (FitsStep g.until (length g.actors) (level link.to)) (s.taken m.link ++ m.message ∷ []) orderly.1 m.message (IsIn-append_right m.message (s.taken m.link) (m.message ∷ []) (inl refl)) in
        (ap (platform_of g) to ∙ home, omega arith, of_message m.message t v here.1 fits))
        (or_else_found (s.waits a p t) _ v found);
    busy = k.busy;
    left = k.left;
    claims = k.claims;
  }
    where
      of_message : (n : Message) (t : Tag) (v : ℤ) → value_of t n ≡ Some v → FitsStep g.until (length g.actors) (level link.to) n → t.time ≤ g.until
      of_message End t v e f = absurd (none_some v e)
      of_message (Event u x) t v e f = subst (λ (z : Tag). z.time ≤ g.until) (same_tag-true u t (when_found (same_tag u t) (Some x) v e).0) f.0

  pub claim : (s : State) (c : Firings) (r : ℕ) (task : Task) → Home g i s c → IsNext g s r (unit_of g task) task → Home g i (after_claim g s (unit_of g task) task) (more c (unit_of g task) (firing_by g task))
  claim s c r task k next = record {
    waits = λ a p t v found. k.waits a p t v (without_found g s.waits (unit_of g task) task.tag a p t v found).0;
    busy = λ u other b.
        ⊎_elim
        (λ (here : unit_of g task ≡ u).
        let at = event_found g s.waits (unit_of g task) task.tag next.safe.event in
        subst (λ (z : Unit). platform_of g z.actor ≡ i) here (k.waits task.actor at.port task.tag at.value at.waits_there).0)
        (λ (there : unit_of g task ≢ u). k.busy u other (sym (put_other s.busy (unit_of g task) u (Some task) there) ∙ b))
        (cases_part (unit_of g task) u);
    left = k.left;
    claims = λ u x mem.
        ⊎_elim
        (λ (old : IsIn x (c u)). k.claims u x old)
        (λ (new : (unit_of g task ≡ u) × (x ≡ firing_by g task)).
        let at = event_found g s.waits (unit_of g task) task.tag next.safe.event in
        subst (λ (z : Unit). platform_of g z.actor ≡ i) new.0 (k.waits task.actor at.port task.tag at.value at.waits_there).0)
        (more_found c (unit_of g task) u (firing_by g task) x mem);
  }

pub home_holds : (g : Graph) (level : ℕ → ℕ) (i : ℕ) (rows : ℕ → List Row) (turns : List Turn) (s : State) → IsWired g → HasLevels g level → FitRows g rows → Legal g level i (opened g i rows) turns s → Home g i s (claims_of g turns)
home_holds g level i rows turns s wired up fits legal =
    legal_keeps g level i wired up (λ x c. Home g i x c)
    (λ x o c d h k busy result. post g i wired x c d k busy)
    (λ x c r h k. enter g i wired x c r h k)
    (λ x o c m link h k at home ok orderly. message g i wired level x c m link k home orderly)
    (λ x c l m k. record { waits = k.waits; busy = k.busy; left = k.left; claims = k.claims })
    (λ x c r later k. record { waits = k.waits; busy = k.busy; left = k.left; claims = k.claims })
    (λ x o c r task reading h k next. claim g i wired x c r task k next)
    (λ x c k. record { waits = k.waits; busy = k.busy; left = k.left; claims = k.claims })
    (λ x c rest k. record { waits = k.waits; busy = k.busy; left = k.left; claims = k.claims })
    turns (opened g i rows) s (λ u. []) (opened_sound g i rows fits) (opened_home g i rows) legal

-- also when a turn begins to claim
pub home_in_turn : (g : Graph) (level : ℕ → ℕ) (i : ℕ) (rows : ℕ → List Row) (turns : List Turn) (s new : State) (turn : Turn) (late : Bool) → IsWired g → HasLevels g level → FitRows g rows → Legal g level i (opened g i rows) turns s → (is : IsTurn g level i s turn late new) → Home g i (raised is.got turn.last) (claims_of g turns)
home_in_turn g level i rows turns s new turn late wired up fits legal is =
    (keeps_to_claims g level i wired up (λ x c. Home g i x c)
    (λ x o c d h k busy result. post g i wired x c d k busy)
    (λ x c r h k. enter g i wired x c r h k)
    (λ x o c m link h k at home ok orderly. message g i wired level x c m link k home orderly)
    (λ x c l m k. record { waits = k.waits; busy = k.busy; left = k.left; claims = k.claims })
    (λ x c r later k. record { waits = k.waits; busy = k.busy; left = k.left; claims = k.claims })
    (λ x o c r task reading h k next. claim g i wired x c r task k next)
    (λ x c k. record { waits = k.waits; busy = k.busy; left = k.left; claims = k.claims })
    (λ x c rest k. record { waits = k.waits; busy = k.busy; left = k.left; claims = k.claims })
    s new turn late (claims_of g turns) (legal_sound g level i turns (opened g i rows) s (λ u. []) wired up (opened_sound g i rows fits) legal) (home_holds g level i rows turns s wired up fits legal) is).1

pub home_on_time : (g : Graph) (level : ℕ → ℕ) (i : ℕ) (rows : ℕ → List Row) (turns : List Turn) (s : State) → IsWired g → HasLevels g level → FitRows g rows → LegalOnTime g level i (opened g i rows) turns s → Home g i s (claims_of g turns)
home_on_time g level i rows turns s wired up fits legal =
    on_time_keeps g level i wired up (λ x c. Home g i x c)
    (λ x o c d h k busy result. post g i wired x c d k busy)
    (λ x c r h k. enter g i wired x c r h k)
    (λ x o c m link h k at home ok orderly. message g i wired level x c m link k home orderly)
    (λ x c l m k. record { waits = k.waits; busy = k.busy; left = k.left; claims = k.claims })
    (λ x c r later k. record { waits = k.waits; busy = k.busy; left = k.left; claims = k.claims })
    (λ x o c r task reading h k next. claim g i wired x c r task k next)
    (λ x c k. record { waits = k.waits; busy = k.busy; left = k.left; claims = k.claims })
    (λ x c rest k. record { waits = k.waits; busy = k.busy; left = k.left; claims = k.claims })
    turns (opened g i rows) s (λ u. []) (opened_sound g i rows fits) (opened_home g i rows) legal
