-- The floor holds in every state that a legal history leads to.
use Rattle.std.proofs.Common.{◌≡◌, ℕ, ◌<◌, ◌≤◌, ◌==◌, Bool, true, false, List, [], ◌∷◌, ◌++◌, Option, Some, None, filter_map, arith, refl, sym, ap, subst, ◌∙◌, ⊎_elim, append-nil, append_assoc, if◌then◌else◌}
use Rattle.std.proofs.lemmas.Bool.{cases_Bool, cond-true, cond-false}
use Rattle.std.specs.List.{cons_option}
use Rattle.pt_types.specs.declared.graph.Graph.{Graph}
use Rattle.pt_types.specs.declared.graph.Unit.{Unit}
use Rattle.pt_semantics.specs.Lists.{IsIn}
use Rattle.pt_types.specs.Lookups.{platform_of}
use Rattle.pt_semantics.specs.Behaviours.{Firing, Firings}
use Rattle.pt_semantics.specs.Cycles.{HasLevels}
use Rattle.pt_semantics.specs.Wired.{IsWired}
use Rattle.pt_semantics.specs.Bounds.{link_bound}
use Rattle.pt_types.specs.declared.rows.Row.{Row}
use Rattle.pt_types.specs.declared.firing.Task.{Task}
use Rattle.pt_types.specs.declared.firing.Done.{Done}
use Rattle.pt_types.specs.declared.firing.OnLink.{OnLink}
use Rattle.pt_semantics.specs.Platform.{State, raised, opened}
use Rattle.pt_semantics.specs.Turn.{Turn, IsTurn}
use Rattle.pt_semantics.specs.Units.{unit_of, same_part}
use Rattle.pt_semantics.specs.History.{firing_by, of_unit, claims_of, Legal}
use Rattle.pt_semantics.specs.Posting.{Posts, after_post}
use Rattle.pt_semantics.specs.Entering.{after_rows, due, not_due}
use Rattle.pt_semantics.specs.Taking.{after_message, with_taken, Takes, IsOnTime}
use Rattle.pt_semantics.specs.Claiming.{Claims, after_claim}
use Rattle.pt_semantics.specs.Closing.{Closes, CanClose, shut, Sends}
use Rattle.pt_semantics.specs.Floor.{Floor}
use Rattle.pt_semantics.specs.Rows.{FitsRow, FitRows, NeverFalls}
use Rattle.pt_laws.specs.HistoryTheorems.{FloorHolds}
use Rattle.pt_semantics.proofs.Longest.{levels_grow}
use Rattle.pt_semantics.proofs.Words.{when-true, when-false}
use Rattle.pt_semantics.proofs.Lookups.{none_some, same_some, Each-in, IsIn-append_left, IsIn-append_right}
use Rattle.pt_laws.proofs.Rows.{due_split, not_due_later, not_due_order}
use Rattle.pt_semantics.proofs.Floor.{floor_post, floor_rows, floor_message, floor_raise}
use Rattle.pt_semantics.proofs.Claiming.{more, floor_claim}

-- the rows left are those of the run, in order, and none was seen by this reading
pub record Rest (g : Graph) (s : State) (up : Option ℕ) : Type 0 where
  pub fit : (a : ℕ) (row : Row) → IsIn row (s.left a) → FitsRow g a row
  pub order : (a : ℕ) → NeverFalls (s.left a)
  pub unseen : (a : ℕ) (row : Row) (r : ℕ) → IsIn row (s.left a) → up ≡ Some r → r < row.seen

-- what a state and what was claimed before it keep, in mid turn and between turns
pub record Sound (g : Graph) (s : State) (up : Option ℕ) (c : Firings) : Type 0 where
  pub floor : Floor g s c
  pub rest : Rest g s up

pub more_then : (c : Firings) (g : Graph) (u : Unit) (task : Task) (ys : List Firing) → more c (unit_of g task) (firing_by g task) u ++ ys ≡ c u ++ cons_option (of_unit g u task) ys
more_then c g u task ys =
    ⊎_elim
    (λ (h : same_part (unit_of g task) u ≡ true).
    ap (λ z. z ++ ys) (cond-true (same_part (unit_of g task) u) (c u ++ firing_by g task ∷ []) (c u) h)
    ∙ append_assoc (c u) (firing_by g task ∷ []) ys
    ∙ ap (λ o. c u ++ cons_option o ys) (sym (when-true (same_part (unit_of g task) u) (Some (firing_by g task)) h)))
    (λ (h : same_part (unit_of g task) u ≡ false).
    ap (λ z. z ++ ys) (cond-false (same_part (unit_of g task) u) (c u ++ firing_by g task ∷ []) (c u) h)
    ∙ ap (λ o. c u ++ cons_option o ys) (sym (when-false (same_part (unit_of g task) u) (Some (firing_by g task)) h)))
    (cases_Bool (same_part (unit_of g task) u))

pub all_more : (c : Firings) (g : Graph) (task : Task) (tasks : List Task) → ◌≡◌ {A = Firings} (λ u. more c (unit_of g task) (firing_by g task) u ++ filter_map (of_unit g u) tasks) (λ u. c u ++ filter_map (of_unit g u) (task ∷ tasks))
all_more c g task tasks = λ i u. more_then c g u task (filter_map (of_unit g u) tasks) i

pub posts_sound : (g : Graph) (level : ℕ → ℕ) (ds : List Done) (s new : State) (up : Option ℕ) (c : Firings) → HasLevels g level → Sound g s up c → Posts g s ds new → Sound g new up c × (new.reading ≡ s.reading) × (new.left ≡ s.left)
posts_sound g level [] s new up c levels h p = subst (λ z. Sound g z up c × (z.reading ≡ s.reading) × (z.left ≡ s.left)) (sym p) (h, refl, refl)
posts_sound g level (d ∷ ds) s new up c levels h (busy, result, rest) =
    posts_sound g level ds (after_post g s d) new up c levels
    (record { floor = floor_post g level s c d levels h.floor busy; rest = record { fit = h.rest.fit; order = h.rest.order; unseen = h.rest.unseen } })
    rest

pub rows_sound : (g : Graph) (s : State) (r : ℕ) (c : Firings) → ((p : ℕ) → s.reading ≡ Some p → p ≤ r) → Sound g s s.reading c → Sound g (after_rows s r) (Some r) c
rows_sound g s r c up h =
    let in_left = λ (a : ℕ) (row : Row) (m : IsIn row (not_due r (s.left a))). subst (IsIn row) (due_split r (s.left a)) (IsIn-append_right row (due r (s.left a)) (not_due r (s.left a)) m) in
    record {
      floor = floor_rows g s c r h.floor (λ a row m.
          let m2 : IsIn row (s.left a) = subst (IsIn row) (due_split r (s.left a)) (IsIn-append_left row (due r (s.left a)) (not_due r (s.left a)) m) in
          (h.rest.fit a row m2, λ p e. h.rest.unseen a row p m2 e));
      rest = record {
        fit = λ a row m. h.rest.fit a row (in_left a row m);
        order = λ a. not_due_order r (s.left a) (h.rest.order a);
        unseen = λ a row q m e. subst (λ z. z < row.seen) (same_some r q e) (not_due_later r (s.left a) (h.rest.order a) row m);
      };
    }

pub takes_sound : (g : Graph) (level : ℕ → ℕ) (i : ℕ) (ms : List OnLink) (late : Bool) (s new : State) (up : Option ℕ) (c : Firings) → IsWired g → Sound g s up c → Takes g level i s ms late new → Sound g new up c × (new.reading ≡ s.reading)
takes_sound g level i [] late s new up c wired h (l, e) = subst (λ z. Sound g z up c × (z.reading ≡ s.reading)) (sym e) (h, refl)
takes_sound g level i (m ∷ ms) late s new up c wired h (link, at, home, orderly, next) =
    ⊎_elim
    (λ (on : IsOnTime s.reading (link_bound g link) m.message × Takes g level i (after_message s m.link link m.message) ms late new).
    takes_sound g level i ms late (after_message s m.link link m.message) new up c wired
    (record { floor = floor_message g s c m.link link m.message wired h.floor at on.0; rest = record { fit = h.rest.fit; order = h.rest.order; unseen = h.rest.unseen } })
    on.1)
    (λ (off : (IsOnTime s.reading (link_bound g link) m.message → ⊥) × (ms ≡ []) × (late ≡ true) × (new ≡ with_taken s m.link m.message)).
    subst (λ z. Sound g z up c × (z.reading ≡ s.reading)) (sym off.3) (
      record {
        floor = record { waits = h.floor.waits; open_elsewhere = h.floor.open_elsewhere; open_here = h.floor.open_here; open_claimed = h.floor.open_claimed; sources = h.floor.sources; rises = h.floor.rises };
        rest = record { fit = h.rest.fit; order = h.rest.order; unseen = h.rest.unseen };
      },
      refl,
    ))
    next

pub claims_sound : (g : Graph) (r : ℕ) (tasks : List Task) (s new : State) (up : Option ℕ) (c : Firings) → s.reading ≡ Some r → Sound g s up c → Claims g r s tasks new → Sound g new up (λ u. c u ++ filter_map (of_unit g u) tasks) × (new.reading ≡ Some r)
claims_sound g r [] s new up c reading h e =
    let same : ◌≡◌ {A = Firings} c (λ u. c u ++ []) = λ i u. sym (append-nil (c u)) i in
    subst (λ z. Sound g z up (λ u. c u ++ []) × (z.reading ≡ Some r)) (sym e) (subst (λ z. Sound g s up z) same h, reading)
claims_sound g r (task ∷ tasks) s new up c reading h (next, rest) =
    let one : Sound g (after_claim g s (unit_of g task) task) up (more c (unit_of g task) (firing_by g task)) =
    record { floor = floor_claim g s c (unit_of g task) task r h.floor reading next.safe; rest = record { fit = h.rest.fit; order = h.rest.order; unseen = h.rest.unseen } } in
    let all = claims_sound g r tasks (after_claim g s (unit_of g task) task) new up (more c (unit_of g task) (firing_by g task)) reading one rest in
    (subst (λ z. Sound g new up z) (all_more c g task tasks) all.0, all.1)

pub closes_sound : (g : Graph) (i : ℕ) (s new : State) (r : ℕ) (late : Bool) (up : Option ℕ) (c : Firings) → Sound g s up c → Closes g i s r late new → Sound g new up c × (new.reading ≡ s.reading)
closes_sound g i s new r late up c h how =
    ⊎_elim
    (λ (yes_it : CanClose g i s r × (late ≡ false) × (new ≡ shut g i s)).
    subst (λ z. Sound g z up c × (z.reading ≡ s.reading)) (sym yes_it.2) (
      record {
        floor = record { waits = h.floor.waits; open_elsewhere = h.floor.open_elsewhere; open_here = h.floor.open_here; open_claimed = h.floor.open_claimed; sources = h.floor.sources; rises = h.floor.rises };
        rest = record { fit = h.rest.fit; order = h.rest.order; unseen = h.rest.unseen };
      },
      refl,
    ))
    (λ (not_it : (CanClose g i s r → late ≡ true) × (new ≡ s)). subst (λ z. Sound g z up c × (z.reading ≡ s.reading)) (sym not_it.1) (h, refl))
    how

pub sends_sound : (g : Graph) (s new : State) (sent : List OnLink) (up : Option ℕ) (c : Firings) → Sound g s up c → Sends s sent new → Sound g new up c × (new.reading ≡ s.reading)
sends_sound g s new sent up c h (rest, e, fronts, most) =
    subst (λ z. Sound g z up c × (z.reading ≡ s.reading)) (sym e) (
      record {
        floor = record { waits = h.floor.waits; open_elsewhere = h.floor.open_elsewhere; open_here = h.floor.open_here; open_claimed = h.floor.open_claimed; sources = h.floor.sources; rises = h.floor.rises };
        rest = record { fit = h.rest.fit; order = h.rest.order; unseen = h.rest.unseen };
      },
      refl,
    )

pub turn_sound : (g : Graph) (level : ℕ → ℕ) (i : ℕ) (s new : State) (turn : Turn) (late : Bool) (c : Firings) → IsWired g → HasLevels g level → Sound g s s.reading c → IsTurn g level i s turn late new → Sound g new new.reading (λ u. c u ++ filter_map (of_unit g u) turn.claimed)
turn_sound g level i s new turn late c wired levels h t =
    let r : ℕ = turn.last in
    let posted = posts_sound g level turn.posted s t.posted s.reading c levels h t.posts in
    let later = λ (p : ℕ) (e : t.posted.reading ≡ Some p). let k : p ≤ turn.first = t.rises p (sym posted.1 ∙ e) in let l : turn.first ≤ turn.last = t.span in le_both p turn.first turn.last k l in
    let entered = rows_sound g t.posted r c later (subst (λ z. Sound g t.posted z c) (sym posted.1) posted.0) in
    let got = takes_sound g level i turn.taken late (after_rows t.posted r) t.got (Some r) c wired entered t.takes in
    let up : Sound g (raised t.got r) (Some r) c = record {
      floor = floor_raise g t.got c r got.0.floor (λ p e. later p (sym got.1 ∙ e));
      rest = record { fit = got.0.rest.fit; order = got.0.rest.order; unseen = got.0.rest.unseen };
    } in
    let ready = claims_sound g r turn.claimed (raised t.got r) t.ready (Some r) c refl up t.claims in
    let done = closes_sound g i t.ready t.done r late (Some r) _ ready.0 t.closes in
    let all = sends_sound g t.done new turn.sent (Some r) _ done.0 t.sends in
    subst (λ z. Sound g new z (λ u. c u ++ filter_map (of_unit g u) turn.claimed)) (sym (all.1 ∙ done.1 ∙ ready.1)) all.0
  where
    le_both : (a b d : ℕ) → a ≤ b → b ≤ d → a ≤ d
    le_both a b d h k = omega arith

pub legal_sound : (g : Graph) (level : ℕ → ℕ) (i : ℕ) (turns : List Turn) (s new : State) (c : Firings) → IsWired g → HasLevels g level → Sound g s s.reading c → Legal g level i s turns new → Sound g new new.reading (λ u. c u ++ claims_of g turns u)
legal_sound g level i [] s new c wired levels h e =
    let same : ◌≡◌ {A = Firings} c (λ u. c u ++ []) = λ j u. sym (append-nil (c u)) j in
    subst (λ z. Sound g z z.reading (λ u. c u ++ [])) (sym e) (subst (λ z. Sound g s s.reading z) same h)
legal_sound g level i (turn ∷ turns) s new c wired levels h (late, mid, is, last, rest) =
    let one = turn_sound g level i s mid turn late c wired levels h is in
    let all = legal_sound g level i turns mid new (λ u. c u ++ filter_map (of_unit g u) turn.claimed) wired levels one rest in
    let same : ◌≡◌ {A = Firings} (λ u. (c u ++ filter_map (of_unit g u) turn.claimed) ++ claims_of g turns u) (λ u. c u ++ claims_of g (turn ∷ turns) u) = λ j u. append_assoc (c u) (filter_map (of_unit g u) turn.claimed) (claims_of g turns u) j in
    subst (λ z. Sound g new new.reading z) same all

pub opened_sound : (g : Graph) (i : ℕ) (rows : ℕ → List Row) → FitRows g rows → Sound g (opened g i rows) None (λ u. [])
opened_sound g i rows fits = record {
  floor = record {
    waits = λ a p t v path u x lt found go mem. absurd mem;
    open_elsewhere = λ w task path u x busy ne go mem. absurd mem;
    open_here = λ u task x busy mem. absurd mem;
    open_claimed = λ u task busy. absurd (no_task task busy);
    sources = λ a b path u x feeds mem. absurd mem;
    rises = λ u. tt;
  };
  rest = record {
    fit = λ a row m. Each-in (FitsRow g a) (rows a) (fits.fit a) row (own a row m);
    order = λ a. in_order a;
    unseen = λ a row r m e. absurd (none_some r e);
  };
}
  where
    no_task : (task : Task) → None ≡ Some task → ⊥
    no_task task e = cc

    own : (a : ℕ) (row : Row) → IsIn row (if platform_of g a == i then rows a else []) → IsIn row (rows a)
    own a row m =
        ⊎_elim
        (λ (h : (platform_of g a == i) ≡ true). subst (IsIn row) (cond-true (platform_of g a == i) (rows a) [] h) m)
        (λ (h : (platform_of g a == i) ≡ false). let none : IsIn row [] = subst (IsIn row) (cond-false (platform_of g a == i) (rows a) [] h) m in absurd none)
        (cases_Bool (platform_of g a == i))

    in_order : (a : ℕ) → NeverFalls (if platform_of g a == i then rows a else [])
    in_order a =
        ⊎_elim
        (λ (h : (platform_of g a == i) ≡ true). subst NeverFalls (sym (cond-true (platform_of g a == i) (rows a) [] h)) (fits.in_order a))
        (λ (h : (platform_of g a == i) ≡ false). subst NeverFalls (sym (cond-false (platform_of g a == i) (rows a) [] h)) tt)
        (cases_Bool (platform_of g a == i))

pub floor_holds : FloorHolds
floor_holds g level i rows turns s wired levels fits legal =
    (legal_sound g level i turns (opened g i rows) s (λ u. []) wired (levels_grow g level levels) (opened_sound g i rows fits) legal).floor
