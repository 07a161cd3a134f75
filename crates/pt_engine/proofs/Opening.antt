-- Open claims: which there are after a turn, and that posting their results leaves none.
use Rattle.std.proofs.Common.{◌≡◌, ℕ, suc, ◌<◌, ◌≤◌, ◌≢◌, Bool, true, List, [], ◌∷◌, ◌++◌, Option, Some, None, map, refl, sym, ap, subst, ◌∙◌, arith, ⊎_elim, append_assoc, append-nil}
use Rattle.std.proofs.Math.Path.{fun_ext}
use Rattle.pt_types.specs.declared.graph.Graph.{Graph}
use Rattle.pt_types.specs.declared.graph.Unit.{Unit}
use Rattle.pt_types.specs.declared.firing.Done.{Done}
use Rattle.pt_types.specs.declared.firing.OnLink.{OnLink}
use Rattle.pt_types.specs.declared.firing.Task.{Task}
use Rattle.pt_semantics.specs.Bounds.{link_bound}
use Rattle.pt_semantics.specs.Claiming.{Claims, after_claim}
use Rattle.pt_semantics.specs.Lists.{Each}
use Rattle.pt_semantics.specs.Platform.{State, put_busy}
use Rattle.pt_semantics.specs.Posting.{Posts, after_post}
use Rattle.pt_semantics.specs.Taking.{IsOnTime, Takes, after_message, with_taken}
use Rattle.pt_semantics.specs.Units.{unit_of}
use Rattle.pt_semantics.specs.Visits.{NumbersRise}
use Rattle.pt_semantics.proofs.Floor.{put_other, put_same}
use Rattle.pt_semantics.proofs.Lookups.{cases_part, none_some}
use Rattle.pt_turn.specs.Posts.Posted.{ArePosted}
use Rattle.pt_engine.specs.Shown.{AreOpen}

abbrev pub tasks_of : List Done → List Task
tasks_of dones = map (λ (d : Done). d.task) dones

-- if results of all open claims are posted, every pending result is,
pub all_posted : (g : Graph) (busy : Unit → Option Task) (dones posted : List Done) → AreOpen g busy (tasks_of dones) → ArePosted g busy dones posted → posted ≡ dones
all_posted g busy [] posted open_claims h = h
all_posted g busy (d ∷ ds) posted open_claims h =
    ⊎_elim
    (λ (one : (busy (unit_of g d.task) ≡ Some d.task) × (rest : List Done) × (posted ≡ d ∷ rest) × ArePosted g (put_busy busy (unit_of g d.task) None) ds rest).
    one.2 ∙ ap (λ z. d ∷ z) (all_posted g (put_busy busy (unit_of g d.task) None) ds one.1 open_claims.1 one.3))
    (λ (none : (busy (unit_of g d.task) ≡ Some d.task → ⊥) × ArePosted g busy ds posted). absurd (none.0 open_claims.0))
    h

-- and no claim is open after that
pub none_open : (g : Graph) (ds : List Done) (s new : State) → AreOpen g s.busy (tasks_of ds) → Posts g s ds new → (u : Unit) → new.busy u ≡ None
none_open g [] s new open_claims h u = ap (λ (z : State). z.busy u) h ∙ open_claims u
none_open g (d ∷ ds) s new open_claims h u = none_open g ds (after_post g s d) new open_claims.1 h.2 u

-- taking messages changes no open claim
pub takes_busy : (g : Graph) (level : ℕ → ℕ) (i : ℕ) (ms : List OnLink) (late : Bool) (s new : State) → Takes g level i s ms late new → new.busy ≡ s.busy
takes_busy g level i [] late s new h = ap (λ (z : State). z.busy) h.1
takes_busy g level i (m ∷ ms) late s new (link, at, home, orderly, next) =
    ⊎_elim
    (λ (on : IsOnTime s.reading (link_bound g link) m.message × Takes g level i (after_message s m.link link m.message) ms late new). takes_busy g level i ms late (after_message s m.link link m.message) new on.1)
    (λ (off : (IsOnTime s.reading (link_bound g link) m.message → ⊥) × (ms ≡ []) × (late ≡ true) × (new ≡ with_taken s m.link m.message)). ap (λ (z : State). z.busy) off.3)
    next

-- one more claim
same_busy : (busy : Unit → Option Task) (u v : Unit) (o p : Option Task) → u ≢ v → put_busy (put_busy busy v p) u o ≡ put_busy (put_busy busy u o) v p
same_busy busy u v o p ne = fun_ext (λ w.
    ⊎_elim
    (λ (here : u ≡ w).
    put_same (put_busy busy v p) u w o here
    ∙ sym (put_other (put_busy busy u o) v w p (λ e. ne (here ∙ sym e)) ∙ put_same busy u w o here))
    (λ (other : u ≢ w).
    put_other (put_busy busy v p) u w o other
    ∙ ⊎_elim
    (λ (there : v ≡ w). put_same busy v w p there ∙ sym (put_same (put_busy busy u o) v w p there))
    (λ (neither : v ≢ w). put_other busy v w p neither ∙ sym (put_other (put_busy busy u o) v w p neither ∙ put_other busy u w o other))
    (cases_part v w))
    (cases_part u w))

open_more : (g : Graph) (busy : Unit → Option Task) (before : List Task) (task : Task) → AreOpen g busy before → busy (unit_of g task) ≡ None → AreOpen g (put_busy busy (unit_of g task) (Some task)) (before ++ task ∷ [])
open_more g busy [] task h free = (
  put_same busy (unit_of g task) (unit_of g task) (Some task) refl,
  λ u.
      ⊎_elim
      (λ (here : unit_of g task ≡ u). put_same (put_busy busy (unit_of g task) (Some task)) (unit_of g task) u None here)
      (λ (other : unit_of g task ≢ u).
      put_other (put_busy busy (unit_of g task) (Some task)) (unit_of g task) u None other
      ∙ put_other busy (unit_of g task) u (Some task) other
      ∙ h u)
      (cases_part (unit_of g task) u),
)
open_more g busy (t ∷ before) task h free =
    let apart : unit_of g task ≢ unit_of g t = λ e. none_some t (sym free ∙ ap busy e ∙ h.0) in (
      put_other busy (unit_of g task) (unit_of g t) (Some task) apart ∙ h.0,
      subst (λ z. AreOpen g z (before ++ task ∷ [])) (same_busy busy (unit_of g task) (unit_of g t) (Some task) None apart)
          (open_more g (put_busy busy (unit_of g t) None) before task h.1
          (put_other busy (unit_of g t) (unit_of g task) None (λ e. apart (sym e)) ∙ free)),
    )

claims_more : (g : Graph) (r : ℕ) (tasks before : List Task) (s new : State) → AreOpen g s.busy before → Claims g r s tasks new → AreOpen g new.busy (before ++ tasks)
claims_more g r [] before s new h e = subst (λ (z : State). AreOpen g z.busy (before ++ [])) (sym e) (subst (AreOpen g s.busy) (sym (append-nil before)) h)
claims_more g r (task ∷ tasks) before s new h (next, rest) =
    subst (AreOpen g new.busy) (append_assoc before (task ∷ []) tasks)
    (claims_more g r tasks (before ++ task ∷ []) (after_claim g s (unit_of g task) task) new (open_more g s.busy before task h next.safe.free) rest)

-- if no claim was open before a turn's claims, exactly these are open after it
pub claims_open : (g : Graph) (r : ℕ) (tasks : List Task) (s new : State) → ((u : Unit) → s.busy u ≡ None) → Claims g r s tasks new → AreOpen g new.busy tasks
claims_open g r tasks s new free h = claims_more g r tasks [] s new free h

-- the numbers of a turn's claims rise
numbered : (g : Graph) (r : ℕ) (ds : List Done) (s new : State) → Claims g r s (tasks_of ds) new → Each (λ (d : Done). s.claims ≤ d.task.number) ds × NumbersRise ds
numbered g r [] s new h = (tt, tt)
numbered g r (d ∷ ds) s new (next, rest) =
    let on = numbered g r ds (after_claim g s (unit_of g d.task) d.task) new rest in
    let number : d.task.number ≡ s.claims = next.number in (
      (omega arith, above s.claims ds on.0),
      (subst (λ n. Each (λ (e : Done). n < e.task.number) ds) (sym number) (past s.claims ds on.0), on.1),
    )
  where
    above : (n : ℕ) (ds : List Done) → Each (λ (d : Done). suc n ≤ d.task.number) ds → Each (λ (d : Done). n ≤ d.task.number) ds
    above n [] h = tt
    above n (d ∷ ds) h = let le : suc n ≤ d.task.number = h.0 in (omega arith, above n ds h.1)

    past : (n : ℕ) (ds : List Done) → Each (λ (d : Done). suc n ≤ d.task.number) ds → Each (λ (d : Done). n < d.task.number) ds
    past n [] h = tt
    past n (d ∷ ds) h = let le : suc n ≤ d.task.number = h.0 in (omega arith, past n ds h.1)

pub numbers_rise : (g : Graph) (r : ℕ) (ds : List Done) (s new : State) → Claims g r s (tasks_of ds) new → NumbersRise ds
numbers_rise g r ds s new h = (numbered g r ds s new h).1
