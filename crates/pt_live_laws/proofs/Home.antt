-- Every task is claimed on the platform of its actor.
use Rattle.std.proofs.Common.{◌≡◌, ℕ, true, false, List, [], ◌∷◌, Some, ℤ, inr, ⊎_elim}
use Rattle.std.proofs.lemmas.Bool.{cases_Bool}
use Rattle.pt_tags.specs.declared.tag.Tag.{Tag}
use Rattle.pt_types.specs.declared.firing.Task.{Task}
use Rattle.pt_types.specs.declared.graph.Graph.{Graph}
use Rattle.pt_types.specs.declared.rows.Row.{Row}
use Rattle.pt_types.specs.Lookups.{platform_of}
use Rattle.pt_semantics.specs.Claiming.{Claims, after_claim}
use Rattle.pt_semantics.specs.FixedOrder.{IsOver, Visits, platform_after, put_clock}
use Rattle.pt_semantics.specs.Lists.{Each}
use Rattle.pt_semantics.specs.Platform.{State, opened, raised}
use Rattle.pt_semantics.specs.Ranks.{AreLevels}
use Rattle.pt_semantics.specs.Rows.{FitRows}
use Rattle.pt_semantics.specs.Units.{unit_of}
use Rattle.pt_semantics.specs.Visits.{IsVisit, VisitRecord, RunState}
use Rattle.pt_semantics.specs.Wired.{IsWired}
use Rattle.pt_semantics.proofs.Claiming.{event_found, without_found}
use Rattle.pt_semantics.proofs.Longest.{levels_grow}
use Rattle.pt_laws.proofs.Home.{home_in_turn}
use Rattle.pt_fixed_order_laws.specs.Sound.{Sound}
use Rattle.pt_fixed_order_laws.proofs.Sound.{goes_legal, sound_after}
use Rattle.pt_live_laws.specs.Written.{AtHome}

claims_home : (g : Graph) (i r : ℕ) (tasks : List Task) (s new : State) → ((a p : ℕ) (t : Tag) (v : ℤ) → s.waits a p t ≡ Some v → platform_of g a ≡ i) → Claims g r s tasks new → Each (λ (task : Task). platform_of g task.actor ≡ i) tasks
claims_home g i r [] s new home claims = tt
claims_home g i r (task ∷ tasks) s new home (next, rest) =
    let at = event_found g s.waits (unit_of g task) task.tag next.safe.event in (
      home task.actor at.port task.tag at.value at.waits_there,
      claims_home g i r tasks (after_claim g s (unit_of g task) task) new (λ a p t v found. home a p t v (without_found g s.waits (unit_of g task) task.tag a p t v found).0) rest,
    )

module _ (g : Graph) (level : ℕ → ℕ) (rows : ℕ → List Row) (wired : IsWired g) (are : AreLevels g level) (fits : FitRows g rows) where
  visit_home : (most r : ℕ) (room : ℕ → ℕ) (x y : RunState) (m : VisitRecord) → Sound g level rows x → IsVisit g level most room r x m y → Each (λ (task : Task). platform_of g task.actor ≡ m.platform) m.turn.claimed
  visit_home most r room x y m h v =
      let legal = goes_legal g level m.platform (x.did m.platform) (opened g m.platform rows) (x.at m.platform) (h.goes m.platform) in
      let home = home_in_turn g level m.platform rows (x.did m.platform) (x.at m.platform) (y.at m.platform) m.turn m.late wired (levels_grow g level are) fits legal v.is in
      claims_home g m.platform m.turn.last m.turn.claimed (raised v.is.got m.turn.last) v.is.ready (λ a p t w found. (home.waits a p t w found).0) v.is.claims

  fine : (y : RunState) (m : VisitRecord) → (IsOver g m y → ⊥) → m.fault ≡ false
  fine y m going = ⊎_elim (λ (e : m.fault ≡ true). absurd (going (inr e))) (λ (e : m.fault ≡ false). e) (cases_Bool m.fault)

  pub visits_home : (most i : ℕ) (clocks : ℕ → List ℕ) (x y : RunState) (ms : List VisitRecord) → Sound g level rows x → Visits g level most i clocks x ms y → AtHome g ms
  visits_home most i clocks x y [] h v = absurd v
  visits_home most i clocks x y (m ∷ []) h (r, at, given, visit, over, none) = (visit_home most r (λ l. 64) x y m h visit, tt)
  visits_home most i clocks x y (m ∷ n ∷ ms) h (r, later, mid, at, given, visit, going, rest) = (
    visit_home most r (λ l. 64) x mid m h visit,
    visits_home most (platform_after g i) (put_clock clocks i later) mid y (n ∷ ms) (sound_after g level rows wired are fits most r (λ l. 64) x mid m h visit (fine mid m going)) rest,
  )
