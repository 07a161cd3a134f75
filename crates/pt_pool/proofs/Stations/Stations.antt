-- After a visit a station still belongs to its run.
use Rattle.std.proofs.Common.{◌≡◌, ℕ, ◌+◌, ◌≤◌, ◌^◌, List, [], ◌++◌, Option, length, refl, sym, ap, subst, ◌∙◌, ⊎_elim, arith}
use Rattle.std.proofs.lemmas.List.{length-append}
use Rattle.std.specs.Prelude.{Result, Ok, Err}
use Rattle.atomic_table.specs.Seated.{TableId}
use Rattle.pt_types.specs.declared.graph.Graph.{Graph}
use Rattle.pt_types.specs.declared.firing.Done.{Done}
use Rattle.pt_types.specs.declared.firing.Task.{Task}
use Rattle.pt_types.specs.Limits.{greatest_claims}
use Rattle.pt_offsets.specs.Plans.{Parts}
use Rattle.pt_turn.specs.Posts.Posted.{AreDone}
use Rattle.pt_paced_laws.proofs.Turns.{turn_does}
use Rattle.pt_turn.specs.Platforms.{PlatformView, level_at, state_at}
use Rattle.pt_turn.specs.Turned.{is_late}
use Rattle.pt_board.specs.Keepers.{BoardView, KeeperView}
use Rattle.pt_pool.specs.declared.linked.VisitFault.{VisitFault}
use Rattle.pt_pool.specs.declared.linked.VisitFault.TheVariants.{Turn, Memory}
use Rattle.pt_pool.specs.Answers.{AnswersVisit}
use Rattle.pt_pool.specs.LinkedPlatform.{LinkedPlatformView, LinkedVisited, plan_graph}
use Rattle.pt_pool.proofs.Keeping.{number_stays}
use Rattle.pt_pool.specs.Stations.Stations.{HaveCollected, HavePlaced, IsStation, StationAnswers, StationRefused, StationVisited}
use Rattle.pt_pool.proofs.Stations.Collects.{Same, done_both, have_same}

-- how many claims a visited station made
pub record Counts (most : ℕ) (old new : LinkedPlatformView) (claimed : List Task) : Type 0 where
  pub claims : new.platform.claims ≡ length claimed + old.platform.claims
  pub few : new.platform.claims ≤ old.platform.plan.graph.claims
  pub some : length claimed ≤ most
  pub number : new.platform.number ≡ old.platform.number

pub visit_counts : (most : ℕ) (dones : List Done) (old new : LinkedPlatformView) (claimed : List Task) → LinkedVisited most dones old new [] claimed → Counts most old new claimed
visit_counts most dones old new claimed h =
    let w = h.was in
    let p = old.platform in
    let d = turn_does p.plan.graph (level_at p) p.number (state_at p) (state_at w.mid) w.made.turn (is_late w.mid.fault) w.made.is in
    let same : new.platform.claims ≡ w.mid.claims = ap (λ (v : PlatformView). v.claims) w.put.gone.stays in
    let tasks : claimed ≡ w.made.turn.claimed = w.tasks in
    let len : length claimed ≡ length w.made.turn.claimed = ap length tasks in
    let few : w.mid.claims ≤ p.plan.graph.claims = d.few in
    let claims : w.mid.claims ≡ length w.made.turn.claimed + p.claims = d.claims in
    let at_most : length w.made.turn.claimed ≤ most = w.made.few in
    record {
      claims = omega (arith, same, claims, len);
      few = omega (arith, same, few);
      some = omega (arith, len, at_most);
      number = number_stays h.reading most dones p new.platform old.outs new.outs old.ins new.ins [] claimed w;
    }

-- the number of the next placement, before what was claimed is placed
pub few_placed : (most : ℕ) (was mid : KeeperView) (old new : LinkedPlatformView) (collected : List Done) (claimed : List Task) → old.platform.plan.graph.claims ≤ greatest_claims → was.next ≤ old.platform.claims → HaveCollected was mid collected → Counts most old new claimed → mid.next + length claimed ≤ 2 ^ 62
few_placed most was mid old new collected claimed limit few got counts =
    let next : mid.next ≡ was.next = (have_same was mid collected got).next in
    let n : new.platform.claims ≡ length claimed + old.platform.claims = counts.claims in
    let m : new.platform.claims ≤ old.platform.plan.graph.claims = counts.few in
    omega (arith, next, few, n, m, limit)

-- how many claims a visit with an answer made
pub answer_counts : (result : Result (Unit {0}) VisitFault) (most : ℕ) (dones : List Done) (old new : LinkedPlatformView) (cleared claimed : List Task) → ((e : result ≡ Err Memory) → ⊥) → cleared ≡ [] → AnswersVisit result most dones old new cleared claimed → Counts most old new claimed
answer_counts (Ok x) most dones old new cleared claimed ne none a = visit_counts most dones old new claimed (subst (λ (z : List Task). LinkedVisited most dones old new z claimed) none a.2)
answer_counts (Err (Turn fault)) most dones old new cleared claimed ne none a = visit_counts most dones old new claimed (subst (λ (z : List Task). LinkedVisited most dones old new z claimed) none a.2)
answer_counts (Err Memory) most dones old new cleared claimed ne none a = absurd (ne refl)

-- a visit with an answer, from what was done
pub station_visited : (result : Result (Unit {0}) VisitFault) (most : ℕ) (g : Graph) (old new : LinkedPlatformView) (was mid now : KeeperView) (kept waits collected dones : List Done) (handed left cleared claimed tasks : List Task)
    → HaveCollected was mid collected → AreDone g collected → dones ≡ kept ++ collected → cleared ≡ [] → AnswersVisit result most dones old new cleared claimed → tasks ≡ claimed → HavePlaced tasks mid now handed left → waits ≡ [] → StationVisited result most g old new was now kept waits handed left
station_visited result most g old new was mid now kept waits collected dones handed left cleared claimed tasks got done is none answer same placed nothing = record {
  collected = collected;
  mid = mid;
  got = got;
  done = done;
  claimed = claimed;
  visited = subst (λ (ds : List Done). AnswersVisit result most ds old new [] claimed) is (subst (λ (z : List Task). AnswersVisit result most dones old new z claimed) none answer);
  placed = subst (λ (z : List Task). HavePlaced z mid now handed left) same placed;
  none = nothing;
}

module _ (plan : Option Parts) (table : ℕ → TableId) (board : BoardView) (most : ℕ) (old new : LinkedPlatformView) (was now : KeeperView) (kept waits : List Done) (handed left : List Task) (station : IsStation plan table board old was kept) where
  after_visit : (result : Result (Unit {0}) VisitFault) → ((dones : List Done) (claimed : List Task) → AnswersVisit result most dones old new [] claimed → LinkedVisited most dones old new [] claimed) → StationVisited result most (plan_graph plan) old new was now kept waits handed left → IsStation plan table board new now waits
  after_visit result made h =
      let c = visit_counts most (kept ++ h.collected) old new h.claimed (made (kept ++ h.collected) h.claimed h.visited) in
      let s = have_same was h.mid h.collected h.got in
      let tables : now.table ≡ was.table = h.placed.table ∙ s.table in
      let next : h.mid.next ≡ was.next = s.next in
      let out : now.next ≡ h.mid.next + length h.placed.out = h.placed.next in
      let parts : length h.claimed ≡ length h.placed.out + length h.placed.left = ap length h.placed.parted ∙ length-append h.placed.out h.placed.left in
      let before : was.next ≤ old.platform.claims = station.few in
      let claims : new.platform.claims ≡ length h.claimed + old.platform.claims = c.claims in
      record {
        of_board = tables ∙ station.of_board;
        named = tables ∙ station.named ∙ ap table (sym c.number);
        graph = h.placed.graph ∙ s.graph ∙ station.graph;
        few = omega (arith, next, out, parts, before, claims);
        done = subst (AreDone (plan_graph plan)) (sym h.none) tt;
      }

  after_refusal : StationRefused (plan_graph plan) old new was now kept waits handed left → IsStation plan table board new now waits
  after_refusal h =
      let s : Same was now = ⊎_elim
      (λ (c : HaveCollected was now h.collected). have_same was now h.collected c)
      (λ (n : (now ≡ was) × (h.collected ≡ [])). record { graph = ap (λ (v : KeeperView). v.knows.graph) n.0; table = ap (λ (v : KeeperView). v.table) n.0; next = ap (λ (v : KeeperView). v.next) n.0 })
      h.got in
      let number : new.platform.number ≡ old.platform.number = ap (λ (v : PlatformView). v.number) h.refused.platform in
      let claims : new.platform.claims ≡ old.platform.claims = ap (λ (v : PlatformView). v.claims) h.refused.platform in
      let before : was.next ≤ old.platform.claims = station.few in
      let next : now.next ≡ was.next = s.next in
      record {
        of_board = s.table ∙ station.of_board;
        named = s.table ∙ station.named ∙ ap table (sym number);
        graph = s.graph ∙ station.graph;
        few = omega (arith, claims, before, next);
        done = subst (AreDone (plan_graph plan)) (sym h.waiting) (done_both (plan_graph plan) kept h.collected station.done h.done);
      }

  pub station_still : (result : Result (Unit {0}) VisitFault) → StationAnswers result most (plan_graph plan) old new was now kept waits handed left → IsStation plan table board new now waits
  station_still (Ok x) h = after_visit (Ok x) (λ dones claimed a. a.2) h
  station_still (Err (Turn fault)) h = after_visit (Err (Turn fault)) (λ dones claimed a. a.2) h
  station_still (Err Memory) h = after_refusal h

  pub number_still : (result : Result (Unit {0}) VisitFault) → StationAnswers result most (plan_graph plan) old new was now kept waits handed left → new.platform.number ≡ old.platform.number
  number_still (Ok x) h = (visit_counts most (kept ++ h.collected) old new h.claimed h.visited.2).number
  number_still (Err (Turn fault)) h = (visit_counts most (kept ++ h.collected) old new h.claimed h.visited.2).number
  number_still (Err Memory) h = ap (λ (v : PlatformView). v.number) h.refused.platform
