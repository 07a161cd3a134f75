-- A visit within the stated bounds takes no late message, and what it sends arrives in time.
use Rattle.std.proofs.Common.{◌≡◌, ◌≢◌, ℕ, suc, ◌<◌, ◌≤◌, ◌+◌, ◌-◌, false, List, [], ◌∷◌, ◌++◌, Option, ℤ, Some, length, option_map, slice_get, unwrap_or, refl, sym, ap, subst, ◌∙◌, inl, ⊎_elim, arith}
use Rattle.std.specs.Int.{abs_diff}
use Rattle.pt_tags.specs.declared.message.Message.{Message}
use Rattle.pt_tags.specs.declared.message.Message.TheVariants.{Event}
use Rattle.pt_tags.specs.declared.tag.Tag.{Tag}
use Rattle.pt_types.specs.declared.graph.Graph.{Graph}
use Rattle.pt_types.specs.declared.graph.Link.{Link}
use Rattle.pt_types.specs.declared.graph.Unit.{Unit}
use Rattle.pt_types.specs.declared.rows.Row.{Row}
use Rattle.pt_types.specs.Lookups.{kind_of, platform_of, slack_of}
use Rattle.pt_semantics.specs.Bounds.{error_of}
use Rattle.pt_semantics.specs.Closing.{on_link}
use Rattle.pt_semantics.specs.Linked.{all_sent}
use Rattle.pt_semantics.specs.Lists.{IsIn}
use Rattle.pt_semantics.specs.Orderly.{InOrder}
use Rattle.pt_semantics.specs.Rounds.{IsTimely}
use Rattle.pt_semantics.specs.Visits.{VisitRecord}
use Rattle.pt_semantics.proofs.Lookups.{Each-in, IsIn-append_right, same_some}
use Rattle.pt_laws.proofs.Onward.{Advances, OnwardNear, advance_onward, cases_same}
use Rattle.pt_types.specs.declared.air.Air.{Air}
use Rattle.pt_semantics.specs.Arrivals.{AirwayView}
use Rattle.pt_semantics.specs.TrueTime.{delay_on, lag_of, put_all, reading_at, transits_on}
use Rattle.pt_fixed_order_laws.proofs.Sound.{Own, one_more_sent}
use Rattle.pt_replay_laws.specs.ReplayState.{IsVisitAt, ReplayState, taken_off}
use Rattle.pt_replay_laws.proofs.Sound.{IsSound, joins, others, own_turn, single, sound_visit, turn_of, way}
use Rattle.pt_replay_laws.specs.InBounds.InBounds.{IsInBounds, without_arrivals}
use Rattle.pt_replay_laws.proofs.InBounds.Ways.{IsInTime, clocks_are_near, due_on, order_front, put_in_time, taken_in_time}

-- a visit is a turn at the platform's own reading
pub visit_advances : (g : Graph) (level : ℕ → ℕ) (air : Air) (now : ℕ) (x : ReplayState) (m : VisitRecord) (y : ReplayState) → IsVisitAt g level air now x m y → Advances g level (reading_at air m.platform now) (without_arrivals x) m (without_arrivals y)
visit_advances g level air now x m y f = record {
  single = single g level air now x m y f;
  last = f.visit.last;
  is = turn_of g level air now x m y f;
  faults = f.visit.faults;
  others = others g level air now x m y f;
  joins = joins g level air now x m y f;
  rest = λ l. (way g level air now x m y f l).0;
  takes = λ l. (way g level air now x m y f l).1;
  sends = λ l. (way g level air now x m y f l).2;
}

-- what a replay within its bounds keeps from visit to visit
pub record IsPaceful (g : Graph) (level : ℕ → ℕ) (air : Air) (rows : ℕ → List Row) (offset : Unit → Option ℤ) (now : ℕ) (x : ReplayState) : Type 0 where
  pub onward : OnwardNear g level rows offset (λ i. reading_at air i now) (without_arrivals x)
  pub in_time : (l : ℕ) (link : Link) → slice_get g.links l ≡ Some link → IsInTime g air link (all_sent l (x.did (platform_of g link.from))) (x.airways l)

module _ (g : Graph) (level : ℕ → ℕ) (air : Air) (rows : ℕ → List Row) (inside : IsInBounds g level air rows) (now n : ℕ) (x : ReplayState) (m : VisitRecord) (y : ReplayState) (sound : IsSound g level rows n x) (f : IsVisitAt g level air now x m y) (le : n ≤ m.platform) (lt : m.platform < length g.platforms) (h : IsPaceful g level air rows inside.offset now x) where
  own : Own g level m.platform (x.at m.platform) m.turn (y.at m.platform)
  own = own_turn g level rows inside.wired inside.levels inside.fit air now n x m y sound f le

  after : IsSound g level rows (suc m.platform) y
  after = sound_visit g level rows inside.wired inside.levels inside.fit air now n x m y sound f le (suc m.platform) (omega (arith, le)) (λ low. absurd (omega (arith, low)))

  step : (m.late ≡ false) × OnwardNear g level rows inside.offset (λ i. reading_at air i now) (without_arrivals y)
  step = advance_onward g level rows inside.offset inside.offsets inside.wired inside.feasible (λ i. reading_at air i now) (clocks_are_near g air inside.bounds now) (without_arrivals x) (without_arrivals y) m lt h.onward (visit_advances g level air now x m y f)

  timely : IsTimely g inside.offset m.turn
  timely = Each-in (IsTimely g inside.offset) (y.did m.platform) (step.1.timed m.platform lt) m.turn
      (subst (IsIn m.turn) (sym (joins g level air now x m y f)) (IsIn-append_right m.turn (x.did m.platform) (m.turn ∷ []) (inl refl)))

  none_sent : (l : ℕ) (link : Link) → slice_get g.links l ≡ Some link → platform_of g link.from ≢ m.platform → on_link l m.turn.sent ≡ []
  none_sent l link at there = own.sent l (λ other at2 e. there (ap (λ (z : Link). platform_of g z.from) (same_some link other (sym at ∙ at2)) ∙ e))

  sent_more : (l : ℕ) (link : Link) → slice_get g.links l ≡ Some link → all_sent l (y.did (platform_of g link.from)) ≡ all_sent l (x.did (platform_of g link.from)) ++ on_link l m.turn.sent
  sent_more l link at = one_more_sent g m.platform m.turn x.did y.did (joins g level air now x m y f) (λ p ne. (others g level air now x m y f p ne).1) l link at (own.sent l)

  -- an event that is sent within its sender's slack can arrive in time
  can_arrive : (l : ℕ) (link : Link) → slice_get g.links l ≡ Some link → (message : Message) → IsIn message (on_link l m.turn.sent) → (t : Tag) (v : ℤ) → message ≡ Event t v → now + link.delay ≤ due_on g air link t
  can_arrive l link at message mem t v e = ⊎_elim
      (λ (here : platform_of g link.from ≡ m.platform).
      let within : m.turn.last ≤ t.time + slack_of (kind_of g link.from) = timely.sends l link t v at (subst (λ z. IsIn z (on_link l m.turn.sent)) e mem) in
      let reads : m.turn.last ≡ now - lag_of air (platform_of g link.from) = f.visit.last ∙ ap (λ p. now - lag_of air p) (sym here) in
      let apart : abs_diff (lag_of air (platform_of g link.from)) (lag_of air (platform_of g link.to)) ≤ error_of g (platform_of g link.from) (platform_of g link.to) = inside.bounds.lags l link at in
      sums m.turn.last t.time (slack_of (kind_of g link.from)) (lag_of air (platform_of g link.from)) (lag_of air (platform_of g link.to)) (error_of g (platform_of g link.from) (platform_of g link.to)) link.delay within reads apart)
      (λ (there : platform_of g link.from ≢ m.platform). let none : IsIn message [] = subst (IsIn message) (none_sent l link at there) mem in absurd none)
      (cases_same (platform_of g link.from) m.platform)
    where
      sums : (last time slack a b error delay : ℕ) → last ≤ time + slack → last ≡ now - a → abs_diff a b ≤ error → now + delay ≤ b + (time + (slack + delay + error))
      sums last time slack a b error delay p q r = omega (arith, p, q, r)

  in_time_after : (l : ℕ) (link : Link) → slice_get g.links l ≡ Some link → IsInTime g air link (all_sent l (y.did (platform_of g link.from))) (y.airways l)
  in_time_after l link at =
      let old : List Message = all_sent l (x.did (platform_of g link.from)) in
      let new : List Message = on_link l m.turn.sent in
      let left : AirwayView = taken_off (on_link l m.turn.taken) (x.airways l) in
      let delay : delay_on g l ≡ link.delay = ap (λ o. unwrap_or (option_map (λ (k : Link). k.delay) o) 0) at in
      let order : InOrder (old ++ new) = subst InOrder (sent_more l link at) (order_front (all_sent l (y.did (platform_of g link.from))) ((y.at (platform_of g link.from)).outbox l) (after.orderly l link at).0) in
      subst (λ z. IsInTime g air link z (y.airways l)) (sym (sent_more l link at))
      (subst (IsInTime g air link (old ++ new)) (sym (f.airways l))
      (subst (λ d. IsInTime g air link (old ++ new) (put_all now (transits_on air l) d new left)) (sym delay)
      (put_in_time g air link now (transits_on air l) (inside.bounds.transits l link at) old new left order (can_arrive l link at)
      (taken_in_time g air link old (on_link l m.turn.taken) (x.airways l) (h.in_time l link at)))))

  pub visit_paceful : (m.late ≡ false) × IsPaceful g level air rows inside.offset now y
  visit_paceful = (step.0, record { onward = step.1; in_time = in_time_after })
