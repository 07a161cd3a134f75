-- The needs by the least row are the least slacks.
use Rattle.std.proofs.Common.{◌≡◌, ℕ, ◌<◌, ◌≤◌, List, Option, length, map, slice_index, sym, ap, subst, ◌∙◌, arith, ⊎_elim}
use Rattle.pt_tags.specs.declared.tag.Delay.{Delay}
use Rattle.pt_types.specs.declared.graph.Graph.{Graph}
use Rattle.pt_types.specs.declared.graph.Unit.{Unit}
use Rattle.pt_types.specs.declared.kind.Kind.TheVariants.{Actuator, Receive, Send}
use Rattle.pt_types.specs.Groups.{input_group}
use Rattle.pt_types.specs.Lawful.{IsLawful}
use Rattle.pt_types.specs.Lookups.{kind_of}
use Rattle.pt_semantics.specs.Offsets.{HasOffset}
use Rattle.pt_causality.specs.Delays.{AreLeast}
use Rattle.pt_offsets.specs.Margins.{unit_at}
use Rattle.pt_slacks.specs.declared.hop.Hop.{Hop}
use Rattle.pt_slacks.specs.Hops.{hop_at, hop_of}
use Rattle.pt_slacks.specs.Needs.{AreNeeds, HasSlack, IsNeed, by_hop, by_sensor}
use Rattle.pt_slacks.specs.Rows.{HaveEnough, IsLeastRow}
use Rattle.pt_slacks.specs.Slacks.{AreLeastSlacks, with_slacks}
use Rattle.pt_slacks.proofs.Admitting.{admits_enough, below_of, hop_of_link, not_send}
use Rattle.pt_slacks.proofs.Answering.{need_asks, need_least, needs_admit}
use Rattle.pt_slacks.proofs.Most.{up_to}
use Rattle.pt_slacks.proofs.Rounds.{hop_more}

not_actuator : (own : ℕ) → Receive ≡ Actuator own → ⊥
not_actuator own e = cc

module _ (g : Graph) (least : Unit → Unit → Option Delay) (hops : List Hop) (lawful : IsLawful g) (are : hops ≡ map (hop_of g) g.links) (all : AreLeast g least) (row needs : List ℕ) (best : IsLeastRow g least hops row) (have : AreNeeds g hops least (slice_index row) needs) where
  sender_need : (a own : ℕ) → kind_of g a ≡ Send own → IsNeed g hops least (slice_index row) a (slice_index needs a)
  sender_need a own sends = have.each a (subst HasSlack (sym sends) tt) (below_of g a (Send own) sends (not_send own))

  hop_need : (w : ℕ) → w < length hops → IsNeed g hops least (slice_index row) (hop_at hops w).from (slice_index needs (hop_at hops w).from)
  hop_need w below =
      let hop = hop_of_link g least hops lawful are all w below in
      sender_need (hop_at hops w).from hop.joins.slack (ap (λ (h : Hop). kind_of g h.from) hop.is ∙ hop.joins.sends)

  low : (w : ℕ) → w < length hops → slice_index needs (hop_at hops w).from ≤ slice_index row w
  low w below =
      let need = hop_need w below in
      let x = slice_index needs (hop_at hops w).from in
      ⊎_elim
      (λ (base : x ≡ need.base).
      ⊎_elim
      (λ (none : need.base ≡ 0). omega (arith, base, none))
      (λ (one : (r : ℕ) × (r < length g.actors) × (need.base ≡ by_sensor g least (hop_at hops w).from r)).
      let is : need.base ≡ by_sensor g least (hop_at hops w).from one.0 = one.2 in
      let le = best.enough.sensors w one.0 below one.1 in
      omega (arith, base, is, le))
      need.sensors.some)
      (λ (one : (k : ℕ) × (k < length hops) × (x ≡ by_hop hops least (slice_index row) (hop_at hops w).from k)).
      let is : x ≡ by_hop hops least (slice_index row) (hop_at hops w).from one.0 = one.2 in
      let le = best.enough.others w one.0 below one.1 in
      omega (arith, is, le))
      need.others.some

  enough : HaveEnough g least hops (λ w. slice_index needs (hop_at hops w).from)
  enough = record {
    sensors = λ v a below there.
        let need = hop_need v below in
        up_to (by_sensor g least (hop_at hops v).from a) need.base (slice_index needs (hop_at hops v).from) (need.sensors.each a there) need.others.from;
    others = λ v w below there.
        let need = hop_need v below in
        up_to (by_hop hops least (λ k. slice_index needs (hop_at hops k).from) (hop_at hops v).from w) (by_hop hops least (slice_index row) (hop_at hops v).from w) (slice_index needs (hop_at hops v).from)
        (hop_more g least hops (λ k. slice_index needs (hop_at hops k).from) (slice_index row) (hop_at hops v).from w (low w there))
        (need.others.each w there);
  }

  same : (w : ℕ) → w < length hops → slice_index row w ≡ slice_index needs (hop_at hops w).from
  same w below =
      let down : slice_index needs (hop_at hops w).from ≤ slice_index row w = low w below in
      let up : slice_index row w ≤ slice_index needs (hop_at hops w).from = best.least_of_all (λ k. slice_index needs (hop_at hops k).from) enough w below in
      omega (arith, down, up)

  -- these needs are the least slacks of the graph
  pub are_least : AreLeastSlacks g (slice_index needs)
  are_least = record {
    admits = needs_admit g least hops lawful are all (slice_index needs) (slice_index row) same sender_need;
    least = λ other admits a own sends.
        need_least g least hops lawful are all (slice_index needs) (slice_index row) same other admits
        (λ w below. best.least_of_all (λ k. other (hop_at hops k).from) (admits_enough g least hops lawful are all other admits) w below)
        a own (slice_index needs a) sends (sender_need a own sends);
    acts = λ a own o acts has.
        let here : a < length g.actors = below_of g a (Actuator own) acts (not_actuator own) in
        need_asks g least hops lawful are all (slice_index needs) (slice_index row) same a (slice_index needs a) o here (have.each a (subst HasSlack (sym acts) tt) here)
        (subst (λ u. HasOffset (with_slacks g (slice_index needs)) u o) (ap (λ k. unit_at a (input_group k 0)) acts) has);
  }
