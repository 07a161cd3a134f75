-- The needs of all senders and actuators are the least slacks of the graph.
use Rattle.std.proofs.Common.{◌≡◌, ℕ, ℤ, pos, negsuc, ◌+◌, ◌<◌, ◌≤◌, ◌+ℤ◌, ◌-ℤ◌, ◌≤ℤ◌, List, Option, Some, None, length, map, refl, sym, ap, subst, ◌∙◌, arith, ◌⊎◌, inl, inr, ⊎_elim}
use Rattle.std.proofs.lemmas.Int.{ints}
use Rattle.pt_tags.specs.declared.tag.Delay.{Delay}
use Rattle.pt_types.specs.declared.graph.Graph.{Graph}
use Rattle.pt_types.specs.declared.graph.Unit.{Unit}
use Rattle.pt_types.specs.declared.kind.Kind.TheVariants.{Send, Sensor}
use Rattle.pt_types.specs.Lawful.{IsLawful}
use Rattle.pt_types.specs.Lookups.{kind_of}
use Rattle.pt_types.proofs.LawfulLinks.{link_at}
use Rattle.pt_semantics.specs.Bounds.{Feeds, bound_of}
use Rattle.pt_semantics.specs.Edges.{Edge}
use Rattle.pt_semantics.specs.Offsets.{HasOffset}
use Rattle.pt_semantics.specs.Paced.{at_least_zero}
use Rattle.pt_semantics.specs.Paths.{Goes}
use Rattle.pt_semantics.specs.Ranks.{sum_along}
use Rattle.pt_causality.specs.Delays.{AreLeast}
use Rattle.pt_offsets.specs.Margins.{unit_at}
use Rattle.pt_offsets.proofs.Sources.{first_unit}
use Rattle.pt_slacks.specs.declared.hop.Hop.{Hop}
use Rattle.pt_slacks.specs.Hops.{cost_of, hop_at, hop_of}
use Rattle.pt_slacks.specs.Needs.{IsNeed, by_hop, by_sensor, needed_by}
use Rattle.pt_slacks.specs.Slacks.{Admits, slack_for, with_slacks}
use Rattle.pt_slacks.proofs.Admitting.{admits_path, along, below_of, by_hop_is, by_sensor_is, feeds_by, hop_of_link, link_hop, needs_path, not_send, not_sensor, path_in, send_before, sensor_some, zero_or}
use Rattle.pt_slacks.proofs.Changed.{FromLink, bound_link, bound_sensor, kind_with, output_with, source_of}

pub at_zero : (z : ℤ) → z ≤ℤ pos 0 → at_least_zero z ≡ 0
at_zero (pos n) h = omega (arith, ints, h)
at_zero (negsuc n) h = refl

-- a number that is enough, and needed, is what the offset asks for
offset_asks : (x : ℕ) (o : ℤ) (b t : ℕ) → pos b -ℤ pos t ≡ o → b + 1 ≤ x + t → ((x ≡ 0) ⊎ ((c : ℕ) × (u : ℕ) × (x + u ≡ c + 1) × ((pos c -ℤ pos u) ≤ℤ o))) → x ≡ at_least_zero (o +ℤ pos 1)
offset_asks x o b t is le some =
    ⊎_elim
    (λ (none : x ≡ 0). none ∙ sym (at_zero (o +ℤ pos 1) (omega (arith, ints, is, le, none))))
    (λ (one : (c : ℕ) × (u : ℕ) × (x + u ≡ c + 1) × ((pos c -ℤ pos u) ≤ℤ o)).
    let below : (pos one.0 -ℤ pos one.1) ≤ℤ o = one.3 in
    let sum : x + one.1 ≡ one.0 + 1 = one.2 in
    let exact : pos x ≡ o +ℤ pos 1 = omega (arith, ints, is, le, sum, below) in
    ap at_least_zero exact)
    some

module _ (g : Graph) (least : Unit → Unit → Option Delay) (hops : List Hop) (lawful : IsLawful g) (are : hops ≡ map (hop_of g) g.links) (all : AreLeast g least) (slack row : ℕ → ℕ) (same : (w : ℕ) → w < length hops → row w ≡ slack (hop_at hops w).from) where
  -- what is needed is enough for each source along each path
  pub feeds_need : (a x : ℕ) → a < length g.actors → IsNeed g hops least row a x → (r b : ℕ) (path : List Edge) → Feeds (with_slacks g slack) r b path (unit_at a 0) → b + 1 ≤ x + (sum_along path).time
  feeds_need a x here need r b path feeds =
      let goes = path_in g least hops lawful are all slack r a path feeds.goes in
      let from : need.base ≤ x = need.others.from in
      ⊎_elim
      (λ (sensor : (file : List ℕ) × (kind_of g r ≡ Sensor file b)).
      let there : r < length g.actors = below_of g r (Sensor sensor.0 b) sensor.1 (not_sensor sensor.0 b) in
      let le = along g least hops lawful are all (b + 1) r a path there here goes in
      let asked : by_sensor g least a r ≤ need.base = need.sensors.each r there in
      let is = by_sensor_is g least hops lawful are all a r b sensor.0 sensor.1 in
      omega (arith, le, asked, is, from))
      (λ (link : FromLink g slack r b).
      let hop = link_hop g least hops lawful are all link.number link.link link.at in
      let le : b + 1 ≤ needed_by (b + 1) (least (unit_at link.link.to 0) (unit_at a 0)) + (sum_along path).time =
      along g least hops lawful are all (b + 1) link.link.to a path (link_at g link.number link.link lawful link.at).to here (subst (λ n. Goes g (unit_at n 0) path (unit_at a 0)) (sym link.to) goes) in
      let asked : by_hop hops least row a link.number ≤ x = need.others.each link.number hop.0 in
      let late : row link.number + cost_of g link.link ≡ b + 1 = ap (λ n. n + cost_of g link.link) (same link.number hop.0 ∙ ap (λ (h : Hop). slack h.from) hop.1) ∙ sym link.bound in
      let is : by_hop hops least row a link.number ≡ needed_by (b + 1) (least (unit_at link.link.to 0) (unit_at a 0)) =
      by_hop_is g least hops lawful are all row a link.number link.link hop.1 ∙ ap (λ n. needed_by n (least (unit_at link.link.to 0) (unit_at a 0))) late in
      omega (arith, le, asked, is))
      (source_of g slack r b lawful feeds.bound)

  -- what is needed is asked for by a source, along a path
  pub record Asked (a x : ℕ) : Type 0 where
    pub source : ℕ
    pub bound : ℕ
    pub path : List Edge
    pub feeds : Feeds (with_slacks g slack) source bound path (unit_at a 0)
    pub sum : x + (sum_along path).time ≡ bound + 1

  asked_by_sensor : (a x r : ℕ) → a < length g.actors → r < length g.actors → 0 < x → x ≡ by_sensor g least a r → Asked a x
  asked_by_sensor a x r here there more is =
      let some : 0 < by_sensor g least a r = subst (λ n. 0 < n) is more in
      let sensor = sensor_some (kind_of g r) (least (unit_at r 0) (unit_at a 0)) some in
      let form = by_sensor_is g least hops lawful are all a r sensor.1 sensor.0 sensor.2 in
      let path = needs_path g least hops lawful are all (sensor.1 + 1) r a there here (subst (λ n. 0 < n) form some) in
      record {
        source = r;
        bound = sensor.1;
        path = path.0;
        feeds = feeds_by g least hops lawful are all slack r sensor.1 a path.0 (bound_sensor g slack r sensor.1 sensor.0 sensor.2) path.1;
        sum = ap (λ n. n + (sum_along path.0).time) (is ∙ form) ∙ path.2;
      }

  asked_by_hop : (a x w : ℕ) → a < length g.actors → w < length hops → 0 < x → x ≡ by_hop hops least row a w → Asked a x
  asked_by_hop a x w here there more is =
      let hop = hop_of_link g least hops lawful are all w there in
      let link = hop.link in
      let bound = bound_link g slack lawful w link hop.at in
      let late : row w + cost_of g link ≡ bound.0 + 1 = ap (λ n. n + cost_of g link) (same w there ∙ ap (λ (h : Hop). slack h.from) hop.is) ∙ sym bound.2 in
      let form : by_hop hops least row a w ≡ needed_by (bound.0 + 1) (least (unit_at link.to 0) (unit_at a 0)) =
      by_hop_is g least hops lawful are all row a w link hop.is ∙ ap (λ n. needed_by n (least (unit_at link.to 0) (unit_at a 0))) late in
      let path = needs_path g least hops lawful are all (bound.0 + 1) link.to a hop.joins.to here (subst (λ n. 0 < n) (is ∙ form) more) in
      record {
        source = link.to;
        bound = bound.0;
        path = path.0;
        feeds = feeds_by g least hops lawful are all slack link.to bound.0 a path.0 bound.1 path.1;
        sum = ap (λ n. n + (sum_along path.0).time) (is ∙ form) ∙ path.2;
      }

  pub asked : (a x : ℕ) → a < length g.actors → IsNeed g hops least row a x → 0 < x → Asked a x
  asked a x here need more =
      ⊎_elim
      (λ (base : x ≡ need.base).
      ⊎_elim
      (λ (none : need.base ≡ 0). absurd (omega (arith, base, none, more)))
      (λ (one : (r : ℕ) × (r < length g.actors) × (need.base ≡ by_sensor g least a r)). asked_by_sensor a x one.0 here one.1 more (base ∙ one.2))
      need.sensors.some)
      (λ (one : (w : ℕ) × (w < length hops) × (x ≡ by_hop hops least row a w)). asked_by_hop a x one.0 here one.1 more one.2)
      need.others.some

  -- the needs of senders admit the graph
  pub needs_admit : ((a own : ℕ) → kind_of g a ≡ Send own → IsNeed g hops least row a (slack a)) → Admits g slack
  needs_admit needs a own r b path kind feeds =
      let before = send_before (slack a) own (kind_of g a) (sym (kind_with g slack a) ∙ kind) in
      let here : a < length g.actors = below_of g a (Send before.0.0) before.0.1 (not_send before.0.0) in
      let is : own ≡ slack a = before.1 in
      let le : b + 1 ≤ slack a + (sum_along path).time =
      feeds_need a (slack a) here (needs a before.0.0 before.0.1) r b path (subst (Feeds (with_slacks g slack) r b path) (output_with g slack a 0 ∙ sym (first_unit g a)) feeds) in
      omega (arith, is, le)

  pub need_least : (other : ℕ → ℕ) → Admits g other → ((w : ℕ) → w < length hops → row w ≤ other (hop_at hops w).from) → (a own x : ℕ) → kind_of g a ≡ Send own → IsNeed g hops least row a x → x ≤ other a
  need_least other admits le a own x sends need =
      let here : a < length g.actors = below_of g a (Send own) sends (not_send own) in
      ⊎_elim
      (λ (none : x ≡ 0). omega (arith, none))
      (λ (more : 0 < x).
      let one = asked a x here need more in
      let goes = path_in g least hops lawful are all slack one.source a one.path one.feeds.goes in
      let sum : x + (sum_along one.path).time ≡ one.bound + 1 = one.sum in
      ⊎_elim
      (λ (sensor : (file : List ℕ) × (kind_of g one.source ≡ Sensor file one.bound)).
      let has = admits_path g least hops lawful are all other admits a own one.source one.bound one.path sends (bound_sensor g other one.source one.bound sensor.0 sensor.1) goes in
      omega (arith, has, sum))
      (λ (link : FromLink g slack one.source one.bound).
      let hop = link_hop g least hops lawful are all link.number link.link link.at in
      let bound = bound_link g other lawful link.number link.link link.at in
      let has : bound.0 + 1 ≤ other a + (sum_along one.path).time =
      admits_path g least hops lawful are all other admits a own one.source bound.0 one.path sends (subst (λ n. bound_of (with_slacks g other) n ≡ Some bound.0) link.to bound.1) goes in
      let low : row link.number ≤ other link.link.from = subst (λ (h : Hop). row link.number ≤ other h.from) hop.1 (le link.number hop.0) in
      let is : row link.number ≡ slack link.link.from = same link.number hop.0 ∙ ap (λ (h : Hop). slack h.from) hop.1 in
      let asks : one.bound + 1 ≡ slack link.link.from + cost_of g link.link = link.bound in
      let gives : bound.0 + 1 ≡ other link.link.from + cost_of g link.link = bound.2 in
      omega (arith, has, sum, low, is, asks, gives))
      (source_of g slack one.source one.bound lawful one.feeds.bound))
      (zero_or x)

  pub need_asks : (a x : ℕ) (o : Option ℤ) → a < length g.actors → IsNeed g hops least row a x → HasOffset (with_slacks g slack) (unit_at a 0) o → x ≡ slack_for o
  need_asks a x None here need has =
      ⊎_elim
      (λ (none : x ≡ 0). none)
      (λ (more : 0 < x). let one = asked a x here need more in absurd (has one.source one.bound one.path one.feeds))
      (zero_or x)
  need_asks a x (Some o) here need has =
      let some = has.some in
      offset_asks x o some.1 (sum_along some.2).time some.4 (feeds_need a x here need some.0 some.1 some.2 some.3)
      (⊎_elim
      (λ (none : x ≡ 0). inl none)
      (λ (more : 0 < x). let one = asked a x here need more in inr (one.bound, (sum_along one.path).time, one.sum, has.greatest one.source one.bound one.path one.feeds))
      (zero_or x))
