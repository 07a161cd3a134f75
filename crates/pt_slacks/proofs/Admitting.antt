-- The slacks that are needed are those with which each sender can send in time.
use Rattle.std.proofs.Common.{◌≡◌, ℕ, ◌+◌, ◌<◌, ◌≤◌, List, Option, Some, None, length, get_or, map, refl, sym, ap, subst, ◌∙◌, arith, ◌⊎◌, ⊎_elim, slice_get}
use Rattle.std.proofs.lemmas.Bool.{cases_lt}
use Rattle.std.proofs.lemmas.Option.{slice_get-get_or, slice_get_within}
use Rattle.pt_tags.specs.declared.tag.Delay.{Delay}
use Rattle.pt_types.specs.declared.graph.Graph.{Graph}
use Rattle.pt_types.specs.declared.graph.Link.{Link}
use Rattle.pt_types.specs.declared.graph.Unit.{Unit}
use Rattle.pt_types.specs.declared.kind.Kind.{Kind}
use Rattle.pt_types.specs.declared.kind.Kind.TheVariants.{Actuator, Receive, Send, Sensor}
use Rattle.pt_types.specs.Lawful.{IsLawful}
use Rattle.pt_types.specs.Lookups.{kind_of}
use Rattle.pt_types.proofs.LawfulActors.{any_kind}
use Rattle.pt_types.proofs.LawfulLinks.{IsLink, link_at}
use Rattle.pt_semantics.specs.Bounds.{Feeds, bound_of}
use Rattle.pt_semantics.specs.Edges.{Edge}
use Rattle.pt_semantics.specs.Paths.{Goes}
use Rattle.pt_semantics.specs.Ranks.{sum_along}
use Rattle.pt_semantics.specs.Units.{at_output}
use Rattle.pt_semantics.proofs.Lookups.{same_some}
use Rattle.pt_causality.specs.Delays.{AreLeast, HasLeast, IsUnit}
use Rattle.pt_offsets.specs.Margins.{unit_at}
use Rattle.pt_offsets.proofs.Small.{past_kind, some_group}
use Rattle.pt_offsets.proofs.Sources.{first_unit}
use Rattle.pt_slacks.specs.declared.hop.Hop.{Hop}
use Rattle.pt_slacks.specs.Hops.{cost_of, hop_at, hop_of}
use Rattle.pt_slacks.specs.Needs.{by_hop, by_kind, by_sensor, needed_by}
use Rattle.pt_slacks.specs.Rows.{HaveEnough}
use Rattle.pt_slacks.specs.Slacks.{Admits, with_slack, with_slacks}
use Rattle.pt_slacks.proofs.Changed.{bound_link, bound_sensor, goes_from, goes_to, kind_with, output_with}
use Rattle.pt_slacks.proofs.Costs.{hop_is, hops_len, no_link}

pub not_send : (own : ℕ) → Receive ≡ Send own → ⊥
not_send own e = cc

pub not_sensor : (file : List ℕ) (bound : ℕ) → Receive ≡ Sensor file bound → ⊥
not_sensor file bound e = cc

-- along any path a source needs no more than by the least delay
needed_path : (g : Graph) (late : ℕ) (x u : Unit) (path : List Edge) (found : Option Delay) → HasLeast g x u found → Goes g x path u → late ≤ needed_by late found + (sum_along path).time
needed_path g late x u path None has goes = absurd (has path goes)
needed_path g late x u path (Some d) has goes = let le : d.time ≤ (sum_along path).time = (has.least path goes).0 in omega (arith, le)

-- what is needed is needed along a path
needed_some : (g : Graph) (late : ℕ) (x u : Unit) (found : Option Delay) → HasLeast g x u found → 0 < needed_by late found → (path : List Edge) × Goes g x path u × (needed_by late found + (sum_along path).time ≡ late)
needed_some g late x u None has more = absurd (omega (arith, more))
needed_some g late x u (Some d) has more =
    let same : (sum_along has.along.0).time ≡ d.time = ap (λ (e : Delay). e.time) has.along.2 in
    (has.along.0, has.along.1, omega (arith, more, same))

pub sensor_some : (k : Kind) (d : Option Delay) → 0 < by_kind k d → (file : List ℕ) × (bound : ℕ) × (k ≡ Sensor file bound)
sensor_some (Sensor file bound) d more = (file, bound, refl)
sensor_some _ d more = absurd (omega (arith, more))

pub zero_or : (n : ℕ) → (n ≡ 0) ⊎ (0 < n)
zero_or n = grind arith

pub send_before : (n own : ℕ) (k : Kind) → with_slack n k ≡ Send own → ((before : ℕ) × (k ≡ Send before)) × (own ≡ n)
send_before n own (Send before) e = ((before, refl), sym (same_own n own e))
  where
    same_own : (n own : ℕ) → Send n ≡ Send own → n ≡ own
    same_own n own e = cc
send_before n own (Actuator before) e = absurd cc
send_before n own _ e = absurd cc

pub below_of : (g : Graph) (a : ℕ) (k : Kind) → kind_of g a ≡ k → (Receive ≡ k → ⊥) → a < length g.actors
below_of g a k is other =
    ⊎_elim
    (λ (less : a < length g.actors). less)
    (λ (past : length g.actors ≤ a). absurd (other (sym (past_kind g a past) ∙ is)))
    (cases_lt a (length g.actors))

module _ (g : Graph) (least : Unit → Unit → Option Delay) (hops : List Hop) (lawful : IsLawful g) (are : hops ≡ map (hop_of g) g.links) (all : AreLeast g least) where
  unit_of_actor : (a : ℕ) → a < length g.actors → IsUnit g (unit_at a 0)
  unit_of_actor a less = (less, some_group (kind_of g a) (any_kind g a lawful))

  pub has_least : (r a : ℕ) → r < length g.actors → a < length g.actors → HasLeast g (unit_at r 0) (unit_at a 0) (least (unit_at r 0) (unit_at a 0))
  has_least r a there here = all (unit_at r 0) (unit_at a 0) (unit_of_actor r there) (unit_of_actor a here)

  -- what a source needs at an actor, along a path
  pub along : (late r a : ℕ) (path : List Edge) → r < length g.actors → a < length g.actors → Goes g (unit_at r 0) path (unit_at a 0) → late ≤ needed_by late (least (unit_at r 0) (unit_at a 0)) + (sum_along path).time
  along late r a path there here goes = needed_path g late (unit_at r 0) (unit_at a 0) path (least (unit_at r 0) (unit_at a 0)) (has_least r a there here) goes

  pub needs_path : (late r a : ℕ) → r < length g.actors → a < length g.actors → 0 < needed_by late (least (unit_at r 0) (unit_at a 0)) → (path : List Edge) × Goes g (unit_at r 0) path (unit_at a 0) × (needed_by late (least (unit_at r 0) (unit_at a 0)) + (sum_along path).time ≡ late)
  needs_path late r a there here more = needed_some g late (unit_at r 0) (unit_at a 0) (least (unit_at r 0) (unit_at a 0)) (has_least r a there here) more

  pub by_hop_is : (slack : ℕ → ℕ) (a w : ℕ) (link : Link) → hop_at hops w ≡ hop_of g link → by_hop hops least slack a w ≡ needed_by (slack w + cost_of g link) (least (unit_at link.to 0) (unit_at a 0))
  by_hop_is slack a w link is = ap (λ (h : Hop). needed_by (slack w + h.cost) (least (unit_at h.to 0) (unit_at a 0))) is

  pub by_sensor_is : (a r bound : ℕ) (file : List ℕ) → kind_of g r ≡ Sensor file bound → by_sensor g least a r ≡ needed_by (bound + 1) (least (unit_at r 0) (unit_at a 0))
  by_sensor_is a r bound file is = ap (λ k. by_kind k (least (unit_at r 0) (unit_at a 0))) is

  -- a link and its hop
  pub record HopOf (w : ℕ) : Type 0 where
    pub link : Link
    pub at : slice_get g.links w ≡ Some link
    pub is : hop_at hops w ≡ hop_of g link
    pub joins : IsLink g link

  pub hop_of_link : (w : ℕ) → w < length hops → HopOf w
  hop_of_link w less =
      let len : length hops ≡ length g.links = hops_len g hops are in
      let below : w < length g.links = omega (arith, less, len) in
      let at = slice_get-get_or g.links w no_link below in
      record { link = get_or g.links w no_link; at = at; is = hop_is g hops w are below; joins = link_at g w (get_or g.links w no_link) lawful at }

  pub link_hop : (w : ℕ) (link : Link) → slice_get g.links w ≡ Some link → (w < length hops) × (hop_at hops w ≡ hop_of g link)
  link_hop w link at =
      let len : length hops ≡ length g.links = hops_len g hops are in
      let below : w < length g.links = slice_get_within g.links w link at in
      let same : get_or g.links w no_link ≡ link = same_some (get_or g.links w no_link) link (sym (slice_get-get_or g.links w no_link below) ∙ at) in
      (omega (arith, below, len), hop_is g hops w are below ∙ ap (hop_of g) same)

  pub path_in : (s : ℕ → ℕ) (r a : ℕ) (path : List Edge) → Goes (with_slacks g s) (at_output (with_slacks g s) r 0) path (unit_at a 0) → Goes g (unit_at r 0) path (unit_at a 0)
  path_in s r a path goes = subst (λ (x : Unit). Goes g x path (unit_at a 0)) (output_with g s r 0 ∙ sym (first_unit g r)) (goes_from g s (at_output (with_slacks g s) r 0) path (unit_at a 0) goes)

  pub feeds_by : (s : ℕ → ℕ) (r b a : ℕ) (path : List Edge) → bound_of (with_slacks g s) r ≡ Some b → Goes g (unit_at r 0) path (unit_at a 0) → Feeds (with_slacks g s) r b path (unit_at a 0)
  feeds_by s r b a path bound goes = record {
    bound = bound;
    goes = subst (λ (x : Unit). Goes (with_slacks g s) x path (unit_at a 0)) (first_unit g r ∙ sym (output_with g s r 0)) (goes_to g s (unit_at r 0) path (unit_at a 0) goes);
  }

  -- with slacks that admit the graph, a sender has what each source asks for along each path
  pub admits_path : (other : ℕ → ℕ) → Admits g other → (a own r b : ℕ) (path : List Edge) → kind_of g a ≡ Send own → bound_of (with_slacks g other) r ≡ Some b → Goes g (unit_at r 0) path (unit_at a 0) → b + 1 ≤ other a + (sum_along path).time
  admits_path other admits a own r b path sends bound goes =
      admits a (other a) r b path (kind_with g other a ∙ ap (with_slack (other a)) sends)
      (subst (Feeds (with_slacks g other) r b path) (first_unit g a ∙ sym (output_with g other a 0)) (feeds_by other r b a path bound goes))

  sensor_le : (other : ℕ → ℕ) → Admits g other → (a own r : ℕ) → kind_of g a ≡ Send own → r < length g.actors → by_sensor g least a r ≤ other a
  sensor_le other admits a own r sends there =
      let here : a < length g.actors = below_of g a (Send own) sends (not_send own) in
      ⊎_elim
      (λ (none : by_sensor g least a r ≡ 0). omega (arith, none))
      (λ (more : 0 < by_sensor g least a r).
      let sensor = sensor_some (kind_of g r) (least (unit_at r 0) (unit_at a 0)) more in
      let same = by_sensor_is a r sensor.1 sensor.0 sensor.2 in
      let path = needs_path (sensor.1 + 1) r a there here (subst (λ n. 0 < n) same more) in
      let le : sensor.1 + 1 ≤ other a + (sum_along path.0).time = admits_path other admits a own r sensor.1 path.0 sends (bound_sensor g other r sensor.1 sensor.0 sensor.2) path.1 in
      let sum : needed_by (sensor.1 + 1) (least (unit_at r 0) (unit_at a 0)) + (sum_along path.0).time ≡ sensor.1 + 1 = path.2 in
      omega (arith, same, le, sum))
      (zero_or (by_sensor g least a r))

  hop_le : (other : ℕ → ℕ) → Admits g other → (a own w : ℕ) → kind_of g a ≡ Send own → w < length hops → by_hop hops least (λ k. other (hop_at hops k).from) a w ≤ other a
  hop_le other admits a own w sends there =
      let here : a < length g.actors = below_of g a (Send own) sends (not_send own) in
      let slack : ℕ → ℕ = λ k. other (hop_at hops k).from in
      let hop = hop_of_link w there in
      let link = hop.link in
      let from : other (hop_at hops w).from ≡ other link.from = ap (λ (h : Hop). other h.from) hop.is in
      let bound = bound_link g other lawful w link hop.at in
      let late : slack w + cost_of g link ≡ bound.0 + 1 = ap (λ n. n + cost_of g link) from ∙ sym bound.2 in
      let same : by_hop hops least slack a w ≡ needed_by (bound.0 + 1) (least (unit_at link.to 0) (unit_at a 0)) = by_hop_is slack a w link hop.is ∙ ap (λ n. needed_by n (least (unit_at link.to 0) (unit_at a 0))) late in
      ⊎_elim
      (λ (none : by_hop hops least slack a w ≡ 0). omega (arith, none))
      (λ (more : 0 < by_hop hops least slack a w).
      let path = needs_path (bound.0 + 1) link.to a hop.joins.to here (subst (λ n. 0 < n) same more) in
      let le : bound.0 + 1 ≤ other a + (sum_along path.0).time = admits_path other admits a own link.to bound.0 path.0 sends bound.1 path.1 in
      let sum : needed_by (bound.0 + 1) (least (unit_at link.to 0) (unit_at a 0)) + (sum_along path.0).time ≡ bound.0 + 1 = path.2 in
      omega (arith, same, le, sum))
      (zero_or (by_hop hops least slack a w))

  -- slacks that admit the graph are enough
  pub admits_enough : (other : ℕ → ℕ) → Admits g other → HaveEnough g least hops (λ w. other (hop_at hops w).from)
  admits_enough other admits = record {
    sensors = λ v a below there. let hop = hop_of_link v below in sensor_le other admits (hop_at hops v).from hop.joins.slack a (ap (λ (h : Hop). kind_of g h.from) hop.is ∙ hop.joins.sends) there;
    others = λ v w below there. let hop = hop_of_link v below in hop_le other admits (hop_at hops v).from hop.joins.slack w (ap (λ (h : Hop). kind_of g h.from) hop.is ∙ hop.joins.sends) there;
  }
