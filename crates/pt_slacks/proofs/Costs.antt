-- The hops of a lawful graph.
use Rattle.std.proofs.Common.{◌≡◌, ℕ, ◌+◌, ◌<◌, ◌≤◌, ◌^◌, length, get_or, map, subst, sym, ap, ◌∙◌, arith}
use Rattle.std.specs.Prelude.{List}
use Rattle.std.proofs.lemmas.List.{get_or-map, length-map}
use Rattle.pt_types.specs.declared.graph.Graph.{Graph}
use Rattle.pt_types.specs.declared.graph.Link.{Link}
use Rattle.pt_types.specs.Lawful.{IsLawful}
use Rattle.pt_types.specs.Lookups.{kind_of, slack_of, platform_of}
use Rattle.pt_semantics.specs.Bounds.{error_of}
use Rattle.pt_semantics.specs.Lists.{IsIn}
use Rattle.pt_offsets.proofs.Small.{in_get, link_bound_small}
use Rattle.pt_slacks.specs.declared.hop.Hop.{Hop}
use Rattle.pt_slacks.specs.Hops.{cost_of, hop_at, hop_of, no_hop}

abbrev pub no_link : Link
no_link = record { from = 0; to = 0; delay = 0 }

sum_below : (slack delay error : ℕ) → slack + delay + error ≤ 3000000000000000 → delay + error + 1 < 2 ^ 52
sum_below slack delay error h = omega arith

pub cost_small : (g : Graph) (l : Link) → IsLawful g → IsIn l g.links → cost_of g l < 2 ^ 52
cost_small g l lawful among =
    sum_below (slack_of (kind_of g l.from)) l.delay (error_of g (platform_of g l.from) (platform_of g l.to)) (link_bound_small g l lawful among)

-- the hop of a link
pub hop_is : (g : Graph) (hops : List Hop) (w : ℕ) → hops ≡ map (hop_of g) g.links → w < length g.links → hop_at hops w ≡ hop_of g (get_or g.links w no_link)
hop_is g hops w are less = ap (λ (hs : List Hop). hop_at hs w) are ∙ get_or-map (hop_of g) g.links w no_link no_hop less

pub hops_len : (g : Graph) (hops : List Hop) → hops ≡ map (hop_of g) g.links → length hops ≡ length g.links
hops_len g hops are = ap length are ∙ length-map g.links (hop_of g)

-- the cost of each hop is small
pub cheap : (g : Graph) (hops : List Hop) (w : ℕ) → IsLawful g → hops ≡ map (hop_of g) g.links → w < length hops → (hop_at hops w).cost < 2 ^ 52
cheap g hops w lawful are less =
    let len : length hops ≡ length g.links = hops_len g hops are in
    let below : w < length g.links = omega arith in
    subst (λ (h : Hop). h.cost < 2 ^ 52) (sym (hop_is g hops w are below)) (cost_small g (get_or g.links w no_link) lawful (in_get g.links w no_link below))
