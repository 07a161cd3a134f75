-- New links, and clocks before a run.
use Rattle.std.specs.Prelude.{◌≡◌, ◌<◌, [], ℕ, List, Option, Some, length, slice_get}
use Rattle.pt_types.specs.declared.graph.Graph.{Graph}
use Rattle.pt_types.specs.declared.graph.Link.{Link}
use Rattle.pt_io.specs.Clocks.{ClockView}
use Rattle.pt_offsets.specs.Plans.{Parts}
use Rattle.pt_links.specs.declared.rule.Bounds.{Bounds}
use Rattle.pt_links.specs.Ends.{LinkId, SentBy, TakenBy}
use Rattle.pt_pool.specs.Ends.{limits_at}

-- the two ends of one link with these bounds, on which nothing was sent or taken
pub record IsNewLink (bounds : Option Bounds) (o : SentBy) (i : TakenBy) : Type 0 where
  pub one : i.link ≡ o.link
  pub limits : (o.limits ≡ bounds) × (i.limits ≡ bounds)
  pub nothing : (o.sent ≡ []) × (i.taken ≡ [])

-- the ends of a new link are in the places of this number
abbrev pub IsOpenAt : Parts → List (Option SentBy) → List (Option TakenBy) → ℕ → Type 0
IsOpenAt plan outs ins l = (o : SentBy) × (i : TakenBy) × (slice_get outs l ≡ Some (Some o)) × (slice_get ins l ≡ Some (Some i)) × IsNewLink (limits_at plan l) o i

-- there are n places on each side: for each of the first n links of a plan's graph the ends of a new link
pub record AreOpenEnds (plan : Parts) (n : ℕ) (outs : List (Option SentBy)) (ins : List (Option TakenBy)) : Type 0 where
  pub counts : (length outs ≡ n) × (length ins ≡ n)
  pub each : (l : ℕ) → l < n → IsOpenAt plan outs ins l

-- for each of the first n links the platform on this side of it
pub record AreOwners (g : Graph) (side : Graph → Link → ℕ) (n : ℕ) (owners : List ℕ) : Type 0 where
  pub count : length owners ≡ n
  pub each : (l : ℕ) (link : Link) → l < n → slice_get g.links l ≡ Some link → slice_get owners l ≡ Some (side g link)

-- the link of each end is the one of its place
abbrev pub AreNamedBy : (ℕ → LinkId) → List (Option SentBy) → Type 0
AreNamedBy link outs = (l : ℕ) (o : SentBy) → slice_get outs l ≡ Some (Some o) → o.link ≡ link l

-- each clock has given these readings, and has these fixed ahead
abbrev pub AreBegun : (ℕ → Option (List ℕ)) → (ℕ → Option (ℕ → ℕ)) → List ClockView → Type 0
AreBegun began fixed clocks = (i : ℕ) (c : ClockView) → slice_get clocks i ≡ Some c → (began i ≡ c.readings) × (fixed i ≡ c.ahead)
