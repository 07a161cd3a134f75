-- What is left of the linked platforms of a run.
use Rattle.std.specs.Prelude.{◌≡◌, ◌≤◌, ◌++◌, ℕ, List, Option, Some, slice_get}
use Rattle.pt_tags.specs.declared.message.Message.{Message}
use Rattle.pt_types.specs.declared.graph.Graph.{Graph}
use Rattle.pt_types.specs.declared.graph.Link.{Link}
use Rattle.pt_types.specs.declared.rows.Row.{Row}
use Rattle.pt_semantics.specs.Closing.{on_link}
use Rattle.pt_semantics.specs.Linked.{all_sent}
use Rattle.pt_offsets.specs.Plans.{Parts}
use Rattle.pt_turn.specs.Platforms.{PlatformView, messages_of}
use Rattle.pt_links.specs.Ends.{LinkId, SentBy, TakenBy}
use Rattle.pt_pool.specs.LinkedPlatform.{IsOfRun, LinkedPlatformView}

-- each has the number of its place
abbrev pub AreByNumber : List LinkedPlatformView → Type 0
AreByNumber linked_platforms = (i : ℕ) (s : LinkedPlatformView) → slice_get linked_platforms i ≡ Some s → s.platform.number ≡ i

abbrev pub platform_in : LinkedPlatformView → PlatformView
platform_in s = s.platform

abbrev pub readings_in : LinkedPlatformView → Option (List ℕ)
readings_in s = s.readings

-- a linked platform of a run, whose clock has these readings fixed ahead
pub record IsLinkedPlatform (plan : Option Parts) (rows : ℕ → List Row) (link : ℕ → LinkId) (began : ℕ → Option (List ℕ)) (fixed : ℕ → Option (ℕ → ℕ)) (s : LinkedPlatformView) : Type 0 where
  pub ahead : Option (ℕ → ℕ)
  pub of_run : IsOfRun plan rows link (began s.platform.number) (fixed s.platform.number) ahead s.readings s.platform s.outs s.ins s.marked

-- from the k-th on, these are linked platforms of a run
abbrev pub AreLinkedPlatforms : Option Parts → (ℕ → List Row) → (ℕ → LinkId) → (ℕ → Option (List ℕ)) → (ℕ → Option (ℕ → ℕ)) → ℕ → List LinkedPlatformView → Type 0
AreLinkedPlatforms plan rows link began fixed k linked_platforms = (i : ℕ) (s : LinkedPlatformView) → k ≤ i → slice_get linked_platforms i ≡ Some s → IsLinkedPlatform plan rows link began fixed s

-- the end of a link of the run, which sent what the linked platform's platform sent on it
pub record IsSentBy (link : ℕ → LinkId) (s : LinkedPlatformView) (l : ℕ) (e : SentBy) : Type 0 where
  pub queue : e.link ≡ link l
  pub sent : e.sent ≡ all_sent l s.platform.turns

-- the end of a link of the run, which took what the linked platform's platform took from it, and perhaps more after it
pub record IsTakenBy (link : ℕ → LinkId) (s : LinkedPlatformView) (l : ℕ) (e : TakenBy) : Type 0 where
  pub queue : e.link ≡ link l
  pub rest : List Message
  pub taken : e.taken ≡ on_link l (messages_of s.platform.turns) ++ rest

-- the ends of the links of the linked platforms from the k-th on, on one side, are in the places of their links
abbrev pub AreReturned : {X : Type 0} → Graph → (Graph → Link → ℕ) → (LinkedPlatformView → ℕ → X → Type 0) → ℕ → List LinkedPlatformView → List (Option X) → Type 0
AreReturned {X} g side is k linked_platforms places = (l : ℕ) (link : Link) (i : ℕ) (s : LinkedPlatformView) → slice_get g.links l ≡ Some link → k ≤ i → slice_get linked_platforms i ≡ Some s → side g link ≡ s.platform.number → (e : X) × (slice_get places l ≡ Some (Some e)) × is s l e

-- what was sent at one end of a link is what was taken at the other, and then what is left
abbrev pub LinkIsSettled : SentBy → TakenBy → Type 0
LinkIsSettled o i = (left : List Message) × (o.sent ≡ i.taken ++ left)

-- the two ends in each place are those of one link
abbrev pub AreOfOneLink : List (Option SentBy) → List (Option TakenBy) → Type 0
AreOfOneLink outs ins = (l : ℕ) (o : SentBy) (i : TakenBy) → slice_get outs l ≡ Some (Some o) → slice_get ins l ≡ Some (Some i) → i.link ≡ o.link

-- the two ends in each place from the k-th on are settled
abbrev pub AreSettled : ℕ → List (Option SentBy) → List (Option TakenBy) → Type 0
AreSettled k outs ins = (l : ℕ) (o : SentBy) (i : TakenBy) → k ≤ l → slice_get outs l ≡ Some (Some o) → slice_get ins l ≡ Some (Some i) → LinkIsSettled o i
