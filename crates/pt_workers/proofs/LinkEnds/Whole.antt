-- Once all links are settled, what each platform took is a front of what the others sent it.
use Rattle.std.proofs.Common.{◌≡◌, ℕ, ◌<◌, List, [], ◌∷◌, ◌++◌, Some, Option, length, map, sym, ap, ◌∙◌, arith, get_or}
use Rattle.std.specs.Prelude.{option_map, slice_get, unwrap_or}
use Rattle.std.proofs.lemmas.Option.{slice_get_within}
use Rattle.pt_types.specs.declared.graph.Graph.{Graph}
use Rattle.pt_types.specs.declared.graph.Link.{Link}
use Rattle.pt_types.specs.Lookups.{platform_of}
use Rattle.pt_semantics.specs.Linked.{AreMatched, all_sent, all_taken}
use Rattle.pt_semantics.specs.Turn.{Turn}
use Rattle.pt_semantics.specs.Wired.{IsWired}
use Rattle.pt_turn.specs.All.{histories_of}
use Rattle.pt_turn.specs.Platforms.{PlatformView}
use Rattle.pt_links.specs.Ends.{LinkId, SentBy, TakenBy}
use Rattle.pt_pool.specs.Ends.{leaves, receiving_platform}
use Rattle.pt_pool.specs.LinkedPlatform.{LinkedPlatformView}
use Rattle.pt_pool.proofs.Lanes.{get_here, get_map, same_some}
use Rattle.pt_workers.specs.LinkEnds.Settled.{AreByNumber, AreOfOneLink, AreReturned, AreSettled, IsSentBy, IsTakenBy, platform_in}
use Rattle.pt_workers.proofs.LinkEnds.Matching.{matched_at}

module _ (g : Graph) (link : ℕ → LinkId) (linked_platforms : List LinkedPlatformView) (outs : List (Option SentBy)) (ins : List (Option TakenBy)) (order : AreByNumber linked_platforms) (count : length linked_platforms ≡ length g.platforms) (wired : IsWired g)
    (sent : AreReturned g leaves (IsSentBy link) 0 linked_platforms outs) (taken : AreReturned g receiving_platform (IsTakenBy link) 0 linked_platforms ins) where
  history : (i : ℕ) (s : LinkedPlatformView) → slice_get linked_platforms i ≡ Some s → histories_of (map platform_in linked_platforms) i ≡ s.platform.turns
  history i s at = ap (λ (z : Option PlatformView). unwrap_or (option_map (λ (v : PlatformView). v.turns) z) []) (get_map platform_in linked_platforms i s at)

  -- the linked platform of a platform
  there : (i : ℕ) → i < length g.platforms → (s : LinkedPlatformView) × (slice_get linked_platforms i ≡ Some s)
  there i lt = some_of linked_platforms i (omega (arith, lt, count))
    where
      some_of : (xs : List LinkedPlatformView) (k : ℕ) → k < length xs → (s : LinkedPlatformView) × (slice_get xs k ≡ Some s)
      some_of [] k lt = absurd (omega (arith, lt))
      some_of (x ∷ xs) k lt = (get_or (x ∷ xs) k x, get_here (x ∷ xs) k x lt)

  pub of_one_link : length outs ≡ length g.links → AreOfOneLink outs ins
  of_one_link many l o i at_o at_i =
      let lt = slice_get_within outs l (Some o) at_o in
      let k = link_at g.links l (omega (arith, lt, many)) in
      let s = there (platform_of g k.0.from) (wired.homes k.0.from) in
      let t = there (platform_of g k.0.to) (wired.homes k.0.to) in
      let a = sent l k.0 (platform_of g k.0.from) s.0 k.1 (omega arith) s.1 (sym (order (platform_of g k.0.from) s.0 s.1)) in
      let b = taken l k.0 (platform_of g k.0.to) t.0 k.1 (omega arith) t.1 (sym (order (platform_of g k.0.to) t.0 t.1)) in
      let o_is : o ≡ a.0 = same_some o a.0 (same_some (Some o) (Some a.0) (sym at_o ∙ a.1)) in
      let i_is : i ≡ b.0 = same_some i b.0 (same_some (Some i) (Some b.0) (sym at_i ∙ b.1)) in
      ap (λ (z : TakenBy). z.link) i_is ∙ b.2.queue ∙ sym a.2.queue ∙ ap (λ (z : SentBy). z.link) (sym o_is)
    where
      link_at : (xs : List Link) (k : ℕ) → k < length xs → (x : Link) × (slice_get xs k ≡ Some x)
      link_at [] k lt = absurd (omega (arith, lt))
      link_at (x ∷ xs) k lt = (get_or (x ∷ xs) k x, get_here (x ∷ xs) k x lt)

  pub matched : AreSettled 0 outs ins → AreMatched g (histories_of (map platform_in linked_platforms))
  matched settled l k at =
      let s = there (platform_of g k.from) (wired.homes k.from) in
      let t = there (platform_of g k.to) (wired.homes k.to) in
      let a = sent l k (platform_of g k.from) s.0 at (omega arith) s.1 (sym (order (platform_of g k.from) s.0 s.1)) in
      let b = taken l k (platform_of g k.to) t.0 at (omega arith) t.1 (sym (order (platform_of g k.to) t.0 t.1)) in
      let whole = settled l a.0 b.0 (omega arith) a.1 b.1 in
      let m = matched_at l s.0.platform.turns t.0.platform.turns a.0.sent b.0.taken b.2.rest whole.0 a.2.sent b.2.taken whole.1 in
      (m.0, ap (all_sent l) (history (platform_of g k.from) s.0 s.1) ∙ m.1 ∙ ap (λ (ts : List Turn). all_taken l ts ++ m.0) (sym (history (platform_of g k.to) t.0 t.1)))
