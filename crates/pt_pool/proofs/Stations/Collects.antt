-- Results are collected one after another.
use Rattle.std.proofs.Common.{◌≡◌, ℕ, ◌+◌, List, [], ◌∷◌, ◌++◌, Some, length, refl, sym, ap, subst, ◌∙◌, ⊎_elim, inl, inr, arith, append-nil, append_assoc, length-append}
use Rattle.pt_types.specs.declared.graph.Graph.{Graph}
use Rattle.pt_types.specs.declared.firing.Done.{Done}
use Rattle.pt_turn.specs.Posts.Posted.{AreDone}
use Rattle.pt_board.specs.Keepers.{HasCollected, KeeperView, SawNoneDone}
use Rattle.pt_pool.specs.Stations.Stations.{Collects, HaveCollected}

-- what no collecting changes
pub record Same (old new : KeeperView) : Type 0 where
  pub graph : new.knows.graph ≡ old.knows.graph
  pub table : new.table ≡ old.table
  pub next : new.next ≡ old.next

pub collects_one : (a b c : KeeperView) (ds : List Done) (d : Done) → Collects a ds b → HasCollected b c d → Collects a (ds ++ d ∷ []) c
collects_one a b c [] d e h = (c, subst (λ (v : KeeperView). HasCollected v c d) e h, refl)
collects_one a b c (x ∷ ds) d (mid, first, rest) h = (mid, first, collects_one mid b c ds d rest h)

pub collects_same : (a b : KeeperView) (ds : List Done) → Collects a ds b → Same a b
collects_same a b [] e = record { graph = ap (λ (v : KeeperView). v.knows.graph) e; table = ap (λ (v : KeeperView). v.table) e; next = ap (λ (v : KeeperView). v.next) e }
collects_same a b (d ∷ ds) (mid, first, rest) = let s = collects_same mid b ds rest in record { graph = s.graph ∙ first.graph; table = s.table ∙ first.table; next = s.next ∙ first.next }

pub collects_done : (g : Graph) (a b : KeeperView) (ds : List Done) → Collects a ds b → a.knows.graph ≡ Some g → AreDone g ds
collects_done g a b [] h is = tt
collects_done g a b (d ∷ ds) (mid, first, rest) is = (first.done g is, collects_done g mid b ds rest (first.graph ∙ is))

pub have_same : (a b : KeeperView) (ds : List Done) → HaveCollected a b ds → Same a b
have_same a b ds h =
    let s = collects_same a h.after ds h.each in
    ⊎_elim
    (λ (e : (b ≡ h.after) × (length ds ≡ 32)). subst (Same a) (sym e.0) s)
    (λ (n : SawNoneDone h.after b). record { graph = n.graph ∙ s.graph; table = n.table ∙ s.table; next = n.next ∙ s.next })
    h.until

pub have_done : (g : Graph) (a b : KeeperView) (ds : List Done) → HaveCollected a b ds → a.knows.graph ≡ Some g → AreDone g ds
have_done g a b ds h is = collects_done g a h.after ds h.each is

pub done_both : (g : Graph) (xs ys : List Done) → AreDone g xs → AreDone g ys → AreDone g (xs ++ ys)
done_both g [] ys h k = k
done_both g (x ∷ xs) ys h k = (h.0, done_both g xs ys h.1 k)

-- k results were collected so far
pub record CollectsOn (k : ℕ) (old now : KeeperView) (before after : List Done) : Type 0 where
  pub results : List Done
  pub each : Collects old results now
  pub added : after ≡ before ++ results
  pub count : length results ≡ k

pub collects_nothing : (v : KeeperView) (before : List Done) → CollectsOn 0 v v before before
collects_nothing v before = record { results = []; each = refl; added = sym (append-nil before); count = refl }

module _ (k : ℕ) (old mid : KeeperView) (before between : List Done) (h : CollectsOn k old mid before between) where
  pub collects_next : (new : KeeperView) (after : List Done) (d : Done) → HasCollected mid new d → after ≡ between ++ d ∷ [] → CollectsOn (k + 1) old new before after
  collects_next new after d got is =
      let n = length-append h.results (d ∷ []) in record {
        results = h.results ++ d ∷ [];
        each = collects_one old mid new h.results d h.each got;
        added = is ∙ ap (λ (z : List Done). z ++ d ∷ []) h.added ∙ append_assoc before h.results (d ∷ []);
        count = omega (arith, n, h.count);
      }

  pub collected_none : (new : KeeperView) → SawNoneDone mid new → (ds : List Done) × HaveCollected old new ds × (between ≡ before ++ ds)
  collected_none new saw = (h.results, record { after = mid; each = h.each; until = inr saw }, h.added)

  pub collected_many : k ≡ 32 → (ds : List Done) × HaveCollected old mid ds × (between ≡ before ++ ds)
  collected_many all = (h.results, record { after = mid; each = h.each; until = inl (refl, h.count ∙ all) }, h.added)
