-- One linked platform more is taken apart.
use Rattle.std.proofs.Common.{◌≡◌, ℕ, ◌≤◌, List, [], ◌∷◌, ◌++◌, Some, Option, length, refl, sym, ap, subst, ◌∙◌, ⊎_elim, arith}
use Rattle.std.specs.Prelude.{slice_get}
use Rattle.std.proofs.lemmas.Bool.{cases_eq}
use Rattle.pt_types.specs.declared.graph.Graph.{Graph}
use Rattle.pt_types.specs.declared.rows.Row.{Row}
use Rattle.pt_offsets.specs.Plans.{Parts}
use Rattle.pt_turn.specs.Platforms.{PlatformView}
use Rattle.pt_links.specs.Ends.{LinkId, SentBy, TakenBy}
use Rattle.pt_pool.specs.Ends.{end_in, end_out, leaves, receiving_platform}
use Rattle.pt_pool.specs.LinkedPlatform.{IsOfRun, LinkedPlatformView, plan_graph}
use Rattle.pt_pool.proofs.Lanes.{get_map, same_some}
use Rattle.pt_workers.specs.LinkEnds.Places.{AreDistinct, AreLaid, NumbersAreBelow}
use Rattle.pt_workers.specs.LinkEnds.Settled.{AreByNumber, AreReturned, AreLinkedPlatforms, IsSentBy, IsLinkedPlatform, IsTakenBy}
use Rattle.pt_workers.proofs.LinkEnds.Returning.{ends_distinct, ends_within, last_at, one_less, returned_more}

module _ (plan : Option Parts) (rows : ℕ → List Row) (link : ℕ → LinkId) (began : ℕ → Option (List ℕ)) (fixed : ℕ → Option (ℕ → ℕ)) where
  pub linked_is : (s : LinkedPlatformView) (ahead : Option (ℕ → ℕ)) (p : PlatformView) (reported : Option (List ℕ)) (outs : List (ℕ × SentBy)) (ins : List (ℕ × TakenBy))
      → IsOfRun plan rows link (began p.number) (fixed p.number) ahead reported p outs ins s.marked → s ≡ record { platform = p; readings = reported; outs = outs; ins = ins; marked = s.marked } → IsLinkedPlatform plan rows link began fixed s
  linked_is s ahead p reported outs ins kept same = subst (IsLinkedPlatform plan rows link began fixed) (sym same) (record { ahead = ahead; of_run = kept })

  module _ (s : LinkedPlatformView) (st : IsLinkedPlatform plan rows link began fixed s) where
    graph_is : plan_graph plan ≡ s.platform.plan.graph
    graph_is = ap plan_graph st.of_run.plan_is

    pub outs_within : (m : ℕ) (outs : List (ℕ × SentBy)) → s.outs ≡ outs → length (plan_graph plan).links ≤ m → NumbersAreBelow m outs
    outs_within m outs is le = subst (λ (z : List (ℕ × SentBy)). NumbersAreBelow m z) is (ends_within end_out (λ p. refl) s.platform.plan leaves s.platform.number s.outs st.of_run.fits.outs_are m (subst (λ (g : Graph). length g.links ≤ m) graph_is le))

    pub ins_within : (m : ℕ) (ins : List (ℕ × TakenBy)) → s.ins ≡ ins → length (plan_graph plan).links ≤ m → NumbersAreBelow m ins
    ins_within m ins is le = subst (λ (z : List (ℕ × TakenBy)). NumbersAreBelow m z) is (ends_within end_in (λ p. refl) s.platform.plan receiving_platform s.platform.number s.ins st.of_run.fits.ins_are m (subst (λ (g : Graph). length g.links ≤ m) graph_is le))

    pub outs_distinct : (outs : List (ℕ × SentBy)) → s.outs ≡ outs → AreDistinct outs
    outs_distinct outs is = subst (λ (z : List (ℕ × SentBy)). AreDistinct z) is (ends_distinct end_out (λ p. refl) s.platform.plan leaves s.platform.number s.outs st.of_run.fits.outs_are)

    pub ins_distinct : (ins : List (ℕ × TakenBy)) → s.ins ≡ ins → AreDistinct ins
    ins_distinct ins is = subst (λ (z : List (ℕ × TakenBy)). AreDistinct z) is (ends_distinct end_in (λ p. refl) s.platform.plan receiving_platform s.platform.number s.ins st.of_run.fits.ins_are)

    module _ (xs ys rest orig : List LinkedPlatformView) (more : ys ≡ xs ++ s ∷ []) (front : orig ≡ ys ++ rest) (order : AreByNumber orig) where
      out_is : (i : ℕ) (p : ℕ × SentBy) → slice_get s.outs i ≡ Some p → IsSentBy link s p.0 p.1
      out_is i p at = record { queue = st.of_run.outs_named i (end_out p) (get_map end_out s.outs i p at); sent = st.of_run.fits.sent i p at }

      in_is : (i : ℕ) (p : ℕ × TakenBy) → slice_get s.ins i ≡ Some p → IsTakenBy link s p.0 p.1
      in_is i p at = let b = st.of_run.fits.begins i p at in record { queue = st.of_run.ins_named i (end_in p) (get_map end_in s.ins i p at); rest = b.0; taken = b.1 }

      pub outs_more : (outs : List (ℕ × SentBy)) → s.outs ≡ outs → (old now : List (Option SentBy)) → AreLaid 0 outs now → ((l : ℕ) → ((i : ℕ) (e : ℕ × SentBy) → slice_get outs i ≡ Some e → e.0 ≡ l → ⊥) → slice_get now l ≡ slice_get old l)
          → AreReturned (plan_graph plan) leaves (IsSentBy link) (length ys) orig old → AreReturned (plan_graph plan) leaves (IsSentBy link) (length xs) orig now
      outs_more outs is old now laid others before = subst (λ (g : Graph). AreReturned g leaves (IsSentBy link) (length xs) orig now) (sym graph_is)
          (returned_more end_out (λ p. refl) s.platform.plan leaves s.platform.number s.outs st.of_run.fits.outs_are (IsSentBy link) xs ys rest orig s more front order refl out_is old now
          (subst (λ (z : List (ℕ × SentBy)). AreLaid 0 z now) (sym is) laid)
          (λ l none. others l (λ i e at q. none i e (ap (λ (z : List (ℕ × SentBy)). slice_get z i) is ∙ at) q))
          (subst (λ (g : Graph). AreReturned g leaves (IsSentBy link) (length ys) orig old) graph_is before))

      pub ins_more : (ins : List (ℕ × TakenBy)) → s.ins ≡ ins → (old now : List (Option TakenBy)) → AreLaid 0 ins now → ((l : ℕ) → ((i : ℕ) (e : ℕ × TakenBy) → slice_get ins i ≡ Some e → e.0 ≡ l → ⊥) → slice_get now l ≡ slice_get old l)
          → AreReturned (plan_graph plan) receiving_platform (IsTakenBy link) (length ys) orig old → AreReturned (plan_graph plan) receiving_platform (IsTakenBy link) (length xs) orig now
      ins_more ins is old now laid others before = subst (λ (g : Graph). AreReturned g receiving_platform (IsTakenBy link) (length xs) orig now) (sym graph_is)
          (returned_more end_in (λ p. refl) s.platform.plan receiving_platform s.platform.number s.ins st.of_run.fits.ins_are (IsTakenBy link) xs ys rest orig s more front order refl in_is old now
          (subst (λ (z : List (ℕ × TakenBy)). AreLaid 0 z now) (sym is) laid)
          (λ l none. others l (λ i e at q. none i e (ap (λ (z : List (ℕ × TakenBy)). slice_get z i) is ∙ at) q))
          (subst (λ (g : Graph). AreReturned g receiving_platform (IsTakenBy link) (length ys) orig old) graph_is before))

      pub linked_more : AreLinkedPlatforms plan rows link began fixed (length ys) orig → AreLinkedPlatforms plan rows link began fixed (length xs) orig
      linked_more before i t le at = ⊎_elim
          (λ (q : i ≡ length xs). subst (IsLinkedPlatform plan rows link began fixed) (same_some s t (sym (last_at xs ys rest orig s more front) ∙ ap (slice_get orig) (sym q) ∙ at)) st)
          (λ (ne : i ≡ length xs → ⊥). let len = one_less xs ys rest orig s more front in before i t (omega (arith, len, le, ne)) at)
          (cases_eq i (length xs))
