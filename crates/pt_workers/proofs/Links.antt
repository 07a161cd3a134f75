-- One link more is open.
use Rattle.std.proofs.Common.{◌≡◌, ℕ, ◌+◌, List, [], ◌∷◌, ◌++◌, Some, Option, refl, sym, ap, subst, ◌∙◌, ⊎_elim, arith, length-append}
use Rattle.std.specs.Prelude.{option_map, slice_get}
use Rattle.std.proofs.lemmas.Bool.{cases_eq}
use Rattle.pt_types.specs.declared.graph.Graph.{Graph}
use Rattle.pt_types.specs.declared.graph.Link.{Link}
use Rattle.pt_offsets.specs.Plans.{Parts}
use Rattle.pt_links.specs.declared.rule.Bounds.{Bounds}
use Rattle.pt_links.specs.Ends.{SentBy, TakenBy}
use Rattle.pt_pool.specs.Ends.{limits_at, limits_of}
use Rattle.pt_pool.proofs.Lanes.{same_some}
use Rattle.pt_workers.proofs.LinkEnds.Lists.{get_front, get_last}
use Rattle.pt_workers.specs.Opened.{AreOpenEnds, AreOwners, IsNewLink, IsOpenAt}

pub open_none : (plan : Parts) → AreOpenEnds plan 0 [] []
open_none plan = record { counts = (refl, refl); each = λ l lt. absurd (omega (arith, lt)) }

pub open_more : (plan : Parts) (k : ℕ) (outs : List (Option SentBy)) (ins : List (Option TakenBy)) (o : SentBy) (i : TakenBy) (link : Link) (bounds : Bounds) → AreOpenEnds plan k outs ins → slice_get plan.graph.links k ≡ Some link → bounds ≡ limits_of plan link
    → i.link ≡ o.link → (o.limits ≡ Some bounds) × (i.limits ≡ Some bounds) → (o.sent ≡ []) × (i.taken ≡ []) → AreOpenEnds plan (k + 1) (outs ++ Some o ∷ []) (ins ++ Some i ∷ [])
open_more plan k outs ins o i link bounds h at is one limits nothing =
    let a = length-append outs (Some o ∷ []) in
    let b = length-append ins (Some i ∷ []) in
    let here : Some bounds ≡ limits_at plan k = ap Some is ∙ sym (ap (option_map (limits_of plan)) at) in
    let new : IsNewLink (limits_at plan k) o i = record { one = one; limits = (limits.0 ∙ here, limits.1 ∙ here); nothing = nothing } in
    record {
      counts = (omega (arith, a, h.counts.0), omega (arith, b, h.counts.1));
      each = λ l lt. ⊎_elim
          (λ (q : l ≡ k). subst (IsOpenAt plan (outs ++ Some o ∷ []) (ins ++ Some i ∷ [])) (sym q)
          (o, i, subst (λ (n : ℕ). slice_get (outs ++ Some o ∷ []) n ≡ Some (Some o)) h.counts.0 (get_last outs (Some o)), subst (λ (n : ℕ). slice_get (ins ++ Some i ∷ []) n ≡ Some (Some i)) h.counts.1 (get_last ins (Some i)), new))
          (λ (ne : l ≡ k → ⊥). let w = h.each l (omega (arith, lt, ne)) in (w.0, w.1, get_front outs (Some o ∷ []) l (Some w.0) w.2, get_front ins (Some i ∷ []) l (Some w.1) w.3, w.4))
          (cases_eq l k);
    }

pub owners_none : (g : Graph) (side : Graph → Link → ℕ) → AreOwners g side 0 []
owners_none g side = record { count = refl; each = λ l link lt. absurd (omega (arith, lt)) }

pub owners_more : (g : Graph) (side : Graph → Link → ℕ) (k n : ℕ) (owners : List ℕ) (link : Link) → AreOwners g side k owners → slice_get g.links k ≡ Some link → n ≡ side g link → AreOwners g side (k + 1) (owners ++ n ∷ [])
owners_more g side k n owners link h at is =
    let a = length-append owners (n ∷ []) in
    record {
      count = omega (arith, a, h.count);
      each = λ l other lt there. ⊎_elim
          (λ (q : l ≡ k).
          let same : link ≡ other = same_some link other (sym at ∙ ap (slice_get g.links) (sym q) ∙ there) in
          ap (slice_get (owners ++ n ∷ [])) (q ∙ sym h.count) ∙ get_last owners n ∙ ap Some (is ∙ ap (side g) same))
          (λ (ne : l ≡ k → ⊥). get_front owners (n ∷ []) l (side g other) (h.each l other (omega (arith, lt, ne)) there))
          (cases_eq l k);
    }
