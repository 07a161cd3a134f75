-- What a search for bits says of the tags that they stand for.
use Rattle.std.proofs.Common.{◌≡◌, ℕ, ◌+◌, ◌*◌, ◌/◌, ◌%◌, ◌<◌, ◌≤◌, ◌⊎◌, List, Option, Some, None, length, sym, ap, ◌∙◌, inl, inr, ⊎_elim, arith}
use Rattle.std.proofs.lemmas.List.{get_or_past}
use Rattle.pt_tags.specs.declared.tag.Tag.{Tag}
use Rattle.pt_types.specs.declared.graph.Unit.{Unit}
use Rattle.pt_causality.specs.Before.{bit_of}
use Rattle.pt_queue.specs.declared.waiting.Waiting.{Waiting}
use Rattle.pt_queue.specs.Tagged.{IsFirstTag, IsOnlyTag, tag_in}
use Rattle.pt_queue.specs.Marks.{AreMarks, IsFirstMark, IsWaitingAt, one_if, unit_with}
use Rattle.pt_queue.proofs.ByUnit.{has_place, in_place, tag_with, with_place}

below_or : (n m : ℕ) → (n < m) ⊎ (m ≤ n)
below_or n m = grind arith

module _ (tags : List (Option Tag)) (marks : List ℕ) (are : AreMarks tags marks) where
  -- the bit of a unit with a tag is set
  tagged : (u : Unit) (t : Tag) → tag_in tags u ≡ Some t → bit_of marks (8 * u.actor + u.group) ≡ 1
  tagged u t e = are (8 * u.actor + u.group) ∙ ap one_if (sym (in_place tags u (has_place tags u t e)) ∙ e)

  pub place_few : (p : ℕ) → bit_of marks p ≡ 1 → p < length tags
  place_few p one = ⊎_elim
      (λ (l : p < length tags). l)
      (λ (m : length tags ≤ p). let none : bit_of marks p ≡ 0 = are p ∙ ap one_if (get_or_past tags p None m) in absurd (omega (arith, none, one)))
      (below_or p (length tags))

  pub first_none : (n : ℕ) → IsFirstMark marks n None → IsFirstTag tags n None
  first_none n none u t e = ⊎_elim
      (λ (l : 8 * u.actor + u.group < n). l)
      (λ (m : n ≤ 8 * u.actor + u.group). let set = tagged u t e in let clear = none (8 * u.actor + u.group) m in absurd (omega (arith, set, clear)))
      (below_or (8 * u.actor + u.group) n)

  pub first_some : (n p : ℕ) (o : Option Waiting) → IsFirstMark marks n (Some p) → IsWaitingAt tags p o → IsFirstTag tags n o
  first_some n p None first is = let one : bit_of marks p ≡ 1 = first.1 in let none : bit_of marks p ≡ 0 = are p ∙ ap one_if is in absurd (omega (arith, none, one))
  first_some n p (Some w) first is =
      let actor : w.unit.actor ≡ p / 8 = ap (λ (x : Unit). x.actor) is.0 in
      let group : w.unit.group ≡ p % 8 = ap (λ (x : Unit). x.group) is.0 in
      let here : 8 * w.unit.actor + w.unit.group ≡ p = omega (arith, actor, group) in
      let le : n ≤ p = first.0 in (
        ap (tag_in tags) is.0 ∙ tag_with tags p ∙ is.1,
        omega (arith, here, le),
        λ u t e. ⊎_elim
            (λ (l : 8 * u.actor + u.group < n). inl l)
            (λ (m : n ≤ 8 * u.actor + u.group). inr (⊎_elim
            (λ (k : 8 * u.actor + u.group < p). let set = tagged u t e in let clear = first.2 (8 * u.actor + u.group) m k in absurd (omega (arith, set, clear)))
            (λ (k : p ≤ 8 * u.actor + u.group). omega (arith, here, k))
            (below_or (8 * u.actor + u.group) p)))
            (below_or (8 * u.actor + u.group) n),
      )

  pub only_tagged : (u : Unit) → u.group < 8 → ((n : ℕ) → bit_of marks n ≡ 1 → n ≡ 8 * u.actor + u.group) → IsOnlyTag tags u
  only_tagged u few only x t e = sym (with_place x (has_place tags x t e)) ∙ ap unit_with (only (8 * x.actor + x.group) (tagged x t e)) ∙ with_place u few
