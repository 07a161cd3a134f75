-- A graph with other slacks has the same paths, and the same bounds but at receivers.
use Rattle.std.proofs.Common.{◌≡◌, ℕ, zero, suc, ◌+◌, ◌==◌, true, false, List, [], ◌∷◌, Option, Some, None, get_or, map, refl, sym, ap, ap₂, subst, ◌∙◌, arith, ◌⊎◌, inl, inr, ⊎_elim, slice_get}
use Rattle.std.proofs.lemmas.Bool.{cases_Bool, eqb-true, eq-eqb}
use Rattle.pt_tags.specs.declared.tag.Delay.{Delay}
use Rattle.pt_types.specs.declared.graph.Graph.{Graph}
use Rattle.pt_types.specs.declared.graph.Actor.{Actor}
use Rattle.pt_types.specs.declared.graph.Link.{Link}
use Rattle.pt_types.specs.declared.graph.Wire.{Wire}
use Rattle.pt_types.specs.declared.graph.Unit.{Unit}
use Rattle.pt_types.specs.declared.kind.Kind.{Kind}
use Rattle.pt_types.specs.declared.kind.Kind.TheVariants.{Actuator, Receive, Send, Sensor}
use Rattle.pt_types.specs.Groups.{input_group, no_actor, output_group}
use Rattle.pt_types.specs.Lawful.{IsLawful}
use Rattle.pt_types.specs.Lookups.{kind_of, platform_of, slack_of}
use Rattle.pt_types.specs.Ports.{when}
use Rattle.pt_types.proofs.LawfulLinks.{link_at, links_once}
use Rattle.pt_semantics.specs.Bounds.{bound_by, bound_of, error_of, link_bound}
use Rattle.pt_semantics.specs.Edges.{Edge, of_wire, weight, wires}
use Rattle.pt_semantics.specs.Lists.{IsIn}
use Rattle.pt_semantics.specs.Paths.{Goes}
use Rattle.pt_semantics.specs.Units.{at_input, at_output, target}
use Rattle.pt_semantics.proofs.Lookups.{first_of_at, first_of_found, none_some, same_some, when_found}
use Rattle.pt_semantics.proofs.Words.{when-false}
use Rattle.pt_offsets.specs.Margins.{unit_at}
use Rattle.pt_slacks.specs.Hops.{cost_of}
use Rattle.pt_slacks.specs.Slacks.{actors_with, with_slack, with_slacks}

same_output : (n : ℕ) (k : Kind) (p : ℕ) → output_group (with_slack n k) p ≡ output_group k p
same_output n (Send own) p = refl
same_output n (Actuator own) p = refl
same_output n _ p = refl

same_input : (n : ℕ) (k : Kind) (p : ℕ) → input_group (with_slack n k) p ≡ input_group k p
same_input n (Send own) p = refl
same_input n (Actuator own) p = refl
same_input n _ p = refl

same_weight : (n : ℕ) (k : Kind) (p : ℕ) → weight (with_slack n k) p ≡ weight k p
same_weight n (Send own) p = refl
same_weight n (Actuator own) p = refl
same_weight n _ p = refl

kind_in : (s : ℕ → ℕ) (i a : ℕ) (xs : List Actor) → (get_or (actors_with s i xs) a no_actor).kind ≡ with_slack (s (i + a)) (get_or xs a no_actor).kind
kind_in s i a [] = refl
kind_in s i zero (x ∷ xs) = let same : i ≡ i + 0 = omega arith in ap (λ n. with_slack (s n) x.kind) same
kind_in s i (suc a) (x ∷ xs) = let same : suc i + a ≡ i + suc a = omega arith in kind_in s (suc i) a xs ∙ ap (λ n. with_slack (s n) (get_or xs a no_actor).kind) same

platform_in : (s : ℕ → ℕ) (i a : ℕ) (xs : List Actor) → (get_or (actors_with s i xs) a no_actor).platform ≡ (get_or xs a no_actor).platform
platform_in s i a [] = refl
platform_in s i zero (x ∷ xs) = refl
platform_in s i (suc a) (x ∷ xs) = platform_in s (suc i) a xs

in_at : (xs : List Link) (l : Link) → IsIn l xs → (j : ℕ) × (slice_get xs j ≡ Some l)
in_at [] l h = absurd h
in_at (x ∷ xs) l h = ⊎_elim (λ (e : l ≡ x). (0, ap Some (sym e))) (λ (r : IsIn l xs). let rest = in_at xs l r in (suc rest.0, rest.1)) h

module _ (g : Graph) (s : ℕ → ℕ) where
  pub kind_with : (a : ℕ) → kind_of (with_slacks g s) a ≡ with_slack (s a) (kind_of g a)
  kind_with a = let same : 0 + a ≡ a = omega arith in kind_in s 0 a g.actors ∙ ap (λ n. with_slack (s n) (kind_of g a)) same

  platform_with : (a : ℕ) → platform_of (with_slacks g s) a ≡ platform_of g a
  platform_with a = platform_in s 0 a g.actors

  pub output_with : (a p : ℕ) → at_output (with_slacks g s) a p ≡ at_output g a p
  output_with a p = ap (unit_at a) (ap (λ k. output_group k p) (kind_with a) ∙ same_output (s a) (kind_of g a) p)

  pub input_with : (a p : ℕ) → at_input (with_slacks g s) a p ≡ at_input g a p
  input_with a p = ap (unit_at a) (ap (λ k. input_group k p) (kind_with a) ∙ same_input (s a) (kind_of g a) p)

  wire_with : (w : Wire) → of_wire (with_slacks g s) w ≡ of_wire g w
  wire_with w =
      ap (λ (d : Delay). record { from = w.from; output = w.output; to = w.to; input = w.input; weight = d })
      (ap (λ k. weight k w.output) (kind_with w.from) ∙ same_weight (s w.from) (kind_of g w.from) w.output)

  wires_in : (ws : List Wire) → map (of_wire (with_slacks g s)) ws ≡ map (of_wire g) ws
  wires_in [] = refl
  wires_in (w ∷ ws) = ap₂ (λ (e : Edge) (es : List Edge). e ∷ es) (wire_with w) (wires_in ws)

  wires_with : wires (with_slacks g s) ≡ wires g
  wires_with = wires_in g.wires

  pub goes_from : (x : Unit) (path : List Edge) (a : Unit) → Goes (with_slacks g s) x path a → Goes g x path a
  goes_from x [] a h = h
  goes_from x (e ∷ es) a h = (
    subst (IsIn e) wires_with h.0,
    sym (output_with e.from e.output) ∙ h.1,
    goes_from (target g e) es a (subst (λ t. Goes (with_slacks g s) t es a) (input_with e.to e.input) h.2),
  )

  pub goes_to : (x : Unit) (path : List Edge) (a : Unit) → Goes g x path a → Goes (with_slacks g s) x path a
  goes_to x [] a h = h
  goes_to x (e ∷ es) a h = (
    subst (IsIn e) (sym wires_with) h.0,
    output_with e.from e.output ∙ h.1,
    subst (λ t. Goes (with_slacks g s) t es a) (sym (input_with e.to e.input)) (goes_to (target g e) es a h.2),
  )

  pub bound_sensor : (r bound : ℕ) (file : List ℕ) → kind_of g r ≡ Sensor file bound → bound_of (with_slacks g s) r ≡ Some bound
  bound_sensor r bound file is = ap (bound_by (with_slacks g s) r) (kind_with r ∙ ap (with_slack (s r)) is)

  error_with : (l : Link) → error_of (with_slacks g s) (platform_of (with_slacks g s) l.from) (platform_of (with_slacks g s) l.to) ≡ error_of g (platform_of g l.from) (platform_of g l.to)
  error_with l = ap₂ (error_of g) (platform_with l.from) (platform_with l.to)

  link_with : (l : Link) (own : ℕ) → kind_of g l.from ≡ Send own → link_bound (with_slacks g s) l + 1 ≡ s l.from + cost_of g l
  link_with l own sends =
      let slack : slack_of (kind_of (with_slacks g s) l.from) ≡ s l.from = ap slack_of (kind_with l.from ∙ ap (with_slack (s l.from)) sends) in
      let error = error_with l in
      omega (arith, slack, error)

  by_link_to : ℕ → Link → Option ℕ
  by_link_to r l = when (l.to == r) (Some (link_bound (with_slacks g s) l))

  other_link : IsLawful g → (w : ℕ) (link : Link) → slice_get g.links w ≡ Some link → (k : ℕ) (y : Link) → slice_get g.links k ≡ Some y → (by_link_to link.to y ≡ None) ⊎ (k ≡ w)
  unfolding by_link_to
  other_link lawful w link at k y there =
      ⊎_elim
      (λ (same : (y.to == link.to) ≡ true). inr (links_once g k w y link lawful there at (eqb-true y.to link.to same)))
      (λ (other : (y.to == link.to) ≡ false). inl (when-false (y.to == link.to) (Some (link_bound (with_slacks g s) y)) other))
      (cases_Bool (y.to == link.to))

  -- the bound of a link's receiver
  pub bound_link : IsLawful g → (w : ℕ) (link : Link) → slice_get g.links w ≡ Some link → (b : ℕ) × (bound_of (with_slacks g s) link.to ≡ Some b) × (b + 1 ≡ s link.from + cost_of g link)
  unfolding by_link_to
  bound_link lawful w link at =
      let is = link_at g w link lawful at in
      let here : (link.to == link.to) ≡ true = eq-eqb link.to link.to refl in
      let found : by_link_to link.to link ≡ Some (link_bound (with_slacks g s) link) = ap (λ b. when b (Some (link_bound (with_slacks g s) link))) here in
      let receives : kind_of (with_slacks g s) link.to ≡ Receive = kind_with link.to ∙ ap (with_slack (s link.to)) is.receives in (
        link_bound (with_slacks g s) link,
        ap (bound_by (with_slacks g s) link.to) receives ∙ first_of_at (by_link_to link.to) g.links w link (link_bound (with_slacks g s) link) at found (other_link lawful w link at),
        link_with link is.slack is.sends,
      )

  -- a source is a sensor with its own bound, or the receiver of a link
  pub record FromLink (r b : ℕ) : Type 0 where
    pub number : ℕ
    pub link : Link
    pub at : slice_get g.links number ≡ Some link
    pub to : link.to ≡ r
    pub bound : b + 1 ≡ s link.from + cost_of g link

  from_receiver : (r b : ℕ) → IsLawful g → bound_by (with_slacks g s) r Receive ≡ Some b → FromLink r b
  from_receiver r b lawful h =
      let one = first_of_found (λ (l : Link). when (l.to == r) (Some (link_bound (with_slacks g s) l))) g.links b h in
      let found = when_found (one.0.to == r) (Some (link_bound (with_slacks g s) one.0)) b one.2 in
      let place = in_at g.links one.0 one.1 in
      let is = link_at g place.0 one.0 lawful place.1 in
      let same : link_bound (with_slacks g s) one.0 ≡ b = same_some (link_bound (with_slacks g s) one.0) b found.1 in
      record { number = place.0; link = one.0; at = place.1; to = eqb-true one.0.to r found.0; bound = ap (λ n. n + 1) (sym same) ∙ link_with one.0 is.slack is.sends }

  by_source : (r b : ℕ) (k : Kind) → IsLawful g → bound_by (with_slacks g s) r (with_slack (s r) k) ≡ Some b → ((file : List ℕ) × (k ≡ Sensor file b)) ⊎ FromLink r b
  by_source r b (Sensor file bound) lawful h = inl (file, ap (Sensor file) (same_some bound b h))
  by_source r b Receive lawful h = inr (from_receiver r b lawful h)
  by_source r b (Send own) lawful h = absurd (none_some b h)
  by_source r b (Actuator own) lawful h = absurd (none_some b h)
  by_source r b _ lawful h = absurd (none_some b h)

  pub source_of : (r b : ℕ) → IsLawful g → bound_of (with_slacks g s) r ≡ Some b → ((file : List ℕ) × (kind_of g r ≡ Sensor file b)) ⊎ FromLink r b
  source_of r b lawful h = by_source r b (kind_of g r) lawful (sym (ap (bound_by (with_slacks g s) r) (kind_with r)) ∙ h)
