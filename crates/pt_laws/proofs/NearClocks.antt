-- What is still to be done, by platforms whose clocks read differently: along a wire or a link it comes no sooner than the reading there.
use Rattle.std.proofs.Common.{◌≡◌, ℕ, ◌+◌, ◌≤◌, Option, Some, ℤ, slice_get, arith, sym, ap, subst, ⊎_elim, leb-true, le-leb}
use Rattle.pt_tags.specs.declared.tag.Tag.{Tag}
use Rattle.pt_types.specs.declared.graph.Graph.{Graph}
use Rattle.pt_types.specs.declared.graph.Link.{Link}
use Rattle.pt_types.specs.declared.graph.Unit.{Unit}
use Rattle.pt_tags.specs.Tags.{plus}
use Rattle.pt_semantics.specs.Lists.{IsIn}
use Rattle.pt_semantics.specs.Edges.{Edge, edges, wires, links, of_link}
use Rattle.pt_types.specs.Lookups.{platform_of, slack_of}
use Rattle.pt_semantics.specs.Units.{source, target, at_input, at_output}
use Rattle.pt_semantics.specs.Bounds.{error_of, link_bound}
use Rattle.pt_semantics.specs.Offsets.{IsFeasible, HasOffset}
use Rattle.pt_semantics.specs.Wired.{IsWired}
use Rattle.pt_semantics.specs.Paced.{paced_by}
use Rattle.pt_laws.specs.NearClocks.{AreNear, NearIsClosed}
use Rattle.pt_laws.specs.PacedReadings.{PacedIsClosed}
use Rattle.pt_semantics.proofs.Lookups.{IsIn-append}
use Rattle.pt_semantics.proofs.Floor.{plus_zero}
use Rattle.pt_laws.proofs.Finish.{link_of}
use Rattle.pt_laws.proofs.PacedClosed.{along_wire, paced_earlier, past_bound, sends_in_time}

-- one reading is near itself
pub one_is_near : (g : Graph) (c : ℕ) → AreNear g (λ i. c)
one_is_near g c l link at = omega arith

module _ (g : Graph) (offset : Unit → Option ℤ) (has : (u : Unit) → HasOffset g u (offset u)) (wired : IsWired g) (feasible : IsFeasible g) (c : ℕ → ℕ) where
  -- what comes within its link's bound is past the receiver's reading
  pub received_later : (l : ℕ) (link : Link) (t : Tag) → slice_get g.links l ≡ Some link → c (platform_of g link.to) ≤ t.time + link_bound g link → c (platform_of g link.to) ≤ paced_by (offset (at_input g link.to 0)) t
  received_later l link t at le =
      let past : t.time + link_bound g link + 1 ≤ paced_by (offset (at_input g link.to 0)) t = past_bound g offset wired has l link t at in
      omega (arith, le, past)

  module _ (near : AreNear g c) where
    -- what a sender sends no sooner than its own reading comes within the link's bound
    pub sent_in_bound : (l : ℕ) (link : Link) (t : Tag) → slice_get g.links l ≡ Some link → c (platform_of g link.from) ≤ paced_by (offset (at_output g link.from 0)) t → c (platform_of g link.to) ≤ t.time + link_bound g link
    sent_in_bound l link t at le =
        let send = wired.sends l link at in
        let in_time : paced_by (offset (at_output g link.from 0)) t ≤ t.time + send.0 = sends_in_time g link.from send.0 (offset (at_output g link.from 0)) t feasible send.1 (has (at_output g link.from 0)) in
        let apart : c (platform_of g link.to) ≤ c (platform_of g link.from) + error_of g (platform_of g link.from) (platform_of g link.to) = near l link at in
        let bound : link_bound g link ≡ send.0 + link.delay + error_of g (platform_of g link.from) (platform_of g link.to) = ap (λ k. slack_of k + link.delay + error_of g (platform_of g link.from) (platform_of g link.to)) send.1 in
        omega (arith, le, in_time, apart, bound)

    pub later_along : (e : Edge) (s : Tag) → IsIn e (edges g) → c (platform_of g e.from) ≤ paced_by (offset (source g e)) s → c (platform_of g e.to) ≤ paced_by (offset (target g e)) (plus s e.weight)
    later_along e s mem le =
        ⊎_elim
        (λ (w : IsIn e (wires g)).
        let rises : paced_by (offset (source g e)) s ≤ paced_by (offset (target g e)) (plus s e.weight) = along_wire g offset has e s w in
        subst (λ i. c i ≤ paced_by (offset (target g e)) (plus s e.weight)) (wired.at_home e w) (omega (arith, le, rises)))
        (λ (k : IsIn e (links g)).
        let f = link_of g.links e k in
        subst (λ x. c (platform_of g x.to) ≤ paced_by (offset (target g x)) (plus s x.weight)) (sym f.3)
        (over f.0 f.1 f.2 (subst (λ x. c (platform_of g x.from) ≤ paced_by (offset (source g x)) s) f.3 le)))
        (IsIn-append e (wires g) (links g) mem)
      where
        over : (l : ℕ) (link : Link) → slice_get g.links l ≡ Some link → c (platform_of g link.from) ≤ paced_by (offset (at_output g link.from 0)) s → c (platform_of g link.to) ≤ paced_by (offset (at_input g link.to 0)) (plus s (of_link link).weight)
        over l link at le2 = subst (λ t. c (platform_of g link.to) ≤ paced_by (offset (at_input g link.to 0)) t) (sym (plus_zero s)) (received_later l link s at (sent_in_bound l link s at le2))

    -- and back: what is past at a link's end was past at its start
    sooner_over : (l : ℕ) (link : Link) (s : Tag) → slice_get g.links l ≡ Some link → paced_by (offset (at_input g link.to 0)) s ≤ c (platform_of g link.to) → paced_by (offset (at_output g link.from 0)) s ≤ c (platform_of g link.from)
    sooner_over l link s at le =
        let send = wired.sends l link at in
        let in_time : paced_by (offset (at_output g link.from 0)) s ≤ s.time + send.0 = sends_in_time g link.from send.0 (offset (at_output g link.from 0)) s feasible send.1 (has (at_output g link.from 0)) in
        let apart : c (platform_of g link.to) ≤ c (platform_of g link.from) + error_of g (platform_of g link.from) (platform_of g link.to) = near l link at in
        let bound : link_bound g link ≡ send.0 + link.delay + error_of g (platform_of g link.from) (platform_of g link.to) = ap (λ k. slack_of k + link.delay + error_of g (platform_of g link.from) (platform_of g link.to)) send.1 in
        let past : s.time + link_bound g link + 1 ≤ paced_by (offset (at_input g link.to 0)) s = past_bound g offset wired has l link s at in
        omega (arith, le, in_time, apart, bound, past)

    sooner_along : (e : Edge) (s : Tag) → IsIn e (edges g) → paced_by (offset (target g e)) (plus s e.weight) ≤ c (platform_of g e.to) → paced_by (offset (source g e)) s ≤ c (platform_of g e.from)
    sooner_along e s mem le =
        ⊎_elim
        (λ (w : IsIn e (wires g)).
        let rises : paced_by (offset (source g e)) s ≤ paced_by (offset (target g e)) (plus s e.weight) = along_wire g offset has e s w in
        subst (λ i. paced_by (offset (source g e)) s ≤ c i) (sym (wired.at_home e w)) (omega (arith, le, rises)))
        (λ (k : IsIn e (links g)).
        let f = link_of g.links e k in
        subst (λ x. paced_by (offset (source g x)) s ≤ c (platform_of g x.from)) (sym f.3)
        (sooner_over f.0 f.1 s f.2
        (subst (λ t. paced_by (offset (at_input g f.1.to 0)) t ≤ c (platform_of g f.1.to)) (plus_zero s)
        (subst (λ x. paced_by (offset (target g x)) (plus s x.weight) ≤ c (platform_of g x.to)) f.3 le))))
        (IsIn-append e (wires g) (links g) mem)

pub near_is_closed : NearIsClosed
near_is_closed g offset c wired feasible has near = record {
  earlier = λ u s t l d.
      let le : paced_by (offset u) t ≤ c (platform_of g u.actor) = leb-true (paced_by (offset u) t) (c (platform_of g u.actor)) d in
      let down : paced_by (offset u) s ≤ paced_by (offset u) t = paced_earlier (offset u) s t l.0 in
      le-leb (paced_by (offset u) s) (c (platform_of g u.actor)) (omega (arith, le, down));
  sources = λ e s mem d.
      le-leb (paced_by (offset (source g e)) s) (c (platform_of g e.from))
      (sooner_along g offset has wired feasible c near e s mem (leb-true (paced_by (offset (target g e)) (plus s e.weight)) (c (platform_of g e.to)) d));
}

pub paced_is_closed : PacedIsClosed
paced_is_closed g offset c wired feasible has = near_is_closed g offset (λ i. c) wired feasible has (one_is_near g c)
