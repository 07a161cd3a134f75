-- A visit leaves less to do, or makes no move.
use Rattle.std.proofs.Common.{◌+◌, ◌≡◌, ℕ, ◌<◌, ◌≤◌, ◌≢◌, List, [], ◌∷◌, ◌++◌, Option, Some, None, ℤ, length, slice_get, refl, sym, ap, subst, ◌∙◌, ⊎_elim}
use Rattle.std.proofs.lemmas.Option.{slice_get_within}
use Rattle.pt_types.specs.declared.graph.Graph.{Graph}
use Rattle.pt_types.specs.declared.graph.Link.{Link}
use Rattle.pt_types.specs.declared.graph.Unit.{Unit}
use Rattle.pt_types.specs.declared.rows.Row.{Row}
use Rattle.pt_types.specs.declared.firing.OnLink.{OnLink}
use Rattle.pt_semantics.specs.Closing.{on_link}
use Rattle.pt_types.specs.Lookups.{platform_of}
use Rattle.pt_semantics.specs.Entering.{after_rows}
use Rattle.pt_semantics.specs.Linked.{all_sent, all_taken}
use Rattle.pt_semantics.specs.Lists.{Each, IsIn}
use Rattle.pt_semantics.specs.Offsets.{HasOffset, IsFeasible}
use Rattle.pt_semantics.specs.Ranks.{AreLevels}
use Rattle.pt_semantics.specs.Rows.{FitRows}
use Rattle.pt_semantics.specs.Rounds.{Makes}
use Rattle.pt_semantics.specs.Visits.{VisitRecord, RunState}
use Rattle.pt_semantics.specs.Wired.{IsWired}
use Rattle.pt_semantics.proofs.Lookups.{Each-from, IsIn-append_left, none_some, same_some}
use Rattle.pt_laws.proofs.Onward.{Onward, cases_same, makes_onward}
use Rattle.pt_laws.proofs.Paces.{InBound, IsForeign, Paces, in_on_link, turn_paces}
use Rattle.pt_paced_laws.proofs.Turns.{turn_does}
use Rattle.pt_paced_laws.proofs.Moves.{AreFew, Falls, IsStill, all_to_do, one_falls, to_do, turn_falls}
use Rattle.pt_paced_laws.proofs.Few.{sent_few, taken_few}
use Rattle.pt_paced_laws.proofs.SameTurn.{takes_member}

module _ (g : Graph) (level : ℕ → ℕ) (rows : ℕ → List Row) (offset : Unit → Option ℤ) (wired : IsWired g) (are : AreLevels g level) (fits : FitRows g rows) (feasible : IsFeasible g) (has : (u : Unit) → HasOffset g u (offset u)) where
  -- what a platform sends is on its own links
  sent_on : (c : ℕ) (x y : RunState) (m : VisitRecord) → Onward g level rows offset c x → Makes g level c x m y → m.platform < length g.platforms → (o : OnLink) → IsIn o m.turn.sent →
      (link : Link) × (slice_get g.links o.link ≡ Some link) × (platform_of g link.from ≡ m.platform)
  sent_on c x y m h k lt o mem = by_link (slice_get g.links o.link) refl
    where
      from_way : Each (InBound g offset has wired c m.platform) m.turn.taken
      from_way = Each-from (InBound g offset has wired c m.platform) m.turn.taken (λ p inside link t v at e.
          h.way p.link link t v at (subst (IsIn _) (sym (k.takes p.link))
          (IsIn-append_left _ (on_link p.link m.turn.taken) (k.rest p.link)
          (subst (λ z. IsIn z (on_link p.link m.turn.taken)) e (in_on_link p m.turn.taken inside)))))

      paces : Paces g offset has wired c m.platform level (x.at m.platform) m.turn m.late (y.at m.platform)
      paces = turn_paces g offset has wired c m.platform level (x.at m.platform) (y.at m.platform) m.turn m.late (h.later m.platform lt) k.last k.is from_way

      never : IsForeign g m.platform o.link → ⊥
      never foreign = let none : IsIn o.message [] = subst (IsIn o.message) (paces.sent_own o.link foreign) (in_on_link o m.turn.sent mem) in absurd none

      by_link : (found : Option Link) → slice_get g.links o.link ≡ found → (link : Link) × (slice_get g.links o.link ≡ Some link) × (platform_of g link.from ≡ m.platform)
      by_link None e = absurd (never (λ link at home. none_some link (sym e ∙ at)))
      by_link (Some link) e =
          ⊎_elim
          (λ (home : platform_of g link.from ≡ m.platform). (link, e, home))
          (λ (away : platform_of g link.from ≢ m.platform). absurd (never (λ other at home. away (ap (λ (z : Link). platform_of g z.from) (same_some link other (sym e ∙ at)) ∙ home))))
          (cases_same (platform_of g link.from) m.platform)

  pub visit_falls : (c : ℕ) (x y : RunState) (m : VisitRecord) → Onward g level rows offset c x → Makes g level c x m y → m.platform < length g.platforms →
      Falls (IsStill (x.at m.platform) m.turn (y.at m.platform)) (all_to_do g x.at x.did) (all_to_do g y.at y.did)
  visit_falls c x y m h k lt =
      one_falls (IsStill (x.at m.platform) m.turn (y.at m.platform)) (λ i. to_do g (x.at i) (x.did i)) (λ i. to_do g (y.at i) (y.did i)) (length g.platforms) m.platform lt
      (λ j ne. ap (λ s. to_do g s (y.did j)) (k.others j ne).0 ∙ ap (to_do g (x.at j)) (k.others j ne).1)
      (subst (λ z. Falls (IsStill (x.at m.platform) m.turn (y.at m.platform)) (to_do g (x.at m.platform) (x.did m.platform)) (to_do g (y.at m.platform) z)) (sym k.joins)
      (turn_falls g (x.at m.platform) (y.at m.platform) m.turn (x.did m.platform) (turn_does g level m.platform (x.at m.platform) (y.at m.platform) m.turn m.late k.is) sent taken))
    where
      after : Onward g level rows offset c y
      after = (makes_onward g level rows offset has wired feasible c x y m lt h k).1

      sent : AreFew g m.turn.sent (λ l. length (all_sent l (x.did m.platform ++ m.turn ∷ [])))
      sent = record {
        link = λ o mem. let on = sent_on c x y m h k lt o mem in slice_get_within g.links o.link on.0 on.1;
        few = λ o mem.
            let on = sent_on c x y m h k lt o mem in
            subst (λ z. length (all_sent o.link z) ≤ (g.claims + 1)) k.joins
            (subst (λ i. length (all_sent o.link (y.did i)) ≤ (g.claims + 1)) on.2 (sent_few g level rows offset wired are fits feasible has c y o.link on.0 after on.1));
      }

      taken : AreFew g m.turn.taken (λ l. length (all_taken l (x.did m.platform ++ m.turn ∷ [])))
      taken = record {
        link = λ o mem. let on = takes_member g level m.platform m.turn.taken m.late (after_rows k.is.posted m.turn.last) k.is.got k.is.takes o mem in slice_get_within g.links o.link on.0 on.1;
        few = λ o mem.
            let on = takes_member g level m.platform m.turn.taken m.late (after_rows k.is.posted m.turn.last) k.is.got k.is.takes o mem in
            subst (λ z. length (all_taken o.link z) ≤ (g.claims + 1)) k.joins
            (subst (λ i. length (all_taken o.link (y.did i)) ≤ (g.claims + 1)) on.2 (taken_few g level rows offset wired are fits feasible has c y o.link on.0 after on.1));
      }
