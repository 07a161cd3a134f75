-- The tags without events, and after the events of a unit at a tag are gone.
use Rattle.std.proofs.Common.{◌≡◌, ℕ, ◌*◌, ◌<◌, ◌≤◌, ◌⊎◌, ⊎_elim, not, if◌then◌else◌, IsSome, List, [], ◌++◌, Option, Some, None, length, map, filter, replicate, sym, ap, ap₂, subst, ◌∙◌, arith}
use Rattle.std.proofs.lemmas.Bool.{false≢true}
use Rattle.std.proofs.lemmas.List.{get_or-replicate, get_or_past, length-replicate}
use Rattle.pt_tags.specs.declared.tag.Tag.{Tag}
use Rattle.pt_types.specs.declared.firing.Event.{Event}
use Rattle.pt_types.specs.declared.graph.Graph.{Graph}
use Rattle.pt_types.specs.declared.graph.Unit.{Unit}
use Rattle.pt_types.specs.Lawful.{IsLawful}
use Rattle.pt_semantics.specs.Lists.{Each}
use Rattle.pt_semantics.specs.Units.{same_part}
use Rattle.pt_semantics.proofs.Lookups.{Each-in}
use Rattle.pt_queue.specs.declared.groups.Groups.{Groups}
use Rattle.pt_queue.specs.Groups.{AreGroups}
use Rattle.pt_queue.specs.Events.{IsPlaced}
use Rattle.pt_queue.specs.Lines.{AreKept, IsInLine, all_of, line_at, with_events}
use Rattle.pt_queue.specs.Tagged.{AreTags, FitsIn, tag_in}
use Rattle.pt_queue.specs.Scans.{is_at, least_from}
use Rattle.pt_queue.proofs.Following.{least_after, least_kept}
use Rattle.pt_queue.proofs.Found.{least_found}
use Rattle.pt_queue.proofs.Known.{tags_less, unit_fits}
use Rattle.pt_queue.proofs.Removing.{filtered_kept}
use Rattle.pt_queue.proofs.Tables.{few_inputs}
use Rattle.pt_queue.proofs.ByUnit.{no_tags}
use Rattle.pt_queue.proofs.Views.{placed_whole}

-- no event

none_at : (count n : ℕ) → line_at (replicate count []) n ≡ []
none_at count n = ⊎_elim (λ (l : n < count). get_or-replicate count n [] [] l) (λ (m : count ≤ n). get_or_past (replicate count []) n [] (omega (arith, m, length-replicate {A = List Event} count []))) (either n count)
  where
    either : (n m : ℕ) → (n < m) ⊎ (m ≤ n)
    either n m = grind arith

pub none_kept : (table : List Groups) (lines : List (List Event)) (loose : List Event) → lines ≡ replicate (8 * length table) [] → loose ≡ [] → AreKept table lines loose
none_kept table lines loose empty none = record {
  count = ap length empty ∙ length-replicate {A = List Event} (8 * length table) [];
  in_lines = λ n. subst (λ ls. Each (IsInLine table n) (line_at ls n)) (sym empty) (subst (Each (IsInLine table n)) (sym (none_at (8 * length table) n)) tt);
  placed = subst (Each (IsPlaced table)) (sym none) tt;
}

pub none_known : (g : Graph) (table : List Groups) (events : List Event) (tags : List (Option Tag)) → IsLawful g → AreGroups g table → events ≡ [] → tags ≡ replicate (8 * length table) None → AreTags table events tags
none_known g table events tags lawful are none is = record {
  room = ap length is ∙ length-replicate {A = Option Tag} (8 * length table) None;
  few = few_inputs g table lawful are;
  least = λ u. ap (λ ts. tag_in ts u) is ∙ no_tags (8 * length table) u ∙ sym (ap (least_from table u None) none);
}

-- the lines and loose events that are left
module _ (table : List Groups) (u : Unit) (t : Tag) (lines left : List (List Event)) (loose rest : List Event) (kept : AreKept table lines loose)
    (in_lines : left ≡ map (filter (λ (e : Event). not (is_at table u t e))) lines) (others : rest ≡ filter (λ (e : Event). not (is_at table u t e)) loose) where
  pub left_kept : AreKept table left rest
  left_kept = subst (λ ls. AreKept table ls rest) (sym in_lines) (subst (AreKept table (map (filter (λ (e : Event). not (is_at table u t e))) lines)) (sym others) (filtered_kept table (λ (e : Event). not (is_at table u t e)) lines loose kept))

  pub left_known : (tags vs : List (Option Tag)) (o : Option Tag) → AreTags table (all_of (with_events lines loose)) tags → o ≡ least_from table u None (all_of left ++ rest) → ((x : Unit) → tag_in vs x ≡ (if same_part u x then o else tag_in tags x)) → length vs ≡ length tags → AreTags table (all_of (with_events left rest)) vs
  left_known tags vs o are is changed len = tags_less table (all_of (with_events lines loose)) (all_of (with_events left rest)) tags vs u o are (is ∙ sym (least_kept table u left rest left_kept)) changed len (λ v ne.
      ap₂ (λ ls es. least_from table v None (all_of (with_events ls es))) in_lines others ∙ least_after table u t lines loose kept v ne)

  pub left_fits : (tags : List (Option Tag)) (o : Option Tag) → AreTags table (all_of (with_events lines loose)) tags → o ≡ least_from table u None (all_of left ++ rest) → IsSome o → FitsIn (length tags) u
  left_fits tags None are is h = absurd (false≢true h)
  left_fits tags (Some s) are is h =
      let e = least_found table (all_of left ++ rest) u s (sym is) in
      subst (FitsIn (length tags)) e.2 (unit_fits table e.0 (length tags) are.few are.room (Each-in (IsPlaced table) (all_of left ++ rest) (placed_whole table left rest left_kept) e.0 e.1))
