use Rattle.std.proofs.Common.{◌≡◌, ◌<◌, ℕ, ℤ, List, Option, None, true, length, get_or, arith, ap, sym, subst, ◌∙◌}
use Rattle.pt_tags.specs.declared.tag.Delay.{Delay}
use Rattle.pt_types.specs.declared.graph.Graph.{Graph}
use Rattle.pt_types.specs.declared.graph.Unit.{Unit}
use Rattle.pt_types.specs.Groups.{groups_of, held}
use Rattle.pt_types.specs.Kinds.{kind_is_lawful}
use Rattle.pt_types.specs.Lawful.{IsLawful}
use Rattle.pt_types.specs.Lookups.{kind_of}
use Rattle.pt_semantics.specs.Offsets.{HasOffset}
use Rattle.pt_semantics.specs.Units.{groups}
use Rattle.pt_types.proofs.LawfulActors.{any_kind}
use Rattle.pt_causality.specs.Delays.{IsUnit, least_of}
use Rattle.pt_offsets.specs.Bounded.{offset_from}
use Rattle.pt_offsets.specs.Greatest.{HasGreatest}
use Rattle.pt_offsets.specs.Margins.{margin_of, unit_at}
use Rattle.pt_offsets.proofs.Small.{are_modest, few_groups}
use Rattle.pt_offsets.proofs.Times.{AreUnitOffsets, actor_offset, each_offset, small_actor}
use Rattle.pt_offsets.proofs.timing.timing.Goals as goal

-- as many offsets as the program counts are those of all units
all_units : (g : Graph) (bounds : List (Option ℕ)) (least : Unit → Unit → Option Delay) (a n : ℕ) (offsets : List (Option ℤ)) → IsLawful g → n ≡ held (groups_of (kind_of g a)) → length offsets ≡ n → ((k : ℕ) → k < n → HasGreatest (length bounds) (offset_from bounds least (unit_at a k)) (get_or offsets k None)) → AreUnitOffsets g bounds least a offsets
all_units g bounds least a n offsets lawful count len each =
    let whole : n ≡ groups (kind_of g a) = count ∙ few_groups (kind_of g a) (any_kind g a lawful) in
    record { len = len ∙ whole; each = λ k less. each k (subst (λ m. k < m) (sym whole) less) }

pub unit_offsets-requires-clause-modest : goal.unit_offsets-requires-clause-modest
unit_offsets-requires-clause-modest c = are_modest c.args.graph.now c.args.bounds.now c.requires.lawful c.requires.bounds

pub margin-requires-clause-kind : goal.margin-requires-clause-kind
margin-requires-clause-kind c =
    subst (λ k. kind_is_lawful k ≡ true) (sym c.requires.kind) (any_kind c.args.graph.now c.args.number c.requires.lawful)

pub margin-requires-clause-offset : goal.margin-requires-clause-offset
margin-requires-clause-offset c =
    let g = c.args.graph.now in
    let bounds = c.args.bounds.now in
    let least = least_of c.args.least.now in
    let offsets = c.in_ok-offsets.offsets.items in
    let units = all_units g bounds least c.args.number c.groups-groups.result offsets c.requires.lawful c.groups-groups.ensures c.in_ok-offsets.ensures.len c.in_ok-offsets.ensures.each in
    λ o is.
    small_actor g bounds least c.args.number offsets c.greatest-offset.result o (are_modest g bounds c.requires.lawful c.requires.bounds) c.requires.small units
    (subst (λ (xs : List (Option ℤ)). HasGreatest (length xs) (λ k. get_or xs k None) c.greatest-offset.result) c.as_slice.ensures.value c.greatest-offset.ensures) is

pub returns : goal.returns
returns c =
    let g = c.args.graph.now in
    let bounds = c.args.bounds.now in
    let least = least_of c.args.least.now in
    let offsets = c.in_ok-offsets.offsets.items in
    let units = all_units g bounds least c.args.number c.groups-groups.result offsets c.requires.lawful c.groups-groups.ensures c.in_ok-offsets.ensures.len c.in_ok-offsets.ensures.each in
    let each = each_offset g bounds least c.args.number offsets c.requires.lawful c.requires.bounds c.requires.least c.requires.there units in
    record {
      bound = c.bound_at.ensures ∙ c.requires.bounds.each c.args.number;
      units = subst (λ (xs : List (Option ℤ)). (k : ℕ) → IsUnit g (unit_at c.args.number k) → k < length xs) (sym c.new.ensures)
          (λ k unit. let below : k < groups (kind_of g c.args.number) = unit.1 in let len : length offsets ≡ groups (kind_of g c.args.number) = units.len in omega (arith, below, len));
      offsets = subst (λ (xs : List (Option ℤ)). (k : ℕ) → HasOffset g (unit_at c.args.number k) (get_or xs k None)) (sym c.new.ensures) each;
      offset = actor_offset g bounds least c.args.number offsets c.requires.lawful c.requires.bounds c.requires.least c.requires.there units c.greatest-offset.result
          (subst (λ (xs : List (Option ℤ)). HasGreatest (length xs) (λ k. get_or xs k None) c.greatest-offset.result) c.as_slice.ensures.value c.greatest-offset.ensures);
      margin = c.margin.ensures ∙ ap (λ k. margin_of k c.greatest-offset.result) c.requires.kind;
    }
