-- What a queue says, by all its events.
use Rattle.std.proofs.Common.{◌≡◌, ℕ, zero, suc, ◌==◌, not, List, [], ◌++◌, map, filter, replicate, refl, sym, ap, ◌∙◌}
use Rattle.pt_tags.specs.declared.tag.Tag.{Tag}
use Rattle.pt_types.specs.declared.firing.Event.{Event}
use Rattle.pt_types.specs.declared.graph.Graph.{Graph}
use Rattle.pt_types.specs.declared.graph.Unit.{Unit}
use Rattle.pt_types.specs.Ports.{when, eight}
use Rattle.pt_types.specs.Lookups.{kind_of}
use Rattle.pt_semantics.specs.Units.{unit_inputs}
use Rattle.pt_types.specs.Groups.{input_group}
use Rattle.pt_semantics.specs.Claiming.{without_unit}
use Rattle.pt_semantics.specs.Lists.{Each}
use Rattle.pt_semantics.specs.Meaning.{Values}
use Rattle.pt_semantics.proofs.Lookups.{Each-append, eight_below}
use Rattle.pt_queue.specs.declared.groups.Groups.{Groups}
use Rattle.pt_queue.specs.Groups.{AreGroups, group_in}
use Rattle.pt_queue.specs.Events.{waiting_in, IsPlaced}
use Rattle.pt_queue.specs.Lines.{AreKept, all_of, with_events}
use Rattle.pt_queue.specs.Scans.{is_at}
use Rattle.pt_queue.proofs.Flat.{all_placed, all_wait, settled_kept}
use Rattle.pt_queue.proofs.Removing.{filtered_kept, parts_filtered}
use Rattle.pt_queue.proofs.Waits.{waiting_drop}

pub placed_whole : (table : List Groups) (lines : List (List Event)) (loose : List Event) → AreKept table lines loose → Each (IsPlaced table) (all_of lines ++ loose)
placed_whole table lines loose k = Each-append (IsPlaced table) (all_of lines) loose (all_placed table lines k.in_lines) k.placed

pub placed_settled : (table : List Groups) (lines : List (List Event)) (loose : List Event) → AreKept table lines loose → Each (IsPlaced table) (all_of (with_events lines loose))
placed_settled table lines loose k = all_placed table (with_events lines loose) (settled_kept table lines loose k).in_lines

-- what waits by the list of a queue's view, and by all its events
pub view_waits : (table : List Groups) (lines : List (List Event)) (loose events : List Event) → AreKept table lines loose → all_of (with_events lines loose) ≡ events → waiting_in events ≡ waiting_in (all_of lines ++ loose)
view_waits table lines loose events k is = ap waiting_in (sym is) ∙ all_wait table lines loose k

-- after the events of a unit at a tag were removed
pub removed_waits : (g : Graph) (table : List Groups) (u : Unit) (t : Tag) (lines : List (List Event)) (loose : List Event) → AreGroups g table → AreKept table lines loose →
    waiting_in (all_of (with_events (map (filter (λ (e : Event). not (is_at table u t e))) lines) (filter (λ (e : Event). not (is_at table u t e)) loose))) ≡ without_unit g (waiting_in (all_of (with_events lines loose))) u t
removed_waits g table u t lines loose are k =
    all_wait table (map (filter (λ (e : Event). not (is_at table u t e))) lines) (filter (λ (e : Event). not (is_at table u t e)) loose) (filtered_kept table (λ (e : Event). not (is_at table u t e)) lines loose k)
    ∙ ap waiting_in (parts_filtered (λ (e : Event). not (is_at table u t e)) lines loose)
    ∙ waiting_drop g table u t (all_of lines ++ loose) are (placed_whole table lines loose k)
    ∙ ap (λ w. without_unit g w u t) (sym (all_wait table lines loose k))

-- where nothing has an event
pub none_in : (count : ℕ) → all_of (replicate count []) ≡ []
none_in zero = refl
none_in (suc n) = none_in n

-- the inputs of a unit, by the table
pub inputs_whole : (g : Graph) (table : List Groups) (u : Unit) (t : Tag) (w : Values) → AreGroups g table → eight (λ p. when (group_in table u.actor p == u.group) (w u.actor p t)) ≡ unit_inputs g w u t
inputs_whole g table u t w are = eight_below (λ p. when (group_in table u.actor p == u.group) (w u.actor p t)) (λ p. when (input_group (kind_of g u.actor) p == u.group) (w u.actor p t)) (λ p l. ap (λ n. when (n == u.group) (w u.actor p t)) (are.inputs u.actor p l))
