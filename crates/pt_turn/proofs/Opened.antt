-- The state that opened fields stand for.
use Rattle.std.proofs.Common.{◌≡◌, ℕ, ◌==◌, if◌then◌else◌, List, [], None, false, length, map, sym, ap, subst, ◌∙◌, arith}
use Rattle.std.proofs.lemmas.List.{length-map}
use Rattle.pt_types.specs.declared.rows.Row.{Row}
use Rattle.pt_types.specs.declared.graph.Graph.{Graph}
use Rattle.pt_sensors.specs.declared.sensor_rows.SensorRows.{SensorRows}
use Rattle.pt_types.specs.Lookups.{platform_of}
use Rattle.pt_semantics.specs.Closing.{on_link}
use Rattle.pt_semantics.specs.Lists.{Each}
use Rattle.pt_semantics.specs.Meaning.{Values}
use Rattle.pt_semantics.specs.Platform.{opened}
use Rattle.pt_queue.specs.Groups.{AreGroups}
use Rattle.pt_queue.specs.Events.{waiting_in}
use Rattle.pt_turn.specs.declared.state.fields.Fields.{Fields}
use Rattle.pt_turn.specs.Fields.State.{IsOpen, IsSound, busy_in, left_in, rows_at_sensors, state_of}
use Rattle.pt_turn.specs.Handed.{unentered, AreHanded}
use Rattle.pt_turn.specs.Starting.{first_of_actor, starting}
use Rattle.pt_turn.proofs.Beginning.{numbers, starting_unit}
use Rattle.pt_turn.proofs.HandedIn.{left_rows, rows_same}

pub opened_is : (g : Graph) (i : ℕ) (f : Fields) (handed : List SensorRows) → AreHanded g i handed → waiting_in f.queue.events ≡ starting g i → f.open_claims.items ≡ [] → f.states.items ≡ map first_of_actor g.actors → f.sensors.items ≡ map unentered handed → f.outbox.items ≡ [] → f.reading ≡ None → f.closed ≡ false → f.claims ≡ 0
    → state_of f [] ≡ opened g i (rows_at_sensors f.sensors.items)
opened_is g i f handed given waits claimed states sensors outbox reading closed claims = λ j. record {
  waits = waits j;
  busy = busy_in (claimed j);
  states = numbers g f.states.items states j;
  left = left j;
  outbox = λ l. on_link l (outbox j);
  taken = λ l. [];
  reading = reading j;
  closed = closed j;
  claims = claims j;
}
  where
    at_home : (ℕ → List Row) → ℕ → List Row
    at_home rows a = if platform_of g a == i then rows a else []

    left : left_in f.sensors.items ≡ (λ a. if platform_of g a == i then rows_at_sensors f.sensors.items a else [])
    left = ap left_in sensors ∙ left_rows g i handed given ∙ ap at_home (sym (ap rows_at_sensors sensors ∙ rows_same handed))

pub sound_is : (g : Graph) (i : ℕ) (f : Fields) → AreGroups g f.queue.groups → waiting_in f.queue.events ≡ starting g i → f.open_claims.items ≡ [] → f.states.items ≡ map first_of_actor g.actors → f.outbox.links ≡ length g.links → f.none_safe_before ≡ 0 → IsSound g f
sound_is g i f groups waits claimed states links none = record {
  groups = groups;
  states = ap length states ∙ length-map g.actors first_of_actor;
  open_claims = subst (λ claims. Each (IsOpen g claims) claims) (sym claimed) tt;
  links = links;
  at_units = λ a p t v h. starting_unit g i a p t v (ap (λ (w : Values). w a p t) (sym waits) ∙ h);
  none_safe = λ r lt. absurd (omega (arith, none, lt));
}
