use Rattle.std.proofs.Common.{◌≡◌, ◌++◌, ◌==◌, None, map, filter, not, ap, ap₂, ◌∙◌, subst, sym, arith}
use Rattle.pt_types.specs.Ports.{eight, when}
use Rattle.pt_types.specs.declared.firing.Event.{Event}
use Rattle.pt_semantics.specs.Claiming.{without_unit}
use Rattle.pt_semantics.specs.Units.{unit_inputs}
use Rattle.pt_queue.specs.Groups.{AreGroups, group_in}
use Rattle.pt_queue.specs.Events.{waiting_in, Queued}
use Rattle.pt_queue.specs.Lines.{all_of, with_events}
use Rattle.pt_queue.specs.Scans.{is_at, least_from}
use Rattle.pt_queue.proofs.Changing.{left_fits, left_kept, left_known}
use Rattle.pt_queue.proofs.Views.{inputs_whole, removed_waits, view_waits}
use Rattle.pt_queue.proofs.queue.Queue.take.Goals as goal

pub set-requires : goal.set-requires
set-requires c =
    let table = c.self.inside.groups.items in
    let keep = λ (e : Event). not (is_at table c.args.unit c.args.tag e) in
    let lines : c.take_events-least.new.lines ≡ map (filter keep) c.self.inside.lines = c.take_events-least.ensures.lines ∙ ap (λ gs. map (filter (λ (e : Event). not (is_at gs c.args.unit c.args.tag e))) c.self.inside.lines) c.as_slice.ensures.value in
    let loose : c.take_events-least.new.loose.items ≡ filter keep c.self.inside.loose.items = c.take_events-least.ensures.loose ∙ ap (λ gs. filter (λ (e : Event). not (is_at gs c.args.unit c.args.tag e)) c.self.inside.loose.items) c.as_slice.ensures.value in
    let least : c.take_events-least.result ≡ least_from table c.args.unit None (all_of c.take_events-least.new.lines ++ c.take_events-least.new.loose.items) = c.take_events-least.ensures.least ∙ ap (λ gs. least_from gs c.args.unit None (all_of c.take_events-least.new.lines ++ c.take_events-least.new.loose.items)) c.as_slice.ensures.value in
    left_fits table c.args.unit c.args.tag c.self.inside.lines c.take_events-least.new.lines c.self.inside.loose.items c.take_events-least.new.loose.items c.self.invariant.0 lines loose c.self.inside.tags c.take_events-least.result c.self.invariant.2 least

pub invariant_of-self : goal.invariant_of-self
invariant_of-self c =
    let table = c.self.inside.groups.items in
    let keep = λ (e : Event). not (is_at table c.args.unit c.args.tag e) in
    let lines : c.take_events-least.new.lines ≡ map (filter keep) c.self.inside.lines = c.take_events-least.ensures.lines ∙ ap (λ gs. map (filter (λ (e : Event). not (is_at gs c.args.unit c.args.tag e))) c.self.inside.lines) c.as_slice.ensures.value in
    let loose : c.take_events-least.new.loose.items ≡ filter keep c.self.inside.loose.items = c.take_events-least.ensures.loose ∙ ap (λ gs. filter (λ (e : Event). not (is_at gs c.args.unit c.args.tag e)) c.self.inside.loose.items) c.as_slice.ensures.value in
    let least : c.take_events-least.result ≡ least_from table c.args.unit None (all_of c.take_events-least.new.lines ++ c.take_events-least.new.loose.items) = c.take_events-least.ensures.least ∙ ap (λ gs. least_from gs c.args.unit None (all_of c.take_events-least.new.lines ++ c.take_events-least.new.loose.items)) c.as_slice.ensures.value in (
      left_kept table c.args.unit c.args.tag c.self.inside.lines c.take_events-least.new.lines c.self.inside.loose.items c.take_events-least.new.loose.items c.self.invariant.0 lines loose,
      omega (arith, c.take_events-least.ensures.len, c.take_events-least.ensures.capacity, c.self.invariant.1),
      left_known table c.args.unit c.args.tag c.self.inside.lines c.take_events-least.new.lines c.self.inside.loose.items c.take_events-least.new.loose.items c.self.invariant.0 lines loose
          c.self.inside.tags c.set.new.self c.take_events-least.result c.self.invariant.2 least c.set.ensures.tags c.set.ensures.len,
    )

pub returns-clause-inputs : goal.returns-clause-inputs
returns-clause-inputs c = λ g are.
    let table = c.self.inside.groups.items in
    let events = all_of c.self.inside.lines ++ c.self.inside.loose.items in
    let groups : table ≡ c.args.self.now.groups = ap (λ (v : Queued). v.groups) c.self.view_is in
    let waits = view_waits table c.self.inside.lines c.self.inside.loose.items c.args.self.now.events c.self.invariant.0 (ap (λ (v : Queued). v.events) c.self.view_is) in
    c.take_events-least.ensures.inputs
    ∙ ap (λ gs. eight (λ p. when (group_in gs c.args.unit.actor p == c.args.unit.group) (waiting_in events c.args.unit.actor p c.args.tag))) c.as_slice.ensures.value
    ∙ inputs_whole g table c.args.unit c.args.tag (waiting_in events) (subst (AreGroups g) (sym groups) are)
    ∙ ap (λ w. unit_inputs g w c.args.unit c.args.tag) (sym waits)

pub returns-clause-waits : goal.returns-clause-waits
returns-clause-waits c = λ g are.
    let table = c.self.inside.groups.items in
    let groups : table ≡ c.args.self.now.groups = ap (λ (v : Queued). v.groups) c.self.view_is in
    ap₂ (λ lines loose. waiting_in (all_of (with_events lines loose)))
    (c.take_events-least.ensures.lines ∙ ap (λ gs. map (filter (λ (e : Event). not (is_at gs c.args.unit c.args.tag e))) c.self.inside.lines) c.as_slice.ensures.value)
    (c.take_events-least.ensures.loose ∙ ap (λ gs. filter (λ (e : Event). not (is_at gs c.args.unit c.args.tag e)) c.self.inside.loose.items) c.as_slice.ensures.value)
    ∙ removed_waits g table c.args.unit c.args.tag c.self.inside.lines c.self.inside.loose.items (subst (AreGroups g) (sym groups) are) c.self.invariant.0
    ∙ ap (λ (v : Queued). without_unit g (waiting_in v.events) c.args.unit c.args.tag) c.self.view_is
