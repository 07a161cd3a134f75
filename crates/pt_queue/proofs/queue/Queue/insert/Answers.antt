use Rattle.std.proofs.Common.{◌≡◌, ◌<◌, None, [], ◌∷◌, ◌++◌, length, ap, ap₂, sym, subst, ◌∙◌, arith}
use Rattle.pt_semantics.specs.Meaning.{added}
use Rattle.pt_queue.specs.Events.{waiting_in, value_in, IsPlaced, Queued}
use Rattle.pt_queue.specs.Lines.{AreKept, all_of, joined_by, with_events}
use Rattle.pt_queue.specs.Tagged.{AreTags, FitsIn}
use Rattle.pt_queue.specs.Scans.{unit_in}
use Rattle.pt_queue.proofs.Flat.{line_kept, loose_pushed, waits_joined, waits_loose}
use Rattle.pt_queue.proofs.Following.{least_joined, least_loose}
use Rattle.pt_queue.proofs.Known.{tags_more, unit_fits}
use Rattle.pt_queue.proofs.queue.Queue.insert.Goals as goal

pub returns-in-Ok-clause-waits : goal.returns-in-Ok-clause-waits
returns-in-Ok-clause-waits c =
    let table = c.self.inside.groups.items in
    let placed : IsPlaced table c.args.event = record { actor = subst (λ (v : Queued). c.args.event.actor < length v.groups) (sym c.self.view_is) c.requires.actor; port = c.requires.port } in
    ap₂ (λ lines loose. waiting_in (all_of (with_events lines loose))) c.if-not-push.ensures c.in-Ok.ensures.items
    ∙ waits_loose table c.self.inside.lines c.self.inside.loose.items c.args.event c.self.invariant.0 placed
    ∙ ap (λ (v : Queued). added (waiting_in v.events) (value_in c.args.event)) c.self.view_is

pub returns-else-not-push-clause-waits : goal.returns-else-not-push-clause-waits
returns-else-not-push-clause-waits c =
    let table = c.self.inside.groups.items in
    let placed : IsPlaced table c.args.event = record { actor = subst (λ (v : Queued). c.args.event.actor < length v.groups) (sym c.self.view_is) c.requires.actor; port = c.requires.port } in
    let absent : waiting_in (all_of (with_events c.self.inside.lines c.self.inside.loose.items)) c.args.event.actor c.args.event.port c.args.event.tag ≡ None = subst (λ (v : Queued). waiting_in v.events c.args.event.actor c.args.event.port c.args.event.tag ≡ None) (sym c.self.view_is) c.requires.absent in
    ap (λ lines. waiting_in (all_of (with_events lines c.self.inside.loose.items))) c.if-not-push.ensures
    ∙ waits_joined table c.self.inside.lines c.self.inside.loose.items c.args.event c.self.invariant.0 placed absent
    ∙ ap (λ (v : Queued). added (waiting_in v.events) (value_in c.args.event)) c.self.view_is

pub lower-requires : goal.lower-requires
lower-requires c =
    let table = c.self.inside.groups.items in
    let placed : IsPlaced table c.args.event = record { actor = subst (λ (v : Queued). c.args.event.actor < length v.groups) (sym c.self.view_is) c.requires.actor; port = c.requires.port } in
    subst (FitsIn (length c.self.inside.tags)) (sym (c.unit_of-unit.ensures ∙ ap (λ gs. unit_in gs c.args.event) c.as_slice.ensures.value)) (unit_fits table c.args.event (length c.self.inside.tags) c.self.invariant.2.few c.self.invariant.2.room placed)

pub invariant_of-self : goal.invariant_of-self
invariant_of-self c =
    let table = c.self.inside.groups.items in
    let placed : IsPlaced table c.args.event = record { actor = subst (λ (v : Queued). c.args.event.actor < length v.groups) (sym c.self.view_is) c.requires.actor; port = c.requires.port } in
    let lines : c.push.new.self ≡ c.self.inside.lines = c.if-not-push.ensures in
    let loose : c.push_back.new.self.items ≡ c.self.inside.loose.items ++ c.args.event ∷ [] = c.in-Ok.ensures.items in
    let unit : c.unit_of-unit.result ≡ unit_in table c.args.event = c.unit_of-unit.ensures ∙ ap (λ gs. unit_in gs c.args.event) c.as_slice.ensures.value in (
      subst (λ ls. AreKept table ls c.push_back.new.self.items) (sym lines) (subst (AreKept table c.self.inside.lines) (sym loose) (loose_pushed table c.self.inside.lines c.self.inside.loose.items c.args.event c.self.invariant.0 placed)),
      omega (arith, c.push_back.ensures.len, c.push_back.ensures.capacity, c.in-Ok.ensures.len, c.self.invariant.1, c.requires.spare),
      subst (λ ls. AreTags table (all_of (with_events ls c.push_back.new.self.items)) c.lower.new.self) (sym lines)
          (subst (λ es. AreTags table (all_of (with_events c.self.inside.lines es)) c.lower.new.self) (sym loose)
          (tags_more table (all_of (with_events c.self.inside.lines c.self.inside.loose.items)) (all_of (with_events c.self.inside.lines (c.self.inside.loose.items ++ c.args.event ∷ []))) c.self.inside.tags c.lower.new.self c.args.event c.unit_of-unit.result c.self.invariant.2 unit c.lower.ensures.tags c.lower.ensures.len
          (least_loose table c.self.inside.lines c.self.inside.loose.items c.args.event c.self.invariant.0 placed))),
    )

pub invariant_of-self-else-not-push : goal.invariant_of-self-else-not-push
invariant_of-self-else-not-push c =
    let table = c.self.inside.groups.items in
    let placed : IsPlaced table c.args.event = record { actor = subst (λ (v : Queued). c.args.event.actor < length v.groups) (sym c.self.view_is) c.requires.actor; port = c.requires.port } in
    let lines : c.push.new.self ≡ joined_by c.self.inside.lines c.args.event = c.if-not-push.ensures in
    let unit : c.unit_of-unit.result ≡ unit_in table c.args.event = c.unit_of-unit.ensures ∙ ap (λ gs. unit_in gs c.args.event) c.as_slice.ensures.value in
    let kept : AreKept table (joined_by c.self.inside.lines c.args.event) c.self.inside.loose.items = line_kept table c.self.inside.lines c.args.event c.self.inside.loose.items c.self.invariant.0 placed in (
      subst (λ ls. AreKept table ls c.self.inside.loose.items) (sym lines) kept,
      omega (arith, c.self.invariant.1, c.requires.spare),
      subst (λ ls. AreTags table (all_of (with_events ls c.self.inside.loose.items)) c.lower.new.self) (sym lines)
          (tags_more table (all_of (with_events c.self.inside.lines c.self.inside.loose.items)) (all_of (with_events (joined_by c.self.inside.lines c.args.event) c.self.inside.loose.items)) c.self.inside.tags c.lower.new.self c.args.event c.unit_of-unit.result c.self.invariant.2 unit c.lower.ensures.tags c.lower.ensures.len
          (least_joined table c.self.inside.lines c.self.inside.loose.items c.args.event c.self.invariant.0 placed kept)),
    )
