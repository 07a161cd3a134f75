use Rattle.std.proofs.Common.{◌≡◌, ◌<◌, ◌-◌, ◌∙◌, Some, None, length, set, sym, subst, arith}
use Rattle.std.proofs.lemmas.List.{get_or_default}
use Rattle.pt_semantics.proofs.Lookups.{none_some}
use Rattle.pt_turn.specs.declared.state.slots.Slot.{Slot}
use Rattle.pt_turn.specs.Fields.Slots.{IsChain, Stays, slot_at}
use Rattle.pt_turn.proofs.Fields.Chains.{Starts, no_slot, not_in, starts, stays_push, stays_set, within}
use Rattle.pt_turn.proofs.state.slots.put.Goals as goal

pub returns-then-free-eq0-clause-others : goal.returns-then-free-eq0-clause-others
returns-then-free-eq0-clause-others c = λ l k n h.
    subst (λ ns. Stays c.args.slots.now.items ns (Some l) k n) (sym c.push_reserved.ensures.items) (stays_push c.args.slots.now.items (Some l) k n _ h)

pub returns-then-free-eq0-clause-apart : goal.returns-then-free-eq0-clause-apart
returns-then-free-eq0-clause-apart c = λ l k n h i.
    let below : c.len-place.result < length c.args.slots.now.items = (within c.args.slots.now.items (Some l) k n h c.len-place.result i).0 in
    absurd (omega (arith, below, c.len-place.ensures, c.args.slots.now.ok.0))

first : (c : goal.After-slots-1) → Starts c.args.slots.now.items None c.args.free.now.first c.args.free.now.count
first c = starts c.args.slots.now.items None c.args.free.now.first c.args.free.now.count c.if-free-eq0.false c.requires.free

pub returns-clause-others : goal.returns-clause-others
returns-clause-others c = λ l k n h.
    stays_set c.args.slots.now.items (Some l) k n c.args.free.now.first _ h (not_in c.args.slots.now.items (Some l) None k n c.args.free.now.first h (first c).label (λ e. none_some l (sym e)))

pub returns-clause-apart : goal.returns-clause-apart
returns-clause-apart c = λ l k n h.
    not_in c.args.slots.now.items (Some l) None k n c.args.free.now.first h (first c).label (λ e. none_some l (sym e))

pub returns-clause-free : goal.returns-clause-free
returns-clause-free c =
    let ns = c.args.slots.now.items in
    let slot : Slot = record { message = c.args.message; link = Some c.args.link; next = 0 } in
    let start : Starts ns None c.args.free.now.first c.args.free.now.count = first c in
    let same : c.index.result.now ≡ slot_at ns c.args.free.now.first = c.index.ensures ∙ get_or_default ns c.args.free.now.first c.index.result.now no_slot start.within in
    subst (λ (s : Slot). IsChain (set ns c.args.free.now.first slot) None s.next (c.args.free.now.count - 1)) (sym same)
    (stays_set ns None (slot_at ns c.args.free.now.first).next (c.args.free.now.count - 1) c.args.free.now.first slot start.rest start.apart).chain
