use Rattle.std.proofs.Common.{◌≡◌, ◌↔◌, ℕ, None, true, length, refl, subst}
use Rattle.pt_tags.specs.declared.tag.Tag.{Tag}
use Rattle.pt_queue.specs.Events.{Queued, waiting_in}
use Rattle.pt_queue.specs.Lines.{all_of, with_events}
use Rattle.pt_queue.proofs.Found.{empty_waits}
use Rattle.pt_queue.proofs.Known.{empty_exactly}
use Rattle.pt_queue.proofs.queue.Queue.is_empty.Goals as goal

pub returns : goal.returns
returns c =
    let events = all_of (with_events c.self.inside.lines c.self.inside.loose.items) in
    subst (λ (v : Queued). (c.is_none.result ≡ true) ↔ ((a p : ℕ) (t : Tag) → waiting_in v.events a p t ≡ None)) c.self.view_is
    (empty_waits events (length events) c.is_none.result refl
    (empty_exactly c.self.inside.groups.items events c.self.inside.tags c.first_waiting.result c.is_none.result c.is_none.ensures c.self.invariant.2 c.first_waiting.ensures))
