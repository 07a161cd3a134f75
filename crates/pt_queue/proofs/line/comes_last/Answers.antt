use Rattle.std.proofs.Common.{◌≡◌, ◌-◌, ◌<◌, length, refl, arith, sym, ◌∙◌}
use Rattle.std.specs.VecDeque.{deque_len}
use Rattle.pt_queue.proofs.Rising.{all_before, ahead}
use Rattle.pt_queue.proofs.line.comes_last.Goals as goal

pub returns-in-Some : goal.returns-in-Some
returns-in-Some c = λ h.
    let some : 0 < deque_len c.args.events.now = c.in-Some.ensures.variant.0 refl in
    let len : deque_len c.args.events.now ≡ length c.args.events.now.items = c.args.events.now.ok.0 in
    all_before c.args.tag c.args.events.now.items (deque_len c.args.events.now - 1) c.in-Some.last.now c.requires (omega (arith, some, len)) c.in-Some.ensures.lookup (ahead c.in-Some.last.now.tag c.args.tag (sym c.is_before.ensures.test ∙ h))
