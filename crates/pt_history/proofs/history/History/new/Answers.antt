use Rattle.std.proofs.Common.{◌≡◌, length, ap, sym, ◌∙◌, arith}
use Rattle.pt_types.specs.declared.firing.Done.{Done}
use Rattle.pt_types.specs.declared.firing.Task.{Task}
use Rattle.pt_history.specs.Lists.{RoomyLists}
use Rattle.pt_history.proofs.history.History.new.Goals as goal

pub invariant_of-result : goal.invariant_of-result
invariant_of-result c =
    let none : length c.new.result.items ≡ 0 = ap length c.new.ensures.items in
    record {
      heads = omega arith;
      posted = record { lists = ap (λ (p : RoomyLists Done). length p.lists) c.new-2.ensures.posted ∙ sym none; turns_fit = omega arith; items_fit = omega arith };
      rows = record { lists = ap length c.new-3.ensures.lists ∙ sym none; turns_fit = omega arith; items_fit = omega arith };
      taken = record { lists = ap length c.new-4.ensures.lists ∙ sym none; turns_fit = omega arith; items_fit = omega arith };
      claimed = record { lists = ap (λ (p : RoomyLists Task). length p.lists) c.new-2.ensures.claimed ∙ sym none; turns_fit = omega arith; items_fit = omega arith };
      sent = record { lists = ap length c.new-5.ensures.lists ∙ sym none; turns_fit = omega arith; items_fit = omega arith };
      quiet = record { of_last = λ k at. absurd (omega (arith, none, at)); of_before = λ k at. absurd (omega (arith, none, at)) };
    }
