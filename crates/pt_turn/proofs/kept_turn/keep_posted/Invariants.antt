use Rattle.std.proofs.Common.{◌≡◌, ◌-◌, take}
use Rattle.pt_history.specs.Lists.{on_last}
use Rattle.pt_history.specs.Turns.{posting}
use Rattle.pt_turn.specs.Posts.Posted.{picked}
use Rattle.pt_turn.proofs.kept_turn.keep_posted.Given as goal

abbrev pub invariant-loop-place : goal.invariant-loop-place
invariant-loop-place l = record {
  turns : l.history.turns ≡ on_last (posting (picked l.dones (take l.place-index l.place-items))) l.fn.history.turns;
  room : l.history.room ≡ record l.fn.history.room { posted = l.fn.history.room.posted - l.place-index };
}
