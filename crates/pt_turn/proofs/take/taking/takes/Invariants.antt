use Rattle.std.proofs.Common.{◌≡◌, ◌+◌, ◌≤◌, ◌++◌, false, take, vec_len, vec_capacity}
use Rattle.pt_semantics.specs.Taking.{Takes}
use Rattle.pt_turn.specs.Fields.State.{state_of, IsSound}
use Rattle.pt_turn.proofs.Takes.Messages.{IsFrame}
use Rattle.pt_turn.proofs.take.taking.takes.Given as goal

abbrev pub invariant-loop-message : goal.invariant-loop-message
invariant-loop-message g l = record {
  sound : IsSound l.graph l.fields;
  appended : l.kept.items ≡ l.fn.kept.items ++ take l.message-index l.messages;
  takes : Takes l.graph g.basis.level g.basis.platform (state_of l.fn.fields g.basis.taken) (take l.message-index l.messages) false (state_of l.fields (g.basis.taken ++ take l.message-index l.messages));
  kept : vec_len l.kept ≤ vec_len l.fn.kept + l.message-index;
  kept_room : vec_capacity l.fn.kept ≤ vec_capacity l.kept;
  events : l.fn.fields.queue.spare ≤ l.fields.queue.spare + l.message-index;
  groups : l.fields.queue.groups ≡ l.fn.fields.queue.groups;
  frame : IsFrame l.fn.fields l.fields;
}
