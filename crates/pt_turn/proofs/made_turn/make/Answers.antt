use Rattle.std.proofs.Common.{◌++◌, length, sym, ap, subst}
use Rattle.pt_turn.specs.declared.claim_step.TurnEnd.{TurnEnd}
use Rattle.pt_turn.specs.Steps.{took_late, turn_of}
use Rattle.pt_turn.specs.Fields.State.{state_of}
use Rattle.pt_turn.specs.Faults.{IsFaultOf}
use Rattle.pt_turn.specs.Platforms.{messages_of}
use Rattle.pt_turn.proofs.Lateness.{turn_late}
use Rattle.pt_turn.proofs.TakenEnds.{are_flagged, marks_turn}
use Rattle.pt_turn.proofs.made_turn.make.Goals as goal

pub keep_last-progress-requires-clause-late : goal.keep_last-progress-requires-clause-late
keep_last-progress-requires-clause-late g c =
    let made = c.turn-ending.ensures.made in
    λ e. turn_late c.args.setup.now.plan.now.graph g.basis.level g.basis.platform (state_of c.args.progress.now.fields g.basis.taken) (state_of c.turn-ending.new.fields (g.basis.taken ++ c.turn-ending.new.lists.taken.items)) (turn_of c.args.reading c.args.dones.now c.turn-ending.new.lists) (took_late c.turn-ending.result) (ap took_late e) made.turn

pub returns-in-On-clause-kept : goal.returns-in-On-clause-kept
returns-in-On-clause-kept g c = record {
  lists = c.turn-ending.new.lists;
  ending = c.turn-ending.result;
  made = c.turn-ending.ensures.made;
  full = c.turn-ending.ensures.full;
  names = subst (λ (ending : TurnEnd). IsFaultOf c.args.setup.now.plan.now.graph c.args.progress.now.fields.reading c.turn-ending.new.lists.taken.items ending c.args.progress.now.fault) (sym c.in-On.is) c.requires.1.1.1.0;
  turns = c.keep.ensures.turns;
  tasks = c.keep.ensures.tasks;
}

pub returns-in_default-clause-kept : goal.returns-in_default-clause-kept
returns-in_default-clause-kept g c = record {
  lists = c.turn-ending.new.lists;
  ending = c.turn-ending.result;
  made = c.turn-ending.ensures.made;
  full = c.turn-ending.ensures.full;
  names = c.keep_last-progress.ensures.fault;
  turns = c.keep_last-progress.ensures.turns;
  tasks = c.keep_last-progress.ensures.tasks;
}

pub mark-requires : goal.mark-requires
mark-requires g c = record {
  links = are_flagged c.args.setup.now.plan.now.graph g.basis c.args.progress.now.ended (messages_of c.args.progress.now.history.turns) c.args.messages.now c.turn-ending.new.lists.taken.items c.as_slice.result.now (took_late c.turn-ending.result) c.requires.0.arrive c.turn-ending.ensures.made.taken c.requires.1.1.1.1.1 c.as_slice.ensures.value;
}

pub returns-in-On-clause-ended : goal.returns-in-On-clause-ended
returns-in-On-clause-ended g c =
    marks_turn (length c.args.setup.now.plan.now.graph.links) c.args.progress.now.ended c.mark.new.self c.args.progress.now.history.turns c.keep.new.history.turns (turn_of c.args.reading c.args.dones.now c.turn-ending.new.lists) c.as_slice.result.now c.requires.1.1.1.1.1 c.mark.ensures.len c.mark.ensures.flags c.as_slice.ensures.value c.keep.ensures.turns

pub returns-in_default-clause-ended : goal.returns-in_default-clause-ended
returns-in_default-clause-ended g c =
    marks_turn (length c.args.setup.now.plan.now.graph.links) c.args.progress.now.ended c.mark.new.self c.args.progress.now.history.turns c.keep_last-progress.new.history.turns (turn_of c.args.reading c.args.dones.now c.turn-ending.new.lists) c.as_slice.result.now c.requires.1.1.1.1.1 c.mark.ensures.len c.mark.ensures.flags c.as_slice.ensures.value c.keep_last-progress.ensures.turns
