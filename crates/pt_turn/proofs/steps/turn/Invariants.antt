use Rattle.pt_turn.proofs.steps.turn.Given as goal

abbrev pub ghost-takes : goal.ghost-takes
ghost-takes g a = g.basis
