use Rattle.pt_turn.proofs.made_turn.make.Given as goal

abbrev pub ghost-turn : goal.ghost-turn
ghost-turn g a = g.basis
