use Rattle.pt_causality.specs.Ranked.{level_of}
use Rattle.pt_turn.specs.Platforms.{messages_of}
use Rattle.pt_turn.proofs.platform.Platform.turn.Given as goal

abbrev pub ghost-make : goal.ghost-make
ghost-make a = record { level = level_of a.setup.now.plan.now.ranks; platform = a.setup.now.number; taken = messages_of a.progress.now.history.turns }
