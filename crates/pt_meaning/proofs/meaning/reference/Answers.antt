use Rattle.pt_meaning.proofs.Runnable.{runnable}
use Rattle.pt_meaning.proofs.meaning.reference.Goals as goal

pub run-requires-clause-runnable : goal.run-requires-clause-runnable
run-requires-clause-runnable g c = runnable c.args.graph.now c.requires.lawful
