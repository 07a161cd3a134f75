use Rattle.pt_make.proofs.Entries.{AreFirst}
use Rattle.pt_make.proofs.rows.made_rows.Given as goal

abbrev pub invariant-loop-actor : goal.invariant-loop-actor
invariant-loop-actor l = AreFirst l.number l.all.items l.actor
