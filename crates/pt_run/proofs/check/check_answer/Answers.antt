use Rattle.std.specs.Prelude.{string_bytes}
use Rattle.std.specs.declared.alloc.Global.{Global}
use Rattle.pt_causality.specs.Ranked.{level_of}
use Rattle.pt_run.specs.Due.{AfterOffsets, OnlyPuts}
use Rattle.pt_run.specs.Written.{IsChecked}
use Rattle.pt_run.proofs.Endings.{free_due}
use Rattle.pt_run.proofs.check.check_answer.Goals as goal

pub returns-in-Ok : goal.returns-in-Ok
returns-in-Ok c = λ contents r.
    free_due (string_bytes {Z = Global}) c.check_text.result c.args.graph.now (level_of c.in-Ok._ranks) r (λ a. AfterOffsets c.args.graph.now a (OnlyPuts a (IsChecked c.args.graph.now))) c.in-Ok.ensures.levels (c.check_text.ensures r)
