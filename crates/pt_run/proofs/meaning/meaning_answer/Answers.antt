use Rattle.pt_run.proofs.Asks.{cycle_asks}
use Rattle.pt_run.specs.Asks.{AsksOver}
use Rattle.std.proofs.Common.{[], Some, subst, sym, refl}
use Rattle.std.specs.Prelude.{string_bytes}
use Rattle.pt_causality.specs.Ranked.{level_of}
use Rattle.pt_sensor_files.specs.declared.recorded_fault.LateRows.TheVariants.{Taken}
use Rattle.pt_run.specs.Due.{AfterRows, IsMeantBy}
use Rattle.pt_run.proofs.Endings.{free_due}
use Rattle.pt_run.proofs.meaning.meaning_answer.Goals as goal

pub returns-in-Ok-clause-due : goal.returns-in-Ok-clause-due
returns-in-Ok-clause-due g c =
    free_due string_bytes c.meaning_text.result c.args.graph.now (level_of c.in-Ok.ranks) _ (λ a. AfterRows Taken (g.S.Source.contents c.args.source.now) c.args.graph.now [] a (λ rows. IsMeantBy c.args.graph.now rows a)) c.in-Ok.ensures.levels c.meaning_text.ensures.due

pub returns-in-Err-clause-asks : goal.returns-in-Err-clause-asks
returns-in-Err-clause-asks g c =
    subst (λ e. AsksOver (Some e) [] c.args.graph.now.actors [] (g.S.Source.asked c.args.source.now) (g.S.Source.asked c.args.source.now)) (sym c.fault_of_cycle.ensures) (cycle_asks c.args.graph.now.actors [] (g.S.Source.asked c.args.source.now) (g.S.Source.asked c.args.source.now) c.in-Err.fault refl)
