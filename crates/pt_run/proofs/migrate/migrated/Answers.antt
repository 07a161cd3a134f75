use Rattle.std.proofs.Common.{ℕ, List, inl, inr, ⊎_elim}
use Rattle.pt_io.specs.Calls.{SourceCall, reading}
use Rattle.pt_run.specs.declared.fault.Fault.TheVariants.{Memory}
use Rattle.pt_run.specs.Due.{OnlyPuts, RefusedWith}
use Rattle.pt_run.specs.Migrating.{IsMigrated}
use Rattle.pt_run.proofs.Endings.{past_file, text_due}
use Rattle.pt_run.proofs.GraphFiles.{usual_by}
use Rattle.pt_run.proofs.migrate.migrated.Goals as goal
use Rattle.pt_words.specs.Views.{file_in}

pub returns-in-Err-clause-due : goal.returns-in-Err-clause-due
returns-in-Err-clause-due g c =
    let contents = g.S.Source.contents c.args.source.now in
    let blocks = c.args.blocks.now.listed.items in
    λ a is out. past_file contents blocks (file_in c.args.graph_file) a.read a (λ z. OnlyPuts a (IsMigrated z blocks)) (c.in-Err.ensures.refused a is out)

pub returns-in-Ok-graph_line-clause-due : goal.returns-in-Ok-graph_line-clause-due
returns-in-Ok-graph_line-clause-due g c =
    let blocks = c.args.blocks.now.listed.items in
    let r : SourceCall = reading g.S.Source c.args.source.now c.graph_at.new.source in
    λ a is put. ⊎_elim (λ (out : RefusedWith Memory a). inl out) (λ (k : OnlyPuts a (IsMigrated c.in-Ok.graph blocks)). inr (inr (inr (c.in-Ok.graph, c.in-Ok.ensures.graph, k))))
    (text_due (λ (text : List ℕ). text) c.in-Ok-graph_line.line.items r (IsMigrated c.in-Ok.graph blocks) c.in-Ok-graph_line.ensures a is put)

pub graph_line-requires : goal.graph_line-requires
graph_line-requires g c =
    let (bytes, is) = c.in-Ok.ensures.defined in
    (bytes, usual_by c.args.blocks.now.listed.items (file_in c.args.graph_file) bytes c.in-Ok.graph c.requires is)
