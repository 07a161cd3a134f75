use Rattle.std.proofs.Common.{rules, ◌≡◌, ℕ, List, refl, string_bytes, subst}
use Rattle.std.specs.Arc.{arc_value}
use Rattle.pt_types.specs.declared.rows.Row.{Row}
use Rattle.pt_offsets.specs.Plans.{Parts}
use Rattle.pt_confluence.specs.Gathered.{AreTables, HaveFinished}
use Rattle.pt_run.proofs.Finished.{text_of_outputs}
use Rattle.pt_run.proofs.outputs.all_outputs.Goals as goal

pub returns : goal.returns
returns c =
    let plan = arc_value c.args.plan.now in
    let platforms = c.args.platforms.items in
    let text : List ℕ = string_bytes c.in_ok-tables.tables in
    let same : c.deref.result.now ≡ plan = search rules in
    let tables : (rows : ℕ → List Row) → HaveFinished plan rows platforms → AreTables plan rows text =
    subst (λ ps. (rows : ℕ → List Row) → HaveFinished plan rows ps → AreTables plan rows text) c.as_slice.ensures.value
    (subst (λ (p : Parts). (rows : ℕ → List Row) → HaveFinished p rows c.as_slice.result.now → AreTables p rows text) same c.in_ok-tables.ensures) in
    record {
      platforms_are = refl;
      text = text_of_outputs plan c.args.log platforms text tables;
      held = search rules;
      misses = search rules;
      lines = search rules;
    }
