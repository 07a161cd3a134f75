-- A result that is written over the last of a list.
use Rattle.std.proofs.Common.{◌≡◌, ◌∙◌, ℕ, List, [], ◌∷◌, ◌++◌, length, get_or, set, ap, ap₂}
use Rattle.std.proofs.Math.Seq.{set-append_seam, get_or-append_seam}
use Rattle.pt_types.specs.declared.kind.Kind.{Kind}
use Rattle.pt_types.specs.declared.firing.Task.{Task}
use Rattle.pt_types.specs.declared.firing.Done.{Done}
use Rattle.pt_semantics.specs.Firing.{fired}
use Rattle.pt_actors.specs.Fired.{IsFiredOnto}

pub onto : (kind : Kind) (task : Task) (before now : List Done) (n : ℕ) (blank there done : Done) → now ≡ before ++ blank ∷ [] → n ≡ length before → blank.task ≡ task
    → there ≡ get_or now n there → done.task ≡ there.task → done.fired ≡ fired kind there.task.state there.task.inputs → IsFiredOnto kind task before (set now n done)
onto kind task before now n blank there done appended at is found same gives =
    let last : there ≡ blank = found ∙ ap₂ (λ xs i. get_or xs i there) appended at ∙ get_or-append_seam before blank [] there in
    let whole : done.task ≡ task = same ∙ ap (λ (d : Done). d.task) last ∙ is in
    let result : done.fired ≡ fired kind task.state task.inputs = gives ∙ ap (λ (d : Done). fired kind d.task.state d.task.inputs) last ∙ ap (λ (t : Task). fired kind t.state t.inputs) is in
    let both : done ≡ record { task = task; fired = fired kind task.state task.inputs } = λ i. record { task = whole i; fired = result i } in
    ap₂ (λ xs i. set xs i done) appended at ∙ set-append_seam before blank [] done ∙ ap (λ d. before ++ d ∷ []) both
