-- Claims: one more, and the claim of a number.
use Rattle.std.proofs.Common.{◌≡◌, ℕ, zero, suc, ◌<◌, Some, Option, ℤ, List, [], ◌∷◌, ◌++◌, refl, sym, ap, ap₂, ◌∙◌, arith, length, get_or}
use Rattle.std.specs.Prelude.{option_map, slice_get}
use Rattle.pt_types.specs.declared.firing.Task.{Task}
use Rattle.pt_history.specs.declared.claims.Mark.{Mark}
use Rattle.pt_history.specs.Cells.{cells_of}
use Rattle.pt_history.specs.Tasks.{mark_of, task_of_cells, tasks_of_cells}
use Rattle.pt_history.proofs.Filling.{ports_back, state_back}
use Rattle.pt_semantics.proofs.Lookups.{none_some, same_some}

pub length-tasks : (ms : List Mark) (cs : List (List (Option ℤ))) → length ms ≡ length cs → length (tasks_of_cells ms cs) ≡ length ms
length-tasks [] cs e = refl
length-tasks (m ∷ ms) [] e = absurd (omega arith)
length-tasks (m ∷ ms) (c ∷ cs) e = ap suc (length-tasks ms cs (omega arith))

-- a claim is that of its mark and its cells
pub task_back : (task : Task) (m : Mark) → m ≡ mark_of task → length task.inputs ≡ 8 → task_of_cells m (cells_of task.inputs task.state) ≡ task
task_back task m is h =
    ap (λ (k : Mark). task_of_cells k (cells_of task.inputs task.state)) is
    ∙ (λ i. record { number = task.number; actor = task.actor; tag = task.tag; inputs = ports_back task.inputs task.state h i; state = state_back task.inputs task.state h i })

one_more : (ms : List Mark) (cs : List (List (Option ℤ))) (m : Mark) (c : List (Option ℤ)) → length ms ≡ length cs → tasks_of_cells (ms ++ m ∷ []) (cs ++ c ∷ []) ≡ tasks_of_cells ms cs ++ task_of_cells m c ∷ []
one_more [] [] m c e = refl
one_more [] (d ∷ cs) m c e = absurd (omega arith)
one_more (n ∷ ms) [] m c e = absurd (omega arith)
one_more (n ∷ ms) (d ∷ cs) m c e = ap (λ ts. task_of_cells n d ∷ ts) (one_more ms cs m c (omega arith))

pub tasks_push : (ms new_ms : List Mark) (cs new_cs : List (List (Option ℤ))) (m : Mark) (task : Task) → length ms ≡ length cs → m ≡ mark_of task → length task.inputs ≡ 8
    → new_ms ≡ ms ++ m ∷ [] → new_cs ≡ cs ++ cells_of task.inputs task.state ∷ [] → tasks_of_cells new_ms new_cs ≡ tasks_of_cells ms cs ++ task ∷ []
tasks_push ms new_ms cs new_cs m task e is h ms_are cs_are =
    ap₂ tasks_of_cells ms_are cs_are ∙ one_more ms cs m (cells_of task.inputs task.state) e ∙ ap (λ t. tasks_of_cells ms cs ++ t ∷ []) (task_back task m is h)

pub tasks_get : (ms : List Mark) (cs : List (List (Option ℤ))) (i : ℕ) (m : Mark) (c : List (Option ℤ)) → i < length ms → m ≡ get_or ms i m → slice_get cs i ≡ Some c → slice_get (tasks_of_cells ms cs) i ≡ Some (task_of_cells m c)
tasks_get [] cs i m c lt is at = absurd (omega arith)
tasks_get (n ∷ ms) [] i m c lt is at = absurd (none_some c at)
tasks_get (n ∷ ms) (d ∷ cs) zero m c lt is at = ap₂ (λ x y. Some (task_of_cells x y)) (sym is) (same_some d c at)
tasks_get (n ∷ ms) (d ∷ cs) (suc i) m c lt is at = tasks_get ms cs i m c (omega arith) is at

pub marks_get : (ms : List Mark) (cs : List (List (Option ℤ))) (i : ℕ) (m : Mark) → length ms ≡ length cs → i < length ms → m ≡ get_or ms i m → option_map mark_of (slice_get (tasks_of_cells ms cs) i) ≡ Some m
marks_get [] cs i m e lt is = absurd (omega arith)
marks_get (n ∷ ms) [] i m e lt is = absurd (omega arith)
marks_get (n ∷ ms) (d ∷ cs) zero m e lt is = ap Some (sym is)
marks_get (n ∷ ms) (d ∷ cs) (suc i) m e lt is = marks_get ms cs i m (omega arith) (omega arith) is
