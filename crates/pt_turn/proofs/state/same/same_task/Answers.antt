use Rattle.std.proofs.Common.{◌≡◌, ◌&&◌, ◌==◌, List, Option, ℤ, Bool, refl, sym, ap, ap₂, ◌∙◌, int_eq}
use mathlib.Core.Bool.{beq}
use Rattle.std.specs.Bool.{Decides}
use Rattle.std.specs.Cmp.{booleans_Decides}
use lib.Pointwise.{pointwise}
use Rattle.std.proofs.lemmas.Bool.Decides.{Decides-and, Decides-like, Decides-int_eq, Decides-eqb, Decides-at}
use Rattle.std.proofs.lemmas.Slice.Eq.{slice_eq-Decides}
use Rattle.pt_types.specs.declared.firing.Task.{Task}
use Rattle.pt_types.specs.Apart.{are_there, together, values_or_zero}
use Rattle.pt_types.proofs.Eight.{together_all}
use Rattle.pt_turn.proofs.state.same.same_task.Goals as goal

abbrev same_ports : List (Option ℤ) → List (Option ℤ) → Bool
same_ports a b = pointwise beq (are_there a) (are_there b) && pointwise int_eq (values_or_zero a) (values_or_zero b)

ports_decide : (a b : List (Option ℤ)) → Decides (same_ports a b) (a ≡ b)
ports_decide a b =
    Decides-like _
    (λ h. sym (together_all a) ∙ ap₂ together h.0 h.1 ∙ together_all b)
    (λ e. (ap are_there e, ap values_or_zero e))
    (Decides-and (pointwise beq (are_there a) (are_there b)) _
    (slice_eq-Decides booleans_Decides (are_there a) (are_there b) (pointwise beq (are_there a) (are_there b)) refl)
    (slice_eq-Decides Decides-int_eq (values_or_zero a) (values_or_zero b) (pointwise int_eq (values_or_zero a) (values_or_zero b)) refl))

task_decides : (a b : Task) → Decides (a.number == b.number && (a.actor == b.actor && ((a.tag.time == b.tag.time && a.tag.step == b.tag.step) && (same_ports a.inputs b.inputs && int_eq a.state b.state)))) (a ≡ b)
task_decides a b =
    Decides-like _
    (λ h i. record { number = h.0 i; actor = h.1.0 i; tag = record { time = h.1.1.0.0 i; step = h.1.1.0.1 i }; inputs = h.1.1.1.0 i; state = h.1.1.1.1 i })
    (λ e. (ap (λ (t : Task). t.number) e, (ap (λ (t : Task). t.actor) e, ((ap (λ (t : Task). t.tag.time) e, ap (λ (t : Task). t.tag.step) e), (ap (λ (t : Task). t.inputs) e, ap (λ (t : Task). t.state) e)))))
    (Decides-and (a.number == b.number) _ (Decides-eqb a.number b.number)
    (Decides-and (a.actor == b.actor) _ (Decides-eqb a.actor b.actor)
    (Decides-and (a.tag.time == b.tag.time && a.tag.step == b.tag.step) _ (Decides-and (a.tag.time == b.tag.time) (a.tag.step == b.tag.step) (Decides-eqb a.tag.time b.tag.time) (Decides-eqb a.tag.step b.tag.step))
    (Decides-and (same_ports a.inputs b.inputs) (int_eq a.state b.state) (ports_decide a.inputs b.inputs) (Decides-int_eq a.state b.state)))))

pub returns : goal.returns
returns c = Decides-at c.eq.result _ c.eq.ensures (task_decides c.args.a.now c.args.b.now)
