use Rattle.std.proofs.Common.{◌∙◌, ◌+◌, ◌<◌, ◌∷◌, [], ℕ, List, sym, ap, arith, length, length-append, take, add-one}
use Rattle.pt_types.specs.declared.firing.ActorFiring.{ActorFiring}
use Rattle.pt_make.specs.Summary.{actuations, last_firing}
use Rattle.pt_make.proofs.Actuations.{after_none, after_one, last_push}
use Rattle.pt_make.proofs.sums.count_actuations.Goals as goal
use Rattle.pt_make.proofs.sums.count_actuations.Goals.{in-Some, in_default}

pub loop-number-preserved : goal.loop-number-preserved
loop-number-preserved c =
    let xs : List ActorFiring = c.args.firings.now in
    let i : ℕ = c.loop-number.number in
    let within : c.loop-number.number < length c.args.firings.now = omega (arith, c.len-number-end.ensures) in
    elim c.match-actuation.branch [
      | in-Some w ↦
          let more = ap (λ n. actuations (take n xs)) (add-one i) ∙ after_one xs i w.in-Some.firing within (sym c.actuation.ensures ∙ w.in-Some.is) in
          record {
            few = omega (arith, w.count-is);
            count = w.count-is ∙ ap (λ n. n + 1) c.loop-number.invariant.count ∙ sym (ap length more ∙ length-append (actuations (take i xs)) (w.in-Some.firing ∷ []));
            last = w.last-is ∙ sym (ap last_firing more ∙ last_push (actuations (take i xs)) w.in-Some.firing);
          }
      | in_default w ↦
          let same = ap (λ n. actuations (take n xs)) (add-one i) ∙ after_none xs i within (sym c.actuation.ensures ∙ w.in_default.is) in
          record {
            few = omega (arith, w.count-is);
            count = w.count-is ∙ c.loop-number.invariant.count ∙ sym (ap length same);
            last = w.last-is ∙ c.loop-number.invariant.last ∙ sym (ap last_firing same);
          }
    ]
