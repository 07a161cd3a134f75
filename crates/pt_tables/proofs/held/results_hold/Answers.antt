use Rattle.std.proofs.Common.{◌≡◌, ℕ, ◌+◌, ◌-◌, ◌<◌, ◌≤◌, Some, ap, length, refl, slice_get, sym, ◌∙◌, ⊎_elim, arith, take}
use Rattle.std.specs.Prelude.{flat_map, option_map}
use Rattle.std.proofs.lemmas.Bool.{cases_lt}
use Rattle.std.proofs.lemmas.Option.{slice_get_within}
use Rattle.pt_types.specs.declared.firing.Done.{Done}
use Rattle.pt_semantics.specs.Turn.{Turn}
use Rattle.pt_semantics.proofs.Lookups.{same_some}
use Rattle.pt_history.specs.Tasks.{mark_of}
use Rattle.pt_history.specs.Turns.{all_dated, Dated, posted_in}
use Rattle.pt_history.specs.declared.claims.Mark.{Mark}
use Rattle.pt_tables.specs.Held.{IsHeldResult}
use Rattle.pt_tables.proofs.Members.{each_of}
use Rattle.pt_tables.proofs.Parts.{is_there, posted_item, posted_more}
use Rattle.pt_tables.proofs.held.results_hold.Goals as goal

pub loop-number-preserved : goal.loop-number-preserved
loop-number-preserved c = λ k mark below is.
    let n = c.loop-number.number in
    let all = all_dated c.args.history.now.turns in
    let f = λ (dated : Dated). mark_of dated.done.task in
    ⊎_elim
    (λ (lt : k < n). c.loop-number.invariant k mark lt is)
    (λ (ge : n ≤ k).
    let here : k ≡ n = omega (arith, below, ge) in
    let same : c.result_mark-mark.result ≡ mark = same_some c.result_mark-mark.result mark (sym c.result_mark-mark.ensures ∙ ap (λ m. option_map f (slice_get all m)) (sym here) ∙ is) in
    omega (arith, ap (λ (m : Mark). m.number) same, c.result_mark-mark.type_inv))
    (cases_lt k n)

pub returns : goal.returns
returns c = λ turn lt.
    let turns = c.args.history.now.turns in
    let f = λ (dated : Dated). mark_of dated.done.task in
    let from : ℕ = length (flat_map (λ (t : Turn). t.posted) (take turn turns)) in
    let end : ℕ = length (flat_map (λ (t : Turn). t.posted) (take (turn + 1) turns)) in
    each_of IsHeldResult (posted_in turns turn) (λ j done at.
    let inside : j < end - from = omega (arith, slice_get_within (posted_in turns turn) j done at, posted_more turns turn lt) in
    let (other, is) = posted_item turns turn from end j lt refl refl inside in
    let (dated, there) = is_there (all_dated turns) (from + j) is.within in
    let marked : option_map f (slice_get (all_dated turns) (from + j)) ≡ Some (f dated) = ap (option_map f) there in
    let number : other.task.number ≡ dated.done.task.number = ap (λ (m : Mark). m.number) (is.mark (f dated) marked) in
    let same : done ≡ other = same_some done other (sym at ∙ is.own) in
    let past : from + j < c.loop-number.number = omega (arith, is.within, c.results-number-end.ensures, c.loop-number-test.false) in
    omega (arith, ap (λ (d : Done). d.task.number) same, number, c.loop-number.invariant (from + j) (f dated) past marked))
