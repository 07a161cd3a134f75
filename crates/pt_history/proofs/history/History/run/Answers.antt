use Rattle.std.proofs.Common.{true, false, ◌≡◌, ◌<◌, ◌≤◌, ◌+◌, ◌-◌, ◌^◌, length, subst, sym, ◌∙◌, arith, ℕ}
use Rattle.std.proofs.lemmas.Option.{get_or_from_slice_get}
use Rattle.pt_semantics.specs.Kept.{settled}
use Rattle.pt_history.specs.Keeping.{Joins, turns_from}
use Rattle.pt_history.specs.Recents.{EndWith}
use Rattle.pt_history.specs.Turns.{RoomyTurns}
use Rattle.pt_history.specs.declared.head.Head.{Head}
use Rattle.pt_history.specs.Whole.{lists_of}
use Rattle.pt_history.proofs.Joining.{settled_short, stays_unless, stays_first, stays_second, stays_full, joins_run}
use Rattle.pt_history.proofs.Quietness.{told_at}
use Rattle.pt_history.proofs.Reading.{length-turns}
use Rattle.pt_history.proofs.history.History.run.Goals as goal

pub returns-then-not-self : goal.returns-then-not-self
returns-then-not-self c =
    let p = lists_of c.self.inside in
    let heads = c.self.inside.heads.items in
    let turns = turns_from p 0 heads in
    let many : length turns ≡ length heads = length-turns p 0 heads in
    subst (λ (v : RoomyTurns). settled v.turns ≡ v.turns) c.self.view_is
    (stays_unless turns
    (λ n at. stays_first turns n at (told_at p n heads false (omega (arith, many, at)) (sym c.if-not-self.true ∙ c.self.invariant.quiet.of_before n (at ∙ many)))))

pub returns-then-not-self-2 : goal.returns-then-not-self-2
returns-then-not-self-2 c =
    let p = lists_of c.self.inside in
    let heads = c.self.inside.heads.items in
    let turns = turns_from p 0 heads in
    let many : length turns ≡ length heads = length-turns p 0 heads in
    subst (λ (v : RoomyTurns). settled v.turns ≡ v.turns) c.self.view_is
    (stays_unless turns
    (λ n at.
    stays_second turns n at
    (told_at p n heads true (omega (arith, many, at)) (sym c.if-not-self.false ∙ c.self.invariant.quiet.of_before n (at ∙ many)))
    (told_at p (n + 1) heads false (omega (arith, many, at)) (sym c.if-not-self-2.true ∙ c.self.invariant.quiet.of_last (n + 1) (omega (arith, many, at))))))

pub returns-in-None : goal.returns-in-None
returns-in-None c =
    let p = lists_of c.self.inside in
    let heads = c.self.inside.heads.items in
    let many : length (turns_from p 0 heads) ≡ length heads = length-turns p 0 heads in
    let few : length heads < 2 = c.in-None.ensures in
    subst (λ (v : RoomyTurns). settled v.turns ≡ v.turns) c.self.view_is (settled_short (turns_from p 0 heads) (omega (arith, many, few)))

pub returns-in-None-checked_add : goal.returns-in-None-checked_add
returns-in-None-checked_add c =
    let p = lists_of c.self.inside in
    let heads = c.self.inside.heads.items in
    let x = c.in-Some.before in
    let y = c.in-Some.last in
    let e : EndWith heads x y = c.in-Some.ensures in
    let none : x.count + y.count < 18446744073709551616 → ⊥ = c.in-None-checked_add.ensures in
    let much : 2 ^ 64 ≤ x.count + y.count = omega (arith, none) in
    subst (λ (v : RoomyTurns). settled v.turns ≡ v.turns) c.self.view_is
    (stays_full p e.number heads x y e.are_last (sym (get_or_from_slice_get heads e.number x x e.before_is)) (sym (get_or_from_slice_get heads (e.number + 1) y y e.last_is)) much)

pub returns-in-Some-checked_add : goal.returns-in-Some-checked_add
returns-in-Some-checked_add c =
    let p = lists_of c.self.inside in
    let heads = c.self.inside.heads.items in
    let x = c.in-Some.before in
    let y = c.in-Some.last in
    let e : EndWith heads x y = c.in-Some.ensures in
    let n = e.number in
    let sum : (x.count + y.count < 18446744073709551616) × (c.in-Some-checked_add.count ≡ x.count + y.count) = c.in-Some-checked_add.ensures in
    let fits : c.in-Some-checked_add.count < 2 ^ 64 = omega (arith, sum.0, sum.1) in
    let run : Head = record { first = x.first; last = y.last; count = c.in-Some-checked_add.count } in
    let joins : Joins c.args.self.now.turns n run =
    subst (λ (v : RoomyTurns). Joins v.turns n run) c.self.view_is
    (joins_run p n c.in-Some-checked_add.count heads x y e.are_last (sym (get_or_from_slice_get heads n x x e.before_is)) (sym (get_or_from_slice_get heads (n + 1) y y e.last_is))
    (told_at p n heads true (omega (arith, e.are_last)) (sym c.if-not-self.false ∙ c.self.invariant.quiet.of_before n e.are_last))
    (told_at p (n + 1) heads true (omega (arith, e.are_last)) (sym c.if-not-self-2.false ∙ c.self.invariant.quiet.of_last (n + 1) (omega (arith, e.are_last))))
    sum.1 fits) in
    let same : n ≡ length c.args.self.now.turns - 2 = omega (arith, joins.are_last) in
    subst (λ (k : ℕ). Joins c.args.self.now.turns k run) same joins
