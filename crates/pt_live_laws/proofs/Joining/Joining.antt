-- Processes of platforms, joined by pipes.
use Rattle.std.proofs.Common.{◌≡◌, ◌<◌, ◌==◌, ◌++◌, ℕ, List, [], Some, refl, if◌then◌else◌, false, true, length, sym, ap, subst, ◌∙◌, ⊎_elim, append_assoc, eqb-true}
use Rattle.std.proofs.lemmas.Bool.{cases_Bool, cond-true, cond-false}
use Rattle.std.specs.Prelude.{slice_get}
use Rattle.pt_tags.specs.declared.message.Message.{Message}
use Rattle.pt_types.specs.declared.graph.Graph.{Graph}
use Rattle.pt_types.specs.declared.graph.Link.{Link}
use Rattle.pt_types.specs.declared.rows.Row.{Row}
use Rattle.pt_types.specs.Lookups.{platform_of}
use Rattle.pt_semantics.specs.History.{IsLegal, Legal}
use Rattle.pt_semantics.specs.Linked.{AreLinked, AreMatched, all_sent, all_taken}
use Rattle.pt_semantics.specs.Platform.{State, opened}
use Rattle.pt_semantics.specs.Rows.{FitRows}
use Rattle.pt_semantics.specs.Turn.{Turn}
use Rattle.pt_laws.proofs.Confluent.{confluence}
use Rattle.pt_fixed_order_laws.proofs.Whole.{linked_if_finished}
use Rattle.pt_live_laws.specs.Joining.Machines.{HasServed, MachinesJoin, joined}

-- a platform opens with its own rows
opened_joined : (g : Graph) (rows : ℕ → ℕ → List Row) (i : ℕ) → opened g i (joined g rows) ≡ opened g i (rows i)
opened_joined g rows i = λ k. record (opened g i (rows i)) { left = λ a. own a k }
  where
    own : (a : ℕ) → (if platform_of g a == i then rows (platform_of g a) a else []) ≡ (if platform_of g a == i then rows i a else [])
    own a = ⊎_elim
        (λ (t : (platform_of g a == i) ≡ true).
        cond-true (platform_of g a == i) (rows (platform_of g a) a) [] t ∙ ap (λ n. rows n a) (eqb-true (platform_of g a) i t) ∙ sym (cond-true (platform_of g a == i) (rows i a) [] t))
        (λ (f : (platform_of g a == i) ≡ false). cond-false (platform_of g a == i) (rows (platform_of g a) a) [] f ∙ sym (cond-false (platform_of g a == i) (rows i a) [] f))
        (cases_Bool (platform_of g a == i))

pub machines_join : MachinesJoin
machines_join g level rank rows came went histories ends xs wired are ranks served delivers means =
    let fits : FitRows g (joined g rows) = record {
      fit = λ a. (served (platform_of g a) (wired.homes a)).fit.fit a;
      in_order = λ a. (served (platform_of g a) (wired.homes a)).fit.in_order a;
      times = λ a. (served (platform_of g a) (wired.homes a)).fit.times a;
    } in
    let matched : AreMatched g histories = λ l link at.
    let from = served (platform_of g link.from) (wired.homes link.from) in
    let to = served (platform_of g link.to) (wired.homes link.to) in
    let pipe = delivers l link at in
    let took = to.took l link at refl in
    (took.0 ++ pipe.0, from.sent l link at refl ∙ pipe.1 ∙ ap (λ z. z ++ pipe.0) took.1 ∙ append_assoc (all_taken l (histories (platform_of g link.to))) took.0 pipe.0) in
    let legal : (i : ℕ) → i < length g.platforms → IsLegal g level i (joined g rows) (histories i) (ends i) = λ i lt. record {
      leads = subst (λ z. Legal g level i z (histories i) (ends i)) (sym (opened_joined g rows i)) (served i lt).legal.leads;
      counted = (served i lt).legal.counted;
      joined = (served i lt).legal.joined;
    } in
    let linked : AreLinked g histories = linked_if_finished g level (joined g rows) histories ends wired are fits legal (λ i lt. (served i lt).finished) matched in
    (linked, confluence g level rank (joined g rows) histories ends xs wired are ranks fits legal (λ i lt. (served i lt).finished) linked means)
