use Rattle.std.proofs.Common.{ℕ, ◌≡◌, ◌∙◌, ◌++◌, suc, ◌+◌, ap, filter_map, option_to_list, sym, arith}
use Rattle.std.specs.List.{range_with_len}
use Rattle.pt_turn.specs.Live.{empty_entry}
use Rattle.pt_turn.proofs.Live.{one_more}
use Rattle.pt_turn.proofs.live_entries.empty_entries.Goals as goal

pub loop-actor-preserved : goal.loop-actor-preserved
loop-actor-preserved c =
    c.in_ok-add.ensures
    ∙ ap (λ z. z ++ option_to_list c.empty_entry.result) c.loop-actor.invariant
    ∙ ap (λ o. filter_map (empty_entry c.args.graph.now c.args.number) (range_with_len 0 c.loop-actor.actor) ++ option_to_list o) c.empty_entry.ensures
    ∙ ap (λ n. filter_map (empty_entry c.args.graph.now c.args.number) (range_with_len 0 c.loop-actor.actor) ++ option_to_list (empty_entry c.args.graph.now c.args.number n)) (same c.loop-actor.actor)
    ∙ sym (one_more (empty_entry c.args.graph.now c.args.number) 0 c.loop-actor.actor)
    ∙ ap (λ n. filter_map (empty_entry c.args.graph.now c.args.number) (range_with_len 0 n)) (next c.loop-actor.actor)
  where
    same : (n : ℕ) → n ≡ 0 + n
    same n = omega arith

    next : (n : ℕ) → suc n ≡ n + 1
    next n = omega arith
