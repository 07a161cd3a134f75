use Rattle.std.proofs.Common.{◌∙◌, ◌+◌, sym, ap, drop, map, string_bytes}
use Rattle.std.specs.List.{before_first}
use Rattle.pt_formula_file.specs.Option.{behind, found, is_equals, needs_value}
use Rattle.pt_formula_file.proofs.Behind.{no, past_value, past_word}
use Rattle.pt_formula_file.proofs.option.found.Goals as goal
use Rattle.pt_formula_file.proofs.option.found.Goals.{then-is_value+in_ok-keep-2, else-is_value+else-eq+else-eq-2+else-eq-3+in_ok-keep-3}

pub loop-at-preserved : goal.loop-at-preserved
loop-at-preserved c = elim c.if-is_value.branch [
  | then-is_value+in_ok-keep-2 w ↦
      ap (λ d. behind (map string_bytes c.if-is_value.before.items) (found d (map string_bytes (drop (c.loop-at.at + 1) c.args.words.now)))) w.is_value-is
      ∙ past_value c.args.words.now c.loop-at.at c.index-words-at.result (map string_bytes c.loop-at.before.items) (map string_bytes c.if-is_value.before.items) _ c.loop-at-test.true c.index-words-at.is
      (ap (λ r. map string_bytes r.items) w.before-is ∙ w.in_ok-keep-2.ensures)
      (ap (λ d. behind (map string_bytes c.loop-at.before.items) (found d (map string_bytes (drop c.loop-at.at c.args.words.now)))) (sym w.if-is_value.true) ∙ c.loop-at.invariant)
  | else-is_value+else-eq+else-eq-2+else-eq-3+in_ok-keep-3 w ↦
      ap (λ d. behind (map string_bytes c.if-is_value.before.items) (found d (map string_bytes (drop (c.loop-at.at + 1) c.args.words.now)))) (w.is_value-is ∙ w.needs_value-is_value.ensures ∙ ap needs_value w.as_str-else-eq-2-2.ensures.value)
      ∙ past_word c.args.words.now c.loop-at.at c.index-words-at.result (map string_bytes c.loop-at.before.items) (map string_bytes c.if-is_value.before.items) _ c.loop-at-test.true c.index-words-at.is
      (ap (λ r. map string_bytes r.items) w.before-is ∙ w.in_ok-keep-3.ensures)
      (no _ _ _ _ w.as_str.ensures.value w.eq.ensures w.if-eq.false)
      (no _ _ _ _ w.as_str-else-eq.ensures.value w.eq-else-eq.ensures w.if-eq-2.false)
      (no _ _ _ _ (w.halves.ensures.before ∙ ap (before_first is_equals) w.as_str-else-eq-2.ensures.value) w.eq-else-eq-2.ensures w.if-eq-3.false)
      (ap (λ d. behind (map string_bytes c.loop-at.before.items) (found d (map string_bytes (drop c.loop-at.at c.args.words.now)))) (sym w.if-is_value.false) ∙ c.loop-at.invariant)
]
