use Rattle.std.proofs.Common.{rules, ◌≡◌, ◌∙◌, List, [], Some, length, nat_le, filter, sym, ap, eq-eqb, eqb-true, vec_len}
use Rattle.std.proofs.lemmas.Bool.{false≢true}
use Rattle.std.proofs.lemmas.Fn.{filter_same}
use Rattle.pt_types.specs.declared.rows.Row.{Row}
use Rattle.pt_turn.specs.Sharing.{if_some}
use Rattle.pt_turn.proofs.Shares.{no_members, some_rows}
use Rattle.pt_turn.proofs.rows_by_platform.cut.Goals as goal

pub returns-then-is_empty : goal.returns-then-is_empty
returns-then-is_empty c =
    let left = filter_same _ (λ (row : Row). nat_le row.time c.args.graph.now.until) _ (λ x b f' k. search rules) _ _ c.retain.ensures.filtered in
    let len : vec_len c.retain.new.self ≡ 0 = eqb-true (vec_len c.retain.new.self) 0 (sym c.is_empty.ensures ∙ c.if-is_empty.true) in
    let none : c.retain.new.self.items ≡ [] = no_members c.retain.new.self.items (sym c.retain.new.self.ok.0 ∙ len) in
    ap (if_some c.args.entry.actor) (sym none ∙ (left ∙ ap (filter (λ (row : Row). nat_le row.time c.args.graph.now.until)) c.into_vec-rows.ensures))

pub returns : goal.returns
returns c =
    let left = filter_same _ (λ (row : Row). nat_le row.time c.args.graph.now.until) _ (λ x b f' k. search rules) _ _ c.retain.ensures.filtered in
    ap (λ (rows : List Row). Some (record { actor = c.args.entry.actor; rows = rows })) c.new.ensures
    ∙ some_rows c.args.entry.actor c.retain.new.self.items (λ none. false≢true (sym c.if-is_empty.false ∙ (c.is_empty.ensures ∙ eq-eqb (vec_len c.retain.new.self) 0 (c.retain.new.self.ok.0 ∙ ap length none))))
    ∙ ap (if_some c.args.entry.actor) (left ∙ ap (filter (λ (row : Row). nat_le row.time c.args.graph.now.until)) c.into_vec-rows.ensures)
