use Rattle.std.proofs.Common.{◌≡◌, ◌++◌, ◌∷◌, [], List, ℕ, ap, codes, ◌∙◌}
use Rattle.std.specs.Fmt.{decimal}
use Rattle.pt_tables.proofs.Written.{turn_put}
use Rattle.pt_tables.proofs.turn_line.write_turn_line.Goals as goal

pub returns : goal.returns
returns c = λ platform is.
    let count : c.field.new.self ≡ 44 ∷ (decimal c.args.count ++ (10 ∷ [])) = c.field.ensures.value ∙ ap (λ (l : List ℕ). 44 ∷ (decimal c.args.count ++ l)) c.end.ensures in
    let last : c.field-2.new.self ≡ 44 ∷ (decimal c.args.last ++ (44 ∷ (decimal c.args.count ++ (10 ∷ [])))) = c.field-2.ensures.value ∙ ap (λ (l : List ℕ). 44 ∷ (decimal c.args.last ++ l)) count in
    let rest : c.number.new.self ≡ decimal c.args.first ++ (44 ∷ (decimal c.args.last ++ (44 ∷ (decimal c.args.count ++ (10 ∷ []))))) = c.number.ensures.value ∙ ap (λ (l : List ℕ). decimal c.args.first ++ l) last in
    c.put_short.ensures ∙ ap (λ (l : List ℕ). l ++ c.number.new.self) is ∙ ap (λ (l : List ℕ). (codes "turn," ++ platform ++ 44 ∷ []) ++ l) rest ∙ turn_put platform c.args.first c.args.last c.args.count
