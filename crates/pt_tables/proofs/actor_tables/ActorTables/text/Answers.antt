use Rattle.std.proofs.Common.{◌≡◌, ◌++◌, ◌∙◌, ap, rules, string_bytes}
use Rattle.std.specs.List.{concat}
use Rattle.pt_semantics.specs.Tables.{head}
use Rattle.pt_tables.proofs.Gathering.{all_texts}
use Rattle.pt_tables.proofs.actor_tables.ActorTables.text.Goals as goal

pub returns : goal.returns
returns c = λ g xs are.
    let written : string_bytes c.push_tables.new.text ≡ head ++ concat c.self.inside.tables.items = search rules in
    written ∙ ap (λ ts. head ++ concat ts) (c.self.view_is ∙ are) ∙ ap (λ t. head ++ t) (all_texts 0 g.actors xs)
