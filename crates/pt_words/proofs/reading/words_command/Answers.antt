use Rattle.std.proofs.Common.{◌≡◌, codes, ap, ◌∙◌, subst}
use Rattle.std.specs.Prelude.{IfOk}
use Rattle.clap.specs.Words.{app_of, with_rule}
use Rattle.pt_words.specs.App.{flag_rule, graph_rule, option_rule}
use Rattle.pt_words.proofs.reading.words_command.Goals as goal

pub returns : goal.returns
returns c =
    let workers = c.in_ok-command.ensures ∙ ap (λ a. with_rule a (option_rule (codes "workers"))) c.bare_command.ensures in
    let clock = c.in_ok-command-2.ensures ∙ ap (λ a. with_rule a (option_rule (codes "clock"))) workers in
    let claims = c.in_ok-command-3.ensures ∙ ap (λ a. with_rule a (option_rule (codes "claims"))) clock in
    let log = c.in_ok-command-4.ensures ∙ ap (λ a. with_rule a (flag_rule (codes "log"))) claims in
    record { app = subst (λ a. IfOk c.with_graph.result (λ k. app_of k ≡ with_rule a graph_rule)) log c.with_graph.ensures }
