use Rattle.std.proofs.Common.{◌∙◌}
use Rattle.std.proofs.lemmas.Str.{IsUtf8-from_ascii}
use Rattle.pt_formula_file.proofs.adding.name_of.Goals as goal

pub returns : goal.returns
returns c = c.new.ensures ∙ c.in_ok-text.ensures.ok (IsUtf8-from_ascii c.args.letters.now c.requires)
