use Rattle.std.proofs.Common.{◌∙◌}
use Rattle.pt_formula.proofs.Lexed.{past_blank, past_word, whole}
use Rattle.pt_formula.proofs.lexer.lex.Goals as goal

pub loop-at-preserved-in-Blank : goal.loop-at-preserved-in-Blank
loop-at-preserved-in-Blank c = past_blank c.args.text.now c.loop-at.at c.loop-at.words.items (whole c.args.text.now c.loop-at.at _ c.in-Blank.ensures.lexeme) ∙ c.loop-at.invariant

pub loop-at-preserved : goal.loop-at-preserved
loop-at-preserved c =
    past_word c.args.text.now c.loop-at.at c.in-Word.len c.max-at.result c.in-Word.word c.loop-at.words.items c.add.new.words.items c.max-at.ensures
    (whole c.args.text.now c.loop-at.at _ c.in-Word.ensures.lexeme) c.in_ok-add-in-Word.ensures
    ∙ c.loop-at.invariant
