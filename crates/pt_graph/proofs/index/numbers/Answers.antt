use Rattle.std.proofs.Common.{◌∙◌, sym, ap, arith}
use Rattle.std.proofs.Math.Path.{fun_ext}
use Rattle.std.proofs.lemmas.List.{take_all}
use Rattle.pt_graph.specs.Known.{first_named}
use Rattle.pt_graph.specs.Index.{at_name}
use Rattle.pt_graph.proofs.Numbers.{put_name, keep_name}
use Rattle.pt_graph.proofs.index.numbers.Goals as goal
use Rattle.pt_graph.proofs.index.numbers.Goals.{then-not-contains_key+in_ok-insert, else-not-contains_key}

-- the name was put in, or it was there
pub loop-i-preserved : goal.loop-i-preserved
loop-i-preserved g c = elim c.if-not-contains_key.branch [
  | then-not-contains_key+in_ok-insert w ↦ λ n. ap (λ m. at_name m n) w.numbers-is ∙ put_name g.T.HasName.name_of c.args.items.now c.loop-i.i c.index-items-i.result c.name-name.result.now c.loop-i.numbers w.insert.new.self (omega arith)
      (c.name-name.ensures ∙ ap g.T.HasName.name_of c.index-items-i.is)
      c.loop-i.invariant
      (sym c.contains_key.ensures ∙ w.if-not-contains_key.true)
      w.in_ok-insert.ensures.updates n
  | else-not-contains_key w ↦ λ n. ap (λ m. at_name m n) w.numbers-is ∙ keep_name g.T.HasName.name_of c.args.items.now c.loop-i.i c.index-items-i.result c.name-name.result.now c.loop-i.numbers (omega arith)
      (c.name-name.ensures ∙ ap g.T.HasName.name_of c.index-items-i.is)
      c.loop-i.invariant
      (sym c.contains_key.ensures ∙ w.if-not-contains_key.false)
      n
]

-- the map and the list give each name the same number
pub returns : goal.returns
returns g c = fun_ext (λ n. c.loop-i.invariant n ∙ ap (λ xs. first_named g.T.HasName.name_of xs n) (take_all c.loop-i.i c.args.items.now c.loop-i-test.false))
