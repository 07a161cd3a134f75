use Rattle.std.proofs.Common.{◌∙◌, sym, ap, arith}
use Rattle.std.specs.Prelude.{is_some}
use Rattle.pt_graph.proofs.Numbers.{put_name, other_name, same_name}
use Rattle.pt_graph.proofs.index.repeated.Goals as goal

-- the map has the name of the item at hand, so an earlier item has it
pub returns-then-contains_key : goal.returns-then-contains_key
returns-then-contains_key g c =
    same_name g.T.HasName.name_of c.args.items.now c.loop-i.i c.index-items-i.result c.name-name.result.now (omega arith)
    (c.name-name.ensures ∙ ap g.T.HasName.name_of c.index-items-i.is)
    (sym (ap is_some (c.loop-i.invariant.seen c.name-name.result.now)) ∙ (sym c.contains_key.ensures ∙ c.if-contains_key.true))
    ∙ c.loop-i.invariant.left

pub loop-i-preserved : goal.loop-i-preserved
loop-i-preserved g c = record {
  seen = put_name g.T.HasName.name_of c.args.items.now c.loop-i.i c.index-items-i.result c.name-name.result.now c.loop-i.numbers c.insert.new.self (omega arith)
      (c.name-name.ensures ∙ ap g.T.HasName.name_of c.index-items-i.is)
      c.loop-i.invariant.seen
      (sym c.contains_key.ensures ∙ c.if-contains_key.false)
      c.in_ok-insert.ensures.updates;
  left = other_name g.T.HasName.name_of c.args.items.now c.loop-i.i c.index-items-i.result c.name-name.result.now (omega arith)
      (c.name-name.ensures ∙ ap g.T.HasName.name_of c.index-items-i.is)
      (sym (ap is_some (c.loop-i.invariant.seen c.name-name.result.now)) ∙ (sym c.contains_key.ensures ∙ c.if-contains_key.false))
      ∙ c.loop-i.invariant.left;
}
