use Rattle.std.proofs.Common.{◌≡◌, length, sym, ap, w64, [], ◌++◌, slice_index_or, slice_set, ◌∙◌, arith}
use Rattle.std.proofs.lemmas.Result.{on_ok_weaker}
use Rattle.std.proofs.lemmas.Int.{to_z-of_z}
use Rattle.pt_semantics.specs.Tables.{line}
use Rattle.pt_tables.proofs.Gathering.{line_added, line_left_out, table_there}
use Rattle.pt_tables.proofs.actor_tables.ActorTables.push.Goals as goal
use Rattle.pt_tables.proofs.actor_tables.ActorTables.push.Goals.{then-not-has_table-via-then-not-has_table, then-not-has_table-via-else-not-has_table+then-number-len}

pub returns-then-not-has_table : goal.returns-then-not-has_table
returns-then-not-has_table c = λ xs x are is.
    elim c.then-not-has_table.branch [
      | then-not-has_table-via-then-not-has_table w ↦ line_left_out c.args.actors.now xs x c.args.actor c.args.tag c.args.value c.args.self.now are is (sym c.has_table.ensures ∙ w.if-not-has_table.true)
      | then-not-has_table-via-else-not-has_table+then-number-len w ↦
          let there = table_there c.args.actors.now xs c.args.actor c.args.self.now are (sym c.has_table.ensures ∙ w.if-not-has_table.false) in
          let same : length c.self.inside.tables.items ≡ length c.args.self.now = ap length c.self.view_is in
          absurd (omega (arith, there, same))
    ]

pub returns : goal.returns
returns c = λ xs x are is.
    on_ok_weaker c.push_line.result (λ put.
    line_added c.args.actors.now xs x c.args.actor c.args.tag c.args.value c.args.self.now c.push_line.new.self c.index-actors-number.result c.as_str.result.now are is
    (sym c.has_table.ensures ∙ c.if-not-has_table.false) c.index-actors-number.is c.as_str.ensures (put ∙ ap (λ v. slice_set c.args.self.now c.args.actor (slice_index_or c.args.self.now c.args.actor [] ++ line c.as_str.result.now c.args.tag v)) (to_z-of_z w64 c.args.value c.ranges.value))) c.push_line.ensures
