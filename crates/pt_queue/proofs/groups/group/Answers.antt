use Rattle.std.proofs.Common.{◌≡◌, ◌≤◌, arith}
use Rattle.pt_semantics.specs.Units.{groups}
use Rattle.pt_types.specs.Groups.{input_group}
use Rattle.pt_queue.proofs.Tables.{input_few}
use Rattle.pt_queue.proofs.groups.group.Goals as goal

pub overflow_cast-result : goal.overflow_cast-result
overflow_cast-result c =
    let few : groups c.args.kind.now ≤ 8 = c.requires.few in
    let less : input_group c.args.kind.now c.args.input ≤ groups c.args.kind.now = input_few c.args.kind.now c.args.input in
    let is : c.input_group.result ≡ input_group c.args.kind.now c.args.input = c.input_group.ensures in
    omega (arith, few, less, is)
