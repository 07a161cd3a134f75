use Rattle.std.proofs.Common.{◌-◌, drop, length, map, string_bytes, take}
use Rattle.pt_words.proofs.Numbers.{few_in_result}
use Rattle.pt_words.proofs.words.order.Goals as goal

pub returns-in-Some-clause-few : goal.returns-in-Some-clause-few
returns-in-Some-clause-few c =
    let words = c.args.words.now in
    few_in_result c.in-Some.verb (map string_bytes (take (length words - 1) (drop 1 words))) c.order_with.result c.order_with.ensures
