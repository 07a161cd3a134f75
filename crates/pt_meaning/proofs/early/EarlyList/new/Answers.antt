use Rattle.pt_meaning.proofs.Earlies.{same_sorted, each_permuted, rising_sorted}
use Rattle.pt_meaning.specs.Early.{IsEarly}
use Rattle.pt_meaning.proofs.early.EarlyList.new.Goals as goal

pub returns-clause-waits : goal.returns-clause-waits
returns-clause-waits c = λ rank actors each. same_sorted rank actors c.args.events.items c.sort.new.events.items each c.in_ok-sort.ensures.permutation c.in_ok-sort.ensures.stable

pub returns-clause-orderly : goal.returns-clause-orderly
returns-clause-orderly c = λ rank actors each. record {
  placed = each_permuted (IsEarly rank actors) c.args.events.items c.sort.new.events.items c.in_ok-sort.ensures.permutation each;
  rising = rising_sorted c.sort.new.events.items c.in_ok-sort.ensures.sorted;
}
