use Rattle.std.proofs.Common.{◌≡◌, ◌≤◌, arith, is_ok, rules, true}
use Rattle.pt_replay_laws.proofs.Arriving.{NeverFall-push}
use Rattle.pt_replay.proofs.airway.airway.Airway.put.Goals as goal

-- the arrival is not before the latest one
pub invariant_of-self-2 : goal.invariant_of-self-2
invariant_of-self-2 c =
    let pushed : is_ok c.push_back.result ≡ true = search rules in
    let items = rw pushed at c.push_back.ensures.items in
    let later : c.self.inside.latest ≤ c.max-arrives.result = omega (arith, c.max-arrives.ensures) in
    rw items (NeverFall-push 0 c.self.inside.on_way.items c.self.inside.latest c.max-arrives.result c.args.message c.self.invariant later)
