use Rattle.std.proofs.Common.{OnOk, rules}
use Rattle.std.proofs.lemmas.Result.{IfOk-weaker}
use Rattle.pt_meaning.specs.Front.{Enters}
use Rattle.pt_meaning.specs.Held.{late_value}
use Rattle.pt_meaning.proofs.Places.{waits_add, sound_add}
use Rattle.pt_meaning.proofs.late.Late.add.Goals as goal

pub returns-clause-waits : goal.returns-clause-waits
returns-clause-waits c =
    let entered : OnOk c.put.result (Enters c.args.place c.args.value (late_value c.args.self.now) (late_value c.put.new.self)) = search rules in
    IfOk-weaker c.put.result _ _ (λ u h rank ranked. waits_add rank c.args.place c.args.value (late_value c.args.self.now) (late_value c.put.new.self) ranked h) entered

pub returns-clause-sound : goal.returns-clause-sound
returns-clause-sound c =
    let entered : OnOk c.put.result (Enters c.args.place c.args.value (late_value c.args.self.now) (late_value c.put.new.self)) = search rules in
    IfOk-weaker c.put.result _ _ (λ u h rank actors steps placed was. sound_add rank actors steps c.args.place c.args.value (late_value c.args.self.now) (late_value c.put.new.self) placed h was) entered
