use Rattle.std.proofs.Common.{◌≡◌, Some, None, rules, OnOk}
use Rattle.std.proofs.lemmas.Result.{IfOk-weaker}
use Rattle.std.specs.BTreeMap as tree
use Rattle.pt_meaning.specs.Waiting.{place_cmp}
use Rattle.pt_meaning.specs.Front.{Replaces}
use Rattle.pt_meaning.proofs.Places.{enters_new, enters_again}
use Rattle.pt_meaning.proofs.later.Later.enter.Goals as goal

pub returns-in-None : goal.returns-in-None
returns-in-None c =
    let absent : tree.get place_cmp c.args.self.now.events c.args.place ≡ None = search rules in
    let puts : Replaces c.args.place c.args.value (tree.get place_cmp c.args.self.now.events) (tree.get place_cmp c.insert.new.self) = search rules in
    enters_new c.args.place c.args.value (tree.get place_cmp c.args.self.now.events) (tree.get place_cmp c.insert.new.self) absent puts

pub returns-in-Some : goal.returns-in-Some
returns-in-Some c =
    let was : tree.get place_cmp c.args.self.now.events c.args.place ≡ Some c.in-Some.first = search rules in
    let puts : Replaces c.args.place c.args.value (tree.get place_cmp c.args.self.now.events) (tree.get place_cmp c.insert.new.self) = search rules in
    let back : OnOk c.put_back.result (Replaces c.args.place c.in-Some.first (tree.get place_cmp c.insert.new.self) (tree.get place_cmp c.put_back.new.self.events)) = search rules in
    IfOk-weaker c.put_back.result _ _ (λ u h. enters_again c.args.place c.args.value c.in-Some.first (tree.get place_cmp c.args.self.now.events) (tree.get place_cmp c.insert.new.self) (tree.get place_cmp c.put_back.new.self.events) was puts h) back
