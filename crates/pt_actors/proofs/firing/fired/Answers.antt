use Rattle.std.proofs.Common.{◌≡◌, subst, IsTrue}
use Rattle.pt_types.specs.Kinds.{kind_is_lawful}
use Rattle.pt_types.specs.declared.kind.Kind.{Kind}
use Rattle.pt_types.specs.declared.kind.Kind.TheVariants.{Machine}
use Rattle.pt_actors.proofs.Guards.{guards}
use Rattle.pt_actors.proofs.firing.fired.Goals as goal

pub machine-requires : goal.machine-requires
machine-requires g c = λ k d less.
    let is : c.args.kind.now ≡ Machine c.in-Machine.start c.in-Machine.outputs c.in-Machine.rows = c.in-Machine.is in
    let P : Kind → Type 0 = λ kind. IsTrue (kind_is_lawful kind) in
    let lawful : IsTrue (kind_is_lawful (Machine c.in-Machine.start c.in-Machine.outputs c.in-Machine.rows)) = subst P is c.requires in
    guards c.in-Machine.start c.in-Machine.outputs c.in-Machine.rows c.as_slice.result.now k d c.as_slice.ensures lawful less
