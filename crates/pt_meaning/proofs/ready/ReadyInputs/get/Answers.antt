use Rattle.std.proofs.Common.{◌≡◌, ◌<◌, length, sym, subst}
use Rattle.pt_meaning.specs.Ready.{ports_at}
use Rattle.pt_meaning.proofs.ready.ReadyInputs.get.Goals as goal

pub returns-clause-len : goal.returns-clause-len
returns-clause-len c =
    subst (λ xs. length (ports_at xs c.args.position) ≡ 8) c.self.view_is
    (c.self.invariant.eight c.args.position (subst (λ xs. c.args.position < length xs) (sym c.self.view_is) c.requires))
