use Rattle.std.proofs.Common.{◌<◌, ◌++◌, ◌∷◌, [], ◌∙◌, ap, arith, rules}
use Rattle.pt_links.proofs.Windows.{window_after_push}
use Rattle.pt_links.proofs.pipe.Pipe.push.Goals as goal

-- the write is behind the last message, since there is a place left
pub returns-clause-ok : goal.returns-clause-ok
returns-clause-ok c =
    let pipe = c.self.inside in
    let has_room : pipe.count < 64 = omega (arith, c.self.invariant.1, c.if-self-eq-PLACES.false) in
    window_after_push 64 _ _ pipe.places c.self.invariant.0 c.self.invariant.1 (search rules) c.args.message has_room
    ∙ ap (λ messages. messages ++ c.args.message ∷ []) c.self.view_is
