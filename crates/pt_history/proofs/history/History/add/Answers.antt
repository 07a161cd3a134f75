use Rattle.std.proofs.Common.{◌∷◌, [], ◌++◌, ap, ◌∙◌}
use Rattle.pt_history.specs.Heads.{single}
use Rattle.pt_history.specs.Keeping.{turns_from, Lists}
use Rattle.pt_history.specs.Turns.{RoomyTurns, fresh}
use Rattle.pt_history.specs.Whole.{lists_of}
use Rattle.pt_history.proofs.Growing.{turns_begin}
use Rattle.pt_history.proofs.history.History.add.Goals as goal

pub returns-clause-turns : goal.returns-clause-turns
returns-clause-turns c =
    let p = lists_of c.self.inside in
    let q : Lists = record { posted = c.begin.new.self.posted.lists; rows = c.begin-2.new.self.lists; taken = c.begin-3.new.self.lists; claimed = c.begin.new.self.claimed.lists; sent = c.begin-4.new.self.lists } in
    let inv = c.self.invariant in
    ap (λ hs. turns_from q 0 hs) c.push.ensures.items
    ∙ turns_begin p q c.self.inside.heads.items (single c.args.reading)
    (record { posted = inv.posted.lists; rows = inv.rows.lists; taken = inv.taken.lists; claimed = inv.claimed.lists; sent = inv.sent.lists })
    (record { posted = c.begin.ensures.posted; rows = c.begin-2.ensures.lists; taken = c.begin-3.ensures.lists; claimed = c.begin.ensures.claimed; sent = c.begin-4.ensures.lists })
    ∙ ap (λ (v : RoomyTurns). v.turns ++ fresh c.args.reading ∷ []) c.self.view_is
