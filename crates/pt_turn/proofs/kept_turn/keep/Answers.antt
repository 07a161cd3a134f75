use Rattle.std.proofs.Common.{◌≡◌, List, [], ◌∷◌, ◌++◌}
use Rattle.pt_semantics.specs.Kept.{settled}
use Rattle.pt_semantics.specs.Turn.{Turn}
use Rattle.pt_history.specs.Turns.{claiming, entering, fresh, posting, taking}
use Rattle.pt_turn.specs.Posts.Posted.{picked}
use Rattle.pt_turn.proofs.Changing.{begun, changed}
use Rattle.pt_turn.proofs.kept_turn.keep.Goals as goal

pub keep_rows-requires-clause-begun : goal.keep_rows-requires-clause-begun
keep_rows-requires-clause-begun c =
    let before : List Turn = settled c.args.history.now.turns in
    let one : Turn = posting (picked c.args.dones.now c.args.lists.now.posted.items) (fresh c.args.reading) in
    begun c.keep_posted.new.history.turns before one (changed (posting (picked c.args.dones.now c.args.lists.now.posted.items)) c.begin.new.self.turns c.keep_posted.new.history.turns before (fresh c.args.reading) c.begin.ensures.turns c.keep_posted.ensures.turns)

pub keep_taken-requires-clause-begun : goal.keep_taken-requires-clause-begun
keep_taken-requires-clause-begun c =
    let before : List Turn = settled c.args.history.now.turns in
    let one : Turn = posting (picked c.args.dones.now c.args.lists.now.posted.items) (fresh c.args.reading) in
    let posted : c.keep_posted.new.history.turns ≡ before ++ one ∷ [] = changed (posting (picked c.args.dones.now c.args.lists.now.posted.items)) c.begin.new.self.turns c.keep_posted.new.history.turns before (fresh c.args.reading) c.begin.ensures.turns c.keep_posted.ensures.turns in
    begun c.keep_rows.new.history.turns before (entering c.args.lists.now.rows.items one) (changed (entering c.args.lists.now.rows.items) c.keep_posted.new.history.turns c.keep_rows.new.history.turns before one posted c.keep_rows.ensures.turns)

pub keep_claimed-requires-clause-begun : goal.keep_claimed-requires-clause-begun
keep_claimed-requires-clause-begun c =
    let before : List Turn = settled c.args.history.now.turns in
    let one : Turn = posting (picked c.args.dones.now c.args.lists.now.posted.items) (fresh c.args.reading) in
    let two : Turn = entering c.args.lists.now.rows.items one in
    let posted : c.keep_posted.new.history.turns ≡ before ++ one ∷ [] = changed (posting (picked c.args.dones.now c.args.lists.now.posted.items)) c.begin.new.self.turns c.keep_posted.new.history.turns before (fresh c.args.reading) c.begin.ensures.turns c.keep_posted.ensures.turns in
    let entered : c.keep_rows.new.history.turns ≡ before ++ two ∷ [] = changed (entering c.args.lists.now.rows.items) c.keep_posted.new.history.turns c.keep_rows.new.history.turns before one posted c.keep_rows.ensures.turns in
    begun c.keep_taken.new.history.turns before (taking c.args.lists.now.taken.items two) (changed (taking c.args.lists.now.taken.items) c.keep_rows.new.history.turns c.keep_taken.new.history.turns before two entered c.keep_taken.ensures.turns)

pub returns-clause-turns : goal.returns-clause-turns
returns-clause-turns c =
    let before : List Turn = settled c.args.history.now.turns in
    let one : Turn = posting (picked c.args.dones.now c.args.lists.now.posted.items) (fresh c.args.reading) in
    let two : Turn = entering c.args.lists.now.rows.items one in
    let three : Turn = taking c.args.lists.now.taken.items two in
    let posted : c.keep_posted.new.history.turns ≡ before ++ one ∷ [] = changed (posting (picked c.args.dones.now c.args.lists.now.posted.items)) c.begin.new.self.turns c.keep_posted.new.history.turns before (fresh c.args.reading) c.begin.ensures.turns c.keep_posted.ensures.turns in
    let entered : c.keep_rows.new.history.turns ≡ before ++ two ∷ [] = changed (entering c.args.lists.now.rows.items) c.keep_posted.new.history.turns c.keep_rows.new.history.turns before one posted c.keep_rows.ensures.turns in
    let took : c.keep_taken.new.history.turns ≡ before ++ three ∷ [] = changed (taking c.args.lists.now.taken.items) c.keep_rows.new.history.turns c.keep_taken.new.history.turns before two entered c.keep_taken.ensures.turns in
    changed (claiming c.args.lists.now.claimed.items) c.keep_taken.new.history.turns c.keep_claimed.new.history.turns before three took c.keep_claimed.ensures.turns
