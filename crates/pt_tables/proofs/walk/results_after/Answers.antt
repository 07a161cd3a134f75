use Rattle.std.proofs.Common.{◌≡◌, [], ap, length, refl, arith}
use Rattle.std.specs.Prelude.{unwrap_or}
use Rattle.pt_history.specs.Turns.{posted_in}
use Rattle.pt_tables.proofs.Parts.{posted_more}
use Rattle.pt_tables.proofs.walk.results_after.Goals as goal

pub returns-then-is_level : goal.returns-then-is_level
returns-then-is_level c =
    let turns = c.args.history.now.turns in
    let none : posted_in turns c.args.turn ≡ [] = ap (λ o. unwrap_or o []) (c.requires.levels.posted c.args.turn refl c.requires.turn (c.is_level.ensures c.if-is_level.true)) in
    omega (arith, c.requires.results, posted_more turns c.args.turn c.requires.turn, ap length none)
