use Rattle.std.proofs.Common.{◌≡◌, [], ap, length, refl, arith}
use Rattle.std.specs.Prelude.{unwrap_or}
use Rattle.pt_history.specs.Turns.{claimed_in}
use Rattle.pt_tables.proofs.Parts.{claimed_more}
use Rattle.pt_tables.proofs.walk.claims_after.Goals as goal

pub returns-then-is_level : goal.returns-then-is_level
returns-then-is_level c =
    let turns = c.args.history.now.turns in
    let none : claimed_in turns c.args.turn ≡ [] = ap (λ o. unwrap_or o []) (c.requires.levels.claimed c.args.turn refl c.requires.turn (c.is_level.ensures c.if-is_level.true)) in
    omega (arith, c.requires.claims, claimed_more turns c.args.turn c.requires.turn, ap length none)
