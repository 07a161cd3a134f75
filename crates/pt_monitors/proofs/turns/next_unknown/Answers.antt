use Rattle.std.proofs.Common.{◌/◌, ◌^◌, ◌%◌, w64, arith}
use Rattle.std.specs.Int.{trailing_zeros}
use Rattle.std.proofs.lemmas.Nat.{shr_le}
use Rattle.std.proofs.lemmas.Nat.Bits.{bit_at-trailing_zeros}
use Rattle.pt_monitors.proofs.Levels.{level_at, level_zero, unknown_at}
use Rattle.pt_monitors.proofs.turns.next_unknown.Goals as goal

pub returns-then-known-from-clause-level : goal.returns-then-known-from-clause-level
returns-then-known-from-clause-level c = λ n from to. absurd (omega (arith, from, to))

pub returns-then-others-eq0-clause-level : goal.returns-then-others-eq0-clause-level
returns-then-others-eq0-clause-level c = λ n from to.
    level_zero c.args.levels.now.sent c.args.from c.min-known.result n (omega (arith, c.requires.block, c.min-known.ensures)) (omega (arith, c.min-known.ensures)) c.if-others-eq0.true from to

pub returns-clause-level : goal.returns-clause-level
returns-clause-level c = λ n from to.
    let others = c.args.levels.now.sent.bits / 2 ^ (c.args.from % 64) / 2 in
    let less = shr_le c.args.levels.now.sent.bits (c.args.from % 64) in
    let lowest = bit_at-trailing_zeros w64 others (omega (arith, c.if-others-eq0.false)) (omega arith) in
    level_at c.args.levels.now.sent c.args.from c.min-known.result (trailing_zeros w64 others) n (omega (arith, c.requires.block, c.min-known.ensures)) (omega (arith, c.min-known.ensures)) lowest.2 from (omega (arith, to)) (omega (arith, to))

-- the turn that is given is not known: it is past what is known, or its bit is left
pub returns-then-known-from-clause-unknown : goal.returns-then-known-from-clause-unknown
returns-then-known-from-clause-unknown c = λ less level. let within = level.within in absurd (omega (arith, less, within, c.min-known.ensures))

pub returns-then-others-eq0-clause-unknown : goal.returns-then-others-eq0-clause-unknown
returns-then-others-eq0-clause-unknown c = λ less level. let within = level.within in absurd (omega (arith, less, within, c.min-known.ensures))

pub returns-clause-unknown : goal.returns-clause-unknown
returns-clause-unknown c = λ less level.
    let others = c.args.levels.now.sent.bits / 2 ^ (c.args.from % 64) / 2 in
    let fits = shr_le c.args.levels.now.sent.bits (c.args.from % 64) in
    let lowest = bit_at-trailing_zeros w64 others (omega (arith, c.if-others-eq0.false)) (omega arith) in
    let within = level.within in
    unknown_at c.args.levels.now.sent c.args.from c.min-known.result (trailing_zeros w64 others) _ (omega (arith, c.requires.block, c.min-known.ensures)) lowest.1 (omega (arith, less, within, c.min-known.ensures)) (omega (arith, less, within, c.min-known.ensures)) level
