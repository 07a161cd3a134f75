use Rattle.std.proofs.Common.{◌≡◌, ◌≤◌, ◌+◌, ◌*◌, arith}
use Rattle.std.proofs.lemmas.Bool.{ltb-false}
use Rattle.pt_history.proofs.FirstTwo.{later_ports}
use Rattle.pt_history.proofs.cells.has_later.Goals as goal

pub returns-clause-none : goal.returns-clause-none
returns-clause-none c = λ none.
    let least : c.flag-3.result + 256 * c.flag-4.result + 65536 * c.flag-5.result + 16777216 * c.flag-6.result ≤ 0 = ltb-false 0 _ none in
    let c2 : c.flag.result ≡ 0 = omega (arith, c.if-flag-gt0.false) in
    let c3 : c.flag-2.result ≡ 0 = omega (arith, c.if-flag-gt0.false) in
    let c4 : c.flag-3.result ≡ 0 = omega (arith, least) in
    let c5 : c.flag-4.result ≡ 0 = omega (arith, least) in
    let c6 : c.flag-5.result ≡ 0 = omega (arith, least) in
    let c7 : c.flag-6.result ≡ 0 = omega (arith, least) in
    later_ports c.args.ports.now c.get.result c.get-2.result c.get-3.result c.get-4.result c.get-5.result c.get-6.result c.are_eight.ensures
    c.get.ensures c.get-2.ensures c.get-3.ensures c.get-4.ensures c.get-5.ensures c.get-6.ensures
    (c.flag.ensures.none c2) (c.flag-2.ensures.none c3) (c.flag-3.ensures.none c4) (c.flag-4.ensures.none c5) (c.flag-5.ensures.none c6) (c.flag-6.ensures.none c7)
