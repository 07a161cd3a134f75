use Rattle.std.proofs.Common.{◌≡◌, ◌*ℤ◌, ◌-ℤ◌, rules, FitsSigned, w64}
use Rattle.std.specs.Int.{w128}
use Rattle.std.proofs.lemmas.Int.{to_z-of_z}
use Rattle.pt_actors.proofs.Means.{has_mean}
use Rattle.pt_actors.proofs.law.weighted.Goals as goal

pub mean-requires : goal.mean-requires
mean-requires c =
    let first : FitsSigned w128 c.product.result = search rules in
    let second : FitsSigned w128 c.product-2.result = search rules in
    let left : FitsSigned w64 c.rest.result = search rules in
    let p : c.product.result ≡ c.args.a *ℤ c.args.num = search rules in
    let q : c.product-2.result ≡ c.args.b *ℤ c.rest.result = search rules in
    let r : c.rest.result ≡ c.args.den -ℤ c.args.num = search rules in
    rw (to_z-of_z w128 c.product.result first, to_z-of_z w128 c.product-2.result second, to_z-of_z w64 c.args.den c.ranges.den, p, q)
    (has_mean c.args.a c.args.b c.args.num c.rest.result c.args.den c.ranges.a c.ranges.b c.ranges.den c.requires.num c.requires.rest c.requires.den r)
