use Rattle.std.proofs.Common.{◌≡◌, ◌+◌, ◌*◌, ◌^◌, ◌<◌, ◌++◌, ◌∷◌, List, Option, ℕ, ℤ, None, drop, length, take, sym, ap, ap₂, ◌∙◌, arith, get_or}
use Rattle.std.proofs.lemmas.List.{append_assoc, drop_more, length-take}
use Rattle.std.proofs.lemmas.Grind.{take_at_read}
use Rattle.pt_history.specs.Cells.{bit_of, mask_of, value_in, values_in}
use Rattle.pt_history.proofs.Prefixes.{mask_below, mask_push}
use Rattle.pt_history.proofs.cells.push_later.Goals as goal

first : (ports : List (Option ℤ)) (k : ℕ) → length ports ≡ 8 → k < 8 → length (take k ports) ≡ k
first ports k eight low = omega (arith, eight, low, length-take k ports)

low_bits : (ports : List (Option ℤ)) (k mask : ℕ) → length ports ≡ 8 → k < 8 → mask ≡ mask_of (take k ports) → mask < 2 ^ k
low_bits ports k mask eight low is =
    let below : mask_of (take k ports) < 2 ^ length (take k ports) = mask_below (take k ports) in
    let at : 2 ^ length (take k ports) ≡ 2 ^ k = ap (λ n. 2 ^ n) (first ports k eight low) in
    omega (arith, below, at, is)

mask_more : (ports : List (Option ℤ)) (k mask new : ℕ) (x : Option ℤ) → length ports ≡ 8 → k < 8 → mask ≡ mask_of (take k ports) → x ≡ get_or ports k None → new ≡ mask + bit_of x * 2 ^ k → new ≡ mask_of (take (k + 1) ports)
mask_more ports k mask new x eight low is cell step =
    let within : k < length ports = omega (arith, low, eight) in
    step
    ∙ ap₂ (λ m c. m + bit_of c * 2 ^ k) is cell
    ∙ sym (mask_push (take k ports) (get_or ports k None) k (first ports k eight low))
    ∙ ap mask_of (sym (take_at_read ports k None within).1)

values_more : (ports : List (Option ℤ)) (k : ℕ) (old new : List ℤ) (x : Option ℤ) → k < length ports → x ≡ get_or ports k None → new ≡ old ++ value_in x → new ++ values_in (drop (k + 1) ports) ≡ old ++ values_in (drop k ports)
values_more ports k old new x within cell step =
    ap (λ vs. vs ++ values_in (drop (k + 1) ports)) step
    ∙ append_assoc old (value_in x) (values_in (drop (k + 1) ports))
    ∙ ap (λ c. old ++ values_in (c ∷ drop (k + 1) ports)) cell
    ∙ ap (λ cs. old ++ values_in cs) (sym (drop_more ports k None within))

pub push_cell-mask-requires-clause-low : goal.push_cell-mask-requires-clause-low
push_cell-mask-requires-clause-low c = low_bits c.args.ports.now c.loop-port.port c.loop-port.mask c.are_eight.ensures c.loop-port-test.true c.loop-port.invariant.mask

pub loop-port-preserved : goal.loop-port-preserved
loop-port-preserved c =
    let within : c.loop-port.port < length c.args.ports.now = omega (arith, c.loop-port-test.true, c.are_eight.ensures) in
    record {
      begun = omega (arith, c.loop-port.invariant.begun);
      mask = mask_more c.args.ports.now c.loop-port.port c.loop-port.mask c.push_cell-mask.result c.get.result c.are_eight.ensures c.loop-port-test.true c.loop-port.invariant.mask c.get.ensures c.push_cell-mask.ensures.mask;
      values = values_more c.args.ports.now c.loop-port.port c.loop-port.values.items c.push_cell-mask.new.values.items c.get.result within c.get.ensures c.push_cell-mask.ensures.values ∙ c.loop-port.invariant.values;
      fit = omega (arith, c.push_cell-mask.ensures.one, c.loop-port.invariant.fit);
      room = omega (arith, c.push_cell-mask.ensures.room, c.loop-port.invariant.room);
    }
