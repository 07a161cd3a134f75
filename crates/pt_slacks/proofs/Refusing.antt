-- No slacks admit a graph that has a ring.
use Rattle.std.proofs.Common.{◌≡◌, ℕ, ℤ, pos, ◌+◌, ◌<◌, ◌≤◌, ◌+ℤ◌, ◌-ℤ◌, ◌≤ℤ◌, List, [], ◌∷◌, sym, ap, subst, ◌∙◌, arith}
use Rattle.std.proofs.lemmas.Int.{ints}
use Rattle.pt_tags.specs.declared.tag.Delay.{Delay}
use Rattle.pt_types.specs.declared.graph.Graph.{Graph}
use Rattle.pt_types.specs.declared.graph.Unit.{Unit}
use Rattle.pt_types.specs.Lawful.{IsLawful}
use Rattle.pt_semantics.specs.Bounds.{Feeds}
use Rattle.pt_semantics.specs.Paths.{Goes}
use Rattle.pt_semantics.specs.Ranks.{sum_along}
use Rattle.pt_offsets.specs.Margins.{unit_at}
use Rattle.pt_offsets.proofs.Sources.{first_unit}
use Rattle.pt_slacks.specs.Hops.{cost_of}
use Rattle.pt_slacks.specs.Rings.{Gains, GainsAlong, RingsAdmitNothing}
use Rattle.pt_slacks.specs.Slacks.{Admits, with_slack, with_slacks}
use Rattle.pt_slacks.proofs.Changed.{bound_link, goes_to, kind_with, output_with}

gained : (x y b cost t d : ℕ) (n : ℤ) → b + 1 ≡ x + cost → b + 1 ≤ y + t → t ≡ d → n ≡ pos cost -ℤ pos d → (pos x +ℤ n) ≤ℤ pos y
gained x y b cost t d n late le same is = omega (arith, ints, late, le, same, is)

-- a sender's slack is at least that of the one before it and the gain
gain_le : (g : Graph) (slack : ℕ → ℕ) (w v : ℕ) (n : ℤ) → IsLawful g → Admits g slack → Gains g w v n → (pos (slack w) +ℤ n) ≤ℤ pos (slack v)
gain_le g slack w v n lawful admits one =
    let bound = bound_link g slack lawful one.number one.link one.at in
    let path = one.least.along.0 in
    let goes : Goes (with_slacks g slack) (unit_at one.link.to 0) path (unit_at v 0) = goes_to g slack (unit_at one.link.to 0) path (unit_at v 0) one.least.along.1 in
    let feeds : Feeds (with_slacks g slack) one.link.to bound.0 path (unit_at v 0) = record {
      bound = bound.1;
      goes = subst (λ (x : Unit). Goes (with_slacks g slack) x path (unit_at v 0)) (first_unit g one.link.to ∙ sym (output_with g slack one.link.to 0)) goes;
    } in
    let le = admits v (slack v) one.link.to bound.0 path (kind_with g slack v ∙ ap (with_slack (slack v)) one.sends) (subst (Feeds (with_slacks g slack) one.link.to bound.0 path) (first_unit g v ∙ sym (output_with g slack v 0)) feeds) in
    gained (slack w) (slack v) bound.0 (cost_of g one.link) (sum_along path).time one.delay.time n (bound.2 ∙ ap (λ a. slack a + cost_of g one.link) one.from) le (ap (λ (d : Delay). d.time) one.least.along.2) one.is

both : (x y z first others n : ℤ) → (x +ℤ first) ≤ℤ y → (y +ℤ others) ≤ℤ z → n ≡ first +ℤ others → (x +ℤ n) ≤ℤ z
both x y z first others n h k is = omega (arith, ints, h, k, is)

along_le : (g : Graph) (slack : ℕ → ℕ) (w : ℕ) (xs : List ℕ) (v : ℕ) (n : ℤ) → IsLawful g → Admits g slack → GainsAlong g w xs v n → (pos (slack w) +ℤ n) ≤ℤ pos (slack v)
along_le g slack w [] v n lawful admits gains = gain_le g slack w v n lawful admits gains
along_le g slack w (x ∷ xs) v n lawful admits gains =
    both (pos (slack w)) (pos (slack x)) (pos (slack v)) gains.0 gains.1 n (gain_le g slack w x gains.0 lawful admits gains.2) (along_le g slack x xs v gains.1 lawful admits gains.3) gains.4

none_more : (x gain : ℕ) → (pos x +ℤ pos gain) ≤ℤ pos x → 0 < gain → ⊥
none_more x gain h more = omega (arith, ints, h, more)

pub rings_admit_nothing : RingsAdmitNothing
rings_admit_nothing g sends gain slack lawful ring admits = none_more (slack ring.head) gain (along_le g slack ring.head ring.others ring.head (pos gain) lawful admits ring.round) ring.gains
