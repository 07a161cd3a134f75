-- A lawful kind has few inputs and outputs.
use Rattle.std.proofs.Common.{◌≡◌, ℕ, ◌≤◌, true, ◌&&◌, length, nat_le, arith}
use Rattle.std.specs.Prelude.{sum}
use Rattle.std.specs.List.{list_all}
use Rattle.std.proofs.lemmas.Bool.{and_parts, leb-true}
use Rattle.pt_types.specs.declared.kind.Kind.{Kind}
use Rattle.pt_types.specs.declared.kind.Kind.TheVariants as kind
use Rattle.pt_types.specs.Kinds.{is_among, row_is_lawful, kind_is_lawful, visible_inputs, visible_outputs}

pub among : (low high n : ℕ) → is_among low high n ≡ true → (low ≤ n) × (n ≤ high)
among low high n h =
    let parts = and_parts (nat_le low n) (nat_le n high) h in
    (leb-true low n parts.0, leb-true n high parts.1)

-- a lawful kind has at most eight visible inputs
pub few_inputs : (k : Kind) → kind_is_lawful k ≡ true → visible_inputs k ≤ 8
few_inputs (kind.Merge n) h = (among 2 8 n h).1
few_inputs (kind.Lanes cells) h = leb-true (sum cells) 8 (and_parts (is_among 1 8 (length cells) && list_all (is_among 1 8) cells) (nat_le (sum cells) 8) h).1
few_inputs (kind.Sensor file bound) h = omega arith
few_inputs kind.Receive h = omega arith
few_inputs (kind.Every start period) h = omega arith
few_inputs kind.Add h = omega arith
few_inputs kind.Sub h = omega arith
few_inputs kind.Latch h = omega arith
few_inputs (kind.Block block law) h = omega arith
few_inputs _ h = omega arith

pub few_outputs : (k : Kind) → kind_is_lawful k ≡ true → visible_outputs k ≤ 8
few_outputs (kind.Machine start outputs rows) h =
    let parts = and_parts (is_among 1 8 outputs && nat_le (length rows) 64) (list_all (row_is_lawful outputs) rows) h in
    (among 1 8 outputs (and_parts (is_among 1 8 outputs) (nat_le (length rows) 64) parts.0).0).1
few_outputs (kind.Lanes cells) h =
    let parts = and_parts (is_among 1 8 (length cells) && list_all (is_among 1 8) cells) (nat_le (sum cells) 8) h in
    (among 1 8 (length cells) (and_parts (is_among 1 8 (length cells)) (list_all (is_among 1 8) cells) parts.0).0).1
few_outputs (kind.Send slack) h = omega arith
few_outputs (kind.Actuator slack) h = omega arith
few_outputs _ h = omega arith
