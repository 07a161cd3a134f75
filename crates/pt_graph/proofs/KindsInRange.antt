-- The kinds of a file that passed its checks are lawful.
use Rattle.std.proofs.Common.{◌≡◌, ◌≤◌, ℤ, pos, true, false, ◌&&◌, List, [], ◌∷◌, length, map, refl, subst, sym, nat_lt, nat_le, unsigned_abs, arith}
use Rattle.std.specs.Prelude.{sum}
use Rattle.std.specs.List.{list_all}
use Rattle.std.proofs.lemmas.Bool.{and_parts, and_from}
use Rattle.std.proofs.lemmas.Bool.Decides.{nat_tests}
use Rattle.pt_types.specs.declared.kind.Kind.TheVariants as kind
use Rattle.pt_types.specs.Kinds.{is_between, is_among, is_time, law_in_range, row_is_lawful, kind_is_lawful}
use Rattle.pt_blocks.specs.declared.blocks.Named.{Named}
use Rattle.pt_blocks.specs.Blocks.{find_block}
use Rattle.pt_graph_text.specs.declared.document.RowText.{RowText}
use Rattle.pt_graph_text.specs.declared.kinds.KindText.{KindText}
use Rattle.pt_graph_text.specs.declared.kinds.KindText.TheVariants as text
use Rattle.pt_graph.specs.Limits.{machine_row_count}
use Rattle.pt_graph.specs.Ranges as ranges
use Rattle.pt_graph.specs.Ranges.{kind_in_range, row_in_range}
use Rattle.pt_graph.specs.Naming.{kind_is_named}
use Rattle.pt_graph.specs.Graphs.{small, row_from, kind_from}
use Rattle.pt_graph.proofs.InRange.{between, time_of, small_is, small_among, length_map}
use Rattle.pt_graph.proofs.RowsInRange.{law_of_found, rows_lawful}

cells_lawful : (cells : List ℤ) → list_all (is_between (pos 1) (pos 8)) cells ≡ true → list_all (is_among 1 8) (map small cells) ≡ true
cells_lawful [] h = refl
cells_lawful (z ∷ cells) h =
    let parts = and_parts (is_between (pos 1) (pos 8) z) (list_all (is_between (pos 1) (pos 8)) cells) h in
    and_from (is_among 1 8 (small z)) (list_all (is_among 1 8) (map small cells)) (small_among 1 8 z (omega arith) parts.0) (cells_lawful cells parts.1)

cells_same : (cells : List ℤ) → list_all (is_between (pos 1) (pos 8)) cells ≡ true → map small cells ≡ map unsigned_abs cells
cells_same [] h = refl
cells_same (z ∷ cells) h =
    let parts = and_parts (is_between (pos 1) (pos 8) z) (list_all (is_between (pos 1) (pos 8)) cells) h in
    let one = small_is 1 8 z (omega arith) parts.0 in
    let rest = cells_same cells parts.1 in
    cc

lanes_lawful : (cells : List ℤ) → kind_in_range (text.Lanes cells) ≡ true → kind_is_lawful (kind.Lanes (map small cells)) ≡ true
lanes_lawful cells h =
    let sum_part = and_parts (nat_le 1 (length cells) && nat_le (length cells) 8 && list_all (is_between (pos 1) (pos 8)) cells) (nat_le (sum (map unsigned_abs cells)) 8) h in
    let cells_part = and_parts (nat_le 1 (length cells) && nat_le (length cells) 8) (list_all (is_between (pos 1) (pos 8)) cells) sum_part.0 in
    and_from (is_among 1 8 (length (map small cells)) && list_all (is_among 1 8) (map small cells)) (nat_le (sum (map small cells)) 8)
    (and_from (is_among 1 8 (length (map small cells))) (list_all (is_among 1 8) (map small cells))
    (subst (λ n. is_among 1 8 n ≡ true) (sym (length_map small cells)) cells_part.0) (cells_lawful cells cells_part.1))
    (subst (λ ns. nat_le (sum ns) 8 ≡ true) (sym (cells_same cells cells_part.1)) sum_part.1)

machine_lawful : (blocks : List Named) (start outputs : ℤ) (rows : List RowText) → list_all (λ (b : Named). law_in_range b.law) blocks ≡ true → kind_in_range (text.Machine start outputs rows) ≡ true → nat_lt 64 (length rows) ≡ false → kind_is_lawful (kind.Machine start (small outputs) (map (row_from blocks) rows)) ≡ true
machine_lawful blocks start outputs rows laws h few =
    let parts = and_parts (is_between (pos 1) (pos 8) outputs) (list_all (row_in_range outputs) rows) h in
    let count : nat_le (length (map (row_from blocks) rows)) 64 ≡ true = subst (λ n. nat_le n 64 ≡ true) (sym (length_map (row_from blocks) rows)) (grind (arith, nat_tests)) in
    and_from (is_among 1 8 (small outputs) && nat_le (length (map (row_from blocks) rows)) 64) (list_all (row_is_lawful (small outputs)) (map (row_from blocks) rows))
    (and_from (is_among 1 8 (small outputs)) (nat_le (length (map (row_from blocks) rows)) 64) (small_among 1 8 outputs (omega arith) parts.0) count)
    (rows_lawful blocks outputs rows laws parts.0 parts.1)

-- a kind of the file whose numbers and names passed their checks, with few rows, gives a lawful kind
pub kind_lawful : (blocks : List Named) (k : KindText) → list_all (λ (b : Named). law_in_range b.law) blocks ≡ true → kind_in_range k ≡ true → kind_is_named k ≡ true → nat_lt 64 (machine_row_count k) ≡ false → kind_is_lawful (kind_from blocks k) ≡ true
kind_lawful blocks (text.Sensor file bound) laws h named few = and_from _ (is_time (unsigned_abs bound)) named (time_of bound h)
kind_lawful blocks (text.Send slack) laws h named few = time_of slack h
kind_lawful blocks (text.Actuator slack) laws h named few = time_of slack h
kind_lawful blocks (text.Merge n) laws h named few = small_among 2 8 n (omega arith) h
kind_lawful blocks (text.Delay d) laws h named few = time_of d h
kind_lawful blocks (text.Machine start outputs rows) laws h named few = machine_lawful blocks start outputs rows laws h few
kind_lawful blocks (text.Every start period) laws h named few =
    let parts = and_parts (ranges.is_time_number start) (is_between (pos 1) (pos 1000000000000000) period) h in
    and_from (is_time (unsigned_abs start)) (is_among 1 1000000000000000 (unsigned_abs period)) (time_of start parts.0) (between 1 1000000000000000 period parts.1)
kind_lawful blocks (text.Block block) laws h named few = law_of_found blocks (find_block blocks block) laws
kind_lawful blocks (text.Lanes cells) laws h named few = lanes_lawful cells h
-- any other kind has the same ranges in the file and in the graph, or none
kind_lawful blocks _ laws h named few = h
