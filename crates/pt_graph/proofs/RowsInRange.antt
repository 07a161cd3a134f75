-- The rows of a machine that passed their checks are in their ranges, and so are laws of blocks.
use Rattle.std.proofs.Common.{◌≡◌, ℕ, zero, suc, ℤ, pos, negsuc, true, ◌&&◌, List, [], ◌∷◌, map, refl, nat_lt, int_le, int_lt, Option, Some, None, option_map, unwrap_or, arith}
use Rattle.std.specs.Prelude.{option_and_then}
use Rattle.std.specs.List.{list_all}
use Rattle.std.proofs.lemmas.Bool.{and_parts, and_from, lt-ltb, ltb-true}
use Rattle.pt_types.specs.declared.kind.Law.TheVariants.{Least}
use Rattle.pt_types.specs.Kinds.{is_between, law_in_range, emit_is_lawful, guard_is_lawful, row_is_lawful}
use Rattle.pt_types.specs.Groups.{held}
use Rattle.pt_blocks.specs.declared.blocks.Named.{Named}
use Rattle.pt_blocks.specs.Blocks.{find_block, law_at}
use Rattle.pt_graph_text.specs.declared.document.RowText.{RowText}
use Rattle.pt_graph.specs.Ranges.{row_in_range, emit_in_range}
use Rattle.pt_graph.specs.Graphs.{small, number_and_law, emit_from, row_from}
use Rattle.pt_types.proofs.SmallKinds.{among}

-- the law of a block of the list, or the law that stands for none
law_of_listed : (blocks : List Named) (n : ℕ) → list_all (λ (b : Named). law_in_range b.law) blocks ≡ true → law_in_range (unwrap_or (law_at blocks n) Least) ≡ true
law_of_listed [] n h = refl
law_of_listed (b ∷ blocks) zero h = (and_parts (law_in_range b.law) (list_all (λ (x : Named). law_in_range x.law) blocks) h).0
law_of_listed (b ∷ blocks) (suc n) h = law_of_listed blocks n (and_parts (law_in_range b.law) (list_all (λ (x : Named). law_in_range x.law) blocks) h).1

pub law_of_found : (blocks : List Named) (o : Option ℕ) → list_all (λ (b : Named). law_in_range b.law) blocks ≡ true → law_in_range (unwrap_or (option_and_then (law_at blocks) o) Least) ≡ true
law_of_found blocks None h = refl
law_of_found blocks (Some n) h = law_of_listed blocks n h

guard_lawful : (blocks : List Named) (o : Option (List ℕ)) → list_all (λ (b : Named). law_in_range b.law) blocks ≡ true → guard_is_lawful (option_map (number_and_law blocks) o) ≡ true
guard_lawful blocks None h = refl
guard_lawful blocks (Some name) h = law_of_found blocks (find_block blocks name) h

emit_below : (z outputs : ℤ) → is_between (pos 1) (pos 8) outputs ≡ true → int_le (pos 0) z ≡ true → int_lt z outputs ≡ true → nat_lt (small z) (small outputs) ≡ true
emit_below (pos n) (pos m) out h l =
    let most = among 1 8 m out in
    let less = ltb-true n m l in
    lt-ltb (held n) (held m) (omega arith)
emit_below (pos n) (negsuc m) out h l = absurd cc
emit_below (negsuc n) outputs out h l = absurd cc

emit_lawful : (outputs : ℤ) (o : Option (ℤ × ℤ)) → is_between (pos 1) (pos 8) outputs ≡ true → emit_in_range outputs o ≡ true → emit_is_lawful (small outputs) (option_map emit_from o) ≡ true
emit_lawful outputs None out h = refl
emit_lawful outputs (Some e) out h =
    let parts = and_parts (int_le (pos 0) e.0) (int_lt e.0 outputs) h in
    emit_below e.0 outputs out parts.0 parts.1

row_lawful : (blocks : List Named) (outputs : ℤ) (r : RowText) → list_all (λ (b : Named). law_in_range b.law) blocks ≡ true → is_between (pos 1) (pos 8) outputs ≡ true → row_in_range outputs r ≡ true → row_is_lawful (small outputs) (row_from blocks r) ≡ true
unfolding row_from
row_lawful blocks outputs r laws out h =
    let parts = and_parts (int_le r.low r.high) (emit_in_range outputs r.emit) h in
    and_from (int_le r.low r.high && emit_is_lawful (small outputs) (option_map emit_from r.emit)) (guard_is_lawful (option_map (number_and_law blocks) r.guard))
    (and_from (int_le r.low r.high) (emit_is_lawful (small outputs) (option_map emit_from r.emit)) parts.0 (emit_lawful outputs r.emit out parts.1))
    (guard_lawful blocks r.guard laws)

pub rows_lawful : (blocks : List Named) (outputs : ℤ) (rows : List RowText) → list_all (λ (b : Named). law_in_range b.law) blocks ≡ true → is_between (pos 1) (pos 8) outputs ≡ true → list_all (row_in_range outputs) rows ≡ true → list_all (row_is_lawful (small outputs)) (map (row_from blocks) rows) ≡ true
rows_lawful blocks outputs [] laws out h = refl
rows_lawful blocks outputs (r ∷ rows) laws out h =
    let parts = and_parts (row_in_range outputs r) (list_all (row_in_range outputs) rows) h in
    and_from (row_is_lawful (small outputs) (row_from blocks r)) (list_all (row_is_lawful (small outputs)) (map (row_from blocks) rows)) (row_lawful blocks outputs r laws out parts.0) (rows_lawful blocks outputs rows laws out parts.1)
