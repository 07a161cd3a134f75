-- Actors are read back from what is written for them.
use Rattle.std.proofs.Common.{◌≡◌, ℕ, ◌<◌, ◌≤◌, ℤ, pos, negsuc, true, ◌&&◌, List, [], ◌∷◌, map, length, nat_le, nat_lt, int_le, int_lt, Option, Some, None, option_map, refl, arith, codes}
use Rattle.std.specs.List.{list_all}
use Rattle.std.proofs.lemmas.Bool.{and_parts, and_from, leb-true, le-leb, ltb-true, lt-ltb}
use Rattle.serde_json.specs.Data.{Data, string}
use Rattle.pt_types.specs.Kinds.{is_between}
use Rattle.pt_blocks.specs.declared.blocks.Named.{Named}
use Rattle.pt_graph_text.specs.declared.version.Version.TheVariants.{Second}
use Rattle.pt_graph_text.specs.declared.document.RowText.{RowText}
use Rattle.pt_graph_text.specs.declared.document.ActorText.{ActorText}
use Rattle.pt_graph_text.specs.declared.kinds.KindText.{KindText}
use Rattle.pt_graph_text.specs.declared.kinds.KindText.TheVariants as text
use Rattle.pt_graph_text.specs.Decoding.{whole}
use Rattle.pt_graph_text.specs.Rows.{row_text_of, emit_of}
use Rattle.pt_graph_text.specs.Kinds.{kind_text_of, number_kind_of, other_kind_of, sensor_of, send_of, actuator_of, every_of, delay_of, scale_of, shift_of, above_of, merge_of, machine_of, block_of, lanes_of}
use Rattle.pt_graph_text.specs.Documents.{actor_of}
use Rattle.pt_graph.specs.Ranges.{is_time_number, kind_in_range, row_in_range, emit_in_range, sum_is_small}
use Rattle.pt_graph.specs.EndFaults.{has_blocks, guard_has_block, has_name}
use Rattle.pt_graph.specs.Graphs as graphs
use Rattle.pt_graph.specs.Graphs.{small, row_from, kind_from, emit_from}
use Rattle.pt_graph_writer.specs.Text.{fields, natural, block_name, row_data, kind_word, kind_fields, fits, emit_fits, row_numbers_fit, kind_fits}
use Rattle.pt_graph_writer.proofs.Wholes.{whole_fits, whole_between, whole_time, whole_small, AllBack, each_turned}

-- the value of an actor with this name, platform and kind
abbrev pub kind_data : List Named → List ℕ → List ℕ → KindText → Data
kind_data blocks name platform k = fields (
    (codes "name", string name)
    ∷ (codes "platform", string platform)
    ∷ (codes "kind", string (kind_word (kind_from blocks k)))
    ∷ kind_fields blocks (kind_from blocks k))

abbrev pub actor_text : List ℕ → List ℕ → KindText → ActorText
actor_text name platform k = record { name = name; platform = platform; kind = k }

-- a kind whose numbers passed their checks, with the rest of what its reading rests on
pub record IsGood (blocks : List Named) (k : KindText) : Type 0 where
  pub range : kind_in_range k ≡ true
  pub fit : kind_fits (kind_from blocks k) ≡ true
  pub known : has_blocks blocks k ≡ true

-- each known block has its name at its number
abbrev pub NamesBlocks : List Named → Type 0
NamesBlocks blocks = (name : List ℕ) → has_name blocks name ≡ true → block_name blocks (graphs.number_and_law blocks name).0 ≡ name

abbrev IsBack : List Named → KindText → Type 0
IsBack blocks k = (name platform : List ℕ) → actor_of Second (kind_data blocks name platform k) ≡ Some (actor_text name platform k)

sensor_back : (blocks : List Named) (file : List ℕ) (bound : ℤ) → IsGood blocks (text.Sensor file bound) → IsBack blocks (text.Sensor file bound)
unfolding actor_of kind_text_of sensor_of
sensor_back blocks file bound good name platform = rw (whole_time bound good.range) refl

fits_below : (low : ℤ) (high : ℕ) (z : ℤ) → high ≤ 1000000000000000 → is_between low (pos high) z ≡ true → fits z ≡ true
fits_below low high (pos n) few h =
    let most = leb-true n high (and_parts (int_le low (pos n)) (nat_le n high) h).1 in
    let less : n < 9223372036854775808 = omega arith in
    lt-ltb n 9223372036854775808 less
fits_below low high (negsuc n) few h = refl

send_back : (blocks : List Named) (slack : ℤ) → IsGood blocks (text.Send slack) → IsBack blocks (text.Send slack)
unfolding actor_of kind_text_of send_of
send_back blocks slack good name platform = rw (whole_time slack good.range) refl

actuator_back : (blocks : List Named) (slack : ℤ) → IsGood blocks (text.Actuator slack) → IsBack blocks (text.Actuator slack)
unfolding actor_of kind_text_of actuator_of
actuator_back blocks slack good name platform = rw (whole_time slack good.range) refl

every_back : (blocks : List Named) (start period : ℤ) → IsGood blocks (text.Every start period) → IsBack blocks (text.Every start period)
unfolding actor_of kind_text_of every_of
every_back blocks start period good name platform =
    let both = and_parts (is_time_number start) (is_between (pos 1) (pos 1000000000000000) period) good.range in
    rw (whole_time start both.0, whole_between 1 1000000000000000 period (omega arith) both.1) refl

delay_back : (blocks : List Named) (time : ℤ) → IsGood blocks (text.Delay time) → IsBack blocks (text.Delay time)
unfolding actor_of kind_text_of delay_of
delay_back blocks time good name platform = rw (whole_time time good.range) refl

scale_back : (blocks : List Named) (num den : ℤ) → IsGood blocks (text.Scale num den) → IsBack blocks (text.Scale num den)
unfolding actor_of kind_text_of number_kind_of scale_of
scale_back blocks num den good name platform =
    let both = and_parts (is_between (negsuc 999999999) (pos 1000000000) num) (is_between (pos 1) (pos 1000000000) den) good.range in
    rw (whole_fits num (fits_below (negsuc 999999999) 1000000000 num (omega arith) both.0), whole_fits den (fits_below (pos 1) 1000000000 den (omega arith) both.1)) refl

shift_back : (blocks : List Named) (by : ℤ) → IsGood blocks (text.Shift by) → IsBack blocks (text.Shift by)
unfolding actor_of kind_text_of number_kind_of shift_of
shift_back blocks by good name platform = rw (whole_fits by good.fit) refl

above_back : (blocks : List Named) (limit : ℤ) → IsGood blocks (text.Above limit) → IsBack blocks (text.Above limit)
unfolding actor_of kind_text_of number_kind_of above_of
above_back blocks limit good name platform = rw (whole_fits limit good.fit) refl

merge_back : (blocks : List Named) (n : ℤ) → IsGood blocks (text.Merge n) → IsBack blocks (text.Merge n)
unfolding actor_of kind_text_of number_kind_of other_kind_of merge_of
merge_back blocks n good name platform = rw (whole_small 2 8 n (omega arith) good.range) refl

block_back : (blocks : List Named) (block : List ℕ) → NamesBlocks blocks → IsGood blocks (text.Block block) → IsBack blocks (text.Block block)
unfolding actor_of kind_text_of number_kind_of other_kind_of block_of
block_back blocks block names good name platform = rw (names block good.known) refl

receive_back : (blocks : List Named) → IsBack blocks text.Receive
unfolding actor_of kind_text_of
receive_back blocks name platform = refl

add_back : (blocks : List Named) → IsBack blocks text.Add
unfolding actor_of kind_text_of number_kind_of
add_back blocks name platform = refl

sub_back : (blocks : List Named) → IsBack blocks text.Sub
unfolding actor_of kind_text_of number_kind_of
sub_back blocks name platform = refl

count_back : (blocks : List Named) → IsBack blocks text.Count
unfolding actor_of kind_text_of number_kind_of
count_back blocks name platform = refl

sum_back : (blocks : List Named) → IsBack blocks text.Sum
unfolding actor_of kind_text_of number_kind_of
sum_back blocks name platform = refl

latch_back : (blocks : List Named) → IsBack blocks text.Latch
unfolding actor_of kind_text_of number_kind_of other_kind_of
latch_back blocks name platform = refl

cells_back : (cells : List ℤ) → list_all (is_between (pos 1) (pos 8)) cells ≡ true → AllBack whole (λ c. natural (small c)) cells
cells_back [] h = tt
cells_back (c ∷ cells) h =
    let both = and_parts (is_between (pos 1) (pos 8) c) (list_all (is_between (pos 1) (pos 8)) cells) h in
    (whole_small 1 8 c (omega arith) both.0, cells_back cells both.1)

lanes_back : (blocks : List Named) (cells : List ℤ) → IsGood blocks (text.Lanes cells) → IsBack blocks (text.Lanes cells)
unfolding actor_of kind_text_of number_kind_of other_kind_of lanes_of
lanes_back blocks cells good name platform =
    let three = and_parts (nat_le 1 (length cells) && nat_le (length cells) 8 && list_all (is_between (pos 1) (pos 8)) cells) (sum_is_small cells) good.range in
    let two = and_parts (nat_le 1 (length cells) && nat_le (length cells) 8) (list_all (is_between (pos 1) (pos 8)) cells) three.0 in
    rw (each_turned whole natural small cells (cells_back cells two.1)) refl

row_text : ℤ → ℤ → ℤ → ℤ → Option (ℤ × ℤ) → Option (List ℕ) → RowText
row_text state low high next emit guard = record { state = state; low = low; high = high; next = next; emit = emit; guard = guard }

record RowIsGood (blocks : List Named) (outputs : ℤ) (r : RowText) : Type 0 where
  emit : emit_in_range outputs r.emit ≡ true
  state : fits r.state ≡ true
  low : fits r.low ≡ true
  high : fits r.high ≡ true
  next : fits r.next ≡ true
  value : emit_fits (option_map emit_from r.emit) ≡ true
  known : guard_has_block blocks r.guard ≡ true

emit_output : (outputs z : ℤ) → is_between (pos 1) (pos 8) outputs ≡ true → (int_le (pos 0) z && int_lt z outputs) ≡ true → whole (natural (small z)) ≡ Some z
emit_output (pos m) (pos n) few h =
    let most = leb-true m 8 (and_parts (nat_le 1 m) (nat_le m 8) few).1 in
    let less = ltb-true n m (and_parts (nat_le 0 n) (nat_lt n m) h).1 in
    whole_small 0 8 (pos n) (omega arith) (and_from (nat_le 0 n) (nat_le n 8) (and_parts (nat_le 0 n) (nat_lt n m) h).0 (le-leb n 8 (omega arith)))
emit_output (pos m) (negsuc n) few h = absurd cc
emit_output (negsuc m) z few h = absurd cc

row_back : (blocks : List Named) (outputs : ℤ) → NamesBlocks blocks → is_between (pos 1) (pos 8) outputs ≡ true → (state low high next : ℤ) (emit : Option (ℤ × ℤ)) (guard : Option (List ℕ))
    → RowIsGood blocks outputs (record { state = state; low = low; high = high; next = next; emit = emit; guard = guard })
    → row_text_of Second (row_data blocks (row_from blocks (record { state = state; low = low; high = high; next = next; emit = emit; guard = guard }))) ≡ Some (record { state = state; low = low; high = high; next = next; emit = emit; guard = guard })
unfolding row_text_of row_from emit_of guard_has_block
row_back blocks outputs names few state low high next None None good = rw (whole_fits state good.state, whole_fits low good.low, whole_fits high good.high, whole_fits next good.next) refl
row_back blocks outputs names few state low high next None (Some guard) good = rw (whole_fits state good.state, whole_fits low good.low, whole_fits high good.high, whole_fits next good.next, names guard good.known) refl
row_back blocks outputs names few state low high next (Some emit) None good = rw (whole_fits state good.state, whole_fits low good.low, whole_fits high good.high, whole_fits next good.next, emit_output outputs emit.0 few good.emit, whole_fits emit.1 good.value) refl
row_back blocks outputs names few state low high next (Some emit) (Some guard) good = rw (whole_fits state good.state, whole_fits low good.low, whole_fits high good.high, whole_fits next good.next, emit_output outputs emit.0 few good.emit, whole_fits emit.1 good.value, names guard good.known) refl

row_good : (blocks : List Named) (outputs : ℤ) (r : RowText) → row_in_range outputs r ≡ true → row_numbers_fit (row_from blocks r) ≡ true → guard_has_block blocks r.guard ≡ true → RowIsGood blocks outputs r
unfolding row_from
row_good blocks outputs r range fit known =
    let four = and_parts (fits r.state && fits r.low && fits r.high && fits r.next) (emit_fits (option_map emit_from r.emit)) fit in
    let three = and_parts (fits r.state && fits r.low && fits r.high) (fits r.next) four.0 in
    let two = and_parts (fits r.state && fits r.low) (fits r.high) three.0 in
    let one = and_parts (fits r.state) (fits r.low) two.0 in
    record {
      emit = (and_parts (int_le r.low r.high) (emit_in_range outputs r.emit) range).1;
      state = one.0;
      low = one.1;
      high = two.1;
      next = three.1;
      value = four.1;
      known = known;
    }

rows_back : (blocks : List Named) (outputs : ℤ) → NamesBlocks blocks → is_between (pos 1) (pos 8) outputs ≡ true → (rows : List RowText)
    → list_all (row_in_range outputs) rows ≡ true → list_all row_numbers_fit (map (row_from blocks) rows) ≡ true → list_all (λ (r : RowText). guard_has_block blocks r.guard) rows ≡ true
    → AllBack (row_text_of Second) (λ r. row_data blocks (row_from blocks r)) rows
rows_back blocks outputs names few [] range fit known = tt
rows_back blocks outputs names few (r ∷ rows) range fit known =
    let ranges = and_parts (row_in_range outputs r) (list_all (row_in_range outputs) rows) range in
    let fitting = and_parts (row_numbers_fit (row_from blocks r)) (list_all row_numbers_fit (map (row_from blocks) rows)) fit in
    let knowing = and_parts (guard_has_block blocks r.guard) (list_all (λ (x : RowText). guard_has_block blocks x.guard) rows) known in
    (row_back blocks outputs names few r.state r.low r.high r.next r.emit r.guard (row_good blocks outputs r ranges.0 fitting.0 knowing.0), rows_back blocks outputs names few rows ranges.1 fitting.1 knowing.1)

machine_back : (blocks : List Named) (start outputs : ℤ) (rows : List RowText) → NamesBlocks blocks → IsGood blocks (text.Machine start outputs rows) → IsBack blocks (text.Machine start outputs rows)
unfolding actor_of kind_text_of number_kind_of other_kind_of machine_of
machine_back blocks start outputs rows names good name platform =
    let ranges = and_parts (is_between (pos 1) (pos 8) outputs) (list_all (row_in_range outputs) rows) good.range in
    let fitting = and_parts (fits start) (list_all row_numbers_fit (map (row_from blocks) rows)) good.fit in
    let each = each_turned (row_text_of Second) (row_data blocks) (row_from blocks) rows (rows_back blocks outputs names ranges.0 rows ranges.1 fitting.1 good.known) in
    rw (whole_fits start fitting.0, whole_small 1 8 outputs (omega arith) ranges.0, each) refl

pub kind_back : (blocks : List Named) (k : KindText) → NamesBlocks blocks → IsGood blocks k → (name platform : List ℕ) → actor_of Second (kind_data blocks name platform k) ≡ Some (actor_text name platform k)
kind_back blocks (text.Sensor file bound) names good name platform = sensor_back blocks file bound good name platform
kind_back blocks text.Receive names good name platform = receive_back blocks name platform
kind_back blocks (text.Send slack) names good name platform = send_back blocks slack good name platform
kind_back blocks (text.Actuator slack) names good name platform = actuator_back blocks slack good name platform
kind_back blocks (text.Every start period) names good name platform = every_back blocks start period good name platform
kind_back blocks (text.Delay d) names good name platform = delay_back blocks d good name platform
kind_back blocks (text.Scale num den) names good name platform = scale_back blocks num den good name platform
kind_back blocks (text.Shift by) names good name platform = shift_back blocks by good name platform
kind_back blocks text.Add names good name platform = add_back blocks name platform
kind_back blocks text.Sub names good name platform = sub_back blocks name platform
kind_back blocks (text.Above limit) names good name platform = above_back blocks limit good name platform
kind_back blocks text.Count names good name platform = count_back blocks name platform
kind_back blocks text.Sum names good name platform = sum_back blocks name platform
kind_back blocks text.Latch names good name platform = latch_back blocks name platform
kind_back blocks (text.Merge n) names good name platform = merge_back blocks n good name platform
kind_back blocks (text.Machine start outputs rows) names good name platform = machine_back blocks start outputs rows names good name platform
kind_back blocks (text.Block block) names good name platform = block_back blocks block names good name platform
kind_back blocks (text.Lanes cells) names good name platform = lanes_back blocks cells good name platform
