-- Formulas are added one after another.
use Rattle.std.proofs.Common.{◌≡◌, ℕ, ◌+◌, ◌≤◌, ◌<◌, Bool, true, false, if◌then◌else◌, nat_le, suc, List, [], ◌∷◌, ◌++◌, length, get_or, drop, take, map, refl, sym, ap, subst, ◌∙◌, arith, Option, Some, None, Result, Ok, Err, IfSome, drop-cons}
use Rattle.std.specs.Bool.{⊤}
use Rattle.std.proofs.lemmas.Grind.{common_steps}
use Rattle.pt_io.specs.Calls.{Contents, SourceCall}
use Rattle.pt_formula.specs.Lines.{Defined, IsRead, Read, read_from}
use Rattle.pt_formula.specs.declared.file.FileFault.{FileFault}
use Rattle.pt_formula.specs.declared.file.FileFault.TheVariants as file
use Rattle.pt_blocks.specs.declared.blocks.Named.{Named}
use Rattle.pt_blocks.specs.Blocks.{has_block, named}
use Rattle.pt_types.specs.declared.kind.Law.TheVariants.{Formula}
use Rattle.pt_formula_file.specs.declared.fault.FormulaFault.{FormulaFault}
use Rattle.pt_formula_file.specs.declared.fault.FormulaFault.TheVariants as fault
use Rattle.pt_formula_file.specs.declared.fault.NotAdded.TheVariants.{Repeated, Full}
use Rattle.pt_formula_file.specs.Adding.{Added, IsAdded, and_then, blocks_of, fault_of_file, with_formula, with_formulas, with_lines}
use Rattle.pt_formula_file.specs.Fetching.{IsAskedFor, IsFetched, OfBytes}
use Rattle.pt_formula_file.specs.Fitting.{AreFit, IsFit}

-- No file is refused as unread.

one_read : (b c : Bool) (blocks : List Named) (d : Defined) → ◌≡◌ {A = Added} (if b then Err (fault.Block d.0 Repeated) else (if c then Err (fault.Block d.0 Full) else Ok (blocks ++ named d.1 (Formula d.2) ∷ []))) (Err fault.Read) → ⊥
one_read true c blocks d h = absurd cc
one_read false true blocks d h = absurd cc
one_read false false blocks d h = absurd cc

read_after : (blocks : List Named) (d : Defined) (r : Added) (next : List Named → Added) → with_formula blocks d ≡ r → ((more : List Named) → next more ≡ Err fault.Read → ⊥) → and_then r next ≡ Err fault.Read → ⊥
read_after blocks d (Ok more) next is others h = others more h
read_after blocks d (Err f) next is others h = one_read (has_block blocks d.1) (nat_le 64 (length blocks)) blocks d (is ∙ h)

all_read : (ds : List Defined) (blocks : List Named) → with_formulas blocks ds ≡ Err fault.Read → ⊥
all_read [] blocks h = absurd cc
all_read (d ∷ ds) blocks h = read_after blocks d (with_formula blocks d) (λ more. with_formulas more ds) refl (λ more is. all_read ds more is) h

lines_read : (blocks : List Named) (r : Read) → with_lines blocks r ≡ Err fault.Read → ⊥
lines_read blocks (Ok ds) h = all_read ds blocks h
lines_read blocks (Err why) h = absurd cc

pub never_unread : (blocks : List Named) (bytes : List ℕ) → blocks_of blocks bytes ≡ Err fault.Read → ⊥
unfolding blocks_of
never_unread blocks bytes h = by (nat_le (length bytes) 65536) h
  where
    by : (b : Bool) → ◌≡◌ {A = Added} (if b then with_lines blocks (read_from 1 0 bytes) else Err fault.TooLong) (Err fault.Read) → ⊥
    by true is = lines_read blocks (read_from 1 0 bytes) is
    by false is = absurd cc

-- A line that is refused.

pub line_refused : (blocks listed : List Named) (found : Read) (f : FileFault) → IsRead found (Err f) → IsAdded (with_lines blocks found) listed (Err (fault_of_file f))
line_refused blocks listed found file.Memory h = tt
line_refused blocks listed found (file.Line line at why) h = ap (with_lines blocks) h

-- A file that is too long, and one that isn't.

pub too_long : (blocks : List Named) (bytes : List ℕ) → 65536 < length bytes → blocks_of blocks bytes ≡ Err fault.TooLong
unfolding blocks_of
too_long blocks bytes long =
    let e : nat_le (length bytes) 65536 ≡ false = grind arith in
    ap (λ c. if c then with_lines blocks (read_from 1 0 bytes) else Err fault.TooLong) e

pub short : (blocks : List Named) (bytes : List ℕ) → length bytes ≤ 65536 → blocks_of blocks bytes ≡ with_lines blocks (read_from 1 0 bytes)
unfolding blocks_of
short blocks bytes few =
    let e : nat_le (length bytes) 65536 ≡ true = grind arith in
    ap (λ c. if c then with_lines blocks (read_from 1 0 bytes) else Err fault.TooLong) e

-- The first bytes of a file, one more than it may have, decide.

whole_of : (n : ℕ) (known : List ℕ) → length known ≤ n → take n known ≡ known
whole_of n known few = grind (arith, common_steps)

length_of : (n : ℕ) (known : List ℕ) → n ≤ length known → length (take n known) ≡ n
length_of n known many = grind (arith, common_steps)

all_of : (bytes known : List ℕ) → length known ≤ 65536 → bytes ≡ take 65537 known → bytes ≡ known
all_of bytes known few is = is ∙ whole_of 65537 known (omega arith)

more_than : (bytes known : List ℕ) → 65536 < length known → bytes ≡ take 65537 known → 65536 < length bytes
more_than bytes known many is = let count : length (take 65537 known) ≡ 65537 = length_of 65537 known (omega arith) in subst (λ b. 65536 < length b) (sym is) (omega (arith, count))

le_of : (n m : ℕ) → nat_le n m ≡ true → n ≤ m
le_of n m h = grind arith

lt_of : (n m : ℕ) → nat_le n m ≡ false → m < n
lt_of n m h = grind arith

same_blocks : (blocks : List Named) (bytes known : List ℕ) → bytes ≡ take 65537 known → blocks_of blocks bytes ≡ blocks_of blocks known
same_blocks blocks bytes known is = by (nat_le (length known) 65536) refl
  where
    by : (b : Bool) → nat_le (length known) 65536 ≡ b → blocks_of blocks bytes ≡ blocks_of blocks known
    by true e = ap (blocks_of blocks) (all_of bytes known (le_of (length known) 65536 e) is)
    by false e = too_long blocks bytes (more_than bytes known (lt_of (length known) 65536 e) is) ∙ sym (too_long blocks known (lt_of (length known) 65536 e))

of_bytes : (reported : Option (List ℕ)) (blocks listed : List Named) (bytes : List ℕ) (result : Result ⊤ FormulaFault) → IfSome reported (λ known. bytes ≡ take 65537 known) → IsAdded (blocks_of blocks bytes) listed result
    → OfBytes reported (λ b. IsAdded (blocks_of blocks b) listed result)
of_bytes None blocks listed bytes result is added = (bytes, tt, added)
of_bytes (Some known) blocks listed bytes result is added = (known, refl, subst (λ a. IsAdded a listed result) (same_blocks blocks bytes known is) added)

pub fetched : (contents : Contents) (file : List ℕ) (blocks listed : List Named) (r : SourceCall) (bytes : List ℕ) (result : Result ⊤ FormulaFault)
    → IsAskedFor file r → IfSome (contents file) (λ known. bytes ≡ take 65537 known) → IsAdded (blocks_of blocks bytes) listed result → IsFetched contents file blocks listed r result
fetched contents file blocks listed r bytes (Ok done) asked is added = (asked, of_bytes (contents file) blocks listed bytes (Ok done) is added)
fetched contents file blocks listed r bytes (Err fault.Memory) asked is added = tt
fetched contents file blocks listed r bytes (Err fault.Read) asked is added = absurd (never_unread blocks bytes added)
fetched contents file blocks listed r bytes (Err fault.TooLong) asked is added = (asked, of_bytes (contents file) blocks listed bytes (Err fault.TooLong) is added)
fetched contents file blocks listed r bytes (Err (fault.Line line at why)) asked is added = (asked, of_bytes (contents file) blocks listed bytes (Err (fault.Line line at why)) is added)
fetched contents file blocks listed r bytes (Err (fault.Block line why)) asked is added = (asked, of_bytes (contents file) blocks listed bytes (Err (fault.Block line why)) is added)
