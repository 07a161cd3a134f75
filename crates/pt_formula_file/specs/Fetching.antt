-- What fetching a file of formulas leaves.
use Rattle.std.specs.Prelude.{◌≡◌, ℕ, List, Option, IfSome, Result, Ok, Err, ⊤}
use Rattle.pt_io.specs.Calls.{Contents, SourceCall}
use Rattle.pt_io.specs.Causes.{AddsName, Rose}
use Rattle.pt_blocks.specs.declared.blocks.Named.{Named}
use Rattle.pt_formula_file.specs.declared.fault.FormulaFault.{FormulaFault}
use Rattle.pt_formula_file.specs.declared.fault.FormulaFault.TheVariants.{Memory, Read}
use Rattle.pt_formula_file.specs.Adding.{IsAdded, blocks_of}

-- this holds of the bytes of a file: of those that the source reports, if it does, and else of some
abbrev pub OfBytes : Option (List ℕ) → (List ℕ → Type 0) → Type 0
OfBytes reported Holds = (bytes : List ℕ) × IfSome reported (λ known. bytes ≡ known) × Holds bytes

-- a file was asked for and read
pub record IsAskedFor (file : List ℕ) (r : SourceCall) : Type 0 where
  pub name : AddsName r.asked_before r.asked_now file
  pub count : r.now ≡ r.before

-- a read of a file failed
pub record IsUnread (file : List ℕ) (r : SourceCall) : Type 0 where
  pub name : AddsName r.asked_before r.asked_now file
  pub rose : Rose r.before r.now

-- the formulas of this file were added to blocks, which are `listed` now; or it is refused; or it couldn't be read; or memory ran out
abbrev pub IsFetched : Contents → List ℕ → List Named → List Named → SourceCall → Result ⊤ FormulaFault → Type 0
IsFetched contents file blocks listed r (Err Memory) = Unit {0}
IsFetched contents file blocks listed r (Err Read) = IsUnread file r
IsFetched contents file blocks listed r result = IsAskedFor file r × OfBytes (contents file) (λ bytes. IsAdded (blocks_of blocks bytes) listed result)
