-- The guards of a lawful machine are lawful.
use Rattle.std.proofs.Common.{◌≡◌, ℕ, ◌<◌, Bool, true, false, ◌&&◌, IsTrue, List, length, get_or, ℤ, refl, sym, subst}
use Rattle.std.specs.List.{list_all}
use Rattle.std.proofs.lemmas.List.Folds.{list_all_at}
use Rattle.pt_types.specs.declared.kind.MachineRow.{MachineRow}
use Rattle.pt_types.specs.declared.kind.Kind.TheVariants.{Machine}
use Rattle.pt_types.specs.Kinds.{kind_is_lawful, row_is_lawful, guard_is_lawful}

second : (a b : Bool) → IsTrue (a && b) → IsTrue b
second true b h = h
second false b h = absurd cc

guard_of_row : (outputs : ℕ) (row : MachineRow) → IsTrue (row_is_lawful outputs row) → IsTrue (guard_is_lawful row.guard)
guard_of_row outputs row h = second _ (guard_is_lawful row.guard) h

row_at : (outputs : ℕ) (rows : List MachineRow) (k : ℕ) (d : MachineRow) (b : Bool) → row_is_lawful outputs (get_or rows k d) ≡ b → k < length rows
    → IsTrue (list_all (row_is_lawful outputs) rows) → IsTrue (row_is_lawful outputs (get_or rows k d))
row_at outputs rows k d true is less h = is
row_at outputs rows k d false is less h =
    let no : list_all (row_is_lawful outputs) rows ≡ false = list_all_at (row_is_lawful outputs) rows k d less is in
    absurd cc

pub guards : (start : ℤ) (outputs : ℕ) (rows given : List MachineRow) (k : ℕ) (d : MachineRow) → given ≡ rows → IsTrue (kind_is_lawful (Machine start outputs rows))
    → k < length given → IsTrue (guard_is_lawful (get_or given k d).guard)
guards start outputs rows given k d is h less =
    let P : List MachineRow → Type 0 = λ rs. IsTrue (list_all (row_is_lawful outputs) rs) in
    let all : P given = subst P (sym is) (second _ _ h) in
    guard_of_row outputs (get_or given k d) (row_at outputs given k d (row_is_lawful outputs (get_or given k d)) refl less all)
