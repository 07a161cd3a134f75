-- Lists grow unit by unit, and what is no unit has no row.
use Rattle.std.proofs.Common.{◌≡◌, ◌+◌, ◌≤◌, ℕ, [], List, Option, true, false, nat_lt, length, slice_index_or, refl, sym, ap, subst, ◌∙◌, arith}
use Rattle.std.specs.Option.{is_some}
use Rattle.std.proofs.lemmas.Bool.{false≢true}
use Rattle.std.proofs.lemmas.Bool.Decides.{nat_tests}
use Rattle.std.proofs.lemmas.List.{get_or_past}
use Rattle.pt_tags.specs.declared.tag.Delay.{Delay}
use Rattle.pt_types.specs.declared.graph.Unit.{Unit}
use Rattle.pt_causality.specs.declared.least.Least.{Least}
use Rattle.pt_causality.specs.Before.{words_at, HaveMore, MayBeListed, MayHave}
use Rattle.pt_causality.specs.Cells.{delay_at, first_in, number_in, delay_row_at}
use Rattle.pt_causality.specs.Delays.{HasAllBefore}
use Rattle.pt_causality.proofs.Members.{same_default}

pub still_listed : (row : List (Option Delay)) (old new : List (List ℕ)) (x : Unit) → HaveMore old new → MayBeListed row old x → MayBeListed row new x
still_listed row old new x more h k some = more k x (h k some)

-- a group past those of the actor has no number that a unit has
past_number : (firsts : List ℕ) (x : Unit) → first_in firsts (x.actor + 1) ≤ first_in firsts x.actor + x.group → number_in firsts x ≡ 4294967295
unfolding number_in
past_number firsts x past =
    let no : nat_lt (first_in firsts x.actor + x.group) (first_in firsts (x.actor + 1)) ≡ false = grind (arith, nat_tests) in
    rw no refl

-- so no path leads from it
pub past_listed : (firsts : List ℕ) (rows : List (List (Option Delay))) (lists : List (List ℕ)) (x : Unit) → length rows ≤ 2048
    → first_in firsts (x.actor + 1) ≤ first_in firsts x.actor + x.group → MayBeListed (delay_row_at rows (number_in firsts x)) lists x
past_listed firsts rows lists x few past k some =
    let none : delay_row_at rows (number_in firsts x) ≡ [] = ap (delay_row_at rows) (past_number firsts x past) ∙ get_or_past rows 4294967295 [] (omega arith) in
    absurd (false≢true (sym (ap (λ row. is_some (delay_at row k)) none) ∙ some))

-- the words of a unit have all units from which a path leads to it
module _ (l : Least) (a : Unit) where
  pub found_before : (lists : List (List ℕ)) (k : ℕ) (here words : List ℕ) → lists ≡ l.before.items → k ≡ number_in l.numbers.firsts.items a
      → true ≡ nat_lt k (length lists) → here ≡ slice_index_or lists k here → words ≡ here → HasAllBefore l a words
  found_before lists k here words all number less at is x some =
      subst (λ list. MayHave list x)
      (sym (ap (λ z. words_at z k) all ∙ ap (words_at l.before.items) number)
      ∙ sym (at ∙ same_default lists k here [] (grind (arith, nat_tests))) ∙ sym is)
      (l.listed x (number_in l.numbers.firsts.items a) some)
