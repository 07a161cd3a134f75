-- Tasks that were sorted are in order.
use Rattle.std.proofs.Common.{◌≡◌, ◌<◌, ◌+◌, ◌&&◌, ◌==◌, ℕ, zero, suc, true, false, nat_lt, List, [], ◌∷◌, Some, map, length, get_or, slice_get, refl, sym, subst, inl, inr, ⊎_elim, arith}
use Rattle.std.specs.List.{All, list_all}
use Rattle.std.specs.List.Sorted.{IsPermutation, IsSortedByKey}
use Rattle.std.specs.Ordering.{is_lt}
use Rattle.std.proofs.lemmas.Bool.{and_parts}
use Rattle.std.proofs.lemmas.Bool.Decides.{nat_tests}
use Rattle.std.proofs.lemmas.Grind.{common_steps}
use Rattle.std.proofs.lemmas.List.Sorted.{All-permutation, IsPermutation-sym}
use Rattle.pt_types.specs.Kinds.{kind_is_lawful, visible_inputs, visible_outputs}
use Rattle.pt_types.specs.Lawful.{actor_is_lawful}
use Rattle.pt_types.specs.Names.{is_name}
use Rattle.pt_types.specs.declared.firing.Task.{Task}
use Rattle.pt_types.specs.declared.graph.Actor.{Actor}
use Rattle.pt_semantics.specs.Lists.{IsIn}
use Rattle.pt_semantics.specs.Meaning.{NotAfter}
use Rattle.pt_semantics.proofs.Lookups.{none_some, same_some}
use Rattle.pt_semantics.proofs.Words.{Each-map}
use Rattle.pt_confluence.specs.Joined.{TasksInOrder}
use Rattle.pt_confluence.specs.Moments.{moment_cmp, moment_of}
use Rattle.pt_confluence.proofs.Ordering.{AreOrdered, weak_then}

not_after : (rank : ℕ → ℕ) (x y : Task) → is_lt (moment_cmp (moment_of rank y) (moment_of rank x)) ≡ false → NotAfter rank x.tag x.actor y.tag y.actor
not_after rank x y h = grind (arith, nat_tests, common_steps)

module _ {X : Type 0} (v : X → Task) (rank : ℕ → ℕ) where
  order_from : (xs : List X) → IsSortedByKey (λ x. moment_of rank (v x)) moment_cmp xs → TasksInOrder rank (map v xs)
  order_from [] h = tt
  order_from (x ∷ []) h = (tt, tt)
  order_from (x ∷ y ∷ ys) h =
      let first : NotAfter rank (v x).tag (v x).actor (v y).tag (v y).actor = not_after rank (v x) (v y) (h 0 x (omega arith) (omega arith)) in
      let rest = order_from (y ∷ ys) (λ k d low lt.
      let next : suc k + 1 ≡ suc (k + 1) = omega arith in
      subst (λ n. is_lt (moment_cmp (moment_of rank (v (get_or (x ∷ y ∷ ys) n d))) (moment_of rank (v (get_or (y ∷ ys) k d)))) ≡ false) next (h (suc k) d (omega arith) (omega (arith, lt)))) in (
        (
          first,
          Each-map (λ (z : Task). NotAfter rank (v y).tag (v y).actor z.tag z.actor) (λ (z : Task). NotAfter rank (v x).tag (v x).actor z.tag z.actor) (map v ys)
              (λ z later. weak_then (v x).tag (v y).tag z.tag (v x).actor (v y).actor z.actor (rank (v x).actor) (rank (v y).actor) (rank z.actor) first later)
              rest.0,
        ),
        rest,
      )

  all_in : (xs : List X) (zs : List Task) → ((x : X) → IsIn (v x) (map v xs) → IsIn (v x) zs) → (k : ℕ) (d : X) → k < length xs → IsIn (v (get_or xs k d)) zs
  all_in [] zs sub k d lt = absurd (omega arith)
  all_in (x ∷ xs) zs sub zero d lt = sub x (inl refl)
  all_in (x ∷ xs) zs sub (suc k) d lt = all_in xs zs (λ y m. sub y (inr m)) k d (omega arith)

  in_all : (ys : List X) (zs : List Task) → All (λ x. IsIn (v x) zs) ys → (t : Task) → IsIn t (map v ys) → IsIn t zs
  in_all [] zs h t m = absurd m
  in_all (y ∷ ys) zs h t m =
      ⊎_elim
      (λ (e : t ≡ v y). subst (λ k. IsIn k zs) (sym e) (h 0 y (omega arith)))
      (λ (later : IsIn t (map v ys)). in_all ys zs (λ k d lt. h (suc k) d (omega arith)) t later)
      m

  same_tasks : (xs ys : List X) → IsPermutation xs ys → (t : Task) → IsIn t (map v ys) → IsIn t (map v xs)
  same_tasks xs ys perm t m = in_all ys (map v xs) (All-permutation (λ x. IsIn (v x) (map v xs)) xs ys perm (all_in xs (map v xs) (λ x h. h))) t m

  pub sorted_tasks : (xs ys : List X) → IsPermutation xs ys → IsSortedByKey (λ x. moment_of rank (v x)) moment_cmp ys → AreOrdered rank (map v xs) (map v ys)
  sorted_tasks xs ys perm sorted = record {
    order = order_from ys sorted;
    of_them = same_tasks xs ys perm;
    all = same_tasks ys xs (IsPermutation-sym xs ys perm);
  }

lawful_kind : (n : ℕ) (a : Actor) → actor_is_lawful n a ≡ true → kind_is_lawful a.kind ≡ true
lawful_kind n a h =
    let four = and_parts (is_name a.name && nat_lt a.platform n && kind_is_lawful a.kind && a.inputs == visible_inputs a.kind) (a.outputs == visible_outputs a.kind) h in
    let three = and_parts (is_name a.name && nat_lt a.platform n && kind_is_lawful a.kind) (a.inputs == visible_inputs a.kind) four.0 in
    let two = and_parts (is_name a.name && nat_lt a.platform n) (kind_is_lawful a.kind) three.0 in
    two.1

-- each actor of a lawful graph has a lawful kind
pub lawful_at : (n : ℕ) (actors : List Actor) (i : ℕ) (a : Actor) → list_all (actor_is_lawful n) actors ≡ true → slice_get actors i ≡ Some a → kind_is_lawful a.kind ≡ true
lawful_at n [] i a all there = absurd (none_some a there)
lawful_at n (x ∷ actors) zero a all there = subst (λ (y : Actor). kind_is_lawful y.kind ≡ true) (same_some x a there) (lawful_kind n x (and_parts (actor_is_lawful n x) (list_all (actor_is_lawful n) actors) all).0)
lawful_at n (x ∷ actors) (suc i) a all there = lawful_at n actors i a (and_parts (actor_is_lawful n x) (list_all (actor_is_lawful n) actors) all).1 there
