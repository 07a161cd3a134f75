-- Any tasks can be brought into order.
use Rattle.std.proofs.Common.{◌≡◌, ◌<◌, ◌≤◌, ◌⊎◌, ℕ, List, [], ◌∷◌, sym, subst, inl, inr, ⊎_elim, arith}
use Rattle.std.proofs.lemmas.Bool.{cases_lt}
use Rattle.pt_tags.specs.declared.tag.Tag.{Tag}
use Rattle.pt_types.specs.declared.firing.Task.{Task}
use Rattle.pt_semantics.specs.Lists.{Each, IsIn}
use Rattle.pt_semantics.specs.Meaning.{NotAfter}
use Rattle.pt_semantics.proofs.Lookups.{Each-from}
use Rattle.pt_semantics.proofs.Words.{Each-map}
use Rattle.pt_confluence.specs.Joined.{TasksInOrder}

-- the same tasks in order
pub record AreOrdered (rank : ℕ → ℕ) (xs ys : List Task) : Type 0 where
  pub order : TasksInOrder rank ys
  pub of_them : (t : Task) → IsIn t ys → IsIn t xs
  pub all : (t : Task) → IsIn t xs → IsIn t ys

abbrev Weak : ℕ → ℕ → ℕ → ℕ → ℕ → ℕ → ℕ → ℕ → Type 0
Weak t s r a u p q b = (t ≤ u) × (u ≤ t → (s ≤ p) × (p ≤ s → (r ≤ q) × (q ≤ r → a ≤ b)))

pub weak_then : (t u v : Tag) (a b d ra rb rd : ℕ) →
    ((t.time ≤ u.time) × (u.time ≤ t.time → (t.step ≤ u.step) × (u.step ≤ t.step → (ra ≤ rb) × (rb ≤ ra → a ≤ b)))) →
    ((u.time ≤ v.time) × (v.time ≤ u.time → (u.step ≤ v.step) × (v.step ≤ u.step → (rb ≤ rd) × (rd ≤ rb → b ≤ d)))) →
    (t.time ≤ v.time) × (v.time ≤ t.time → (t.step ≤ v.step) × (v.step ≤ t.step → (ra ≤ rd) × (rd ≤ ra → a ≤ d)))
weak_then t u v a b d ra rb rd h k = grind arith

by_actor : (t s r a u p q b : ℕ) → t ≤ u → u ≤ t → s ≤ p → p ≤ s → r ≤ q → q ≤ r → Weak t s r a u p q b ⊎ Weak u p q b t s r a
by_actor t s r a u p q b h1 h2 h3 h4 h5 h6 =
    ⊎_elim
    (λ (l : a < b). inl (h1, λ x. (h3, λ y. (h5, λ z. omega arith))))
    (λ (l : b ≤ a). inr (h2, λ x. (h4, λ y. (h6, λ z. l))))
    (cases_lt a b)

by_rank : (t s r a u p q b : ℕ) → t ≤ u → u ≤ t → s ≤ p → p ≤ s → Weak t s r a u p q b ⊎ Weak u p q b t s r a
by_rank t s r a u p q b h1 h2 h3 h4 =
    ⊎_elim
    (λ (l : r < q). inl (h1, λ x. (h3, λ y. (omega arith, λ z. absurd (omega arith)))))
    (λ (l : q ≤ r).
    ⊎_elim
    (λ (m : q < r). inr (h2, λ x. (h4, λ y. (omega arith, λ z. absurd (omega arith)))))
    (λ (m : r ≤ q). by_actor t s r a u p q b h1 h2 h3 h4 m l)
    (cases_lt q r))
    (cases_lt r q)

by_step : (t s r a u p q b : ℕ) → t ≤ u → u ≤ t → Weak t s r a u p q b ⊎ Weak u p q b t s r a
by_step t s r a u p q b h1 h2 =
    ⊎_elim
    (λ (l : s < p). inl (h1, λ x. (omega arith, λ y. absurd (omega arith))))
    (λ (l : p ≤ s).
    ⊎_elim
    (λ (m : p < s). inr (h2, λ x. (omega arith, λ y. absurd (omega arith))))
    (λ (m : s ≤ p). by_rank t s r a u p q b h1 h2 m l)
    (cases_lt p s))
    (cases_lt s p)

one_is_first : (t s r a u p q b : ℕ) → Weak t s r a u p q b ⊎ Weak u p q b t s r a
one_is_first t s r a u p q b =
    ⊎_elim
    (λ (l : t < u). inl (omega arith, λ x. absurd (omega arith)))
    (λ (l : u ≤ t).
    ⊎_elim
    (λ (m : u < t). inr (omega arith, λ x. absurd (omega arith)))
    (λ (m : t ≤ u). by_step t s r a u p q b m l)
    (cases_lt u t))
    (cases_lt t u)

module _ (rank : ℕ → ℕ) where
  abbrev After : Task → Task → Type 0
  After x y = NotAfter rank x.tag x.actor y.tag y.actor

  -- one task more
  put_in : (t : Task) (xs : List Task) → TasksInOrder rank xs → (ys : List Task) × AreOrdered rank (t ∷ xs) ys
  put_in t [] h = (t ∷ [], record { order = (tt, tt); of_them = λ k m. m; all = λ k m. m })
  put_in t (x ∷ xs) h =
      ⊎_elim
      (λ (first : After t x). (
        t ∷ x ∷ xs,
        record {
          order = ((first, Each-map (After x) (After t) xs (λ z later. weak_then t.tag x.tag z.tag t.actor x.actor z.actor (rank t.actor) (rank x.actor) (rank z.actor) first later) h.0), h);
          of_them = λ k m. m;
          all = λ k m. m;
        },
      ))
      (λ (second : After x t).
      let (ys, are) = put_in t xs h.1 in (
        x ∷ ys,
        record {
          order = (
            Each-from (After x) ys (λ z m.
                ⊎_elim
                (λ (e : z ≡ t). subst (After x) (sym e) second)
                (λ (old : IsIn z xs). in_each (After x) xs h.0 z old)
                (are.of_them z m)),
            are.order,
          );
          of_them = λ k m.
              ⊎_elim
              (λ (e : k ≡ x). inr (inl e))
              (λ (later : IsIn k ys). ⊎_elim (λ (e : k ≡ t). inl e) (λ (old : IsIn k xs). inr (inr old)) (are.of_them k later))
              m;
          all = λ k m.
              ⊎_elim
              (λ (e : k ≡ t). inr (are.all k (inl e)))
              (λ (old : IsIn k (x ∷ xs)). ⊎_elim (λ (e : k ≡ x). inl e) (λ (later : IsIn k xs). inr (are.all k (inr later))) old)
              m;
        },
      ))
      (one_is_first t.tag.time t.tag.step (rank t.actor) t.actor x.tag.time x.tag.step (rank x.actor) x.actor)
    where
      in_each : (P : Task → Type 0) (xs : List Task) → Each P xs → (z : Task) → IsIn z xs → P z
      in_each P [] h z m = absurd m
      in_each P (y ∷ ys) h z m = ⊎_elim (λ (e : z ≡ y). subst P (sym e) h.0) (λ (later : IsIn z ys). in_each P ys h.1 z later) m

  pub order_of : (xs : List Task) → (ys : List Task) × AreOrdered rank xs ys
  order_of [] = ([], record { order = tt; of_them = λ k m. m; all = λ k m. m })
  order_of (x ∷ xs) =
      let (ys, are) = order_of xs in
      let (zs, one) = put_in x ys are.order in (
        zs,
        record {
          order = one.order;
          of_them = λ k m. ⊎_elim (λ (e : k ≡ x). inl e) (λ (old : IsIn k ys). inr (are.of_them k old)) (one.of_them k m);
          all = λ k m. one.all k (⊎_elim (λ (e : k ≡ x). inl e) (λ (old : IsIn k xs). inr (are.all k old)) m);
        },
      )
