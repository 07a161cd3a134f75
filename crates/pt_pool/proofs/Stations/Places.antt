-- Tasks are placed one after another.
use Rattle.std.proofs.Common.{◌≡◌, ℕ, zero, suc, ◌+◌, List, [], ◌∷◌, ◌++◌, None, Some, length, take, refl, sym, ap, subst, ◌∙◌, ⊎_elim, inl, inr, arith, append-nil, append_assoc}
use Rattle.std.specs.Prelude.{slice_get}
use Rattle.std.proofs.lemmas.Bool.{cases_eq}
use Rattle.std.proofs.lemmas.List.{length-append}
use Rattle.pt_types.specs.declared.firing.Task.{Task}
use Rattle.pt_semantics.specs.Lists.{Each}
use Rattle.pt_board.specs.Keepers.{HasPlaced, IsAllOut, KeeperView, out_at}
use Rattle.pt_pool.proofs.Lanes.{same_some}
use Rattle.pt_pool.specs.Stations.Stations.{HavePlaced, IsOut}

each_push : {X : Type 0} (P : X → Type 0) (xs : List X) (x : X) → Each P xs → P x → Each P (xs ++ x ∷ [])
each_push P [] x h p = (p, tt)
each_push P (y ∷ ys) x h p = (h.0, each_push P ys x h.1 p)

each_map : {X : Type 0} (P Q : X → Type 0) (xs : List X) → ((x : X) → P x → Q x) → Each P xs → Each Q xs
each_map P Q [] f h = tt
each_map P Q (x ∷ xs) f h = (f x h.0, each_map P Q xs f h.1)

taken_next : (tasks : List Task) (k : ℕ) (task : Task) → slice_get tasks k ≡ Some task → take (suc k) tasks ≡ take k tasks ++ task ∷ []
taken_next [] k task at = absurd (never at)
  where
    never : slice_get [] k ≡ Some task → ⊥
    never e = cc
taken_next (t ∷ ts) zero task at = ap (λ (z : Task). z ∷ []) (same_some t task at)
taken_next (t ∷ ts) (suc k) task at = ap (λ (z : List Task). t ∷ z) (taken_next ts k task at)

-- what was out is still out
pub out_stays : (old new : KeeperView) (task : Task) → HasPlaced old new task → (i : ℕ) (x : ℕ × Task) → out_at i old.knows ≡ Some x → out_at i new.knows ≡ Some x
out_stays old new task h i x at = ⊎_elim
    (λ (q : i ≡ h.slot). absurd (never (sym h.free ∙ ap (λ (n : ℕ). out_at n old.knows) (sym q) ∙ at)))
    (λ (ne : i ≡ h.slot → ⊥). h.others i ne ∙ at)
    (cases_eq i h.slot)
  where
    never : None ≡ Some x → ⊥
    never e = cc

pub placed_none : (v : KeeperView) (handed : List Task) → HavePlaced [] v v handed handed
placed_none v handed = record {
  out = [];
  left = [];
  parted = refl;
  placed = tt;
  added = sym (append-nil handed);
  full = inl refl;
  stays = λ i x at. at;
  next = omega arith;
  graph = refl;
  table = refl;
}

module _ (tasks : List Task) (k : ℕ) (old mid : KeeperView) (handed now : List Task) (h : HavePlaced (take k tasks) old mid handed now) (task : Task) (here : slice_get tasks k ≡ Some task) where
  one_more : take (k + 1) tasks ≡ (h.out ++ h.left) ++ task ∷ []
  one_more =
      let one : k + 1 ≡ suc k = omega arith in
      ap (λ (n : ℕ). take n tasks) one ∙ taken_next tasks k task here ∙ ap (λ (z : List Task). z ++ task ∷ []) h.parted

  pub placed_one : (new : KeeperView) → HasPlaced mid new task → HavePlaced (take (k + 1) tasks) old new handed now
  placed_one new p =
      let keeps : (i : ℕ) (x : ℕ × Task) → out_at i mid.knows ≡ Some x → out_at i new.knows ≡ Some x = out_stays mid new task p in
      let none : h.left ≡ [] = ⊎_elim (λ (e : h.left ≡ []). e) (λ (all : IsAllOut mid). absurd (all p.slot p.low p.free)) h.full in
      record {
        out = h.out ++ task ∷ [];
        left = h.left;
        parted = one_more
            ∙ ap (λ (z : List Task). (h.out ++ z) ++ task ∷ []) none
            ∙ ap (λ (z : List Task). z ++ task ∷ []) (append-nil h.out)
            ∙ sym (append-nil (h.out ++ task ∷ []))
            ∙ ap (λ (z : List Task). (h.out ++ task ∷ []) ++ z) (sym none);
        placed = each_push (IsOut new) h.out task
            (each_map (IsOut mid) (IsOut new) h.out (λ (t : Task) (o : IsOut mid t). (o.0, o.1, o.2, keeps o.0 (o.1, t) o.3)) h.placed)
            (p.slot, mid.next, p.low, p.out);
        added = h.added;
        full = inl none;
        stays = λ i x at. keeps i x (h.stays i x at);
        next =
            let more : length (h.out ++ task ∷ []) ≡ length h.out + 1 = length-append h.out (task ∷ []) in
            omega (arith, h.next, p.next, more);
        graph = p.graph ∙ h.graph;
        table = p.table ∙ h.table;
      }

  pub placed_left : (new : KeeperView) (after : List Task) → new ≡ mid → IsAllOut mid → after ≡ now ++ task ∷ [] → HavePlaced (take (k + 1) tasks) old new handed after
  placed_left new after same all is = subst (λ (v : KeeperView). HavePlaced (take (k + 1) tasks) old v handed after) (sym same) (record {
    out = h.out;
    left = h.left ++ task ∷ [];
    parted = one_more ∙ append_assoc h.out h.left (task ∷ []);
    placed = h.placed;
    added = is ∙ ap (λ (z : List Task). z ++ task ∷ []) h.added ∙ append_assoc handed h.left (task ∷ []);
    full = inr all;
    stays = h.stays;
    next = h.next;
    graph = h.graph;
    table = h.table;
  })
