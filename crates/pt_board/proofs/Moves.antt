-- Each step keeps the rule.
use Rattle.std.proofs.Common.{◌≡◌, ◌≢◌, ℕ, zero, suc, ◌+◌, ◌*◌, ◌/◌, ◌%◌, ◌<◌, Bool, true, false, true≢false, Option, Some, None, List, [], ◌∷◌, ◌++◌, ◌⊎◌, inl, inr, map, length, replicate, get_or, set, eqb, eq-eqb, ne_eqb, refl, sym, ap, ◌∙◌, subst, ⊎_elim, arith}
use Rattle.std.specs.Prelude.{slice_index, MatchBool, ◌==◌}
use Rattle.std.proofs.lemmas.Bool.{cases_eq}
use Rattle.std.proofs.lemmas.Bool.Decides.{nat_tests}
use Rattle.std.proofs.lemmas.List.{length-set}
use mathlib.Core.Option.{some, none, some-injective, some-ne-none}
use prog.Atomic.{either}
use lib.ListN.{get_elem?}
use Rattle.atomic_table.specs.Table.{State, Act, Allows, Splits, Joins, opening, Valid, stepped, carried_after, step, rest, keeps, takes, gives}
use Rattle.atomic_table.proofs.Lists.{set_here, set_else, at_set, at_snoc}
use Rattle.pt_types.specs.declared.firing.Done.{Done}
use Rattle.pt_types.specs.declared.graph.Graph.{Graph}
use Rattle.pt_board.specs.declared.rule.SlotView.{SlotView}
use Rattle.pt_board.specs.declared.rule.View.{View}
use Rattle.pt_board.specs.declared.table.Item.{Item}
use Rattle.pt_board.specs.declared.table.Item.TheVariants.{Nothing, Placed, Finished}
use Rattle.pt_types.specs.declared.firing.Task.{Task}
use Rattle.pt_board.specs.Rule.{IsResult, empty_task, no_part, part, with_part, keeper_first, hand_first, Content, SeatFits, Slot, BoardRule}
use Rattle.pt_board.specs.Plays.{looking, holding, outing, with_claim, losing, took_free, put_ready, with_load, tried, put_done, looked_done, put_free, gave_back, took_again}
use Rattle.pt_board.specs.Seats.{SameElse}
use Rattle.pt_board.proofs.Touch.{touch, part_here, part_else}

pub front : (m : List (ℕ × Item)) (x : ℕ × Item) (r : List (ℕ × Item)) → m ≡ x ∷ r → m ≡ x ∷ rest m
front m x r e = e ∙ ap (λ (q : List (ℕ × Item)). x ∷ q) (sym (ap rest e))

-- the view after one step on a slot
pub once : (v w : View) (k : ℕ) (p : SlotView) → length v.parts ≡ 32 → k < 32 → w ≡ with_part v k p → (part k w ≡ p) × SameElse k v w × (w.is_keeper ≡ v.is_keeper) × (length w.parts ≡ 32)
once v w k p len low e = (
  ap (λ (u : View). part k u) e ∙ part_here v k p (subst (λ (m : ℕ). k < m) (sym len) low),
  (λ j ne. ap (λ (u : View). part j u) e ∙ part_else v k j p ne),
  ap (λ (u : View). u.is_keeper) e,
  ap (λ (u : View). length u.parts) e ∙ length-set v.parts k p ∙ len,
)

module _ (g : Graph) where
  abbrev Mine : ℕ → Task → ℕ → ℕ → Bool → ℕ → SlotView → Type 0
  Mine number task phase owner busy id p = (m : ℕ) (u : Task) → p.mine ≡ Some (m, u) → (id ≡ owner) × (phase ≡ 2) × (m ≡ number) × (u ≡ task) × (p.holds ≡ busy)

  -- a seat that doesn't keep
  alone : (keeper number : ℕ) (task : Task) (phase owner : ℕ) (busy : Bool) (id : ℕ) (b : Bool) (p : SlotView) → (b ≡ true → ⊥) → Mine number task phase owner busy id p → SeatFits keeper number task phase owner busy id b p
  alone keeper number task phase owner busy id b p off mine = record {
    only = λ q. absurd (off q);
    free = λ q. absurd (off q);
    out = λ q. absurd (off q);
    holds_it = λ q. absurd (off q);
    holds_none = λ q. absurd (off q);
    mine = mine;
  }

  some_none : {A : Type 0} (x : A) → None ≡ Some x → ⊥
  some_none x e = cc

  abbrev Carried : Type 0
  Carried = List (ℕ × Item)

  -- the keeper takes the content of a free slot
  pub takes_free : (sl id : ℕ) (v : View) (c : Carried) (k : ℕ) → k < 32 → v.is_keeper ≡ true → (part k v).out ≡ None → (part k v).holds ≡ false
      → Allows (BoardRule g) sl id (v, c) k (λ n. n) (took_free (step sl k 0 0 none) (v, c))
  takes_free sl id v c k low kp out holds s K _ at _ =
      let S = K.slots k low in
      let F = S.fits id v at in
      let p = part k v in
      let n = slice_index s.words k in
      let ph : S.phase ≡ 0 = ⊎_elim (λ (e : S.phase ≡ 0). e) (λ (ne : S.phase ≡ 0 → ⊥). absurd (some_none (S.number, S.task) (sym out ∙ F.out kp ne))) (cases_eq S.phase 0) in
      let idle : S.busy ≡ false = sym (F.holds_it kp (λ e. absurd (omega arith))) ∙ holds in
      let C = S.content idle in
      let w = with_part v k (holding (looking p n) true) in (
        w,
        takes k C.0,
        C.1,
        touch g s K id v k n (set s.homes k none) (holding (looking p n) true) S.number S.task S.phase S.owner true at low (length-set s.homes k none ∙ K.homes) (λ j ne. set_else s.homes k j none ne) S.word_is S.small (λ e. absurd (omega arith)) (λ e. absurd (true≢false e))
            (record {
              only = F.only;
              free = F.free;
              out = λ q ne. absurd (ne ph);
              holds_it = λ q ne. refl;
              holds_none = λ q e. absurd (omega arith);
              mine = λ m u e. let h = (F.mine m u e).1 in absurd (omega arith);
            })
            (λ i u ne e. let G = S.fits i u e in alone K.keeper S.number S.task S.phase S.owner true i u.is_keeper (part k u) (λ q. ne (G.only q ∙ sym (F.only kp))) (λ m x r. let h = (G.mine m x r).1 in absurd (omega arith))),
        (C.0, refl),
      )

  -- the keeper puts a task into the slot whose content is out with it
  pub puts_ready : (sl id : ℕ) (v : View) (r : Carried) (k number : ℕ) (task : Task) → k < 32 → v.is_keeper ≡ true → (part k v).out ≡ None → (part k v).holds ≡ true
      → Allows (BoardRule g) sl id (v, (k, Placed task) ∷ r) k (λ _. number * 4 + 1) (λ _. put_ready (step sl k (number * 4 + 1) 0 none) (v, (k, Placed task) ∷ r))
  puts_ready sl id v r k number task low kp out holds s K hl at _ =
      let S = K.slots k low in
      let F = S.fits id v at in
      let p = part k v in
      let ph : S.phase ≡ 0 = ⊎_elim (λ (e : S.phase ≡ 0). e) (λ (ne : S.phase ≡ 0 → ⊥). absurd (some_none (S.number, S.task) (sym out ∙ F.out kp ne))) (cases_eq S.phase 0) in
      let homes = set s.homes k (some (Placed task)) in
      let low' : k < length s.homes = subst (λ (m : ℕ). k < m) (sym K.homes) low in
      let q' = outing p (Some (number, task)) in (
        with_part v k q',
        gives,
        tt,
        touch g s K id v k (number * 4 + 1) homes q' number task 1 0 false at low (length-set s.homes k (some (Placed task)) ∙ K.homes) (λ j ne. set_else s.homes k j (some (Placed task)) ne) refl (omega arith) (λ e. refl) (λ e. (Placed task, set_here s.homes k (some (Placed task)) low', (λ x. refl), (λ x. absurd (omega arith))))
            (record {
              only = F.only;
              free = λ q e. absurd (omega arith);
              out = λ q ne. refl;
              holds_it = λ q ne. refl;
              holds_none = λ q e. refl;
              mine = λ m u e. let h = (F.mine m u e).1 in absurd (omega arith);
            })
            (λ i u ne e. let G = S.fits i u e in alone K.keeper number task 1 0 false i u.is_keeper (part k u) (λ q. ne (G.only q ∙ sym (F.only kp))) (λ m x z. let h = (G.mine m x z).1 in absurd (omega arith))),
        (task, number, refl, refl, refl),
      )

  -- a look changes nothing of the slot
  looks_at : (s : State Item View) (K : BoardRule g s) (id : ℕ) (v : View) (k : ℕ) (p : SlotView) → get_elem? s.views id ≡ some v → k < 32 → p.out ≡ (part k v).out → p.mine ≡ (part k v).mine → p.holds ≡ (part k v).holds
      → BoardRule g (record { words = set s.words k (slice_index s.words k); homes = s.homes; views = set s.views id (with_part v k p) })
  looks_at s K id v k p at low o m h =
      let S = K.slots k low in
      let F = S.fits id v at in
      touch g s K id v k (slice_index s.words k) s.homes p S.number S.task S.phase S.owner S.busy at low K.homes (λ j ne. refl) S.word_is S.small S.ready S.content (record {
        only = F.only;
        free = λ q e. o ∙ F.free q e;
        out = λ q e. o ∙ F.out q e;
        holds_it = λ q e. h ∙ F.holds_it q e;
        holds_none = λ q e. h ∙ F.holds_none q e;
        mine = λ x u e. let f = F.mine x u (sym m ∙ e) in (f.0, f.1, f.2, f.3, h ∙ f.4);
      }) (λ i u ne e. S.fits i u e)

  pub looks : (sl id : ℕ) (v : View) (c : Carried) (k : ℕ) → k < 32 → Allows (BoardRule g) sl id (v, c) k (λ n. n) (with_load (step sl k 0 0 none) (v, c))
  looks sl id v c k low s K _ at _ =
      let p = looking (part k v) (slice_index s.words k) in (with_part v k p, keeps, tt, looks_at s K id v k p at low refl refl refl, refl)

  -- the phase and the number that a word shows
  phase_of : (word number phase n f : ℕ) → word ≡ number * 4 + phase → phase < 4 → f < 4 → word ≡ n * 4 + f → (phase ≡ f) × (number ≡ n)
  phase_of word number phase n f e s t h = (omega arith, omega arith)

  -- a hand puts the result into the slot that it holds
  pub puts_done : (sl id : ℕ) (v : View) (r : Carried) (k number : ℕ) (done : Done) → k < 32 → v.is_keeper ≡ false → (part k v).mine ≡ Some (number, done.task) → (part k v).holds ≡ true → (h : Graph) → v.graph ≡ Some h → IsResult h done
      → Allows (BoardRule g) sl id (v, (k, Finished done) ∷ r) k (λ _. number * 4 + 3) (λ _. put_done (step sl k (number * 4 + 3) 0 none) (v, (k, Finished done) ∷ r))
  puts_done sl id v r k number done low kp mine holds h graph is s K hl at _ =
      let S = K.slots k low in
      let F = S.fits id v at in
      let p = part k v in
      let M = F.mine number done.task mine in
      let homes = set s.homes k (some (Finished done)) in
      let low' : k < length s.homes = subst (λ (m : ℕ). k < m) (sym K.homes) low in
      let q' = with_claim p None false in (
        with_part v k q',
        gives,
        tt,
        touch g s K id v k (number * 4 + 3) homes q' number done.task 3 0 false at low (length-set s.homes k (some (Finished done)) ∙ K.homes) (λ j ne. set_else s.homes k j (some (Finished done)) ne) refl (omega arith) (λ e. refl) (λ e. (Finished done, set_here s.homes k (some (Finished done)) low', (λ x. absurd (omega arith)), (λ x. (done, refl, refl, subst (λ (z : Graph). IsResult z done) (K.graphs id v h at graph) is))))
            (alone K.keeper number done.task 3 0 false id v.is_keeper q' (λ q. absurd (true≢false (sym q ∙ kp))) (λ m u e. absurd (some_none (m, u) e)))
            (λ i u ne e. let G = S.fits i u e in record {
              only = G.only;
              free = λ q z. absurd (omega arith);
              out = λ q z. G.out q (λ y. absurd (omega (arith, M.1))) ∙ (λ t. Some (sym M.2 t, sym M.3 t));
              holds_it = λ q z. G.holds_none q M.1;
              holds_none = λ q z. absurd (omega arith);
              mine = λ m x z. absurd (ne ((G.mine m x z).0 ∙ sym M.0));
            }),
        refl,
      )

  -- what the others know of a slot that a hand holds stays
  others_of : (s : State Item View) (K : BoardRule g s) (id k : ℕ) (low : k < 32) (busy : Bool) → let S = K.slots k low in (id ≡ S.owner) → S.phase ≡ 2
      → (i : ℕ) (u : View) → i ≢ id → get_elem? s.views i ≡ some u → SeatFits K.keeper S.number S.task S.phase S.owner busy i u.is_keeper (part k u)
  others_of s K id k low busy own ph i u ne e = let S = K.slots k low in let G = S.fits i u e in record {
    only = G.only;
    free = G.free;
    out = G.out;
    holds_it = λ q z. absurd (z ph);
    holds_none = G.holds_none;
    mine = λ m x z. absurd (ne ((G.mine m x z).0 ∙ sym own));
  }

  -- a hand puts back the content of the slot that it holds
  pub gives_back : (sl id : ℕ) (v : View) (r : Carried) (y : Item) (k number : ℕ) (task : Task) → k < 32 → v.is_keeper ≡ false → (part k v).mine ≡ Some (number, task) → (part k v).holds ≡ true
      → Allows (BoardRule g) sl id (v, (k, y) ∷ r) k (λ n. n) (gave_back (step sl k 0 0 none) (v, (k, y) ∷ r))
  gives_back sl id v r y k number task low kp mine holds s K hl at _ =
      let S = K.slots k low in
      let M = (S.fits id v at).mine number task mine in
      let n = slice_index s.words k in
      let homes = set s.homes k (some y) in
      let low' : k < length s.homes = subst (λ (m : ℕ). k < m) (sym K.homes) low in
      let q' = holding (looking (part k v) n) false in (
        with_part v k q',
        gives,
        tt,
        touch g s K id v k n homes q' S.number S.task S.phase S.owner false at low (length-set s.homes k (some y) ∙ K.homes) (λ j ne. set_else s.homes k j (some y) ne) S.word_is S.small (λ e. refl) (λ e. (y, set_here s.homes k (some y) low', (λ x. absurd (omega (arith, M.1))), (λ x. absurd (omega (arith, M.1)))))
            (alone K.keeper S.number S.task S.phase S.owner false id v.is_keeper q' (λ q. absurd (true≢false (sym q ∙ kp))) (λ m u e. let h = (S.fits id v at).mine m u e in (h.0, h.1, h.2, h.3, refl)))
            (others_of s K id k low false M.0 M.1),
        refl,
      )

  -- a hand takes it again
  pub takes_again : (sl id : ℕ) (v : View) (c : Carried) (k number : ℕ) (task : Task) → k < 32 → v.is_keeper ≡ false → (part k v).mine ≡ Some (number, task) → (part k v).holds ≡ false
      → Allows (BoardRule g) sl id (v, c) k (λ n. n) (took_again (step sl k 0 0 none) (v, c))
  takes_again sl id v c k number task low kp mine holds s K _ at _ =
      let S = K.slots k low in
      let M = (S.fits id v at).mine number task mine in
      let n = slice_index s.words k in
      let C = S.content (sym M.4 ∙ holds) in
      let q' = holding (looking (part k v) n) true in (
        with_part v k q',
        takes k C.0,
        C.1,
        touch g s K id v k n (set s.homes k none) q' S.number S.task S.phase S.owner true at low (length-set s.homes k none ∙ K.homes) (λ j ne. set_else s.homes k j none ne) S.word_is S.small (λ e. absurd (omega (arith, M.1))) (λ e. absurd (true≢false e))
            (alone K.keeper S.number S.task S.phase S.owner true id v.is_keeper q' (λ q. absurd (true≢false (sym q ∙ kp))) (λ m u e. let h = (S.fits id v at).mine m u e in (h.0, h.1, h.2, h.3, refl)))
            (others_of s K id k low true M.0 M.1),
        (C.0, refl),
      )

  -- the keeper frees a slot whose result is out with it
  pub puts_free : (sl id : ℕ) (v : View) (r : Carried) (y : Item) (k number : ℕ) (task : Task) → k < 32 → v.is_keeper ≡ true → (part k v).out ≡ Some (number, task) → (part k v).holds ≡ true
      → Allows (BoardRule g) sl id (v, (k, y) ∷ r) k (λ _. number * 4) (λ _. put_free (step sl k (number * 4) 0 none) (v, (k, y) ∷ r))
  puts_free sl id v r y k number task low kp out holds s K hl at _ =
      let S = K.slots k low in
      let F = S.fits id v at in
      let p = part k v in
      let n0 : S.phase ≢ 0 = λ e. some_none (number, task) (sym (F.free kp e) ∙ out) in
      let n2 : S.phase ≢ 2 = λ e. true≢false (sym holds ∙ F.holds_none kp e) in
      let homes = set s.homes k (some y) in
      let low' : k < length s.homes = subst (λ (m : ℕ). k < m) (sym K.homes) low in
      let q' = outing p None in (
        with_part v k q',
        gives,
        tt,
        touch g s K id v k (number * 4) homes q' number task 0 0 false at low (length-set s.homes k (some y) ∙ K.homes) (λ j ne. set_else s.homes k j (some y) ne) (omega arith) (omega arith) (λ e. refl) (λ e. (y, set_here s.homes k (some y) low', (λ x. absurd (omega arith)), (λ x. absurd (omega arith))))
            (record {
              only = F.only;
              free = λ q e. refl;
              out = λ q ne. absurd (ne refl);
              holds_it = λ q ne. refl;
              holds_none = λ q e. refl;
              mine = λ m u e. absurd (n2 (F.mine m u e).1);
            })
            (λ i u ne e. let G = S.fits i u e in alone K.keeper number task 0 0 false i u.is_keeper (part k u) (λ q. ne (G.only q ∙ sym (F.only kp))) (λ m x z. absurd (n2 (G.mine m x z).1))),
        refl,
      )

  unclaimed : (o : Option (ℕ × Task)) → ((m : ℕ) (u : Task) → o ≡ Some (m, u) → ⊥) → o ≡ None
  unclaimed None never = refl
  unclaimed (Some p) never = absurd (never p.0 p.1 refl)

  is_equal : (a b : ℕ) → (a == b) ≡ true → a ≡ b
  is_equal a b e = grind (arith, nat_tests)

  some_pair : (p q : ℕ × Task) → Some p ≡ Some q → (p.0 ≡ q.0) × (p.1 ≡ q.1)
  some_pair p q e = let f : Option (ℕ × Task) → ℕ × Task = λ o. elim o [ None ↦ p | Some r ↦ r ] in (ap (λ (o : Option (ℕ × Task)). (f o).0) e, ap (λ (o : Option (ℕ × Task)). (f o).1) e)

  abbrev Is : View × Carried → View × Carried → Type 0
  Is x y = x ≡ y

  -- the claim of a task: the exchange is won, or another word is found
  tries_as : (id : ℕ) (v : View) (c : Carried) (k number : ℕ) (s : State Item View) → BoardRule g s → get_elem? s.views id ≡ some v → k < 32 → v.is_keeper ≡ false → (b : Bool) → (slice_index s.words k == number * 4 + 1) ≡ b
      → (w : View) × (a : Act Item) × Valid s.homes c a × BoardRule g (stepped s k (either b (number * 4 + 2) (slice_index s.words k)) id c w a)
      × MatchBool b ((t : Task) × Is (w, carried_after c a) (with_part v k (with_claim (part k v) (Some ((number * 4 + 1) / 4, t)) true), (k, Placed t) ∷ c) × ((part k v).mine ≡ None))
      (Is (w, carried_after c a) (with_part v k (losing (part k v) (slice_index s.words k)), c))
  tries_as id v c k number s K at low kp false is =
      let p = losing (part k v) (slice_index s.words k) in (with_part v k p, keeps, tt, looks_at s K id v k p at low refl refl refl, refl)
  tries_as id v c k number s K at low kp true is =
      let S = K.slots k low in
      let F = S.fits id v at in
      let n = slice_index s.words k in
      let e : n ≡ number * 4 + 1 = is_equal n (number * 4 + 1) is in
      let f = phase_of n S.number S.phase number 1 S.word_is S.small (omega arith) e in
      let idle : S.busy ≡ false = S.ready f.0 in
      let C = S.content idle in
      let y : C.0 ≡ Placed S.task = C.2 f.0 in
      let valid : get_elem? s.homes k ≡ some (some (Placed S.task)) = C.1 ∙ ap (λ (z : Item). some (some z)) y in
      let quarter : (number * 4 + 1) / 4 ≡ S.number = omega (arith, f.1) in
      let q' = with_claim (part k v) (Some ((number * 4 + 1) / 4, S.task)) true in (
        with_part v k q',
        takes k (Placed S.task),
        valid,
        touch g s K id v k (number * 4 + 2) (set s.homes k none) q' S.number S.task 2 id true at low (length-set s.homes k none ∙ K.homes) (λ j ne. set_else s.homes k j none ne) (omega (arith, f.1)) (omega arith) (λ x. absurd (omega arith)) (λ x. absurd (true≢false x))
            (alone K.keeper S.number S.task 2 id true id v.is_keeper q' (λ q. absurd (true≢false (sym q ∙ kp))) (λ m u x.
            let h = some_pair ((number * 4 + 1) / 4, S.task) (m, u) x in (refl, refl, sym h.0 ∙ quarter, sym h.1, refl)))
            (λ i u ne x. let G = S.fits i u x in record {
              only = G.only;
              free = λ q z. absurd (omega arith);
              out = λ q z. G.out q (λ o. absurd (omega (arith, f.0)));
              holds_it = λ q z. absurd (z refl);
              holds_none = λ q z. G.holds_it q (λ o. absurd (omega (arith, f.0))) ∙ idle;
              mine = λ m y z. let h = (G.mine m y z).1 in absurd (omega (arith, f.0));
            }),
        (S.task, refl, unclaimed (part k v).mine (λ m u x. let h = (F.mine m u x).1 in absurd (omega (arith, f.0)))),
      )

  pub tries : (sl id : ℕ) (v : View) (c : Carried) (k number : ℕ) → k < 32 → v.is_keeper ≡ false
      → Allows (BoardRule g) sl id (v, c) k (λ n. either (n == number * 4 + 1) (number * 4 + 2) n) (tried (step sl k (number * 4 + 1) (number * 4 + 2) none) (v, c))
  tries sl id v c k number low kp s K _ at _ = tries_as id v c k number s K at low kp (slice_index s.words k == number * 4 + 1) refl

  -- the keeper looks for a result
  done_as : (id : ℕ) (v : View) (c : Carried) (k number : ℕ) (task : Task) (s : State Item View) → BoardRule g s → get_elem? s.views id ≡ some v → k < 32 → v.is_keeper ≡ true → (part k v).out ≡ Some (number, task) → (part k v).holds ≡ false
      → (b : Bool) → (slice_index s.words k % 4 == 3) ≡ b
      → (w : View) × (a : Act Item) × Valid s.homes c a × BoardRule g (stepped s k (slice_index s.words k) id c w a)
      × MatchBool b ((n : ℕ) × (d : Done) × ((part k v).out ≡ Some (n, d.task)) × ((h : Graph) → v.graph ≡ Some h → IsResult h d) × Is (w, carried_after c a) (with_part v k (holding (looking (part k v) (slice_index s.words k)) true), (k, Finished d) ∷ c))
      (Is (w, carried_after c a) (with_part v k (looking (part k v) (slice_index s.words k)), c))
  done_as id v c k number task s K at low kp out holds false is =
      let p = looking (part k v) (slice_index s.words k) in (with_part v k p, keeps, tt, looks_at s K id v k p at low refl refl refl, refl)
  done_as id v c k number task s K at low kp out holds true is =
      let S = K.slots k low in
      let F = S.fits id v at in
      let n = slice_index s.words k in
      let e : n % 4 ≡ 3 = is_equal (n % 4) 3 is in
      let ph : S.phase ≡ 3 = omega (arith, S.word_is, S.small) in
      let idle : S.busy ≡ false = sym (F.holds_it kp (λ x. absurd (omega arith))) ∙ holds in
      let C = S.content idle in
      let D = C.3 ph in
      let same = some_pair (number, task) (S.number, S.task) (sym out ∙ F.out kp (λ x. absurd (omega arith))) in
      let named : D.0.task ≡ task = D.2 ∙ sym same.1 in
      let valid : get_elem? s.homes k ≡ some (some (Finished D.0)) = C.1 ∙ ap (λ (z : Item). some (some z)) D.1 in
      let q' = holding (looking (part k v) n) true in (
        with_part v k q',
        takes k (Finished D.0),
        valid,
        touch g s K id v k n (set s.homes k none) q' S.number S.task S.phase S.owner true at low (length-set s.homes k none ∙ K.homes) (λ j ne. set_else s.homes k j none ne) S.word_is S.small (λ x. absurd (omega arith)) (λ x. absurd (true≢false x))
            (record {
              only = F.only;
              free = F.free;
              out = F.out;
              holds_it = λ q ne. refl;
              holds_none = λ q x. absurd (omega arith);
              mine = λ m u x. let h = (F.mine m u x).1 in absurd (omega arith);
            })
            (λ i u ne x. let G = S.fits i u x in alone K.keeper S.number S.task S.phase S.owner true i u.is_keeper (part k u) (λ q. ne (G.only q ∙ sym (F.only kp))) (λ m z r. let h = (G.mine m z r).1 in absurd (omega arith))),
        (number, D.0, out ∙ ap (λ (t : Task). Some (number, t)) (sym named), (λ h o. subst (λ (z : Graph). IsResult z D.0) (sym (K.graphs id v h at o)) D.3), refl),
      )

  pub looks_done : (sl id : ℕ) (v : View) (c : Carried) (k number : ℕ) (task : Task) → k < 32 → v.is_keeper ≡ true → (part k v).out ≡ Some (number, task) → (part k v).holds ≡ false
      → Allows (BoardRule g) sl id (v, c) k (λ n. n) (looked_done (step sl k 0 0 none) (v, c))
  looks_done sl id v c k number task low kp out holds s K _ at _ = done_as id v c k number task s K at low kp out holds (slice_index s.words k % 4 == 3) refl

  pub same_default : {A : Type 0} (n k : ℕ) (a : A) → get_or (replicate n a) k a ≡ a
  same_default zero k a = refl
  same_default (suc n) zero a = refl
  same_default (suc n) (suc k) a = same_default n k a

  hand_part : (o : Option Graph) (k : ℕ) → part k (hand_first o) ≡ no_part
  hand_part o k = same_default 32 k no_part

  hand_fits : (o : Option Graph) (keeper number : ℕ) (task : Task) (phase owner : ℕ) (busy : Bool) (id k : ℕ) → SeatFits keeper number task phase owner busy id false (part k (hand_first o))
  hand_fits o keeper number task phase owner busy id k =
      alone keeper number task phase owner busy id false (part k (hand_first o)) (λ q. true≢false (sym q)) (λ m u e. absurd (some_none (m, u) (sym (ap (λ (p : SlotView). p.mine) (hand_part o k)) ∙ e)))

  -- the rule with other views, each that of a seat as before or of a new hand
  with_hand : (s : State Item View) (views : List View) (o : Option Graph) → BoardRule g s → ((h : Graph) → o ≡ Some h → h ≡ g) → ((i : ℕ) (u : View) → get_elem? views i ≡ some u → (get_elem? s.views i ≡ some u) ⊎ (hand_first o ≡ u)) → BoardRule g (record s { views = views })
  with_hand s views o K graph pick = record {
    keeper = K.keeper;
    words = K.words;
    homes = K.homes;
    wide = λ i u e. ⊎_elim (λ (x : get_elem? s.views i ≡ some u). K.wide i u x) (λ (x : hand_first o ≡ u). ap (λ (y : View). length y.parts) (sym x)) (pick i u e);
    graphs = λ i u h e is. ⊎_elim (λ (x : get_elem? s.views i ≡ some u). K.graphs i u h x is) (λ (x : hand_first o ≡ u). graph h (ap (λ (y : View). y.graph) x ∙ is)) (pick i u e);
    slots = λ k low. let S = K.slots k low in record {
      number = S.number;
      task = S.task;
      phase = S.phase;
      owner = S.owner;
      busy = S.busy;
      word_is = S.word_is;
      small = S.small;
      ready = S.ready;
      content = S.content;
      fits = λ i u e. ⊎_elim (λ (x : get_elem? s.views i ≡ some u). S.fits i u x)
          (λ (x : hand_first o ≡ u). subst (λ (y : View). SeatFits K.keeper S.number S.task S.phase S.owner S.busy i y.is_keeper (part k y)) x (hand_fits o K.keeper S.number S.task S.phase S.owner S.busy i k)) (pick i u e);
    };
  }

  -- a view that is put back
  put_back : (views : List View) (id : ℕ) (v : View) → get_elem? views id ≡ some v → (i : ℕ) (u : View) → get_elem? (set views id v) i ≡ some u → get_elem? views i ≡ some u
  put_back views id v at i u x = ⊎_elim (λ (y : (i ≡ id) × (v ≡ u)). ap (λ (j : ℕ). get_elem? views j) y.0 ∙ at ∙ ap some y.1) (λ (y : (i ≢ id) × (get_elem? views i ≡ some u)). y.1) (at_set views id i v u x)

  pub forks : (id : ℕ) (v : View) → Splits (BoardRule g) id v v (hand_first v.graph)
  forks id v s K at =
      with_hand s (set s.views id v ++ hand_first v.graph ∷ []) v.graph K (λ h e. K.graphs id v h at e)
      (λ i u e. ⊎_elim (λ (x : get_elem? (set s.views id v) i ≡ some u). inl (put_back s.views id v at i u x)) (λ (x : hand_first v.graph ≡ u). inr x) (at_snoc (set s.views id v) (hand_first v.graph) u i e))

  pub merges : (id : ℕ) (v : View) (other : ℕ) (w : View) → Joins (BoardRule g) id v other w v (hand_first None)
  merges id v other w s K at ne at' =
      with_hand s (set (set s.views id v) other (hand_first None)) None K (λ h e. absurd (some_none h e))
      (λ i u e. ⊎_elim (λ (y : (i ≡ other) × (hand_first None ≡ u)). inr y.1) (λ (x : (i ≢ other) × (get_elem? (set s.views id v) i ≡ some u)). inl (put_back s.views id v at i u x.1)) (at_set (set s.views id v) other i (hand_first None) u e))

  home_there : (n k : ℕ) → k < n → get_elem? (map some (replicate n Nothing)) k ≡ some (some Nothing)
  home_there zero k low = absurd (omega arith)
  home_there (suc n) zero low = refl
  home_there (suc n) (suc k) low = home_there n k (omega arith)

  pub first_part : (k : ℕ) → part k (keeper_first g) ≡ no_part
  first_part k = same_default 32 k no_part

  only_one : (i : ℕ) (u : View) → get_elem? ((keeper_first g) ∷ []) i ≡ some u → (i ≡ 0) × ((keeper_first g) ≡ u)
  only_one zero u e = (refl, some-injective (keeper_first g) u e)
  only_one (suc i) u e = absurd (some-ne-none u (sym e))

  same_graph : (a b : Graph) → Some a ≡ Some b → a ≡ b
  same_graph a b e = cc

  pub begins : BoardRule g (opening (replicate 32 0) (replicate 32 Nothing) (keeper_first g))
  begins = record {
    keeper = 0;
    words = refl;
    homes = refl;
    wide = λ i u e. ap (λ (y : View). length y.parts) (sym (only_one i u e).1);
    graphs = λ i u h e o. sym (same_graph g h (ap (λ (y : View). y.graph) (only_one i u e).1 ∙ o));
    slots = λ k low. record {
      number = 0;
      task = empty_task;
      phase = 0;
      owner = 0;
      busy = false;
      word_is = same_default 32 k 0;
      small = omega arith;
      ready = λ e. refl;
      content = λ e. (Nothing, home_there 32 k low, (λ x. absurd (omega arith)), (λ x. absurd (omega arith)));
      fits = λ i u e. let h = only_one i u e in subst (λ (y : ℕ × View). SeatFits 0 0 empty_task 0 0 false y.0 y.1.is_keeper (part k y.1)) (λ t. (sym h.0 t, h.1 t)) (record {
        only = λ q. refl;
        free = λ q z. ap (λ (p : SlotView). p.out) (first_part k);
        out = λ q z. absurd (z refl);
        holds_it = λ q z. ap (λ (p : SlotView). p.holds) (first_part k);
        holds_none = λ q z. ap (λ (p : SlotView). p.holds) (first_part k);
        mine = λ m x z. absurd (some_none (m, x) (sym (ap (λ (p : SlotView). p.mine) (first_part k)) ∙ z));
      });
    };
  }
