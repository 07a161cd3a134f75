-- Each move keeps the rule of a link.
use Rattle.std.proofs.Common.{◌≡◌, ◌≢◌, ℕ, zero, suc, true, false, true≢false, Option, None, Some, List, [], ◌∷◌, ◌++◌, length, set, sym, refl, ap, ◌∙◌, subst, ⊎_elim, append_assoc, ◌≤◌, arith, length-append}
use mathlib.Core.Option.{some, some-ne-none}
use lib.ListN.{get_elem?}
use Rattle.crossbeam_queue.specs.Fifo.{Pushes, Pops, Forks, Merges, Learns}
use Rattle.crossbeam_queue.proofs.Lists.{at_set, at_snoc}
use Rattle.pt_tags.specs.declared.message.Message.{Message}
use Rattle.pt_semantics.specs.Lists.{Each}
use Rattle.pt_semantics.specs.Orderly.{ComesAfter, FitsStep, InOrder as Ordered}
use Rattle.pt_links.specs.declared.rule.Bounds.{Bounds}
use Rattle.pt_links.specs.declared.rule.Log.{Log}
use Rattle.pt_links.specs.Line.{log, LineFits, LineInOrder, IsOrderlyBy}

at_end : (l : List Log) (a b : Log) (j : ℕ) → get_elem? l j ≢ some b → get_elem? (l ++ a ∷ []) j ≡ some b → j ≡ length l
at_end [] a b zero n e = refl
at_end [] a b (suc j) n e = absurd (some-ne-none b (sym e))
at_end (x ∷ xs) a b zero n e = absurd (n e)
at_end (x ∷ xs) a b (suc j) n e = ap suc (at_end xs a b j n e)

abbrev All : (ℕ → Log → Type 0) → List Log → Type 0
All F views = (port : ℕ) (v : Log) → get_elem? views port ≡ some v → F port v

all_set : (F : ℕ → Log → Type 0) (views : List Log) (port : ℕ) (w : Log) → F port w → ((j : ℕ) (u : Log) → j ≢ port → get_elem? views j ≡ some u → F j u) → All F (set views port w)
all_set F views port w mine others j u e = ⊎_elim (λ (x : (j ≡ port) × (w ≡ u)). subst (λ (y : ℕ × Log). F y.0 y.1) (λ i. (sym x.0 i, x.1 i)) mine)
    (λ (x : (j ≢ port) × (get_elem? views j ≡ some u)). others j u x.0 x.1) (at_set views port j w u e)

-- a front of an orderly list is orderly
each_front : {X : Type 0} (P : X → Type 0) (xs ys : List X) → Each P (xs ++ ys) → Each P xs
each_front P [] ys h = tt
each_front P (x ∷ xs) ys h = (h.0, each_front P xs ys h.1)

order_front : (xs ys : List Message) → Ordered (xs ++ ys) → Ordered xs
order_front [] ys h = tt
order_front (x ∷ xs) ys h = (each_front (ComesAfter x) xs ys h.0, order_front xs ys h.1)

front : (limits : Option Bounds) (xs ys : List Message) → IsOrderlyBy limits (xs ++ ys) → IsOrderlyBy limits xs
front None xs ys h = tt
front (Some b) xs ys h = (order_front xs ys h.0, each_front (FitsStep b.until b.actors b.level) xs ys h.1)

pub begins : LineInOrder [] (log true true None [] [] ∷ [])
begins = record {
  writer = 0;
  reader = 0;
  limits = None;
  sent = [];
  taken = [];
  split = refl;
  orderly = tt;
  fits = all_set (LineFits 0 0 None [] []) (log true true None [] [] ∷ []) 0 (log true true None [] []) ((λ _. (refl, refl, refl)), λ _. (refl, refl, refl)) (λ j u other e. absurd (other (at_end [] _ u j (λ x. some-ne-none u (sym x)) e)));
}

pub sends : (n port : ℕ) (v : Log) (x : Message) → v.sends ≡ true → IsOrderlyBy v.limits (v.sent ++ x ∷ []) → Pushes LineInOrder n port v x (λ w. w ≡ log v.sends v.takes v.limits (v.sent ++ x ∷ []) v.taken)
sends n port v x may good items views _ h at =
    let w : Log = log v.sends v.takes v.limits (v.sent ++ x ∷ []) v.taken in
    let mine = h.fits port v at in
    let sent = h.sent ++ x ∷ [] in (
      w,
      record {
        writer = h.writer;
        reader = h.reader;
        limits = h.limits;
        sent = sent;
        taken = h.taken;
        split = ap (λ l. l ++ x ∷ []) h.split ∙ append_assoc h.taken items (x ∷ []);
        orderly = subst (λ (l : Option Bounds). IsOrderlyBy l sent) (mine.0 may).2 (subst (λ (ms : List Message). IsOrderlyBy v.limits (ms ++ x ∷ [])) (mine.0 may).1 good);
        fits = all_set (LineFits h.writer h.reader h.limits sent h.taken) views port w ((λ _. ((mine.0 may).0, ap (λ l. l ++ x ∷ []) (mine.0 may).1, (mine.0 may).2)), mine.1)
            (λ j u other e. ((λ p. absurd (other (((h.fits j u e).0 p).0 ∙ sym (mine.0 may).0))), (h.fits j u e).1));
      },
      refl,
    )

pub gets : (port : ℕ) (v : Log) → v.takes ≡ true → Pops LineInOrder port v (λ x w. (w ≡ log v.sends v.takes v.limits v.sent (v.taken ++ x ∷ [])) × IsOrderlyBy v.limits (v.taken ++ x ∷ []))
gets port v may x items views h at =
    let w : Log = log v.sends v.takes v.limits v.sent (v.taken ++ x ∷ []) in
    let mine = h.fits port v at in
    let got = h.taken ++ x ∷ [] in
    let parts : h.sent ≡ got ++ items = h.split ∙ sym (append_assoc h.taken (x ∷ []) items) in (
      w,
      record {
        writer = h.writer;
        reader = h.reader;
        limits = h.limits;
        sent = h.sent;
        taken = got;
        split = parts;
        orderly = h.orderly;
        fits = all_set (LineFits h.writer h.reader h.limits h.sent got) views port w (mine.0, λ _. ((mine.1 may).0, ap (λ l. l ++ x ∷ []) (mine.1 may).1, (mine.1 may).2))
            (λ j u other e. ((h.fits j u e).0, λ p. absurd (other (((h.fits j u e).1 p).0 ∙ sym (mine.1 may).0))));
      },
      (
        refl,
        subst (λ (l : Option Bounds). IsOrderlyBy l (v.taken ++ x ∷ [])) (sym (mine.1 may).2) (subst (λ (ms : List Message). IsOrderlyBy h.limits (ms ++ x ∷ [])) (sym (mine.1 may).1) (front h.limits got items (subst (IsOrderlyBy h.limits) parts h.orderly))),
      ),
    )

pub forks : (b : Bounds) (port : ℕ) (v : Log) → v.sends ≡ true → v.takes ≡ true → v.sent ≡ [] → Forks LineInOrder port v (log true false (Some b) v.sent []) (log false true (Some b) [] v.taken)
forks b port v can may none items views h at =
    let l : Log = log true false (Some b) v.sent [] in
    let r : Log = log false true (Some b) [] v.taken in
    let mine = h.fits port v at in
    let vs : List Log = set views port l in
    let Old : ℕ → Log → Type 0 = λ j u. (u.sends ≡ true → (j ≡ h.writer) × (u.sent ≡ h.sent) × (u.limits ≡ Some b)) × (u.takes ≢ true) in
    let old : All Old vs = all_set Old views port l ((λ _. ((mine.0 can).0, (mine.0 can).1, refl)), λ p. true≢false (sym p))
    (λ j u other e. ((λ p. absurd (other (((h.fits j u e).0 p).0 ∙ sym (mine.0 can).0))), λ p. other (((h.fits j u e).1 p).0 ∙ sym (mine.1 may).0))) in
    record {
      writer = h.writer;
      reader = length vs;
      limits = Some b;
      sent = h.sent;
      taken = h.taken;
      split = h.split;
      orderly = subst (IsOrderlyBy (Some b)) (sym none ∙ (mine.0 can).1) (tt, tt);
      fits = λ j u e. ⊎_elim (λ x. ((old j u x).0, λ p. absurd ((old j u x).1 p)))
          (λ (is : r ≡ u). ((λ p. absurd (true≢false (sym (ap (λ (y : Log). y.sends) is ∙ p)))), λ p. (at_end vs r u j (λ x. (old j u x).1 p) e, ap (λ (y : Log). y.taken) (sym is) ∙ (mine.1 may).1, ap (λ (y : Log). y.limits) (sym is)))) (at_snoc vs r u j e);
    }

pub merges : (port : ℕ) (v : Log) (other : ℕ) (u : Log) → v.sends ≡ true → u.takes ≡ true → Merges LineInOrder port v other u (log true true v.limits v.sent u.taken) (log false false None [] [])
merges port v other u a b items views h at two at' =
    let both : Log = log true true v.limits v.sent u.taken in
    let mine = h.fits port v at in
    let vs : List Log = set views port both in
    let was : get_elem? views other ≡ some u = ⊎_elim (λ x. absurd (two x.0)) (λ x. x.1) (at_set views port other both u at') in
    let theirs = (h.fits other u was).1 b in
    let Now : ℕ → Log → Type 0 = λ j y. j ≢ other → LineFits h.writer port h.limits h.sent h.taken j y in
    let now : All Now vs = all_set Now views port both (λ _. ((λ _. mine.0 a), λ _. (refl, theirs.1, (mine.0 a).2))) (λ j y _ e apart. ((h.fits j y e).0, λ p. absurd (apart (((h.fits j y e).1 p).0 ∙ sym theirs.0)))) in
    record {
      writer = h.writer;
      reader = port;
      limits = h.limits;
      sent = h.sent;
      taken = h.taken;
      split = h.split;
      orderly = h.orderly;
      fits = all_set (LineFits h.writer port h.limits h.sent h.taken) vs other (log false false None [] []) ((λ p. absurd (true≢false (sym p))), λ p. absurd (true≢false (sym p))) (λ j y apart e. now j y e apart);
    }

pub totals : (port : ℕ) (v : Log) → v.sends ≡ true → v.takes ≡ true → Learns LineInOrder port v (λ items. v.sent ≡ v.taken ++ items)
totals port v a b items views h at = let mine = h.fits port v at in (mine.0 a).1 ∙ h.split ∙ ap (λ l. l ++ items) (sym (mine.1 b).1)

pub full : (port : ℕ) (v : Log) → v.sends ≡ true → Learns LineInOrder port v (λ items. length items ≤ length v.sent)
full port v may items views h at =
    let e : v.sent ≡ h.taken ++ items = ((h.fits port v at).0 may).1 ∙ h.split in
    let n : length v.sent ≡ length (h.taken ++ items) = ap length e in omega (arith, length-append h.taken items)
