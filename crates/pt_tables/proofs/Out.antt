-- Bytes that are put, one put after another.
use Rattle.std.proofs.Common.{◌≡◌, ℕ, ◌+◌, ◌≤◌, List, [], ◌∷◌, ◌++◌, Option, Some, None, length, length-append, take, drop, slice_get, append-nil, refl, sym, subst, ap, ◌∙◌, arith}
use Rattle.std.specs.Prelude.{Err, flat_map, Ok, OnErr, OnOk, Result}
use Rattle.std.proofs.lemmas.Grind.{flat_map-append}
use Rattle.std.proofs.lemmas.List.{append_assoc, take-append-drop, take-append-le}
use Rattle.std.proofs.Math.Seq.{take-append-add}
use Rattle.pt_io.specs.Calls.{writing}
use Rattle.pt_io.specs.Causes.{Appends, AppendsPart, Rose}
use Rattle.pt_io.specs.declared.sink.Sink as sink
use Rattle.pt_history.proofs.InTurn.{drop_next, take_next}
use Rattle.pt_tables.specs.Putting.{IsPartPut, IsPut}

pub appends_twice : (a b c : Option (List ℕ)) (xs ys : List ℕ) → Appends a b xs → Appends b c ys → Appends a c (xs ++ ys)
appends_twice None b c xs ys p q = tt
appends_twice (Some w) b c xs ys p q = rw (← append_assoc) (rw p at q)

-- a put that failed after another left a prefix of the whole
pub part_next : (a b c : Option (List ℕ)) (front rest : List ℕ) → Appends a b front → AppendsPart b c rest → AppendsPart a c (front ++ rest)
part_next None b c front rest p q = tt
part_next (Some w) b c front rest p q =
    let (n, within, is) = subst (λ z. AppendsPart z c rest) p q in (
      length front + n,
      omega (arith, within, length-append front rest),
      is ∙ ap (λ l. Some l) (append_assoc w front (take n rest) ∙ ap (λ l. w ++ l) (sym (take-append-add front rest n))),
    )

-- it left a prefix of more bytes
pub part_more : (a b : Option (List ℕ)) (xs ys : List ℕ) → AppendsPart a b xs → AppendsPart a b (xs ++ ys)
part_more None b xs ys p = tt
part_more (Some w) b xs ys (n, within, is) = (
  n,
  omega (arith, within, length-append xs ys),
  is ∙ ap (λ l. Some (w ++ l)) (sym (take-append-le n xs ys within)),
)

appends_none : (a : Option (List ℕ)) → Appends a a []
appends_none None = tt
appends_none (Some w) = ap (λ l. Some l) (sym (append-nil w))

-- a line of a text comes before the rest of it
pub joined : (front rest text : List ℕ) (n : ℕ) → front ++ rest ≡ text → (front ++ take n rest) ++ drop n rest ≡ text
joined front rest text n h = append_assoc front (take n rest) (drop n rest) ∙ ap (λ r. front ++ r) (take-append-drop n rest) ∙ h

-- nothing was put
pub put_none : {K : Type 0} (k : sink.Ghosts K) (a : K) → IsPut (writing k a a) []
put_none k a = record { all = appends_none (k.written a); uncounted = refl }

-- a put of these bytes failed, so that those were not put
pub part_before : {K : Type 0} (k : sink.Ghosts K) (a b : K) (xs ys : List ℕ) → IsPartPut (writing k a b) xs → IsPartPut (writing k a b) (xs ++ ys)
part_before k a b xs ys part = record { part = part_more (k.written a) (k.written b) xs ys part.part; failed = part.failed; grows = part.grows }

module _ {K : Type 0} (k : sink.Ghosts K) (a b c : K) where
  -- these bytes were put, and then those
  pub put_then : (xs ys : List ℕ) → IsPut (writing k a b) xs → IsPut (writing k b c) ys → IsPut (writing k a c) (xs ++ ys)
  put_then xs ys first next = record {
    all = appends_twice (k.written a) (k.written b) (k.written c) xs ys first.all next.all;
    uncounted = next.uncounted ∙ first.uncounted;
  }

  -- a put of those failed
  pub part_then : (xs ys : List ℕ) → IsPut (writing k a b) xs → IsPartPut (writing k b c) ys → IsPartPut (writing k a c) (xs ++ ys)
  part_then xs ys first next = record {
    part = part_next (k.written a) (k.written b) (k.written c) xs ys first.all next.part;
    failed = subst (λ n. Rose n (k.faults c)) first.uncounted next.failed;
    grows = subst (λ n. n ≤ k.faults c) first.uncounted next.grows;
  }

-- the lines of one more item
pub one_more_lines : {X : Type 0} (f : X → List ℕ) (xs : List X) (n : ℕ) (x : X) → slice_get xs n ≡ Some x → flat_map f (take (n + 1) xs) ≡ flat_map f (take n xs) ++ f x
one_more_lines f xs n x at = ap (flat_map f) (take_next xs n x at) ∙ flat_map-append f (take n xs) (x ∷ []) ∙ ap (λ l. flat_map f (take n xs) ++ l) (append-nil (f x))

-- the lines of some items, of the next one, and of those after it
all_lines_at : {X : Type 0} (f : X → List ℕ) (xs : List X) (n : ℕ) (x : X) → slice_get xs n ≡ Some x → flat_map f (take n xs) ++ (f x ++ flat_map f (drop (n + 1) xs)) ≡ flat_map f xs
all_lines_at f xs n x at =
    ap (λ rest. flat_map f (take n xs) ++ flat_map f rest) (sym (drop_next xs n x at))
    ∙ sym (flat_map-append f (take n xs) (drop n xs))
    ∙ ap (flat_map f) (take-append-drop n xs)

module _ {K : Type 0} (k : sink.Ghosts K) (a b c : K) {X : Type 0} (f : X → List ℕ) (xs : List X) (n : ℕ) (x : X) (at : slice_get xs n ≡ Some x) where
  -- the lines of one more item were put,
  pub next_put : IsPut (writing k a b) (flat_map f (take n xs)) → IsPut (writing k b c) (f x) → IsPut (writing k a c) (flat_map f (take (n + 1) xs))
  next_put before next = subst (IsPut (writing k a c)) (sym (one_more_lines f xs n x at)) (put_then k a b c (flat_map f (take n xs)) (f x) before next)

  -- or a put of them failed
  pub next_part : IsPut (writing k a b) (flat_map f (take n xs)) → IsPartPut (writing k b c) (f x) → IsPartPut (writing k a c) (flat_map f xs)
  next_part before next =
      let rest : List ℕ = flat_map f (drop (n + 1) xs) in
      subst (IsPartPut (writing k a c)) (all_lines_at f xs n x at)
      (part_then k a b c (flat_map f (take n xs)) (f x ++ rest) before (part_before k b c (f x) rest next))

-- the count of faults never falls
pub grew : {K T E : Type 0} (k : sink.Ghosts K) (a b : K) (r : Result T E) (bytes : List ℕ) → OnOk r (IsPut (writing k a b) bytes) → OnErr r (IsPartPut (writing k a b) bytes) → k.faults a ≤ k.faults b
grew k a b (Ok done) bytes put part = omega (arith, put.uncounted)
grew k a b (Err fault) bytes put part = part.grows
