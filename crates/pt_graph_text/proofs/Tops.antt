-- The arrays of the top object, read apart or found in the whole.
use Rattle.std.proofs.Common.{◌≡◌, ℕ, List, bytes_eq, false, Option, Result, option_and_then, refl, sym, ap, ◌∙◌, true≢false}
use Rattle.std.proofs.lemmas.Slice.Eq.{bytes_eq-Decides}
use Rattle.std.specs.Prelude.{codes}
use Rattle.serde_json.specs.Data.{Data, Members, put}
use Rattle.serde_json.specs.Find.{as_str}
use Rattle.serde_json.proofs.Views.{get_member-put, get_member-put_other}
use Rattle.pt_graph_text.specs.Apart.{list_in, list_at}
use Rattle.pt_graph_text.specs.Arrays.{arrays_of}
use Rattle.pt_graph_text.specs.Documents.{actor_of, wire_of, link_of, pair_of}
use Rattle.pt_graph_text.specs.declared.version.Version.{Version}
use Rattle.pt_graph_text.specs.declared.arrays.Arrays.{Arrays}
use Rattle.pt_graph_text.specs.declared.document.ActorText.{ActorText}
use Rattle.pt_graph_text.specs.declared.document.WireText.{WireText}
use Rattle.pt_graph_text.specs.declared.document.LinkText.{LinkText}
use Rattle.pt_graph_text.specs.declared.document.PairText.{PairText}

-- the last member of a key counts
pub list_at-put : {A : Type 0} (f : Data → Option A) (k : List ℕ) (d : Data) (ms : Members) → list_at f k (put k d ms) ≡ list_in f d
list_at-put f k d ms = ap (option_and_then (list_in f)) (get_member-put k d ms)

pub list_at-put_other : {A : Type 0} (f : Data → Option A) (q k : List ℕ) (d : Data) (ms : Members) → (q ≡ k → ⊥) → list_at f q (put k d ms) ≡ list_at f q ms
list_at-put_other f q k d ms other = ap (option_and_then (list_in f)) (get_member-put_other q k d ms other)

-- the list of another key stays as it is
pub kept : {A : Type 0} (f : Data → Option A) (q k : List ℕ) (d : Data) (ms : Members) (was : Option (Result (List A) ℕ)) → (q ≡ k → ⊥) → was ≡ list_at f q ms → was ≡ list_at f q (put k d ms)
kept f q k d ms was other e = e ∙ sym (list_at-put_other f q k d ms other)

abbrev pub made : Option (Result (List (List ℕ)) ℕ) → Option (Result (List ActorText) ℕ) → Option (Result (List WireText) ℕ) → Option (Result (List LinkText) ℕ) → Option (Result (List PairText) ℕ) → Arrays
made p a w l r = record { platforms = p; actors = a; wires = w; links = l; pairs = r }

same : {p p' : Option (Result (List (List ℕ)) ℕ)} {a a' : Option (Result (List ActorText) ℕ)} {w w' : Option (Result (List WireText) ℕ)} {l l' : Option (Result (List LinkText) ℕ)} {r r' : Option (Result (List PairText) ℕ)}
    → p ≡ p' → a ≡ a' → w ≡ w' → l ≡ l' → r ≡ r' → made p a w l r ≡ made p' a' w' l' r'
same {p' = p'} {a} {a'} {w} {w'} {l} {l'} {r} hp ha hw hl hr = ap (λ x. made x a w l r) hp ∙ ap (λ x. made p' x w l r) ha ∙ ap (λ x. made p' a' x l r) hw ∙ ap (λ x. made p' a' w' x r) hl ∙ ap (λ x. made p' a' w' l' x) hr

pub differ : (q k : List ℕ) → bytes_eq q k ≡ false → q ≡ k → ⊥
differ q k e h = true≢false (sym ((bytes_eq-Decides q k).1 h) ∙ e)

module _ (v : Version) (d : Data) (ms : Members) (a : Arrays) (was : a ≡ arrays_of v ms) where
  pub with_platforms : made (list_in as_str d) a.actors a.wires a.links a.pairs ≡ arrays_of v (put (codes "platforms") d ms)
  with_platforms = same (sym (list_at-put as_str (codes "platforms") d ms)) (kept (actor_of v) _ _ d ms _ (differ (codes "actors") (codes "platforms") refl) (ap (λ x. x.actors) was))
      (kept (wire_of v) _ _ d ms _ (differ (codes "wires") (codes "platforms") refl) (ap (λ x. x.wires) was)) (kept (link_of v) _ _ d ms _ (differ (codes "links") (codes "platforms") refl) (ap (λ x. x.links) was))
      (kept (pair_of v) _ _ d ms _ (differ (codes "clock_errors") (codes "platforms") refl) (ap (λ x. x.pairs) was))

  pub with_actors : made a.platforms (list_in (actor_of v) d) a.wires a.links a.pairs ≡ arrays_of v (put (codes "actors") d ms)
  with_actors = same (kept as_str _ _ d ms _ (differ (codes "platforms") (codes "actors") refl) (ap (λ x. x.platforms) was)) (sym (list_at-put (actor_of v) (codes "actors") d ms))
      (kept (wire_of v) _ _ d ms _ (differ (codes "wires") (codes "actors") refl) (ap (λ x. x.wires) was)) (kept (link_of v) _ _ d ms _ (differ (codes "links") (codes "actors") refl) (ap (λ x. x.links) was))
      (kept (pair_of v) _ _ d ms _ (differ (codes "clock_errors") (codes "actors") refl) (ap (λ x. x.pairs) was))

  pub with_wires : made a.platforms a.actors (list_in (wire_of v) d) a.links a.pairs ≡ arrays_of v (put (codes "wires") d ms)
  with_wires = same (kept as_str _ _ d ms _ (differ (codes "platforms") (codes "wires") refl) (ap (λ x. x.platforms) was)) (kept (actor_of v) _ _ d ms _ (differ (codes "actors") (codes "wires") refl) (ap (λ x. x.actors) was))
      (sym (list_at-put (wire_of v) (codes "wires") d ms)) (kept (link_of v) _ _ d ms _ (differ (codes "links") (codes "wires") refl) (ap (λ x. x.links) was))
      (kept (pair_of v) _ _ d ms _ (differ (codes "clock_errors") (codes "wires") refl) (ap (λ x. x.pairs) was))

  pub with_links : made a.platforms a.actors a.wires (list_in (link_of v) d) a.pairs ≡ arrays_of v (put (codes "links") d ms)
  with_links = same (kept as_str _ _ d ms _ (differ (codes "platforms") (codes "links") refl) (ap (λ x. x.platforms) was)) (kept (actor_of v) _ _ d ms _ (differ (codes "actors") (codes "links") refl) (ap (λ x. x.actors) was))
      (kept (wire_of v) _ _ d ms _ (differ (codes "wires") (codes "links") refl) (ap (λ x. x.wires) was)) (sym (list_at-put (link_of v) (codes "links") d ms))
      (kept (pair_of v) _ _ d ms _ (differ (codes "clock_errors") (codes "links") refl) (ap (λ x. x.pairs) was))

  pub with_pairs : made a.platforms a.actors a.wires a.links (list_in (pair_of v) d) ≡ arrays_of v (put (codes "clock_errors") d ms)
  with_pairs = same (kept as_str _ _ d ms _ (differ (codes "platforms") (codes "clock_errors") refl) (ap (λ x. x.platforms) was)) (kept (actor_of v) _ _ d ms _ (differ (codes "actors") (codes "clock_errors") refl) (ap (λ x. x.actors) was))
      (kept (wire_of v) _ _ d ms _ (differ (codes "wires") (codes "clock_errors") refl) (ap (λ x. x.wires) was)) (kept (link_of v) _ _ d ms _ (differ (codes "links") (codes "clock_errors") refl) (ap (λ x. x.links) was))
      (sym (list_at-put (pair_of v) (codes "clock_errors") d ms))

  pub with_other : (key : List ℕ) → (codes "platforms" ≡ key → ⊥) → (codes "actors" ≡ key → ⊥) → (codes "wires" ≡ key → ⊥) → (codes "links" ≡ key → ⊥) → (codes "clock_errors" ≡ key → ⊥) → a ≡ arrays_of v (put key d ms)
  with_other key no_platforms no_actors no_wires no_links no_pairs = same (kept as_str _ _ d ms _ no_platforms (ap (λ x. x.platforms) was)) (kept (actor_of v) _ _ d ms _ no_actors (ap (λ x. x.actors) was))
      (kept (wire_of v) _ _ d ms _ no_wires (ap (λ x. x.wires) was)) (kept (link_of v) _ _ d ms _ no_links (ap (λ x. x.links) was)) (kept (pair_of v) _ _ d ms _ no_pairs (ap (λ x. x.pairs) was))
