-- Lists of edges by actor, one edge after another.
use Rattle.std.proofs.Common.{◌≡◌, ℕ, ◌<◌, List, [], ◌∷◌, ◌++◌, length, sym, ap, ◌∙◌, slice_set, slice_index_or, get_or}
use Rattle.std.proofs.lemmas.List.{get_or-map, map-set}
use Rattle.std.specs.Global.{Vec}
use Rattle.pt_types.specs.declared.graph.Edge.{Edge}
use Rattle.pt_causality.specs.Wiring.{by_actor}

-- one list of a vector
pub with_edge : (lists : List (Vec Edge)) (a : ℕ) (e : Edge) (was now : Vec Edge) → a < length lists → was ≡ get_or lists a was → now.items ≡ was.items ++ e ∷ [] → by_actor (slice_set lists a now) ≡ slice_set (by_actor lists) a (slice_index_or (by_actor lists) a [] ++ e ∷ [])
with_edge lists a e was now within read is =
    let old : was.items ≡ slice_index_or (by_actor lists) a [] = ap (λ (w : Vec Edge). w.items) read ∙ sym (get_or-map (λ (w : Vec Edge). w.items) lists a was [] within) in
    map-set (λ (w : Vec Edge). w.items) lists a now ∙ ap (λ es. slice_set (by_actor lists) a es) (is ∙ ap (λ es. es ++ e ∷ []) old)
