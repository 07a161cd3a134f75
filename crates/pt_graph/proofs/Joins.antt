-- What the checks of wires and links leave true of a graph that is given.
use Rattle.std.proofs.Common.{◌≡◌, ◌∙◌, ℕ, ◌+◌, List, [], ◌∷◌, length, Bool, true, false, cond, ◌&&◌, not, Option, Some, None, Result, Ok, Err, refl, sym}
use Rattle.std.specs.Prelude.{nat_lt, option_map, position, ⊤}
use Rattle.std.specs.List.{position_from, list_all}
use Rattle.std.specs.Option.{option_or}
use Rattle.std.proofs.lemmas.Iterator.Adapters.{position_from-zero}
use Rattle.pt_types.specs.declared.graph.Graph.{Graph}
use Rattle.pt_types.specs.declared.graph.Actor.{Actor}
use Rattle.pt_types.specs.declared.graph.Wire.{Wire}
use Rattle.pt_types.specs.declared.graph.Link.{Link}
use Rattle.pt_types.specs.Ends.{ends_fit, stays_home, is_fed, fed_twice_from, first_unfed, link_fits, misfit_from}
use Rattle.pt_blocks.specs.declared.blocks.Named.{Named}
use Rattle.pt_graph_text.specs.Faults.{◌>>=◌, or_fault, at}
use Rattle.pt_graph_text.specs.Whole.{document_of}
use Rattle.pt_graph_text.specs.declared.document.Document.{Document}
use Rattle.pt_graph_text.specs.declared.fault.GraphFault.{GraphFault}
use Rattle.pt_graph_text.specs.declared.fault.Place.{Place}
use Rattle.pt_graph_text.specs.declared.fault.GraphFault.TheVariants as fault
use Rattle.pt_graph_text.specs.declared.fault.Part.TheVariants as part
use Rattle.pt_graph.specs.Chains.{refused, found}
use Rattle.pt_graph.specs.EndFaults.{checked_ends, feeding, bad_wire, unfed_at, link_place, block_place}
use Rattle.pt_graph.specs.Graphs.{actors_of, wires_of, links_of, graph_from}
use Rattle.pt_graph.specs.GraphOf.{graph_of, graph_in, checked, built, json_of}
use Rattle.pt_types.specs.Limits.{most_graph_bytes}

pub none_refused : (o : Option GraphFault) (x : ⊤) → refused o ≡ Ok x → o ≡ None
none_refused None x h = refl
none_refused (Some e) x h = cc

pub none_mapped : {A B : Type 0} (f : A → B) (o : Option A) → option_map f o ≡ None → o ≡ None
none_mapped f None h = refl
none_mapped f (Some x) h = cc

pub none_first : {A : Type 0} (a b : Option A) → option_or a b ≡ None → (a ≡ None) × (b ≡ None)
none_first None b h = (refl, h)
none_first (Some x) b h = cc

pub all_from : {A : Type 0} (p : A → Bool) (k : ℕ) (xs : List A) → position_from (λ x. not (p x)) k xs ≡ None → list_all p xs ≡ true
all_from p k [] h = refl
all_from p k (x ∷ xs) h =
    elim (p x) as (λ b. cond (not b) (Some k) (position_from (λ x. not (p x)) (k + 1) xs) ≡ None → (b && list_all p xs) ≡ true) [
      | true ↦ λ rest. all_from p (k + 1) xs rest
      | false ↦ λ here. cc
    ] h

-- none fails, so all pass
pub all_pass : {A : Type 0} (p : A → Bool) (xs : List A) → position (λ x. not (p x)) xs ≡ None → list_all p xs ≡ true
all_pass p xs h = all_from p 0 xs (sym (position_from-zero (λ x. not (p x)) xs) ∙ h)

-- both steps of a chain gave a value
pub both_ok : {A B : Type 0} (r : Result A GraphFault) (f : A → Result B GraphFault) (y : B) → (r >>= f) ≡ Ok y → (x : A) × (r ≡ Ok x) × (f x ≡ Ok y)
both_ok (Ok x) f y h = (x, refl, h)
both_ok (Err e) f y h = cc

-- wires join visible ports of one platform, each visible input has exactly one, and links join each sender to one receiver
pub record Joins (actors : List Actor) (wires : List Wire) (links : List Link) : Type 0 where
  pub ends : list_all (ends_fit actors) wires ≡ true
  pub home : list_all (stays_home actors) wires ≡ true
  pub fed_once : fed_twice_from [] 0 wires ≡ None
  pub fed : first_unfed (is_fed wires) 0 actors ≡ None
  pub linked : list_all (link_fits actors) links ≡ true
  pub one_link : misfit_from links 0 actors ≡ None

abbrev wire_ends : List Actor → List Wire → Option GraphFault
wire_ends actors wires = option_map fault.WireEnd (bad_wire (ends_fit actors) wires)

abbrev cross_wires : List Actor → List Wire → Option GraphFault
cross_wires actors wires = option_map fault.CrossWire (bad_wire (stays_home actors) wires)

abbrev fed_faults : List Wire → Option GraphFault
fed_faults wires = option_map fault.FedTwice (found part.Wire (fed_twice_from [] 0 wires))

abbrev unfed_faults : List Actor → List Wire → Option GraphFault
unfed_faults actors wires = option_map unfed_at (first_unfed (is_fed wires) 0 actors)

abbrev link_faults : List Actor → List Link → Option GraphFault
link_faults actors links = option_map fault.LinkEnd (link_place actors links)

abbrev from_feeding : List Actor → List Wire → List Link → Result ⊤ GraphFault
from_feeding actors wires links = feeding actors wires >>= (λ done. refused (link_faults actors links))

abbrev from_crossing : List Actor → List Wire → List Link → Result ⊤ GraphFault
from_crossing actors wires links = refused (cross_wires actors wires) >>= (λ done. from_feeding actors wires links)

no_bad_wire : (test : Wire → Bool) (f : Place → GraphFault) (wires : List Wire) (x : ⊤) → refused (option_map f (bad_wire test wires)) ≡ Ok x → list_all test wires ≡ true
no_bad_wire test f wires x h = all_pass test wires (none_mapped (at part.Wire) (position (λ w. not (test w)) wires) (none_mapped f (bad_wire test wires) (none_refused (option_map f (bad_wire test wires)) x h)))

fed_once_from : (actors : List Actor) (wires : List Wire) (x : ⊤) → feeding actors wires ≡ Ok x → (fed_twice_from [] 0 wires ≡ None) × (first_unfed (is_fed wires) 0 actors ≡ None)
unfolding feeding
fed_once_from actors wires x h =
    let d = both_ok (refused (fed_faults wires)) (λ done. refused (unfed_faults actors wires)) x h in (
      none_mapped (at part.Wire) (fed_twice_from [] 0 wires) (none_mapped fault.FedTwice (found part.Wire (fed_twice_from [] 0 wires)) (none_refused (fed_faults wires) d.0 d.1)),
      none_mapped unfed_at (first_unfed (is_fed wires) 0 actors) (none_refused (unfed_faults actors wires) x d.2),
    )

linked_from : (actors : List Actor) (links : List Link) (x : ⊤) → refused (link_faults actors links) ≡ Ok x → (list_all (link_fits actors) links ≡ true) × (misfit_from links 0 actors ≡ None)
linked_from actors links x h =
    let e = none_first (found part.Link (position (λ l. not (link_fits actors l)) links)) (found part.Actor (misfit_from links 0 actors)) (none_mapped fault.LinkEnd (link_place actors links) (none_refused (link_faults actors links) x h)) in (
      all_pass (link_fits actors) links (none_mapped (at part.Link) (position (λ l. not (link_fits actors l)) links) e.0),
      none_mapped (at part.Actor) (misfit_from links 0 actors) e.1,
    )

pub joins : (actors : List Actor) (wires : List Wire) (links : List Link) (x : ⊤) → checked_ends actors wires links ≡ Ok x → Joins actors wires links
unfolding checked_ends
joins actors wires links x h =
    let a = both_ok (refused (wire_ends actors wires)) (λ done. from_crossing actors wires links) x h in
    let b = both_ok (refused (cross_wires actors wires)) (λ done. from_feeding actors wires links) x a.2 in
    let c = both_ok (feeding actors wires) (λ done. refused (link_faults actors links)) x b.2 in
    let d = fed_once_from actors wires c.0 c.1 in
    let e = linked_from actors links x c.2 in
    record {
      ends = no_bad_wire (ends_fit actors) fault.WireEnd wires a.0 a.1;
      home = no_bad_wire (stays_home actors) fault.CrossWire wires b.0 b.1;
      fed_once = d.0;
      fed = d.1;
      linked = e.0;
      one_link = e.1;
    }

ok_same : {A : Type 0} (r : Result A GraphFault) (x y : A) → r ≡ Ok x → r ≡ Ok y → x ≡ y
ok_same r x y h k = cc

not_long : {A : Type 0} (b : Bool) (e : GraphFault) (r : Result A GraphFault) (y : A) → cond b (Err e) r ≡ Ok y → r ≡ Ok y
not_long true e r y h = cc
not_long false e r y h = h

-- a graph that is given is that of a document that passed all checks
pub record Given (blocks : List Named) (g : Graph) : Type 0 where
  pub document : Document
  pub checks : (x : ⊤) × (checked document ≡ Ok x)
  pub joined : Joins (actors_of blocks document) (wires_of document) (links_of document)
  pub graph : g ≡ graph_from blocks document

built-given : (blocks : List Named) (d : Document) (g : Graph) → built blocks d ≡ Ok g → Joins (actors_of blocks d) (wires_of d) (links_of d) × (g ≡ graph_from blocks d)
unfolding built
built-given blocks d g h =
    let a = both_ok (checked_ends (actors_of blocks d) (wires_of d) (links_of d)) (λ done. refused (option_map fault.Block (block_place blocks d)) >>= (λ done. Ok (graph_from blocks d))) g h in
    let b = both_ok (refused (option_map fault.Block (block_place blocks d))) (λ done. Ok (graph_from blocks d)) g a.2 in
    (joins (actors_of blocks d) (wires_of d) (links_of d) a.0 a.1, ok_same (Ok (graph_from blocks d)) g (graph_from blocks d) b.2 refl)

pub graph_in-given : (blocks : List Named) (bytes : List ℕ) (g : Graph) → graph_in blocks bytes ≡ Ok g → Given blocks g
unfolding graph_in
graph_in-given blocks bytes g h =
    let a = both_ok (or_fault fault.NotJson (json_of bytes)) (λ value. document_of value >>= (λ d. checked d >>= (λ done. built blocks d))) g h in
    let b = both_ok (document_of a.0) (λ d. checked d >>= (λ done. built blocks d)) g a.2 in
    let c = both_ok (checked b.0) (λ done. built blocks b.0) g b.2 in
    let d = built-given blocks b.0 g c.2 in
    record { document = b.0; checks = (c.0, c.1); joined = d.0; graph = d.1 }

pub graph_of-given : (blocks : List Named) (bytes : List ℕ) (g : Graph) → graph_of blocks bytes ≡ Ok g → Given blocks g
unfolding graph_of
graph_of-given blocks bytes g h = graph_in-given blocks bytes g (not_long (nat_lt most_graph_bytes (length bytes)) fault.TooLong (graph_in blocks bytes) g h)
