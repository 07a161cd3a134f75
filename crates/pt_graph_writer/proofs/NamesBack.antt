-- A known name stands at its number.
use Rattle.std.proofs.Common.{◌≡◌, ℕ, suc, ◌+◌, ◌≤◌, true, false, cond, List, [], ◌∷◌, map, length, Option, Some, refl, ap, sym, ◌∙◌, arith}
use Rattle.std.specs.Prelude.{is_some, bytes_eq, slice_index_or, slice_get, unwrap_or, option_map}
use Rattle.std.specs.List.{position_from}
use Rattle.std.proofs.lemmas.Iterator.Adapters.{position_from-zero}
use Rattle.std.proofs.lemmas.Slice.Eq.{bytes_eq-Decides}
use Rattle.std.proofs.lemmas.Option.{slice_get-get_or}
use Rattle.pt_types.specs.declared.graph.Graph.{Graph}
use Rattle.pt_types.specs.declared.graph.Actor.{Actor}
use Rattle.pt_types.specs.Groups.{no_actor}
use Rattle.pt_types.specs.declared.kind.Law.TheVariants.{Least}
use Rattle.pt_blocks.specs.declared.blocks.Named.{Named}
use Rattle.pt_graph_text.specs.declared.document.ActorText.{ActorText}
use Rattle.pt_graph.specs.Known.{first_named, itself, name_of_actor as text_name}
use Rattle.pt_graph.specs.Graphs.{number_or_0, platform_number, actor_from}
use Rattle.pt_graph.proofs.Numbered.{number_is}
use Rattle.pt_graph_writer.specs.Text.{block_name}
use Rattle.pt_types.specs.Lookups.{platform_name, actor_name}
use Rattle.pt_graph_writer.proofs.KindsBack.{NamesBlocks}

-- what stands at the index that was found has the name
found_from : {A B : Type 0} (f : A → List ℕ) (name : B → List ℕ) (turn : A → B) (d : B) (n : List ℕ) → ((x : A) → name (turn x) ≡ f x)
    → (k : ℕ) (xs : List A) (i : ℕ) → position_from (λ x. bytes_eq (f x) n) k xs ≡ Some i → (j : ℕ) × (i ≡ k + j) × (name (slice_index_or (map turn xs) j d) ≡ n)
found_from f name turn d n same k [] i h = absurd cc
found_from f name turn d n same k (x ∷ xs) i h =
    elim (bytes_eq (f x) n) as (λ b. bytes_eq (f x) n ≡ b → cond b (Some k) (position_from (λ x. bytes_eq (f x) n) (k + 1) xs) ≡ Some i → (j : ℕ) × (i ≡ k + j) × (name (slice_index_or (map turn (x ∷ xs)) j d) ≡ n)) [
      | true ↦ λ here first. (0, some_index k i first, same x ∙ (bytes_eq-Decides (f x) n).0 here)
      | false ↦ λ apart later.
          let rest = found_from f name turn d n same (k + 1) xs i later in
          (suc rest.0, one_more i k rest.0 rest.1, rest.2)
    ] refl h
  where
    some_index : (k i : ℕ) → ◌≡◌ {A = Option ℕ} (Some k) (Some i) → i ≡ k + 0
    some_index k i e = let same : k ≡ i = cc in omega arith

    one_more : (i k j : ℕ) → i ≡ (k + 1) + j → i ≡ k + suc j
    one_more i k j e = omega arith

-- a known name stands at its number, in a list that was turned into another with the same names
pub found_name : {A B : Type 0} (f : A → List ℕ) (name : B → List ℕ) (turn : A → B) (d : B) (n : List ℕ) (xs : List A) → ((x : A) → name (turn x) ≡ f x) → length xs ≤ 1024
    → is_some (first_named f xs n) ≡ true → name (slice_index_or (map turn xs) (number_or_0 (first_named f xs n)) d) ≡ n
found_name f name turn d n xs same few h =
    let number = number_is f xs n few h in
    let at = found_from f name turn d n same 0 xs number.0 (sym (position_from-zero (λ x. bytes_eq (f x) n) xs) ∙ number.1) in
    let plus : 0 + at.0 ≡ at.0 = omega arith in
    let index : number_or_0 (first_named f xs n) ≡ at.0 = number.3 ∙ (at.1 ∙ plus) in
    ap (λ i. name (slice_index_or (map turn xs) i d)) index ∙ at.2

map_same : {A : Type 0} (xs : List A) → map (λ x. x) xs ≡ xs
map_same [] = refl
map_same (x ∷ xs) = ap (λ ys. x ∷ ys) (map_same xs)

pub platform_back : (g : Graph) (n : List ℕ) → length g.platforms ≤ 1024 → is_some (first_named itself g.platforms n) ≡ true → platform_name g (platform_number g.platforms n) ≡ n
platform_back g n few h =
    let number = number_or_0 (first_named itself g.platforms n) in
    ap (λ xs. slice_index_or xs number []) (sym (map_same g.platforms)) ∙ found_name itself itself (λ x. x) [] n g.platforms (λ x. refl) few h

pub actor_back : (blocks : List Named) (platforms : List (List ℕ)) (actors : List ActorText) (g : Graph) (n : List ℕ) → g.actors ≡ map (actor_from blocks platforms) actors → length actors ≤ 1024
    → is_some (first_named text_name actors n) ≡ true → actor_name g (number_or_0 (first_named text_name actors n)) ≡ n
actor_back blocks platforms actors g n are few h =
    rw are (found_name text_name (λ (a : Actor). a.name) (actor_from blocks platforms) no_actor n actors (λ x. refl) few h)

no_block : Named
no_block = record { name = []; law = Least }

pub blocks_back : (blocks : List Named) → length blocks ≤ 64 → NamesBlocks blocks
blocks_back blocks few name h =
    let block_named = λ (b : Named). b.name in
    let number = number_is block_named blocks name (omega arith) h in
    let there : slice_get blocks number.0 ≡ Some (slice_index_or blocks number.0 no_block) = slice_get-get_or blocks number.0 no_block number.2 in
    let named = found_name block_named block_named (λ (b : Named). b) no_block name blocks (λ b. refl) (omega arith) h in
    let here : (slice_index_or blocks number.0 no_block).name ≡ name = ap (λ i. (slice_index_or blocks i no_block).name) (sym number.3) ∙ (ap (λ bs. (slice_index_or bs (number_or_0 (first_named block_named blocks name)) no_block).name) (sym (map_same blocks)) ∙ named) in
    ap (block_name blocks) number.3 ∙ (ap (λ o. unwrap_or (option_map block_named o) []) there ∙ here)
