-- What is true of every graph that was read.
use Rattle.std.specs.Prelude.{◌≡◌, ℕ, ◌+◌, ◌≤◌, ◌==◌, ◌&&◌, Bool, true, not, nat_lt, List, [], ◌∷◌, ◌++◌, length, Option, None, Some, bytes_eq, if◌then◌else◌, sum, map}
use Rattle.std.specs.List.{list_all, list_any}
use Rattle.pt_types.specs.declared.graph.Graph.{Graph}
use Rattle.pt_types.specs.declared.graph.Actor.{Actor}
use Rattle.pt_types.specs.declared.graph.Wire.{Wire}
use Rattle.pt_types.specs.declared.graph.Link.{Link}
use Rattle.pt_types.specs.declared.graph.PairError.{PairError}
use Rattle.pt_types.specs.declared.kind.Kind.{Kind}
use Rattle.pt_types.specs.declared.kind.Kind.TheVariants.{Lanes}
use Rattle.pt_types.specs.Limits.{greatest_claims}
use Rattle.pt_types.specs.Names.{is_name}
use Rattle.pt_types.specs.Kinds.{kind_is_lawful, is_time, visible_inputs, visible_outputs}
use Rattle.pt_types.specs.Groups.{is_pair_of}
use Rattle.pt_types.specs.Ends.{ends_fit, stays_home, is_fed, fed_twice_from, first_unfed, link_fits, misfit_from, hidden_wires}

-- one of these has this name
abbrev pub is_named : {A : Type 0} → (A → List ℕ) → List A → List ℕ → Bool
is_named name_of xs n = list_any (λ x. bytes_eq (name_of x) n) xs

-- the index of the first that has the name of an earlier one
abbrev pub repeated_from : {A : Type 0} → (A → List ℕ) → List A → ℕ → List A → Option ℕ
repeated_from name_of seen i [] = None
repeated_from name_of seen i (x ∷ xs) = if is_named name_of seen (name_of x) then Some i else repeated_from name_of (seen ++ x ∷ []) (i + 1) xs

-- the index of the first pair that names the two platforms of an earlier pair
abbrev pub pair_repeats_from : List PairError → ℕ → List PairError → Option ℕ
pair_repeats_from seen i [] = None
pair_repeats_from seen i (p ∷ ps) = if list_any (is_pair_of p.a p.b) seen then Some i else pair_repeats_from (seen ++ p ∷ []) (i + 1) ps

-- an actor's name, platform, parameters and visible ports are valid
abbrev pub actor_is_lawful : ℕ → Actor → Bool
actor_is_lawful platforms a = is_name a.name && nat_lt a.platform platforms && kind_is_lawful a.kind && a.inputs == visible_inputs a.kind && a.outputs == visible_outputs a.kind

abbrev pub wire_is_lawful : ℕ → Wire → Bool
wire_is_lawful actors w = nat_lt w.from actors && nat_lt w.to actors && nat_lt w.output 8 && nat_lt w.input 8

abbrev pub link_is_lawful : ℕ → Link → Bool
link_is_lawful actors l = nat_lt l.from actors && nat_lt l.to actors && is_time l.delay

abbrev pub pair_is_lawful : ℕ → PairError → Bool
pair_is_lawful platforms p = nat_lt p.a platforms && nat_lt p.b platforms && not (p.a == p.b) && is_time p.error

-- the number of cells of a kind
abbrev pub cell_count : Kind → ℕ
cell_count (Lanes cells) = length cells
cell_count _ = 0

-- a lawful graph: every graph that the reader of graphs gives is one
pub record IsLawful (g : Graph) : Type 0 where
  pub until : is_time g.until ≡ true
  pub clock_error : is_time g.clock_error ≡ true
  -- a command states no greater number of claims
  pub few_claims : g.claims ≤ greatest_claims
  -- the limits on the numbers of parts
  pub some_platform : 1 ≤ length g.platforms
  pub few_platforms : length g.platforms ≤ 16
  pub few_actors : length g.actors ≤ 1024
  pub few_links : length g.links ≤ 64
  pub few_pairs : length g.clock_errors ≤ 120
  pub few_cells : sum (map (λ (a : Actor). cell_count a.kind) g.actors) ≤ 1024
  -- the wires of the file, at most 4096, and then the hidden ones
  pub visible : List Wire
  pub few_wires : length visible ≤ 4096
  pub wires : g.wires ≡ visible ++ hidden_wires 0 g.actors
  -- each part is valid by itself
  pub platforms : list_all is_name g.platforms ≡ true
  pub actors : list_all (actor_is_lawful (length g.platforms)) g.actors ≡ true
  pub ports : list_all (wire_is_lawful (length g.actors)) visible ≡ true
  pub links : list_all (link_is_lawful (length g.actors)) g.links ≡ true
  pub pairs : list_all (pair_is_lawful (length g.platforms)) g.clock_errors ≡ true
  -- names of platforms, names of actors and pairs are all different
  pub other_platforms : repeated_from (λ n. n) [] 0 g.platforms ≡ None
  pub other_actors : repeated_from (λ (a : Actor). a.name) [] 0 g.actors ≡ None
  pub other_pairs : pair_repeats_from [] 0 g.clock_errors ≡ None
  -- a wire joins visible ports on one platform, each visible input has one wire, and each link joins a sender to a receiver
  pub ends : list_all (ends_fit g.actors) visible ≡ true
  pub home : list_all (stays_home g.actors) visible ≡ true
  pub fed_once : fed_twice_from [] 0 visible ≡ None
  pub fed : first_unfed (is_fed visible) 0 g.actors ≡ None
  pub linked : list_all (link_fits g.actors) g.links ≡ true
  pub one_link : misfit_from g.links 0 g.actors ≡ None
