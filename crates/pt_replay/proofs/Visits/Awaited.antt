-- From when on messages arrive at each platform.
use Rattle.std.proofs.Common.{◌≡◌, ℕ, ◌+◌, ◌<◌, ◌≤◌, List, [], ◌∷◌, Option, Some, ⊎_elim, length, sym, ap, subst, ◌∙◌, arith}
use Rattle.std.specs.Prelude.{option_map, slice_get, slice_index_or, unwrap_or}
use Rattle.std.proofs.lemmas.Bool.{cases_eq}
use Rattle.std.proofs.lemmas.Option.{slice_get_within}
use Rattle.pt_types.specs.declared.graph.Graph.{Graph}
use Rattle.pt_types.specs.declared.graph.Link.{Link}
use Rattle.pt_types.specs.Lookups.{platform_of}
use Rattle.pt_semantics.specs.Lists.{Each}
use Rattle.pt_semantics.proofs.Lookups.{same_some}
use Rattle.pt_types.specs.declared.air.InAir.{InAir}
use Rattle.pt_semantics.specs.Arrivals.{AirwayView, NeverFall}
use Rattle.pt_replay.specs.Visits.Moments.{ArriveFrom}

pub each_so : {X : Type 0} (P Q : X → Type 0) (xs : List X) → ((x : X) → P x → Q x) → Each P xs → Each Q xs
each_so P Q [] so h = tt
each_so P Q (x ∷ xs) so h = (so x h.0, each_so P Q xs so h.1)

-- no message arrives before the least arrival
none_before : (least : ℕ) (ms : List InAir) (latest : ℕ) → NeverFall least ms latest → Each (λ (m : InAir). least ≤ m.arrives) ms
none_before least [] latest h = tt
none_before least (m ∷ ms) latest h =
    (h.0, each_so (λ (x : InAir). m.arrives ≤ x.arrives) (λ (x : InAir). least ≤ x.arrives) ms (λ x le. omega (arith, le, h.0)) (none_before m.arrives ms latest h.1))

-- no message arrives before the first one
pub from_first : (ms : List InAir) (latest most next : ℕ) (first : Option ℕ) → NeverFall 0 ms latest → first ≡ option_map (λ (m : InAir). m.arrives) (slice_get ms 0) → next ≡ unwrap_or first most → Each (λ (m : InAir). next ≤ m.arrives) ms
from_first [] latest most next first h first_is is = tt
from_first (m ∷ ms) latest most next first h first_is is =
    let e : next ≡ m.arrives = is ∙ ap (λ (o : Option ℕ). unwrap_or o most) first_is in
    subst (λ (n : ℕ). Each (λ (x : InAir). n ≤ x.arrives) (m ∷ ms)) (sym e) (omega arith, none_before m.arrives ms latest h.1)

-- the same of the first n links
abbrev pub FirstArriveFrom : ℕ → Graph → List ℕ → List AirwayView → Type 0
FirstArriveFrom n g times airways = (l : ℕ) (link : Link) (a : AirwayView) → l < n → slice_get g.links l ≡ Some link → slice_get airways l ≡ Some a →
    Each (λ (m : InAir). slice_index_or times (platform_of g link.to) 0 ≤ m.arrives) a.on_way

pub none_first : (g : Graph) (times : List ℕ) (airways : List AirwayView) → FirstArriveFrom 0 g times airways
none_first g times airways = λ l link a lt at at_a. absurd (past l lt)
  where
    past : (l : ℕ) → l < 0 → ⊥
    past l lt = omega arith

pub all_links : (n : ℕ) (g : Graph) (times : List ℕ) (airways : List AirwayView) → length airways ≤ n → FirstArriveFrom n g times airways → ArriveFrom g times airways
all_links n g times airways all h = λ l link a at at_a. h l link a (let lt = slice_get_within airways l a at_a in omega (arith, lt, all)) at at_a

-- the next link
pub one_more : (n : ℕ) (g : Graph) (olds times : List ℕ) (airways : List AirwayView) (link : Link) (a : AirwayView) (next : ℕ) → FirstArriveFrom n g olds airways → slice_get g.links n ≡ Some link → slice_get airways n ≡ Some a
    → Each (λ (m : InAir). next ≤ m.arrives) a.on_way → slice_index_or times (platform_of g link.to) 0 ≤ next → ((i : ℕ) → slice_index_or times i 0 ≤ slice_index_or olds i 0) → FirstArriveFrom (n + 1) g times airways
one_more n g olds times airways link a next h at at_a later here lower = λ l other b lt there there_b.
    ⊎_elim
    (λ (same : l ≡ n).
    let same_link : other ≡ link = same_some other link (sym there ∙ ap (slice_get g.links) same ∙ at) in
    let same_way : b ≡ a = same_some b a (sym there_b ∙ ap (slice_get airways) same ∙ at_a) in
    subst (λ (z : AirwayView). Each (λ (m : InAir). slice_index_or times (platform_of g other.to) 0 ≤ m.arrives) z.on_way) (sym same_way)
    (subst (λ (z : Link). Each (λ (m : InAir). slice_index_or times (platform_of g z.to) 0 ≤ m.arrives) a.on_way) (sym same_link)
    (each_so (λ (m : InAir). next ≤ m.arrives) (λ (m : InAir). slice_index_or times (platform_of g link.to) 0 ≤ m.arrives) a.on_way (λ m le. omega (arith, le, here)) later)))
    (λ (apart : l ≡ n → ⊥).
    each_so (λ (m : InAir). slice_index_or olds (platform_of g other.to) 0 ≤ m.arrives) (λ (m : InAir). slice_index_or times (platform_of g other.to) 0 ≤ m.arrives) b.on_way
    (λ m le. let less = lower (platform_of g other.to) in omega (arith, le, less))
    (h l other b (before l n apart lt) there there_b))
    (cases_eq l n)
  where
    before : (l n : ℕ) → (l ≡ n → ⊥) → l < n + 1 → l < n
    before l n apart lt = omega (arith, apart, lt)
