-- Which bytes names and numbers don't have.
use Rattle.std.proofs.Common.{◌≡◌, ◌≢◌, ℕ, ◌&&◌, zero, suc, ◌+◌, ◌/◌, ◌%◌, ◌<◌, ◌≤◌, ℤ, pos, negsuc, true, false, ◌==◌, nat_lt, List, [], ◌∷◌, Option, Some, None, get_or, length, refl, sym, ap, ◌∙◌, subst, arith, ⊎_elim}
use Rattle.std.specs.Fmt.{decimal, digit_glyph, digits, digits_onto, signed_decimal}
use Rattle.std.specs.List.{list_all}
use Rattle.std.proofs.lemmas.Bool.{and_parts, both_ways, cases_Bool, cases_lt, lt-ltb}
use Rattle.std.proofs.lemmas.List.{get_or_past}
use Rattle.std.proofs.lemmas.Option.{slice_get-get_or}
use Rattle.pt_types.specs.declared.graph.Actor.{Actor}
use Rattle.pt_types.specs.declared.graph.Graph.{Graph}
use Rattle.pt_types.specs.declared.graph.Link.{Link}
use Rattle.pt_types.specs.Groups.{no_actor}
use Rattle.pt_types.specs.Kinds.{kind_is_lawful, visible_inputs, visible_outputs}
use Rattle.pt_types.specs.Lawful.{IsLawful, actor_is_lawful}
use Rattle.pt_types.specs.Lookups.{actor_name, platform_name}
use Rattle.pt_types.specs.Names.{in_name, is_name}
use Rattle.pt_types.proofs.Distinct.{all_at}
use Rattle.pt_tables.specs.Names.{receiver_name, sender_name}
use Rattle.pt_audit.proofs.Parsing.Cuts.{Lacks}

-- a byte that no digit is
pub record IsNoDigit (b : ℕ) : Type 0 where
  pub apart : (d : ℕ) → d < 10 → 48 + d ≢ b

glyph_is : (d : ℕ) → d < 10 → digit_glyph false d ≡ 48 + d
glyph_is d less = rw (lt-ltb d 10 less) refl

glyph_apart : (b n : ℕ) → IsNoDigit b → digit_glyph false (n % 10) ≢ b
glyph_apart b n other e =
    let small : n % 10 < 10 = omega arith in
    other.apart (n % 10) small (sym (glyph_is (n % 10) small) ∙ e)

lacks_digits : (b k n : ℕ) (acc : List ℕ) → IsNoDigit b → Lacks b acc → Lacks b (digits_onto k 10 false n acc)
lacks_digits b zero n acc other rest = rest
lacks_digits b (suc k) n acc other rest =
    let here : Lacks b (digit_glyph false (n % 10) ∷ acc) = (glyph_apart b n other, rest) in
    ⊎_elim
    (λ (last : (n / 10 == 0) ≡ true). rw last here)
    (λ (more : (n / 10 == 0) ≡ false). rw more (lacks_digits b k (n / 10) (digit_glyph false (n % 10) ∷ acc) other here))
    (cases_Bool (n / 10 == 0))

pub lacks_decimal : (b n : ℕ) → IsNoDigit b → Lacks b (decimal n)
unfolding digits
lacks_decimal b n other = lacks_digits b 64 n [] other tt

pub lacks_signed : (b : ℕ) (z : ℤ) → IsNoDigit b → 45 ≢ b → Lacks b (signed_decimal z)
lacks_signed b (pos n) other sign = lacks_decimal b n other
lacks_signed b (negsuc n) other sign = (sign, lacks_decimal b (suc n) other)

-- a name has no byte that names don't have
lacks_all : (b : ℕ) (name : List ℕ) → in_name b ≡ false → list_all in_name name ≡ true → Lacks b name
lacks_all b [] other all = tt
lacks_all b (x ∷ name) other all =
    let parts = and_parts (in_name x) (list_all in_name name) all in
    (λ (e : x ≡ b). both_ways (in_name b) other (ap in_name (sym e) ∙ parts.0), lacks_all b name other parts.1)

pub lacks_name : (b : ℕ) (name : List ℕ) → in_name b ≡ false → is_name name ≡ true → Lacks b name
lacks_name b name other is = lacks_all b name other (is_name_all name is)
  where
    is_name_all : (xs : List ℕ) → is_name xs ≡ true → list_all in_name xs ≡ true
    is_name_all xs h = (and_parts _ (list_all in_name xs) h).1

pub lacks_platform : (g : Graph) (b p : ℕ) → IsLawful g → in_name b ≡ false → Lacks b (platform_name g p)
lacks_platform g b p lawful other = ⊎_elim
    (λ (less : p < length g.platforms). lacks_name b (platform_name g p) other (all_at is_name g.platforms p (platform_name g p) lawful.platforms (slice_get-get_or g.platforms p [] less)))
    (λ (past : length g.platforms ≤ p). subst (λ (xs : List ℕ). Lacks b xs) (sym (get_or_past g.platforms p [] past)) tt)
    (cases_lt p (length g.platforms))

pub lawful_name : (platforms : ℕ) (a : Actor) → actor_is_lawful platforms a ≡ true → is_name a.name ≡ true
lawful_name platforms a h =
    let outputs = and_parts (is_name a.name && nat_lt a.platform platforms && kind_is_lawful a.kind && a.inputs == visible_inputs a.kind) (a.outputs == visible_outputs a.kind) h in
    let inputs = and_parts (is_name a.name && nat_lt a.platform platforms && kind_is_lawful a.kind) (a.inputs == visible_inputs a.kind) outputs.0 in
    let kind = and_parts (is_name a.name && nat_lt a.platform platforms) (kind_is_lawful a.kind) inputs.0 in
    (and_parts (is_name a.name) (nat_lt a.platform platforms) kind.0).0

pub lacks_actor : (g : Graph) (b a : ℕ) → IsLawful g → in_name b ≡ false → Lacks b (actor_name g a)
lacks_actor g b a lawful other = ⊎_elim
    (λ (less : a < length g.actors).
    let actor = get_or g.actors a no_actor in
    lacks_name b actor.name other (lawful_name (length g.platforms) actor (all_at (actor_is_lawful (length g.platforms)) g.actors a actor lawful.actors (slice_get-get_or g.actors a no_actor less))))
    (λ (past : length g.actors ≤ a). subst (λ (actor : Actor). Lacks b actor.name) (sym (get_or_past g.actors a no_actor past)) tt)
    (cases_lt a (length g.actors))

pub lacks_receiver : (g : Graph) (b : ℕ) (link : Option Link) → IsLawful g → in_name b ≡ false → Lacks b (receiver_name g link)
lacks_receiver g b None lawful other = tt
lacks_receiver g b (Some link) lawful other = lacks_actor g b link.to lawful other

pub lacks_sender : (g : Graph) (b : ℕ) (link : Option Link) → IsLawful g → in_name b ≡ false → Lacks b (sender_name g link)
lacks_sender g b None lawful other = tt
lacks_sender g b (Some link) lawful other = lacks_actor g b link.from lawful other

pub comma : IsNoDigit 44
comma = record { apart = λ d less e. omega arith }

pub line_feed : IsNoDigit 10
line_feed = record { apart = λ d less e. omega arith }

pub no_comma_in_names : in_name 44 ≡ false
no_comma_in_names = refl

pub no_line_feed_in_names : in_name 10 ≡ false
no_line_feed_in_names = refl
