-- Where the links of a lawful graph lead.
use Rattle.std.proofs.Common.{◌≡◌, ℕ, zero, suc, ◌+◌, ◌<◌, ◌≤◌, Bool, true, false, cond, not, ◌&&◌, ◌||◌, ◌==◌, nat_lt, List, [], ◌∷◌, length, slice_get, Option, Some, None, refl, sym, ap, subst, arith, ⊎_elim}
use Rattle.std.specs.List.{count_by}
use Rattle.std.proofs.lemmas.Bool.{and_parts, or_cases, or_left, or_right, ltb-true, eqb-true, eq-eqb, not-true, both_ways}
use Rattle.pt_types.specs.declared.graph.Graph.{Graph}
use Rattle.pt_types.specs.declared.graph.Actor.{Actor}
use Rattle.pt_types.specs.declared.graph.Link.{Link}
use Rattle.pt_types.specs.declared.kind.Kind.{Kind}
use Rattle.pt_types.specs.declared.kind.Kind.TheVariants.{Send, Receive}
use Rattle.pt_types.specs.Kinds.{is_time}
use Rattle.pt_types.specs.Groups.{actor_at}
use Rattle.pt_types.specs.Ends.{is_send, is_receive, link_fits, has_end, links_fit, misfit_from}
use Rattle.pt_types.specs.Lawful.{IsLawful, link_is_lawful}
use Rattle.pt_types.proofs.Distinct.{all_at, counted_once}

-- a link leads from a sender to a receiver of another platform
pub record IsLink (g : Graph) (l : Link) : Type 0 where
  pub from : l.from < length g.actors
  pub to : l.to < length g.actors
  pub slack : ℕ
  pub sends : (actor_at g.actors l.from).kind ≡ Send slack
  pub receives : (actor_at g.actors l.to).kind ≡ Receive
  pub elsewhere : (actor_at g.actors l.from).platform ≡ (actor_at g.actors l.to).platform → ⊥

send_of : (k : Kind) → is_send k ≡ true → (slack : ℕ) × (k ≡ Send slack)
send_of (Send slack) h = (slack, refl)
send_of _ h = absurd cc

receive_of : (k : Kind) → is_receive k ≡ true → k ≡ Receive
receive_of Receive h = refl
receive_of _ h = absurd cc

pub link_at : (g : Graph) (i : ℕ) (l : Link) → IsLawful g → slice_get g.links i ≡ Some l → IsLink g l
link_at g i l lawful h =
    let n = length g.actors in
    let from_actor = actor_at g.actors l.from in
    let to_actor = actor_at g.actors l.to in
    let two = and_parts (nat_lt l.from n && nat_lt l.to n) (is_time l.delay) (all_at (link_is_lawful n) g.links i l lawful.links h) in
    let one = and_parts (nat_lt l.from n) (nat_lt l.to n) two.0 in
    let fits = and_parts (is_send from_actor.kind && is_receive to_actor.kind) (not (from_actor.platform == to_actor.platform)) (all_at (link_fits g.actors) g.links i l lawful.linked h) in
    let kinds = and_parts (is_send from_actor.kind) (is_receive to_actor.kind) fits.0 in
    let send = send_of from_actor.kind kinds.0 in
    record {
      from = ltb-true l.from n one.0;
      to = ltb-true l.to n one.1;
      slack = send.0;
      sends = send.1;
      receives = receive_of to_actor.kind kinds.1;
      elsewhere = λ e. both_ways (from_actor.platform == to_actor.platform) (not-true (from_actor.platform == to_actor.platform) fits.1) (eq-eqb from_actor.platform to_actor.platform e);
    }

none_else : (b : Bool) (x : ℕ) (o : Option ℕ) → cond b o (Some x) ≡ None → (b ≡ true) × (o ≡ None)
none_else true x o h = (refl, h)
none_else false x o h = absurd cc

-- no actor of the list has too many links or too few
fits_at : (links : List Link) (i : ℕ) (actors : List Actor) (k : ℕ) → misfit_from links i actors ≡ None → k < length actors → links_fit links (i + k) (actor_at actors k).kind ≡ true
fits_at links i [] k h less = absurd (omega arith)
fits_at links i (a ∷ actors) zero h less =
    let number : i ≡ i + 0 = omega arith in
    subst (λ n. links_fit links n a.kind ≡ true) number (none_else (links_fit links i a.kind) i (misfit_from links (i + 1) actors) h).0
fits_at links i (a ∷ actors) (suc k) h less =
    let number : (i + 1) + k ≡ i + suc k = omega arith in
    subst (λ n. links_fit links n (actor_at actors k).kind ≡ true) number (fits_at links (i + 1) actors k (none_else (links_fit links i a.kind) i (misfit_from links (i + 1) actors) h).1 (omega arith))

one_end : (links : List Link) (a : ℕ) (k : Kind) → (is_send k || is_receive k) ≡ true → links_fit links a k ≡ true → count_by (has_end a) links ≤ 1
one_end links a k is_end h = ⊎_elim
    (λ (e : not (is_send k || is_receive k) ≡ true). absurd (both_ways (is_send k || is_receive k) (not-true (is_send k || is_receive k) e) is_end))
    (λ (e : (count_by (has_end a) links == 1) ≡ true). let one = eqb-true (count_by (has_end a) links) 1 e in omega arith)
    (or_cases (not (is_send k || is_receive k)) (count_by (has_end a) links == 1) h)

-- an end of a link has that link alone
ends_once : (g : Graph) (a : ℕ) (i j : ℕ) (l k : Link) → IsLawful g → a < length g.actors → (is_send (actor_at g.actors a).kind || is_receive (actor_at g.actors a).kind) ≡ true → slice_get g.links i ≡ Some l → slice_get g.links j ≡ Some k → has_end a l ≡ true → has_end a k ≡ true → i ≡ j
ends_once g a i j l k lawful less is_end p q e d =
    let number : 0 + a ≡ a = omega arith in
    let fits = subst (λ n. links_fit g.links n (actor_at g.actors a).kind ≡ true) number (fits_at g.links 0 g.actors a lawful.one_link less) in
    counted_once (has_end a) g.links i j l k (one_end g.links a (actor_at g.actors a).kind is_end fits) p q e d

pub links_once : (g : Graph) (i j : ℕ) (l k : Link) → IsLawful g → slice_get g.links i ≡ Some l → slice_get g.links j ≡ Some k → l.to ≡ k.to → i ≡ j
links_once g i j l k lawful p q e =
    let link = link_at g i l lawful p in
    let kind = (actor_at g.actors l.to).kind in
    ends_once g l.to i j l k lawful link.to (or_right (is_send kind) (is_receive kind) (ap is_receive link.receives)) p q
    (or_right (l.from == l.to) (l.to == l.to) (eq-eqb l.to l.to refl)) (or_right (k.from == l.to) (k.to == l.to) (eq-eqb k.to l.to (sym e)))

pub links_once_out : (g : Graph) (i j : ℕ) (l k : Link) → IsLawful g → slice_get g.links i ≡ Some l → slice_get g.links j ≡ Some k → l.from ≡ k.from → i ≡ j
links_once_out g i j l k lawful p q e =
    let link = link_at g i l lawful p in
    let kind = (actor_at g.actors l.from).kind in
    ends_once g l.from i j l k lawful link.from (or_left (is_send kind) (is_receive kind) (ap is_send link.sends)) p q
    (or_left (l.from == l.from) (l.to == l.from) (eq-eqb l.from l.from refl)) (or_left (k.from == l.from) (k.to == l.from) (eq-eqb k.from l.from (sym e)))
