-- Messages that are taken at one end.
use Rattle.std.proofs.Common.{◌≡◌, ℕ, ◌+◌, ◌<◌, ◌≤◌, List, [], ◌∷◌, ◌++◌, length, get_or, map, set, refl, sym, ap, subst, ◌∙◌, append_assoc, append-nil, length-append, arith}
use Rattle.std.proofs.lemmas.List.{map-append}
use Rattle.pt_tags.specs.declared.message.Message.{Message}
use Rattle.pt_types.specs.declared.firing.OnLink.{OnLink}
use Rattle.pt_links.specs.Ends.{TakenBy}
use Rattle.pt_links.specs.Line.{IsOrderlyBy}
use Rattle.pt_visits.specs.Pipes.{put_on}
use Rattle.pt_pool.specs.Ends.{NumbersDiffer, end_in}
use Rattle.pt_pool.specs.Lanes.{EndByEnd, Took}
use Rattle.pt_pool.proofs.Lanes.{get_here, one_lane}

-- k messages were taken so far
pub record TakesOn (n k : ℕ) (old now : TakenBy) (given more : List OnLink) : Type 0 where
  pub ms : List Message
  pub stays : (now.link ≡ old.link) × (now.limits ≡ old.limits)
  pub taken : now.taken ≡ old.taken ++ ms
  pub count : length ms ≡ k
  pub orderly : IsOrderlyBy old.limits old.taken → IsOrderlyBy old.limits now.taken
  pub given_is : more ≡ given ++ map (put_on n) ms

pub takes_none : (n : ℕ) (v : TakenBy) (given : List OnLink) → TakesOn n 0 v v given given
takes_none n v given = record { ms = []; stays = (refl, refl); taken = sym (append-nil v.taken); count = refl; orderly = λ h. h; given_is = sym (append-nil given) }

pub takes_one : (n k : ℕ) (old now new : TakenBy) (given more all : List OnLink) (m : Message) → TakesOn n k old now given more → (new.link ≡ now.link) × (new.limits ≡ now.limits) → new.taken ≡ now.taken ++ m ∷ [] → IsOrderlyBy now.limits new.taken → all ≡ more ++ put_on n m ∷ [] → TakesOn n (k + 1) old new given all
takes_one n k old now new given more all m h same one orderly is =
    let count : length (h.ms ++ m ∷ []) ≡ length h.ms + 1 = length-append h.ms (m ∷ []) in
    record {
      ms = h.ms ++ m ∷ [];
      stays = (same.0 ∙ h.stays.0, same.1 ∙ h.stays.1);
      taken = one ∙ ap (λ (z : List Message). z ++ m ∷ []) h.taken ∙ append_assoc old.taken h.ms (m ∷ []);
      count = omega (arith, count, h.count);
      orderly = λ was. subst (λ (b : _). IsOrderlyBy b new.taken) h.stays.1 orderly;
      given_is = is ∙ ap (λ (z : List OnLink). z ++ put_on n m ∷ []) h.given_is ∙ append_assoc given (map (put_on n) h.ms) (put_on n m ∷ []) ∙ ap (λ (z : List OnLink). given ++ z) (sym (map-append (put_on n) h.ms (m ∷ [])));
    }

pub takes_end : (n k : ℕ) (old now new : TakenBy) (given more : List OnLink) → k ≤ 64 → TakesOn n k old now given more → (new.link ≡ now.link) × (new.limits ≡ now.limits) → new.taken ≡ now.taken → (ms : List Message) × Took n old new ms × (more ≡ given ++ map (put_on n) ms)
takes_end n k old now new given more le h same none = (
  h.ms,
  record {
    stays = (same.0 ∙ h.stays.0, same.1 ∙ h.stays.1);
    taken = none ∙ h.taken;
    few = omega (arith, h.count);
    orderly = λ was. subst (IsOrderlyBy old.limits) (sym none) (h.orderly was);
  },
  h.given_is,
)

in_number : (e : ℕ × TakenBy) → (end_in e).number ≡ e.0
in_number e = refl

-- one end more
pub takes_next : (k : ℕ) (old now : List (ℕ × TakenBy)) (ms all : List OnLink) (D : ℕ × TakenBy) (after : TakenBy) (more : List Message) → k < length now → NumbersDiffer (map end_in old) → EndByEnd Took end_in k old now ms → Took (get_or now k D).0 (get_or now k D).1 after more → all ≡ ms ++ map (put_on (get_or now k D).0) more → EndByEnd Took end_in (k + 1) old (set now k ((get_or now k D).0, after)) all
takes_next k old now ms all D after more lt apart h t is =
    let e = get_or now k D in
    subst (EndByEnd Took end_in (k + 1) old (set now k (e.0, after))) (sym is)
    (one_lane Took end_in in_number k old now ms e (e.0, after) more apart h (get_here now k D lt) refl (λ i. record { number = e.0; link = t.stays.0 i; limits = t.stays.1 i }) t)
