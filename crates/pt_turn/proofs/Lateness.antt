-- A late turn ends with a late message.
use Rattle.std.proofs.Common.{◌≡◌, ℕ, ◌+◌, ◌<◌, ◌≤◌, ◌⊎◌, Bool, true, List, [], ◌∷◌, Option, Some, None, refl, sym, ap, subst, ⊎_elim, arith}
use Rattle.std.specs.Prelude.{slice_get}
use Rattle.std.proofs.lemmas.Bool.{false≢true}
use Rattle.pt_tags.specs.declared.message.Message.{Message}
use Rattle.pt_tags.specs.declared.message.Message.TheVariants.{Event, End}
use Rattle.pt_types.specs.declared.graph.Graph.{Graph}
use Rattle.pt_types.specs.declared.graph.Link.{Link}
use Rattle.pt_types.specs.declared.firing.Done.{Done}
use Rattle.pt_types.specs.declared.firing.OnLink.{OnLink}
use Rattle.pt_semantics.specs.Bounds.{link_bound}
use Rattle.pt_semantics.specs.Entering.{after_rows}
use Rattle.pt_semantics.specs.Platform.{State}
use Rattle.pt_semantics.specs.Posting.{Posts, after_post}
use Rattle.pt_semantics.specs.Taking.{IsOnTime, Takes, after_message}
use Rattle.pt_semantics.specs.Turn.{IsTurn, Turn}
use Rattle.pt_turn.specs.Faults.{SomeIsLate}

below : (p n : ℕ) → (p ≤ n → ⊥) → n < p
below p n not = ⊎_elim (λ (le : p ≤ n). absurd (not le)) (λ (lt : n < p). lt) (either p n)
  where
    either : (p n : ℕ) → (p ≤ n) ⊎ (n < p)
    either p n = grind arith

late_one : (g : Graph) (last : Option ℕ) (l : ℕ) (message : Message) (link : Link) → slice_get g.links l ≡ Some link → (IsOnTime last (link_bound g link) message → ⊥) → SomeIsLate g last (record { link = l; message = message } ∷ [])
late_one g None l message link at late = absurd (late tt)
late_one g (Some p) l End link at late = absurd (late tt)
late_one g (Some p) l (Event t v) link at late = (
  link.to,
  t,
  p,
  t.time + link_bound g link,
  record {
    number = l;
    value = v;
    before = [];
    ends = refl;
    link = link;
    at = at;
    receiver = refl;
    read = refl;
    limit_is = refl;
    past = below p (t.time + link_bound g link) late;
  },
)

late_more : (g : Graph) (last : Option ℕ) (m : OnLink) (ms : List OnLink) → SomeIsLate g last ms → SomeIsLate g last (m ∷ ms)
late_more g last m ms some =
    let late = some.4 in (
      some.0,
      some.1,
      some.2,
      some.3,
      record {
        number = late.number;
        value = late.value;
        before = m ∷ late.before;
        ends = ap (λ xs. m ∷ xs) late.ends;
        link = late.link;
        at = late.at;
        receiver = late.receiver;
        read = late.read;
        limit_is = late.limit_is;
        past = late.past;
      },
    )

takes_late : (g : Graph) (level : ℕ → ℕ) (i : ℕ) (s new : State) (ms : List OnLink) → Takes g level i s ms true new → SomeIsLate g s.reading ms
takes_late g level i s new [] h = absurd (false≢true (sym h.0))
takes_late g level i s new (m ∷ ms) h =
    ⊎_elim
    (λ (on : IsOnTime s.reading (link_bound g h.0) m.message × Takes g level i (after_message s m.link h.0 m.message) ms true new). late_more g s.reading m ms (takes_late g level i (after_message s m.link h.0 m.message) new ms on.1))
    (λ off. subst (λ xs. SomeIsLate g s.reading (m ∷ xs)) (sym off.1) (late_one g s.reading m.link m.message h.0 h.1 off.0))
    h.4

-- posting keeps the reading
posts_reading : (g : Graph) (s new : State) (ds : List Done) → Posts g s ds new → new.reading ≡ s.reading
posts_reading g s new [] h = ap (λ (z : State). z.reading) h
posts_reading g s new (d ∷ ds) h = posts_reading g (after_post g s d) new ds h.2

pub turn_late : (g : Graph) (level : ℕ → ℕ) (i : ℕ) (s new : State) (turn : Turn) (late : Bool) → late ≡ true → IsTurn g level i s turn late new → SomeIsLate g s.reading turn.taken
turn_late g level i s new turn late is_late is =
    subst (λ r. SomeIsLate g r turn.taken) (posts_reading g s is.posted turn.posted is.posts)
    (takes_late g level i (after_rows is.posted turn.last) is.got turn.taken (subst (λ b. Takes g level i (after_rows is.posted turn.last) turn.taken b is.got) is_late is.takes))
