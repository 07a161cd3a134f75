-- No history on time ends with a late message.
use Rattle.std.proofs.Common.{◌≡◌, ℕ, ◌+◌, ◌<◌, ◌≤◌, false, List, [], ◌∷◌, ◌++◌, Option, Some, None, refl, sym, ap, subst, ◌∙◌, ⊎_elim, arith}
use Rattle.std.specs.Prelude.{slice_get}
use Rattle.std.proofs.lemmas.Bool.{false≢true}
use Rattle.pt_tags.specs.declared.message.Message.TheVariants.{Event}
use Rattle.pt_tags.specs.declared.tag.Tag.{Tag}
use Rattle.pt_types.specs.declared.graph.Graph.{Graph}
use Rattle.pt_types.specs.declared.graph.Link.{Link}
use Rattle.pt_types.specs.declared.firing.Done.{Done}
use Rattle.pt_types.specs.declared.firing.OnLink.{OnLink}
use Rattle.pt_types.specs.declared.rows.Row.{Row}
use Rattle.pt_semantics.specs.Bounds.{link_bound}
use Rattle.pt_semantics.specs.Entering.{after_rows}
use Rattle.pt_semantics.specs.History.{LegalOnTime}
use Rattle.pt_semantics.specs.Platform.{State, opened}
use Rattle.pt_semantics.specs.Posting.{Posts, after_post}
use Rattle.pt_semantics.specs.Taking.{IsOnTime, Takes, after_message}
use Rattle.pt_semantics.specs.Turn.{IsTurn, Turn}
use Rattle.pt_semantics.proofs.Lookups.{same_some}
use Rattle.pt_fixed_order_laws.proofs.Sound.{turn_reading}
use Rattle.pt_turn.specs.Running.{LastIsLate, ShowsLate, last_reading}

-- posting keeps the last reading
posts_reading : (g : Graph) (s new : State) (ds : List Done) → Posts g s ds new → new.reading ≡ s.reading
posts_reading g s new [] h = ap (λ (z : State). z.reading) h
posts_reading g s new (d ∷ ds) h = posts_reading g (after_post g s d) new ds h.2

-- a turn without a late message took each of its messages on time
takes_on_time : (g : Graph) (level : ℕ → ℕ) (i : ℕ) (s new : State) (before : List OnLink) (m : OnLink) → Takes g level i s (before ++ m ∷ []) false new → (link : Link) × (slice_get g.links m.link ≡ Some link) × IsOnTime s.reading (link_bound g link) m.message
takes_on_time g level i s new [] m (link, at, home, orderly, either) = ⊎_elim
    (λ (on : IsOnTime s.reading (link_bound g link) m.message × Takes g level i (after_message s m.link link m.message) [] false new). (link, at, on.0))
    (λ off. absurd (false≢true off.2))
    either
takes_on_time g level i s new (x ∷ before) m (link, at, home, orderly, either) = ⊎_elim
    (λ (on : IsOnTime s.reading (link_bound g link) x.message × Takes g level i (after_message s x.link link x.message) (before ++ m ∷ []) false new). takes_on_time g level i (after_message s x.link link x.message) new before m on.1)
    (λ off. absurd (false≢true off.2))
    either

turn_on_time : (g : Graph) (level : ℕ → ℕ) (i : ℕ) (s new : State) (turn : Turn) (actor : ℕ) (tag : Tag) (reading limit : ℕ) → IsTurn g level i s turn false new → LastIsLate g s.reading turn.taken actor tag reading limit → ⊥
turn_on_time g level i s new turn actor tag reading limit is late =
    let m : OnLink = record { link = late.number; message = Event tag late.value } in
    let took = takes_on_time g level i (after_rows is.posted turn.last) is.got late.before m (subst (λ ms. Takes g level i (after_rows is.posted turn.last) ms false is.got) late.ends is.takes) in
    let link : took.0 ≡ late.link = same_some took.0 late.link (sym took.1 ∙ late.at) in
    let read : is.posted.reading ≡ Some reading = posts_reading g s is.posted turn.posted is.posts ∙ late.read in
    let on : reading ≤ tag.time + link_bound g late.link = subst (λ (z : Link). reading ≤ tag.time + link_bound g z) link (subst (λ r. IsOnTime r (link_bound g took.0) (Event tag late.value)) read took.2) in
    clash reading limit (tag.time + link_bound g late.link) on late.limit_is late.past
  where
    clash : (r l n : ℕ) → r ≤ n → l ≡ n → l < r → ⊥
    clash r l n on is past = omega (arith, on, is, past)

-- the last reading after these turns
abbrev read_after : Option ℕ → List Turn → Option ℕ
read_after r [] = r
read_after r (x ∷ turns) = read_after (Some x.last) turns

last_is : (x : Turn) (turns : List Turn) → last_reading (x ∷ turns) ≡ read_after (Some x.last) turns
last_is x [] = refl
last_is x (y ∷ turns) = last_is y turns

last_read : (turns : List Turn) → last_reading turns ≡ read_after None turns
last_read [] = refl
last_read (x ∷ turns) = last_is x turns

history_on_time : (g : Graph) (level : ℕ → ℕ) (i : ℕ) (s new : State) (before : List Turn) (turn : Turn) (actor : ℕ) (tag : Tag) (reading limit : ℕ) →
    LegalOnTime g level i s (before ++ turn ∷ []) new → LastIsLate g (read_after s.reading before) turn.taken actor tag reading limit → ⊥
history_on_time g level i s new [] turn actor tag reading limit (mid, is, rest) late = turn_on_time g level i s mid turn actor tag reading limit is late
history_on_time g level i s new (x ∷ before) turn actor tag reading limit (mid, is, rest) late =
    history_on_time g level i mid new before turn actor tag reading limit rest
    (subst (λ r. LastIsLate g (read_after r before) turn.taken actor tag reading limit) (sym (turn_reading g level i s mid x false is)) late)

-- a platform whose turns are all on time shows no late message
pub on_time_shows_none : (g : Graph) (level : ℕ → ℕ) (i : ℕ) (rows : ℕ → List Row) (turns : List Turn) (s : State) (actor : ℕ) (tag : Tag) (reading limit : ℕ) →
    LegalOnTime g level i (opened g i rows) turns s → ShowsLate g turns actor tag reading limit → ⊥
on_time_shows_none g level i rows turns s actor tag reading limit on shows =
    history_on_time g level i (opened g i rows) s shows.before shows.turn actor tag reading limit
    (subst (λ ts. LegalOnTime g level i (opened g i rows) ts s) shows.ends on)
    (subst (λ r. LastIsLate g r shows.turn.taken actor tag reading limit) (last_read shows.before) shows.late)
