-- The list of missed entries has each of them, and nothing else.
use Rattle.std.proofs.Common.{◌∷◌, length, arith, ◌≡◌, ℕ, ℤ, ◌+◌, ◌<◌, ◌++◌, [], append_assoc, List, Option, Some, None, nat_lt, slice_get, refl, sym, ap, subst, ◌∙◌, inl, inr, ⊎_elim, lt-ltb}
use Rattle.std.specs.Prelude.{filter_map, option_map, unwrap_or}
use Rattle.std.proofs.lemmas.Bool.{ltb-true}
use Rattle.pt_tags.specs.declared.message.Message.{Message}
use Rattle.pt_tags.specs.declared.message.Message.TheVariants.{Event, End}
use Rattle.pt_tags.specs.declared.tag.Tag.{Tag}
use Rattle.pt_types.specs.declared.firing.Done.{Done}
use Rattle.pt_types.specs.declared.firing.Task.{Task}
use Rattle.pt_types.specs.declared.graph.Graph.{Graph}
use Rattle.pt_types.specs.declared.graph.Link.{Link}
use Rattle.pt_types.specs.declared.kind.Kind.{Kind}
use Rattle.pt_types.specs.declared.kind.Kind.TheVariants.{Actuator}
use Rattle.pt_types.specs.Lookups.{slack_of}
use Rattle.pt_types.specs.Lookups.{kind_of}
use Rattle.pt_semantics.specs.Lists.{IsIn}
use Rattle.pt_semantics.specs.Missed.{IsMissed}
use Rattle.pt_semantics.specs.Turn.{Turn}
use Rattle.pt_semantics.proofs.Lookups.{IsIn-append, IsIn-append_left, IsIn-append_right, none_some, same_some, when_found}
use Rattle.pt_semantics.proofs.Words.{when-true}
use Rattle.pt_history.specs.declared.miss.Miss.{Miss}
use Rattle.pt_monitors.specs.Misses.{AppendsMisses, AppendsSent, ListsMissed, miss_by, miss_of_message, miss_of_result, miss_on, miss_past, missed_at, missed_of}
use Rattle.pt_monitors.proofs.Members.{filter_map_in, flat_map_in, in_filter_map, in_flat_map}

-- what an entry says
record Says (m : Miss) (r a : ℕ) (t : Tag) (slack : ℕ) : Type 0 where
  actor : m.actor ≡ a
  tag : m.tag ≡ t
  reading : m.reading ≡ r
  limit : m.limit ≡ t.time + slack
  past : m.limit < r

past_says : (reading actor : ℕ) (tag : Tag) (slack : ℕ) (m : Miss) → miss_past reading actor tag slack ≡ Some m → Says m reading actor tag slack
past_says reading actor tag slack m h =
    let entry : Miss = record { actor = actor; tag = tag; reading = reading; limit = tag.time + slack } in
    let both = when_found (nat_lt (tag.time + slack) reading) (Some entry) m h in
    let same : entry ≡ m = same_some entry m both.1 in
    let lt : entry.limit < reading = ltb-true (tag.time + slack) reading both.0 in
    record {
      actor = ap (λ (x : Miss). x.actor) (sym same);
      tag = ap (λ (x : Miss). x.tag) (sym same);
      reading = ap (λ (x : Miss). x.reading) (sym same);
      limit = ap (λ (x : Miss). x.limit) (sym same);
      past = subst (λ (x : Miss). x.limit < reading) same lt;
    }

past_from : (reading actor : ℕ) (tag : Tag) (slack : ℕ) (m : Miss) → Says m reading actor tag slack → miss_past reading actor tag slack ≡ Some m
past_from reading actor tag slack m says =
    let entry : Miss = record { actor = actor; tag = tag; reading = reading; limit = tag.time + slack } in
    let lt : tag.time + slack < reading = subst (λ n. n < reading) says.limit says.past in
    let same : m ≡ entry = λ i. record { actor = says.actor i; tag = says.tag i; reading = says.reading i; limit = says.limit i } in
    when-true (nat_lt (tag.time + slack) reading) (Some entry) (lt-ltb (tag.time + slack) reading lt) ∙ ap Some (sym same)

-- results
by_actuator : (kind : Kind) (reading : ℕ) (task : Task) (m : Miss) → miss_by kind reading task ≡ Some m → (slack : ℕ) × (kind ≡ Actuator slack) × (miss_past reading task.actor task.tag slack ≡ Some m)
by_actuator (Actuator slack) reading task m h = (slack, refl, h)
by_actuator _ reading task m h = absurd (none_some m h)

-- messages
record IsOn (g : Graph) (reading : ℕ) (o : Option Link) (message : Message) (m : Miss) : Type 0 where
  link : Link
  tag : Tag
  value : ℤ
  at : o ≡ Some link
  event : message ≡ Event tag value
  past : miss_past reading link.from tag (slack_of (kind_of g link.from)) ≡ Some m

on_link : (g : Graph) (reading : ℕ) (o : Option Link) (message : Message) (m : Miss) → miss_on g reading o message ≡ Some m → IsOn g reading o message m
on_link g reading (Some link) (Event tag value) m h = record { link = link; tag = tag; value = value; at = refl; event = refl; past = h }
on_link g reading (Some link) End m h = absurd (none_some m h)
on_link g reading None (Event tag value) m h = absurd (none_some m h)
on_link g reading None End m h = absurd (none_some m h)

-- one turn
pub in_turn : (g : Graph) (turn : Turn) (m : Miss) → IsIn m (missed_at g turn) → (m.reading ≡ turn.last) × IsMissed g turn m.actor m.tag m.limit
in_turn g turn m h =
    ⊎_elim
    (λ (of_result : IsIn m (filter_map (miss_of_result g turn.last) turn.posted)).
    let found = in_filter_map (miss_of_result g turn.last) turn.posted m of_result in
    let is = by_actuator (kind_of g found.0.task.actor) turn.last found.0.task m found.2 in
    let says = past_says turn.last found.0.task.actor found.0.task.tag is.0 m is.2 in (
      says.reading,
      (
        inl (
          found.0,
          found.1,
          sym says.actor,
          sym says.tag,
          (
            is.0,
            ap (kind_of g) says.actor ∙ is.1,
            says.limit ∙ ap (λ (t : Tag). t.time + is.0) (sym says.tag),
          ),
        ),
        says.past,
      ),
    ))
    (λ (of_message : IsIn m (filter_map (miss_of_message g turn.last) turn.sent)).
    let found = in_filter_map (miss_of_message g turn.last) turn.sent m of_message in
    let is = on_link g turn.last (slice_get g.links found.0.link) found.0.message m found.2 in
    let says = past_says turn.last is.link.from is.tag (slack_of (kind_of g is.link.from)) m is.past in
    let event : found.0.message ≡ Event m.tag is.value = is.event ∙ ap (λ t. Event t is.value) (sym says.tag) in
    let sent : found.0 ≡ record { link = found.0.link; message = Event m.tag is.value } = λ i. record { link = found.0.link; message = event i } in (
      says.reading,
      (
        inr (
          found.0.link,
          is.value,
          is.link,
          subst (λ x. IsIn x turn.sent) sent found.1,
          is.at,
          sym says.actor,
          says.limit ∙ ap (λ (t : Tag). t.time + slack_of (kind_of g is.link.from)) (sym says.tag) ∙ ap (λ a. m.tag.time + slack_of (kind_of g a)) (sym says.actor),
        ),
        says.past,
      ),
    ))
    (IsIn-append m (filter_map (miss_of_result g turn.last) turn.posted) (filter_map (miss_of_message g turn.last) turn.sent) h)

pub of_turn : (g : Graph) (turn : Turn) (m : Miss) → m.reading ≡ turn.last → IsMissed g turn m.actor m.tag m.limit → IsIn m (missed_at g turn)
of_turn g turn m reading missed =
    ⊎_elim
    (λ (result : (d : Done) × IsIn d turn.posted × (d.task.actor ≡ m.actor) × (d.task.tag ≡ m.tag) × ((slack : ℕ) × (kind_of g m.actor ≡ Actuator slack) × (m.limit ≡ m.tag.time + slack))).
    let slack : ℕ = result.4.0 in
    let says : Says m turn.last result.0.task.actor result.0.task.tag slack = record {
      actor = sym result.2;
      tag = sym result.3;
      reading = reading;
      limit = result.4.2 ∙ ap (λ (t : Tag). t.time + slack) (sym result.3);
      past = missed.1;
    } in
    IsIn-append_left m (filter_map (miss_of_result g turn.last) turn.posted) (filter_map (miss_of_message g turn.last) turn.sent)
    (filter_map_in (miss_of_result g turn.last) turn.posted result.0 m result.1
    (ap (λ k. miss_by k turn.last result.0.task) (ap (kind_of g) result.2 ∙ result.4.1) ∙ past_from turn.last result.0.task.actor result.0.task.tag slack m says)))
    (λ (sent : (l : ℕ) × (value : ℤ) × (link : Link) × IsIn (record { link = l; message = Event m.tag value }) turn.sent × (slice_get g.links l ≡ Some link) × (link.from ≡ m.actor) × (m.limit ≡ m.tag.time + slack_of (kind_of g m.actor))).
    let link : Link = sent.2 in
    let slack : ℕ = slack_of (kind_of g link.from) in
    let says : Says m turn.last link.from m.tag slack = record {
      actor = sym sent.5;
      tag = refl;
      reading = reading;
      limit = sent.6 ∙ ap (λ a. m.tag.time + slack_of (kind_of g a)) (sym sent.5);
      past = missed.1;
    } in
    IsIn-append_right m (filter_map (miss_of_result g turn.last) turn.posted) (filter_map (miss_of_message g turn.last) turn.sent)
    (filter_map_in (miss_of_message g turn.last) turn.sent (record { link = sent.0; message = Event m.tag sent.1 }) m sent.3
    (ap (λ o. miss_on g turn.last o (Event m.tag sent.1)) sent.4 ∙ past_from turn.last link.from m.tag slack m says)))
    missed.0

pub lists_missed : (g : Graph) (turns : List Turn) → ListsMissed g turns (missed_of g turns)
lists_missed g turns = λ m. (
  λ listed. let found = in_flat_map (missed_at g) turns m listed in let is = in_turn g found.0 m found.2 in (found.0, found.1, is.0, is.1),
  λ is. flat_map_in (missed_at g) turns is.0 m is.1 (of_turn g is.0 m is.2 is.3),
)

-- what was appended for a turn: the misses of its results, and then those of its messages
pub missed_turn : (g : Graph) (o : Option Turn) (dones : List Done) (old mid new : List Miss) → option_map (λ (turn : Turn). turn.posted) o ≡ Some dones
    → AppendsMisses g o (unwrap_or (option_map (λ (turn : Turn). turn.posted) o) []) old mid → AppendsSent g o mid new → option_map (λ (turn : Turn). old ++ missed_at g turn) o ≡ Some new
missed_turn g None dones old mid new there results messages = absurd (none_some dones there)
missed_turn g (Some turn) dones old mid new there results messages =
    ap Some
    (sym (append_assoc old (filter_map (miss_of_result g turn.last) turn.posted) (filter_map (miss_of_message g turn.last) turn.sent))
    ∙ ap (λ l. l ++ filter_map (miss_of_message g turn.last) turn.sent) (sym (results turn.last refl))
    ∙ sym (messages turn refl))

-- a list of no length
pub empty_list : {X : Type 0} (xs : List X) → length xs ≡ 0 → xs ≡ []
empty_list [] h = refl
empty_list (x ∷ xs) h = absurd (omega (arith, h))
