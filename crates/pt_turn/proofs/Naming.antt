-- The late message that a fault names.
use Rattle.std.proofs.Common.{◌≡◌, ℕ, ℤ, ◌+◌, ◌-◌, ◌<◌, List, [], ◌∷◌, ◌++◌, Option, Some, None, length, get_or, pos, refl, sym, ap, ap₂, subst, ◌∙◌, arith, length-append}
use Rattle.std.specs.Prelude.{slice_get}
use Rattle.std.proofs.lemmas.Option.{get_or_from_slice_get}
use Rattle.pt_tags.specs.declared.tag.Tag.{Tag}
use Rattle.pt_tags.specs.declared.message.Message.{Message}
use Rattle.pt_tags.specs.declared.message.Message.TheVariants.{Event, End}
use Rattle.pt_types.specs.declared.graph.Graph.{Graph}
use Rattle.pt_types.specs.declared.graph.Link.{Link}
use Rattle.pt_types.specs.declared.firing.OnLink.{OnLink}
use Rattle.pt_types.specs.Lawful.{IsLawful}
use Rattle.pt_semantics.proofs.LawfulEdges.{wired}
use Rattle.pt_semantics.specs.Bounds.{link_bound}
use Rattle.pt_semantics.proofs.Lookups.{none_some}
use Rattle.pt_offsets.specs.declared.table.Offsets.{Offsets}
use Rattle.pt_offsets.specs.Plans.{AreOffsets}
use Rattle.pt_offsets.specs.Timings.{bound_in}
use Rattle.pt_turn.proofs.Takes.Messages.{bound_is}
use Rattle.pt_turn.specs.Faults.{SomeIsLate}
use Rattle.pt_turn.specs.Running.{LastIsLate}

abbrev pub no_message : OnLink
no_message = record { link = 0; message = Event (record { time = 0; step = 0 }) (pos 0) }

abbrev pub no_link : Link
no_link = record { from = 0; to = 0; delay = 0 }

-- the last member of a list
pub last_at : {X : Type 0} (xs before : List X) (x d : X) → xs ≡ before ++ x ∷ [] → get_or xs (length xs - 1) d ≡ x
last_at xs before x d is =
    let n : length xs ≡ length before + 1 = ap length is ∙ length-append before (x ∷ []) in
    let k : length xs - 1 ≡ length before = omega (arith, n) in
    ap₂ (λ ys j. get_or ys j d) is k ∙ here before x d
  where
    here : {X : Type 0} (before : List X) (x d : X) → get_or (before ++ x ∷ []) (length before) d ≡ x
    here [] x d = refl
    here (y ∷ before) x d = here before x d

-- the tag of an event, and the number that is there
abbrev pub tag_in : Tag → Message → Tag
tag_in d (Event t v) = t
tag_in d End = d

abbrev pub number_in : ℕ → Option ℕ → ℕ
number_in d None = d
number_in d (Some n) = n

pub late_named : (g : Graph) (o : Offsets) (links : List Link) (last : Option ℕ) (messages : List OnLink) (tag : Tag) (value : ℤ) (reading bound : ℕ) → IsLawful g → AreOffsets g o → links ≡ g.links
    → SomeIsLate g last messages → last ≡ Some reading → (get_or messages (length messages - 1) no_message).message ≡ Event tag value
    → bound_in o (get_or links (get_or messages (length messages - 1) no_message).link no_link).to ≡ Some bound
    → LastIsLate g last messages (get_or links (get_or messages (length messages - 1) no_message).link no_link).to tag reading (tag.time + bound)
late_named g o links last messages tag value reading bound lawful offsets are some read event bounded =
    let late = some.4 in
    let here : OnLink = get_or messages (length messages - 1) no_message in
    let is : here ≡ record { link = late.number; message = Event some.1 late.value } = last_at messages late.before (record { link = late.number; message = Event some.1 late.value }) no_message late.ends in
    let tags : tag ≡ some.1 = ap (tag_in tag) (sym event ∙ ap (λ (m : OnLink). m.message) is) in
    let readings : reading ≡ some.2 = ap (number_in reading) (sym read ∙ late.read) in
    let link : get_or links here.link no_link ≡ late.link = ap₂ (λ ls k. get_or ls k no_link) are (ap (λ (m : OnLink). m.link) is) ∙ get_or_from_slice_get g.links late.number late.link no_link late.at in
    let bounds : bound ≡ link_bound g late.link = ap (number_in bound) (sym bounded ∙ ap (λ (l : Link). bound_in o l.to) link ∙ bound_is g o late.number late.link (wired g lawful) offsets late.at) in
    let limit : tag.time + bound ≡ some.3 = ap₂ (λ (t : Tag) n. t.time + n) tags bounds ∙ sym late.limit_is in
    record {
      number = here.link;
      value = value;
      before = late.before;
      ends = late.ends ∙ ap (λ (m : OnLink). late.before ++ m ∷ []) (sym is) ∙ ap (λ m. late.before ++ record { link = here.link; message = m } ∷ []) event;
      link = late.link;
      at = subst (λ n. slice_get g.links n ≡ Some late.link) (sym (ap (λ (m : OnLink). m.link) is)) late.at;
      receiver = sym (ap (λ (l : Link). l.to) link);
      read = read;
      limit_is = ap (λ n. tag.time + n) bounds;
      past = subst (λ n. n < reading) (sym limit) (subst (λ n. some.3 < n) (sym readings) late.past);
    }

-- the receiver of the last message has a bound
pub bound_there : (g : Graph) (o : Offsets) (links : List Link) (last : Option ℕ) (messages : List OnLink) → IsLawful g → AreOffsets g o → links ≡ g.links → SomeIsLate g last messages
    → bound_in o (get_or links (get_or messages (length messages - 1) no_message).link no_link).to ≡ None → ⊥
bound_there g o links last messages lawful offsets are some none =
    let late = some.4 in
    let here : OnLink = get_or messages (length messages - 1) no_message in
    let is : here ≡ record { link = late.number; message = Event some.1 late.value } = last_at messages late.before (record { link = late.number; message = Event some.1 late.value }) no_message late.ends in
    let link : get_or links here.link no_link ≡ late.link = ap₂ (λ ls k. get_or ls k no_link) are (ap (λ (m : OnLink). m.link) is) ∙ get_or_from_slice_get g.links late.number late.link no_link late.at in
    none_some (link_bound g late.link) (sym none ∙ ap (λ (l : Link). bound_in o l.to) link ∙ bound_is g o late.number late.link (wired g lawful) offsets late.at)
