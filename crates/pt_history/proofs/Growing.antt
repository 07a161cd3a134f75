-- What one more turn, and one more member of a list of the last turn, makes of the turns.
use Rattle.std.proofs.Common.{◌≡◌, ℕ, zero, suc, ◌+◌, ◌-◌, ◌<◌, List, [], ◌∷◌, ◌++◌, length, get_or, refl, ap, ap₂, ◌∙◌, arith}
use Rattle.std.proofs.lemmas.List.{get_or_past}
use Rattle.pt_types.specs.declared.firing.Done.{Done}
use Rattle.pt_types.specs.declared.firing.OnLink.{OnLink}
use Rattle.pt_types.specs.declared.firing.Task.{Task}
use Rattle.pt_types.specs.declared.rows.RowAt.{RowAt}
use Rattle.pt_history.specs.Lists.{RoomyLists, on_last}
use Rattle.pt_history.proofs.LastMember.{at_last, before_last, length-on_last}
use Rattle.pt_semantics.specs.Turn.{Turn}
use Rattle.pt_history.specs.declared.head.Head.{Head}
use Rattle.pt_history.specs.Keeping.{HasRoomFor, Lists, turn_at, turns_from}
use Rattle.pt_history.specs.Turns.{claiming, entering, posting, quiet, sending, taking}

-- lists that differ at the last turn alone
turns_last : (f : Turn → Turn) (p q : Lists) (i n : ℕ) (hs : List Head) → i + length hs ≡ n
    → ((j : ℕ) (h : Head) → j + 1 < n → turn_at q j h ≡ turn_at p j h)
    → ((j : ℕ) (h : Head) → j + 1 ≡ n → turn_at q j h ≡ f (turn_at p j h))
    → turns_from q i hs ≡ on_last f (turns_from p i hs)
turns_last f p q i n [] e before last = refl
turns_last f p q i n (h ∷ []) e before last = ap (λ t. t ∷ []) (last i h (omega arith))
turns_last f p q i n (h ∷ k ∷ hs) e before last = ap₂ (λ t ts. t ∷ ts) (before i h (omega arith)) (turns_last f p q (i + 1) n (k ∷ hs) (omega arith) before last)

pub posted_last : (p : Lists) (dones : List Done) (new : List (List Done)) (hs : List Head) → length p.posted ≡ length hs → new ≡ on_last (λ (l : List Done). l ++ dones) p.posted → turns_from (record p { posted = new }) 0 hs ≡ on_last (posting dones) (turns_from p 0 hs)
posted_last p dones new hs e is =
    ap (λ (l : List (List Done)). turns_from (record p { posted = l }) 0 hs) is
    ∙ turns_last (posting dones) p (record p { posted = on_last (λ (l : List Done). l ++ dones) p.posted }) 0 (length hs) hs (omega arith)
    (λ j h lt. ap (λ (l : List Done). record (turn_at p j h) { posted = l }) (before_last (λ (l : List Done). l ++ dones) p.posted j [] (omega arith)))
    (λ j h eq. ap (λ (l : List Done). record (turn_at p j h) { posted = l }) (at_last (λ (l : List Done). l ++ dones) p.posted j [] (omega arith)))

pub rows_last : (p : Lists) (more : List RowAt) (new : List (List RowAt)) (hs : List Head) → length p.rows ≡ length hs → new ≡ on_last (λ (l : List RowAt). l ++ more) p.rows → turns_from (record p { rows = new }) 0 hs ≡ on_last (entering more) (turns_from p 0 hs)
rows_last p more new hs e is =
    ap (λ (l : List (List RowAt)). turns_from (record p { rows = l }) 0 hs) is
    ∙ turns_last (entering more) p (record p { rows = on_last (λ (l : List RowAt). l ++ more) p.rows }) 0 (length hs) hs (omega arith)
    (λ j h lt. ap (λ (l : List RowAt). record (turn_at p j h) { rows = l }) (before_last (λ (l : List RowAt). l ++ more) p.rows j [] (omega arith)))
    (λ j h eq. ap (λ (l : List RowAt). record (turn_at p j h) { rows = l }) (at_last (λ (l : List RowAt). l ++ more) p.rows j [] (omega arith)))

pub taken_last : (p : Lists) (messages : List OnLink) (new : List (List OnLink)) (hs : List Head) → length p.taken ≡ length hs → new ≡ on_last (λ (l : List OnLink). l ++ messages) p.taken → turns_from (record p { taken = new }) 0 hs ≡ on_last (taking messages) (turns_from p 0 hs)
taken_last p messages new hs e is =
    ap (λ (l : List (List OnLink)). turns_from (record p { taken = l }) 0 hs) is
    ∙ turns_last (taking messages) p (record p { taken = on_last (λ (l : List OnLink). l ++ messages) p.taken }) 0 (length hs) hs (omega arith)
    (λ j h lt. ap (λ (l : List OnLink). record (turn_at p j h) { taken = l }) (before_last (λ (l : List OnLink). l ++ messages) p.taken j [] (omega arith)))
    (λ j h eq. ap (λ (l : List OnLink). record (turn_at p j h) { taken = l }) (at_last (λ (l : List OnLink). l ++ messages) p.taken j [] (omega arith)))

pub claimed_last : (p : Lists) (tasks : List Task) (new : List (List Task)) (hs : List Head) → length p.claimed ≡ length hs → new ≡ on_last (λ (l : List Task). l ++ tasks) p.claimed → turns_from (record p { claimed = new }) 0 hs ≡ on_last (claiming tasks) (turns_from p 0 hs)
claimed_last p tasks new hs e is =
    ap (λ (l : List (List Task)). turns_from (record p { claimed = l }) 0 hs) is
    ∙ turns_last (claiming tasks) p (record p { claimed = on_last (λ (l : List Task). l ++ tasks) p.claimed }) 0 (length hs) hs (omega arith)
    (λ j h lt. ap (λ (l : List Task). record (turn_at p j h) { claimed = l }) (before_last (λ (l : List Task). l ++ tasks) p.claimed j [] (omega arith)))
    (λ j h eq. ap (λ (l : List Task). record (turn_at p j h) { claimed = l }) (at_last (λ (l : List Task). l ++ tasks) p.claimed j [] (omega arith)))

pub sent_last : (p : Lists) (messages : List OnLink) (new : List (List OnLink)) (hs : List Head) → length p.sent ≡ length hs → new ≡ on_last (λ (l : List OnLink). l ++ messages) p.sent → turns_from (record p { sent = new }) 0 hs ≡ on_last (sending messages) (turns_from p 0 hs)
sent_last p messages new hs e is =
    ap (λ (l : List (List OnLink)). turns_from (record p { sent = l }) 0 hs) is
    ∙ turns_last (sending messages) p (record p { sent = on_last (λ (l : List OnLink). l ++ messages) p.sent }) 0 (length hs) hs (omega arith)
    (λ j h lt. ap (λ (l : List OnLink). record (turn_at p j h) { sent = l }) (before_last (λ (l : List OnLink). l ++ messages) p.sent j [] (omega arith)))
    (λ j h eq. ap (λ (l : List OnLink). record (turn_at p j h) { sent = l }) (at_last (λ (l : List OnLink). l ++ messages) p.sent j [] (omega arith)))

-- more items in the last list take their places of the room
pub fits_extend : {X : Type 0} (turns more_turns items : ℕ) (old new : RoomyLists X) (more : List X) → HasRoomFor turns more_turns items old → new.lists ≡ on_last (λ (l : List X). l ++ more) old.lists → new.spare_items + length more ≡ old.spare_items → new.spare_lists ≡ old.spare_lists → HasRoomFor turns more_turns (items - length more) new
fits_extend {X = X} turns more_turns items old new more fits lists spare_items spare_lists = record {
  lists = ap length lists ∙ length-on_last (λ (l : List X). l ++ more) old.lists ∙ fits.lists;
  turns_fit = omega (arith, spare_lists, fits.turns_fit);
  items_fit = omega (arith, spare_items, fits.items_fit);
}

-- one turn more
pub get_more : {X : Type 0} (lists : List (List X)) (j : ℕ) → get_or (lists ++ [] ∷ []) j [] ≡ get_or lists j []
get_more [] zero = refl
get_more [] (suc j) = refl
get_more (l ∷ lists) zero = refl
get_more (l ∷ lists) (suc j) = get_more lists j

abbrev begun : Lists → Lists
begun p = record { posted = p.posted ++ [] ∷ []; rows = p.rows ++ [] ∷ []; taken = p.taken ++ [] ∷ []; claimed = p.claimed ++ [] ∷ []; sent = p.sent ++ [] ∷ [] }

begun_at : (p : Lists) (j : ℕ) (h : Head) → turn_at (begun p) j h ≡ turn_at p j h
begun_at p j h =
    ap (λ l. record (turn_at (begun p) j h) { posted = l }) (get_more p.posted j)
    ∙ ap (λ l. record (turn_at (begun p) j h) { posted = get_or p.posted j []; rows = l }) (get_more p.rows j)
    ∙ ap (λ l. record (turn_at (begun p) j h) { posted = get_or p.posted j []; rows = get_or p.rows j []; taken = l }) (get_more p.taken j)
    ∙ ap (λ l. record (turn_at p j h) { claimed = l; sent = get_or (p.sent ++ [] ∷ []) j [] }) (get_more p.claimed j)
    ∙ ap (λ l. record (turn_at p j h) { sent = l }) (get_more p.sent j)

begun_from : (p : Lists) (i n : ℕ) (hs : List Head) (h : Head) → i + length hs ≡ n → turns_from (begun p) i (hs ++ h ∷ []) ≡ turns_from p i hs ++ turn_at p n h ∷ []
begun_from p i n [] h e = let same : i ≡ n = omega arith in ap (λ t. t ∷ []) (begun_at p i h ∙ ap (λ k. turn_at p k h) same)
begun_from p i n (x ∷ hs) h e = ap₂ (λ t ts. t ∷ ts) (begun_at p i x) (begun_from p (i + 1) n hs h (omega arith))

pub past : {X : Type 0} (lists : List (List X)) (n : ℕ) → length lists ≡ n → get_or lists n [] ≡ []
past lists n e = get_or_past lists n [] (omega arith)

pub record IsBegun (p q : Lists) : Type 0 where
  pub posted : q.posted ≡ p.posted ++ [] ∷ []
  pub rows : q.rows ≡ p.rows ++ [] ∷ []
  pub taken : q.taken ≡ p.taken ++ [] ∷ []
  pub claimed : q.claimed ≡ p.claimed ++ [] ∷ []
  pub sent : q.sent ≡ p.sent ++ [] ∷ []

pub record AreAll (p : Lists) (n : ℕ) : Type 0 where
  pub posted : length p.posted ≡ n
  pub rows : length p.rows ≡ n
  pub taken : length p.taken ≡ n
  pub claimed : length p.claimed ≡ n
  pub sent : length p.sent ≡ n

quiet_past : (p : Lists) (n : ℕ) (h : Head) → AreAll p n → turn_at p n h ≡ quiet h.first h.last h.count
quiet_past p n h all =
    ap (λ l. record (turn_at p n h) { posted = l }) (past p.posted n all.posted)
    ∙ ap (λ l. record (turn_at p n h) { posted = []; rows = l }) (past p.rows n all.rows)
    ∙ ap (λ l. record (turn_at p n h) { posted = []; rows = []; taken = l }) (past p.taken n all.taken)
    ∙ ap (λ l. record (quiet h.first h.last h.count) { claimed = l; sent = get_or p.sent n [] }) (past p.claimed n all.claimed)
    ∙ ap (λ l. record (quiet h.first h.last h.count) { sent = l }) (past p.sent n all.sent)

is_begun : (p q : Lists) → IsBegun p q → q ≡ begun p
is_begun p q is =
    ap (λ l. record q { posted = l }) is.posted
    ∙ ap (λ l. record q { posted = p.posted ++ [] ∷ []; rows = l }) is.rows
    ∙ ap (λ l. record q { posted = p.posted ++ [] ∷ []; rows = p.rows ++ [] ∷ []; taken = l }) is.taken
    ∙ ap (λ l. record (begun p) { claimed = l; sent = q.sent }) is.claimed
    ∙ ap (λ l. record (begun p) { sent = l }) is.sent

pub turns_begin : (p q : Lists) (hs : List Head) (h : Head) → AreAll p (length hs) → IsBegun p q → turns_from q 0 (hs ++ h ∷ []) ≡ turns_from p 0 hs ++ quiet h.first h.last h.count ∷ []
turns_begin p q hs h all is =
    ap (λ l. turns_from l 0 (hs ++ h ∷ [])) (is_begun p q is)
    ∙ begun_from p 0 (length hs) hs h (omega arith)
    ∙ ap (λ t. turns_from p 0 hs ++ t ∷ []) (quiet_past p (length hs) h all)
