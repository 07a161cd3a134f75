-- One message more on a link.
use Rattle.std.proofs.Common.{◌≡◌, ℕ, List, [], ◌∷◌, ◌++◌, Some, length, refl}
use Rattle.pt_tags.specs.declared.message.Message.TheVariants.{End, Event}
use Rattle.pt_tags.specs.declared.message.Message.{Message}
use Rattle.pt_types.specs.declared.graph.Graph.{Graph}
use Rattle.pt_types.specs.declared.graph.Link.{Link}
use Rattle.pt_semantics.specs.Lists.{Each}
use Rattle.pt_semantics.specs.Orderly.{ComesAfter, FitsStep, InOrder, IsOrderly}
use Rattle.pt_semantics.proofs.Lookups.{Each-append}
use Rattle.pt_semantics.proofs.Tags.{Before-trans}
use Rattle.pt_audit.specs.Remaking.Lasts.{last_of}
use Rattle.pt_audit.specs.Remaking.Steps.{ComesAfterLast}

pub last_pushed : (ms : List Message) (m : Message) → last_of (ms ++ m ∷ []) ≡ Some m
last_pushed [] m = refl
last_pushed (x ∷ []) m = refl
last_pushed (x ∷ y ∷ ms) m = last_pushed (y ∷ ms) m

after_both : (x y m : Message) → ComesAfter x y → ComesAfter y m → ComesAfter x m
after_both End y m h k = absurd h
after_both (Event t v) End m h k = absurd k
after_both (Event t v) (Event u w) End h k = tt
after_both (Event t v) (Event u w) (Event o z) h k = Before-trans t u o h k

-- what may come after the last of some messages that come after x may come after x
after_last : (x y : Message) (ms : List Message) (m : Message) → Each (ComesAfter x) (y ∷ ms) → ComesAfterLast (last_of (y ∷ ms)) m → ComesAfter x m
after_last x y [] m h k = after_both x y m h.0 k
after_last x y (z ∷ ms) m h k = after_last x z ms m h.1 k

order_push : (ms : List Message) (m : Message) → InOrder ms → ComesAfterLast (last_of ms) m → InOrder (ms ++ m ∷ [])
order_push [] m h k = (tt, tt)
order_push (x ∷ []) m h k = ((k, tt), (tt, tt))
order_push (x ∷ y ∷ ms) m h k = (Each-append (ComesAfter x) (y ∷ ms) (m ∷ []) h.0 (after_last x y ms m h.0 k, tt), order_push (y ∷ ms) m h.1 k)

order_last : (ms : List Message) (m : Message) → InOrder (ms ++ m ∷ []) → ComesAfterLast (last_of ms) m
order_last [] m h = tt
order_last (x ∷ []) m h = h.0.0
order_last (x ∷ y ∷ ms) m h = order_last (y ∷ ms) m h.1

each_front : {X : Type 0} (P : X → Type 0) (xs ys : List X) → Each P (xs ++ ys) → Each P xs
each_front P [] ys h = tt
each_front P (x ∷ xs) ys h = (h.0, each_front P xs ys h.1)

order_front : (xs ys : List Message) → InOrder (xs ++ ys) → InOrder xs
order_front [] ys h = tt
order_front (x ∷ xs) ys h = (each_front (ComesAfter x) xs ys h.0, order_front xs ys h.1)

pub orderly_front : (g : Graph) (level : ℕ → ℕ) (link : Link) (xs ys : List Message) → IsOrderly g level link (xs ++ ys) → IsOrderly g level link xs
orderly_front g level link xs ys h = (order_front xs ys h.0, each_front (FitsStep g.until (length g.actors) (level link.to)) xs ys h.1)

pub orderly_push : (g : Graph) (level : ℕ → ℕ) (link : Link) (ms : List Message) (m : Message) → IsOrderly g level link ms → ComesAfterLast (last_of ms) m → FitsStep g.until (length g.actors) (level link.to) m → IsOrderly g level link (ms ++ m ∷ [])
orderly_push g level link ms m h after fits = (order_push ms m h.0 after, Each-append (FitsStep g.until (length g.actors) (level link.to)) ms (m ∷ []) h.1 (fits, tt))

each_last : {X : Type 0} (P : X → Type 0) (xs : List X) (x : X) → Each P (xs ++ x ∷ []) → P x
each_last P [] x h = h.0
each_last P (y ∷ xs) x h = each_last P xs x h.1

pub orderly_last : (g : Graph) (level : ℕ → ℕ) (link : Link) (ms : List Message) (m : Message) → IsOrderly g level link (ms ++ m ∷ []) → ComesAfterLast (last_of ms) m × FitsStep g.until (length g.actors) (level link.to) m
orderly_last g level link ms m h = (order_last ms m h.0, each_last (FitsStep g.until (length g.actors) (level link.to)) ms m h.1)
