-- An actor whose arrays are read apart is that of the whole.
use Rattle.std.proofs.Common.{◌≡◌, ℕ, ℤ, List, bytes_eq, Bool, true, false, ◌&&◌, Option, Some, None, Result, option_map, option_and_then, refl, sym, ap, ◌∙◌}
use Rattle.std.specs.Prelude.{codes, if◌then◌else◌}
use Rattle.serde_json.specs.Data.{Data, null, boolean, number, string, array, object, Members, put}
use Rattle.serde_json.specs.Find.{as_str, get_member}
use Rattle.pt_graph_text.specs.Decoding.{◌>>=◌, only_if, field, whole, has_members}
use Rattle.pt_graph_text.specs.Apart.{hollow, without_items, members_in, list_in, list_at}
use Rattle.pt_graph_text.specs.Inner.{inner_of, kind_with, with_inner}
use Rattle.pt_graph_text.specs.Versions.{is_second}
use Rattle.pt_graph_text.specs.Rows.{list_of, all_decoded, row_text_of}
use Rattle.pt_graph_text.specs.Kinds.{plain_of, sensor_of, send_of, actuator_of, every_of, delay_of, scale_of, shift_of, above_of, merge_of, machine_of, block_of, lanes_of, other_kind_of, number_kind_of, kind_text_of}
use Rattle.pt_graph_text.specs.Documents.{actor_of}
use Rattle.pt_graph_text.specs.declared.version.Version.{Version}
use Rattle.pt_graph_text.specs.declared.kinds.KindText.{KindText}
use Rattle.pt_graph_text.specs.declared.kinds.KindText.TheVariants as kind
use Rattle.pt_graph_text.specs.declared.document.ActorText.{ActorText}
use Rattle.pt_graph_text.specs.declared.document.RowText.{RowText}
use Rattle.pt_graph_text.specs.declared.inner.Inner.{Inner}
use Rattle.pt_graph_text.proofs.Tops.{list_at-put, kept, differ}
use Rattle.pt_graph_text.proofs.Wholes.{SeesNoArray, whole-SeesNoArray, as_str-SeesNoArray, has_members-emptied, field-emptied, get_member-hollow}

-- ---- one member more

abbrev pub made : Option (Result (List RowText) ℕ) → Option (Result (List ℤ) ℕ) → Inner
made r c = record { rows = r; cells = c }

same : {r r' : Option (Result (List RowText) ℕ)} {c c' : Option (Result (List ℤ) ℕ)} → r ≡ r' → c ≡ c' → made r c ≡ made r' c'
same {r' = r'} {c} hr hc = ap (λ x. made x c) hr ∙ ap (λ x. made r' x) hc

module _ (v : Version) (d : Data) (ms : Members) (i : Inner) (was : i ≡ inner_of v ms) where
  pub with_rows : made (list_in (row_text_of v) d) i.cells ≡ inner_of v (put (codes "rows") d ms)
  with_rows = same (sym (list_at-put (row_text_of v) (codes "rows") d ms)) (kept whole _ _ d ms _ (differ (codes "cells") (codes "rows") refl) (ap (λ x. x.cells) was))

  pub with_cells : made i.rows (list_in whole d) ≡ inner_of v (put (codes "cells") d ms)
  with_cells = same (kept (row_text_of v) _ _ d ms _ (differ (codes "rows") (codes "cells") refl) (ap (λ x. x.rows) was)) (sym (list_at-put whole (codes "cells") d ms))

  pub with_other : (key : List ℕ) → (codes "rows" ≡ key → ⊥) → (codes "cells" ≡ key → ⊥) → i ≡ inner_of v (put key d ms)
  with_other key no_rows no_cells = same (kept (row_text_of v) _ _ d ms _ no_rows (ap (λ x. x.rows) was)) (kept whole _ _ d ms _ no_cells (ap (λ x. x.cells) was))

-- ---- a list that was read apart

list_hollow : {A B : Type 0} (f : Data → Option A) (g : List A → B) (d : Data)
    → option_and_then (λ xs. option_map g (option_and_then all_decoded (list_in f d))) (list_of f (hollow d)) ≡ option_map g (list_of f d)
list_hollow f g null = refl
list_hollow f g (boolean b) = refl
list_hollow f g (number n) = refl
list_hollow f g (string s) = refl
list_hollow f g (array ds) = refl
list_hollow f g (object ms) = refl

list_found : {A B : Type 0} (f : Data → Option A) (g : List A → B) (o : Option Data)
    → option_and_then (λ xs. option_map g (option_and_then all_decoded (option_and_then (list_in f) o))) (option_and_then (list_of f) (option_map hollow o)) ≡ option_map g (option_and_then (list_of f) o)
list_found f g None = refl
list_found f g (Some d) = list_hollow f g d

list_apart : {A B : Type 0} (f : Data → Option A) (g : List A → B) (k : List ℕ) (d : Data)
    → option_and_then (λ xs. option_map g (option_and_then all_decoded (list_at f k (members_in d)))) (field (list_of f) k (without_items d)) ≡ option_map g (field (list_of f) k d)
list_apart f g k null = refl
list_apart f g k (boolean b) = refl
list_apart f g k (number n) = refl
list_apart f g k (string s) = refl
list_apart f g k (array ds) = refl
list_apart f g k (object ms) =
    ap (λ o. option_and_then (λ xs. option_map g (option_and_then all_decoded (list_at f k ms))) (option_and_then (list_of f) o)) (get_member-hollow k ms) ∙ list_found f g (get_member k ms)

-- ---- kind by kind

plain_stays : (i : Inner) (k : KindText) → kind_with i k ≡ Some k → (b : Bool) → option_and_then (kind_with i) (only_if b (Some k)) ≡ only_if b (Some k)
plain_stays i k h true = h
plain_stays i k h false = refl

one_stays : {A : Type 0} (i : Inner) (k : A → KindText) → ((x : A) → kind_with i (k x) ≡ Some (k x)) → (b : Bool) (o : Option A)
    → option_and_then (kind_with i) (only_if b (o >>= (λ x. Some (k x)))) ≡ only_if b (o >>= (λ x. Some (k x)))
one_stays i k h true (Some x) = h x
one_stays i k h true None = refl
one_stays i k h false o = refl

two_stay : {A B : Type 0} (i : Inner) (k : A → B → KindText) → ((x : A) (y : B) → kind_with i (k x y) ≡ Some (k x y)) → (b : Bool) (o : Option A) (q : Option B)
    → option_and_then (kind_with i) (only_if b (o >>= (λ x. q >>= (λ y. Some (k x y))))) ≡ only_if b (o >>= (λ x. q >>= (λ y. Some (k x y))))
two_stay i k h true (Some x) (Some y) = h x y
two_stay i k h true (Some x) None = refl
two_stay i k h true None q = refl
two_stay i k h false o q = refl

plain_apart : (i : Inner) (d : Data) (k : KindText) → kind_with i k ≡ Some k → option_and_then (kind_with i) (plain_of k (without_items d)) ≡ plain_of k d
plain_apart i d k h = ap (λ b. option_and_then (kind_with i) (only_if b (Some k))) (has_members-emptied 3 d) ∙ plain_stays i k h (has_members 3 d)

one_apart : {A : Type 0} (f : Data → Option A) → SeesNoArray f → (i : Inner) (d : Data) (n : ℕ) (key : List ℕ) (k : A → KindText) → ((x : A) → kind_with i (k x) ≡ Some (k x))
    → option_and_then (kind_with i) (only_if (has_members n (without_items d)) (field f key (without_items d) >>= (λ x. Some (k x)))) ≡ only_if (has_members n d) (field f key d >>= (λ x. Some (k x)))
one_apart f sees i d n key k h =
    ap (λ b. option_and_then (kind_with i) (only_if b (field f key (without_items d) >>= (λ x. Some (k x))))) (has_members-emptied n d)
    ∙ ap (λ o. option_and_then (kind_with i) (only_if (has_members n d) (o >>= (λ x. Some (k x))))) (field-emptied f sees key d)
    ∙ one_stays i k h (has_members n d) (field f key d)

two_apart : {A B : Type 0} (f : Data → Option A) → SeesNoArray f → (g : Data → Option B) → SeesNoArray g → (i : Inner) (d : Data) (n : ℕ) (key other : List ℕ) (k : A → B → KindText)
    → ((x : A) (y : B) → kind_with i (k x y) ≡ Some (k x y))
    → option_and_then (kind_with i) (only_if (has_members n (without_items d)) (field f key (without_items d) >>= (λ x. field g other (without_items d) >>= (λ y. Some (k x y))))) ≡ only_if (has_members n d) (field f key d >>= (λ x. field g other d >>= (λ y. Some (k x y))))
two_apart f sees g sees_too i d n key other k h =
    ap (λ b. option_and_then (kind_with i) (only_if b (field f key (without_items d) >>= (λ x. field g other (without_items d) >>= (λ y. Some (k x y)))))) (has_members-emptied n d)
    ∙ ap (λ o. option_and_then (kind_with i) (only_if (has_members n d) (o >>= (λ x. field g other (without_items d) >>= (λ y. Some (k x y)))))) (field-emptied f sees key d)
    ∙ ap (λ o. option_and_then (kind_with i) (only_if (has_members n d) (field f key d >>= (λ x. o >>= (λ y. Some (k x y)))))) (field-emptied g sees_too other d)
    ∙ two_stay i k h (has_members n d) (field f key d) (field g other d)

map_then : {A B : Type 0} (g : A → B) (o : Option A) → option_map g o ≡ (o >>= (λ x. Some (g x)))
map_then g None = refl
map_then g (Some x) = refl

rows_then : (i : Inner) (s o : ℤ) (rows : Option (List RowText)) → option_and_then (kind_with i) (rows >>= (λ r. Some (kind.Machine s o r))) ≡ option_and_then (λ r. option_map (kind.Machine s o) (option_and_then all_decoded i.rows)) rows
rows_then i s o None = refl
rows_then i s o (Some r) = refl

cells_then : (i : Inner) (cells : Option (List ℤ)) → option_and_then (kind_with i) (cells >>= (λ c. Some (kind.Lanes c))) ≡ option_and_then (λ c. option_map kind.Lanes (option_and_then all_decoded i.cells)) cells
cells_then i None = refl
cells_then i (Some c) = refl

machine_at : (i : Inner) (b : Bool) (s o : Option ℤ) (left rows : Option (List RowText))
    → ((start outputs : ℤ) → option_and_then (λ r. option_map (kind.Machine start outputs) (option_and_then all_decoded i.rows)) left ≡ option_map (kind.Machine start outputs) rows)
    → option_and_then (kind_with i) (only_if b (s >>= (λ start. o >>= (λ outputs. left >>= (λ r. Some (kind.Machine start outputs r)))))) ≡ only_if b (s >>= (λ start. o >>= (λ outputs. rows >>= (λ r. Some (kind.Machine start outputs r)))))
machine_at i true (Some s) (Some o) left rows h = rows_then i s o left ∙ h s o ∙ map_then (kind.Machine s o) rows
machine_at i true (Some s) None left rows h = refl
machine_at i true None o left rows h = refl
machine_at i false s o left rows h = refl

lanes_at : (i : Inner) (b : Bool) (left cells : Option (List ℤ)) → option_and_then (λ c. option_map kind.Lanes (option_and_then all_decoded i.cells)) left ≡ option_map kind.Lanes cells
    → option_and_then (kind_with i) (only_if b (left >>= (λ c. Some (kind.Lanes c)))) ≡ only_if b (cells >>= (λ c. Some (kind.Lanes c)))
lanes_at i true left cells h = cells_then i left ∙ h ∙ map_then kind.Lanes cells
lanes_at i false left cells h = refl

-- x is known once g is applied to it, and then it is y
record Becomes (g : KindText → Option KindText) (x y : Option KindText) : Type 0 where
  is : option_and_then g x ≡ y

choose : {g : KindText → Option KindText} (b : Bool) {x x' y y' : Option KindText} → Becomes g x x' → Becomes g y y' → Becomes g (if b then x else y) (if b then x' else y')
choose true hx hy = hx
choose false hx hy = hy

module _ (v : Version) (d : Data) where
  abbrev i : Inner
  i = inner_of v (members_in d)

  machine_apart : option_and_then (kind_with i) (machine_of v (without_items d)) ≡ machine_of v d
  unfolding machine_of
  machine_apart =
      let rest = λ (s o : Option ℤ). s >>= (λ start. o >>= (λ outputs. field (list_of (row_text_of v)) (codes "rows") (without_items d) >>= (λ r. Some (kind.Machine start outputs r)))) in
      ap (λ b. option_and_then (kind_with i) (only_if b (rest (field whole (codes "start") (without_items d)) (field whole (codes "outputs") (without_items d))))) (has_members-emptied 6 d)
      ∙ ap (λ s. option_and_then (kind_with i) (only_if (has_members 6 d) (rest s (field whole (codes "outputs") (without_items d))))) (field-emptied whole whole-SeesNoArray (codes "start") d)
      ∙ ap (λ o. option_and_then (kind_with i) (only_if (has_members 6 d) (rest (field whole (codes "start") d) o))) (field-emptied whole whole-SeesNoArray (codes "outputs") d)
      ∙ machine_at i (has_members 6 d) (field whole (codes "start") d) (field whole (codes "outputs") d) (field (list_of (row_text_of v)) (codes "rows") (without_items d)) (field (list_of (row_text_of v)) (codes "rows") d)
      (λ start outputs. list_apart (row_text_of v) (kind.Machine start outputs) (codes "rows") d)

  lanes_apart : option_and_then (kind_with i) (lanes_of v (without_items d)) ≡ lanes_of v d
  unfolding lanes_of
  lanes_apart =
      ap (λ b. option_and_then (kind_with i) (only_if (is_second v && b) (field (list_of whole) (codes "cells") (without_items d) >>= (λ c. Some (kind.Lanes c))))) (has_members-emptied 4 d)
      ∙ lanes_at i (is_second v && has_members 4 d) (field (list_of whole) (codes "cells") (without_items d)) (field (list_of whole) (codes "cells") d) (list_apart whole kind.Lanes (codes "cells") d)

  other_apart : (word : List ℕ) → Becomes (kind_with i) (other_kind_of v word (without_items d)) (other_kind_of v word d)
  unfolding other_kind_of merge_of block_of
  other_apart word =
      choose (bytes_eq word (codes "latch")) (record { is = plain_apart i d kind.Latch refl })
      (choose (bytes_eq word (codes "merge")) (record { is = one_apart whole whole-SeesNoArray i d 4 (codes "n") kind.Merge (λ x. refl) })
      (choose (bytes_eq word (codes "machine")) (record { is = machine_apart })
      (choose (bytes_eq word (codes "block")) (record { is = one_apart as_str as_str-SeesNoArray i d 4 (codes "block") kind.Block (λ x. refl) })
      (choose (bytes_eq word (codes "lanes")) (record { is = lanes_apart }) (record { is = refl })))))

  number_apart : (word : List ℕ) → Becomes (kind_with i) (number_kind_of v word (without_items d)) (number_kind_of v word d)
  unfolding number_kind_of scale_of shift_of above_of
  number_apart word =
      choose (bytes_eq word (codes "scale")) (record { is = two_apart whole whole-SeesNoArray whole whole-SeesNoArray i d 5 (codes "num") (codes "den") kind.Scale (λ x y. refl) })
      (choose (bytes_eq word (codes "shift")) (record { is = one_apart whole whole-SeesNoArray i d 4 (codes "by") kind.Shift (λ x. refl) })
      (choose (bytes_eq word (codes "add")) (record { is = plain_apart i d kind.Add refl })
      (choose (bytes_eq word (codes "sub")) (record { is = plain_apart i d kind.Sub refl })
      (choose (bytes_eq word (codes "above")) (record { is = one_apart whole whole-SeesNoArray i d 4 (codes "limit") kind.Above (λ x. refl) })
      (choose (bytes_eq word (codes "count")) (record { is = plain_apart i d kind.Count refl })
      (choose (bytes_eq word (codes "sum")) (record { is = plain_apart i d kind.Sum refl }) (other_apart word)))))))

  kind_apart : (word : List ℕ) → Becomes (kind_with i) (kind_text_of v word (without_items d)) (kind_text_of v word d)
  unfolding kind_text_of sensor_of send_of actuator_of every_of delay_of
  kind_apart word =
      choose (bytes_eq word (codes "sensor")) (record { is = two_apart as_str as_str-SeesNoArray whole whole-SeesNoArray i d 5 (codes "file") (codes "bound") kind.Sensor (λ x y. refl) })
      (choose (bytes_eq word (codes "receive")) (record { is = plain_apart i d kind.Receive refl })
      (choose (bytes_eq word (codes "send")) (record { is = one_apart whole whole-SeesNoArray i d 4 (codes "slack") kind.Send (λ x. refl) })
      (choose (bytes_eq word (codes "actuator")) (record { is = one_apart whole whole-SeesNoArray i d 4 (codes "slack") kind.Actuator (λ x. refl) })
      (choose (bytes_eq word (codes "every")) (record { is = two_apart whole whole-SeesNoArray whole whole-SeesNoArray i d 5 (codes "start") (codes "period") kind.Every (λ x y. refl) })
      (choose (bytes_eq word (codes "delay")) (record { is = one_apart whole whole-SeesNoArray i d 4 (codes "d") kind.Delay (λ x. refl) }) (number_apart word))))))

-- ---- the actor

abbrev named : List ℕ → List ℕ → KindText → ActorText
named n p k = record { name = n; platform = p; kind = k }

abbrev actor_from : Option (List ℕ) → Option (List ℕ) → Option (List ℕ) → (List ℕ → Option KindText) → Option ActorText
actor_from w n p k = w >>= (λ word. n >>= (λ name. p >>= (λ platform. k word >>= (λ known. Some (named name platform known)))))

known_then : (i : Inner) (n p : List ℕ) (o : Option KindText) → option_and_then (with_inner i) (o >>= (λ known. Some (named n p known))) ≡ (option_and_then (kind_with i) o >>= (λ known. Some (named n p known)))
known_then i n p None = refl
known_then i n p (Some k) = map_then (named n p) (kind_with i k)

actor_then : (i : Inner) (k k' : List ℕ → Option KindText) → ((word : List ℕ) → option_and_then (kind_with i) (k word) ≡ k' word) → (w n p : Option (List ℕ))
    → option_and_then (with_inner i) (actor_from w n p k) ≡ actor_from w n p k'
actor_then i k k' h (Some w) (Some n) (Some p) = known_then i n p (k w) ∙ ap (λ o. o >>= (λ known. Some (named n p known))) (h w)
actor_then i k k' h (Some w) (Some n) None = refl
actor_then i k k' h (Some w) None p = refl
actor_then i k k' h None n p = refl

pub actor_apart : (v : Version) (d : Data) → option_and_then (with_inner (inner_of v (members_in d))) (actor_of v (without_items d)) ≡ actor_of v d
unfolding actor_of
actor_apart v d =
    let k = λ (word : List ℕ). kind_text_of v word (without_items d) in
    let i = inner_of v (members_in d) in
    ap (λ w. option_and_then (with_inner i) (actor_from w (field as_str (codes "name") (without_items d)) (field as_str (codes "platform") (without_items d)) k)) (field-emptied as_str as_str-SeesNoArray (codes "kind") d)
    ∙ ap (λ n. option_and_then (with_inner i) (actor_from (field as_str (codes "kind") d) n (field as_str (codes "platform") (without_items d)) k)) (field-emptied as_str as_str-SeesNoArray (codes "name") d)
    ∙ ap (λ p. option_and_then (with_inner i) (actor_from (field as_str (codes "kind") d) (field as_str (codes "name") d) p k)) (field-emptied as_str as_str-SeesNoArray (codes "platform") d)
    ∙ actor_then i k (λ word. kind_text_of v word d) (λ word. (kind_apart v d word).is) (field as_str (codes "kind") d) (field as_str (codes "name") d) (field as_str (codes "platform") d)

pub actor_known : (v : Version) (d left : Data) (i : Inner) (actor : ActorText) → left ≡ without_items d → i ≡ inner_of v (members_in d) → actor_of v left ≡ Some actor → with_inner i actor ≡ actor_of v d
actor_known v d left i actor without apart known =
    ap (option_and_then (with_inner i)) (sym known) ∙ ap (λ l. option_and_then (with_inner i) (actor_of v l)) without ∙ ap (λ x. option_and_then (with_inner x) (actor_of v (without_items d))) apart ∙ actor_apart v d

pub actor_unknown : (v : Version) (d left : Data) (i : Inner) → left ≡ without_items d → i ≡ inner_of v (members_in d) → actor_of v left ≡ None → None ≡ actor_of v d
actor_unknown v d left i without apart unknown =
    ap (option_and_then (with_inner i)) (sym unknown) ∙ ap (λ l. option_and_then (with_inner i) (actor_of v l)) without ∙ ap (λ x. option_and_then (with_inner x) (actor_of v (without_items d))) apart ∙ actor_apart v d
