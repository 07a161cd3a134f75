-- The linked platform of one platform.
use Rattle.std.proofs.Common.{◌≡◌, ℕ, ◌+◌, ◌<◌, List, [], ◌∷◌, ◌++◌, None, Some, Option, false, length, get_or, map, refl, sym, ap, subst, ◌∙◌, arith, append_assoc, add-one}
use mathlib.Core.List.{reverse, reverse-append}
use Rattle.std.specs.Prelude.{slice_get}
use Rattle.std.proofs.lemmas.Option.{slice_get_within}
use Rattle.pt_io.specs.Clocks.{AreAsAhead}
use Rattle.pt_io.proofs.Stepping.{none_handed}
use Rattle.pt_types.specs.declared.graph.Graph.{Graph}
use Rattle.pt_types.specs.declared.graph.Link.{Link}
use Rattle.pt_types.specs.declared.rows.Row.{Row}
use Rattle.pt_types.specs.Lookups.{platform_of}
use Rattle.pt_semantics.specs.Linked.{all_sent}
use Rattle.pt_semantics.specs.Closing.{on_link}
use Rattle.pt_semantics.specs.Readings.{IsReadBy}
use Rattle.pt_semantics.specs.Turn.{Turn}
use Rattle.pt_offsets.specs.Plans.{Parts}
use Rattle.pt_turn.specs.Platforms.{PlatformView, messages_of, rows_at}
use Rattle.pt_links.specs.declared.rule.Bounds.{Bounds}
use Rattle.pt_links.specs.Ends.{LinkId, SentBy, TakenBy}
use Rattle.pt_links.specs.Line.{IsOrderlyBy}
use Rattle.pt_pool.specs.Ends.{AreEnds, AreNamed, End, end_in, end_out, leaves, limits_at, receiving_platform}
use Rattle.pt_pool.specs.LinkedPlatform.{AreRead, IsOfRun, LinkedPlatformView}
use Rattle.pt_pool.proofs.Lanes.{get_here, get_map, got_map, same_some}
use Rattle.pt_workers.specs.Working.Orders.{count_up, numbers}
use Rattle.pt_workers.specs.LinkEnds.Places.{AreCollected, IsElsewhere, PlaceIsFull}
use Rattle.pt_workers.specs.Opened.{AreNamedBy, AreOpenEnds, AreOwners}

-- what owners below n have is still in its place
abbrev pub AreLeft : {X : Type 0} → List ℕ → ℕ → List (Option X) → List (Option X) → Type 0
AreLeft {X} owners n old now = (l o : ℕ) → slice_get owners l ≡ Some o → o < n → slice_get now l ≡ slice_get old l

pub left_after : {X : Type 0} (owners : List ℕ) (m n : ℕ) (old now new : List (Option X)) → m + 1 ≡ n → AreLeft owners n old now → ((l : ℕ) → IsElsewhere owners m l → slice_get new l ≡ slice_get now l) → AreLeft owners m old new
left_after owners m n old now new one left others l o at lt =
    others l (λ e. let q = same_some o m (sym at ∙ e) in omega (arith, q, lt)) ∙ left l o at (omega (arith, one, lt))

some_at : {A : Type 0} (xs : List A) (k : ℕ) → k < length xs → (x : A) × (slice_get xs k ≡ Some x)
some_at [] k lt = absurd (omega (arith, lt))
some_at (x ∷ xs) k lt = (get_or (x ∷ xs) k x, get_here (x ∷ xs) k x lt)

pub full_at : {X : Type 0} (owners : List ℕ) (m n k : ℕ) (old now : List (Option X)) → m + 1 ≡ n → AreLeft owners n old now → length owners ≡ k → ((l : ℕ) → l < k → PlaceIsFull old l) → (l : ℕ) → slice_get owners l ≡ Some m → PlaceIsFull now l
full_at owners m n k old now one left count full l at =
    let w = slice_get_within owners l m at in
    let f = full l (omega (arith, w, count)) in
    (f.0, left l m at (omega (arith, one)) ∙ f.1)

-- what was collected, by owners and an owner with other names
pub collected_as : {X : Type 0} (xs ys : List ℕ) (n m : ℕ) (places : List (Option X)) (things : List (ℕ × X)) → xs ≡ ys → n ≡ m → AreCollected xs n (length xs) places things → AreCollected ys m (length ys) places things
collected_as xs ys n m places things owners owner c = subst (λ (k : ℕ). AreCollected ys k (length ys) places things) owner (subst (λ (zs : List ℕ). AreCollected zs n (length zs) places things) owners c)

pub owner_as : (xs ys : List ℕ) (n m l : ℕ) → xs ≡ ys → n ≡ m → slice_get xs l ≡ Some n → slice_get ys l ≡ Some m
owner_as xs ys n m l owners owner at = ap (λ (zs : List ℕ). slice_get zs l) (sym owners) ∙ at ∙ ap Some owner

-- what was collected by owners are the ends of one platform
module _ {X : Type 0} (end_of : ℕ × X → End) (named : (p : ℕ × X) → (end_of p).number ≡ p.0) (plan : Parts) (side : Graph → Link → ℕ) (n : ℕ) (owners : List ℕ) (own : AreOwners plan.graph side (length plan.graph.links) owners)
    (places : List (Option X)) (things : List (ℕ × X)) (c : AreCollected owners n (length owners) places things)
    (limits : (l : ℕ) (x : X) → slice_get owners l ≡ Some n → slice_get places l ≡ Some (Some x) → (end_of (l, x)).limits ≡ limits_at plan l) where
  pub collected_ends : AreEnds plan side n (map end_of things)
  collected_ends = record {
    apart = λ i j a b at_a at_b q.
        let p = got_map end_of things i a at_a in
        let r = got_map end_of things j b at_b in
        c.distinct i j p.0 r.0 p.1 r.1 (sym (named p.0) ∙ ap (λ (z : End). z.number) p.2 ∙ q ∙ sym (ap (λ (z : End). z.number) r.2) ∙ named r.0);
    own = λ i e at.
        let p = got_map end_of things i e at in
        let w = slice_get_within owners p.0.0 n (c.own i p.0 p.1) in
        let lt : p.0.0 < length plan.graph.links = omega (arith, w, own.count) in
        let k = some_at plan.graph.links p.0.0 lt in
        let num : p.0.0 ≡ e.number = sym (named p.0) ∙ ap (λ (z : End). z.number) p.2 in
        (k.0, subst (λ (l : ℕ). slice_get plan.graph.links l ≡ Some k.0) num k.1, same_some (side plan.graph k.0) n (sym (own.each p.0.0 k.0 lt k.1) ∙ c.own i p.0 p.1));
    limits = λ i e at.
        let p = got_map end_of things i e at in
        let num : p.0.0 ≡ e.number = sym (named p.0) ∙ ap (λ (z : End). z.number) p.2 in
        sym (ap (λ (z : End). z.limits) p.2) ∙ limits p.0.0 p.0.1 (c.own i p.0 p.1) (c.from i p.0 p.1) ∙ ap (limits_at plan) num;
    each = λ l link at home.
        let w = slice_get_within plan.graph.links l link at in
        let t = c.each l (omega (arith, w, own.count)) (own.each l link w at ∙ ap Some home) in
        (t.0, end_of t.1, get_map end_of things t.0 t.1 t.2, named t.1 ∙ t.3);
  }

nothing_orderly : (limits : Option Bounds) → IsOrderlyBy limits []
nothing_orderly None = tt
nothing_orderly (Some b) = (tt, tt)

none_ahead : (ahead : Option (ℕ → ℕ)) (reported : Option (List ℕ)) → AreAsAhead ahead reported reported []
none_ahead None readings = tt
none_ahead (Some f) None = λ e. tt
none_ahead (Some f) (Some all) = λ e. refl

-- a clock from which nothing was read, and a platform that made no turn
none_read : (ahead : Option (ℕ → ℕ)) (reported : Option (List ℕ)) (turns : List Turn) → turns ≡ [] → AreRead ahead reported reported turns
none_read ahead reported turns none = ([], none_handed reported, none_ahead ahead reported, subst (λ (ts : List Turn). IsReadBy ts []) (sym none) refl)

module _ (plan : Parts) (whole : Option Parts) (whole_is : whole ≡ Some plan) (rows : ℕ → List Row) (link : ℕ → LinkId) (all_outs : List (Option SentBy)) (all_ins : List (Option TakenBy)) (opened : AreOpenEnds plan (length plan.graph.links) all_outs all_ins) (names : AreNamedBy link all_outs)
    (senders receivers : List ℕ) (from : AreOwners plan.graph leaves (length plan.graph.links) senders) (to : AreOwners plan.graph receiving_platform (length plan.graph.links) receivers) where
  link_below : (side : Graph → Link → ℕ) (owners : List ℕ) (n : ℕ) → AreOwners plan.graph side (length plan.graph.links) owners → (l : ℕ) → slice_get owners l ≡ Some n → l < length plan.graph.links
  link_below side owners n own l at = let w = slice_get_within owners l n at in omega (arith, w, own.count)

  pub outs_full : (m n : ℕ) (now : List (Option SentBy)) → m + 1 ≡ n → AreLeft senders n all_outs now → (l : ℕ) → slice_get senders l ≡ Some m → PlaceIsFull now l
  outs_full m n now one left = full_at senders m n (length plan.graph.links) all_outs now one left from.count (λ l lt. let w = opened.each l lt in (w.0, w.2))

  pub ins_full : (m n : ℕ) (now : List (Option TakenBy)) → m + 1 ≡ n → AreLeft receivers n all_ins now → (l : ℕ) → slice_get receivers l ≡ Some m → PlaceIsFull now l
  ins_full m n now one left = full_at receivers m n (length plan.graph.links) all_ins now one left to.count (λ l lt. let w = opened.each l lt in (w.1, w.3))

  module _ (n m : ℕ) (one : n + 1 ≡ m) (places_out : List (Option SentBy)) (places_in : List (Option TakenBy)) (left_out : AreLeft senders m all_outs places_out) (left_in : AreLeft receivers m all_ins places_in)
      (outs : List (ℕ × SentBy)) (ins : List (ℕ × TakenBy)) (got_outs : AreCollected senders n (length senders) places_out outs) (got_ins : AreCollected receivers n (length receivers) places_in ins) where
    -- a collected end is that of a new link
    out_new : (l : ℕ) (x : SentBy) → slice_get senders l ≡ Some n → slice_get places_out l ≡ Some (Some x) → (x.limits ≡ limits_at plan l) × (x.sent ≡ []) × (x.link ≡ link l)
    out_new l x mine at =
        let w = opened.each l (link_below leaves senders n from l mine) in
        let at_all : slice_get all_outs l ≡ Some (Some x) = sym (left_out l n mine (omega (arith, one))) ∙ at in
        let same : x ≡ w.0 = same_some x w.0 (same_some (Some x) (Some w.0) (sym at_all ∙ w.2)) in
        (ap (λ (z : SentBy). z.limits) same ∙ w.4.limits.0, ap (λ (z : SentBy). z.sent) same ∙ w.4.nothing.0, names l x at_all)

    in_new : (l : ℕ) (x : TakenBy) → slice_get receivers l ≡ Some n → slice_get places_in l ≡ Some (Some x) → (x.limits ≡ limits_at plan l) × (x.taken ≡ []) × (x.link ≡ link l)
    in_new l x mine at =
        let w = opened.each l (link_below receiving_platform receivers n to l mine) in
        let at_all : slice_get all_ins l ≡ Some (Some x) = sym (left_in l n mine (omega (arith, one))) ∙ at in
        let same : x ≡ w.1 = same_some x w.1 (same_some (Some x) (Some w.1) (sym at_all ∙ w.3)) in
        (ap (λ (z : TakenBy). z.limits) same ∙ w.4.limits.1, ap (λ (z : TakenBy). z.taken) same ∙ w.4.nothing.1, ap (λ (z : TakenBy). z.link) same ∙ w.4.one ∙ names l w.0 w.2)

    out_at : (i : ℕ) (e : ℕ × SentBy) → slice_get outs i ≡ Some e → (e.1.limits ≡ limits_at plan e.0) × (e.1.sent ≡ []) × (e.1.link ≡ link e.0)
    out_at i e at = out_new e.0 e.1 (got_outs.own i e at) (got_outs.from i e at)

    in_at : (i : ℕ) (e : ℕ × TakenBy) → slice_get ins i ≡ Some e → (e.1.limits ≡ limits_at plan e.0) × (e.1.taken ≡ []) × (e.1.link ≡ link e.0)
    in_at i e at = in_new e.0 e.1 (got_ins.own i e at) (got_ins.from i e at)

    named_outs : AreNamed link (map end_out outs)
    named_outs i e at = let p = got_map end_out outs i e at in subst (λ (z : End). z.link ≡ link z.number) p.2 (out_at i p.0 p.1).2

    named_ins : AreNamed link (map end_in ins)
    named_ins i e at = let p = got_map end_in ins i e at in subst (λ (z : End). z.link ≡ link z.number) p.2 (in_at i p.0 p.1).2

    ends_out : AreEnds plan leaves n (map end_out outs)
    ends_out = collected_ends end_out (λ p. refl) plan leaves n senders from places_out outs got_outs (λ l x mine at. (out_new l x mine at).0)

    ends_in : AreEnds plan receiving_platform n (map end_in ins)
    ends_in = collected_ends end_in (λ p. refl) plan receiving_platform n receivers to places_in ins got_ins (λ l x mine at. (in_new l x mine at).0)

    pub of_run : (p : PlatformView) → p.plan ≡ plan → p.number ≡ n → p.turns ≡ [] → n < length plan.graph.platforms → ((a : ℕ) → platform_of plan.graph a ≡ n → rows_at p a ≡ rows a)
        → (began reported : Option (List ℕ)) (fixed ahead : Option (ℕ → ℕ)) → began ≡ reported → fixed ≡ ahead → IsOfRun whole rows link began fixed ahead reported p outs ins false
    of_run p plan_is number_is none below own began reported fixed ahead b f = record {
      plan_is = whole_is ∙ ap Some (sym plan_is);
      opened = λ a home. own a (ap (λ (z : Parts). platform_of z.graph a) (sym plan_is) ∙ home ∙ number_is);
      number = subst (λ (k : ℕ). k < length p.plan.graph.platforms) (sym number_is) (subst (λ (z : Parts). n < length z.graph.platforms) (sym plan_is) below);
      fits = record {
        outs_are = subst (λ (k : ℕ). AreEnds p.plan leaves k (map end_out outs)) (sym number_is) (subst (λ (z : Parts). AreEnds z leaves n (map end_out outs)) (sym plan_is) ends_out);
        ins_are = subst (λ (k : ℕ). AreEnds p.plan receiving_platform k (map end_in ins)) (sym number_is) (subst (λ (z : Parts). AreEnds z receiving_platform n (map end_in ins)) (sym plan_is) ends_in);
        sent = λ i e at. (out_at i e at).1 ∙ sym (ap (all_sent e.0) none);
        taken = λ fine i e at. (in_at i e at).1 ∙ sym (ap (λ (ts : List Turn). on_link e.0 (messages_of ts)) none);
        begins = λ i e at. ([], (in_at i e at).1 ∙ sym (ap (λ (ts : List Turn). on_link e.0 (messages_of ts) ++ []) none));
        orderly = λ i e at. subst (IsOrderlyBy e.1.limits) (sym (in_at i e at).1) (nothing_orderly e.1.limits);
      };
      outs_named = named_outs;
      ins_named = named_ins;
      ahead_is = sym f;
      reads = λ unmarked. subst (λ (z : Option (List ℕ)). AreRead fixed z reported p.turns) (sym b) (none_read fixed reported p.turns none);
    }

-- one linked platform more, from the last platform on
pub numbered_more : (m n k : ℕ) (done : List LinkedPlatformView) (s : LinkedPlatformView) → m + 1 ≡ n → s.platform.number ≡ m → count_up n ++ numbers (reverse done) ≡ count_up k → count_up m ++ numbers (reverse (done ++ s ∷ [])) ≡ count_up k
numbered_more m n k done s one is h =
    ap (λ (xs : List LinkedPlatformView). count_up m ++ numbers xs) (reverse-append done (s ∷ []))
    ∙ ap (λ (x : ℕ). count_up m ++ x ∷ numbers (reverse done)) is
    ∙ sym (append_assoc (count_up m) (m ∷ []) (numbers (reverse done)))
    ∙ ap (λ (x : ℕ). count_up x ++ numbers (reverse done)) (sym (add-one m) ∙ one)
    ∙ h
