use Rattle.std.proofs.Common.{◌≡◌, ◌<◌, ◌⊎◌, ℕ, Option, inr, ⊎_elim, vec_len, length, slice_set, ap, sym, subst, ◌∙◌, arith}
use Rattle.std.proofs.lemmas.List.{length-map}
use Rattle.pt_turn.specs.Platforms.{PlatformView}
use Rattle.pt_pool.specs.LinkedPlatform.{LinkedPlatformView}
use Rattle.pt_workers.specs.Working.Orders.{numbers, Among, HasAt}
use Rattle.pt_workers.proofs.Working.Powers.{each_among}
use Rattle.pt_workers.proofs.Working.Numbers.{placed, among_none}
use Rattle.pt_workers.proofs.work.order.in_places.Goals as goal

pub loop-linked-init : goal.loop-linked-init
loop-linked-init g c =
    let xs = c.args.linked_platforms.items in
    let len : length (numbers xs) ≡ vec_len c.args.linked_platforms = length-map xs (λ (v : LinkedPlatformView). v.platform.number) ∙ sym c.args.linked_platforms.ok.0 in record {
      places = omega arith;
      each = λ w low. inr (each_among (vec_len c.args.linked_platforms) (numbers xs) c.requires.weight len w low);
    }

pub loop-linked-preserved : goal.loop-linked-preserved
loop-linked-preserved g c =
    let inv = c.loop-linked.invariant in record {
      places = inv.places;
      each = subst (λ (place : Option LinkedPlatformView). (w : ℕ) → w < vec_len c.args.linked_platforms → HasAt (slice_set c.loop-linked.places.items c.number-number.result place) w ⊎ Among w (numbers c.pop.new.self.items)) (sym c.replace.ensures.after)
          (placed (vec_len c.args.linked_platforms) c.number-number.result c.loop-linked.places.items c.pop.new.self.items c.loop-linked.linked_platforms.items c.in-Some.linked c.in-Some.ensures.items (c.number-number.ensures ∙ ap (λ (v : PlatformView). v.number) c.platform.ensures.platform) (omega (arith, c.number-number.ensures, c.platform.ensures.below, c.loop-linked.places.ok.0, c.requires.count)) inv.each);
    }

-- no linked platform is left, so each number below the count has its place
pub returns-clause-filled : goal.returns-clause-filled
returns-clause-filled g c =
    let inv = c.loop-linked.invariant in
    let none : length c.loop-linked.linked_platforms.items ≡ 0 = sym c.loop-linked.linked_platforms.ok.0 ∙ c.in_default.ensures.cases.0 in
    λ w low. ⊎_elim (λ (h : HasAt c.loop-linked.places.items w). h) (λ (a : Among w (numbers c.loop-linked.linked_platforms.items)). absurd (among_none w c.loop-linked.linked_platforms.items none a)) (inv.each w low)
