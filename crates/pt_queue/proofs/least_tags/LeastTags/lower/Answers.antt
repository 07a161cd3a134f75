use Rattle.std.proofs.Common.{◌≡◌, Bool, true, false, Option, if◌then◌else◌, refl, sym, ap, ◌∙◌}
use Rattle.pt_tags.specs.declared.tag.Tag.{Tag}
use Rattle.pt_types.specs.declared.graph.Unit.{Unit}
use Rattle.pt_semantics.specs.Units.{same_part}
use Rattle.pt_semantics.proofs.Lookups.{same_part-true}
use Rattle.pt_queue.specs.Tagged.{tag_in}
use Rattle.pt_queue.specs.Scans.{sooner}
use Rattle.pt_queue.proofs.least_tags.LeastTags.lower.Goals as goal

-- where the tag of a unit stays, all stay
all_stay : (tags : Unit → Option Tag) (u x : Unit) (t : Tag) → sooner (tags u) t ≡ tags u → tags x ≡ (if same_part u x then sooner (tags u) t else tags x)
all_stay tags u x t stays = by (same_part u x) refl
  where
    by : (b : Bool) → same_part u x ≡ b → tags x ≡ (if b then sooner (tags u) t else tags x)
    by true e = ap tags (sym (same_part-true u x e)) ∙ sym stays
    by false e = refl

pub returns-then-is_least-clause-tags : goal.returns-then-is_least-clause-tags
returns-then-is_least-clause-tags c = λ x.
    all_stay (tag_in c.args.self.now) c.args.unit x c.args.tag
    (ap (λ o. sooner o c.args.tag) (sym c.of.ensures) ∙ c.is_least.ensures.stays c.if-is_least.true ∙ c.of.ensures)

pub returns-clause-tags : goal.returns-clause-tags
returns-clause-tags c = λ x.
    c.set.ensures.tags x
    ∙ ap (λ o. if same_part c.args.unit x then o else tag_in c.args.self.now x)
    (sym (ap (λ o. sooner o c.args.tag) (sym c.of.ensures) ∙ c.is_least.ensures.less c.if-is_least.false))
