-- Laws of the order of tags.
use Rattle.std.proofs.Common.{◌≡◌, ◌⊎◌, true, false, arith}
use Rattle.std.proofs.lemmas.Bool.Decides.{nat_tests}
use Rattle.pt_tags.specs.declared.tag.Tag.{Tag}
use Rattle.pt_tags.specs.declared.tag.Delay.{Delay}
use Rattle.pt_tags.specs.Tags.{Before, plus, same_tag, tag_lt}

pub Before-irrefl : (t : Tag) → Before t t → ⊥
Before-irrefl t h = grind arith

pub Before-trans : (t u v : Tag) → Before t u → Before u v → Before t v
Before-trans t u v h k = omega arith

pub cases_tags : (t u : Tag) → (t ≡ u) ⊎ (Before t u ⊎ Before u t)
cases_tags t u = grind arith

pub same_tag-refl : (t : Tag) → same_tag t t ≡ true
same_tag-refl t = grind (arith, nat_tests)

pub same_tag-true : (t u : Tag) → same_tag t u ≡ true → t ≡ u
same_tag-true t u h = grind (arith, nat_tests)

pub same_tag-before : (t u : Tag) → Before t u → same_tag t u ≡ false
same_tag-before t u h = grind (arith, nat_tests)

pub same_tag-after : (t u : Tag) → Before u t → same_tag t u ≡ false
same_tag-after t u h = grind (arith, nat_tests)

pub tag_lt-true : (t u : Tag) → tag_lt t u ≡ true → Before t u
tag_lt-true t u h = grind (arith, nat_tests)

pub tag_lt-from : (t u : Tag) → Before t u → tag_lt t u ≡ true
tag_lt-from t u h = grind (arith, nat_tests)

pub plus-cancel : (t u : Tag) (d : Delay) → plus t d ≡ plus u d → t ≡ u
plus-cancel t u d h = grind arith

pub plus-Before : (t u : Tag) (d : Delay) → Before t u → Before (plus t d) (plus u d)
plus-Before t u d h = omega arith
