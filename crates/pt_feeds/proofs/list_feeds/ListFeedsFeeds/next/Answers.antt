use Rattle.std.proofs.Common.{◌≡◌, Some, true, false, refl, ap, sym, ◌∙◌}
use Rattle.pt_feeds.proofs.First.{gives-none, gives-some, left-none, left-not, left-taken}
use Rattle.pt_feeds.specs.Coming.{is_there, next_gives}
use Rattle.pt_feeds.specs.declared.feeds.Fed.TheVariants as fed
use Rattle.pt_feeds.proofs.list_feeds.ListFeedsFeeds.next.Goals as goal

pub returns-in_default-clause-gives : goal.returns-in_default-clause-gives
returns-in_default-clause-gives c = gives-none c.args.self.now.coming.items c.args.sensor c.args.reading c.in_default.ensures

pub returns-in_default-clause-left : goal.returns-in_default-clause-left
returns-in_default-clause-left c = left-none c.args.self.now.coming.items c.args.sensor c.args.reading c.in_default.ensures

pub returns-then-not-is_there-clause-gives : goal.returns-then-not-is_there-clause-gives
returns-then-not-is_there-clause-gives c =
    let no : is_there c.args.reading c.index-coming.result.now ≡ false = sym c.is_there.ensures ∙ c.if-not-is_there.true in
    let shown : fed.Nothing ≡ next_gives c.args.reading (Some c.index-coming.result.now) = rw no refl in
    shown ∙ gives-some c.args.self.now.coming.items c.args.sensor c.args.reading c.in-Some.number c.index-coming.result.now c.in-Some.ensures c.index-coming.ensures

pub returns-then-not-is_there-clause-left : goal.returns-then-not-is_there-clause-left
returns-then-not-is_there-clause-left c =
    left-not c.args.self.now.coming.items c.args.sensor c.args.reading c.in-Some.number c.index-coming.result.now c.in-Some.ensures c.index-coming.ensures
    (sym c.is_there.ensures ∙ c.if-not-is_there.true)

pub returns-clause-gives : goal.returns-clause-gives
returns-clause-gives c =
    let yes : is_there c.args.reading c.index-coming.result.now ≡ true = sym c.is_there.ensures ∙ c.if-not-is_there.false in
    let shown : c.index-coming.result.now.what ≡ next_gives c.args.reading (Some c.index-coming.result.now) = rw yes refl in
    shown ∙ gives-some c.args.self.now.coming.items c.args.sensor c.args.reading c.in-Some.number c.index-coming.result.now c.in-Some.ensures c.index-coming.ensures

pub returns-clause-left : goal.returns-clause-left
returns-clause-left c =
    ap (λ v. v.items) c.record.ensures.coming ∙ c.remove.ensures.items
    ∙ left-taken c.args.self.now.coming.items c.args.sensor c.args.reading c.in-Some.number c.index-coming.result.now c.in-Some.ensures c.index-coming.ensures
    (sym c.is_there.ensures ∙ c.if-not-is_there.false)
