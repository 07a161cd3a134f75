use Rattle.std.proofs.Common.{refl, sym, ◌∙◌, bytes_eq, true, false, ◌≡◌}
use Rattle.std.specs.Int.{w64}
use Rattle.std.proofs.lemmas.Bool.{both_ways}
use Rattle.std.proofs.lemmas.Int.{to_z-of_z}
use Rattle.std.proofs.lemmas.Option.{none-some, same_Some}
use Rattle.std.proofs.lemmas.Slice.Eq.{bytes_eq-Decides}
use Rattle.pt_tags.specs.declared.message.Message.TheVariants.{End, Event}
use Rattle.pt_audit.proofs.Parsing.ItemLines.{event_parts, no_end}
use Rattle.pt_audit.proofs.parse.entries.read_message.Goals as goal

pub returns-then-eq : goal.returns-then-eq
returns-then-eq c (Event tag z) fits held e =
    let same : bytes_eq c.args.fields.now c.as_slice.result.now ≡ true = sym c.eq.ensures ∙ c.if-eq.true in
    absurd (no_end tag z (sym c.as_slice.ensures ∙ sym ((bytes_eq-Decides c.args.fields.now c.as_slice.result.now).0 same) ∙ e))
returns-then-eq c End fits held e = refl

pub returns-in_err-number : goal.returns-in_err-number
returns-in_err-number c (Event tag z) fits held e =
    let parts = event_parts c.args.fields.now _ _ _ _ tag z e c.cut.ensures.before c.cut.ensures.after c.cut-2.ensures.before c.cut-2.ensures.after in
    absurd (none-some tag.time (c.in_err-number.ensures tag.time fits.0 parts.0))
returns-in_err-number c End fits held e =
    let other : bytes_eq c.args.fields.now c.as_slice.result.now ≡ false = sym c.eq.ensures ∙ c.if-eq.false in
    absurd (both_ways (bytes_eq c.args.fields.now c.as_slice.result.now) other ((bytes_eq-Decides c.args.fields.now c.as_slice.result.now).1 (e ∙ sym c.as_slice.ensures)))

pub returns-in_err-number-2 : goal.returns-in_err-number-2
returns-in_err-number-2 c (Event tag z) fits held e =
    let parts = event_parts c.args.fields.now _ _ _ _ tag z e c.cut.ensures.before c.cut.ensures.after c.cut-2.ensures.before c.cut-2.ensures.after in
    absurd (none-some tag.step (c.in_err-number-2.ensures tag.step fits.1 parts.1))
returns-in_err-number-2 c End fits held e =
    let other : bytes_eq c.args.fields.now c.as_slice.result.now ≡ false = sym c.eq.ensures ∙ c.if-eq.false in
    absurd (both_ways (bytes_eq c.args.fields.now c.as_slice.result.now) other ((bytes_eq-Decides c.args.fields.now c.as_slice.result.now).1 (e ∙ sym c.as_slice.ensures)))

pub returns-in_err-signed : goal.returns-in_err-signed
returns-in_err-signed c (Event tag z) fits held e =
    let parts = event_parts c.args.fields.now _ _ _ _ tag z e c.cut.ensures.before c.cut.ensures.after c.cut-2.ensures.before c.cut-2.ensures.after in
    absurd (none-some z (c.in_err-signed.ensures z held parts.2))
returns-in_err-signed c End fits held e =
    let other : bytes_eq c.args.fields.now c.as_slice.result.now ≡ false = sym c.eq.ensures ∙ c.if-eq.false in
    absurd (both_ways (bytes_eq c.args.fields.now c.as_slice.result.now) other ((bytes_eq-Decides c.args.fields.now c.as_slice.result.now).1 (e ∙ sym c.as_slice.ensures)))

pub returns : goal.returns
returns c (Event tag z) fits held e =
    let parts = event_parts c.args.fields.now _ _ _ _ tag z e c.cut.ensures.before c.cut.ensures.after c.cut-2.ensures.before c.cut-2.ensures.after in
    let time = same_Some _ _ (c.in_ok-number.ensures tag.time fits.0 parts.0) in
    let step = same_Some _ _ (c.in_ok-number-2.ensures tag.step fits.1 parts.1) in
    let value = same_Some _ _ (c.in_ok-signed.ensures z held parts.2) in
    rw (time, step, value, to_z-of_z w64 z held) refl
returns c End fits held e =
    let other : bytes_eq c.args.fields.now c.as_slice.result.now ≡ false = sym c.eq.ensures ∙ c.if-eq.false in
    absurd (both_ways (bytes_eq c.args.fields.now c.as_slice.result.now) other ((bytes_eq-Decides c.args.fields.now c.as_slice.result.now).1 (e ∙ sym c.as_slice.ensures)))
