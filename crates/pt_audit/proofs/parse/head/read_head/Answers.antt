use Rattle.std.proofs.lemmas.Option.{none-some, same_Some}
use Rattle.pt_audit.proofs.Parsing.Heads.{head_parts}
use Rattle.pt_audit.proofs.parse.head.read_head.Goals as goal

-- no exit: each field of a turn's first line has its form
pub returns-in_err-platform_named : goal.returns-in_err-platform_named
returns-in_err-platform_named c p first last count p_in first_in last_in count_in e =
    let parts = head_parts c.args.graph.now c.args.line.now p first last count _ _ _ _ _ _ _ c.requires.lawful e c.cut.ensures.after c.cut-2.ensures.before c.cut-2.ensures.after c.cut-3.ensures.before c.cut-3.ensures.after c.cut-4.ensures.before c.cut-4.ensures.after in
    absurd (none-some p (c.in_err-platform_named.ensures p p_in parts.0))

pub returns-in_err-number : goal.returns-in_err-number
returns-in_err-number c p first last count p_in first_in last_in count_in e =
    let parts = head_parts c.args.graph.now c.args.line.now p first last count _ _ _ _ _ _ _ c.requires.lawful e c.cut.ensures.after c.cut-2.ensures.before c.cut-2.ensures.after c.cut-3.ensures.before c.cut-3.ensures.after c.cut-4.ensures.before c.cut-4.ensures.after in
    absurd (none-some first (c.in_err-number.ensures first first_in parts.1))

pub returns-in_err-number-2 : goal.returns-in_err-number-2
returns-in_err-number-2 c p first last count p_in first_in last_in count_in e =
    let parts = head_parts c.args.graph.now c.args.line.now p first last count _ _ _ _ _ _ _ c.requires.lawful e c.cut.ensures.after c.cut-2.ensures.before c.cut-2.ensures.after c.cut-3.ensures.before c.cut-3.ensures.after c.cut-4.ensures.before c.cut-4.ensures.after in
    absurd (none-some last (c.in_err-number-2.ensures last last_in parts.2))

pub returns-in_err-number-3 : goal.returns-in_err-number-3
returns-in_err-number-3 c p first last count p_in first_in last_in count_in e =
    let parts = head_parts c.args.graph.now c.args.line.now p first last count _ _ _ _ _ _ _ c.requires.lawful e c.cut.ensures.after c.cut-2.ensures.before c.cut-2.ensures.after c.cut-3.ensures.before c.cut-3.ensures.after c.cut-4.ensures.before c.cut-4.ensures.after in
    absurd (none-some count (c.in_err-number-3.ensures count count_in parts.3))

pub returns : goal.returns
returns c p first last count p_in first_in last_in count_in e =
    let parts = head_parts c.args.graph.now c.args.line.now p first last count _ _ _ _ _ _ _ c.requires.lawful e c.cut.ensures.after c.cut-2.ensures.before c.cut-2.ensures.after c.cut-3.ensures.before c.cut-3.ensures.after c.cut-4.ensures.before c.cut-4.ensures.after in
    record {
      platform = same_Some _ _ (c.in_ok-platform_named.ensures p p_in parts.0);
      first = same_Some _ _ (c.in_ok-number.ensures first first_in parts.1);
      last = same_Some _ _ (c.in_ok-number-2.ensures last last_in parts.2);
      count = same_Some _ _ (c.in_ok-number-3.ensures count count_in parts.3);
    }
