use Rattle.std.proofs.Common.{◌≡◌, ◌-◌, length, Some, string_bytes, refl, sym, ap, ◌∙◌, arith, rules}
use Rattle.json.specs.Json.{read_key, value}
use Rattle.json.proofs.Grammar.{read_key-shorter}
use Rattle.serde_json.specs.Data.{no_members, object, put}
use Rattle.serde_json.specs.View.{view, members_view}
use Rattle.serde_json.proofs.Views.{view-Object, members_view-insert_entry}
use Rattle.pt_graph_text.specs.Apart.{hollow, hollow_members}
use Rattle.pt_graph_text.proofs.Turns.{member_read, member_refused, key_refused, members_over}
use Rattle.pt_graph_text.proofs.Members.{hollow_members-put}
use Rattle.pt_graph_text.proofs.object.read_members.Goals as goal

pub members-init : goal.members-init
members-init g c = (length c.args.reader.now, no_members, omega arith, refl, ap members_view c.new-found.ensures.empty, c.none-lists.ensures c.args.version, omega arith)

pub returns-in_err-name-clause-err : goal.returns-in_err-name-clause-err
returns-in_err-name-clause-err g c refused =
    let l = c.members in
    let old = l.invariant.1 in
    l.invariant.3 ∙ key_refused (value c.args.depth) old l.invariant.0 l.reader c.in_err-name.ensures.value

pub returns-in_err-left-clause-err : goal.returns-in_err-left-clause-err
returns-in_err-left-clause-err g c refused =
    let l = c.members in
    let old = l.invariant.1 in
    let k = c.in-Some.name.now in
    let s = c.next_key.new.self in
    let named : read_key l.reader ≡ Some (Some k, s) = grind arith in
    l.invariant.3 ∙ member_refused (value c.args.depth) old l.invariant.0 k l.reader s named (c.read.ensures.err (grind arith))

pub members-preserved : goal.members-preserved
members-preserved g c =
    let p = value c.args.depth in
    let l = c.members in
    let n = l.invariant.0 in
    let old = l.invariant.1 in
    let k = c.in-Some.name.now in
    let s = c.next_key.new.self in
    let named : read_key l.reader ≡ Some (Some k, s) = grind arith in
    let read = c.in_ok-left.ensures.ok in
    let left = c.in_ok-left.left in
    let d = read.0 in
    let r = c.read.new.reader in
    let less = read_key-shorter l.reader (Some k) s named in
    let lesser = c.in_ok-left.ensures.shorter in
    let copied : string_bytes c.in_ok-key.key ≡ k = search rules in
    let inserted : members_view c.insert.new.self.entries ≡ put k (view left) (members_view l.found.entries) =
    ap members_view c.in_ok-insert.ensures.entries ∙ members_view-insert_entry l.found.entries c.in_ok-key.key left ∙ ap (λ name. put name (view left) (members_view l.found.entries)) copied in
    let without : put k (view left) (members_view l.found.entries) ≡ hollow_members (put k d old) =
    ap (λ e. put k e (members_view l.found.entries)) read.2 ∙ ap (put k (hollow d)) l.invariant.4 ∙ sym (hollow_members-put k d old) in (
      n - 1,
      put k d old,
      omega (arith, l.invariant.2),
      l.invariant.3 ∙ member_read p old n k l.reader s r d (omega (arith, l.invariant.2)) named read.1,
      inserted ∙ without,
      read.3 old l.invariant.5,
      omega (arith, l.invariant.6),
    )

pub returns-clause-ok : goal.returns-clause-ok
returns-clause-ok g c =
    let l = c.members in
    let old = l.invariant.1 in (
      old,
      l.invariant.3 ∙ members_over (value c.args.depth) old l.invariant.0 l.reader c.next_key.new.self l.invariant.2 (grind arith),
      view-Object l.found ∙ ap object l.invariant.4,
      l.invariant.5,
    )
