use Rattle.std.proofs.Common.{◌≡◌, ℕ, ◌+◌, ◌^◌, length, vec_len, ap, sym, ◌∙◌, arith}
use Rattle.pt_turn.specs.Platforms.{PlatformView}
use Rattle.pt_pool.specs.LinkedPlatform.{LinkedPlatformView}
use Rattle.pt_pool.specs.Stations.Stations.{StationView}
use Rattle.pt_workers.proofs.Working.Numbers.{popped, halves}
use Rattle.pt_workers.proofs.Working.Tables.{table_last, tables_front}
use Rattle.pt_workers.proofs.work.workers.lock_all.Goals as goal

pub with_linked-station-requires : goal.with_linked-station-requires
with_linked-station-requires g c =
    let inv = c.loop-linked.invariant in
    let n = vec_len c.pop.new.self in
    let p = popped c.pop.new.self.items c.loop-linked.linked_platforms.items c.in-Some.linked n (vec_len c.loop-linked.linked_platforms) c.in-Some.ensures.items c.in-Some.ensures.cases inv.order in
    let left : n ≡ length c.pop-in-Some.new.self.items = omega (arith, c.in-Some.ensures.cases, c.in-Some-pop.ensures.cases, inv.boards.0, c.pop-in-Some.new.self.ok.0) in
    table_last g.B.Boards.table c.pop-in-Some.new.self.items c.loop-linked.boards.items c.in-Some-pop.board n c.in-Some-pop.ensures.items inv.boards.1 left ∙ ap g.B.Boards.table (sym p.1)

pub loop-linked-preserved : goal.loop-linked-preserved
loop-linked-preserved g c =
    let inv = c.loop-linked.invariant in
    let n = vec_len c.pop.new.self in
    let m = vec_len c.loop-linked.linked_platforms in
    let s = c.in-Some.linked in
    let len : n + 1 ≡ m = c.in-Some.ensures.cases in
    let p = popped c.pop.new.self.items c.loop-linked.linked_platforms.items s n m c.in-Some.ensures.items len inv.order in
    let same : c.staff.new.station.linked ≡ s = ap (λ (v : StationView). v.linked) c.staff.ensures ∙ c.with_linked-station.ensures in
    let added : c.add.new.self.total ≡ c.loop-linked.book.total + 2 ^ s.platform.number =
    c.add.ensures.total ∙ ap (λ (x : ℕ). c.loop-linked.book.total + x) (c.power.ensures ∙ ap (λ (x : ℕ). 2 ^ x) (c.number.ensures ∙ ap (λ (v : PlatformView). v.number) (c.platform.ensures.platform ∙ ap (λ (v : LinkedPlatformView). v.platform) same))) in record {
      order = p.0;
      boards = (omega (arith, c.in-Some-pop.ensures.cases, inv.boards.0, len), tables_front g.B.Boards.table c.pop-in-Some.new.self.items c.loop-linked.boards.items c.in-Some-pop.board c.in-Some-pop.ensures.items inv.boards.1);
      total = ap (λ (x : ℕ). x + 2 ^ n) added ∙ halves c.loop-linked.book.total n m (2 ^ vec_len c.args.linked_platforms) s.platform.number len p.1 inv.total;
      parts = omega (arith, c.split_off-share.ensures.parts_left);
      amount = omega (arith, c.split_off-share.ensures.amount_left);
      stations = omega (arith, c.push_reserved.ensures.len);
      room = c.push_reserved.ensures.capacity ∙ inv.room;
    }
