use Rattle.std.proofs.Common.{◌≡◌, ◌+◌, sym, ap, ◌∙◌, arith, length, take, ◌∷◌}
use Rattle.std.proofs.lemmas.List.{take_all}
use Rattle.circular_buffer.specs.Buffer.{Buffer}
use Rattle.trace_replay.specs.Owing.{most_lost}
use Rattle.trace_replay.specs.declared.recent.Recent.{Recent}
use Rattle.trace_replay.proofs.BackLemmas.{noted}
use Rattle.trace_replay.proofs.recent.RecentWrites.note.Goals as goal

pub loop-i-init : goal.loop-i-init
loop-i-init c =
    let long : length c.self.inside.writes.items ≡ length c.args.self.now = ap length c.self.view_is in
    let room : c.self.inside.writes.capacity ≡ most_lost = c.self.invariant in
    let within = c.capacity-room.ensures.within in
    let same = c.capacity-room.ensures.capacity in
    record { items = c.self.view_is ∙ sym (take_all most_lost c.args.self.now (omega (arith, long, room, within, same))); capacity = room }

pub loop-i-preserved : goal.loop-i-preserved
loop-i-preserved c = record {
  items = ap (λ (b : Buffer Recent). b.items) c.push_front.ensures.items
      ∙ ap (λ n. take n ((record { lba = c.args.request.lba + c.loop-i.i; tag = c.args.request.tag }) ∷ c.loop-i.self-inside.writes.items)) c.loop-i.invariant.capacity
      ∙ noted c.args.request.lba c.args.request.tag c.loop-i.i c.args.self.now c.loop-i.self-inside.writes.items c.loop-i.invariant.items;
  capacity = ap (λ (b : Buffer Recent). b.capacity) c.push_front.ensures.items ∙ c.loop-i.invariant.capacity;
}
