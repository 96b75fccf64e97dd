use Rattle.std.proofs.Common.{◌≤◌, ◌^◌, subst, sym}
use Rattle.sparse_map.specs.Packed.{map_of}
use Rattle.mapping.proofs.PackedLemmas.{removed, removed_apart}
use Rattle.mapping.proofs.held.Held.remove.Goals as goal

pub invariant_of-self : goal.invariant_of-self
invariant_of-self c = record {
  pages_sound = c.remove.ensures.sound;
  blocks_sound = c.take_out.ensures.sound;
  are_blocks = c.take_out.ensures.left.blocks c.self.invariant.are_blocks;
  apart = removed_apart c.self.inside.geometry (map_of c.self.inside.pages) (map_of c.remove.new.self) (map_of c.self.inside.blocks) (map_of c.take_out.new.blocks) c.args.lba c.remove.ensures.map c.take_out.ensures.left c.self.invariant.apart;
  few_pages = subst (λ n. n ≤ 2 ^ 32) (sym c.remove.ensures.buckets) c.self.invariant.few_pages;
  few_blocks = subst (λ n. n ≤ 2 ^ 32) (sym c.take_out.ensures.buckets) c.self.invariant.few_blocks;
}

pub returns-clause-entries : goal.returns-clause-entries
returns-clause-entries c = rw (← c.self.view_is) (removed c.self.inside.geometry (map_of c.self.inside.pages) (map_of c.remove.new.self) (map_of c.self.inside.blocks) (map_of c.take_out.new.blocks) c.args.lba c.remove.ensures.map c.take_out.ensures.left)
