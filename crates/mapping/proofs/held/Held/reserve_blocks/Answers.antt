use Rattle.std.proofs.Common.{◌≤◌, ◌+◌, ◌^◌, sym, length, OnOk, subst, arith}
use Rattle.std.specs.FinMap.{entries}
use Rattle.std.proofs.lemmas.Result.{on_err_weaker}
use Rattle.sparse_map.specs.Home.{IsDoubledFor}
use Rattle.sparse_map.specs.Packed.{map_of, len_of, buckets_of}
use Rattle.mapping.specs.Packed.{HeldValue, packed_entries, AreBlocks, AreDisjoint}
use Rattle.mapping.proofs.ListingLemmas.{few_data_blocks, data_blocks_are, doubled_or_same, blocks_refused}
use Rattle.mapping.proofs.held.Held.reserve_blocks.Goals as goal

pub reserve-requires : goal.reserve-requires
reserve-requires c =
    let few = few_data_blocks c.self.inside.geometry c.self.inside.pages c.self.inside.blocks c.self.invariant in
    let room : length (entries (packed_entries c.self.inside.geometry (map_of c.self.inside.pages) (map_of c.self.inside.blocks))) + c.args.blocks ≤ 2 ^ 30 = subst (λ (v : HeldValue). length (entries v.entries) + c.args.blocks ≤ 2 ^ 30) (sym c.self.view_is) c.requires in
    omega (arith, few, room)

pub invariant_of-self : goal.invariant_of-self
invariant_of-self c =
    let few = few_data_blocks c.self.inside.geometry c.self.inside.pages c.self.inside.blocks c.self.invariant in
    let room : length (entries (packed_entries c.self.inside.geometry (map_of c.self.inside.pages) (map_of c.self.inside.blocks))) + c.args.blocks ≤ 2 ^ 30 = subst (λ (v : HeldValue). length (entries v.entries) + c.args.blocks ≤ 2 ^ 30) (sym c.self.view_is) c.requires in
    record {
      pages_sound = c.self.invariant.pages_sound;
      blocks_sound = c.reserve.ensures.sound;
      are_blocks = subst (λ x. AreBlocks c.self.inside.geometry x) (sym c.reserve.ensures.map) c.self.invariant.are_blocks;
      apart = subst (λ x. AreDisjoint c.self.inside.geometry (map_of c.self.inside.pages) x) (sym c.reserve.ensures.map) c.self.invariant.apart;
      few_blocks = doubled_or_same c.reserve.result (len_of c.self.inside.blocks + c.args.blocks) (buckets_of c.self.inside.blocks) (buckets_of c.reserve.new.self) (omega (arith, few, room))
          c.self.invariant.few_blocks c.reserve.ensures.buckets (on_err_weaker c.reserve.result (λ e. cc) c.reserve.ensures.err);
      few_pages = c.self.invariant.few_pages;
    }

pub returns-clause-err : goal.returns-clause-err
returns-clause-err c = rw (← c.self.view_is) (blocks_refused c.reserve.result c.self.inside.geometry c.self.inside.pages c.self.inside.blocks c.reserve.new.self c.reserve.ensures.map
    (on_err_weaker c.reserve.result (λ e. cc) c.reserve.ensures.err) (on_err_weaker c.reserve.result (λ e. cc) c.reserve.ensures.err))

pub returns-clause-group_buckets : goal.returns-clause-group_buckets
returns-clause-group_buckets c = rw (← c.self.view_is) (subst (λ n. OnOk c.reserve.result (IsDoubledFor (n + c.args.blocks) (buckets_of c.self.inside.blocks) (buckets_of c.reserve.new.self)))
    (data_blocks_are c.self.inside.geometry c.self.inside.pages c.self.inside.blocks c.self.invariant) c.reserve.ensures.buckets)
