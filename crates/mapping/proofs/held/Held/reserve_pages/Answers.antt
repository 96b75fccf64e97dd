use Rattle.std.proofs.Common.{◌≤◌, ◌+◌, ◌^◌, sym, length, OnOk, subst, arith}
use Rattle.std.specs.FinMap.{entries}
use Rattle.std.proofs.lemmas.Result.{on_err_weaker}
use Rattle.sparse_map.specs.Home.{IsDoubledFor}
use Rattle.sparse_map.specs.Packed.{map_of, len_of, buckets_of}
use Rattle.mapping.specs.Packed.{HeldValue, packed_entries, AreDisjoint}
use Rattle.mapping.proofs.ListingLemmas.{few_log_pages, log_pages_are, doubled_or_same, pages_refused}
use Rattle.mapping.proofs.held.Held.reserve_pages.Goals as goal

pub reserve-requires : goal.reserve-requires
reserve-requires c =
    let few = few_log_pages c.self.inside.geometry c.self.inside.pages c.self.inside.blocks c.self.invariant in
    let room : length (entries (packed_entries c.self.inside.geometry (map_of c.self.inside.pages) (map_of c.self.inside.blocks))) + c.args.pages ≤ 2 ^ 30 = subst (λ (v : HeldValue). length (entries v.entries) + c.args.pages ≤ 2 ^ 30) (sym c.self.view_is) c.requires in
    omega (arith, few, room)

pub invariant_of-self : goal.invariant_of-self
invariant_of-self c =
    let few = few_log_pages c.self.inside.geometry c.self.inside.pages c.self.inside.blocks c.self.invariant in
    let room : length (entries (packed_entries c.self.inside.geometry (map_of c.self.inside.pages) (map_of c.self.inside.blocks))) + c.args.pages ≤ 2 ^ 30 = subst (λ (v : HeldValue). length (entries v.entries) + c.args.pages ≤ 2 ^ 30) (sym c.self.view_is) c.requires in
    record {
      pages_sound = c.reserve.ensures.sound;
      blocks_sound = c.self.invariant.blocks_sound;
      are_blocks = c.self.invariant.are_blocks;
      apart = subst (λ x. AreDisjoint c.self.inside.geometry x (map_of c.self.inside.blocks)) (sym c.reserve.ensures.map) c.self.invariant.apart;
      few_pages = doubled_or_same c.reserve.result (len_of c.self.inside.pages + c.args.pages) (buckets_of c.self.inside.pages) (buckets_of c.reserve.new.self) (omega (arith, few, room))
          c.self.invariant.few_pages c.reserve.ensures.buckets (on_err_weaker c.reserve.result (λ e. cc) c.reserve.ensures.err);
      few_blocks = c.self.invariant.few_blocks;
    }

pub returns-clause-err : goal.returns-clause-err
returns-clause-err c = rw (← c.self.view_is) (pages_refused c.reserve.result c.self.inside.geometry c.self.inside.pages c.reserve.new.self c.self.inside.blocks c.reserve.ensures.map
    (on_err_weaker c.reserve.result (λ e. cc) c.reserve.ensures.err) (on_err_weaker c.reserve.result (λ e. cc) c.reserve.ensures.err))

pub returns-clause-buckets : goal.returns-clause-buckets
returns-clause-buckets c = rw (← c.self.view_is) (subst (λ n. OnOk c.reserve.result (IsDoubledFor (n + c.args.pages) (buckets_of c.self.inside.pages) (buckets_of c.reserve.new.self)))
    (log_pages_are c.self.inside.geometry c.self.inside.pages c.self.inside.blocks c.self.invariant) c.reserve.ensures.buckets)
