use Rattle.std.proofs.Common.{refl, ap, arith}
use Rattle.std.specs.Vec.{vec_len}
use Rattle.sparse_map.specs.declared.table.Touched.TheVariants.{Nowhere}
use Rattle.sparse_map.specs.Places.{places_of, extra, loose_of}
use Rattle.sparse_map.proofs.PlacesLemmas.{sizes-new, no-places, no-untouched, bounded}
use Rattle.sparse_map.proofs.MapLemmas.{kept_new, buckets-new, map_of-new, kept_sound}
use Rattle.sparse_map.proofs.map.SparseMap.new.Goals as goal

pub invariant_of-result : goal.invariant_of-result
invariant_of-result g c = record {
  table = kept_new c.new.result.items (vec_len c.new-2.result) c.new.ensures.items c.new-2.ensures.len;
  bound = bounded _ _ (omega (arith, ap (loose_of Nowhere) (sizes-new c.new.result.items c.new.ensures.items), no-untouched extra));
  groups_fit = omega (arith, c.new.ensures);
  blanks_fit = omega (arith, c.new-2.ensures);
}

pub returns-clause-none : goal.returns-clause-none
returns-clause-none g c = buckets-new c.new.result.items

pub returns-clause-empty : goal.returns-clause-empty
returns-clause-empty g c = map_of-new _ c.new.result.items refl

pub returns-clause-sound : goal.returns-clause-sound
returns-clause-sound g c =
    kept_sound 0 0 0 (vec_len c.new-2.result) Nowhere c.new.result.items (kept_new c.new.result.items (vec_len c.new-2.result) c.new.ensures.items c.new-2.ensures.len) _ refl refl refl refl

pub returns-clause-memory : goal.returns-clause-memory
returns-clause-memory g c =
    omega (arith, ap places_of (sizes-new c.new.result.items c.new.ensures.items), no-places, c.new-2.ensures.len)

pub returns-clause-loose : goal.returns-clause-loose
returns-clause-loose g c =
    omega (arith, ap (loose_of Nowhere) (sizes-new c.new.result.items c.new.ensures.items), no-untouched extra)
