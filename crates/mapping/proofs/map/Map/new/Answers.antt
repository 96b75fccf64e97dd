use Rattle.std.proofs.Common.{subst, sym, arith}
use Rattle.cache_model.specs.Records.{Entries}
use Rattle.cache_model.specs.Entries.{IsMap}
use Rattle.cache_model.proofs.FitsLemmas.{no_entries-map}
use Rattle.mapping.specs.Candidates.{AreCandidates}
use Rattle.mapping.specs.Index.{IsIndex}
use Rattle.mapping.specs.MarkedGroups.{AreMarkedGroups}
use Rattle.mapping.proofs.map.Map.new.Goals as goal

pub invariant_of-result : goal.invariant_of-result
invariant_of-result c = record {
  geometry = c.new.ensures.geometry;
  is_map = subst (λ (m : Entries). IsMap c.args.geometry.now m) (sym c.new.ensures.entries) (no_entries-map c.args.geometry.now);
  index = subst (λ (m : Entries). IsIndex c.args.geometry.now m c.in_ok-new.field-0) (sym c.new.ensures.entries) c.in_ok-new.ensures;
  are_candidates = subst (λ (m : Entries). AreCandidates c.args.geometry.now m c.in_ok-new-2.field-0.counts.items) (sym c.new.ensures.entries) c.in_ok-new-2.ensures;
  marked_groups = subst (λ (m : Entries). AreMarkedGroups c.args.geometry.now m c.in_ok-new-3.field-0) (sym c.new.ensures.entries) c.in_ok-new-3.ensures;
  room_pages = omega arith;
  room_groups = omega arith;
  few_pages = omega arith;
  few_groups = omega arith;
}
