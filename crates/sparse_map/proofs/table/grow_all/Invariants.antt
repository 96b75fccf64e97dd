use Rattle.std.proofs.Common.{◌≡◌, ◌≤◌}
use Rattle.std.specs.List.{AllWithin}
use Rattle.sparse_map.specs.Groups.{all_slots}
use Rattle.sparse_map.specs.Trimmed.{IsReady}
use Rattle.sparse_map.specs.declared.table.Touched.{Touched}
use Rattle.sparse_map.specs.Places.{sizes_of, loose_of, lacking, past_of}
use Rattle.sparse_map.proofs.table.grow_all.Given as goal

abbrev pub invariant-loop-group : goal.invariant-loop-group
invariant-loop-group g l = record {
  slots : all_slots l.groups ≡ all_slots l.initial.groups;
  short : past_of (sizes_of l.groups) ≤ past_of (sizes_of l.initial.groups);
  loose : (t : Touched) → loose_of t (sizes_of l.groups) ≤ loose_of t (sizes_of l.initial.groups);
  lacking : (t : Touched) → lacking 1 t (sizes_of l.groups) ≤ lacking 1 t (sizes_of l.initial.groups);
  ready : AllWithin IsReady l.groups 0 l.group-index;
}
