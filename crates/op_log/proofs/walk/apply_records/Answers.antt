use Rattle.op_log.proofs.ApplyLemmas.{few_records}
use Rattle.op_log.proofs.walk.apply_records.Goals as goal

pub returns-clause-few : goal.returns-clause-few
returns-clause-few c = few_records _ c.apply_all.result c.count_pages.result c.count_groups.result c.args.map.now c.reserve.new.self c.apply_all.new.map c.count_pages.ensures.few c.count_groups.ensures.few
    (record {
      geometry = c.reserve.ensures.geometry;
      entries = c.reserve.ensures.entries;
      pages = c.in_ok-reserve.ensures.pages;
      groups = c.in_ok-reserve.ensures.groups;
      buckets = c.in_ok-reserve.ensures.buckets;
      group_buckets = c.in_ok-reserve.ensures.group_buckets;
    }) c.apply_all.ensures.geometry c.apply_all.ensures.pages c.apply_all.ensures.groups c.apply_all.ensures.buckets c.apply_all.ensures.value
