use Rattle.std.proofs.Common.{◌≡◌, false, [], Ok, Err, sym, ◌∙◌, ap, rules}
use Rattle.std.proofs.lemmas.Bool.{both_ways}
use Rattle.ft_volume.specs.Volume.{dirty_lbas}
use Rattle.ft_volume.specs.declared.volume.Report.{Report}
use Rattle.mapping.specs.Counts.{held_count}
use Rattle.ssc.specs.declared.cache.Ssc.{Ssc}
use Rattle.ssc.specs.CacheState.{entries_of, pending}
use Rattle.cached_disk.specs.declared.disk.CachedDisk.{CachedDisk}
use Rattle.cached_disk.specs.Kept.{is_down, state_in}
use Rattle.cached_disk.proofs.ReadLemmas.{stays_then}
use Rattle.cached_disk.proofs.HeldLemmas.{is_up, left_same}
use Rattle.cached_disk.proofs.ReportLemmas.{asks_read, costs_at, costs_read, costs_unread, goes_at, goes_both, goes_read, goes_unread, loads_left, not_disk, report_is}
use Rattle.cached_disk.proofs.disk.CachedDisk.report.Goals as goal

-- the flush failed

pub returns-in-Err-clause-serves : goal.returns-in-Err-clause-serves
returns-in-Err-clause-serves g c =
    let v = c.args.self.now in
    let u = c.flush.new.self in
    let mid = (g.M.Media.state c.flush.new.media).contents in
    record {
      left = search rules;
      keeps = c.flush.ensures.serves.keeps;
      found = tt;
      goes = λ order. goes_at {S = Unit {0}} {T = Report} (state_in order c.args.self.now) (state_in order c.flush.new.self) (g.M.Media.state c.args.media.now) (g.M.Media.state c.flush.new.media) c.in-Err.error (c.in-Err.ensures.serves.goes order);
      dirty = search rules;
      made = search rules;
      within = search rules;
    }

pub returns-in-Err-clause-costs : goal.returns-in-Err-clause-costs
returns-in-Err-clause-costs g c = λ order. costs_at {S = Unit {0}} {T = Report} (state_in order c.args.self.now) (state_in order c.flush.new.self) (g.M.Media.state c.args.media.now) (g.M.Media.state c.flush.new.media) c.in-Err.error (c.in-Err.ensures.costs order)

pub returns-in-Err-clause-asks : goal.returns-in-Err-clause-asks
returns-in-Err-clause-asks g c = λ order. record { flushes = (c.flush.ensures.asks order).flushes; found = λ none. absurd none; two_programs = tt; one_program = tt }

pub returns-in-Err-clause-nothing_waits : goal.returns-in-Err-clause-nothing_waits
returns-in-Err-clause-nothing_waits g c = λ up. absurd (both_ways (is_down c.flush.new.self) up c.in-Err.ensures.refused)

-- all is on the flash

pub scrub-requires : goal.scrub-requires
scrub-requires g c =
    let u = c.flush.new.self in
    let left = c.flush.ensures.serves.left in
    let up : is_down u ≡ false = (c.in_default.ensures.serves.goes []).up in
    record { up = is_up u (g.M.Media.state c.flush.new.media).contents left.held up (left.up up) }

-- each page was read

pub returns-in-Ok-clause-serves : goal.returns-in-Ok-clause-serves
returns-in-Ok-clause-serves g c =
    let v = c.args.self.now in
    let u = c.flush.new.self in
    let w : CachedDisk = record u { cache = c.scrub.new.self } in
    let before = g.M.Media.state c.args.media.now in
    record {
      left = left_same c.flush.new.self c.scrub.new.self (g.M.Media.state c.flush.new.media).contents (g.M.Media.state c.scrub.new.media).contents c.scrub.ensures.same c.scrub.ensures.reads.contents c.flush.ensures.serves.left;
      keeps = stays_then v u w before.contents (g.M.Media.state c.flush.new.media).contents (g.M.Media.state c.scrub.new.media).contents (ap (λ (k : Ssc). record u { cache = k }) c.scrub.ensures.same) c.scrub.ensures.reads.contents c.flush.ensures.serves.keeps;
      found = λ owed owes base stand. tt;
      goes = λ order.
          let mid = g.M.Media.state c.flush.new.media in
          let after = g.M.Media.state c.scrub.new.media in
          let first = c.in_default.ensures.serves.goes order in
          let same = ap (λ (k : Ssc). state_in order (record u { cache = k })) c.scrub.ensures.same in
          let up : is_down w ≡ false = ap (λ (k : Ssc). is_down (record u { cache = k })) c.scrub.ensures.same ∙ first.up in
          goes_both (state_in order v) (state_in order u) (state_in order w) before mid after tt (Ok _) first (goes_read Report (state_in order u) (state_in order w) same mid after up _ c.in-Ok.ensures.reads) (λ is. absurd (cc));
      dirty = λ still. ap (λ (k : Ssc). dirty_lbas (entries_of k)) c.scrub.ensures.same ∙ c.in_default.ensures.serves.dirty (c.in_default.ensures.serves.goes []).up;
      made = search rules;
      within = search rules;
    }

pub returns-in-Ok-clause-costs : goal.returns-in-Ok-clause-costs
returns-in-Ok-clause-costs g c = λ order.
    let u = c.flush.new.self in
    let w : CachedDisk = record u { cache = c.scrub.new.self } in
    let same = ap (λ (k : Ssc). state_in order (record u { cache = k })) c.scrub.ensures.same in
    costs_read (state_in order c.args.self.now) (state_in order u) (state_in order w) same (g.M.Media.state c.args.media.now) (g.M.Media.state c.flush.new.media) (g.M.Media.state c.scrub.new.media) tt c.scrub.ensures.reads.counts (c.in_default.ensures.costs order) _

pub returns-in-Ok-clause-asks : goal.returns-in-Ok-clause-asks
returns-in-Ok-clause-asks g c = λ order.
    let u = c.flush.new.self in
    let w : CachedDisk = record u { cache = c.scrub.new.self } in
    let same = ap (λ (k : Ssc). state_in order (record u { cache = k })) c.scrub.ensures.same in
    asks_read (state_in order c.args.self.now) (state_in order u) (state_in order w) same (g.M.Media.state c.args.media.now) (g.M.Media.state c.flush.new.media) (g.M.Media.state c.scrub.new.media) tt c.scrub.ensures.reads.counts (c.in_default.ensures.costs order) (Ok _) (c.in_default.ensures.asks order)

pub returns-in-Ok-clause-report : goal.returns-in-Ok-clause-report
returns-in-Ok-clause-report g c =
    let u = c.flush.new.self in
    let w : CachedDisk = record u { cache = c.scrub.new.self } in
    let mid = (g.M.Media.state c.flush.new.media).contents in
    let after = (g.M.Media.state c.scrub.new.media).contents in
    let left = left_same u c.scrub.new.self mid after c.scrub.ensures.same c.scrub.ensures.reads.contents c.flush.ensures.serves.left in
    let up : is_down w ≡ false = ap (λ (k : Ssc). is_down (record u { cache = k })) c.scrub.ensures.same ∙ (c.in_default.ensures.serves.goes []).up in
    report_is c.args.self.now w after c.flush.ensures.serves.made.0 left up (ap pending c.scrub.ensures.same ∙ c.in_default.ensures.nothing_waits) _ c.held.ensures.count c.dirty_groups.ensures.count c.dirty_groups.ensures.most c.buckets.ensures.bound c.buckets.ensures.few
    (c.in-Ok.ensures.found.pages ∙ ap (λ (k : Ssc). held_count (entries_of k)) (sym c.scrub.ensures.same))

pub returns-in-Ok-clause-loads : goal.returns-in-Ok-clause-loads
returns-in-Ok-clause-loads g c =
    let u = c.flush.new.self in
    let w : CachedDisk = record u { cache = c.scrub.new.self } in
    let mid = (g.M.Media.state c.flush.new.media).contents in
    let after = (g.M.Media.state c.scrub.new.media).contents in
    let left = left_same u c.scrub.new.self mid after c.scrub.ensures.same c.scrub.ensures.reads.contents c.flush.ensures.serves.left in
    let up : is_down w ≡ false = ap (λ (k : Ssc). is_down (record u { cache = k })) c.scrub.ensures.same ∙ (c.in_default.ensures.serves.goes []).up in
    loads_left c.args.self.now w after c.flush.ensures.serves.made.0 left up (ap pending c.scrub.ensures.same ∙ c.in_default.ensures.nothing_waits)

pub returns-in-Ok-clause-nothing_waits : goal.returns-in-Ok-clause-nothing_waits
returns-in-Ok-clause-nothing_waits g c = λ up. ap pending c.scrub.ensures.same ∙ c.in_default.ensures.nothing_waits

-- a page could not be read

pub returns-in-Err-scrub-clause-serves : goal.returns-in-Err-scrub-clause-serves
returns-in-Err-scrub-clause-serves g c =
    let v = c.args.self.now in
    let u = c.flush.new.self in
    let w : CachedDisk = record u { cache = c.scrub.new.self } in
    let before = g.M.Media.state c.args.media.now in
    record {
      left = left_same c.flush.new.self c.scrub.new.self (g.M.Media.state c.flush.new.media).contents (g.M.Media.state c.scrub.new.media).contents c.scrub.ensures.same c.scrub.ensures.reads.contents c.flush.ensures.serves.left;
      keeps = stays_then v u w before.contents (g.M.Media.state c.flush.new.media).contents (g.M.Media.state c.scrub.new.media).contents (ap (λ (k : Ssc). record u { cache = k }) c.scrub.ensures.same) c.scrub.ensures.reads.contents c.flush.ensures.serves.keeps;
      found = tt;
      goes = λ order.
          let mid = g.M.Media.state c.flush.new.media in
          let after = g.M.Media.state c.scrub.new.media in
          let first = c.in_default.ensures.serves.goes order in
          let same = ap (λ (k : Ssc). state_in order (record u { cache = k })) c.scrub.ensures.same in
          let up : is_down w ≡ false = ap (λ (k : Ssc). is_down (record u { cache = k })) c.scrub.ensures.same ∙ first.up in
          goes_both (state_in order v) (state_in order u) (state_in order w) before mid after tt (Err c.cache_error.result) first
          (goes_unread Report (state_in order u) (state_in order w) same mid after up c.in-Err-scrub.error c.cache_error.result c.cache_error.ensures c.in-Err-scrub.ensures.reads)
          (λ is. not_disk c.in-Err-scrub.error c.cache_error.result c.cache_error.ensures (cc));
      dirty = λ still. ap (λ (k : Ssc). dirty_lbas (entries_of k)) c.scrub.ensures.same ∙ c.in_default.ensures.serves.dirty (c.in_default.ensures.serves.goes []).up;
      made = search rules;
      within = search rules;
    }

pub returns-in-Err-scrub-clause-costs : goal.returns-in-Err-scrub-clause-costs
returns-in-Err-scrub-clause-costs g c = λ order.
    let u = c.flush.new.self in
    let w : CachedDisk = record u { cache = c.scrub.new.self } in
    let same = ap (λ (k : Ssc). state_in order (record u { cache = k })) c.scrub.ensures.same in
    costs_unread (state_in order c.args.self.now) (state_in order u) (state_in order w) same (g.M.Media.state c.args.media.now) (g.M.Media.state c.flush.new.media) (g.M.Media.state c.scrub.new.media) tt c.scrub.ensures.reads.counts (c.in_default.ensures.costs order) Report c.cache_error.result
    c.in_default.ensures.held

pub returns-in-Err-scrub-clause-asks : goal.returns-in-Err-scrub-clause-asks
returns-in-Err-scrub-clause-asks g c = λ order.
    let u = c.flush.new.self in
    let w : CachedDisk = record u { cache = c.scrub.new.self } in
    let same = ap (λ (k : Ssc). state_in order (record u { cache = k })) c.scrub.ensures.same in
    asks_read (state_in order c.args.self.now) (state_in order u) (state_in order w) same (g.M.Media.state c.args.media.now) (g.M.Media.state c.flush.new.media) (g.M.Media.state c.scrub.new.media) tt c.scrub.ensures.reads.counts (c.in_default.ensures.costs order)
    (Err c.cache_error.result) (c.in_default.ensures.asks order)

pub returns-in-Err-scrub-clause-nothing_waits : goal.returns-in-Err-scrub-clause-nothing_waits
returns-in-Err-scrub-clause-nothing_waits g c = λ up. ap pending c.scrub.ensures.same ∙ c.in_default.ensures.nothing_waits

pub returns-in-Err-scrub-clause-faulted : goal.returns-in-Err-scrub-clause-faulted
returns-in-Err-scrub-clause-faulted g c = λ is. absurd (not_disk c.in-Err-scrub.error c.cache_error.result c.cache_error.ensures (cc))
