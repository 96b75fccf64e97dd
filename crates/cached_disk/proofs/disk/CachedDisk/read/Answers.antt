use Rattle.std.proofs.lemmas.Result.{on_ok_weaker}
use Rattle.ft_base.specs.PlainDisk.{BlockWrite, after_writes}
use Rattle.std.proofs.Common.{◌≡◌, Bool, true, false, List, Ok, Err, refl, rules, sym, ◌∙◌, ap, subst, arith}
use Rattle.std.specs.FinMap.{get}
use Rattle.std.specs.Option.{is_some}
use Rattle.ft_base.specs.Contents.{Contents}
use Rattle.ft_media.specs.declared.rig.Counts.{Counts}
use Rattle.ft_volume.specs.Opening.{ImageIs}
use Rattle.ft_volume.specs.Volume.{Costs, Goes, Reads}
use Rattle.ft_volume.specs.Standing.{StandFor}
use Rattle.ssc.specs.declared.cache.Ssc.{Ssc}
use Rattle.ssc.specs.CacheState.{entries_of}
use Rattle.ssc.specs.Commands.{ReadOf}
use Rattle.cached_disk.specs.declared.disk.CachedDisk.{CachedDisk}
use Rattle.cached_disk.specs.Kept.{state_in, told_of}
use Rattle.cached_disk.proofs.CallLemmas.{asks_held, asks_missing, costs_after, goes_after, reads_as, refused_costs, same_up}
use Rattle.cached_disk.proofs.HeldLemmas.{found_held, is_up, left_same, read_absent}
use Rattle.cached_disk.proofs.ReadLemmas.{absent_entry, owes_held, same_owes, stays_after, stays_same}
use Rattle.cached_disk.proofs.disk.CachedDisk.read.Goals as goal

pub read-requires-clause-up : goal.read-requires-clause-up
read-requires-clause-up g c =
    is_up c.args.self.now (g.M.Media.state c.args.media.now).contents c.requires.may.left.held c.requires.may.up (c.requires.may.left.up c.requires.may.up)

-- the cache doesn't hold it

pub read_missing-requires-clause-may : goal.read_missing-requires-clause-may
read_missing-requires-clause-may g c =
    let v = c.args.self.now in
    let old = (g.M.Media.state c.args.media.now).contents in
    let mid = (g.M.Media.state c.read.new.media).contents in
    record { left = left_same v c.read.new.self old mid c.read.ensures.same c.read.ensures.reads.contents c.requires.may.left; up = search rules }

pub read_missing-requires-clause-absent : goal.read_missing-requires-clause-absent
read_missing-requires-clause-absent g c =
    let v = c.args.self.now in
    let old = (g.M.Media.state c.args.media.now).contents in
    let s = c.requires.may.left.held in
    let holds = (c.requires.may.left.up c.requires.may.up).holds in
    let is : c.in-Ok-false.field-0 ≡ false = search rules in
    let read : ReadOf (get s c.args.lba) false c.read.new.block = subst (λ (x : Bool). ReadOf (get s c.args.lba) x c.read.new.block) is (c.in-Ok-false.ensures.found s holds) in
    ap (λ (k : Ssc). get (entries_of k) c.args.lba) c.read.ensures.same ∙ absent_entry v.cache old s holds c.args.lba (read_absent (get s c.args.lba) c.read.new.block read)

pub returns-in-Ok-false-clause-serves : goal.returns-in-Ok-false-clause-serves
returns-in-Ok-false-clause-serves g c =
    let v = c.args.self.now in
    let u : CachedDisk = record v { cache = c.read.new.self } in
    let before = g.M.Media.state c.args.media.now in
    let between = g.M.Media.state c.read.new.media in
    let after = g.M.Media.state c.read_missing.new.media in
    let same = ap (λ (k : Ssc). record v { cache = k }) c.read.ensures.same in
    record {
      left = search rules;
      keeps = stays_after v u c.read_missing.new.self before.contents between.contents after.contents (same_owes v u before.contents between.contents same c.read.ensures.reads.contents) (λ d stand. subst (λ (x : Contents). StandFor (ImageIs (told_of v)) x d) (sym c.read.ensures.reads.contents) stand) refl c.read_missing.ensures.serves.keeps;
      found = on_ok_weaker c.read_missing.result (λ found owed owes base stand. found owed (same_owes v u before.contents between.contents same c.read.ensures.reads.contents owed owes) base (subst (λ (x : Contents). StandFor (ImageIs (told_of v)) x base) (sym c.read.ensures.reads.contents) stand)) c.read_missing.ensures.serves.found;
      goes = λ order. subst (λ (k : Ssc). Goes (state_in order (record v { cache = k })) (state_in order c.read_missing.new.self) before after c.read_missing.result) c.read.ensures.same
          (goes_after before between after c.read.ensures.reads.contents (c.in-Ok-false.ensures.reads.cause.none refl refl)
          c.in-Ok-false.ensures.reads.passes (state_in order u) (state_in order c.read_missing.new.self) c.read_missing.result (c.read_missing.ensures.serves.goes order));
      dirty = search rules;
      made = search rules;
      within = search rules;
    }

pub returns-in-Ok-false-clause-costs : goal.returns-in-Ok-false-clause-costs
returns-in-Ok-false-clause-costs g c = λ order.
    let v = c.args.self.now in
    let u : CachedDisk = record v { cache = c.read.new.self } in
    let before = g.M.Media.state c.args.media.now in
    let between = g.M.Media.state c.read.new.media in
    let after = g.M.Media.state c.read_missing.new.media in
    let call = Reads c.args.lba c.read_missing.new.block in
    subst (λ (k : Ssc). Costs call (state_in order (record v { cache = k })) (state_in order c.read_missing.new.self) before after c.read_missing.result) c.read.ensures.same
    (costs_after before between after c.read.ensures.reads.contents (c.in-Ok-false.ensures.reads.cause.none refl refl)
    c.in-Ok-false.ensures.reads.passes (state_in order u) (state_in order c.read_missing.new.self)
    c.read_missing.result call c.in-Ok-false.ensures.reads.counts (c.read_missing.ensures.costs order))

pub returns-in-Ok-false-clause-asks : goal.returns-in-Ok-false-clause-asks
returns-in-Ok-false-clause-asks g c = λ order.
    let v = c.args.self.now in
    let old = (g.M.Media.state c.args.media.now).contents in
    let s = c.requires.may.left.held in
    let holds = (c.requires.may.left.up c.requires.may.up).holds in
    let is : c.in-Ok-false.field-0 ≡ false = search rules in
    let read : ReadOf (get s c.args.lba) false c.read.new.block = subst (λ (x : Bool). ReadOf (get s c.args.lba) x c.read.new.block) is (c.in-Ok-false.ensures.found s holds) in
    let absent = absent_entry v.cache old s holds c.args.lba (read_absent (get s c.args.lba) c.read.new.block read) in
    asks_missing c.args.lba c.read_missing.new.block (state_in order v) (state_in order c.read_missing.new.self) (g.M.Media.state c.args.media.now) (g.M.Media.state c.read_missing.new.media) c.read_missing.result (ap is_some absent)
    (c.read_missing.ensures.disk_flushes ∙ ap (λ (x : Counts). x.disk_flushes) c.read.ensures.reads.counts)

-- the cache holds it

pub returns-in-Ok-true-clause-asks : goal.returns-in-Ok-true-clause-asks
returns-in-Ok-true-clause-asks g c = λ order.
    let v = c.args.self.now in
    let w : CachedDisk = record v { cache = c.read.new.self } in
    asks_held c.args.lba c.read.new.block (state_in order v) (state_in order w) (g.M.Media.state c.args.media.now) (g.M.Media.state c.read.new.media) (Ok tt) (ap (λ (k : Ssc). state_in order (record v { cache = k })) c.read.ensures.same) c.in-Ok-true.ensures.reads

pub returns-in-Ok-true-clause-serves : goal.returns-in-Ok-true-clause-serves
returns-in-Ok-true-clause-serves g c =
    let v = c.args.self.now in
    let old = (g.M.Media.state c.args.media.now).contents in
    let mid = (g.M.Media.state c.read.new.media).contents in
    let w : CachedDisk = record v { cache = c.read.new.self } in
    let is : c.in-Ok-true.field-0 ≡ true = search rules in
    record {
      left = left_same v c.read.new.self old mid c.read.ensures.same c.read.ensures.reads.contents c.requires.may.left;
      keeps = stays_same v w old mid (ap (λ (k : Ssc). record v { cache = k }) c.read.ensures.same) c.read.ensures.reads.contents;
      found = λ owed owes base stand.
          let was = owes_held v old owed c.requires.may.up owes in
          let read : ReadOf (get was.0 c.args.lba) true c.read.new.block = subst (λ (x : Bool). ReadOf (get was.0 c.args.lba) x c.read.new.block) is (c.in-Ok-true.ensures.found was.0 was.1.holds) in
          subst (λ (ws : List BlockWrite). c.read.new.block ≡ after_writes ws base c.args.lba) (sym was.2) (found_held v old was.0 c.requires.may.left.own was.1 c.args.lba c.read.new.block c.requires.lba read base stand);
      goes = search rules;
      dirty = search rules;
      made = search rules;
      within = search rules;
    }

-- the flash failed

pub returns-in-Err-clause-serves : goal.returns-in-Err-clause-serves
returns-in-Err-clause-serves g c =
    let v = c.args.self.now in
    let old = (g.M.Media.state c.args.media.now).contents in
    let mid = (g.M.Media.state c.read.new.media).contents in
    let w : CachedDisk = record v { cache = c.read.new.self } in
    record {
      left = left_same v c.read.new.self old mid c.read.ensures.same c.read.ensures.reads.contents c.requires.may.left;
      keeps = stays_same v w old mid (ap (λ (k : Ssc). record v { cache = k }) c.read.ensures.same) c.read.ensures.reads.contents;
      found = tt;
      goes = search rules;
      dirty = search rules;
      made = search rules;
      within = search rules;
    }

pub returns-in-Err-clause-costs : goal.returns-in-Err-clause-costs
returns-in-Err-clause-costs g c = λ order.
    let v = c.args.self.now in
    let w : CachedDisk = record v { cache = c.read.new.self } in
    let reads = ap (λ (x : Counts). x.disk_reads) c.read.ensures.reads.counts in
    refused_costs (Reads c.args.lba c.read.new.block) (state_in order v) (state_in order w) (Unit {0}) (g.M.Media.state c.args.media.now) (g.M.Media.state c.read.new.media) c.cache_error.result
    (same_up (Reads c.args.lba c.read.new.block) (state_in order v) (state_in order w) (ap (λ (k : Ssc). state_in order (record v { cache = k })) c.read.ensures.same))
    (omega (arith, reads)) (ap (λ (x : Counts). x.disk_writes) c.read.ensures.reads.counts)

pub returns-in-Err-clause-asks : goal.returns-in-Err-clause-asks
returns-in-Err-clause-asks g c = λ order.
    let v = c.args.self.now in
    let w : CachedDisk = record v { cache = c.read.new.self } in
    let before = g.M.Media.state c.args.media.now in
    let after = g.M.Media.state c.read.new.media in
    asks_held c.args.lba c.read.new.block (state_in order v) (state_in order w) before after (Err c.cache_error.result) (ap (λ (k : Ssc). state_in order (record v { cache = k })) c.read.ensures.same)
    (reads_as Bool (Unit {0}) before after c.in-Err.error c.cache_error.result c.cache_error.ensures c.in-Err.ensures.reads)
