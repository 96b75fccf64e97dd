use Rattle.std.proofs.Common.{◌≡◌, ◌≤◌, ◌+◌, ◌==◌, ℕ, cond, false, Err, Result, refl, sym, subst, ap, ◌∙◌, rules, arith}
use Rattle.std.specs.FinMap.{get}
use Rattle.std.specs.Option.{is_some}
use Rattle.ft_base.specs.Contents.{set}
use Rattle.ft_base.specs.Count.{RoseBy}
use Rattle.ft_volume.specs.Opening.{ImageIs}
use Rattle.ft_volume.specs.Volume.{Costs, Goes, StaysUp, VolumeState, WasDone, Writes}
use Rattle.ft_volume.specs.declared.volume.VolumeError.{VolumeError}
use Rattle.ssc.specs.declared.cache.Ssc.{Ssc}
use Rattle.ssc.specs.CacheState.{entries_of}
use Rattle.cached_disk.proofs.CallLemmas.{none_up, refused_costs, refused_same, same_up}
use Rattle.write_through.specs.declared.volume.WriteThrough.{WriteThrough}
use Rattle.write_through.specs.Left.{state_of}
use Rattle.ft_volume.proofs.UpLemmas.{goes_then, programs_then, was_from}
use Rattle.write_through.proofs.WriteLemmas.{fault_downs, out_up, through_asks, told_as, unwritten_costs, written_costs, written_was}
use Rattle.write_through.proofs.volume.WriteThrough.write_up.Goals as goal

pub take_out-requires : goal.take_out-requires
take_out-requires g c = record { may = record { left = c.reserve.ensures.left (g.M.Media.state c.args.media.now).contents c.requires.may.left; up = search rules; lba = search rules } }

-- the memory was refused

pub returns-in_err-reserve-clause-steps : goal.returns-in_err-reserve-clause-steps
returns-in_err-reserve-clause-steps g c =
    record {
      left = c.reserve.ensures.left (g.M.Media.state c.args.media.now).contents c.requires.may.left;
      goes = search rules;
      within = search rules;
    }

pub returns-in_err-reserve-clause-was : goal.returns-in_err-reserve-clause-was
returns-in_err-reserve-clause-was g c = λ d stand.
    let old = (g.M.Media.state c.args.media.now).contents in
    let v = state_of c.args.self.now in
    let v1 = state_of c.reserve.new.self in
    let call = Writes c.args.lba c.args.block.now in
    let is : c.from_residual.result ≡ Err c.in_err-reserve.field-0.0 = search rules in
    subst (λ (r : Result (Unit {0}) VolumeError). WasDone ImageIs call v v1 old r d) (sym is)
    (refused_same call v v1 old d refl refl (told_as v.told v1.told old d (ap (λ (s : VolumeState). s.told) c.reserve.ensures.same) stand) c.in_err-reserve.field-0.0)

-- the cache failed

pub returns-in_err-take_out-clause-was : goal.returns-in_err-take_out-clause-was
returns-in_err-take_out-clause-was g c = λ d stand.
    let old = (g.M.Media.state c.args.media.now).contents in
    let new = (g.M.Media.state c.take_out.new.media).contents in
    let v = state_of c.args.self.now in
    let v1 = state_of c.reserve.new.self in
    let v2 = state_of c.take_out.new.self in
    let before = told_as v.told v1.told old d (ap (λ (s : VolumeState). s.told) c.reserve.ensures.same) stand in
    let call = Writes c.args.lba c.args.block.now in
    let is : c.from_residual-in_err-take_out.result ≡ Err c.in_err-take_out.field-0.0 = search rules in
    subst (λ (r : Result (Unit {0}) VolumeError). WasDone ImageIs call v v2 new r d) (sym is)
    (refused_same call v v2 new d refl refl (told_as v1.told v2.told new d c.take_out.ensures.steps.goes.told (c.take_out.ensures.stands d before)) c.in_err-take_out.field-0.0)

-- the disk failed

pub returns-in_err-put_on_disk-clause-was : goal.returns-in_err-put_on_disk-clause-was
returns-in_err-put_on_disk-clause-was g c = λ d stand.
    let old = (g.M.Media.state c.args.media.now).contents in
    let mid = (g.M.Media.state c.take_out.new.media).contents in
    let new = (g.M.Media.state c.put_on_disk.new.media).contents in
    let v = state_of c.args.self.now in
    let v1 = state_of c.reserve.new.self in
    let v2 = state_of c.take_out.new.self in
    let v3 = state_of c.put_on_disk.new.self in
    let before = told_as v.told v1.told old d (ap (λ (s : VolumeState). s.told) c.reserve.ensures.same) stand in
    let between = told_as v1.told v2.told mid d c.take_out.ensures.steps.goes.told (c.take_out.ensures.stands d before) in
    let call = Writes c.args.lba c.args.block.now in
    let is : c.from_residual-in_err-put_on_disk.result ≡ Err c.in_err-put_on_disk.field-0.0 = search rules in
    subst (λ (r : Result (Unit {0}) VolumeError). WasDone ImageIs call v v3 new r d) (sym is)
    (was_from ImageIs call v v2 v3 new (Err c.in_err-put_on_disk.field-0.0) d refl (c.in_err-put_on_disk.ensures.was d between))

pub returns-in_err-put_on_disk-clause-steps : goal.returns-in_err-put_on_disk-clause-steps
returns-in_err-put_on_disk-clause-steps g c =
    let v = state_of c.args.self.now in
    let v1 = state_of c.reserve.new.self in
    let v2 = state_of c.take_out.new.self in
    let v3 = state_of c.put_on_disk.new.self in
    let a = g.M.Media.state c.args.media.now in
    let b = g.M.Media.state c.take_out.new.media in
    let e = g.M.Media.state c.put_on_disk.new.media in
    let is : c.from_residual-in_err-put_on_disk.result ≡ Err c.in_err-put_on_disk.field-0.0 = search rules in
    record {
      left = search rules;
      goes = subst (λ (r : Result (Unit {0}) VolumeError). Goes v v3 a e r) (sym is)
          (subst (λ (s : VolumeState). Goes {T = Unit {0}} s v3 a e (Err c.in_err-put_on_disk.field-0.0)) c.reserve.ensures.same
          (goes_then v1 v1 v2 v3 a b e (Err c.in_err-put_on_disk.field-0.0) refl c.in_ok-take_out.ensures.steps.goes c.in_err-put_on_disk.ensures.steps.goes c.in_err-put_on_disk.ensures.faulted));
      within = search rules;
    }

-- the block is on the disk

pub returns-clause-was : goal.returns-clause-was
returns-clause-was g c = λ d stand.
    let old = (g.M.Media.state c.args.media.now).contents in
    let mid = (g.M.Media.state c.take_out.new.media).contents in
    let put = (g.M.Media.state c.put_on_disk.new.media).contents in
    let new = (g.M.Media.state c.put_in_cache.new.media).contents in
    let v = state_of c.args.self.now in
    let v1 = state_of c.reserve.new.self in
    let v2 = state_of c.take_out.new.self in
    let v3 = state_of c.put_on_disk.new.self in
    let v4 = state_of c.put_in_cache.new.self in
    let with_block = set d c.args.lba c.args.block.now in
    let before = told_as v.told v1.told old d (ap (λ (s : VolumeState). s.told) c.reserve.ensures.same) stand in
    let between = told_as v1.told v2.told mid d c.take_out.ensures.steps.goes.told (c.take_out.ensures.stands d before) in
    let there = told_as v2.told v3.told put with_block c.put_on_disk.ensures.steps.goes.told (c.in_ok-put_on_disk.ensures.stands d between) in
    let stays = told_as v3.told v4.told new with_block c.put_in_cache.ensures.steps.goes.told (c.put_in_cache.ensures.stands with_block there) in
    written_was c.args.lba c.args.block.now v v4 new d c.put_in_cache.result refl refl stays c.put_in_cache.ensures.memory c.put_in_cache.ensures.refused

pub returns-clause-faulted : goal.returns-clause-faulted
returns-clause-faulted g c = fault_downs c.put_in_cache.result (state_of c.put_in_cache.new.self).down c.put_in_cache.ensures.refused

pub returns-clause-steps : goal.returns-clause-steps
returns-clause-steps g c =
    let v = state_of c.args.self.now in
    let v1 = state_of c.reserve.new.self in
    let v2 = state_of c.take_out.new.self in
    let v3 = state_of c.put_on_disk.new.self in
    let v4 = state_of c.put_in_cache.new.self in
    let a = g.M.Media.state c.args.media.now in
    let b = g.M.Media.state c.take_out.new.media in
    let e = g.M.Media.state c.put_on_disk.new.media in
    let f = g.M.Media.state c.put_in_cache.new.media in
    let r = c.put_in_cache.result in
    let faulted = fault_downs r v4.down c.put_in_cache.ensures.refused in
    record {
      left = search rules;
      goes = subst (λ (s : VolumeState). Goes s v4 a f r) c.reserve.ensures.same
          (goes_then v1 v1 v2 v4 a b f r refl c.in_ok-take_out.ensures.steps.goes (goes_then v2 v2 v3 v4 b e f r refl c.in_ok-put_on_disk.ensures.steps.goes c.put_in_cache.ensures.steps.goes faulted) faulted);
      within = search rules;
    }

pub returns-clause-costs : goal.returns-clause-costs
returns-clause-costs g c =
    let v = state_of c.args.self.now in
    let v1 = state_of c.reserve.new.self in
    let v3 = state_of c.put_on_disk.new.self in
    let v4 = state_of c.put_in_cache.new.self in
    let a = g.M.Media.state c.args.media.now in
    let f = g.M.Media.state c.put_in_cache.new.media in
    let r = c.put_in_cache.result in
    let before = c.take_out.ensures.no_disk.disk_writes in
    let after = c.put_in_cache.ensures.no_disk.disk_writes in
    let read_before = c.take_out.ensures.no_disk.disk_reads in
    let put = c.put_on_disk.ensures.writes.most in
    let rose : RoseBy 1 a.counts.disk_writes f.counts.disk_writes = λ below. let one = c.in_ok-put_on_disk.ensures.writes.exact (omega (arith, below, after)) in omega (arith, before, after, one) in
    let most : f.counts.disk_writes ≤ a.counts.disk_writes + 1 = omega (arith, before, after, put) in
    let reads = c.put_in_cache.ensures.no_disk.disk_reads ∙ c.put_on_disk.ensures.writes.reads ∙ read_before in
    subst (λ (s : VolumeState). Costs (Writes c.args.lba c.args.block.now) s v4 a f r) c.reserve.ensures.same
    (written_costs c.args.lba c.args.block.now v1 v3 v4 a f r (c.reserve.ensures.made.1 ∙ c.requires.may.left.mode) refl refl (c.put_on_disk.ensures.steps.goes.told ∙ c.take_out.ensures.steps.goes.told)
    (λ k. ap (λ (x : Ssc). is_some (get (entries_of x) k)) c.put_on_disk.ensures.cache ∙ c.in_ok-take_out.ensures.held k) c.put_in_cache.ensures.held rose most reads c.put_in_cache.ensures.refused)

pub returns-clause-programs : goal.returns-clause-programs
returns-clause-programs g c =
    let a = g.M.Media.state c.args.media.now in
    let b = g.M.Media.state c.take_out.new.media in
    let e = g.M.Media.state c.put_on_disk.new.media in
    let f = g.M.Media.state c.put_in_cache.new.media in
    let r = c.put_in_cache.result in
    programs_then a b f r c.in_ok-take_out.ensures.steps.goes.passes (programs_then b e f r c.in_ok-put_on_disk.ensures.steps.goes.passes c.put_in_cache.ensures.programs)

pub returns-in_err-reserve-clause-costs : goal.returns-in_err-reserve-clause-costs
returns-in_err-reserve-clause-costs g c =
    let v = state_of c.args.self.now in
    let v1 = state_of c.reserve.new.self in
    let a = g.M.Media.state c.args.media.now in
    let call = Writes c.args.lba c.args.block.now in
    let is : c.from_residual.result ≡ Err c.in_err-reserve.field-0.0 = search rules in
    subst (λ (r : Result (Unit {0}) VolumeError). Costs call v v1 a a r) (sym is) (refused_costs call v v1 (Unit {0}) a a c.in_err-reserve.field-0.0 (same_up call v v1 c.reserve.ensures.same) (omega arith) refl)

pub returns-in_err-reserve-clause-asks : goal.returns-in_err-reserve-clause-asks
returns-in_err-reserve-clause-asks g c =
    let a = g.M.Media.state c.args.media.now in
    through_asks c.args.lba c.args.block.now (state_of c.args.self.now) (state_of c.reserve.new.self) a a c.from_residual.result c.requires.may.left.mode (omega arith)

pub returns-in_err-take_out-clause-costs : goal.returns-in_err-take_out-clause-costs
returns-in_err-take_out-clause-costs g c =
    let v = state_of c.args.self.now in
    let v2 = state_of c.take_out.new.self in
    let a = g.M.Media.state c.args.media.now in
    let b = g.M.Media.state c.take_out.new.media in
    let call = Writes c.args.lba c.args.block.now in
    let is : c.from_residual-in_err-take_out.result ≡ Err c.in_err-take_out.field-0.0 = search rules in
    let reads = c.take_out.ensures.no_disk.disk_reads in
    subst (λ (r : Result (Unit {0}) VolumeError). Costs call v v2 a b r) (sym is) (refused_costs call v v2 (Unit {0}) a b c.in_err-take_out.field-0.0 (none_up call v v2 c.in_err-take_out.ensures.refused) (omega (arith, reads)) c.take_out.ensures.no_disk.disk_writes)

pub returns-in_err-take_out-clause-asks : goal.returns-in_err-take_out-clause-asks
returns-in_err-take_out-clause-asks g c =
    let same = c.take_out.ensures.no_disk.disk_flushes in
    through_asks c.args.lba c.args.block.now (state_of c.args.self.now) (state_of c.take_out.new.self) (g.M.Media.state c.args.media.now) (g.M.Media.state c.take_out.new.media) c.from_residual-in_err-take_out.result c.requires.may.left.mode (omega (arith, same))

pub returns-in_err-put_on_disk-clause-costs : goal.returns-in_err-put_on_disk-clause-costs
returns-in_err-put_on_disk-clause-costs g c =
    let v = state_of c.args.self.now in
    let v3 = state_of c.put_on_disk.new.self in
    let a = g.M.Media.state c.args.media.now in
    let e = g.M.Media.state c.put_on_disk.new.media in
    let call = Writes c.args.lba c.args.block.now in
    let is : c.from_residual-in_err-put_on_disk.result ≡ Err c.in_err-put_on_disk.field-0.0 = search rules in
    let first = c.take_out.ensures.no_disk.disk_writes in
    let put = c.put_on_disk.ensures.writes.most in
    let taken : (k : ℕ) → (state_of c.take_out.new.self).held k ≡ cond (k == c.args.lba) false (v.held k) = λ k.
    c.in_ok-take_out.ensures.held k ∙ ap (λ (s : VolumeState). cond (k == c.args.lba) false (s.held k)) c.reserve.ensures.same in
    subst (λ (r : Result (Unit {0}) VolumeError). Costs call v v3 a e r) (sym is)
    (unwritten_costs c.args.lba c.args.block.now v v3 a e c.in_err-put_on_disk.field-0.0 c.requires.may.left.mode (omega (arith, first, put)) (c.put_on_disk.ensures.writes.reads ∙ c.take_out.ensures.no_disk.disk_reads)
    (λ up. subst (λ (w : WriteThrough). StaysUp call v (state_of w)) (sym (c.in_err-put_on_disk.ensures.same up)) (out_up c.args.lba c.args.block.now v (state_of c.take_out.new.self) refl refl taken)))

pub returns-in_err-put_on_disk-clause-asks : goal.returns-in_err-put_on_disk-clause-asks
returns-in_err-put_on_disk-clause-asks g c =
    let same = c.take_out.ensures.no_disk.disk_flushes in
    let most = c.put_on_disk.ensures.flushes in
    through_asks c.args.lba c.args.block.now (state_of c.args.self.now) (state_of c.put_on_disk.new.self) (g.M.Media.state c.args.media.now) (g.M.Media.state c.put_on_disk.new.media) c.from_residual-in_err-put_on_disk.result c.requires.may.left.mode (omega (arith, same, most))

pub returns-clause-asks : goal.returns-clause-asks
returns-clause-asks g c =
    let same = c.take_out.ensures.no_disk.disk_flushes in
    let most = c.put_on_disk.ensures.flushes in
    let still = c.put_in_cache.ensures.no_disk.disk_flushes in
    through_asks c.args.lba c.args.block.now (state_of c.args.self.now) (state_of c.put_in_cache.new.self) (g.M.Media.state c.args.media.now) (g.M.Media.state c.put_in_cache.new.media) c.put_in_cache.result c.requires.may.left.mode (omega (arith, same, most, still))
