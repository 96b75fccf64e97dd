use Rattle.std.proofs.Common.{◌+◌, false, sym, subst, arith}
use Rattle.ft_base.specs.Contents.{Contents}
use Rattle.ft_base.specs.declared.geometry.Geometry.{Geometry}
use Rattle.ft_media.proofs.DrivesLemmas.{reads_none, reads_then}
use Rattle.mapping.specs.Numbers.{AreNumbered}
use Rattle.ssc.specs.CacheState.{IsUp, entries_of, geometry_of}
use Rattle.ssc.specs.Scrubbed.{IsScrubBelow}
use Rattle.ssc.proofs.ScrubLemmas.{own_scrub, reads_refused, scrub_all, scrub_none}
use Rattle.ssc.proofs.cache.Ssc.scrub.Goals as goal

pub loop-i-init : goal.loop-i-init
loop-i-init g c = record {
  reads = reads_none (g.M.Media.state c.args.media.now);
  so_far = scrub_none (geometry_of c.args.self.now) (g.M.Media.state c.args.media.now).contents.flash.page (entries_of c.args.self.now);
}

pub scrub_number-requires-clause-up : goal.scrub_number-requires-clause-up
scrub_number-requires-clause-up g c = subst (λ (k : Contents). IsUp c.args.self.now k) (sym c.loop-i.invariant.reads.contents) c.requires.up

pub scrub_number-requires-clause-before : goal.scrub_number-requires-clause-before
scrub_number-requires-clause-before g c = subst (λ (k : Contents). IsScrubBelow (geometry_of c.args.self.now) k.flash.page (entries_of c.args.self.now) c.loop-i.i c.loop-i.found) (sym c.loop-i.invariant.reads.contents) c.loop-i.invariant.so_far

pub loop-i-preserved : goal.loop-i-preserved
loop-i-preserved g c = record {
  reads = reads_then _ _ _ false false c.loop-i.invariant.reads c.in_ok-found.ensures.only.reads;
  so_far = subst (λ (k : Contents). IsScrubBelow (geometry_of c.args.self.now) k.flash.page (entries_of c.args.self.now) (c.loop-i.i + 1) c.in_ok-found.found) c.loop-i.invariant.reads.contents c.in_ok-found.ensures.found;
}

pub returns-in_err-found-clause-reads : goal.returns-in_err-found-clause-reads
returns-in_err-found-clause-reads g c =
    reads_refused (g.M.Media.state c.args.media.now) (g.M.Media.state c.loop-i.media) (g.M.Media.state c.scrub_number.new.media) c.from_residual.result c.in_err-found.field-0.0 c.from_residual.ensures.1 c.loop-i.invariant.reads c.in_err-found.ensures.only.reads

pub returns-clause-found : goal.returns-clause-found
returns-clause-found g c =
    scrub_all (geometry_of c.args.self.now) (g.M.Media.state c.args.media.now).contents.flash.page (entries_of c.args.self.now) c.loop-i.i c.loop-i.found
    (subst (λ (h : Geometry). AreNumbered h (entries_of c.args.self.now) c.loop-i.i) c.requires.up.holds.agree.sound.of_one.map (λ a e is. let low = c.numbers-i-end.ensures.each a e is in let past = c.loop-i-test.false in omega arith)) c.loop-i.invariant.so_far

pub returns-clause-own : goal.returns-clause-own
returns-clause-own g c = λ s holds.
    own_scrub (geometry_of c.args.self.now) (g.M.Media.state c.args.media.now).contents.flash.page (entries_of c.args.self.now) c.loop-i.found s (returns-clause-found g c) holds.lists.held holds.agree.sound.whole

pub returns-clause-reads : goal.returns-clause-reads
returns-clause-reads g c = c.loop-i.invariant.reads
