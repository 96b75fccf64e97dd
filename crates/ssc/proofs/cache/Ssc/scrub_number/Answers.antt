use Rattle.std.proofs.Common.{subst}
use Rattle.ft_base.specs.declared.geometry.Geometry.{Geometry}
use Rattle.mapping.specs.Numbers.{HasNone, HasNumber}
use Rattle.merge_engine.proofs.TakeLemmas.{agree_map}
use Rattle.ssc.specs.CacheState.{entries_of, geometry_of}
use Rattle.ssc.proofs.ScrubLemmas.{scrub_more, scrub_without}
use Rattle.ssc.proofs.cache.Ssc.scrub_number.Goals as goal

pub returns-in_ok-is_own-in-Some-clause-found : goal.returns-in_ok-is_own-in-Some-clause-found
returns-in_ok-is_own-in-Some-clause-found g c =
    let old = (g.M.Media.state c.args.media.now).contents in
    let holds = c.requires.up.holds in
    scrub_more (geometry_of c.args.self.now) old.flash.page (entries_of c.args.self.now) (agree_map c.args.self.now.parts old holds.agree) c.args.i c.in-Some.lba c.in-Some.place
    (subst (λ (h : Geometry). HasNumber h (entries_of c.args.self.now) c.args.i (c.in-Some.lba, c.in-Some.place)) holds.agree.sound.of_one.map c.in-Some.ensures.some)
    c.args.before c.in_ok-is_own-in-Some.is_own c.lowest_strange.result c.in_ok-is_own-in-Some.ensures.found c.lowest_strange.ensures c.requires.before

pub returns-in-None-clause-found : goal.returns-in-None-clause-found
returns-in-None-clause-found g c =
    scrub_without (geometry_of c.args.self.now) (g.M.Media.state c.args.media.now).contents.flash.page (entries_of c.args.self.now) c.args.i c.args.before
    (subst (λ (h : Geometry). HasNone h (entries_of c.args.self.now) c.args.i) c.requires.up.holds.agree.sound.of_one.map c.in-None.ensures.none) c.requires.before
