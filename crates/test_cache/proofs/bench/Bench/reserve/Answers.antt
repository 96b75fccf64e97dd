use Rattle.std.proofs.Common.{◌≡◌, Bool, ap, ◌∙◌}
use Rattle.ft_base.specs.Contents.{Contents}
use Rattle.ft_base.specs.declared.geometry.Geometry.{Geometry}
use Rattle.cache_model.specs.CacheList.{CacheList}
use Rattle.mem_rig.specs.Rig.{state_of}
use Rattle.ssc.specs.declared.cache.Ssc.{Ssc}
use Rattle.ssc.specs.CacheState.{Holds, geometry_of}
use Rattle.test_cache.specs.Fits.{FitTogether}
use Rattle.test_cache.proofs.bench.Bench.reserve.Goals as goal

fit_reserved : (going : Bool) (c d : Ssc) (contents : Contents) → FitTogether going c contents → geometry_of d ≡ geometry_of c → d.stopped ≡ c.stopped → ((k : Contents) (s : CacheList) → Holds c k s → Holds d k s) → FitTogether going d contents
fit_reserved going c d contents fit same stopped holds = record {
  size = ap (λ (g : Geometry). g.size) same ∙ fit.size;
  up = λ is_going.
      let up = fit.up is_going in
      record { list = up.list; holds = holds contents up.list up.holds; up = stopped ∙ up.up };
}

pub invariant_of-self : goal.invariant_of-self
invariant_of-self c = fit_reserved c.self.inside.going c.self.inside.cache c.reserve.new.self (state_of c.self.inside.rig).contents c.self.invariant c.reserve.ensures.same c.reserve.ensures.stopped (λ k s h. (c.reserve.ensures.holds k s h).holds)
