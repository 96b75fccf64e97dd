use Rattle.std.proofs.Common.{◌≡◌, ◌≤◌, ◌+◌, length, arith, ◌∙◌, sym, ltb, w16, ap, min, take}
use Rattle.std.proofs.lemmas.Simd.{length-chunk, tops_compared}
use Rattle.std.specs.Simd.Lanes.{chunk, sel_l}
use Rattle.lanes.specs.Kernels.{least_of}
use Rattle.lanes.proofs.LeastLemmas.{least_of-lanes, length-lanes, least_of-append, take_cut}
use Rattle.lanes.proofs.least_lanes.Goals as goal

pub loop-done-preserved : goal.loop-done-preserved
loop-done-preserved c =
    let room : c.loop-done.done + 8 ≤ length c.args.counts.now = omega arith in
    let xs = c.loop-done.lanes in
    let ys = chunk c.loop-done.done 8 c.args.counts.now in
    let wide : length xs ≡ length ys = c.loop-done.invariant.wide ∙ sym (length-chunk c.loop-done.done 8 c.args.counts.now room) in
    let lesser = tops_compared w16 ltb xs ys in
    record {
      within = room;
      wide = ap (λ ms. length (sel_l ms xs ys)) lesser ∙ length-lanes xs ys wide ∙ c.loop-done.invariant.wide;
      least = ap (λ ms. least_of (sel_l ms xs ys)) lesser ∙ least_of-lanes xs ys wide
          ∙ ap (λ n. min n (least_of ys)) c.loop-done.invariant.least
          ∙ sym (ap least_of (take_cut c.loop-done.done 8 c.args.counts.now) ∙ least_of-append (take c.loop-done.done c.args.counts.now) ys);
    }
