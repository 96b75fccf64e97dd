use Rattle.std.proofs.Common.{◌≡◌, ℕ, ◌*◌, ◌<◌, List, [], length, sym, ◌∙◌, ap₂, subst, arith}
use Rattle.std.specs.Prelude.{OnOk}
use Rattle.std.proofs.lemmas.Bool.{both_ways}
use Rattle.ft_volume.specs.declared.options.Options.{Options}
use Rattle.cached_disk.specs.Kept.{dirty_of, is_down}
use Rattle.write_back.specs.Left.{in_group, out_of_group}
use Rattle.write_back.specs.Cleaning.{Proceeds}
use Rattle.write_back.proofs.CleaningLemmas.{settled_back, settled_same, unsettled_back}
use Rattle.write_back.proofs.cleaning.write_group_back.Goals as goal

pub copy_group_back-requires : goal.copy_group_back-requires
copy_group_back-requires g c =
    let serves = c.in-Ok.ensures.serves in
    record {
      may = record { left = serves.left; up = (serves.goes []).up };
      settled = c.in-Ok.ensures.settled;
      back = serves.made.1 ∙ c.requires.back;
      group = subst (λ (o : Options). c.args.group * o.geometry.p < o.geometry.size) (sym serves.made.0) c.requires.group;
    }

pub returns-in-Ok : goal.returns-in-Ok
returns-in-Ok g c =
    let v = c.args.disk.now in
    let u = c.settle_writes.new.disk in
    let w = c.copy_group_back.new.disk in
    let s = g.M.Media.state c.args.media.now in
    let m = g.M.Media.state c.settle_writes.new.media in
    let t = g.M.Media.state c.copy_group_back.new.media in
    let r = c.copy_group_back.result in
    let first = c.in-Ok.ensures in
    let then = c.copy_group_back.ensures in
    let p = v.options.geometry.p in
    let group = c.args.group in
    let dirty = first.serves.dirty (first.serves.goes []).up in
    let same_lbas = ap₂ (λ (o : Options) (l : List ℕ). in_group o.geometry.p group l) first.serves.made.0 dirty in
    let proceeds = subst (λ (l : List ℕ). Proceeds (length l) u w m t r) same_lbas then.proceeds in
    let n = length (in_group p group (dirty_of v)) in
    record {
      back = settled_back n v u w s m t r first.serves c.settle_writes.ensures.no_disk first.settled c.settle_writes.ensures.ready first.held proceeds;
      cleaned = subst (λ (l : List ℕ). OnOk r (dirty_of w ≡ l)) (ap₂ (λ (o : Options) (l : List ℕ). out_of_group o.geometry.p group l) first.serves.made.0 dirty) then.cleaned;
      same = settled_same n v u w s m t r first.serves c.settle_writes.ensures.no_disk first.settled c.settle_writes.ensures.ready first.held proceeds c.settle_writes.ensures.at_write then.same;
      flushes = let none = c.settle_writes.ensures.no_disk.disk_flushes in let most = then.flushes in omega (arith, none, most);
    }

pub returns-in-Err : goal.returns-in-Err
returns-in-Err g c =
    let v = c.args.disk.now in
    let u = c.settle_writes.new.disk in
    let s = g.M.Media.state c.args.media.now in
    let m = g.M.Media.state c.settle_writes.new.media in
    record {
      back = unsettled_back (length (in_group v.options.geometry.p c.args.group (dirty_of v))) v u s m c.in-Err.error c.in-Err.ensures.serves c.settle_writes.ensures.no_disk c.settle_writes.ensures.ready c.in-Err.ensures.refused;
      cleaned = tt;
      same = λ up. absurd (both_ways (is_down u) up c.in-Err.ensures.refused);
      flushes = let none = c.settle_writes.ensures.no_disk.disk_flushes in omega (arith, none);
    }
