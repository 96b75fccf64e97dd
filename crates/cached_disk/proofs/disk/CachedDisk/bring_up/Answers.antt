use Rattle.std.proofs.Common.{◌≡◌, List, refl, rules, sym, subst, false, true, ap, arith}
use Rattle.std.proofs.lemmas.Bool.{both_ways}
use Rattle.ft_base.specs.Contents.{Shape}
use Rattle.ft_volume.specs.Volume.{opening_flushes}
use Rattle.op_log.specs.Log.{FitsOn}
use Rattle.cached_disk.specs.declared.disk.CachedDisk.{CachedDisk}
use Rattle.cached_disk.specs.Kept.{Owes, is_down, told_of}
use Rattle.std.specs.List.{list_any}
use Rattle.ft_base.specs.PlainDisk.{BlockWrite}
use Rattle.cache_model.specs.Cache.{is_write}
use Rattle.cached_disk.proofs.ReadLemmas.{down_owes, owes_down, owes_none}
use Rattle.cached_disk.proofs.DiskLemmas.{one_left}
use Rattle.cached_disk.proofs.HeldLemmas.{one_held}
use Rattle.cached_disk.proofs.OpenedLemmas.{alone_now, opened_entries, opened_left, refused_fixed, refused_left}
use Rattle.cached_disk.proofs.disk.CachedDisk.bring_up.Goals as goal

pub returns-then-not-is_down-clause-reopens : goal.returns-then-not-is_down-clause-reopens
returns-then-not-is_down-clause-reopens g c =
    let v = c.args.self.now in
    let up : is_down v ≡ false = search rules in
    record {
      made = (refl, refl);
      same = λ was. (refl, refl);
      up = up;
      opens = λ down. absurd (both_ways (is_down v) up down);
      refused = tt;
      disk_reads = refl;
      disk_writes = refl;
      disk_flushes = omega arith;
      fixed = one_held v (g.M.Media.state c.args.media.now).contents c.requires.held c.requires.own (c.requires.up up);
      ready = λ b there. there;
      within = search rules;
      cause = search rules;
      passes = search rules;
    }

pub returns-in-Ok-clause-owes : goal.returns-in-Ok-clause-owes
returns-in-Ok-clause-owes g c = λ owed owes.
    let v = c.args.self.now in
    let old = (g.M.Media.state c.args.media.now).contents in
    let new = (g.M.Media.state c.open_cache.new.media).contents in
    let w : CachedDisk = record v { cache = c.in-Ok.cache; down = false } in
    let down : is_down v ≡ true = search rules in
    let left = opened_left w old new c.requires.list c.in-Ok.ensures.opened c.in-Ok.ensures.opening.opens c.requires.beneath.flash c.requires.beneath.agrees c.requires.beneath.suits
    (subst (λ (x : Shape). FitsOn v.options.geometry x) (sym c.in-Ok.ensures.opening.goes.passes.shape) c.requires.shape) in
    subst (λ (ws : List BlockWrite). Owes w new ws) (sym (down_owes v old owed down owes)) (owes_none w new (ap (list_any is_write) c.in-Ok.ensures.opened.nothing_waits) left)

pub returns-in-Err-clause-owes : goal.returns-in-Err-clause-owes
returns-in-Err-clause-owes g c = λ owed owes.
    let v = c.args.self.now in
    let down : is_down v ≡ true = search rules in
    let new = (g.M.Media.state c.open_cache.new.media).contents in
    subst (λ (ws : List BlockWrite). Owes v new ws) (sym (down_owes v (g.M.Media.state c.args.media.now).contents owed down owes)) (owes_down v new down)

pub returns-in-Ok-clause-left : goal.returns-in-Ok-clause-left
returns-in-Ok-clause-left g c =
    let v = c.args.self.now in
    let w : CachedDisk = record v { cache = c.in-Ok.cache; down = false } in
    opened_left w (g.M.Media.state c.args.media.now).contents (g.M.Media.state c.open_cache.new.media).contents c.requires.list c.in-Ok.ensures.opened c.in-Ok.ensures.opening.opens c.requires.beneath.flash c.requires.beneath.agrees c.requires.beneath.suits
    (subst (λ (x : Shape). FitsOn v.options.geometry x) (sym c.in-Ok.ensures.opening.goes.passes.shape) c.requires.shape)

pub returns-in-Ok-clause-reopens : goal.returns-in-Ok-clause-reopens
returns-in-Ok-clause-reopens g c =
    let v = c.args.self.now in
    let old = (g.M.Media.state c.args.media.now).contents in
    let new = (g.M.Media.state c.open_cache.new.media).contents in
    let w : CachedDisk = record v { cache = c.in-Ok.cache; down = false } in
    let down : is_down v ≡ true = search rules in
    record {
      made = (refl, refl);
      same = λ up. absurd (both_ways (is_down v) up down);
      up = c.in-Ok.ensures.opened.goes;
      opens = λ was. opened_entries w v.options.geometry old new c.in-Ok.ensures.opened;
      refused = tt;
      disk_reads = search rules;
      disk_writes = search rules;
      disk_flushes = let most = c.in-Ok.ensures.opening.goes.disk_flushes in let one : opening_flushes (is_down v) ≡ 1 = ap opening_flushes down in omega (arith, most, one);
      fixed = one_left (told_of v) old new c.in-Ok.ensures.opening.opens.lists c.in-Ok.ensures.opening.opens.values (alone_now w old new c.requires.list c.in-Ok.ensures.opened c.in-Ok.ensures.opening.opens c.requires.beneath.flash);
      ready = c.in-Ok.ensures.opening.goes.ready;
      within = search rules;
      cause = search rules;
      passes = search rules;
    }

pub returns-in-Err-clause-left : goal.returns-in-Err-clause-left
returns-in-Err-clause-left g c = refused_left c.args.self.now (g.M.Media.state c.args.media.now).contents (g.M.Media.state c.open_cache.new.media).contents _ _ c.requires (search rules) c.in-Err.ensures.opening.opens c.in-Err.ensures.opening.goes.passes.shape

pub returns-in-Err-clause-reopens : goal.returns-in-Err-clause-reopens
returns-in-Err-clause-reopens g c =
    let v = c.args.self.now in
    let down : is_down v ≡ true = search rules in
    record {
      made = (refl, refl);
      same = λ up. absurd (both_ways (is_down v) up down);
      up = tt;
      opens = tt;
      refused = (down, down);
      disk_reads = search rules;
      disk_writes = search rules;
      disk_flushes = let most = c.in-Err.ensures.opening.goes.disk_flushes in let one : opening_flushes (is_down v) ≡ 1 = ap opening_flushes down in omega (arith, most, one);
      fixed = refused_fixed (told_of v) (g.M.Media.state c.args.media.now).contents (g.M.Media.state c.open_cache.new.media).contents c.in-Err.error c.open_error.result c.open_error.ensures c.in-Err.ensures.opening.opens;
      ready = tt;
      within = search rules;
      cause = search rules;
      passes = search rules;
    }
