use Rattle.std.specs.List.{list_any}
use Rattle.cache_model.specs.Cache.{is_write}
use Rattle.cached_disk.proofs.ReadLemmas.{owes_none}
use Rattle.std.proofs.Common.{refl, rules, sym, subst, ◌∙◌, false, ap, arith, ℕ}
use Rattle.ft_base.specs.Contents.{Shape, Values}
use Rattle.ft_volume.specs.Opening.{nothing_held}
use Rattle.ft_media.proofs.PassesLemmas.{passes_then}
use Rattle.op_log.specs.Log.{FitsOn}
use Rattle.cached_disk.specs.declared.disk.CachedDisk.{CachedDisk}
use Rattle.cached_disk.proofs.OpenedLemmas.{empty_volume, none_agrees, none_suits, opened_fresh, opened_left, opened_stands}
use Rattle.cached_disk.proofs.disk.CachedDisk.create.Goals as goal

pub returns-in-Ok-clause-owns : goal.returns-in-Ok-clause-owns
returns-in-Ok-clause-owns g c =
    let v : CachedDisk = record { alloc = c.args.alloc; options = c.args.options.now; mode = c.args.mode; cache = c.in-Ok.cache; down = false } in
    let mid = (g.M.Media.state c.format.new.media).contents in
    opened_left v mid (g.M.Media.state c.open_cache.new.media).contents nothing_held c.in-Ok.ensures.opened c.in-Ok.ensures.opening.opens c.in_default.ensures.done (none_agrees mid.disk) (none_suits v.mode)
    (subst (λ (x : Shape). FitsOn c.args.options.now.geometry x) (sym (c.in-Ok.ensures.opening.goes.passes.shape ∙ c.format.ensures.drives.passes.shape)) c.requires.shape)

pub returns-in-Ok-clause-owes : goal.returns-in-Ok-clause-owes
returns-in-Ok-clause-owes g c =
    let v : CachedDisk = record { alloc = c.args.alloc; options = c.args.options.now; mode = c.args.mode; cache = c.in-Ok.cache; down = false } in
    let mid = (g.M.Media.state c.format.new.media).contents in
    let new = (g.M.Media.state c.open_cache.new.media).contents in
    owes_none v new (ap (list_any is_write) c.in-Ok.ensures.opened.nothing_waits)
    (opened_left v mid new nothing_held c.in-Ok.ensures.opened c.in-Ok.ensures.opening.opens c.in_default.ensures.done (none_agrees mid.disk) (none_suits v.mode)
    (subst (λ (x : Shape). FitsOn c.args.options.now.geometry x) (sym (c.in-Ok.ensures.opening.goes.passes.shape ∙ c.format.ensures.drives.passes.shape)) c.requires.shape))

pub returns-in-Ok-clause-opened : goal.returns-in-Ok-clause-opened
returns-in-Ok-clause-opened g c =
    let v : CachedDisk = record { alloc = c.args.alloc; options = c.args.options.now; mode = c.args.mode; cache = c.in-Ok.cache; down = false } in
    opened_fresh v (g.M.Media.state c.format.new.media).contents (g.M.Media.state c.open_cache.new.media).contents nothing_held c.in-Ok.ensures.opened c.in-Ok.ensures.opening.opens c.in_default.ensures.done refl

pub returns-in-Ok-clause-creates : goal.returns-in-Ok-clause-creates
returns-in-Ok-clause-creates g c =
    let v : CachedDisk = record { alloc = c.args.alloc; options = c.args.options.now; mode = c.args.mode; cache = c.in-Ok.cache; down = false } in
    let mid = (g.M.Media.state c.format.new.media).contents in
    record {
      stands = λ d is.
          opened_stands v mid (g.M.Media.state c.open_cache.new.media).contents nothing_held c.in-Ok.ensures.opened c.in-Ok.ensures.opening.opens c.in_default.ensures.done (none_agrees mid.disk) (none_suits v.mode) d
          (empty_volume c.args.options.now.geometry mid (g.M.Media.state c.args.media.now).contents d (λ a. ap (λ (f : ℕ → Values). f a) (c.in_default.ensures.drives.disk.stays refl)) is);
      values = λ lba b has. c.format.ensures.drives.disk.values lba b (c.open_cache.ensures.opening.opens.values lba b has);
      ready = λ b there. c.in-Ok.ensures.opening.goes.ready b (c.in_default.ensures.drives.ready refl refl b there);
      within = search rules;
      disk_reads = search rules;
      disk_writes = search rules;
      disk_flushes = let first = c.format.ensures.drives.disk_flushes in let most = c.in-Ok.ensures.opening.goes.disk_flushes in omega (arith, first, most);
      cause = search rules;
      passes =
          passes_then (g.M.Media.state c.args.media.now) (g.M.Media.state c.format.new.media) (g.M.Media.state c.open_cache.new.media) false
          c.in_default.ensures.drives.passes c.in-Ok.ensures.opening.goes.passes;
    }

pub returns-in-Err-clause-creates : goal.returns-in-Err-clause-creates
returns-in-Err-clause-creates g c = record {
  stands = tt;
  values = search rules;
  ready = tt;
  within = search rules;
  disk_reads = search rules;
  disk_writes = search rules;
  disk_flushes = let same = c.format.ensures.drives.disk_flushes in omega (arith, same);
  cause = search rules;
  passes = search rules;
}

pub returns-in-Err-open_cache-clause-creates : goal.returns-in-Err-open_cache-clause-creates
returns-in-Err-open_cache-clause-creates g c = record {
  stands = tt;
  values = λ lba b has. c.format.ensures.drives.disk.values lba b (c.open_cache.ensures.opening.opens.values lba b has);
  ready = tt;
  within = search rules;
  disk_reads = search rules;
  disk_writes = search rules;
  disk_flushes = let first = c.format.ensures.drives.disk_flushes in let most = c.open_cache.ensures.opening.goes.disk_flushes in omega (arith, first, most);
  cause = search rules;
  passes = search rules;
}
