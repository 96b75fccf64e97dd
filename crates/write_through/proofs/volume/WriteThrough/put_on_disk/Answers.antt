use Rattle.std.proofs.Common.{Err, refl, true, sym, subst, ap, ◌∙◌, rules}
use Rattle.ft_base.specs.Contents.{Contents}
use Rattle.ft_media.specs.State.{State, lost}
use Rattle.ft_volume.specs.Opening.{ImageIs}
use Rattle.ft_volume.specs.Volume.{Writes}
use Rattle.ft_volume.specs.Standing.{StandFor}
use Rattle.ft_volume.specs.declared.volume.VolumeError.TheVariants.{OutOfMemory}
use Rattle.cached_disk.proofs.CallLemmas.{answered_write, refused_same}
use Rattle.write_through.specs.declared.volume.WriteThrough.{WriteThrough}
use Rattle.write_through.specs.Left.{IsLeft, state_of}
use Rattle.write_through.proofs.PutLemmas.{put_down, put_failed, put_left, put_lost, put_newest, put_stands}
use Rattle.write_through.proofs.volume.WriteThrough.put_on_disk.Goals as goal

-- done

pub returns-in-Ok-clause-steps : goal.returns-in-Ok-clause-steps
returns-in-Ok-clause-steps g c =
    let old = (g.M.Media.state c.args.media.now).contents in
    let new = (g.M.Media.state c.put_block.new.media).contents in
    let to = c.put_block.ensures in
    record {
      left = record {
        disk = put_left c.args.self.now.disk old new c.requires.may.left.disk c.requires.may.up c.args.lba c.args.block.now to.values c.requires.absent to.passes.shape c.requires.may.left.mode (c.in-Ok.ensures.flash.stays refl) c.in-Ok.ensures.ok;
        mode = c.requires.may.left.mode;
      };
      goes = search rules;
      within = search rules;
    }

pub returns-in-Ok-clause-stands : goal.returns-in-Ok-clause-stands
returns-in-Ok-clause-stands g c = λ d stand.
    let old = (g.M.Media.state c.args.media.now).contents in
    let new = (g.M.Media.state c.put_block.new.media).contents in
    let to = c.put_block.ensures in
    put_stands c.args.self.now.disk old new c.requires.may.left.disk c.requires.may.up c.args.lba c.args.block.now to.values c.requires.absent to.passes.shape c.requires.may.left.mode to.flash.page c.requires.may.lba d stand c.in-Ok.ensures.ok

pub returns-in-Ok-clause-was : goal.returns-in-Ok-clause-was
returns-in-Ok-clause-was g c = λ d stand.
    let v = state_of c.args.self.now in
    let old = (g.M.Media.state c.args.media.now).contents in
    let new = (g.M.Media.state c.put_block.new.media).contents in
    let to = c.put_block.ensures in
    answered_write c.args.lba c.args.block.now v v new d refl refl
    (put_stands c.args.self.now.disk old new c.requires.may.left.disk c.requires.may.up c.args.lba c.args.block.now to.values c.requires.absent to.passes.shape c.requires.may.left.mode to.flash.page c.requires.may.lba d stand c.in-Ok.ensures.ok)

pub returns-in-Ok-clause-newest : goal.returns-in-Ok-clause-newest
returns-in-Ok-clause-newest g c = put_newest c.args.lba c.args.block.now (g.M.Media.state c.args.media.now).contents (g.M.Media.state c.put_block.new.media).contents c.in-Ok.ensures.ok

-- the disk failed

pub returns-in-Err-Failed-clause-steps : goal.returns-in-Err-Failed-clause-steps
returns-in-Err-Failed-clause-steps g c =
    let old = (g.M.Media.state c.args.media.now).contents in
    let new = (g.M.Media.state c.put_block.new.media).contents in
    let to = c.put_block.ensures in
    record {
      left = record { disk = put_down c.args.self.now.disk old new c.requires.may.left.disk c.requires.may.up c.args.lba c.args.block.now to.values c.requires.absent to.passes.shape c.requires.may.left.mode to.flash.page; mode = c.requires.may.left.mode };
      goes = search rules;
      within = search rules;
    }

pub returns-in-Err-Failed-clause-was : goal.returns-in-Err-Failed-clause-was
returns-in-Err-Failed-clause-was g c = λ d stand.
    let v = c.args.self.now.disk in
    let w : WriteThrough = record { disk = record v { down = true } } in
    let old = (g.M.Media.state c.args.media.now).contents in
    let new = (g.M.Media.state c.put_block.new.media).contents in
    let to = c.put_block.ensures in
    put_failed v old new c.requires.may.left.disk c.requires.may.up c.args.lba c.args.block.now to.values c.requires.absent to.passes.shape c.requires.may.left.mode to.flash.page c.requires.may.lba d stand (state_of c.args.self.now) (state_of w) refl refl refl refl

-- power was lost

pub returns-in-Err-PowerLost-clause-steps : goal.returns-in-Err-PowerLost-clause-steps
returns-in-Err-PowerLost-clause-steps g c =
    let old = (g.M.Media.state c.args.media.now).contents in
    let new = (g.M.Media.state c.put_block.new.media).contents in
    let to = c.put_block.ensures in
    record {
      left = record { disk = put_down c.args.self.now.disk old new c.requires.may.left.disk c.requires.may.up c.args.lba c.args.block.now to.values c.requires.absent to.passes.shape c.requires.may.left.mode to.flash.page; mode = c.requires.may.left.mode };
      goes = search rules;
      within = search rules;
    }

pub returns-in-Err-PowerLost-clause-was : goal.returns-in-Err-PowerLost-clause-was
returns-in-Err-PowerLost-clause-was g c = λ d stand.
    let v = c.args.self.now.disk in
    let w : WriteThrough = record { disk = record v { down = true } } in
    let old = (g.M.Media.state c.args.media.now).contents in
    let new = (g.M.Media.state c.put_block.new.media).contents in
    let to = c.put_block.ensures in
    put_lost v old new c.requires.may.left.disk c.requires.may.up c.args.lba c.args.block.now to.values c.requires.absent to.passes.shape c.requires.may.left.mode to.flash.page c.requires.may.lba d stand (state_of c.args.self.now) (state_of w) refl refl refl refl
    (to.crash (ap lost (c.in-Err-PowerLost.is ∙ ap Err c.in-Err-PowerLost.field-0-is)))

-- there was no memory, and nothing has changed

pub returns-in-Err-OutOfMemory-clause-steps : goal.returns-in-Err-OutOfMemory-clause-steps
returns-in-Err-OutOfMemory-clause-steps g c =
    let same = ap (λ (s : State). s.contents) (c.put_block.ensures.memory (c.in-Err-OutOfMemory.is ∙ ap Err c.in-Err-OutOfMemory.field-0-is)) in
    record {
      left = subst (λ (x : Contents). IsLeft c.args.self.now x) (sym same) c.requires.may.left;
      goes = search rules;
      within = search rules;
    }

pub returns-in-Err-OutOfMemory-clause-was : goal.returns-in-Err-OutOfMemory-clause-was
returns-in-Err-OutOfMemory-clause-was g c = λ d stand.
    let new = (g.M.Media.state c.put_block.new.media).contents in
    let same = ap (λ (s : State). s.contents) (c.put_block.ensures.memory (c.in-Err-OutOfMemory.is ∙ ap Err c.in-Err-OutOfMemory.field-0-is)) in
    let v = state_of c.args.self.now in
    refused_same (Writes c.args.lba c.args.block.now) v v new d refl refl (subst (λ (x : Contents). StandFor (ImageIs v.told) x d) (sym same) stand) OutOfMemory
