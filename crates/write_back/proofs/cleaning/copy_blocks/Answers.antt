use Rattle.std.proofs.Common.{◌≡◌, [], ℕ, ◌+◌, true, Ok, get_or, length, refl, rules, sym, ◌∙◌, subst, arith}
use Rattle.cached_disk.specs.declared.disk.CachedDisk.{CachedDisk}
use Rattle.cached_disk.specs.Kept.{dirty_of}
use Rattle.write_back.specs.Cleaning.{IsOnDisk, Proceeds, is_among}
use Rattle.write_back.proofs.PartLemmas.{proceeds_none, proceeds_refused, proceeds_then, same_then}
use Rattle.write_back.proofs.CleaningLemmas.{among_all, among_here, among_more}
use Rattle.write_back.proofs.cleaning.copy_blocks.Goals as goal

pub loop-lba-init : goal.loop-lba-init
loop-lba-init g c = record {
  proceeds = proceeds_none c.args.disk.now (g.M.Media.state c.args.media.now) c.requires.may.up c.requires.may.left c.requires.settled;
  same = refl;
  copied = λ a among. absurd (cc);
  flushes = refl;
}

pub copy_block-requires : goal.copy_block-requires
copy_block-requires g c =
    let is = c.loop-lba.invariant in
    let lba : ℕ = get_or c.args.lbas.now c.loop-lba.lba-index 0 in
    record {
      may = record { left = is.proceeds.left; up = (is.proceeds.goes [] []).up };
      settled = is.proceeds.settled (is.proceeds.goes [] []).up;
      dirty = subst (λ (w : CachedDisk). is_among (dirty_of w) lba ≡ true) (sym is.same) (c.requires.dirty lba (among_here c.args.lbas.now c.loop-lba.lba-index c.loop-lba-test.true));
    }

pub returns-in_err-copy_block : goal.returns-in_err-copy_block
returns-in_err-copy_block g c =
    let is = c.loop-lba.invariant in
    let below = c.loop-lba-test.true in
    record {
      proceeds = proceeds_refused c.args.disk.now c.loop-lba.disk c.copy_block.new.disk (g.M.Media.state c.args.media.now) (g.M.Media.state c.loop-lba.media) (g.M.Media.state c.copy_block.new.media) c.loop-lba.lba-index 1 is.proceeds
          (length c.args.lbas.now) c.in_err-copy_block.field-0.0 _ (omega (arith, below)) (search rules) c.in_err-copy_block.ensures.proceeds;
      same = same_then c.args.disk.now c.loop-lba.disk c.copy_block.new.disk is.same c.copy_block.ensures.same;
      copied = search rules;
      flushes = c.copy_block.ensures.flushes ∙ is.flushes;
    }

pub loop-lba-preserved : goal.loop-lba-preserved
loop-lba-preserved g c =
    let is = c.loop-lba.invariant in
    let i = c.loop-lba.lba-index in
    let e = c.in_ok-copy_block.ensures in
    record {
      proceeds = proceeds_then c.args.disk.now c.loop-lba.disk c.copy_block.new.disk (g.M.Media.state c.args.media.now) (g.M.Media.state c.loop-lba.media) (g.M.Media.state c.copy_block.new.media) i 1 is.proceeds (i + 1) (Ok tt) refl e.proceeds;
      same = same_then c.args.disk.now c.loop-lba.disk c.copy_block.new.disk is.same c.copy_block.ensures.same;
      copied = among_more c.args.lbas.now i c.loop-lba-test.true (λ a. IsOnDisk c.copy_block.new.disk (g.M.Media.state c.copy_block.new.media).contents a) (λ a among. e.others a (is.copied a among)) e.copied;
      flushes = c.copy_block.ensures.flushes ∙ is.flushes;
    }

pub returns : goal.returns
returns g c =
    let is = c.loop-lba.invariant in
    let end : c.loop-lba.lba-index ≡ length c.args.lbas.now = omega arith in
    record {
      proceeds = subst (λ (n : ℕ). Proceeds n c.args.disk.now c.loop-lba.disk (g.M.Media.state c.args.media.now) (g.M.Media.state c.loop-lba.media) (Ok tt)) end is.proceeds;
      same = is.same;
      copied = λ a among. is.copied a (among_all c.args.lbas.now c.loop-lba.lba-index a end among);
      flushes = is.flushes;
    }
