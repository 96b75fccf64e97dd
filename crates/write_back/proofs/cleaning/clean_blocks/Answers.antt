use Rattle.std.proofs.Common.{◌≡◌, [], ◌&&◌, ◌==◌, ℕ, ◌<◌, true, not, Bool, Ok, take, get_or, length, refl, rules, sym, ◌∙◌, ap, subst, arith}
use Rattle.ft_volume.specs.declared.options.Options.{Options}
use Rattle.cached_disk.specs.Kept.{dirty_of}
use Rattle.write_back.specs.Cleaning.{is_among}
use Rattle.write_back.proofs.PartLemmas.{proceeds_none, proceeds_refused, proceeds_then}
use Rattle.write_back.proofs.CleaningLemmas.{among_here, among_next, among_whole, none_cleaned, without_more}
use Rattle.write_back.proofs.cleaning.clean_blocks.Goals as goal

pub loop-lba-init : goal.loop-lba-init
loop-lba-init g c = record {
  proceeds = proceeds_none c.args.disk.now (g.M.Media.state c.args.media.now) c.requires.may.up c.requires.may.left c.requires.settled;
  flushed = c.requires.flushed;
  copied = c.requires.copied;
  cleaned = λ a. none_cleaned (is_among (dirty_of c.args.disk.now) a);
  flushes = refl;
}

pub clean_block-requires : goal.clean_block-requires
clean_block-requires g c =
    let is = c.loop-lba.invariant in
    let lba : ℕ = get_or c.args.lbas.now c.loop-lba.lba-index 0 in
    let here : is_among c.args.lbas.now lba ≡ true = among_here c.args.lbas.now c.loop-lba.lba-index c.loop-lba-test.true in
    record {
      may = record { left = is.proceeds.left; up = (is.proceeds.goes [] []).up };
      settled = is.proceeds.settled (is.proceeds.goes [] []).up;
      back = is.proceeds.made.1 ∙ c.requires.back;
      lba = subst (λ (o : Options). lba < o.geometry.size) (sym is.proceeds.made.0) (c.requires.lbas lba here);
      flushed = is.flushed;
      copied = is.copied lba here;
    }

pub returns-in_err-clean_block : goal.returns-in_err-clean_block
returns-in_err-clean_block g c =
    let is = c.loop-lba.invariant in
    record {
      proceeds = proceeds_refused c.args.disk.now c.loop-lba.disk c.clean_block.new.disk (g.M.Media.state c.args.media.now) (g.M.Media.state c.loop-lba.media) (g.M.Media.state c.clean_block.new.media) 0 0 is.proceeds
          0 c.in_err-clean_block.field-0.0 _ (omega arith) (search rules) c.in_err-clean_block.ensures.proceeds;
      cleaned = search rules;
      refused = search rules;
      flushes = c.clean_block.ensures.disk_flushes ∙ is.flushes;
    }

pub loop-lba-preserved : goal.loop-lba-preserved
loop-lba-preserved g c =
    let is = c.loop-lba.invariant in
    let i = c.loop-lba.lba-index in
    let e = c.in_ok-clean_block.ensures in
    let lba : ℕ = get_or c.args.lbas.now i 0 in
    record {
      proceeds = proceeds_then c.args.disk.now c.loop-lba.disk c.clean_block.new.disk (g.M.Media.state c.args.media.now) (g.M.Media.state c.loop-lba.media) (g.M.Media.state c.clean_block.new.media) 0 0 is.proceeds 0 (Ok tt) refl e.proceeds;
      flushed = e.flushed;
      copied = λ a among. e.copied a (is.copied a among);
      cleaned = λ a.
          e.cleaned a
          ∙ ap (λ (b : Bool). b && not (lba == a)) (is.cleaned a)
          ∙ without_more (is_among (dirty_of c.args.disk.now) a) (is_among (take i c.args.lbas.now) a) (lba == a)
          ∙ ap (λ (b : Bool). is_among (dirty_of c.args.disk.now) a && not b) (sym (among_next c.args.lbas.now i a c.loop-lba-test.true));
      flushes = c.clean_block.ensures.disk_flushes ∙ is.flushes;
    }

pub returns : goal.returns
returns g c =
    let is = c.loop-lba.invariant in
    let end : c.loop-lba.lba-index ≡ length c.args.lbas.now = omega arith in
    record {
      proceeds = is.proceeds;
      cleaned = λ a. is.cleaned a ∙ ap (λ (b : Bool). is_among (dirty_of c.args.disk.now) a && not b) (among_whole c.args.lbas.now c.loop-lba.lba-index a end);
      refused = tt;
      flushes = is.flushes;
    }
