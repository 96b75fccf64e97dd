use Rattle.std.proofs.Common.{◌≡◌, ℕ, ◌<◌, true, Err, List, [], length, rules, sym, ◌∙◌, subst, false, arith}
use Rattle.std.specs.Prelude.{OnErr}
use Rattle.std.proofs.lemmas.Bool.{both_ways}
use Rattle.ft_volume.specs.declared.options.Options.{Options}
use Rattle.cached_disk.specs.Kept.{dirty_of, is_down}
use Rattle.write_back.specs.Left.{in_group}
use Rattle.write_back.specs.Cleaning.{is_among}
use Rattle.write_back.proofs.PartLemmas.{Answer, same_then}
use Rattle.write_back.proofs.CopyLemmas.{dirty_within}
use Rattle.write_back.proofs.CleaningLemmas.{back_cleaned, back_refused, back_whole, copy_failed, flush_failed, group_among, still_same}
use Rattle.write_back.proofs.cleaning.copy_group_back.Goals as goal

pub copy_blocks-requires-clause-dirty : goal.copy_blocks-requires-clause-dirty
copy_blocks-requires-clause-dirty g c =
    let v = c.args.disk.now in
    group_among v.options.geometry.p c.args.group (dirty_of v) c.as_slice.result.now c.in-Ok.lbas.items c.as_slice.ensures.value c.in-Ok.ensures

pub returns-in_err-copy_blocks-clause-proceeds : goal.returns-in_err-copy_blocks-clause-proceeds
returns-in_err-copy_blocks-clause-proceeds g c =
    let v = c.args.disk.now in
    let result : Answer = c.from_residual.result in
    let is : result ≡ Err c.in_err-copy_blocks.field-0.0 = search rules in
    copy_failed v c.copy_blocks.new.disk (g.M.Media.state c.args.media.now) (g.M.Media.state c.copy_blocks.new.media) c.as_slice.result.now c.in-Ok.lbas.items (in_group v.options.geometry.p c.args.group (dirty_of v)) c.as_slice.ensures.value c.in-Ok.ensures
    c.in_err-copy_blocks.field-0.0 result is c.in_err-copy_blocks.ensures.proceeds

pub returns-in_err-copy_blocks-clause-same : goal.returns-in_err-copy_blocks-clause-same
returns-in_err-copy_blocks-clause-same g c = still_same c.args.disk.now c.copy_blocks.new.disk c.from_residual.result c.requires.may.up c.copy_blocks.ensures.same

pub returns-in_err-copy_blocks-clause-flushes : goal.returns-in_err-copy_blocks-clause-flushes
returns-in_err-copy_blocks-clause-flushes g c = let same = c.copy_blocks.ensures.flushes in omega (arith, same)

pub flush_copies-requires : goal.flush_copies-requires
flush_copies-requires g c = let is = c.in_ok-copy_blocks.ensures.proceeds in record { may = record { left = is.left; up = (is.goes [] []).up }; settled = is.settled (is.goes [] []).up }

pub clean_blocks-requires-clause-may : goal.clean_blocks-requires-clause-may
clean_blocks-requires-clause-may g c = let is = c.in_ok-flush_copies.ensures.proceeds in record { left = is.left; up = (is.goes [] []).up }

pub clean_blocks-requires-clause-settled : goal.clean_blocks-requires-clause-settled
clean_blocks-requires-clause-settled g c = let is = c.in_ok-flush_copies.ensures.proceeds in is.settled (is.goes [] []).up

pub returns-in_err-flush_copies : goal.returns-in_err-flush_copies
returns-in_err-flush_copies g c =
    let v = c.args.disk.now in
    let w = c.flush_copies.new.disk in
    let before = g.M.Media.state c.args.media.now in
    let after = g.M.Media.state c.flush_copies.new.media in
    let result : Answer = c.from_residual-in_err-flush_copies.result in
    let is : result ≡ Err c.in_err-flush_copies.field-0.0 = search rules in
    let whole = flush_failed v c.copy_blocks.new.disk w before (g.M.Media.state c.copy_blocks.new.media) after c.as_slice.result.now c.in-Ok.lbas.items (in_group v.options.geometry.p c.args.group (dirty_of v)) c.as_slice.ensures.value c.in-Ok.ensures
    c.in_ok-copy_blocks.ensures.proceeds c.in_err-flush_copies.field-0.0 result is c.in_err-flush_copies.ensures.proceeds in
    let down : is_down w ≡ true = c.in_err-flush_copies.ensures.refused in
    record {
      proceeds = whole;
      cleaned = search rules;
      same = subst (λ (r : Answer). OnErr r (is_down w ≡ false → w ≡ v)) (sym is) (λ up. absurd (both_ways (is_down w) up down));
      flushes = let same = c.copy_blocks.ensures.flushes in let most = c.flush_copies.ensures.flushes in omega (arith, same, most);
    }

pub clean_blocks-requires-clause-lbas : goal.clean_blocks-requires-clause-lbas
clean_blocks-requires-clause-lbas g c = λ a among.
    let v = c.args.disk.now in
    let left = c.requires.may.left in
    let dirty = group_among v.options.geometry.p c.args.group (dirty_of v) c.as_slice-2.result.now c.in-Ok.lbas.items c.as_slice-2.ensures.value c.in-Ok.ensures a among in
    subst (λ (o : Options). a < o.geometry.size) (sym (c.in_ok-flush_copies.ensures.proceeds.made.0 ∙ c.in_ok-copy_blocks.ensures.proceeds.made.0))
    (dirty_within v (g.M.Media.state c.args.media.now).contents left.held (left.up c.requires.may.up) left.own a dirty)

pub clean_blocks-requires-clause-copied : goal.clean_blocks-requires-clause-copied
clean_blocks-requires-clause-copied g c = λ a among.
    let same : c.as_slice-2.result.now ≡ c.as_slice.result.now = c.as_slice-2.ensures.value ∙ sym c.as_slice.ensures.value in
    c.in_ok-flush_copies.ensures.copied a (c.in_ok-copy_blocks.ensures.copied a (subst (λ (l : List ℕ). is_among l a ≡ true) same among))

pub returns : goal.returns
returns g c =
    let v = c.args.disk.now in
    let copied = c.copy_blocks.new.disk in
    let flushed = c.flush_copies.new.disk in
    let w = c.clean_blocks.new.disk in
    let before = g.M.Media.state c.args.media.now in
    let after = g.M.Media.state c.clean_blocks.new.media in
    let lbas = in_group v.options.geometry.p c.args.group (dirty_of v) in
    let whole = back_whole v copied flushed before (g.M.Media.state c.copy_blocks.new.media) (g.M.Media.state c.flush_copies.new.media) c.as_slice.result.now c.in-Ok.lbas.items lbas c.as_slice.ensures.value c.in-Ok.ensures
    c.in_ok-copy_blocks.ensures.proceeds c.in_ok-flush_copies.ensures.proceeds w after c.clean_blocks.result c.clean_blocks.ensures.proceeds in
    record {
      proceeds = whole;
      cleaned = back_cleaned (length lbas) v flushed w before after c.clean_blocks.result v.options.geometry.p c.args.group c.as_slice-2.result.now c.in-Ok.lbas.items c.requires.may.left c.requires.may.up
          (same_then v copied flushed c.copy_blocks.ensures.same c.flush_copies.ensures.same) c.as_slice-2.ensures.value c.in-Ok.ensures whole c.clean_blocks.ensures.cleaned;
      same = back_refused v w c.clean_blocks.result c.clean_blocks.ensures.refused;
      flushes = let first = c.copy_blocks.ensures.flushes in let most = c.flush_copies.ensures.flushes in let last = c.clean_blocks.ensures.flushes in omega (arith, first, most, last);
    }
