use Rattle.std.proofs.Common.{arith, ap, refl, sym, ◌∙◌}
use Rattle.ft_base.specs.Pattern.{pat}
use Rattle.trace_model.proofs.KeepLemmas.{read-here, read-more, read-none}
use Rattle.trace_model.proofs.writes.KeptWrites.read_without.Goals as goal

pub loop-at-init : goal.loop-at-init
loop-at-init c = refl

pub returns-then-write-lba : goal.returns-then-write-lba
returns-then-write-lba c =
    let all = c.args.self.now.writes.ok.0 in
    let is = c.index-write.ensures in
    sym (c.loop-at.invariant ∙ read-here c.args.self.now.writes.items c.loop-at.at c.args.lba c.index-write.result.now c.block_of.result (omega arith) (ap (λ w. w.lba) (sym is) ∙ c.if-write-lba.true) (c.block_of.ensures ∙ ap (λ w. pat w.lba w.tag) is))

pub loop-at-smaller : goal.loop-at-smaller
loop-at-smaller c = let all = c.args.self.now.writes.ok.0 in omega arith

pub loop-at-preserved : goal.loop-at-preserved
loop-at-preserved c =
    let all = c.args.self.now.writes.ok.0 in
    let is = c.index-write.ensures in
    c.loop-at.invariant ∙ read-more c.args.self.now.writes.items c.loop-at.at c.args.lba c.index-write.result.now (omega arith) (λ same. c.if-write-lba.false (ap (λ w. w.lba) is ∙ same))

pub returns : goal.returns
returns c =
    let all = c.args.self.now.writes.ok.0 in
    c.zero_block.ensures ∙ sym (c.loop-at.invariant ∙ read-none c.args.self.now.writes.items c.loop-at.at c.args.lba (omega arith))
