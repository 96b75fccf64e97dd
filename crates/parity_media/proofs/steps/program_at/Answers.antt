use Rattle.std.proofs.Common.{arith}
use Rattle.std.specs.Prelude.{Ok}
use Rattle.parity_media.specs.Kept.{parity_blocks, parity_pages}
use Rattle.parity_media.proofs.WritesLemmas.{writes_program, writes_then}
use Rattle.parity_media.proofs.ShownLemmas.{shown_leaves}
use Rattle.parity_media.proofs.ProgramLemmas.{tied_refused, tied_once, shown_full, leaves_full, tied_full}
use Rattle.parity_media.proofs.steps.program_at.Goals as goal

pub returns-in_err-program-clause-page : goal.returns-in_err-program-clause-page
returns-in_err-program-clause-page g c =
    let pa = c.args.parities.now in
    shown_leaves (parity_blocks pa) (parity_pages pa) (g.R.Media.state c.args.rig.now).contents.flash (g.R.Media.state c.program.new.self).contents.flash c.args.at c.args.block.now c.args.spare.now c.requires.page c.program.ensures.page

pub returns-in_err-program-clause-tied : goal.returns-in_err-program-clause-tied
returns-in_err-program-clause-tied g c =
    let a = (g.R.Media.state c.args.rig.now).contents in
    let b = (g.R.Media.state c.program.new.self).contents in
    tied_refused a c.args.parities.now c.args.at c.args.block.now c.args.spare.now c.requires.tied (g.met.R.Media.blank_ahead c.args.rig.now) c.requires.ready c.requires.block c.requires.page
    b c.program.result _ c.in_err-program.was c.program.ensures.device.shape c.program.ensures.page c.program.ensures.not_ready c.program.ensures.memory (λ dark. (c.program.ensures.crash dark).next)

pub returns-then-at-pages-clause-tied : goal.returns-then-at-pages-clause-tied
returns-then-at-pages-clause-tied g c =
    let a = (g.R.Media.state c.args.rig.now).contents in
    let b = (g.R.Media.state c.program.new.self).contents in
    tied_once a c.args.parities.now c.args.at c.args.block.now c.args.spare.now c.requires.tied (g.met.R.Media.blank_ahead c.args.rig.now) c.requires.ready c.requires.block c.requires.page
    b c.join.new.self c.join.ensures.long.0 c.join.ensures.long.1 c.program.ensures.device.shape c.in_ok-program.ensures.ok c.join.ensures.changed (omega arith)

pub returns-clause-ok : goal.returns-clause-ok
returns-clause-ok g c =
    let a = (g.R.Media.state c.args.rig.now).contents in
    let b = (g.R.Media.state c.program.new.self).contents in
    let d = (g.R.Media.state c.program_parity.new.rig).contents in
    shown_full a c.args.parities.now c.args.at c.args.block.now c.args.spare.now c.requires.tied (g.met.R.Media.blank_ahead c.args.rig.now) c.requires.ready c.requires.block c.requires.page
    b c.join.new.self c.join.ensures.long.0 c.join.ensures.long.1 c.program.ensures.device.shape c.in_ok-program.ensures.ok c.join.ensures.changed (omega arith) d c.program_parity.new.parities c.program_parity.result c.program_parity.ensures.page c.program_parity.ensures.marked c.program_parity.ensures.ok

pub returns-clause-page : goal.returns-clause-page
returns-clause-page g c =
    let a = (g.R.Media.state c.args.rig.now).contents in
    let b = (g.R.Media.state c.program.new.self).contents in
    let d = (g.R.Media.state c.program_parity.new.rig).contents in
    leaves_full a c.args.parities.now c.args.at c.args.block.now c.args.spare.now c.requires.tied (g.met.R.Media.blank_ahead c.args.rig.now) c.requires.ready c.requires.block c.requires.page
    b c.join.new.self c.join.ensures.long.0 c.join.ensures.long.1 c.program.ensures.device.shape c.in_ok-program.ensures.ok c.join.ensures.changed (omega arith) d c.program_parity.new.parities c.program_parity.ensures.page

pub returns-clause-writes : goal.returns-clause-writes
returns-clause-writes g c =
    let a = g.R.Media.state c.args.rig.now in
    let b = g.R.Media.state c.program.new.self in
    let d = g.R.Media.state c.program_parity.new.rig in
    let e = c.in_ok-program.ensures in
    writes_then a b d tt c.program_parity.result (writes_program a b (Ok tt) e.disk e.crash e.settled e.cause e.memory e.device e.passes e.counts) c.program_parity.ensures.writes

pub returns-clause-tied : goal.returns-clause-tied
returns-clause-tied g c =
    let a = (g.R.Media.state c.args.rig.now).contents in
    let b = (g.R.Media.state c.program.new.self).contents in
    let d = (g.R.Media.state c.program_parity.new.rig).contents in
    let w = c.program_parity.ensures.writes in
    tied_full a c.args.parities.now c.args.at c.args.block.now c.args.spare.now c.requires.tied (g.met.R.Media.blank_ahead c.args.rig.now) c.requires.ready c.requires.block c.requires.page
    b c.join.new.self c.join.ensures.long.0 c.join.ensures.long.1 c.program.ensures.device.shape c.in_ok-program.ensures.ok c.join.ensures.changed (omega arith) d c.program_parity.new.parities c.program_parity.result c.program_parity.ensures.page c.program_parity.ensures.marked
    c.program_parity.ensures.stays w.device.shape c.program_parity.ensures.ok c.program_parity.ensures.not_ready w.memory (λ dark. (w.crash dark).next)
