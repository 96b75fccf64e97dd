use Rattle.std.proofs.Common.{All, inr, subst, sym}
use Rattle.std.proofs.lemmas.Result.{IfOk-weaker}
use Rattle.ft_base.specs.Told.{Told}
use Rattle.ft_base.specs.declared.told.Mode.TheVariants.{Back, Through}
use Rattle.trace_model.specs.Lines.{IsRunnable}
use Rattle.trace_replay.proofs.ExitLemmas.{rose_later}
use Rattle.cache_run.proofs.BeginLemmas.{empty_new, fresh_new}
use Rattle.trace_replay.proofs.CutsLemmas.{failed_then}
use Rattle.cache_run.proofs.CountLemmas.{counted_new, exit_back, exit_same, memory_at}
use Rattle.cache_run.proofs.counting.count_lines.Goals as goal

pub count_over-requires-clause-fresh : goal.count_over-requires-clause-fresh
count_over-requires-clause-fresh g c = fresh_new _ c.args.setup.now.options _ c.in_ok-volume-in-Back.ensures.new (empty_new c.in_ok-volume-in-Back.ensures.new)

pub count_over-requires-in-Through-clause-lines : goal.count_over-requires-in-Through-clause-lines
count_over-requires-in-Through-clause-lines g c = subst (λ (k : Told). All (IsRunnable k.geometry.size) c.args.lines.now) (sym c.in_ok-volume-in-Through.ensures.new.told) c.requires.lines

pub count_over-requires-in-Through-clause-fresh : goal.count_over-requires-in-Through-clause-fresh
count_over-requires-in-Through-clause-fresh g c = fresh_new _ c.args.setup.now.options _ c.in_ok-volume-in-Through.ensures.new (empty_new c.in_ok-volume-in-Through.ensures.new)

pub returns-in_ok-volume-in-Back-clause-counted : goal.returns-in_ok-volume-in-Back-clause-counted
returns-in_ok-volume-in-Back-clause-counted g c =
    IfOk-weaker c.count_over.result _ _ (λ n from. counted_new c.args.setup.now.mode Back c.args.setup.now.options c.in-Back.is c.in_ok-volume-in-Back.ensures.new from) c.count_over.ensures.counted

pub returns-in_ok-volume-in-Through-clause-counted :
    goal.returns-in_ok-volume-in-Through-clause-counted
returns-in_ok-volume-in-Through-clause-counted g c =
    IfOk-weaker c.count_over-in-Through.result _ _ (λ n from. counted_new c.args.setup.now.mode Through c.args.setup.now.options c.in-Through.is c.in_ok-volume-in-Through.ensures.new from) c.count_over-in-Through.ensures.counted

pub returns-in_err-volume-in-Back-clause-sound : goal.returns-in_err-volume-in-Back-clause-sound
returns-in_err-volume-in-Back-clause-sound g c = λ flash disk. c.in_err-volume-in-Back.ensures.begins.none_failed (λ is. flash (exit_same c.from_residual.result _ _ c.from_residual.ensures.1 is)) (λ is. disk (exit_same c.from_residual.result _ _ c.from_residual.ensures.1 is))

pub returns-in_err-volume-in-Back-clause-memory : goal.returns-in_err-volume-in-Back-clause-memory
returns-in_err-volume-in-Back-clause-memory g c = λ is. memory_at _ _ (c.in_err-volume-in-Back.ensures.begins.memory (exit_back c.from_residual.result _ _ c.from_residual.ensures.1 is))

pub returns-in_ok-volume-in-Back-clause-sound : goal.returns-in_ok-volume-in-Back-clause-sound
returns-in_ok-volume-in-Back-clause-sound g c = λ flash disk. failed_then _ _ _ (c.in_ok-volume-in-Back.ensures.begins.none_failed (λ is. cc) (λ is. cc)) (c.count_over.ensures.sound flash disk)

pub returns-in_ok-volume-in-Back-clause-memory : goal.returns-in_ok-volume-in-Back-clause-memory
returns-in_ok-volume-in-Back-clause-memory g c = λ _. inr c.count_over.ensures.on

pub returns-in_err-volume-in-Through-clause-sound : goal.returns-in_err-volume-in-Through-clause-sound
returns-in_err-volume-in-Through-clause-sound g c = λ flash disk. c.in_err-volume-in-Through.ensures.begins.none_failed (λ is. flash (exit_same c.from_residual-in_err-volume-in-Through.result _ _ c.from_residual-in_err-volume-in-Through.ensures.1 is)) (λ is. disk (exit_same c.from_residual-in_err-volume-in-Through.result _ _ c.from_residual-in_err-volume-in-Through.ensures.1 is))

pub returns-in_err-volume-in-Through-clause-memory : goal.returns-in_err-volume-in-Through-clause-memory
returns-in_err-volume-in-Through-clause-memory g c = λ is. memory_at _ _ (c.in_err-volume-in-Through.ensures.begins.memory (exit_back c.from_residual-in_err-volume-in-Through.result _ _ c.from_residual-in_err-volume-in-Through.ensures.1 is))

pub returns-in_ok-volume-in-Through-clause-sound : goal.returns-in_ok-volume-in-Through-clause-sound
returns-in_ok-volume-in-Through-clause-sound g c = λ flash disk. failed_then _ _ _ (c.in_ok-volume-in-Through.ensures.begins.none_failed (λ is. cc) (λ is. cc)) (c.count_over-in-Through.ensures.sound flash disk)

pub returns-in_ok-volume-in-Through-clause-memory : goal.returns-in_ok-volume-in-Through-clause-memory
returns-in_ok-volume-in-Through-clause-memory g c = λ _. inr c.count_over-in-Through.ensures.on

pub returns-in_ok-volume-in-Through-clause-flash : goal.returns-in_ok-volume-in-Through-clause-flash
returns-in_ok-volume-in-Through-clause-flash g c = λ is. rose_later _ _ _ c.in_ok-volume-in-Through.ensures.begins.flash_later (c.count_over-in-Through.ensures.flash is)

pub returns-in_ok-volume-in-Through-clause-disk : goal.returns-in_ok-volume-in-Through-clause-disk
returns-in_ok-volume-in-Through-clause-disk g c = λ is. rose_later _ _ _ c.in_ok-volume-in-Through.ensures.begins.disk_later (c.count_over-in-Through.ensures.disk is)
