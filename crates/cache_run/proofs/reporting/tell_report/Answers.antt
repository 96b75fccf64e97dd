use Rattle.std.proofs.Common.{◌≡◌, ◌⊎◌, inl, inr, Err, IsErrOf, refl, sym, ◌∙◌}
use Rattle.trace_replay.specs.declared.ended.Ended.{Ended}
use Rattle.trace_replay.specs.declared.ended.Ended.TheVariants as ended
use Rattle.cache_run.proofs.AskLemmas.{ok_any, silent_but}
use Rattle.cache_run.proofs.CostLemmas.{err_as, printed_only}
use Rattle.std.proofs.lemmas.Result.{on_ok_weaker}
use Rattle.cache_run.proofs.reporting.tell_report.Goals as goal

pub returns-in-Ok-clause-asks : goal.returns-in-Ok-clause-asks
returns-in-Ok-clause-asks g c =
    let asks = c.in-Ok.ensures.asks in
    (asks.0, asks.1, ok_any c.print_report.result asks.2)

pub returns-in-Ok-clause-printed : goal.returns-in-Ok-clause-printed
returns-in-Ok-clause-printed g c = on_ok_weaker c.print_report.result (λ prints. record { report = c.in-Ok.report; is = c.in-Ok.ensures.report; printed = prints }) c.print_report.ensures.printed

pub returns-in-Ok-clause-short : goal.returns-in-Ok-clause-short
returns-in-Ok-clause-short g c = λ is.
    let part = c.print_report.ensures.short is in
    record { report = c.in-Ok.report; is = c.in-Ok.ensures.report; count = part.0; short = part.1; printed = part.2 }

pub returns-in-Ok-clause-silent : goal.returns-in-Ok-clause-silent
returns-in-Ok-clause-silent g c = silent_but c.print_report.result c.print_report.ensures.only c.print_report.ensures.silent

-- ---- why it ended

-- an end at a device, or out of memory, is no other
no_other : {T U : Type 0} (e k : Ended) → IsErrOf {T = T} (Err e) ended.Flash ⊎ IsErrOf {T = T} (Err e) ended.Disk ⊎ IsErrOf {T = T} (Err e) ended.Memory
    → (k ≡ ended.Flash → ⊥) → (k ≡ ended.Disk → ⊥) → (k ≡ ended.Memory → ⊥) → IsErrOf {T = U} (Err e) k → ⊥
no_other e k (inl at) flash disk memory is = flash (let one : e ≡ ended.Flash = cc in let other : e ≡ k = cc in sym other ∙ one)
no_other e k (inr (inl at)) flash disk memory is = disk (let one : e ≡ ended.Disk = cc in let other : e ≡ k = cc in sym other ∙ one)
no_other e k (inr (inr at)) flash disk memory is = memory (let one : e ≡ ended.Memory = cc in let other : e ≡ k = cc in sym other ∙ one)

pub returns-in-Ok-clause-causes : goal.returns-in-Ok-clause-causes
returns-in-Ok-clause-causes g c =
    let only = c.print_report.ensures.only in
    record {
      not_trace = λ is. printed_only c.print_report.result ended.Trace (λ no. cc) (λ no. cc) only is;
      not_source = λ is. printed_only c.print_report.result ended.Source (λ no. cc) (λ no. cc) only is;
      sink = c.print_report.ensures.rose;
      flash = λ is. absurd (printed_only c.print_report.result ended.Flash (λ no. cc) (λ no. cc) only is);
      disk = λ is. absurd (printed_only c.print_report.result ended.Disk (λ no. cc) (λ no. cc) only is);
      sink_stays = c.print_report.ensures.stays;
      none_failed = λ _ _. c.in-Ok.ensures.sound (λ is. cc) (λ is. cc);
    }

pub returns-in-Err-clause-causes : goal.returns-in-Err-clause-causes
returns-in-Err-clause-causes g c =
    let e = c.in-Err.ended in
    let only = c.in-Err.ensures.only in
    record {
      not_trace = λ is. no_other e ended.Trace only (λ no. cc) (λ no. cc) (λ no. cc) is;
      not_source = λ is. no_other e ended.Source only (λ no. cc) (λ no. cc) (λ no. cc) is;
      sink = λ is. absurd (no_other e ended.Sink only (λ no. cc) (λ no. cc) (λ no. cc) is);
      flash = λ is. c.in-Err.ensures.flash (err_as e ended.Flash is);
      disk = λ is. c.in-Err.ensures.disk (err_as e ended.Disk is);
      sink_stays = λ _. refl;
      none_failed = λ flash disk. c.in-Err.ensures.sound (λ is. flash (err_as e ended.Flash is)) (λ is. disk (err_as e ended.Disk is));
    }
