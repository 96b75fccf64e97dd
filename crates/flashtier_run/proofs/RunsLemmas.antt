-- How a command ran, told of what lies beneath a wrapper.
use Rattle.std.proofs.Common.{◌≡◌, ◌≤◌, ◌+◌, ℕ, inl, inr, ap, sym, subst, ◌∙◌, arith}
use Rattle.ft_base.specs.Count.{Rose}
use Rattle.ft_base.specs.StreamState.{SinkState, SourceState}
use Rattle.ft_media.specs.State.{Power, State}
use Rattle.flashtier_words.specs.declared.command.Command.{Command}
use Rattle.flashtier_words.specs.declared.devices.Parity.{Parity}
use Rattle.flashtier_words.specs.declared.devices.Parity.TheVariants.{Off, On}
use Rattle.flashtier_run.specs.Over.{AreOverParity, RisesBeneath}
use Rattle.flashtier_run.specs.Runs.{Runs}
use Rattle.parity_media.specs.Kept.{failed_of, cuts_of}
use Rattle.parity_media.specs.Since.{CountedBeneath, RoseSince}
use Rattle.parity_media.specs.declared.tally.Tally.{Tally}
use Rattle.trace_replay.specs.Said.{RoseAtLeast}

-- what stays of a wrapper stays of what it wraps
pub runs_beneath : {I O R S : Type 0} (f : R → S) (parity : Parity) (command : Command) (n : ℕ) (i j : I) (o p : O) (r s : R) (a b : SourceState) (x y : SinkState) (old new : State)
    → Runs parity command n i j o p r s a b x y old new → Runs parity command n i j o p (f r) (f s) a b x y old new
runs_beneath f parity command n i j o p r s a b x y old new ran = record {
  ends = ran.ends;
  end = ran.end;
  unused = ran.unused;
  known = ran.known;
  other = ran.other;
  causes = ran.causes;
  on = λ memory. elim (ran.on memory) [ inl on ↦ inl on | inr same ↦ inr (same.0, ap f same.1) ];
  lent = ran.lent;
  lines = ran.lines;
}

-- it is so of the rig by whatever name it is called
pub runs_same : {I O R : Type 0} (state : R → State) (parity : Parity) (command : Command) (n : ℕ) (i j : I) (o p : O) (r s q t : R) (a b : SourceState) (x y : SinkState)
    → q ≡ r → t ≡ s → Runs parity command n i j o p r s a b x y (state r) (state s) → Runs parity command n i j o p q t a b x y (state q) (state t)
runs_same {I} {O} {R} state parity command n i j o p r s q t a b x y first last ran =
    subst (λ (z : R). Runs parity command n i j o p q z a b x y (state q) (state z)) (sym last)
    (subst (λ (z : R). Runs parity command n i j o p z s a b x y (state z) (state s)) (sym first) ran)

-- a count that began at zero rose, so the count beneath did
rose_beneath : (start many before old new : ℕ) → before ≡ 0 → start ≡ old → RoseSince start many new → Rose before many → Rose old new
rose_beneath start many before old new none same since rose = omega (arith, none, same, since, rose)

risen_beneath : (start many n before old new : ℕ) → before ≡ 0 → start ≡ old → RoseSince start many new → RoseAtLeast n before many → RoseAtLeast n old new
risen_beneath start many n before old new none same since risen low =
    let sum : start + many ≤ new = omega (arith, since, low) in
    let rose = risen (omega (arith, sum, low)) in
    omega (arith, none, same, sum, rose)

pub rises_beneath : (flash cuts : ℕ) (tally : Tally) (old new first now : State) → flash ≡ old.faults.flash → cuts ≡ old.faults.cuts → first.faults.flash ≡ 0 → first.faults.cuts ≡ 0
    → CountedBeneath flash cuts tally new.faults → now.faults.flash ≡ failed_of tally → now.faults.cuts ≡ cuts_of tally → RisesBeneath old new first now
rises_beneath flash cuts tally old new first now same_flash same_cuts no_flash no_cuts counted is_flash is_cuts = record {
  flash = λ rose. rose_beneath flash (failed_of tally) first.faults.flash old.faults.flash new.faults.flash no_flash same_flash counted.flash (rw is_flash at rose);
  cuts = λ n risen. risen_beneath cuts (cuts_of tally) n first.faults.cuts old.faults.cuts new.faults.cuts no_cuts same_cuts counted.cuts (subst (λ k. RoseAtLeast n first.faults.cuts k) is_cuts risen);
}

-- over a rig with parity, whose failures are failures of the rig beneath
pub runs_over_parity : {I O R S : Type 0} (f : R → S) (command : Command) (n : ℕ) (i j : I) (o p : O) (r s : R) (a b : SourceState) (x y : SinkState) (first now old new : State)
    → AreOverParity old first → AreOverParity new now → RisesBeneath old new first now
    → Runs Off command n i j o p r s a b x y first now → Runs On command n i j o p (f r) (f s) a b x y old new
runs_over_parity f command n i j o p r s a b x y first now old new over after rises ran = record {
  ends = (first, now, over, after, rises, ran.ends);
  end = ran.end;
  unused = ran.unused;
  known = ran.known;
  other = ran.other;
  causes = record { source = ran.causes.source; sink = ran.causes.sink; flash = λ is. rises.flash (ran.causes.flash is); disk = λ is. disk (ran.causes.disk is) };
  on = λ memory. elim (ran.on memory) [ inl on ↦ inl (sym (ap (λ (p : Power). p.on) after.power) ∙ on) | inr same ↦ inr (same.0, ap f same.1) ];
  lent = record { source_lent = ran.lent.source_lent; sink_lent = ran.lent.sink_lent; rig_lent = let same = ran.lent.rig_lent in let before = over.lent in let behind = after.lent in cc };
  lines = record {
    complete = λ read source sink no_flash no_disk. ran.lines.complete read source sink (λ rose. no_flash (rises.flash rose)) (λ rose. no_disk (disk rose));
    complete_made = λ made sink no_flash no_disk. ran.lines.complete_made made sink (λ rose. no_flash (rises.flash rose)) (λ rose. no_disk (disk rose));
  };
}
  where
    disk : Rose first.faults.disk now.faults.disk → Rose old.faults.disk new.faults.disk
    disk rose = rw after.disk at (rw over.disk at rose)
