-- What the words say, from what was read of them.
use Rattle.std.proofs.Common.{◌≡◌, inl, inr, ℕ, List, Option, Some, None, IfSome, IfNone, refl, ap, sym, subst, ◌∙◌}
use Rattle.flashtier_words.proofs.DeviceLemmas.{same_over}
use Rattle.flashtier_words.proofs.ValueLemmas.{apart, costed_made, inspected_made, swept_made}
use Rattle.ft_base.specs.StreamState.{SinkState, SourceState}
use Rattle.ft_base.specs.Told.{Told}
use Rattle.ft_base.specs.declared.power.Outcome.{Outcome}
use Rattle.ft_media.specs.State.{State}
use Rattle.flashtier_words.specs.Command.{IsCommand, IsCost, IsGen, IsInspect, IsSweep, Text}
use Rattle.flashtier_words.specs.Spoken.{AreWordsFor, AreWordsOf}
use Rattle.flashtier_words.specs.declared.command.Command.{Command}
use Rattle.flashtier_words.specs.declared.command.Command.TheVariants.{Replay, Cost, Gen, Inspect, Sweep}
use Rattle.flashtier_words.specs.declared.command.TraceForm.{TraceForm}
use Rattle.flashtier_words.specs.declared.devices.Devices.{Devices}
use Rattle.flashtier_words.specs.declared.devices.FlashKind.{FlashKind}
use Rattle.flashtier_words.specs.declared.devices.FlashKind.TheVariants.{Plain, Raw}
use Rattle.flashtier_words.specs.declared.devices.Spoken.{Spoken}
use Rattle.flashtier_run.specs.Ends.{HasDisks}
use Rattle.flashtier_run.specs.Runs.{IsMade, IsRead, IsSwept, Runs, RunsWords}
use Rattle.flashtier_run.specs.Words.{AreCommand, AreOverFlash, IsAnySweep, ReadsTrace}

-- ---- which words they are

-- words of no kind say no command
not_command : (words : List Text) → ((o : Told) → IsCommand words o → ⊥) → ((o : Told) (number count : ℕ) → IsGen words o number count → ⊥) → ((o : Told) → IsInspect words o → ⊥)
    → ((o : Told) (outcome : Outcome) → IsSweep words o outcome → ⊥) → ((o : Told) (form : TraceForm) → IsCost words o form → ⊥) → AreCommand words → ⊥
not_command words read made inspected swept costed (inl (o, inl is)) = read o is
not_command words read made inspected swept costed (inl (o, inr (inl is))) = inspected o is
not_command words read made inspected swept costed (inl (o, inr (inr (inl is)))) = swept o is.0 is.1
not_command words read made inspected swept costed (inl (o, inr (inr (inr is)))) = costed o is.0 is.1
not_command words read made inspected swept costed (inr (o, number, count, is)) = made o number count is

pub none_spoken : (words : List Text) (found : Option Spoken) → found ≡ None
    → IfNone found ((o : Told) → IsCommand words o → ⊥) → IfNone found ((o : Told) (number count : ℕ) → IsGen words o number count → ⊥) → IfNone found ((o : Told) → IsInspect words o → ⊥)
    → IfNone found ((o : Told) (outcome : Outcome) → IsSweep words o outcome → ⊥) → IfNone found ((o : Told) (form : TraceForm) → IsCost words o form → ⊥)
    → (kind : FlashKind) → AreCommand words → AreOverFlash kind words → ⊥
none_spoken words None is read made inspected swept costed kind said over = not_command words read made inspected swept costed said
none_spoken words (Some found) is read made inspected swept costed kind said over = cc

-- what is said of the words that were read
pub spoken_is : (words : List Text) (found : Option Spoken) (spoken : Spoken) → found ≡ Some spoken → IfSome found (AreWordsFor words) → AreWordsFor words spoken
spoken_is words found spoken is said = subst (λ (h : Option Spoken). IfSome h (AreWordsFor words)) is said

plain_raw : Plain ≡ Raw → ⊥
plain_raw is = cc

-- words that say one kind of flash don't say the other
pub raw_spoken : (words : List Text) (spoken : Spoken) → AreWordsFor words spoken → spoken.devices.flash ≡ Raw → AreOverFlash Raw words
raw_spoken words spoken said raw = (spoken.devices, said.devices, raw)

pub plain_spoken : (words : List Text) (spoken : Spoken) → AreWordsFor words spoken → spoken.devices.flash ≡ Plain → AreOverFlash Raw words → ⊥
plain_spoken words spoken said plain over = plain_raw (sym plain ∙ ap (λ (d : Devices). d.flash) (same_over words spoken.devices over.0 said.devices over.1) ∙ over.2)

-- ---- which command words say

-- words that say a trace to be read say no made one
pub reads_spoken : (words : List Text) (o : Told) (command : Command) → ReadsTrace words o → AreWordsOf words command → IsRead command
reads_spoken words o (Replay mode options form disks) reads said = tt
reads_spoken words o (Cost mode options form) reads said = tt
reads_spoken words o (Gen mode options number count) reads said = elim reads [
  | inl is ↦ apart words o _ number count is said
  | inr (inl is) ↦ inspected_made words o _ number count is said
  | inr (inr (inl is)) ↦ swept_made words o _ is.0 number count is.1 said
  | inr (inr (inr is)) ↦ costed_made words o _ is.0 number count is.1 said
]
reads_spoken words o (Inspect mode options) reads said = tt
reads_spoken words o (Sweep mode options outcome) reads said = tt

-- and the other way round
pub makes_spoken : (words : List Text) (o : Told) (number count : ℕ) (command : Command) → IsGen words o number count → AreWordsOf words command → IsMade command
makes_spoken words o number count (Replay mode options form disks) made said = apart words _ o number count (form, disks, said) made
makes_spoken words o number count (Cost mode options form) made said = costed_made words _ o form number count said made
makes_spoken words o number count (Gen mode options which many) made said = tt
makes_spoken words o number count (Inspect mode options) made said = inspected_made words _ o number count said made
makes_spoken words o number count (Sweep mode options outcome) made said = swept_made words _ o outcome number count said made

pub sweeps_spoken : (words : List Text) (command : Command) → AreWordsOf words command → IsSwept command → (o : Told) × IsAnySweep words o
sweeps_spoken words (Replay mode options form disks) said swept = absurd swept
sweeps_spoken words (Cost mode options form) said swept = absurd swept
sweeps_spoken words (Gen mode options number count) said swept = absurd swept
sweeps_spoken words (Inspect mode options) said swept = absurd swept
sweeps_spoken words (Sweep mode options outcome) said swept = (_, (outcome, said))

-- a replay that words say has its disks
pub disks_spoken : (words : List Text) (spoken : Spoken) → AreWordsFor words spoken → HasDisks spoken.command
disks_spoken words spoken said = of spoken.command said.command
  where
    of : (command : Command) → AreWordsOf words command → HasDisks command
    of (Replay mode options form disks) is = (is.over.low, is.over.high, is.over.shared)
    of (Cost mode options form) is = tt
    of (Gen mode options number count) is = tt
    of (Inspect mode options) is = tt
    of (Sweep mode options outcome) is = tt

-- ---- how they ran

module _ {I O R : Type 0} (kind : FlashKind) (words : List Text) (i : I) (o : O) (r : R) (a : SourceState) (x : SinkState) (old : State) where
  pub words_refused : (AreCommand words → AreOverFlash kind words → ⊥) → RunsWords kind words 1 i i o o r r a a x x old old
  words_refused none = record { ran = inr (record { answer = inl refl; source = refl; sink = refl; rig = refl }); refused = λ _. none }

  pub words_unread : RunsWords kind words 7 i i o o r r a a x x old old
  words_unread = record { ran = inr (record { answer = inr refl; source = refl; sink = refl; rig = refl }); refused = λ one. cc }

-- words over raw flash are none over plain flash
pub raw_refused : {I O R : Type 0} (words : List Text) (spoken : Spoken) (i : I) (o : O) (r : R) (a : SourceState) (x : SinkState) (old : State) → AreWordsFor words spoken → spoken.devices.flash ≡ Raw
    → RunsWords Plain words 1 i i o o r r a a x x old old
raw_refused words spoken i o r a x old said raw = words_refused Plain words i o r a x old (λ command over. plain_raw (sym over.2 ∙ ap (λ (d : Devices). d.flash) (same_over words over.0 spoken.devices over.1 said.devices) ∙ raw))

pub words_ran : {I O R : Type 0} (kind : FlashKind) (words : List Text) (spoken : Spoken) (n : ℕ) (i j : I) (o p : O) (r s : R) (a b : SourceState) (x y : SinkState) (old new : State) → AreWordsFor words spoken → spoken.devices.flash ≡ kind
    → Runs spoken.devices.parity spoken.command n i j o p r s a b x y old new → RunsWords kind words n i j o p r s a b x y old new
words_ran kind words spoken n i j o p r s a b x y old new said flash ran = record {
  ran = inl (spoken, record { said = said; flash = flash }, ran);
  refused = λ one. absurd (ran.other one);
}
