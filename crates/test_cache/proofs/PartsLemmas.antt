-- The parts of a cache on their flash, as the tests of merges use them.
use Rattle.std.proofs.Common.{◌≡◌, ◌≢◌, ℕ, sym, ◌∙◌, ap, subst, arith}
use Rattle.ft_base.specs.declared.geometry.Geometry.{Geometry}
use Rattle.ft_base.specs.Contents.{Contents}
use Rattle.cache_model.specs.Records.{Entries, no_entries}
use Rattle.mapping.specs.declared.bits.Choice.TheVariants.{Held}
use Rattle.mapping.specs.Bits.{chosen_of}
use Rattle.op_log.specs.Log.{FitsOn, LogValue}
use Rattle.checkpoint.specs.Current.{IsCommitted, IsCurrent, IsOpenLog, log_formatted}
use Rattle.checkpoint.proofs.FormatLemmas.{empty_whole}
use Rattle.silent_evict.specs.Candidates.{IsGroupHeld}
use Rattle.silent_evict.proofs.GroupLemmas.{chosen_some}
use Rattle.log_blocks.specs.Logs as list
use Rattle.merge_engine.specs.declared.parts.Parts.{Parts}
use Rattle.merge_engine.specs.Agreement.{PartsAgree, AreOfOne, RolesAgree}

-- the parts of an empty map agree with a flash that was formatted
pub formatted_agree : (parts : Parts) (contents : Contents) (g : Geometry) → AreOfOne parts → parts.geometry ≡ g → FitsOn g contents.shape → parts.map.entries ≡ no_entries → parts.log ≡ log_formatted g
    → IsCommitted contents.flash (log_formatted g) no_entries → RolesAgree parts → list.AreSoundLogs parts.log_blocks → parts.log_blocks.room ≡ 0 → PartsAgree parts contents
formatted_agree parts contents g of_one own shape none log begins roles sound closed = record {
  sound = record {
    of_one = of_one;
    shape = subst (λ (h : Geometry). FitsOn h contents.shape) (sym own) shape;
    current = subst (λ (l : LogValue). IsCurrent contents.flash.page l parts.map.entries) (sym log) (subst (λ (m : Entries). IsCurrent contents.flash.page (log_formatted g) m) (sym none) begins.current);
    whole = empty_whole contents.flash.page parts.map.entries none;
    roles = roles;
    log_blocks = sound;
    open_block = λ some. absurd (omega arith);
  };
  open_log = subst (λ (l : LogValue). IsOpenLog contents.flash l) (sym log) begins.opened;
}

-- a group with held pages
pub some_held : (parts : Parts) (group bits : ℕ) → AreOfOne parts → bits ≡ chosen_of Held parts.map.geometry parts.map.entries group → bits ≢ 0 → IsGroupHeld parts.geometry parts.map.entries group
some_held parts group bits of_one is some =
    let at = chosen_some parts.geometry parts.map.entries group Held (λ none. some (is ∙ ap (λ (h : Geometry). chosen_of Held h parts.map.entries group) of_one.map ∙ none)) in
    (at.0, at.1, at.2, at.3)
