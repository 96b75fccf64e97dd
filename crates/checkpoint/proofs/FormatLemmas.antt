-- An empty checkpoint, sealed in erased regions.
use Rattle.std.proofs.Common.{◌≡◌, ℕ, ◌+◌, ◌-◌, ◌*◌, ◌/◌, ◌<◌, false, true, List, [], length, map, filter, count_by, refl, sym, ◌∙◌, ap, subst, arith}
use Rattle.std.specs.FinMap.{get}
use Rattle.std.proofs.lemmas.Nat.{mul-le, le-div}
use Rattle.ft_base.specs.declared.geometry.Geometry.{Geometry}
use Rattle.ft_base.specs.declared.block.Place.{Place}
use Rattle.ft_base.specs.declared.block.Page.{Page}
use Rattle.ft_base.specs.Contents.{Flash}
use Rattle.ft_base.specs.Layout.{rounded_up, k, checkpoint_at, checkpoint_pages, page_records}
use Rattle.ft_base.proofs.LayoutLemmas.{q_some, up_least}
use Rattle.cache_model.specs.declared.entry.Entry.{Entry}
use Rattle.cache_model.specs.declared.format.Totals.{Totals}
use Rattle.cache_model.specs.Records.{Entries, no_entries}
use Rattle.cache_model.specs.Entries.{each_once, page_mapped}
use Rattle.cache_model.proofs.FitsLemmas.{no_entries-map, no_entries-nil, none_in_no_entries}
use Rattle.mapping.specs.Checkpoint.{IsCheckpointOf}
use Rattle.checkpoint.specs.Current.{AreWhole, IsCommitted, log_formatted}
use Rattle.checkpoint.specs.Regions.{IsBlockWithin, InCheckpoint, InLog, AreBlank, IsPrepared, IsSealPage, Programmed, map_pages, totals_of}
use Rattle.checkpoint.proofs.PlacesLemmas.{checkpoint_low}
use Rattle.checkpoint.proofs.MapsLemmas.{maps_none, maps_bare}
use Rattle.checkpoint.proofs.WrittenLemmas.{seal_done}
use Rattle.checkpoint.proofs.SealedLemmas.{formatted}

-- ---- an empty map

pub empty_whole : (page : Place → Page) (m : Entries) → m ≡ no_entries → AreWhole page m
empty_whole page m none = record { whole = λ a e at. absurd (none_in_no_entries a e (sym (ap (λ (n : Entries). get n a) none) ∙ at)) }

-- an empty map has a checkpoint without records
nothing_listed : (g : Geometry) → IsCheckpointOf g no_entries []
nothing_listed g = record {
  groups = [];
  pages = [];
  are = refl;
  of_groups = record {
    each = λ k there. absurd (no_true there);
    all = λ a e at mapped. absurd (none_in_no_entries a e at);
    once = subst (λ (es : List (ℕ × Entry)). 0 ≡ length (each_once (map (λ x. x.0 / g.p) (filter (λ x. x.1.block_mapped) es)))) (sym no_entries-nil) refl;
  };
  of_pages = record {
    each = tt;
    all = λ a e at mapped. absurd (none_in_no_entries a e at);
    once = subst (λ (es : List (ℕ × Entry)). 0 ≡ length (filter (λ x. page_mapped x.1) es)) (sym no_entries-nil) refl;
  };
}
  where
    no_true : false ≡ true → ⊥
    no_true e = absurd (cc)

-- ---- the seal of the empty map

-- nothing is held
abbrev pub no_totals : Totals
no_totals = record { entries = 0; dirty = 0 }

nothing_held : no_totals ≡ totals_of no_entries
nothing_held = ap (λ (es : List (ℕ × Entry)). record { entries = length es; dirty = count_by (λ x. x.1.dirty) es }) (sym no_entries-nil)

some_blocks : (g : Geometry) → 0 < k g
some_blocks g = at_least (rounded_up (g.c + g.l * g.p) (page_records g)) g.p (omega (arith, g.in_range.p_low))
  where
    at_least : (n p : ℕ) → 0 < p → 0 < (n + 1 + p - 1) / p
    at_least n p some = le-div 1 (n + 1 + p - 1) p some (omega arith)

pub some_pages : (g : Geometry) → 0 < checkpoint_pages g
some_pages g = let some = mul-le 1 4 (k g) g.p (some_blocks g) g.in_range.p_low in omega arith

-- no records need no map page
no_pages : (g : Geometry) → 0 ≡ map_pages g []
no_pages g = let none = up_least 0 (page_records g) 0 (omega (arith, q_some g)) (omega arith) in omega arith

module _ (g : Geometry) (old : Flash) (blank : AreBlank 0 (2 * k g + g.j) old) where
  in_checkpoint : (region b : ℕ) → region < 2 → InCheckpoint g region b → IsBlockWithin 0 (2 * k g + g.j) b
  in_checkpoint region b low within = by_number (k g) (checkpoint_low g region b low within)
    where
      by_number : (n : ℕ) → b < 2 * n → IsBlockWithin 0 (2 * n + g.j) b
      by_number n below = (omega arith, omega arith)

  in_log : (b : ℕ) → InLog g 0 b → IsBlockWithin 0 (2 * k g + g.j) b
  in_log b within = by_number (2 * k g) within
    where
      by_number : (n : ℕ) → IsBlockWithin (n + 0 * g.j) g.j b → IsBlockWithin 0 (n + g.j) b
      by_number n within = (omega arith, omega (arith, within.1))

  of_checkpoint : (region : ℕ) → region < 2 → AreBlank (region * k g) (k g) old
  of_checkpoint region low = record {
    page = λ at within. blank.page at (in_checkpoint region at.block low within);
    next = λ b within. blank.next b (in_checkpoint region b low within);
  }

  prepared : IsPrepared g 0 old old
  prepared = record {
    checkpoint = of_checkpoint 0 (omega arith);
    log = record { page = λ at within. blank.page at (in_log at.block within); next = λ b within. blank.next b (in_log b within) };
    beside = λ at out out'. refl;
    ready = λ b out out'. refl;
  }

  pub seal_begins : (new : Flash) → Programmed (IsSealPage g no_totals 0 0 0) (checkpoint_at g 0 0) old new → IsCommitted new (log_formatted g) no_entries
  seal_begins new done = formatted g 0 no_entries [] old new (no_entries-map g) (nothing_listed g)
      (seal_done g 0 0 [] (totals_of no_entries) no_totals nothing_held (omega arith) 0 0 (no_pages g) refl (some_pages g) old old old new prepared (maps_none g 0 0 [] old (of_checkpoint 0 (omega arith))) done)
      (maps_bare g 1 0 [] 0 old old (maps_none g 1 0 [] old (of_checkpoint 1 (omega arith)))).bare
      (empty_whole old.page no_entries refl)

-- the regions were erased, and the seal programmed
pub format_begins : (g : Geometry) (old new : Flash) (blocks : ℕ) → blocks ≡ 2 * k g + g.j → AreBlank 0 blocks old → Programmed (IsSealPage g no_totals 0 0 0) (checkpoint_at g 0 0) old new → IsCommitted new (log_formatted g) no_entries
format_begins g old new blocks count blank done = seal_begins g old (subst (λ n. AreBlank 0 n old) count blank) new done
