-- A whole checkpoint, from its erased region to its seal.
use Rattle.std.proofs.Common.{◌≡◌, ◌⊎◌, ℕ, ◌<◌, Option, List, length, sym, ◌∙◌, ap, subst, inl, inr, arith}
use Rattle.ft_base.specs.declared.geometry.Geometry.{Geometry}
use Rattle.ft_base.specs.declared.block.Place.{Place}
use Rattle.ft_base.specs.declared.block.Page.{Page}
use Rattle.ft_base.specs.declared.block.Page.TheVariants.{Blank, Torn}
use Rattle.ft_base.specs.Contents.{Flash, set_page}
use Rattle.ft_base.specs.Layout.{checkpoint_at, checkpoint_pages}
use Rattle.ft_base.specs.declared.record.Record.{Record}
use Rattle.cache_model.specs.declared.format.Totals.{Totals}
use Rattle.ft_base.proofs.Images.{set_other}
use Rattle.cache_model.proofs.LoadLemmas.{set_page-other}
use Rattle.checkpoint.specs.Regions.{InCheckpoint, InLog, IsPrepared, IsBare, IsUnsealed, IsMapPage, IsSealPage, Programmed, LeavesOne, MapsWritten, LeavesMaps, IsSealed, IsWritten, HasSpares, part, map_pages, seal_spare}
use Rattle.op_log.specs.Log.{HasSpare}
use Rattle.checkpoint.proofs.PlacesLemmas.{checkpoint_within, checkpoint_apart, checkpoint_no_log}
use Rattle.checkpoint.proofs.MapsLemmas.{maps_bare, bare_put, outside}
use Rattle.cache_model.proofs.LogLemmas.{set_page-here}

-- while map pages are programmed, nothing is sealed
pub maps_unsealed : (g : Geometry) (region : ℕ) (old mid new : Flash) → IsPrepared g region old mid → LeavesMaps g region mid.page new.page → IsUnsealed g region old.page new.page
maps_unsealed g region old mid new prepared left = inr (left.bare, λ at out out'. left.beside at out ∙ prepared.beside at out out')

module _ (g : Geometry) (region era : ℕ) (records : List Record) (totals told : Totals) (is_told : told ≡ totals) (low : region < 2) (n count : ℕ) (all : n ≡ map_pages g records) (is_count : count ≡ length records) (within : n < checkpoint_pages g)
    (old mid now new : Flash) (prepared : IsPrepared g region old mid) (maps : MapsWritten g region era records n mid now) where
  module _ (v : Page) (pages : new.page ≡ set_page now.page (checkpoint_at g region n) v) where
    out_of : (at : Place) → (InCheckpoint g region at.block → ⊥) → new.page at ≡ now.page at
    out_of at out = ap (λ (f : Place → Page). f at) pages ∙ set_page-other now.page (checkpoint_at g region n) at v (outside g region n at within out)

    log_blank : (at : Place) → InLog g region at.block → new.page at ≡ Blank
    log_blank at there =
        let out : InCheckpoint g region at.block → ⊥ = λ c. checkpoint_no_log g region region at.block low low c there in
        out_of at out ∙ maps.beside at out ∙ prepared.log.page at there

    sealed_here : IsSealPage g told era n count v → IsSealed g region era records totals old.page new.page
    sealed_here is = record {
      maps = λ i low'. subst (λ (q : Page). IsMapPage g era i (part g records i) q)
          (sym (ap (λ (f : Place → Page). f (checkpoint_at g region i)) pages ∙ set_page-other now.page (checkpoint_at g region n) (checkpoint_at g region i) v (λ e. let same = checkpoint_apart g region i n e in absurd (omega arith))))
          (maps.maps i (omega arith));
      seal = subst (λ j. IsSealPage g totals era j (length records) (new.page (checkpoint_at g region j))) all
          (subst (λ (q : Page). IsSealPage g totals era n (length records) q) (sym (ap (λ (f : Place → Page). f (checkpoint_at g region n)) pages ∙ set_page-here now.page (checkpoint_at g region n) v))
          (subst (λ c. IsSealPage g totals era n c v) is_count (subst (λ (t : Totals). IsSealPage g t era n count v) is_told is)));
      log = log_blank;
      beside = λ at out out'. out_of at out ∙ maps.beside at out ∙ prepared.beside at out out';
    }

  pub seal_left : LeavesOne (IsSealPage g told era n count) (checkpoint_at g region n) now new → IsUnsealed g region old.page new.page ⊎ IsSealed g region era records totals old.page new.page
  seal_left (inl same) = inl (maps_unsealed g region old mid new prepared (subst (λ (f : Place → Page). LeavesMaps g region mid.page f) (sym same) (maps_bare g region era records n mid now maps)))
  seal_left (inr (inl torn)) = inl (inr (
    subst (λ (f : Place → Page). IsBare g region f) (sym torn) (bare_put g region now.page (checkpoint_at g region n) Torn (maps_bare g region era records n mid now maps).bare tt),
    λ at out out'. out_of Torn torn at out ∙ maps.beside at out ∙ prepared.beside at out out',
  ))
  seal_left (inr (inr whole)) = inr (sealed_here whole.0 whole.2 whole.1)

  pub seal_done : Programmed (IsSealPage g told era n count) (checkpoint_at g region n) now new → IsWritten g region era records totals old new
  seal_done done = record {
    sealed = sealed_here done.page done.pages done.is_kind;
    log = record {
      page = log_blank done.page done.pages;
      next = λ b there. next_of b (λ c. checkpoint_no_log g region region b low low c there) ∙ prepared.log.next b there;
    };
    ready = λ b out out'. next_of b out ∙ prepared.ready b out out';
  }
    where
      next_of : (b : ℕ) → (InCheckpoint g region b → ⊥) → new.next b ≡ mid.next b
      next_of b out = ap (λ (f : ℕ → Option ℕ). f b) done.next ∙ set_other now.next (checkpoint_at g region n).block b _ (λ e. out (subst (λ j. InCheckpoint g region j) e (checkpoint_within g region n within))) ∙ maps.next b out

-- ---- spare bytes

pub sealed_spares : (g : Geometry) (region era : ℕ) (records : List Record) (totals : Totals) (old new : Place → Page) → IsSealed g region era records totals old new → HasSpares g region era (map_pages g records) new
sealed_spares g region era records totals old new sealed = record { maps = λ i low. (sealed.maps i low).spare; seal = sealed.seal.spare }

-- a seal alone
pub seal_spares : (g : Geometry) (totals : Totals) (region era : ℕ) (old new : Flash) → Programmed (IsSealPage g totals era 0 0) (checkpoint_at g region 0) old new → HasSpares g region era 0 new.page
seal_spares g totals region era old new done = record {
  maps = λ i low. absurd (omega arith);
  seal = subst (λ (q : Page). HasSpare (seal_spare era 0) q) (sym (ap (λ (f : Place → Page). f (checkpoint_at g region 0)) done.pages ∙ set_page-here old.page (checkpoint_at g region 0) done.page)) done.is_kind.spare;
}
