-- The walk along a checkpoint region, as loading goes.
use Rattle.std.proofs.Common.{◌≡◌, ℕ, suc, ◌+◌, ◌-◌, ◌*◌, ◌<◌, true, false, cond, Option, List, [], ◌∷◌, Some, None, option_map, option_and_then, unwrap_or, refl, sym, ◌∙◌, ap, ap₂, subst, arith}
use Rattle.std.specs.Option.{option_or}
use Rattle.ft_base.specs.declared.geometry.Geometry.{Geometry}
use Rattle.ft_base.specs.declared.block.Place.{Place}
use Rattle.ft_base.specs.declared.block.Page.{Page}
use Rattle.ft_base.specs.declared.block.Page.TheVariants.{Blank, Whole, Torn}
use Rattle.ft_base.specs.Layout.{k, blocks, checkpoint_at, checkpoint_pages}
use Rattle.cache_model.specs.declared.format.Header.{Header}
use Rattle.cache_model.specs.declared.format.Seal.{Seal}
use Rattle.cache_model.specs.declared.format.PageKind.TheVariants.{Map}
use Rattle.cache_model.specs.Reading.{read_page_header, read_seal}
use Rattle.cache_model.specs.declared.format.Totals.{Totals}
use Rattle.op_log.specs.declared.stamp.Stamp.{Stamp as Read}
use Rattle.op_log.specs.Stamps.{named}
use Rattle.cache_model.specs.Loading.{Complete, Stamp, complete, said, sealed, when, is_page, is_seal_of, stamp_of, stamp_in, sealed_from, checkpoint_in, checkpoint_region, pages_from}
use Rattle.cache_model.proofs.RegionLemmas.{no_seal, none_if_never_some}
use Rattle.cache_model.proofs.LoadLemmas.{checkpoint_below}
use Rattle.ft_base.specs.declared.block.Block.{Block}
use Rattle.ft_base.specs.declared.block.Spare.{Spare}
use Rattle.ft_media.specs.declared.media.PageRead.TheVariants as read
use Rattle.ft_media.specs.Media.{Found as ReadFound}
use Rattle.checkpoint.specs.declared.reading.Found.{Found}
use Rattle.checkpoint.specs.Walk.{sealed_by, IsFoundAs}
use Rattle.checkpoint.specs.Found.{in_region}
use Rattle.ft_base.specs.Contents.{Contents}

-- a page of records is no seal
pub unsealed : (page : Page) (h : Header) → said read_page_header page ≡ Some h → said read_seal page ≡ None
unsealed Blank h is = refl
unsealed Torn h is = refl
unsealed (Whole block spare) h is = none_if_never_some (read_seal block.0) (λ s there. no_seal (Whole block spare) s (h, is) there)

-- the walk goes on with the stamp of its first page
by_stamp : (o : Option Read) (d : Read) (i count : ℕ) (page : Page) (rest : List Page) → stamp_in page ≡ Some (named d) → sealed_by o i count (page ∷ rest) ≡ sealed_from (named (unwrap_or o d)) i count (page ∷ rest)
by_stamp None d i count page rest is = ap (option_and_then (λ e. sealed_from e i count (page ∷ rest))) is
by_stamp (Some e) d i count page rest is = refl

module _ (i count : ℕ) (rest : List Page) where
  -- the walk of a stamp after a page, by the page's header and its seal
  step_of : Stamp → Option Header → Option (Header × Seal × Option Totals) → Option Complete
  step_of e x s = option_or (option_map (complete e i) (option_map sealed (when (is_seal_of e i count) s))) (option_and_then (λ (h : Header). sealed_from e (i + 1) (count + h.count) rest) (when (is_page Map e i) x))

  stamp_from : Option Header → Option (Header × Seal × Option Totals) → Option Stamp
  stamp_from x s = option_or (option_map stamp_of x) (option_map (λ (r : Header × Seal × Option Totals). stamp_of r.0) s)

  step_is : (e : Stamp) (page : Page) → sealed_from e i count (page ∷ rest) ≡ step_of e (said read_page_header page) (said read_seal page)
  unfolding step_of
  step_is e page = refl

  stamp_is : (page : Page) → stamp_in page ≡ stamp_from (said read_page_header page) (said read_seal page)
  unfolding stamp_from
  stamp_is page = refl

  -- d is the stamp of the page
  module _ (o : Option Read) (d : Read) (page : Page) (h : Header) (own : named d ≡ stamp_of h) where
    -- a page of records
    records_step : said read_page_header page ≡ Some h → sealed_by o i count (page ∷ rest) ≡ step_of (named (unwrap_or o d)) (Some h) None
    unfolding stamp_from
    records_step head =
        by_stamp o d i count page rest (stamp_is page ∙ ap₂ stamp_from head (unsealed page h head) ∙ ap Some (sym own))
        ∙ step_is (named (unwrap_or o d)) page ∙ ap₂ (step_of (named (unwrap_or o d))) head (unsealed page h head)

    pub walk_on : said read_page_header page ≡ Some h → is_page Map (named (unwrap_or o d)) i h ≡ true → sealed_by o i count (page ∷ rest) ≡ sealed_from (named (unwrap_or o d)) (i + 1) (count + h.count) rest
    unfolding step_of
    walk_on head t = records_step head ∙ ap (λ b. option_and_then (λ (x : Header). sealed_from (named (unwrap_or o d)) (i + 1) (count + x.count) rest) (cond b (Some h) None)) t

    pub walk_no_map : said read_page_header page ≡ Some h → is_page Map (named (unwrap_or o d)) i h ≡ false → sealed_by o i count (page ∷ rest) ≡ None
    unfolding step_of
    walk_no_map head f = records_step head ∙ ap (λ b. option_and_then (λ (x : Header). sealed_from (named (unwrap_or o d)) (i + 1) (count + x.count) rest) (cond b (Some h) None)) f

    -- a seal
    module _ (seal : Seal) (totals : Option Totals) where
      seal_step : said read_page_header page ≡ None → said read_seal page ≡ Some (h, seal, totals) → sealed_by o i count (page ∷ rest) ≡ step_of (named (unwrap_or o d)) None (Some (h, seal, totals))
      unfolding stamp_from
      seal_step head is =
          by_stamp o d i count page rest (stamp_is page ∙ ap₂ stamp_from head is ∙ ap Some (sym own))
          ∙ step_is (named (unwrap_or o d)) page ∙ ap₂ (step_of (named (unwrap_or o d))) head is

      pub walk_sealed : said read_page_header page ≡ None → said read_seal page ≡ Some (h, seal, totals) → is_seal_of (named (unwrap_or o d)) i count (h, seal, totals) ≡ true
          → sealed_by o i count (page ∷ rest) ≡ Some (complete (named (unwrap_or o d)) i (record { seal = seal; totals = totals }))
      unfolding step_of
      walk_sealed head is t = seal_step head is ∙ ap (λ b. option_or (option_map (complete (named (unwrap_or o d)) i) (option_map sealed (cond b (Some (h, seal, totals)) None))) None) t

      pub walk_no_seal : said read_page_header page ≡ None → said read_seal page ≡ Some (h, seal, totals) → is_seal_of (named (unwrap_or o d)) i count (h, seal, totals) ≡ false → sealed_by o i count (page ∷ rest) ≡ None
      unfolding step_of
      walk_no_seal head is f = seal_step head is ∙ ap (λ b. option_or (option_map (complete (named (unwrap_or o d)) i) (option_map sealed (cond b (Some (h, seal, totals)) None))) None) f

-- a page that was read, and the meaning of its bytes
pub whole_found : (page : Page) (block : Block) (spare : Spare) (f : Found) → ReadFound page read.Whole block spare → ((s : Spare) → IsFoundAs (Whole block s) f) → IsFoundAs page f
whole_found Blank block spare f is finds = absurd (cc)
whole_found Torn block spare f is finds = absurd (cc)
whole_found (Whole b s) block spare f is finds = subst (λ (x : Block). IsFoundAs (Whole x s) f) is.1 (finds s)

-- ---- the whole walk

pub walk_begins : (pages : List Page) → checkpoint_in pages ≡ sealed_by None 0 0 pages
unfolding checkpoint_in
walk_begins [] = refl
walk_begins (page ∷ pages) = refl

-- the walk stands at page i of a region
pub record WalkedTo (g : Geometry) (region : ℕ) (page : Place → Page) (o : Option Read) (i count : ℕ) : Type 0 where
  pub ahead : checkpoint_in (checkpoint_region g page region) ≡ sealed_by o i count (pages_from page (checkpoint_at g region) i (checkpoint_pages g - i))

module _ (g : Geometry) (region : ℕ) (page : Place → Page) where
  pub walked_none : WalkedTo g region page None 0 0
  walked_none = record { ahead = walk_begins (checkpoint_region g page region) ∙ ap (λ n. sealed_by None 0 0 (pages_from page (checkpoint_at g region) 0 n)) (let e : checkpoint_pages g ≡ checkpoint_pages g - 0 = omega arith in e) }

  module _ (o : Option Read) (i count : ℕ) (walked : WalkedTo g region page o i count) where
    pub walked_here : i < checkpoint_pages g → checkpoint_in (checkpoint_region g page region) ≡ sealed_by o i count (page (checkpoint_at g region i) ∷ pages_from page (checkpoint_at g region) (i + 1) (checkpoint_pages g - (i + 1)))
    walked_here within = walked.ahead ∙ ap (λ n. sealed_by o i count (pages_from page (checkpoint_at g region) i n)) (let e : checkpoint_pages g - i ≡ suc (checkpoint_pages g - (i + 1)) = omega arith in e)

    pub walked_more : (o' : Option Read) (count' : ℕ) → i < checkpoint_pages g → ((rest : List Page) → sealed_by o i count (page (checkpoint_at g region i) ∷ rest) ≡ sealed_by o' (i + 1) count' rest) → WalkedTo g region page o' (i + 1) count'
    walked_more o' count' within step = record { ahead = walked_here within ∙ step _ }

    pub walked_complete : (c : Complete) → i < checkpoint_pages g → ((rest : List Page) → sealed_by o i count (page (checkpoint_at g region i) ∷ rest) ≡ Some c) → Some (in_region region c) ≡ option_map (in_region region) (checkpoint_in (checkpoint_region g page region))
    walked_complete c within step = sym (ap (option_map (in_region region)) (walked_here within ∙ step _))

    pub walked_broken : i < checkpoint_pages g → ((rest : List Page) → sealed_by o i count (page (checkpoint_at g region i) ∷ rest) ≡ None) → None ≡ option_map (in_region region) (checkpoint_in (checkpoint_region g page region))
    walked_broken within step = sym (ap (option_map (in_region region)) (walked_here within ∙ step _))

pub on_flash : (g : Geometry) (region i : ℕ) → region < 2 → i < checkpoint_pages g → (checkpoint_at g region i).block < blocks g
on_flash g region i low within = by_number (2 * k g + 2 * g.j) (checkpoint_below g region i low within)
  where
    by_number : (n : ℕ) → (checkpoint_at g region i).block < n → (checkpoint_at g region i).block < n + g.c + g.l + 1
    by_number n below = omega arith

-- a page that was read is the page that was there at first
pub found_at : (contents now : Contents) (at here : Place) (f : Found) → now ≡ contents → at ≡ here → IsFoundAs (now.flash.page at) f → IsFoundAs (contents.flash.page here) f
found_at contents now at here f same place finds = subst (λ (q : Page). IsFoundAs q f) (ap₂ (λ (x : Contents) (p : Place). x.flash.page p) same place) finds
