-- The pages that are held are looked at, in the order of their numbers.
use Rattle.std.proofs.Common.{◌≡◌, ◌↔◌, ℕ, ◌+◌, Bool, true, false, Option, Some, None, Result, Ok, Err, IsTrue, refl, sym, ◌∙◌, ap, subst, arith, inl, inr}
use Rattle.std.specs.Result.{IsErrAnd}
use Rattle.std.specs.Str.{bytes_eq}
use Rattle.std.specs.FinMap.{entries, get}
use Rattle.std.specs.Option.{option_and_then}
use Rattle.std.proofs.lemmas.Bool.{cases_lt, false≢true}
use Rattle.std.proofs.lemmas.Slice.Eq.{bytes_eq-Decides}
use Rattle.ft_base.specs.declared.block.Block.{Block}
use Rattle.ft_base.specs.declared.block.Place.{Place}
use Rattle.ft_base.specs.declared.block.Page.{Page}
use Rattle.ft_base.specs.declared.block.Page.TheVariants.{Blank, Whole, Torn}
use Rattle.ft_base.specs.declared.block.Spare.{Spare}
use Rattle.ft_base.specs.declared.geometry.Geometry.{Geometry}
use Rattle.ft_media.specs.Media.{Found}
use Rattle.ft_media.specs.Reads.{ReadsFlash}
use Rattle.ft_media.specs.State.{State}
use Rattle.ft_media.proofs.DrivesLemmas.{reads_then}
use Rattle.ft_media.specs.declared.media.PageRead.{PageRead}
use Rattle.ft_media.specs.declared.media.PageRead.TheVariants as read
use Rattle.cache_model.specs.declared.format.SpareKind.TheVariants.{Page as DataPage}
use Rattle.cache_model.specs.Records.{Entries}
use Rattle.cache_model.specs.Entries.{IsMap}
use Rattle.cache_model.specs.Spelling.{data_spare, spare_fields, spelled_spare}
use Rattle.cache_model.specs.Loading.{is_whole}
use Rattle.cache_model.specs.declared.entry.Entry.{Entry}
use Rattle.cache_model.specs.Cache.{AreOwn}
use Rattle.cache_model.specs.CacheList.{CacheList, Held, held}
use Rattle.cache_model.specs.Stands.{held_at, held_in}
use Rattle.checkpoint.specs.Current.{AreWhole}
use Rattle.merge_engine.specs.Agreement.{IsListOn}
use Rattle.mapping.specs.Numbers.{number_of, AreNumbered, HasNone, HasNumber}
use Rattle.ssc.specs.declared.error.SscError.{SscError}
use Rattle.ssc.specs.declared.scrubbing.Scrub.{Scrub}
use Rattle.ssc.specs.Errors.{ssc_failed, ssc_lost}
use Rattle.ssc.specs.Scrubbed.{AreDataPages, IsDataPage, IsLowestBelow, IsLowestStrange, IsScrub, IsScrubBelow, IsStrange, lowest_with}
use Rattle.ssc.proofs.NumberLemmas.{all_below, below_none, none_more, number, one_more, the_entry}

-- ---- one page

-- the spare bytes that were read are a data page's of the address, or not
pub own_page : (q : Page) (got : PageRead) (block : Block) (spare own : Spare) (lba : ℕ) (same : Bool) → Found q got block spare → got ≡ read.Whole → own.0 ≡ spelled_spare (spare_fields DataPage 0 lba) → same ≡ bytes_eq spare.0 own.0
    → IsTrue same ↔ ((b : Block) × (q ≡ Whole b (data_spare lba)))
own_page Blank got block spare own lba same found whole spelled is = absurd (let both : read.Blank ≡ read.Whole = sym found ∙ whole in cc)
own_page Torn got block spare own lba same found whole spelled is = absurd (let both : read.Torn ≡ read.Whole = sym found ∙ whole in cc)
own_page (Whole b s) got block spare own lba same found whole spelled is =
    let tests = bytes_eq-Decides spare.0 own.0 in
    let own_is : ◌≡◌ {A = Spare} own (data_spare lba) = λ k. record { 0 = spelled k } in (
      λ t. (b, ap (λ (x : Spare). Whole b x) (sym found.2 ∙ spares spare own (tests.0 (sym is ∙ t)) ∙ own_is)),
      λ x. is ∙ tests.1 (ap (λ (y : Spare). y.0) (found.2 ∙ spare_in x.0 x.1 ∙ sym own_is)),
    )
  where
    spares : (x y : Spare) → x.0 ≡ y.0 → x ≡ y
    spares x y same = λ k. record { 0 = same k }

    spare_in : (c : Block) → Whole b s ≡ Whole c (data_spare lba) → s ≡ data_spare lba
    spare_in c both = cc

-- ---- the list of the entries

-- if each page is a data page of its address, each held block has spare bytes of its own address
own_from : (page : Place → Page) (m : Entries) (s : CacheList) → IsListOn page m s → AreDataPages page m → AreOwn s
own_from page m s on pages a h is = by_entry (get m a) refl
  where
    by_entry : (o : Option Entry) → get m a ≡ o → h.spare ≡ data_spare a
    by_entry None at = absurd (let both : None ≡ Some h = sym (on a ∙ ap (option_and_then (held_at page)) at) ∙ is in cc)
    by_entry (Some e) at =
        let own = pages a e at in
        let both : Some (held own.0 (data_spare a) e.dirty) ≡ Some h = sym (on a ∙ ap (option_and_then (held_at page)) at ∙ ap (held_in e.dirty) own.1) ∙ is in
        let same : held own.0 (data_spare a) e.dirty ≡ h = cc in
        sym (ap (λ (x : Held). x.spare) same)

-- in that case no page is strange
never_strange : (page : Place → Page) (m : Entries) (s : CacheList) → IsListOn page m s → AreWhole page m → AreOwn s → (at : Place) → IsStrange page m at → ⊥
never_strange page m s on whole own at strange = strange.other (subst (λ (p : Place). IsDataPage page p strange.lba) strange.place (by_page (page strange.entry.place) refl (whole.whole strange.lba strange.entry strange.held)))
  where
    by_page : (q : Page) → page strange.entry.place ≡ q → is_whole q ≡ true → IsDataPage page strange.entry.place strange.lba
    by_page Blank is w = absurd (cc)
    by_page (Whole b spare) is w =
        let there : get s strange.lba ≡ Some (held b spare strange.entry.dirty) = on strange.lba ∙ ap (option_and_then (held_at page)) strange.held ∙ ap (held_in strange.entry.dirty) is in
        (b, is ∙ ap (λ (x : Spare). Whole b x) (own strange.lba (held b spare strange.entry.dirty) there))
    by_page Torn is w = absurd (cc)

pub own_scrub : (g : Geometry) (page : Place → Page) (m : Entries) (scrub : Scrub) (s : CacheList) → IsScrub g page m scrub → IsListOn page m s → AreWhole page m → (scrub.strange ≡ None) ↔ AreOwn s
own_scrub g page m scrub s is on whole = (
  λ none. own_from page m s on (subst (IsLowestStrange g page m) none is.strange),
  λ own. by_strange own scrub.strange is.strange,
)
  where
    by_strange : AreOwn s → (o : Option Place) → IsLowestStrange g page m o → o ≡ None
    by_strange own None lowest = refl
    by_strange own (Some at) lowest = absurd (never_strange page m s on whole own at lowest.0)

-- ---- media that are only read

-- a call that failed after others that only read
pub reads_refused : {T : Type 0} (a b c : State) (r : Result T SscError) (e : SscError) → IsErrAnd r (λ x. x ≡ e) → ReadsFlash a b false false → ReadsFlash b c (ssc_failed {T = T} (Err e)) (ssc_lost {T = T} (Err e)) → ReadsFlash a c (ssc_failed r) (ssc_lost r)
reads_refused a b c (Ok v) e is first later = absurd is
reads_refused {T} a b c (Err x) e is first later = subst (λ (y : SscError). ReadsFlash a c (ssc_failed {T = T} (Err y)) (ssc_lost {T = T} (Err y))) (sym is) (reads_then a b c _ _ first later)

-- ---- page after page

module _ (g : Geometry) (page : Place → Page) (m : Entries) where
  pub scrub_none : IsScrubBelow g page m 0 (record { pages = 0; strange = None })
  scrub_none = record {
    few = omega arith;
    pages = sym (below_none (number g) (entries m));
    strange = λ a e is low. absurd (omega arith);
  }

  -- no entry has the number
  pub scrub_without : (i : ℕ) (before : Scrub) → HasNone g m i → IsScrubBelow g page m i before → IsScrubBelow g page m (i + 1) before
  scrub_without i before none so_far = record {
    few = let few = so_far.few in omega arith;
    pages = so_far.pages ∙ sym (none_more g m i none);
    strange = by before.strange so_far.strange;
  }
    where
      by : (o : Option Place) → IsLowestBelow g page m i o → IsLowestBelow g page m (i + 1) o
      by None own = λ a e is low. own a e is (let other = none a e is in omega arith)
      by (Some at) lowest = lowest

  -- an entry has the number
  module _ (is_map : IsMap g m) (i lba : ℕ) (at : Place) (has : HasNumber g m i (lba, at)) where
    lowest_after : (o : Option Place) (own : Bool) → IsTrue own ↔ IsDataPage page at lba → IsLowestBelow g page m i o → IsLowestBelow g page m (i + 1) (lowest_with o at own)
    lowest_after (Some one) own is lowest = lowest
    lowest_after None true is own = λ a e there low. elim (cases_lt (number_of g e.place) i) [
      | inl less ↦ own a e there less
      | inr more ↦ the_entry g m is_map i lba at has (λ x. IsDataPage page x.1.place x.0) (subst (λ (p : Place). IsDataPage page p lba) (sym has.owns.2) (is.0 refl)) a e there (omega arith)
    ]
    lowest_after None false is own = (
      record {
        lba = lba;
        entry = has.owns.0;
        held = has.owns.1;
        place = has.owns.2;
        other = λ own. false≢true (is.1 own);
      },
      λ other strange. elim (cases_lt (number_of g other) i) [
        | inl less ↦ absurd (strange.other (subst (λ (p : Place). IsDataPage page p strange.lba) strange.place (own strange.lba strange.entry strange.held (let same = ap (number_of g) strange.place in omega arith))))
        | inr more ↦ let its = has.number in omega arith
      ],
    )

    pub scrub_more : (before : Scrub) (own : Bool) (lowest : Option Place) → IsTrue own ↔ IsDataPage page at lba → lowest ≡ lowest_with before.strange at own → IsScrubBelow g page m i before → IsScrubBelow g page m (i + 1) (record { pages = before.pages + 1; strange = lowest })
    scrub_more before own lowest is after so_far = record {
      few = let few = so_far.few in omega arith;
      pages = let more = one_more g m is_map lba i has.owns.0 has.owns.1 (ap (number_of g) has.owns.2 ∙ has.number) in ap (λ n. n + 1) so_far.pages ∙ sym more;
      strange = subst (λ (o : Option Place). IsLowestBelow g page m (i + 1) o) (sym after) (lowest_after before.strange own is so_far.strange);
    }

  -- every entry was looked at
  pub scrub_all : (end : ℕ) (found : Scrub) → AreNumbered g m end → IsScrubBelow g page m end found → IsScrub g page m found
  scrub_all end found numbered so_far = record {
    pages = so_far.pages ∙ all_below g m end numbered;
    strange = by found.strange so_far.strange;
  }
    where
      by : (o : Option Place) → IsLowestBelow g page m end o → IsLowestStrange g page m o
      by None own = λ a e is. own a e is (numbered a e is)
      by (Some at) lowest = lowest
