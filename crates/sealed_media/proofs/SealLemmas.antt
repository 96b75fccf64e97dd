-- A page that is sealed, and what its bytes say of it.
use Rattle.std.proofs.Common.{◌≡◌, ◌<◌, ◌≤◌, ◌+◌, ◌==◌, ℕ, Bool, true, false, List, [], ◌∷◌, ◌++◌, length, take, drop, slice_set, slice_index_or, bit_and, refl, sym, ◌∙◌, ap, arith, cond}
use Rattle.std.specs.Bool.{Decides}
use Rattle.std.specs.List.{All, list_all}
use Rattle.std.specs.Str.{bytes_eq}
use Rattle.std.proofs.lemmas.Bool.Decides.{Decides-at, Decides-by_and, Decides-eqb}
use Rattle.std.proofs.lemmas.List.{append_assoc, append-nil, length-append, length-drop, drop_all}
use Rattle.std.proofs.lemmas.List.Elements.{All-drop}
use Rattle.std.proofs.lemmas.Nat.{and_le_r}
use Rattle.std.proofs.lemmas.Slice.Eq.{bytes_eq-Decides}
use Rattle.std.proofs.Math.Seq.{take_all, take-append_seam, drop-append_seam}
use Rattle.ft_base.specs.declared.block.Block.{Block}
use Rattle.ft_base.specs.declared.block.Spare.{Spare}
use Rattle.ft_base.specs.declared.block.Page.TheVariants as page
use Rattle.ft_media.specs.declared.media.PageRead.{PageRead}
use Rattle.ft_media.specs.declared.media.PageRead.TheVariants as read
use Rattle.sealed_media.specs.declared.page.RawPage.{RawPage}
use Rattle.sealed_media.specs.Seal.{top_cleared, seal_of, sealed_bytes, seal_in, IsSealed, IsErased, is_sealed, is_erased, classified, page_so, plain_page}

-- the top bit of the first byte is cleared in place
pub cleared_in_place : (bytes : List ℕ) → slice_set bytes 0 (bit_and (slice_index_or bytes 0 0) 127) ≡ top_cleared bytes
cleared_in_place [] = refl
cleared_in_place (first ∷ later) = refl

-- the tests
pub erased_test : (raw : RawPage) → Decides (is_erased raw) (IsErased raw)
unfolding is_erased IsErased
erased_test raw = Decides-by_and (λ byte. byte == 255) (λ byte. byte ≡ 255) (list_all (λ byte. byte == 255)) (λ byte. Decides-eqb byte 255) refl (λ x xs. refl) raw.0

pub sealed_test : (raw : RawPage) → Decides (is_sealed raw) (IsSealed raw)
unfolding is_sealed IsSealed
sealed_test raw = bytes_eq-Decides (seal_in raw) (seal_of (sealed_bytes raw))

-- no seal begins with a byte of ones
ones_never_cleared : (seal bytes : List ℕ) → All (λ byte. byte ≡ 255) seal → 0 < length seal → seal ≡ top_cleared bytes → ⊥
ones_never_cleared [] bytes ones some is = absurd (omega arith)
ones_never_cleared (x ∷ seal) [] ones some is = absurd (cc)
ones_never_cleared (x ∷ seal) (first ∷ later) ones some is =
    let one : x ≡ 255 = ones 0 0 some in
    let same : x ≡ bit_and first 127 = ap (λ l. slice_index_or l 0 0) is in
    let small : bit_and first 127 ≤ 127 = and_le_r first 127 in
    absurd (omega (arith, one, same, small))

-- so an erased page isn't sealed
pub erased_unsealed : (raw : RawPage) → length raw.0 ≡ 4160 → IsErased raw → IsSealed raw → ⊥
unfolding IsErased IsSealed seal_of
erased_unsealed raw long erased sealed = ones_never_cleared (seal_in raw) _ (All-drop (λ byte. byte ≡ 255) 4128 raw.0 erased) (omega (arith, length-drop 4128 raw.0, long)) sealed

-- the parts of three lists in a row
module _ (b s t : List ℕ) where
  pub first_of : (m : ℕ) → m ≡ length b → take m ((b ++ s) ++ t) ≡ b
  first_of m is = ap (λ n. take n ((b ++ s) ++ t)) is ∙ ap (take (length b)) (append_assoc b s t) ∙ take-append_seam b (s ++ t)

  pub second_of : (m k : ℕ) → m ≡ length b → k ≡ length s → take k (drop m ((b ++ s) ++ t)) ≡ s
  second_of m k is also =
      ap (λ n. take k (drop n ((b ++ s) ++ t))) is ∙ ap (λ l. take k (drop (length b) l)) (append_assoc b s t)
      ∙ ap (take k) (drop-append_seam b (s ++ t)) ∙ ap (λ n. take n (s ++ t)) also ∙ take-append_seam s t

  pub both_of : (n : ℕ) → n ≡ length b + length s → take n ((b ++ s) ++ t) ≡ b ++ s
  both_of n is = ap (λ k. take k ((b ++ s) ++ t)) (is ∙ sym (length-append b s)) ∙ take-append_seam (b ++ s) t

  pub last_of : (n : ℕ) → n ≡ length b + length s → drop n ((b ++ s) ++ t) ≡ t
  last_of n is = ap (λ k. drop k ((b ++ s) ++ t)) (is ∙ sym (length-append b s)) ∙ drop-append_seam (b ++ s) t

-- a page into which a block was put, then spare bytes and then a seal
module _ (z one two three b s t : List ℕ) (m n : ℕ) (first : one ≡ take 0 z ++ b ++ drop (0 + length b) z) (then : two ≡ take m one ++ s ++ drop (m + length s) one)
    (m_is : m ≡ length b) (n_is : n ≡ length b + length s) where
  front : take m one ≡ b
  front = ap (take m) first ∙ ap (λ k. take k (b ++ drop (0 + length b) z)) m_is ∙ take-append_seam b (drop (0 + length b) z)

  put_before : take n two ≡ b ++ s
  put_before = ap (take n) (then ∙ ap (λ l. l ++ s ++ drop (m + length s) one) front) ∙ both_of b s (drop (m + length s) one) n n_is

  put_all : three ≡ take n two ++ t ++ drop (n + length t) two → length two ≡ n + length t → three ≡ (b ++ s) ++ t
  put_all last long =
      let none : drop (n + length t) two ≡ [] = drop_all (n + length t) two (omega (arith, long)) in
      last ∙ ap (λ l. l ++ t ++ drop (n + length t) two) put_before ∙ ap (λ l. (b ++ s) ++ t ++ l) none ∙ append-nil ((b ++ s) ++ t)

pub joined : (z one two three bs ss ts : List ℕ) (block : Block) (spare : Spare) (last : List ℕ) → bs ≡ block.0 → ss ≡ spare.0 → ts ≡ last → one ≡ take 0 z ++ bs ++ drop (0 + length bs) z
    → two ≡ take 4096 one ++ ss ++ drop (4096 + length ss) one → three ≡ take 4128 two ++ ts ++ drop (4128 + length ts) two
    → length bs ≡ 4096 → length ss ≡ 32 → length two ≡ 4160 → length ts ≡ 32 → three ≡ (block.0 ++ spare.0) ++ last
joined z one two three bs ss ts block spare last b s t first then third b_long s_long long t_long =
    let n_is : 4128 ≡ length bs + length ss = omega (arith, b_long, s_long) in
    put_all z one two three bs ss ts 4096 4128 first then (sym b_long) n_is third (omega (arith, long, t_long))
    ∙ ap (λ l. (l ++ ss) ++ ts) b ∙ ap (λ l. (block.0 ++ l) ++ ts) s ∙ ap (λ l. (block.0 ++ spare.0) ++ l) t

-- the classification of a page
false_where : {P : Type 0} → (t : Bool) → Decides t P → (P → ⊥) → t ≡ false
false_where true decides never = absurd (never (decides.0 refl))
false_where false decides never = refl

abbrev pub tests : Bool → Bool → PageRead
tests e s = cond e read.Blank (cond s read.Whole read.Torn)

tells_whole : (e s : Bool) → tests e s ≡ read.Whole → s ≡ true
tells_whole true s whole = cc
tells_whole false true whole = refl
tells_whole false false whole = cc

tells_blank : (e s : Bool) → tests e s ≡ read.Blank → e ≡ true
tells_blank true s blank = refl
tells_blank false true blank = cc
tells_blank false false blank = cc

module _ (raw : RawPage) where
  pub blank_so : IsErased raw → classified raw ≡ read.Blank
  blank_so erased = ap (λ e. tests e (is_sealed raw)) ((erased_test raw).1 erased)

  pub whole_so : (IsErased raw → ⊥) → IsSealed raw → classified raw ≡ read.Whole
  whole_so never sealed = ap (λ e. tests e (is_sealed raw)) (false_where _ (erased_test raw) never) ∙ ap (tests false) ((sealed_test raw).1 sealed)

  pub torn_so : (IsErased raw → ⊥) → (IsSealed raw → ⊥) → classified raw ≡ read.Torn
  torn_so never neither = ap (λ e. tests e (is_sealed raw)) (false_where _ (erased_test raw) never) ∙ ap (tests false) (false_where _ (sealed_test raw) neither)

  pub whole_exactly : (found : PageRead) → found ≡ classified raw → length raw.0 ≡ 4160 → (found ≡ read.Whole → IsSealed raw) × (IsSealed raw → found ≡ read.Whole)
  whole_exactly found is long = (
    λ whole. (sealed_test raw).0 (tells_whole (is_erased raw) (is_sealed raw) (sym is ∙ whole)),
    λ sealed. is ∙ whole_so (λ erased. erased_unsealed raw long erased sealed) sealed,
  )

  pub blank_exactly : (found : PageRead) → found ≡ classified raw → (found ≡ read.Blank → IsErased raw) × (IsErased raw → found ≡ read.Blank)
  blank_exactly found is = (
    λ blank. (erased_test raw).0 (tells_blank (is_erased raw) (is_sealed raw) (sym is ∙ blank)),
    λ erased. is ∙ blank_so erased,
  )

-- a block and spare bytes with their seal are whole
module _ (raw : RawPage) (block : Block) (spare : Spare) (long : length raw.0 ≡ 4160) (block_long : length block.0 ≡ 4096) (spare_long : length spare.0 ≡ 32)
    (is : raw.0 ≡ (block.0 ++ spare.0) ++ seal_of (block.0 ++ spare.0)) where
  pub has_seal : IsSealed raw
  unfolding IsSealed
  has_seal =
      let seal = seal_of (block.0 ++ spare.0) in
      let n_is : 4128 ≡ length block.0 + length spare.0 = omega (arith, block_long, spare_long) in
      ap (drop 4128) is ∙ last_of block.0 spare.0 seal 4128 n_is ∙ sym (ap seal_of (ap (take 4128) is ∙ both_of block.0 spare.0 seal 4128 n_is))

  parts_in : page_so read.Whole raw ≡ page.Whole block spare
  parts_in =
      let seal = seal_of (block.0 ++ spare.0) in
      let b : take 4096 raw.0 ≡ block.0 = ap (take 4096) is ∙ first_of block.0 spare.0 seal 4096 (sym block_long) in
      let s : take 32 (drop 4096 raw.0) ≡ spare.0 = ap (λ l. take 32 (drop 4096 l)) is ∙ second_of block.0 spare.0 seal 4096 32 (sym block_long) (sym spare_long) in
      λ i. page.Whole (record { 0 = b i }) (record { 0 = s i })

  pub is_whole : plain_page raw ≡ page.Whole block spare
  unfolding plain_page
  is_whole = ap (λ found. page_so found raw) (whole_so raw (λ erased. erased_unsealed raw long erased has_seal) has_seal) ∙ parts_in

-- a page whose last bytes were compared with the seal of the others
pub sealed_found : (raw : RawPage) (r : Bool) (seal : List ℕ) → length raw.0 ≡ 4160 → r ≡ bytes_eq (take 32 (drop 4128 raw.0)) seal → seal ≡ seal_of (take 4128 raw.0) → r ≡ is_sealed raw
unfolding is_sealed
sealed_found raw r seal long tested is =
    let all : take 32 (drop 4128 raw.0) ≡ seal_in raw = take_all 32 (drop 4128 raw.0) (omega (arith, long, length-drop 4128 raw.0)) in
    tested ∙ ap (λ l. bytes_eq l seal) all ∙ ap (bytes_eq (seal_in raw)) is

pub sealed_so : (raw : RawPage) (r : Bool) → r ≡ is_sealed raw → Decides r (IsSealed raw)
sealed_so raw r test = Decides-at r (is_sealed raw) test (sealed_test raw)
