-- Seals by their header, the line of their numbers, and the bytes behind it.
use Rattle.std.proofs.Common.{◌≡◌, ◌↔◌, ℕ, ◌+◌, ◌^◌, ◌<◌, ◌≤◌, ◌==◌, ◌||◌, nat_le, Bool, true, false, ◌&&◌, cond, List, ◌++◌, length, take, drop, Some, None, Option, MatchOption, IsTrue, refl, sym, ◌∙◌, ap, ap₂, subst, arith, append_assoc, le-leb, leb-true, lt-ltb}
use Rattle.std.specs.Int.{Width, w32, w64, byte_len, from_be_bytes, to_be_bytes}
use Rattle.std.specs.Str.{bytes_eq}
use Rattle.std.proofs.lemmas.Bool.{and_parts, and_from, both_ways, or_left, or_right}
use Rattle.std.proofs.lemmas.Option.{none-some}
use Rattle.std.proofs.lemmas.Slice.Eq.{bytes_eq-Decides}
use Rattle.std.proofs.lemmas.List.{take-take, drop-drop, drop-take, get_or-take, append-nil, take-append-drop, drop_at, take_at, replicate-append-replicate}
use Rattle.cache_model.specs.declared.format.PageKind.{PageKind}
use Rattle.cache_model.specs.declared.format.PageKind.TheVariants.{Log, Map, Seal as SealPage}
use Rattle.cache_model.specs.declared.format.Header.{Header}
use Rattle.cache_model.specs.declared.format.Seal.{Seal}
use Rattle.cache_model.specs.declared.format.Totals.{Totals}
use Rattle.cache_model.specs.Spelling.{zeros, spelled_header, spelled_seal, spelled_totals, is_format, is_seal, header_in_range, count_in_range, seal_in_range, totals_in_range, IsSealOf}
use Rattle.cache_model.specs.Reading.{byte, header_in, seal_in, totals_in, number, read_seal}
use Rattle.cache_model.proofs.ReadingLemmas.{seal_is}
use Rattle.cache_model.proofs.SpellingLemmas.{seal_read, seal_spelled}
use Rattle.record_codec.proofs.PageLemmas.{header_put}
use Rattle.record_codec.specs.Lines.{counts_in, counts_line, numbers_line, numbers_in, totals_told, FitsCounts}

regroup : (h p c l j s z : List ℕ) → h ++ (p ++ c ++ l ++ j ++ s ++ z) ≡ h ++ p ++ c ++ l ++ j ++ s ++ z
regroup h p c l j s z = simp append_assoc

counts_behind : (front : List ℕ) (totals : Option Totals) → (front ++ counts_line totals) ++ zeros 4016 ≡ front ++ spelled_totals totals
counts_behind front None = append_assoc front (zeros 24) (zeros 4016) ∙ ap (λ s. front ++ s) (replicate-append-replicate 24 4016 0)
counts_behind front (Some t) =
    append_assoc front (counts_line (Some t)) (zeros 4016)
    ∙ ap (λ s. front ++ s)
    (append_assoc (to_be_bytes w64 t.entries ++ to_be_bytes w64 t.dirty) (zeros 8) (zeros 4016) ∙ ap (λ s. to_be_bytes w64 t.entries ++ to_be_bytes w64 t.dirty ++ s) (replicate-append-replicate 8 4016 0))

-- a seal in parts
in_parts : (h : Header) (seal : Seal) (totals : Option Totals) → spelled_header h ++ (numbers_line seal totals ++ zeros 4016) ≡ spelled_seal h seal totals
in_parts h seal totals =
    ap (λ s. spelled_header h ++ s) (counts_behind (to_be_bytes w32 seal.p ++ to_be_bytes w32 seal.c ++ to_be_bytes w32 seal.l ++ to_be_bytes w32 seal.j ++ to_be_bytes w64 seal.size) totals)
    ∙ regroup (spelled_header h) (to_be_bytes w32 seal.p) (to_be_bytes w32 seal.c) (to_be_bytes w32 seal.l) (to_be_bytes w32 seal.j) (to_be_bytes w64 seal.size) (spelled_totals totals)

length-numbers : (seal : Seal) (totals : Option Totals) → length (numbers_line seal totals) ≡ 48
length-numbers seal None = refl
length-numbers seal (Some t) = refl

three_parts : (bytes : List ℕ) → take 32 bytes ++ (take 48 (drop 32 bytes) ++ drop 80 bytes) ≡ bytes
three_parts bytes = ap (λ s. take 32 bytes ++ (take 48 (drop 32 bytes) ++ s)) (sym (drop-drop 48 32 bytes)) ∙ ap (λ s. take 32 bytes ++ s) (take-append-drop 48 (drop 32 bytes)) ∙ take-append-drop 32 bytes

pub record SealParts (bytes : List ℕ) (h : Header) (seal : Seal) (totals : Option Totals) : Type 0 where
  pub head : take 32 bytes ≡ spelled_header h
  pub numbers : take 48 (drop 32 bytes) ≡ numbers_line seal totals
  pub behind : drop 80 bytes ≡ zeros 4016

from_parts : (bytes : List ℕ) (h : Header) (seal : Seal) (totals : Option Totals) → SealParts bytes h seal totals → bytes ≡ spelled_seal h seal totals
from_parts bytes h seal totals is = sym (three_parts bytes) ∙ ap₂ (λ s t. s ++ t) is.head (ap₂ (λ s t. s ++ t) is.numbers is.behind) ∙ in_parts h seal totals

parts_of : (bytes : List ℕ) (h : Header) (seal : Seal) (totals : Option Totals) → bytes ≡ spelled_seal h seal totals → SealParts bytes h seal totals
parts_of bytes h seal totals is =
    let numbers = numbers_line seal totals in
    let whole : bytes ≡ spelled_header h ++ (numbers ++ zeros 4016) = is ∙ sym (in_parts h seal totals) in
    let tail : drop 32 bytes ≡ numbers ++ zeros 4016 = ap (drop 32) whole ∙ drop_at (spelled_header h) (numbers ++ zeros 4016) 32 refl in
    record {
      head = ap (take 32) whole ∙ take_at (spelled_header h) (numbers ++ zeros 4016) 32 refl;
      numbers = ap (take 48) tail ∙ take_at numbers (zeros 4016) 48 (length-numbers seal totals);
      behind = sym (drop-drop 48 32 bytes) ∙ ap (drop 48) tail ∙ drop_at numbers (zeros 4016) 48 (length-numbers seal totals);
    }

seal_count : (kind : PageKind) (count : ℕ) → is_seal kind ≡ true → count < 2 ^ 32 → count_in_range kind count ≡ true
seal_count Log count t low = absurd (cc)
seal_count Map count t low = absurd (cc)
seal_count SealPage count t low = lt-ltb _ _ low

pub seal_header : (h : Header) → is_format h.format ≡ true → is_seal h.kind ≡ true → h.era ≤ 2 → h.sequence < 2 ^ 32 → h.count < 2 ^ 32 → (header_in_range h && is_seal h.kind) ≡ true
seal_header h format kind era sequence count = and_from _ _ (and_from _ _ (and_from _ _ (and_from _ _ format (le-leb _ _ era)) (lt-ltb _ _ sequence)) (seal_count h.kind h.count kind count)) kind

-- a seal whose totals suit its format is of one of the formats
format_of : (format : ℕ) (totals : Option Totals) → totals_in_range format totals ≡ true → is_format format ≡ true
format_of format None t = or_left (format == 1) (format == 2) t
format_of format (Some u) t = or_right (format == 1) (format == 2) (and_parts _ _ (and_parts _ _ t).0).0

-- the meaning of the tests together
pub has_seal_is : (bytes front numbers line line' : List ℕ) (h : Header) (seal : Seal) (totals : Option Totals) (same same' heads has zero : Bool) → front ≡ spelled_header h → numbers ≡ numbers_line seal totals → line ≡ take 32 bytes
    → line' ≡ take 48 (drop 32 bytes) ++ zeros 0 → same ≡ bytes_eq front line → same ≡ true → same' ≡ bytes_eq numbers line' → same' ≡ true → heads ≡ (is_seal h.kind && nat_le h.era 2) → heads ≡ true
    → has ≡ totals_in_range h.format totals → has ≡ true → h.sequence < 2 ^ 32 → h.count < 2 ^ 32 → seal_in_range seal ≡ true → (IsTrue zero ↔ (drop 80 bytes ≡ zeros 4016)) → IsTrue zero ↔ IsSealOf bytes h seal totals
has_seal_is bytes front numbers line line' h seal totals same same' heads has zero spells spells' at at' test t test' t' head u range v sequence count widths rest =
    let equal : front ≡ line = (bytes_eq-Decides front line).0 (sym test ∙ t) in
    let equal' : numbers ≡ line' = (bytes_eq-Decides numbers line').0 (sym test' ∙ t') in
    let p = and_parts (is_seal h.kind) (nat_le h.era 2) (sym head ∙ u) in
    let totals_range : totals_in_range h.format totals ≡ true = sym range ∙ v in (
      λ z. record {
        spelled = from_parts bytes h seal totals (record { head = sym at ∙ sym equal ∙ spells; numbers = sym (at' ∙ append-nil (take 48 (drop 32 bytes))) ∙ sym equal' ∙ spells'; behind = rest.0 z });
        header = seal_header h (format_of h.format totals totals_range) p.0 (leb-true h.era 2 p.1) sequence count;
        ranges = widths;
        totals_range = totals_range;
      },
      λ is. rest.1 (parts_of bytes h seal totals is.spelled).behind,
    )

-- if the line of the numbers is another one, there is no such seal
pub other_numbers : (bytes numbers line : List ℕ) (h : Header) (seal : Seal) (totals : Option Totals) (same : Bool) → numbers ≡ numbers_line seal totals → line ≡ take 48 (drop 32 bytes) ++ zeros 0 → same ≡ bytes_eq numbers line → same ≡ false
    → IsSealOf bytes h seal totals → ⊥
other_numbers bytes numbers line h seal totals same spells at test f is =
    let equal : numbers ≡ line = spells ∙ sym (at ∙ append-nil (take 48 (drop 32 bytes)) ∙ (parts_of bytes h seal totals is.spelled).numbers) in
    both_ways same f (test ∙ (bytes_eq-Decides numbers line).1 equal)

-- the totals are in range, if the format has them
pub told_in_range : (format : ℕ) (t : Totals) → is_format format ≡ true → FitsCounts (totals_told format t) → totals_in_range format (totals_told format t) ≡ true
told_in_range format t is fits = by_format (format == 1) refl is fits
  where
    by_format : (one : Bool) → (format == 1) ≡ one → is_format format ≡ true → FitsCounts (cond one None (Some t)) → totals_in_range format (cond one None (Some t)) ≡ true
    by_format true u is fits = u
    by_format false u is fits =
        let two : (format == 2) ≡ true = ap (λ b. b || (format == 2)) (sym u) ∙ is in
        and_from _ _ (and_from _ _ two (lt-ltb _ _ fits.0)) (lt-ltb _ _ fits.1)

pub seal_written : (one two three front numbers : List ℕ) (h : Header) (seal : Seal) (totals : Option Totals) → front ≡ spelled_header h → numbers ≡ numbers_line seal totals → take (0 + length front) one ≡ front
    → take (32 + length numbers) two ≡ take 32 one ++ numbers → three ≡ take 80 two ++ zeros 4016 → three ≡ spelled_seal h seal totals
seal_written one two three front numbers h seal totals spells spells' head line tail =
    let first : take 32 one ≡ spelled_header h = header_put one front h spells head in
    let second : take 80 two ≡ take 32 one ++ numbers_line seal totals = ap (λ k. take (32 + k) two) (sym (ap length spells' ∙ length-numbers seal totals)) ∙ line ∙ ap (λ s. take 32 one ++ s) spells' in
    tail ∙ ap (λ s. s ++ zeros 4016) (second ∙ ap (λ s. s ++ numbers_line seal totals) first) ∙ append_assoc (spelled_header h) (numbers_line seal totals) (zeros 4016) ∙ in_parts h seal totals

-- ---- reading

-- a number of the line behind the header
behind : (w : Width) (i k : ℕ) (bytes : List ℕ) → byte_len w ≤ k → i + k ≡ 48 → number w i (take 48 (drop 32 bytes)) ≡ number w (32 + i) bytes
behind w i k bytes low is =
    ap (λ n. from_be_bytes w (take (byte_len w) (drop i (take n (drop 32 bytes))))) (sym is)
    ∙ ap (λ s. from_be_bytes w (take (byte_len w) s)) (drop-take i k (drop 32 bytes))
    ∙ ap (from_be_bytes w) (take-take (byte_len w) k (drop i (drop 32 bytes)) low ∙ ap (take (byte_len w)) (drop-drop i 32 bytes))

numbers_behind : (bytes : List ℕ) → numbers_in (take 48 (drop 32 bytes)) ≡ seal_in bytes
numbers_behind bytes = λ t. record {
  p = behind w32 0 48 bytes (omega arith) refl t;
  c = behind w32 4 44 bytes (omega arith) refl t;
  l = behind w32 8 40 bytes (omega arith) refl t;
  j = behind w32 12 36 bytes (omega arith) refl t;
  size = behind w64 16 32 bytes (omega arith) refl t;
}

counts_there : (bytes : List ℕ) → counts_in (take 48 (drop 32 bytes)) ≡ record { entries = number w64 56 bytes; dirty = number w64 64 bytes }
counts_there bytes = λ t. record {
  entries = behind w64 24 24 bytes (omega arith) refl t;
  dirty = behind w64 32 16 bytes (omega arith) refl t;
}

pub numbers_are : (bytes line : List ℕ) → line ≡ take 48 (drop 32 bytes) ++ zeros 0 → numbers_in line ≡ seal_in bytes
numbers_are bytes line at = ap numbers_in (at ∙ append-nil (take 48 (drop 32 bytes))) ∙ numbers_behind bytes

pub totals_are : (bytes line : List ℕ) (h : Header) → line ≡ take 48 (drop 32 bytes) ++ zeros 0 → h ≡ header_in (take 32 bytes) → totals_told h.format (counts_in line) ≡ totals_in (byte 8 bytes) bytes
totals_are bytes line h at there =
    let format : h.format ≡ byte 8 bytes = ap (λ (k : Header). k.format) there ∙ get_or-take 32 bytes 8 0 (omega arith) in
    ap₂ totals_told format (ap counts_in (at ∙ append-nil (take 48 (drop 32 bytes))) ∙ counts_there bytes)

pub no_seal : (bytes : List ℕ) (h : Header) (seal : Seal) (totals : Option Totals) → h ≡ header_in (take 32 bytes) → seal ≡ seal_in bytes → totals ≡ totals_in (byte 8 bytes) bytes → (IsSealOf bytes h seal totals → ⊥) → None ≡ read_seal bytes
no_seal bytes h seal totals there there' there'' not = by_answer (read_seal bytes) refl
  where
    by_answer : (o : Option (Header × Seal × Option Totals)) → read_seal bytes ≡ o → None ≡ o
    by_answer None is = refl
    by_answer (Some w) is =
        let p = seal_is bytes w.0 w.1 w.2 is in
        let s = seal_spelled bytes w.0 w.1 w.2 is in
        let s' = subst (λ (k : Option Totals). IsSealOf bytes w.0 w.1 k) (sym p.totals_there ∙ sym there'') s in
        absurd (not (subst (λ (k : Header). IsSealOf bytes k seal totals) (sym p.there ∙ sym there) (subst (λ (k : Seal). IsSealOf bytes w.0 k totals) (sym p.there_too ∙ sym there') s')))

pub seal_match : (bytes : List ℕ) (o : Option (Header × Seal × Option Totals)) → o ≡ read_seal bytes → MatchOption o ((h : Header) (s : Seal) (t : Option Totals) → IsSealOf bytes h s t → ⊥) (λ r. IsSealOf bytes r.0 r.1 r.2)
seal_match bytes None is = λ h s t seal. none-some {A = Header × Seal × Option Totals} (h, s, t) (is ∙ seal_read bytes h s t seal)
seal_match bytes (Some r) is = seal_spelled bytes r.0 r.1 r.2 (sym is)
