-- The line of a record, and reading one by spelling it again.
use Rattle.std.proofs.Common.{◌≡◌, ℕ, ◌+◌, ◌-◌, Bool, true, false, ◌&&◌, cond, List, ◌++◌, length, take, drop, Some, None, refl, sym, ◌∙◌, ap, ap₂, arith, length-append}
use Rattle.std.specs.Str.{bytes_eq}
use Rattle.std.proofs.lemmas.Bool.{and_from, and_parts}
use Rattle.std.proofs.lemmas.List.{drop-drop, drop_at, length-take-le, take_at}
use Rattle.ft_base.specs.declared.record.Record.{Record}
use Rattle.ft_base.specs.declared.record.Record.TheVariants.{SetPage, Remove, Clean, SetGroup, RemoveGroup}
use Rattle.cache_model.specs.Spelling.{zeros, record_bytes, spelled_record, has_widths, is_sound}
use Rattle.cache_model.specs.Reading.{record_in}
use Rattle.cache_model.proofs.ReadingLemmas.{read_is, read_again}
use Rattle.cache_model.proofs.SpellingLemmas.{record-again}
use Rattle.record_codec.specs.Lines.{spelled_line, spelled_set, read_line}

-- the record that is read, if the tests pass
pub line_reads : (line : List ℕ) (wide : Bool) (r : Record) (same : Bool) → r ≡ record_in wide line → same ≡ bytes_eq (spelled_line wide r) line → has_widths wide r ≡ true → read_line wide line ≡ cond (same && is_sound wide r) (Some r) None
unfolding read_line
line_reads line wide r same there s t =
    ap (λ k. cond (bytes_eq (spelled_line wide k) line && (has_widths wide k && is_sound wide k)) (Some k) None) (sym there)
    ∙ ap (λ b. cond (b && (has_widths wide r && is_sound wide r)) (Some r) None) (sym s)
    ∙ ap (λ b. cond (same && (b && is_sound wide r)) (Some r) None) t

-- ---- writing a line

-- the bytes of a set
abbrev pub set_bytes : Bool → ℕ
set_bytes true = 16
set_bytes false = 8

length-set : (wide : Bool) (pages : ℕ) → length (spelled_set wide pages) ≡ set_bytes wide
length-set true pages = refl
length-set false pages = refl

-- two pieces are put one behind the other
two_put : (old now now' x y : List ℕ) (n a b : ℕ) → length (take n old) ≡ n → length x ≡ a → now ≡ take n old ++ x ++ drop (n + a) old → now' ≡ take (n + a) now ++ y ++ drop (n + a + b) now
    → now' ≡ take n old ++ x ++ y ++ drop (n + a + b) old
two_put old now now' x y n a b long long' put put' =
    let front : length (take n old ++ x) ≡ n + a = length-append (take n old) x ∙ ap₂ (λ i j. i + j) long long' in
    let first : take (n + a) now ≡ take n old ++ x = ap (take (n + a)) put ∙ take_at (take n old ++ x) (drop (n + a) old) (n + a) front in
    let rest : drop (n + a + b) now ≡ drop (n + a + b) old =
    ap (drop (n + a + b)) put ∙ sym (drop-drop b (n + a) (take n old ++ x ++ drop (n + a) old)) ∙ ap (drop b) (drop_at (take n old ++ x) (drop (n + a) old) (n + a) front) ∙ drop-drop b (n + a) old in
    put' ∙ ap₂ (λ s t. s ++ y ++ t) first rest

pub sets_put : (wide : Bool) (old now now' : List ℕ) (present dirty : ℕ) → length old ≡ 48 → now ≡ take 16 old ++ spelled_set wide present ++ drop (16 + set_bytes wide) old
    → now' ≡ take (16 + set_bytes wide) now ++ spelled_set wide dirty ++ drop (16 + set_bytes wide + set_bytes wide) now → now' ≡ take 16 old ++ spelled_set wide present ++ spelled_set wide dirty ++ drop (record_bytes wide) old
sets_put wide old now now' present dirty long put put' =
    two_put old now now' (spelled_set wide present) (spelled_set wide dirty) 16 (set_bytes wide) (set_bytes wide) (length-take-le 16 old (omega (arith, long))) (length-set wide present) put put'
    ∙ ap (λ n. take 16 old ++ spelled_set wide present ++ spelled_set wide dirty ++ drop n old) (both_sets wide)
  where
    both_sets : (wide : Bool) → 16 + set_bytes wide + set_bytes wide ≡ record_bytes wide
    both_sets true = refl
    both_sets false = refl

-- ---- reading it

-- the bytes behind a record aren't looked at
record_in-line : (wide : Bool) (r : Record) (rest : List ℕ) → record_in wide (spelled_record wide r ++ rest) ≡ record_in wide (take (record_bytes wide) (spelled_record wide r ++ rest))
record_in-line true (SetPage lba place dirty) rest = refl
record_in-line true (Remove lba) rest = refl
record_in-line true (Clean lba) rest = refl
record_in-line true (SetGroup group block present dirty) rest = refl
record_in-line true (RemoveGroup group) rest = refl
record_in-line false (SetPage lba place dirty) rest = refl
record_in-line false (Remove lba) rest = refl
record_in-line false (Clean lba) rest = refl
record_in-line false (SetGroup group block present dirty) rest = refl
record_in-line false (RemoveGroup group) rest = refl

pub line_is : (wide : Bool) (line : List ℕ) (r : Record) → read_line wide line ≡ Some r → (spelled_line wide r ≡ line) × (has_widths wide r ≡ true) × (is_sound wide r ≡ true)
unfolding read_line
line_is wide line r is =
    let p = read_is (spelled_line wide) (λ r. has_widths wide r && is_sound wide r) line (record_in wide line) r is in
    let q = and_parts (has_widths wide r) (is_sound wide r) p.2 in (p.1, q.0, q.1)

pub line_read : (wide : Bool) (line : List ℕ) (r : Record) → line ≡ spelled_line wide r → has_widths wide r ≡ true → is_sound wide r ≡ true → read_line wide line ≡ Some r
unfolding read_line
line_read wide line r is widths sound =
    let rest = zeros (48 - record_bytes wide) in
    read_again (spelled_line wide) (λ r. has_widths wide r && is_sound wide r) line (record_in wide line) r is (and_from _ _ widths sound)
    (ap (record_in wide) is ∙ record_in-line wide r rest ∙ record-again wide r rest widths sound)
