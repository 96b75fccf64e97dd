-- Pages by their records.
use Rattle.std.proofs.Common.{◌≡◌, ℕ, zero, suc, ◌+◌, ◌-◌, ◌*◌, ◌<◌, ◌≤◌, Bool, true, false, cond, ◌&&◌, List, [], ◌∷◌, ◌++◌, length, get_or, set}
use Rattle.std.proofs.Common.{take, drop, flat_map, Some, None, Option, IsTrue, ◌↔◌, refl, sym, ◌∙◌, ap, ap₂, subst, arith, append_assoc, leb-true, le-leb, lt-ltb, ◌^◌, length-append}
use Rattle.std.proofs.Common.{◌==◌, bit_and, nat_le, nat_lt, eqb-true, ltb-true}
use Rattle.std.specs.Bool.{OnTrue, OnFalse}
use Rattle.std.specs.List.{list_all}
use Rattle.std.proofs.lemmas.Bool.{and_parts, and_from, both_ways}
use Rattle.std.proofs.lemmas.Nat.{and_le_l}
use Rattle.std.proofs.lemmas.List.{take_more, take_more_set, flat_map_more, take-take, drop-drop, drop-take, take-append-drop, length-take-le, drop_at, take_at, append-nil, append_cancel_right}
use Rattle.std.proofs.lemmas.List.Folds.{list_all_more, list_all-append}
use Rattle.ft_base.specs.declared.record.Record.{Record}
use Rattle.ft_base.specs.declared.record.Record.TheVariants.{SetPage, Remove, Clean, SetGroup, RemoveGroup}
use Rattle.cache_model.specs.declared.format.PageKind.{PageKind}
use Rattle.cache_model.specs.declared.format.PageKind.TheVariants.{Log, Map, Seal as SealPage}
use Rattle.cache_model.specs.declared.format.Header.{Header}
use Rattle.cache_model.specs.Spelling.{zeros, spelled_header, spelled_record, record_bytes, rest_of_page, has_widths, is_format, is_sound, is_wide, goes_on, may_stand_in, most_records_of, header_in_range, is_log_or_map, count_in_range, page_limit, set_limit, records_in_range, IsPageHeaderOf, IsPage}
use Rattle.cache_model.specs.Reading.{read_page_header, read_records}
use Rattle.cache_model.proofs.SpellingLemmas.{take-record, drop-record, page_read, page_spelled}
use Rattle.record_codec.specs.Lines.{BeginsWith, FitsLine, read_line, record_line, spelled_line}
use Rattle.record_codec.proofs.RecordLemmas.{line_is, line_read}
use Rattle.record_codec.proofs.WidthLemmas.{bytes-next, bytes-suc, bytes-zero, limit_few, limits_same, most_few}

-- ---- writing

at_index : {X : Type 0} (p : X → Bool) (xs : List X) (i : ℕ) (d : X) → i < length xs → list_all p xs ≡ true → p (get_or xs i d) ≡ true
at_index p [] i d within t = absurd (omega arith)
at_index p (x ∷ xs) zero d within t = (and_parts (p x) (list_all p xs) t).0
at_index p (x ∷ xs) (suc i) d within t = at_index p xs i d (omega arith) (and_parts (p x) (list_all p xs) t).1

-- a record that may stand in a page fits a line: its dirty pages are among the present ones
dirty_below : (present dirty : ℕ) → bit_and present dirty ≡ dirty → dirty ≤ present
dirty_below present dirty within = subst (λ n. n ≤ present) within (and_le_l present dirty)

sound_fits : (wide : Bool) (r : Record) → is_sound wide r ≡ true → FitsLine wide r
sound_fits wide (SetPage lba place dirty) t =
    let low : place.page < page_limit wide = ltb-true _ _ t in
    let few : page_limit wide ≤ 128 = limit_few wide in
    omega (arith, low, few)
sound_fits wide (Remove lba) t = tt
sound_fits wide (Clean lba) t = tt
sound_fits wide (SetGroup group block present dirty) t =
    let p = and_parts (nat_lt 0 present && (bit_and present dirty == dirty)) (nat_lt present (2 ^ page_limit wide)) t in
    let low : present < set_limit wide = subst (λ n. present < n) (limits_same wide) (ltb-true _ _ p.1) in
    let less : dirty ≤ present = dirty_below present dirty (eqb-true _ _ (and_parts (nat_lt 0 present) (bit_and present dirty == dirty) p.0).1) in
    (low, omega (arith, low, less))
sound_fits wide (RemoveGroup group) t = tt

pub fits_at : (wide : Bool) (kind : PageKind) (rs : List Record) (i : ℕ) (d : Record) → i < length rs → list_all (may_stand_in wide kind) rs ≡ true → FitsLine wide (get_or rs i d)
fits_at wide kind rs i d within all =
    let r = get_or rs i d in
    sound_fits wide r (and_parts (is_sound wide r) (goes_on kind r) (at_index (may_stand_in wide kind) rs i d within all)).0

-- these records stand behind the header
pub record RecordsSoFar (wide : Bool) (old now : List ℕ) (rs : List Record) (i : ℕ) : Type 0 where
  pub front : take (32 + record_bytes wide * i) now ≡ take 32 old ++ flat_map (spelled_record wide) rs
  pub widths : list_all (has_widths wide) rs ≡ true

pub none_so_far : (wide : Bool) (old : List ℕ) → RecordsSoFar wide old old [] 0
none_so_far wide old = record {
  front = ap (λ n. take (32 + n) old) (bytes-zero wide) ∙ sym (append-nil (take 32 old));
  widths = refl;
}

pub records_more : (wide : Bool) (old now now' : List ℕ) (rs : List Record) (i : ℕ) (d : Record) → i < length rs → RecordsSoFar wide old now (take i rs) i → has_widths wide (get_or rs i d) ≡ true
    → take (32 + record_bytes wide * i + record_bytes wide) now' ≡ take (32 + record_bytes wide * i) now ++ spelled_record wide (get_or rs i d) → RecordsSoFar wide old now' (take (i + 1) rs) (i + 1)
records_more wide old now now' rs i d within so_far widths put =
    let r = get_or rs i d in
    let next : record_bytes wide * (i + 1) ≡ record_bytes wide * i + record_bytes wide = bytes-next wide i in
    let here : 32 + record_bytes wide * (i + 1) ≡ 32 + record_bytes wide * i + record_bytes wide = omega (arith, next) in
    record {
      front =
          ap (λ n. take n now') here ∙ put ∙ ap (λ s. s ++ spelled_record wide r) so_far.front
          ∙ flat_map_more (spelled_record wide) (take 32 old) (take i rs) r ∙ ap (λ (xs : List Record). take 32 old ++ flat_map (spelled_record wide) xs) (sym (take_more rs i d within));
      widths = list_all_more (has_widths wide) rs i d within ∙ and_from _ _ so_far.widths widths;
    }

length-record : (wide : Bool) (r : Record) → length (spelled_record wide r) ≡ record_bytes wide
length-record true (SetPage lba place dirty) = refl
length-record true (Remove lba) = refl
length-record true (Clean lba) = refl
length-record true (SetGroup group block present dirty) = refl
length-record true (RemoveGroup group) = refl
length-record false (SetPage lba place dirty) = refl
length-record false (Remove lba) = refl
length-record false (Clean lba) = refl
length-record false (SetGroup group block present dirty) = refl
length-record false (RemoveGroup group) = refl

both_all : {X : Type 0} (p q : X → Bool) (xs : List X) → list_all p xs ≡ true → list_all q xs ≡ true → list_all (λ x. p x && q x) xs ≡ true
both_all p q [] t u = refl
both_all p q (x ∷ xs) t u =
    let a = and_parts (p x) (list_all p xs) t in
    let b = and_parts (q x) (list_all q xs) u in
    and_from (p x && q x) (list_all (λ x. p x && q x) xs) (and_from (p x) (q x) a.0 b.0) (both_all p q xs a.1 b.1)

count_from : (kind : PageKind) (n : ℕ) → is_log_or_map kind ≡ true → 1 ≤ n → n ≤ 127 → count_in_range kind n ≡ true
count_from Log n t low high = and_from _ _ (le-leb _ _ low) (le-leb _ _ high)
count_from Map n t low high = and_from _ _ (le-leb _ _ low) (le-leb _ _ high)
count_from SealPage n t low high = absurd (cc)

pub record MayHead (wide : Bool) (h : Header) (count : ℕ) : Type 0 where
  pub format : is_format h.format ≡ true
  pub kind : is_log_or_map h.kind ≡ true
  pub era : h.era ≤ 2
  pub sequence : h.sequence < 2 ^ 32
  pub count_is : h.count ≡ count
  pub some : 1 ≤ count
  pub room : count ≤ most_records_of wide

header_from : (wide : Bool) (h : Header) (count : ℕ) → MayHead wide h count → (header_in_range h && is_log_or_map h.kind) ≡ true
header_from wide h count may =
    let few : most_records_of wide ≤ 127 = most_few wide in
    let room : count ≤ most_records_of wide = may.room in
    let range = ap (count_in_range h.kind) may.count_is ∙ count_from h.kind count may.kind may.some (omega (arith, few, room)) in
    and_from _ _ (and_from _ _ (and_from _ _ (and_from _ _ may.format (le-leb _ _ may.era)) (lt-ltb _ _ may.sequence)) range) may.kind

left : (k : ℕ) → 4096 - (32 + k) ≡ 4064 - k
left k = omega arith

-- the header is put at the front
pub header_put : (now front : List ℕ) (h : Header) → front ≡ spelled_header h → take (0 + length front) now ≡ front → take 32 now ≡ spelled_header h
header_put now front h is put =
    let long : length front ≡ 32 = ap length is in
    let same : 32 ≡ 0 + length front = omega (arith, long) in
    ap (λ k. take k now) same ∙ put ∙ is

module _ (p : ℕ) (one two three : List ℕ) (h : Header) (rs : List Record) where
  -- a page of this width, whose rest begins here
  pub record PageIsWritten (wide : Bool) (at : ℕ) : Type 0 where
    pub head : take 32 one ≡ spelled_header h
    pub records : take (32 + record_bytes wide * length rs) two ≡ take 32 one ++ flat_map (spelled_record wide) rs
    pub place : at ≡ 32 + record_bytes wide * length rs
    pub rest : three ≡ take at two ++ zeros (4096 - at)
    pub widths : list_all (has_widths wide) rs ≡ true

  written : MayHead (is_wide h.format p) h (length rs) → list_all (may_stand_in (is_wide h.format p) h.kind) rs ≡ true → (at : ℕ) → PageIsWritten (is_wide h.format p) at → IsPage p three h rs
  written may stand at is =
      let wide = is_wide h.format p in
      let size = record_bytes wide * length rs in
      record {
        spelled =
            is.rest ∙ ap (λ n. take n two ++ zeros (4096 - n)) is.place ∙ ap (λ s. s ++ zeros (4096 - (32 + size))) (is.records ∙ ap (λ s. s ++ flat_map (spelled_record wide) rs) is.head)
            ∙ ap (λ n. spelled_header h ++ flat_map (spelled_record wide) rs ++ zeros n) (left size);
        header = header_from wide h (length rs) may;
        count = may.count_is;
        ranges = and_from _ _ (le-leb _ _ may.room) (both_all (has_widths wide) (may_stand_in wide h.kind) rs is.widths stand);
      }

  pub page_written : (wide : Bool) (at : ℕ) → wide ≡ is_wide h.format p → PageIsWritten wide at → MayHead (is_wide h.format p) h (length rs) → list_all (may_stand_in (is_wide h.format p) h.kind) rs ≡ true → IsPage p three h rs
  page_written wide at width is may stand = written may stand at (subst (λ w. PageIsWritten w at) width is)

-- ---- reading

take_two : (n m : ℕ) (bytes : List ℕ) → take (n + m) bytes ≡ take n bytes ++ take m (drop n bytes)
take_two zero m bytes = ap (λ k. take k bytes) (omega arith)
take_two (suc n) m [] = none (suc n + m) ∙ sym (none m)
  where
    none : (k : ℕ) → take {A = ℕ} k [] ≡ []
    none zero = refl
    none (suc k) = refl
take_two (suc n) m (b ∷ bytes) = ap (λ k. take k (b ∷ bytes)) (one_up n m) ∙ ap (λ (s : List ℕ). b ∷ s) (take_two n m bytes)
  where
    one_up : (n m : ℕ) → suc n + m ≡ suc (n + m)
    one_up n m = omega arith

pub length-records : (wide : Bool) (rs : List Record) → length (flat_map (spelled_record wide) rs) ≡ record_bytes wide * length rs
length-records wide [] = sym (bytes-zero wide)
length-records wide (r ∷ rs) =
    length-append (spelled_record wide r) (flat_map (spelled_record wide) rs) ∙ ap₂ (λ n m. n + m) (length-record wide r) (length-records wide rs) ∙ bytes-suc wide (length rs)

-- the bytes of the i-th record
records_parts : (wide : Bool) (rs : List Record) (bytes : List ℕ) (i : ℕ) (d : Record) → i < length rs → take (record_bytes wide * length rs) bytes ≡ flat_map (spelled_record wide) rs
    → take (record_bytes wide) (drop (record_bytes wide * i) bytes) ≡ spelled_record wide (get_or rs i d)
records_parts wide [] bytes i d within is = absurd (omega arith)
records_parts wide (r ∷ rs) bytes zero d within is =
    let more : record_bytes wide + record_bytes wide * length rs ≡ record_bytes wide * suc (length rs) = bytes-suc wide (length rs) in
    ap (λ n. take (record_bytes wide) (drop n bytes)) (bytes-zero wide)
    ∙ sym (take-take (record_bytes wide) (record_bytes wide * suc (length rs)) bytes (omega (arith, more))) ∙ ap (take (record_bytes wide)) is ∙ take-record wide r (flat_map (spelled_record wide) rs)
records_parts wide (r ∷ rs) bytes (suc i) d within is =
    let size = record_bytes wide in
    let rest : take (size * length rs) (drop size bytes) ≡ flat_map (spelled_record wide) rs =
    sym (drop-take size (size * length rs) bytes) ∙ ap (λ n. drop size (take n bytes)) (bytes-suc wide (length rs)) ∙ ap (drop size) is ∙ drop-record wide r (flat_map (spelled_record wide) rs) in
    ap (λ n. take size (drop n bytes)) (sym (bytes-suc wide i)) ∙ ap (take size) (sym (drop-drop (size * i) size bytes)) ∙ records_parts wide rs (drop size bytes) i d (omega arith) rest

-- the bytes behind the header
behind_header : (wide : Bool) (page : List ℕ) (i : ℕ) → record_line wide i page ≡ take (record_bytes wide) (drop (record_bytes wide * i) (drop 32 page)) ++ zeros (48 - record_bytes wide)
behind_header wide page i = ap (λ s. take (record_bytes wide) s ++ zeros (48 - record_bytes wide)) (sym (drop-drop (record_bytes wide * i) 32 page))

-- no records whose i-th is not the i-th line
line_spelled : (wide : Bool) (kind : PageKind) (rs : List Record) (page : List ℕ) (i : ℕ) (d : Record) → i < length rs → BeginsWith wide kind rs (drop 32 page)
    → (read_line wide (record_line wide i page) ≡ Some (get_or rs i d)) × (goes_on kind (get_or rs i d) ≡ true)
line_spelled wide kind rs page i d within begins =
    let r = get_or rs i d in
    let p = and_parts (has_widths wide r) (may_stand_in wide kind r) (at_index (λ r. has_widths wide r && may_stand_in wide kind r) rs i d within begins.ranges) in
    let q = and_parts (is_sound wide r) (goes_on kind r) p.1 in
    let line : record_line wide i page ≡ spelled_line wide r = behind_header wide page i ∙ ap (λ s. s ++ zeros (48 - record_bytes wide)) (records_parts wide rs (drop 32 page) i d within begins.spelled) in
    (line_read wide (record_line wide i page) r line p.0 q.0, q.1)

pub line_refused : (wide : Bool) (kind : PageKind) (page : List ℕ) (i n : ℕ) (answer : Option Record) → i < n → answer ≡ read_line wide (record_line wide i page) → answer ≡ None → (rs : List Record) → length rs ≡ n → BeginsWith wide kind rs (drop 32 page) → ⊥
line_refused wide kind page i n answer within reads none rs long begins =
    let d = Remove 0 in
    let p = line_spelled wide kind rs page i d (omega arith) begins in
    let is : None ≡ Some (get_or rs i d) = sym none ∙ reads ∙ p.0 in
    absurd (cc)

pub kind_refused : (wide : Bool) (kind : PageKind) (page : List ℕ) (i n : ℕ) (r : Record) (good : Bool) → i < n → Some r ≡ read_line wide (record_line wide i page) → good ≡ goes_on kind r → good ≡ false → (rs : List Record) → length rs ≡ n → BeginsWith wide kind rs (drop 32 page) → ⊥
kind_refused wide kind page i n r good within reads test f rs long begins =
    let d = Remove 0 in
    let p = line_spelled wide kind rs page i d (omega arith) begins in
    let is : Some r ≡ Some (get_or rs i d) = reads ∙ p.0 in
    let same : r ≡ get_or rs i d = cc in
    both_ways good f (test ∙ ap (goes_on kind) same ∙ p.1)

pub record LinesSoFar (wide : Bool) (kind : PageKind) (page : List ℕ) (out : List Record) (i : ℕ) : Type 0 where
  pub long : length out ≡ 127
  pub begins : BeginsWith wide kind (take i out) (drop 32 page)

-- one record more
pub begins_more : (wide : Bool) (kind : PageKind) (page : List ℕ) (out : List Record) (i : ℕ) (r : Record) (good : Bool) → i < length out → Some r ≡ read_line wide (record_line wide i page)
    → good ≡ goes_on kind r → good ≡ true → BeginsWith wide kind (take i out) (drop 32 page) → BeginsWith wide kind (take (i + 1) (set out i r)) (drop 32 page)
begins_more wide kind page out i r good within reads test t begins =
    let bytes = drop 32 page in
    let size = record_bytes wide in
    let is = line_is wide (record_line wide i page) r (sym reads) in
    let more : take (i + 1) (set out i r) ≡ take i out ++ r ∷ [] = take_more_set out i r within in
    let long : length (take i out) ≡ i = length-take-le i out (omega arith) in
    let so_far : take (size * i) bytes ≡ flat_map (spelled_record wide) (take i out) = ap (λ n. take (size * n) bytes) (sym long) ∙ begins.spelled in
    let here : take size (drop (size * i) bytes) ≡ spelled_record wide r =
    append_cancel_right (take size (drop (size * i) bytes)) (spelled_record wide r) (zeros (48 - size)) (sym (behind_header wide page i) ∙ sym is.0) in
    let fits : (has_widths wide r && may_stand_in wide kind r) ≡ true = and_from _ _ is.1 (and_from _ _ is.2 (sym test ∙ t)) in
    subst (λ (rs : List Record). BeginsWith wide kind rs bytes) (sym more) (record {
      spelled =
          ap (λ n. take (size * n) bytes) (length-append (take i out) (r ∷ []) ∙ ap (λ n. n + 1) long) ∙ ap (λ n. take n bytes) (bytes-next wide i) ∙ take_two (size * i) size bytes
          ∙ ap₂ (λ s t. s ++ t) so_far here ∙ flat_map_more (spelled_record wide) [] (take i out) r;
      ranges = list_all-append (λ r. has_widths wide r && may_stand_in wide kind r) (take i out) (r ∷ []) ∙ and_from _ _ begins.ranges (and_from _ _ fits refl);
    })

-- ---- the page

-- the bytes behind this many records are zero
abbrev pub RestIsZero : Bool → ℕ → List ℕ → Type 0
RestIsZero wide n bytes = drop (32 + record_bytes wide * n) bytes ≡ zeros (4096 - (32 + record_bytes wide * n))

-- a page, by its header, its records and the bytes behind them
pub page_from : (p : ℕ) (bytes : List ℕ) (h : Header) (rs : List Record) → IsPageHeaderOf bytes h → h.count ≡ length rs → length rs ≤ most_records_of (is_wide h.format p) → BeginsWith (is_wide h.format p) h.kind rs (drop 32 bytes)
    → RestIsZero (is_wide h.format p) (length rs) bytes → IsPage p bytes h rs
page_from p bytes h rs head count few begins rest =
    let wide = is_wide h.format p in
    let n = record_bytes wide * length rs in
    let behind : drop n (drop 32 bytes) ≡ rest_of_page wide (length rs) = drop-drop n 32 bytes ∙ rest ∙ ap zeros (left n) in
    record {
      spelled =
          sym (take-append-drop 32 bytes) ∙ ap₂ (λ s t. s ++ t) head.spelled (sym (take-append-drop n (drop 32 bytes)) ∙ ap₂ (λ s t. s ++ t) begins.spelled behind)
          ∙ sym (append_assoc (spelled_header h) (flat_map (spelled_record wide) rs) (rest_of_page wide (length rs)));
      header = head.header;
      count = count;
      ranges = and_from _ _ (le-leb _ _ few) begins.ranges;
    }

pub record PageParts (wide : Bool) (bytes : List ℕ) (h : Header) (rs : List Record) : Type 0 where
  pub head : IsPageHeaderOf bytes h
  pub few : length rs ≤ most_records_of wide
  pub begins : BeginsWith wide h.kind rs (drop 32 bytes)
  pub behind : RestIsZero wide (length rs) bytes

pub page_parts : (p : ℕ) (bytes : List ℕ) (h : Header) (rs : List Record) → IsPage p bytes h rs → PageParts (is_wide h.format p) bytes h rs
page_parts p bytes h rs is =
    let wide = is_wide h.format p in
    let records = flat_map (spelled_record wide) rs in
    let n = record_bytes wide * length rs in
    let whole : bytes ≡ spelled_header h ++ (records ++ rest_of_page wide (length rs)) = is.spelled ∙ append_assoc (spelled_header h) records (rest_of_page wide (length rs)) in
    let tail : drop 32 bytes ≡ records ++ rest_of_page wide (length rs) = ap (drop 32) whole in
    let ranges = and_parts (nat_le (length rs) (most_records_of wide)) (records_in_range wide h.kind rs) is.ranges in
    record {
      head = record { spelled = ap (take 32) whole; header = is.header };
      few = leb-true _ _ ranges.0;
      begins = record { spelled = ap (take n) tail ∙ take_at records (rest_of_page wide (length rs)) n (length-records wide rs); ranges = ranges.1 };
      behind = sym (drop-drop n 32 bytes) ∙ ap (drop n) tail ∙ drop_at records (rest_of_page wide (length rs)) n (length-records wide rs) ∙ ap zeros (sym (left n));
    }

count_low : (kind : PageKind) (n : ℕ) → is_log_or_map kind ≡ true → count_in_range kind n ≡ true → n ≤ 127
count_low Log n t u = leb-true _ _ (and_parts _ _ u).1
count_low Map n t u = leb-true _ _ (and_parts _ _ u).1
count_low SealPage n t u = absurd (cc)

-- as many records as the header says
pub counted : (bytes : List ℕ) (h : Header) (out : List Record) → IsPageHeaderOf bytes h → length out ≡ 127 → h.count ≡ length (take h.count out)
counted bytes h out head long =
    let p = and_parts _ _ head.header in
    let low : h.count ≤ 127 = count_low h.kind h.count p.1 (and_parts _ _ p.0).1 in
    sym (length-take-le h.count out (omega arith))

-- ---- the meaning of the last tests

module _ (p : ℕ) (bytes : List ℕ) (h : Header) where
  -- a page of this width, whose rest begins here, and is zero if the test says so
  pub record IsTested (wide : Bool) (at : ℕ) (answer : Bool) : Type 0 where
    pub width : wide ≡ is_wide h.format p
    pub place : at ≡ 32 + record_bytes wide * h.count
    pub test : IsTrue answer ↔ (drop at bytes ≡ zeros (4096 - at))

  at_width : (wide : Bool) (at : ℕ) (answer : Bool) → IsTested wide at answer → IsTrue answer ↔ RestIsZero (is_wide h.format p) h.count bytes
  at_width wide at answer is =
      let place : at ≡ 32 + record_bytes (is_wide h.format p) * h.count = is.place ∙ ap (λ w. 32 + record_bytes w * h.count) is.width in
      subst (λ n. IsTrue answer ↔ (drop n bytes ≡ zeros (4096 - n))) place is.test

  pub when_read : (rs : List Record) (wide : Bool) (at : ℕ) (answer : Bool) → IsTested wide at answer → h.count ≡ length rs → IsPageHeaderOf bytes h → h.count ≤ most_records_of wide → BeginsWith wide h.kind rs (drop 32 bytes) → OnTrue answer (IsPage p bytes h rs)
  when_read rs wide at true is count head few begins =
      let own = is_wide h.format p in
      let room : length rs ≤ most_records_of own = subst (λ n. n ≤ most_records_of own) count (subst (λ w. h.count ≤ most_records_of w) is.width few) in
      page_from p bytes h rs head count room (subst (λ w. BeginsWith w h.kind rs (drop 32 bytes)) is.width begins) (subst (λ n. RestIsZero own n bytes) count ((at_width wide at true is).0 refl))
  when_read rs wide at false is count head few begins = tt

  pub when_refused : (wide : Bool) (at : ℕ) (answer : Bool) → IsTested wide at answer → OnFalse answer ((rs : List Record) → IsPage p bytes h rs → ⊥)
  when_refused wide at true is = tt
  when_refused wide at false is = λ rs page.
      let rest : RestIsZero (is_wide h.format p) h.count bytes = subst (λ n. RestIsZero (is_wide h.format p) n bytes) (sym page.count) (page_parts p bytes h rs page).behind in
      let both : false ≡ true = (at_width wide at false is).1 rest in
      absurd (cc)

  -- no page has more records than it takes
  pub too_many : (wide : Bool) (most : ℕ) → wide ≡ is_wide h.format p → most ≡ most_records_of wide → most < h.count → (rs : List Record) → IsPage p bytes h rs → ⊥
  too_many wide most width is many rs page =
      let few : length rs ≤ most_records_of (is_wide h.format p) = (page_parts p bytes h rs page).few in
      let count : h.count ≡ length rs = page.count in
      let same : most ≡ most_records_of (is_wide h.format p) = is ∙ ap most_records_of width in
      omega (arith, few, count, same, many)

  -- and no page has records that don't begin so
  pub none_begin : (wide : Bool) → wide ≡ is_wide h.format p → ((rs : List Record) → length rs ≡ h.count → BeginsWith wide h.kind rs (drop 32 bytes) → ⊥) → (rs : List Record) → IsPage p bytes h rs → ⊥
  none_begin wide width not rs page = not rs (sym page.count) (subst (λ w. BeginsWith w h.kind rs (drop 32 bytes)) (sym width) (page_parts p bytes h rs page).begins)

pub no_records : (p : ℕ) (bytes : List ℕ) (h : Header) → ((rs : List Record) → IsPage p bytes h rs → ⊥) → read_page_header bytes ≡ Some h → read_records p h bytes ≡ None
no_records p bytes h not head = by_answer (read_records p h bytes) refl
  where
    by_answer : (o : Option (List Record)) → read_records p h bytes ≡ o → o ≡ None
    by_answer None is = refl
    by_answer (Some rs) is = absurd (not rs (page_spelled p bytes h rs head is))

pub value_from : (p : ℕ) (bytes : List ℕ) (h : Header) (rs : List Record) (b : Bool) → OnTrue b (IsPage p bytes h rs) → OnFalse b ((rs : List Record) → IsPage p bytes h rs → ⊥) → read_page_header bytes ≡ Some h → read_records p h bytes ≡ cond b (Some rs) None
value_from p bytes h rs true read refused head = (page_read p bytes h rs read).1
value_from p bytes h rs false read refused head = no_records p bytes h refused head
