-- The records of a line, and the fields of a record.
use Rattle.std.proofs.Common.{◌≡◌, ◌≢◌, ◌<◌, ℕ, zero, suc, add-one, true, false, List, [], ◌∷◌, length, Option, Some, None, Err, refl, sym, ap, ◌∙◌, arith}
use Rattle.csv.specs.Machine.{Read, next_record}
use Rattle.csv.specs.Reading.{Reached, ReadRecord, default_config, records, records_from, records_next, source_of}
use Rattle.csv.specs.declared.reader.Reader.{Reader}
use Rattle.csv.proofs.ReadFacts.{rows-end, rows-more}
use Rattle.csv.specs.Records.{field_at}
use Rattle.csv.specs.declared.parser.State.{State}
use Rattle.csv.specs.declared.parser.State.TheVariants as st
use Rattle.trace_model.specs.declared.line.LineError.TheVariants as error
use Rattle.msr_trace.specs.Msr.{fields_say, request_says}

-- ---- fields

pub no_field : (fields : List (List ℕ)) (i : ℕ) → i < length fields → field_at fields i ≡ None → ⊥
unfolding field_at
no_field [] i within none = absurd (omega arith)
no_field (f ∷ fields) zero within none = absurd (cc)
no_field (f ∷ fields) (suc i) within none = no_field fields i (omega arith) none

pub other_count : (size number : ℕ) (fields : List (List ℕ)) → length fields ≢ 7 → fields_say size number fields ≡ Err error.BadCount
other_count size number [] other = refl
other_count size number (a ∷ []) other = refl
other_count size number (a ∷ b ∷ []) other = refl
other_count size number (a ∷ b ∷ c ∷ []) other = refl
other_count size number (a ∷ b ∷ c ∷ d ∷ []) other = refl
other_count size number (a ∷ b ∷ c ∷ d ∷ e ∷ []) other = refl
other_count size number (a ∷ b ∷ c ∷ d ∷ e ∷ f ∷ []) other = refl
other_count size number (a ∷ b ∷ c ∷ d ∷ e ∷ f ∷ g ∷ []) other = absurd (other refl)
other_count size number (a ∷ b ∷ c ∷ d ∷ e ∷ f ∷ g ∷ h ∷ more) other = refl

pub seven_fields : (size number : ℕ) (fields : List (List ℕ)) (kind offset bytes : List ℕ) → length fields ≡ 7
    → Some kind ≡ field_at fields 3 → Some offset ≡ field_at fields 4 → Some bytes ≡ field_at fields 5
    → request_says size number kind offset bytes ≡ fields_say size number fields
unfolding field_at
seven_fields size number [] kind offset bytes all k o b = absurd (cc)
seven_fields size number (f0 ∷ []) kind offset bytes all k o b = absurd (omega (arith, all))
seven_fields size number (f0 ∷ f1 ∷ []) kind offset bytes all k o b = absurd (omega (arith, all))
seven_fields size number (f0 ∷ f1 ∷ f2 ∷ []) kind offset bytes all k o b = absurd (omega (arith, all))
seven_fields size number (f0 ∷ f1 ∷ f2 ∷ f3 ∷ []) kind offset bytes all k o b = absurd (omega (arith, all))
seven_fields size number (f0 ∷ f1 ∷ f2 ∷ f3 ∷ f4 ∷ []) kind offset bytes all k o b = absurd (omega (arith, all))
seven_fields size number (f0 ∷ f1 ∷ f2 ∷ f3 ∷ f4 ∷ f5 ∷ []) kind offset bytes all k o b = absurd (omega (arith, all))
seven_fields size number (f0 ∷ f1 ∷ f2 ∷ f3 ∷ f4 ∷ f5 ∷ f6 ∷ []) kind offset bytes all k o b =
    let same_kind : kind ≡ f3 = cc in
    let same_offset : offset ≡ f4 = cc in
    let same_bytes : bytes ≡ f5 = cc in
    ap (λ (w : List ℕ). request_says size number w offset bytes) same_kind
    ∙ ap (λ (w : List ℕ). request_says size number f3 w bytes) same_offset
    ∙ ap (λ (w : List ℕ). request_says size number f3 f4 w) same_bytes
seven_fields size number (f0 ∷ f1 ∷ f2 ∷ f3 ∷ f4 ∷ f5 ∷ f6 ∷ f7 ∷ more) kind offset bytes all k o b = absurd (omega (arith, all))

-- ---- records

-- a text has no record if the first read finds none
pub none_in : (text : List ℕ) → next_record default_config st.StartRecord [] [] text ≡ None → records default_config text ≡ []
unfolding records_from
none_in text none =
    ap (λ n. records_from default_config n st.StartRecord text) (add-one (length text))
    ∙ ap (records_next (records_from default_config (length text))) none

-- it has one record if the second read finds none
pub one_in : (text : List ℕ) (first : Read) → next_record default_config st.StartRecord [] [] text ≡ Some first
    → next_record default_config first.1 [] [] first.2 ≡ None → records default_config text ≡ first.0 ∷ []
unfolding next_record records_from
one_in [] first is none = absurd (cc)
one_in (b ∷ text) first is none =
    ap (λ n. records_from default_config n st.StartRecord (b ∷ text)) (add-one (length (b ∷ text)))
    ∙ ap (records_next (records_from default_config (length (b ∷ text)))) is
    ∙ ap (λ (more : List (List (List ℕ))). first.0 ∷ more) (ap (records_next (records_from default_config (length text))) none)

-- it has more than one if the second read finds one
pub more_in : (text : List ℕ) (first second : Read) → next_record default_config st.StartRecord [] [] text ≡ Some first
    → next_record default_config first.1 [] [] first.2 ≡ Some second
    → (more : List (List (List ℕ))) × (records default_config text ≡ first.0 ∷ second.0 ∷ more)
unfolding next_record records_from
more_in [] first second is next = absurd (cc)
more_in (b ∷ text) first second is next = (
  records_from default_config (length text) second.1 second.2,
  ap (λ n. records_from default_config n st.StartRecord (b ∷ text)) (add-one (length (b ∷ text)))
      ∙ ap (records_next (records_from default_config (length (b ∷ text)))) is
      ∙ ap (λ (more : List (List (List ℕ))). first.0 ∷ more) (ap (records_next (records_from default_config (length text))) next),
)

-- the same for records that were reached
reached_one : (text : List ℕ) (fields : List (List ℕ)) (s : State) (rest : List ℕ) → Reached default_config st.StartRecord text (fields ∷ []) s rest
    → next_record default_config s [] [] rest ≡ None → records default_config text ≡ fields ∷ []
unfolding Reached
reached_one text fields s rest (first, is, same, (at, left)) none =
    one_in text first is (ap (λ (z : State). next_record default_config z [] [] first.2) at ∙ ap (next_record default_config s [] []) left ∙ none)
    ∙ ap (λ (f : List (List ℕ)). f ∷ []) (sym same)

reached_two : (text : List ℕ) (fields others : List (List ℕ)) (s : State) (rest : List ℕ) → Reached default_config st.StartRecord text (fields ∷ others ∷ []) s rest
    → (f g : List (List ℕ)) × (more : List (List (List ℕ))) × (records default_config text ≡ f ∷ g ∷ more)
unfolding Reached
reached_two text fields others s rest (first, is, same, (second, next, found, over)) = let rest = more_in text first second is next in (first.0, second.0, rest.0, rest.1)

-- ---- reads from the start of a text

module _ {R : Type 0} (rem : R → Option (List ℕ)) (a b : Reader R) (fields : List (List ℕ)) (text : List ℕ)
    (config : a.config ≡ default_config) (start : a.state ≡ st.StartRecord) (source : source_of rem a ≡ Some text) where
  pub read_none : ReadRecord rem a b false fields → records default_config text ≡ []
  read_none read = none_in text (ap (λ (z : State). next_record default_config z [] [] text) (sym start) ∙ rows-end rem a b fields default_config text config source read)

  first_read : ReadRecord rem a b true fields → (rest : List ℕ) × (source_of rem b ≡ Some rest) × Reached default_config st.StartRecord text (fields ∷ []) b.state rest
  unfolding Reached
  first_read read = rows-more rem a b fields default_config st.StartRecord text text [] config source (sym start, refl) read

  pub read_one : (d : Reader R) (others : List (List ℕ)) → ReadRecord rem a b true fields → ReadRecord rem b d false others → records default_config text ≡ fields ∷ []
  read_one d others read next =
      let first = first_read read in
      reached_one text fields b.state first.0 first.2 (rows-end rem b d others default_config first.0 (read.2 ∙ config) first.1 next)

  pub read_two : (d : Reader R) (others : List (List ℕ)) → ReadRecord rem a b true fields → ReadRecord rem b d true others
      → (f g : List (List ℕ)) × (more : List (List (List ℕ))) × (records default_config text ≡ f ∷ g ∷ more)
  read_two d others read next =
      let first = first_read read in
      let second = rows-more rem b d others default_config st.StartRecord text first.0 (fields ∷ []) (read.2 ∙ config) first.1 first.2 next in
      reached_two text fields others d.state second.0 second.2
