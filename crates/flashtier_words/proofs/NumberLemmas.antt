-- A number is read from its decimal digits, and from no other word.
use Rattle.std.proofs.Common.{◌≡◌, ◌≢◌, ℕ, ◌^◌, ◌<◌, List, length, get_or, Result, Ok, Err, OkIff, IfSome, IfNone, decimal, sym, ap, ◌∙◌, inl, inr, arith}
use Rattle.std.specs.Result.{result_ok}
use Rattle.std.specs.Str.Parse.{AllDigits, ParsesUnsigned, digits_value}
use Rattle.std.proofs.lemmas.Bool.{cases_lt}
use Rattle.std.proofs.lemmas.Fmt.{decimal-digits_value, decimal_digit, decimal_nonempty, digits_decimal, first_decimal, parse-decimal}
use Rattle.std.proofs.lemmas.Str.Parse.{IsNumeralModel, digit_at, numerals_by_value, parse_plain, tells_digits}

own : IsNumeralModel (AllDigits 10) (digits_value 10)
own = numerals_by_value (AllDigits 10) tells_digits

-- no digit is a plus
no_plus : (n : ℕ) → n < 2 ^ 64 → get_or (decimal n) 0 0 ≢ 43
no_plus n small plus = let digit = digit_at (decimal n) 0 (digits_decimal own n small) (decimal_nonempty n small) in omega arith

-- a first zero stands alone
zero_alone : (n : ℕ) → n < 2 ^ 64 → get_or (decimal n) 0 0 ≡ 48 → length (decimal n) ≡ 1
zero_alone n small zero_first = elim (cases_lt 0 n) [
  | inl above ↦ let greater = first_decimal n above small in absurd (omega arith)
  | inr none ↦
      let zero_is : n ≡ 0 = omega arith in
      ap (λ m. length (decimal m)) zero_is ∙ ap length (decimal_digit 0 (omega arith))
]

abbrev pub BeginsAsNumber : List ℕ → Type 0
BeginsAsNumber word = (0 < length word) × (get_or word 0 0 ≢ 43) × (get_or word 0 0 ≡ 48 → length word ≡ 1)

-- so digits begin
pub digits_begin : (word : List ℕ) (n : ℕ) → n < 2 ^ 64 → word ≡ decimal n → BeginsAsNumber word
digits_begin word n small is = rw is (decimal_nonempty n small, no_plus n small, zero_alone n small)

module _ {E : Type 0} (word : List ℕ) where
  pub parsed_some : (r : Result ℕ E) → ParsesUnsigned 64 10 word r → BeginsAsNumber word → IfSome (result_ok r) (λ n. word ≡ decimal n)
  parsed_some r parses begins = at r (parse_plain own 64 word r parses begins.1)
    where
      at : (r : Result ℕ E) → OkIff r (AllDigits 10 word × (0 < length word) × (digits_value 10 word < 2 ^ 64)) (digits_value 10 word) → IfSome (result_ok r) (λ n. word ≡ decimal n)
      at (Ok n) is = sym (ap decimal is.1 ∙ decimal-digits_value own word is.0.0 is.0.1 begins.2 is.0.2)
      at (Err e) is = tt

  pub parsed_none : (r : Result ℕ E) → ParsesUnsigned 64 10 word r → IfNone (result_ok r) ((n : ℕ) → n < 2 ^ 64 → word ≡ decimal n → ⊥)
  parsed_none (Ok n) parses = tt
  parsed_none (Err e) parses = λ n small is. let bad : Err e ≡ Ok n = parse-decimal 64 n word (Err e) small small is parses in cc
