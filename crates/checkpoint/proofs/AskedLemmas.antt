-- The records of a page in the list that was asked for.
use Rattle.std.proofs.Common.{◌≡◌, ℕ, zero, suc, ◌+◌, ◌-◌, ◌*◌, ◌/◌, ◌%◌, ◌<◌, ◌≤◌, List, length, take, drop, min, inl, inr, refl, sym, ◌∙◌, ap, subst, arith}
use Rattle.std.proofs.Math.Nat.{mul-le-mul_left}
use Rattle.std.proofs.lemmas.List.{drop-take, take-take, drop-drop}
use Rattle.ft_base.specs.declared.geometry.Geometry.{Geometry}
use Rattle.ft_base.specs.declared.record.Record.{Record}
use Rattle.ft_base.specs.Layout.{page_records}
use Rattle.checkpoint.specs.Asked.{HasRun, IsAskedFor, asked_pages, asked_records, count_asked, first_asked}
use Rattle.checkpoint.specs.Regions.{part}
use Rattle.checkpoint.proofs.ListsLemmas.{part_is}

module _ (g : Geometry) (rs asked : List Record) where
  -- a page comes after the first page whose records are asked for together with its own
  behind : (i : ℕ) → page_records g * i ≡ first_asked g i + page_records g * (i % asked_pages)
  behind i =
      let split : i ≡ asked_pages * (i / asked_pages) + i % asked_pages = omega arith in
      omega (arith, ap (λ n. page_records g * n) split)

  -- asked for from the first of its pages on
  pub asked_now : (i count : ℕ) → i % asked_pages ≡ 0 → count ≡ min (asked_records g) (length rs - page_records g * i)
      → take count asked ≡ take count (drop (page_records g * i) rs) → HasRun g rs i asked
  asked_now i count first few same =
      let at : page_records g * i ≡ first_asked g i = omega (arith, behind i, ap (λ n. page_records g * n) first) in
      let most : count ≡ count_asked g rs i = few ∙ ap (λ n. min (asked_records g) (length rs - n)) at in
      subst (λ n. take n asked ≡ take n (drop (first_asked g i) rs)) most (same ∙ ap (λ n. take count (drop n rs)) at)

  -- the next page's records are asked for with this page's, or are the first of their own list
  pub asked_next : (i : ℕ) → HasRun g rs i asked → IsAskedFor g rs (i + 1) asked
  asked_next i run = by ((i + 1) % asked_pages) refl
    where
      by : (r : ℕ) → (i + 1) % asked_pages ≡ r → IsAskedFor g rs (i + 1) asked
      by zero is = inl is
      by (suc r) is =
          let same : i / asked_pages ≡ (i + 1) / asked_pages = omega (arith, is) in
          inr (subst (λ q. take (min (asked_records g) (length rs - asked_records g * q)) asked ≡ take (min (asked_records g) (length rs - asked_records g * q)) (drop (asked_records g * q) rs)) same run)

  pub page_in_run : (i : ℕ) → page_records g * i < length rs → HasRun g rs i asked
      → take (min (page_records g) (length rs - page_records g * i)) (drop (page_records g * (i % asked_pages)) asked) ≡ part g rs i
  page_in_run i some run =
      let f = page_records g * (i % asked_pages) in
      let d = first_asked g i in
      let n = count_asked g rs i in
      let c = min (page_records g) (length rs - page_records g * i) in
      let most : f ≤ page_records g * 15 = mul-le-mul_left (page_records g) (omega arith) in
      let within : f + c ≤ n = omega (arith, behind i, some, most) in
      let whole : take (f + c) asked ≡ take (f + c) (drop d rs) = sym (take-take (f + c) n asked within) ∙ ap (take (f + c)) run ∙ take-take (f + c) n (drop d rs) within in
      let page : take c (drop f asked) ≡ take c (drop (page_records g * i) rs) =
      sym (drop-take f c asked) ∙ ap (drop f) whole ∙ drop-take f c (drop d rs) ∙ ap (take c) (drop-drop f d rs ∙ ap (λ k. drop k rs) (omega (arith, behind i))) in
      part_is g rs (drop f asked) c i refl page
