-- Reading back the newest block writes, one after the other.
use Rattle.std.proofs.Common.{◌≡◌, ◌⊎◌, inl, inr, ◌↔◌, refl, ℕ, zero, suc, ◌+◌, ◌-◌, ◌<◌, ◌≤◌, ◌==◌, ◌||◌, ◌&&◌, nat_le, nat_lt, arith, Bool, true, false, cond, List, [], ◌∷◌, ◌++◌, length, take, drop, Option, Some, None, IfSome, slice_get, ap, sym, ◌∙◌, subst, add-one, eqb-true}
use Rattle.std.specs.List.{list_any}
use Rattle.std.proofs.lemmas.Bool.{cases_Bool, false≢true}
use Rattle.std.proofs.lemmas.Bool.Decides.{nat_tests}
use Rattle.std.proofs.lemmas.List.{drop-append-le, drop_all, drop-map, length-append, length-map, length-take-le, map-append, take-take, take_more}
use Rattle.std.proofs.lemmas.List.Folds.{list_any-append}
use Rattle.std.proofs.lemmas.Option.{get_or_from_slice_get, slice_get-get_or, slice_get_within}
use Rattle.ft_base.specs.declared.block.Block.{Block}
use Rattle.ft_base.specs.Pattern.{pat}
use Rattle.ft_base.specs.PlainDisk.{BlockWrite, PlainDisk, empty}
use Rattle.trace_model.specs.Lost.{IsLeastLost, LooksLost, is_written}
use Rattle.trace_model.specs.Run.{disk_written, with_blocks}
use Rattle.trace_model.proofs.FrontLemmas.{front_counts}
use Rattle.trace_model.proofs.LossLemmas.{drop_own, drop_past}
use Rattle.trace_replay.specs.declared.recent.Recent.{Recent}
use Rattle.trace_replay.specs.Ends.{IsKept}
use Rattle.trace_replay.specs.Owing.{IsReadBack, IsWrittenAt, most_lost, with_recent, written}

-- ---- the writes that are kept

pub written_with : (lba tag n : ℕ) (r : List Recent) → written (with_recent lba tag n r) ≡ with_blocks lba tag n (written r)
written_with lba tag zero r = refl
written_with lba tag (suc n) r = ap (λ (l : List BlockWrite). (record { lba = lba + n; block = pat (lba + n) tag }) ∷ l) (written_with lba tag n r)

front_again : (n : ℕ) (x : Recent) (l : List Recent) → take (suc n) (x ∷ take (suc n) l) ≡ take (suc n) (x ∷ l)
front_again n x l = ap (λ (r : List Recent). x ∷ r) (take-take n (suc n) l (omega arith))

-- one more block of a request
pub noted : (lba tag i : ℕ) (old now : List Recent) → now ≡ take most_lost (with_recent lba tag i old) → take most_lost ((record { lba = lba + i; tag = tag }) ∷ now) ≡ take most_lost (with_recent lba tag (i + 1) old)
noted lba tag i old now is =
    let one : Recent = record { lba = lba + i; tag = tag } in
    ap (λ (r : List Recent). take most_lost (one ∷ r)) is ∙ front_again 125 one (with_recent lba tag i old) ∙ sym (ap (λ k. take most_lost (with_recent lba tag k old)) (add-one i))

-- ---- the addresses of some of them

or_none : (b : Bool) → (b || false) ≡ b
or_none true = refl
or_none false = refl

pub among_more : (p : Recent → Bool) (r : List Recent) (from j : ℕ) (x : Recent) → slice_get r j ≡ Some x → from ≤ j → list_any p (drop from (take (j + 1) r)) ≡ (list_any p (drop from (take j r)) || p x)
among_more p r from j x is le =
    let within : j < length r = slice_get_within r j x is in
    let long : length (take j r) ≡ j = length-take-le j r (omega arith) in
    ap (λ (l : List Recent). list_any p (drop from l)) (take_more r j x within ∙ ap (λ (y : Recent). take j r ++ y ∷ []) (get_or_from_slice_get r j x x is))
    ∙ ap (list_any p) (drop-append-le from (take j r) (x ∷ []) (omega arith))
    ∙ list_any-append p (drop from (take j r)) (x ∷ [])
    ∙ ap (λ b. list_any p (drop from (take j r)) || b) (or_none (p x))

true_or : (b c : Bool) → b ≡ true → (b || c) ≡ true
true_or true c is = refl
true_or false c is = absurd (false≢true is)

or_true : (b c : Bool) → c ≡ true → (b || c) ≡ true
or_true true c is = refl
or_true false c is = is

pub none_or : (b c : Bool) → b ≡ false → c ≡ false → (b || c) ≡ false
none_or true c is none = absurd (false≢true (sym is))
none_or false c is none = none

among_later : (p : Recent → Bool) (r : List Recent) (d : Recent) (from k m : ℕ) → list_any p (drop from (take k r)) ≡ true → from ≤ k → k + m ≤ length r → list_any p (drop from (take (k + m) r)) ≡ true
among_later p r d from k zero is le within = let same : k + 0 ≡ k = omega arith in ap (λ n. list_any p (drop from (take n r))) same ∙ is
among_later p r d from k (suc m) is le within =
    let rest = among_later p r d from k m is le (omega arith) in
    let step : k + suc m ≡ (k + m) + 1 = omega arith in
    ap (λ n. list_any p (drop from (take n r))) step
    ∙ among_more p r from (k + m) _ (slice_get-get_or r (k + m) d (omega arith)) (omega arith)
    ∙ true_or (list_any p (drop from (take (k + m) r))) _ rest

-- one of them passes the test
pub among_here : (p : Recent → Bool) (r : List Recent) (from j to : ℕ) (x : Recent) → slice_get r j ≡ Some x → from ≤ j → j < to → to ≤ length r → p x ≡ true → list_any p (drop from (take to r)) ≡ true
among_here p r from j to x is le less within here =
    let sum : (j + 1) + (to - (j + 1)) ≡ to = omega arith in
    sym (ap (λ n. list_any p (drop from (take n r))) sum)
    ∙ among_later p r x from (j + 1) (to - (j + 1)) (among_more p r from j x is le ∙ or_true (list_any p (drop from (take j r))) (p x) here) (omega arith) (omega arith)

-- ---- one more write, which is older

over : (l r : List BlockWrite) (a : ℕ) → is_written l a ≡ true → disk_written (l ++ r) a ≡ disk_written l a
over [] r a is = absurd (false≢true is)
over (w ∷ l) r a is = elim (cases_Bool (w.lba == a)) [
  | inl t ↦ ap (λ b. cond b w.block (disk_written (l ++ r) a)) t ∙ sym (ap (λ b. cond b w.block (disk_written l a)) t)
  | inr f ↦ ap (cond (w.lba == a) w.block) (over l r a (sym (ap (λ b. b || is_written l a) f) ∙ is))
]

beside : (l r : List BlockWrite) (a : ℕ) → is_written l a ≡ false → disk_written (l ++ r) a ≡ disk_written r a
beside [] r a is = refl
beside (w ∷ l) r a is = elim (cases_Bool (w.lba == a)) [
  | inl t ↦ absurd (false≢true (sym is ∙ ap (λ b. b || is_written l a) t))
  | inr f ↦ ap (λ b. cond b w.block (disk_written (l ++ r) a)) f ∙ beside l r a (sym (ap (λ b. b || is_written l a) f) ∙ is)
]

fewer : (n : ℕ) (l : List BlockWrite) (a : ℕ) → is_written l a ≡ false → is_written (drop n l) a ≡ false
fewer zero l a is = is
fewer (suc n) [] a is = is
fewer (suc n) (w ∷ l) a is = fewer n l a (rest (w.lba == a) is)
  where
    rest : (b : Bool) → (b || is_written l a) ≡ false → is_written l a ≡ false
    rest true e = absurd (false≢true (sym e))
    rest false e = e

later : (m k : ℕ) (l : List BlockWrite) (a : ℕ) → m ≤ k → is_written (drop m l) a ≡ false → is_written (drop k l) a ≡ false
later zero k l a le is = fewer k l a is
later (suc m) zero l a le is = absurd (omega arith)
later (suc m) (suc k) [] a le is = is
later (suc m) (suc k) (w ∷ l) a le is = later m k l a (omega arith) is

here_named : (w : BlockWrite) → is_written (w ∷ []) w.lba ≡ true
here_named w = let same : (w.lba == w.lba) ≡ true = grind (arith, nat_tests) in ap (λ b. b || false) same

here_is : (w : BlockWrite) → disk_written (w ∷ []) w.lba ≡ w.block
here_is w = let same : (w.lba == w.lba) ≡ true = grind (arith, nat_tests) in ap (λ b. cond b w.block (empty w.lba)) same

module _ (disk : PlainDisk) (ws : List BlockWrite) (w : BlockWrite) where
  apart : (n : ℕ) → n ≤ length ws → drop n (ws ++ w ∷ []) ≡ drop n ws ++ w ∷ []
  apart n le = drop-append-le n ws (w ∷ []) le

  looks_less : (n : ℕ) → n ≤ length ws → LooksLost (ws ++ w ∷ []) disk n → LooksLost ws disk n
  looks_less n le looks a named =
      looks a (ap (λ (l : List BlockWrite). is_written l a) (apart n le) ∙ list_any-append (λ (v : BlockWrite). v.lba == a) (drop n ws) (w ∷ []) ∙ true_or (is_written (drop n ws) a) _ named)
      ∙ ap (λ (l : List BlockWrite). disk_written l a) (apart n le)
      ∙ over (drop n ws) (w ∷ []) a named

  looks_last : (n : ℕ) → n ≤ length ws → LooksLost (ws ++ w ∷ []) disk n → is_written (drop n ws) w.lba ≡ false → disk w.lba ≡ w.block
  looks_last n le looks none =
      looks w.lba (ap (λ (l : List BlockWrite). is_written l w.lba) (apart n le) ∙ list_any-append (λ (v : BlockWrite). v.lba == w.lba) (drop n ws) (w ∷ []) ∙ or_true (is_written (drop n ws) w.lba) _ (here_named w))
      ∙ ap (λ (l : List BlockWrite). disk_written l w.lba) (apart n le)
      ∙ beside (drop n ws) (w ∷ []) w.lba none
      ∙ here_is w

  looks_more : (n : ℕ) → n ≤ length ws → LooksLost ws disk n → (is_written (drop n ws) w.lba ≡ true) ⊎ (disk w.lba ≡ w.block) → LooksLost (ws ++ w ∷ []) disk n
  looks_more n le looks why a named = elim (cases_Bool (is_written (drop n ws) a)) [
    | inl t ↦ looks a t ∙ sym (ap (λ (l : List BlockWrite). disk_written l a) (apart n le) ∙ over (drop n ws) (w ∷ []) a t)
    | inr f ↦
        let last : (w.lba == a) ≡ true =
        sym (or_none (w.lba == a)) ∙ sym (ap (λ b. b || is_written (w ∷ []) a) f) ∙ sym (list_any-append (λ (v : BlockWrite). v.lba == a) (drop n ws) (w ∷ [])) ∙ sym (ap (λ (l : List BlockWrite). is_written l a) (apart n le)) ∙ named in
        let same : w.lba ≡ a = eqb-true w.lba a last in
        elim why [
          | inl newer ↦ absurd (false≢true (sym f ∙ ap (is_written (drop n ws)) (sym same) ∙ newer))
          | inr shows ↦
              ap disk (sym same) ∙ shows ∙ sym (ap (λ (l : List BlockWrite). disk_written l a) (apart n le) ∙ beside (drop n ws) (w ∷ []) a f ∙ ap (disk_written (w ∷ [])) (sym same) ∙ here_is w)
        ]
  ]

  -- it is replaced or there
  least_same : (n : ℕ) → n ≤ length ws → IsLeastLost ws disk n → (is_written (drop n ws) w.lba ≡ true) ⊎ (disk w.lba ≡ w.block) → IsLeastLost (ws ++ w ∷ []) disk n
  least_same n le found why = record {
    looks = looks_more n le found.looks why;
    least = λ k less looks. found.least k less (looks_less k (omega arith) looks);
  }

  -- it is lost, and so are all after it
  least_all : (n : ℕ) → n ≤ length ws → IsLeastLost ws disk n → is_written (drop n ws) w.lba ≡ false → (disk w.lba ≡ w.block → ⊥) → IsLeastLost (ws ++ w ∷ []) disk (length ws + 1)
  least_all n le found none other = record {
    looks = λ a named.
        let long : length (ws ++ w ∷ []) ≡ length ws + 1 = length-append ws (w ∷ []) in
        absurd (false≢true (sym (ap (λ (l : List BlockWrite). is_written l a) (drop_all (length ws + 1) (ws ++ w ∷ []) (omega arith))) ∙ named));
    least = λ k less looks. by k (omega arith) looks (order k n);
  }
    where
      order : (x y : ℕ) → (x < y) ⊎ (y ≤ x)
      order x zero = inr (omega arith)
      order zero (suc y) = inl (omega arith)
      order (suc x) (suc y) = elim (order x y) [ inl l ↦ inl (omega arith) | inr l ↦ inr (omega arith) ]

      by : (k : ℕ) → k ≤ length ws → LooksLost (ws ++ w ∷ []) disk k → (k < n) ⊎ (n ≤ k) → ⊥
      by k within looks (inl less) = found.least k less (looks_less k within looks)
      by k within looks (inr more) = other (looks_last k within looks (later n k ws w.lba more none))

-- ---- which addresses are newer

named_written : (l : List Recent) (a : ℕ) → is_written (written l) a ≡ list_any (λ (r : Recent). r.lba == a) l
named_written [] a = refl
named_written (r ∷ l) a = ap (λ b. (r.lba == a) || b) (named_written l a)

abbrev pub in_range : ℕ → ℕ → ℕ → Bool
in_range lba n a = nat_le lba a && nat_lt a (lba + n)

range_none : (lba a : ℕ) → in_range lba 0 a ≡ false
range_none lba a = grind (arith, nat_tests)

range_more : (lba n a : ℕ) → ((lba + n == a) || in_range lba n a) ≡ in_range lba (suc n) a
range_more lba n a = grind (arith, nat_tests)

named_blocks : (lba tag n a : ℕ) (ws : List BlockWrite) → is_written (with_blocks lba tag n ws) a ≡ (in_range lba n a || is_written ws a)
named_blocks lba tag zero a ws = sym (ap (λ b. b || is_written ws a) (range_none lba a))
named_blocks lba tag (suc n) a ws =
    ap (λ b. (lba + n == a) || b) (named_blocks lba tag n a ws)
    ∙ or_assoc (lba + n == a) (in_range lba n a) (is_written ws a)
    ∙ ap (λ b. b || is_written ws a) (range_more lba n a)
  where
    or_assoc : (x y z : Bool) → (x || (y || z)) ≡ ((x || y) || z)
    or_assoc true y z = refl
    or_assoc false y z = refl

-- the blocks that count, of a request and of the writes before it
named_kept : (lba tag count kept lost a : ℕ) (l : List Recent) → kept ≤ count → (1 ≤ lost → kept ≡ 0)
    → is_written (drop (count - kept + lost) (with_blocks lba tag count (written l))) a ≡ (in_range lba kept a || list_any (λ (r : Recent). r.lba == a) (drop lost l))
named_kept lba tag count kept zero a l most front =
    let sum : count - kept + 0 ≡ count - kept = omega arith in
    let back : count - (count - kept) ≡ kept = omega arith in
    ap (λ n. is_written (drop n (with_blocks lba tag count (written l))) a) sum
    ∙ ap (λ (v : List BlockWrite). is_written v a) (drop_own (count - kept) lba tag count (written l) (omega arith) ∙ ap (λ n. with_blocks lba tag n (written l)) back)
    ∙ named_blocks lba tag kept a (written l)
    ∙ ap (λ b. in_range lba kept a || b) (named_written l a)
named_kept lba tag count kept (suc lost) a l most front =
    let none : kept ≡ 0 = front (omega arith) in
    let past : count - kept + suc lost - count ≡ suc lost = omega arith in
    ap (λ (v : List BlockWrite). is_written v a) (drop_past (count - kept + suc lost) lba tag count (written l) (omega arith) ∙ ap (λ n. drop n (written l)) past ∙ drop-map _ (suc lost) l)
    ∙ named_written (drop (suc lost) l) a
    ∙ sym (ap (λ b. b || list_any (λ (r : Recent). r.lba == a) (drop (suc lost) l)) (ap (λ n. in_range lba n a) none ∙ range_none lba a))

length_blocks : (lba tag n : ℕ) (ws : List BlockWrite) → length (with_blocks lba tag n ws) ≡ n + length ws
length_blocks lba tag zero ws = omega arith
length_blocks lba tag (suc n) ws = let rest = length_blocks lba tag n ws in omega arith

pub blocks_over : (lba tag n : ℕ) (ws more : List BlockWrite) → with_blocks lba tag n ws ++ more ≡ with_blocks lba tag n (ws ++ more)
blocks_over lba tag zero ws more = refl
blocks_over lba tag (suc n) ws more = ap (λ (l : List BlockWrite). (record { lba = lba + n; block = pat (lba + n) tag }) ∷ l) (blocks_over lba tag n ws more)

-- ---- what is found

module _ (lba count tag kept lost place : ℕ) (r : List Recent) (x : Recent) (disk : PlainDisk) (is : slice_get r place ≡ Some x) (low : lost ≤ place)
    (found : IsReadBack lba count tag (take place r) disk kept lost) where
  abbrev one : BlockWrite
  one = record { lba = x.lba; block = pat x.lba x.tag }

  abbrev before : List BlockWrite
  before = with_blocks lba tag count (written (take place r))

  long : length before ≡ count + place
  long =
      let within : place < length r = slice_get_within r place x is in
      length_blocks lba tag count (written (take place r)) ∙ ap (λ n. count + n) (length-map (take place r) _ ∙ length-take-le place r (omega arith))

  all : before ++ one ∷ [] ≡ with_blocks lba tag count (written (take (place + 1) r))
  all =
      let within : place < length r = slice_get_within r place x is in
      blocks_over lba tag count (written (take place r)) (one ∷ [])
      ∙ ap (with_blocks lba tag count)
      (sym (map-append _ (take place r) (x ∷ [])) ∙ ap written (sym (take_more r place x within ∙ ap (λ (y : Recent). take place r ++ y ∷ []) (get_or_from_slice_get r place x x is))))

  named : is_written (drop (count - kept + lost) before) x.lba ≡ (in_range lba kept x.lba || list_any (λ (y : Recent). y.lba == x.lba) (drop lost (take place r)))
  named = named_kept lba tag count kept lost x.lba (take place r) found.most found.front

  few : count - kept + lost ≤ length before
  few = let is_long = long in let most = found.most in omega arith

  pub found_same : ((in_range lba kept x.lba || list_any (λ (y : Recent). y.lba == x.lba) (drop lost (take place r))) ≡ true) ⊎ (disk x.lba ≡ pat x.lba x.tag) → IsReadBack lba count tag (take (place + 1) r) disk kept lost
  found_same why = record {
    most = found.most;
    front = found.front;
    least = subst (λ (l : List BlockWrite). IsLeastLost l disk (count - kept + lost)) all
        (least_same disk before one (count - kept + lost) few found.least (elim why [ inl newer ↦ inl (named ∙ newer) | inr shows ↦ inr shows ]));
  }

  pub found_lost : (in_range lba kept x.lba || list_any (λ (y : Recent). y.lba == x.lba) (drop lost (take place r))) ≡ false → (disk x.lba ≡ pat x.lba x.tag → ⊥) → IsReadBack lba count tag (take (place + 1) r) disk 0 (place + 1)
  found_lost none other =
      let sum : length before + 1 ≡ count - 0 + (place + 1) = let is_long = long in omega arith in
      record {
        most = omega arith;
        front = λ _. refl;
        least = subst (λ n. IsLeastLost (with_blocks lba tag count (written (take (place + 1) r))) disk n) sum
            (subst (λ (l : List BlockWrite). IsLeastLost l disk (length before + 1)) all (least_all disk before one (count - kept + lost) few found.least (named ∙ none) other));
      }

-- the front of a request tells how many of its blocks are there
pub found_front : (lba count tag kept : ℕ) (disk : PlainDisk) → IsKept lba count tag kept disk → IsReadBack lba count tag [] disk kept 0
found_front lba count tag kept disk is =
    let most = is.most in
    let sum : count - kept ≡ count - kept + 0 = omega arith in
    record {
      most = is.most;
      front = λ some. absurd (omega arith);
      least = subst (IsLeastLost (with_blocks lba tag count []) disk) sum
          (front_counts lba tag count kept [] disk (record { most = is.most; there = is.before; not_next = is.first_old }) (λ a named. absurd (false≢true named)));
    }

-- a block that was read tells whether the disk has the block of the write
pub written_iff : (r : List Recent) (place : ℕ) (x : Recent) (disk : PlainDisk) (got wanted : Block) (shows : Bool) → slice_get r place ≡ Some x → got ≡ disk x.lba → wanted ≡ pat x.lba x.tag → (shows ≡ true ↔ got ≡ wanted) → (shows ≡ true ↔ IsWrittenAt r place disk)
written_iff r place x disk got wanted shows at found is iff = (
  λ yes y here. let same : x ≡ y = cc in subst (λ (k : Recent). disk k.lba ≡ pat k.lba k.tag) same (sym found ∙ iff.0 yes ∙ is),
  λ written. iff.1 (found ∙ written x at ∙ sym is),
)

pub some_weaker : {A : Type 0} (o : Option A) (p q : A → Type 0) → ((a : A) → p a → q a) → IfSome o p → IfSome o q
some_weaker None p q more holds = tt
some_weaker (Some a) p q more holds = more a holds
