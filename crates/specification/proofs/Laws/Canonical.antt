-- Each number has one spelling: what is read as a number is what is printed for it. Then the bytes of a printed number, and runs of bytes.
-- Assumes nothing.
use Prim.Native.Nat.{ℕ, zero, suc, ◌+◌, ◌-◌, ◌*◌, ◌/◌, ◌%◌, ◌≤◌, ◌<◌}
use native.Mathlib.Omega.{arith}
use mathlib.Core.Path.{◌≡◌, refl, sym, ◌∙◌, ap}
use mathlib.Core.Bool.{Bool, true, false, not}
use mathlib.Core.List.{[], ◌∷◌, ◌++◌, append-nil}
use mathlib.Core.Option.{Option, none, some}
use lib.Dec.{ltb, leb, eqb}
use lib.IntN.{ℤ, pos, negsuc}
use lib.ListN.{length, drop}
use lib.Seq.{append_snoc}
use borrow.Author.Tests.{ltb-true, ltb-false, lt-ltb, le-ltb, leb-true, eqb-true, eqb-false, not-true}
use Rattle.specification.specs.Bytes.{Bytes, pick, between, Class, letter, digit, space, feed, minus, equals, comma, colon, point, other, class_of, class_number, is_in, in_number, in_token, run}
use Rattle.specification.specs.Number.{all_digits, decimal, well_formed, natural, negated, unsigned, integer, digits, printℕ, printℤ}
use Rattle.specification.specs.Lists.{Each}
use Rattle.specification.proofs.Laws.Contradiction.{contradiction}
use Rattle.specification.proofs.Laws.Lists.{each_map}
use Rattle.specification.proofs.Laws.Parser.{and-true}
use Rattle.specification.proofs.Laws.Print.{IsDigit, digit-class, printℕ-numeral}

-- ---- the bound that `digits` counts down does not matter

one-digit : (k n : ℕ) → n < 10 → digits k n ≡ (48 + n) ∷ []
unfolding digits
one-digit zero n h = refl
one-digit (suc k) n h = rw (lt-ltb n 10 h)

more-digits : (k n : ℕ) → 10 ≤ n → digits (suc k) n ≡ digits k (n / 10) ++ (48 + n % 10) ∷ []
unfolding digits
more-digits k n h = rw (le-ltb n 10 h)

any-bound : (j k n : ℕ) → n ≤ j → n ≤ k → digits j n ≡ digits k n
any-bound zero k n h l = one-digit 0 n (omega arith) ∙ sym (one-digit k n (omega arith))
any-bound (suc j) zero n h l = one-digit (suc j) n (omega arith) ∙ sym (one-digit 0 n (omega arith))
any-bound (suc j) (suc k) n h l = go (λ m. any-bound j k (n / 10) (omega arith) (omega arith)) (ltb n 10) refl
  where
    go : (10 ≤ n → digits j (n / 10) ≡ digits k (n / 10)) → (b : Bool) → ltb n 10 ≡ b → digits (suc j) n ≡ digits (suc k) n
    go f true e = one-digit (suc j) n (ltb-true n 10 e) ∙ sym (one-digit (suc k) n (ltb-true n 10 e))
    go f false e =
        let m : 10 ≤ n = ltb-false n 10 e in
        more-digits j n m ∙ ap (λ ds. ds ++ (48 + n % 10) ∷ []) (f m) ∙ sym (more-digits k n m)

-- ---- the digits of n

pub print-one : (n : ℕ) → n < 10 → printℕ n ≡ (48 + n) ∷ []
unfolding printℕ
print-one n h = one-digit n n h

pub print-more : (n : ℕ) → 10 ≤ n → printℕ n ≡ printℕ (n / 10) ++ (48 + n % 10) ∷ []
unfolding printℕ
print-more zero h = absurd (omega arith)
print-more (suc k) h =
    more-digits k (suc k) h ∙ ap (λ ds. ds ++ (48 + suc k % 10) ∷ []) (any-bound k (suc k / 10) (suc k / 10) (omega arith) (omega arith))

-- one digit after a number that is not 0
print-digit : (m d : ℕ) → 0 < m → d < 10 → printℕ (m * 10 + d) ≡ printℕ m ++ (48 + d) ∷ []
print-digit m d p l =
    let q : (m * 10 + d) / 10 ≡ m = omega arith in
    let r : (m * 10 + d) % 10 ≡ d = omega arith in
    let s : printℕ (m * 10 + d) ≡ printℕ ((m * 10 + d) / 10) ++ (48 + (m * 10 + d) % 10) ∷ [] = print-more (m * 10 + d) (omega arith) in
    s ∙ rw (q, r)

-- ---- digits and the minus, from their classes

module _ (b : ℕ) where
  -- what the class of b tells of it
  abbrev Told : Class → Type 0
  Told c = (eqb (class_number digit) (class_number c) ≡ true → IsDigit b) × (eqb (class_number minus) (class_number c) ≡ true → b ≡ 45)

  nothing : (c : Class) → eqb (class_number digit) (class_number c) ≡ false → eqb (class_number minus) (class_number c) ≡ false → Told c
  nothing c d m = (λ e. contradiction cc, λ e. contradiction cc)

  told-pick : (t : Bool) (c d : Class) → (t ≡ true → Told c) → Told d → Told (pick t c d)
  told-pick true c d h k = h refl
  told-pick false c d h k = k

  told : Told (class_of b)
  unfolding class_of class_number
  told =
      told-pick (between 97 122 b) letter _ (λ t. nothing letter refl refl)
      (told-pick (between 48 57 b) digit _ (λ t. (λ e. by-range t, λ e. contradiction cc))
      (told-pick (eqb b 32) space _ (λ t. nothing space refl refl)
      (told-pick (eqb b 10) feed _ (λ t. nothing feed refl refl)
      (told-pick (eqb b 45) minus _ (λ t. (λ e. contradiction cc, λ e. eqb-true b 45 t))
      (told-pick (eqb b 61) equals _ (λ t. nothing equals refl refl)
      (told-pick (eqb b 44) comma _ (λ t. nothing comma refl refl)
      (told-pick (eqb b 58) colon _ (λ t. nothing colon refl refl)
      (told-pick (eqb b 46) point other (λ t. nothing point refl refl) (nothing other refl refl)))))))))
    where
      by-range : between 48 57 b ≡ true → IsDigit b
      by-range t = let r = and-true (leb 48 b) (leb b 57) t in (leb-true 48 b r.0, leb-true b 57 r.1)

  pub digit-byte : is_in digit b ≡ true → IsDigit b
  unfolding is_in
  digit-byte = told.0

  pub minus-byte : is_in minus b ≡ true → b ≡ 45
  unfolding is_in
  minus-byte = told.1

-- ---- what is read as a number is what is printed for it

-- digits after a number that is not 0
print-decimal : (m : ℕ) (bs : Bytes) → 0 < m → all_digits bs ≡ true → printℕ (decimal m bs) ≡ printℕ m ++ bs
unfolding all_digits decimal
print-decimal m [] p h = sym (append-nil (printℕ m))
print-decimal m (b ∷ bs) p h =
    let a = and-true (is_in digit b) (all_digits bs) h in
    let r : IsDigit b = digit-byte b a.0 in
    let s : 48 + (b - 48) ≡ b = omega (arith, r.0) in
    let q : printℕ (m * 10 + (b - 48)) ≡ printℕ m ++ b ∷ [] = print-digit m (b - 48) p (omega (arith, r.1)) ∙ rw s in
    print-decimal (m * 10 + (b - 48)) bs (omega arith) a.1 ∙ ap (λ ds. ds ++ bs) q ∙ append_snoc (printℕ m) b bs

canonical : (bs : Bytes) → well_formed bs ≡ true → bs ≡ printℕ (decimal 0 bs)
unfolding well_formed all_digits decimal
canonical [] f = contradiction cc
canonical (b ∷ []) f =
    let r : IsDigit b = digit-byte b (and-true (is_in digit b) true f).0 in
    let s : 48 + (0 * 10 + (b - 48)) ≡ b = omega (arith, r.0) in
    sym (print-one (0 * 10 + (b - 48)) (omega (arith, r.1)) ∙ ap (λ d. d ∷ []) s)
canonical (b ∷ c ∷ bs) f =
    let a = and-true (not (eqb b 48)) (all_digits (b ∷ c ∷ bs)) f in
    let d = and-true (is_in digit b) (all_digits (c ∷ bs)) a.1 in
    let r : IsDigit b = digit-byte b d.0 in
    let n : b ≡ 48 → ⊥ = eqb-false b 48 (not-true (eqb b 48) a.0) in
    let p : 0 < 0 * 10 + (b - 48) = positive r n in
    let s : 48 + (0 * 10 + (b - 48)) ≡ b = omega (arith, r.0) in
    let q : printℕ (0 * 10 + (b - 48)) ≡ b ∷ [] = print-one (0 * 10 + (b - 48)) (omega (arith, r.1)) ∙ ap (λ d. d ∷ []) s in
    sym (print-decimal (0 * 10 + (b - 48)) (c ∷ bs) p d.1 ∙ ap (λ ds. ds ++ c ∷ bs) q)
  where
    positive : IsDigit b → (b ≡ 48 → ⊥) → 0 < 0 * 10 + (b - 48)
    positive r n = omega (arith, r.0, n)

pub natural-canonical : (bs : Bytes) (n : ℕ) → natural bs ≡ some n → bs ≡ printℕ n
unfolding natural
natural-canonical bs n e = go (well_formed bs) refl e
  where
    go : (t : Bool) → well_formed bs ≡ t → pick t (some (decimal 0 bs)) none ≡ some n → bs ≡ printℕ n
    go true f q = let s : decimal 0 bs ≡ n = cc in canonical bs f ∙ ap printℕ s
    go false f q = contradiction cc

pub integer-canonical : (bs : Bytes) (z : ℤ) → integer bs ≡ some z → bs ≡ printℤ z
unfolding integer printℤ
integer-canonical [] z e = contradiction cc
integer-canonical (b ∷ bs) z e = go (is_in minus b) refl e
  where
    below : (o : Option ℕ) → natural bs ≡ o → is_in minus b ≡ true → negated o ≡ some z → b ∷ bs ≡ printℤ z
    below none f m q = contradiction cc
    below (some zero) f m q = contradiction cc
    below (some (suc n)) f m q =
        let s : negsuc n ≡ z = cc in
        ap (λ c. c ∷ bs) (minus-byte b m) ∙ ap (λ ds. 45 ∷ ds) (natural-canonical bs (suc n) f) ∙ ap printℤ s

    above : (o : Option ℕ) → natural (b ∷ bs) ≡ o → unsigned o ≡ some z → b ∷ bs ≡ printℤ z
    above none f q = contradiction cc
    above (some n) f q = let s : pos n ≡ z = cc in natural-canonical (b ∷ bs) n f ∙ ap printℤ s

    go : (t : Bool) → is_in minus b ≡ t → pick t (negated (natural bs)) (unsigned (natural (b ∷ bs))) ≡ some z → b ∷ bs ≡ printℤ z
    go true m q = below (natural bs) refl m q
    go false m q = above (natural (b ∷ bs)) refl q

-- ---- the bytes of a printed number

-- of a test that digits pass and, for a number below 0, the minus
module _ (f : ℕ → Bool) (d : (b : ℕ) → IsDigit b → f b ≡ true) where
  printℕ-each : (n : ℕ) → Each (λ b. f b ≡ true) (printℕ n)
  printℕ-each n = each_map d (printℕ n) (printℕ-numeral n).all_digits

  printℤ-each : f 45 ≡ true → (z : ℤ) → Each (λ b. f b ≡ true) (printℤ z)
  unfolding printℤ Each
  printℤ-each m (pos n) = printℕ-each n
  printℤ-each m (negsuc n) = (m, printℕ-each (suc n))

digit-number : (b : ℕ) → IsDigit b → in_number b ≡ true
unfolding in_number is_in class_number
digit-number b h = rw (digit-class b h)

digit-token : (b : ℕ) → IsDigit b → in_token b ≡ true
unfolding in_token is_in class_number
digit-token b h = rw (digit-class b h)

pub printℕ-number : (n : ℕ) → Each (λ b. in_number b ≡ true) (printℕ n)
printℕ-number = printℕ-each in_number digit-number

pub printℤ-number : (z : ℤ) → Each (λ b. in_number b ≡ true) (printℤ z)
unfolding in_number is_in class_number class_of
printℤ-number = printℤ-each in_number digit-number refl

pub printℕ-token : (n : ℕ) → Each (λ b. in_token b ≡ true) (printℕ n)
printℕ-token = printℕ-each in_token digit-token

pub printℤ-token : (z : ℤ) → Each (λ b. in_token b ≡ true) (printℤ z)
unfolding in_token is_in class_number class_of
printℤ-token = printℤ-each in_token digit-token refl

-- ---- runs of bytes that pass a test; the bytes after one are by `drop-append_seam` of lib.Seq

-- the first byte passes the test
unfoldable pub starts : (ℕ → Bool) → Bytes → Bool
starts f [] = false
starts f (b ∷ bs) = f b

module _ (f : ℕ → Bool) where
  pub run-split : (bs : Bytes) → bs ≡ run f bs ++ drop (length (run f bs)) bs
  unfolding run
  run-split [] = refl
  run-split (b ∷ bs) = go (run-split bs) (f b)
    where
      go : bs ≡ run f bs ++ drop (length (run f bs)) bs → (t : Bool) →
          b ∷ bs ≡ pick t (b ∷ run f bs) [] ++ drop (length (pick t (b ∷ run f bs) [])) (b ∷ bs)
      go h true = ap (λ cs. b ∷ cs) h
      go h false = refl

  pub run-passes : (bs : Bytes) → Each (λ b. f b ≡ true) (run f bs)
  unfolding run Each
  run-passes [] = tt
  run-passes (b ∷ bs) = go (run-passes bs) (f b) refl
    where
      go : Each (λ b. f b ≡ true) (run f bs) → (t : Bool) → f b ≡ t → Each (λ b. f b ≡ true) (pick t (b ∷ run f bs) [])
      go h true e = (e, h)
      go h false e = tt

  pub run-whole : (t w : Bytes) → Each (λ b. f b ≡ true) t → starts f w ≡ false → run f (t ++ w) ≡ t
  unfolding run starts Each
  run-whole [] [] h e = refl
  run-whole [] (b ∷ bs) h e = rw e
  run-whole (b ∷ bs) w h e = rw h.0 (ap (λ cs. b ∷ cs) (run-whole bs w h.1 e))
