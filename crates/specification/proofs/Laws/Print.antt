-- What is printed for a number: digits alone, in good form, of that value, so that it is read back as that number. Assumes nothing.
use Prim.Native.Nat.{ℕ, zero, suc, ◌+◌, ◌-◌, ◌*◌, ◌/◌, ◌%◌, ◌≤◌, ◌<◌}
use native.Mathlib.Omega.{arith}
use native.Mathlib.Nat.{div-add-mod, mod-lt}
use mathlib.Core.Path.{◌≡◌, refl, sym, ◌∙◌, ap, subst}
use mathlib.Core.Bool.{Bool, true, false, not, ◌&&◌}
use mathlib.Core.List.{[], ◌∷◌, ◌++◌}
use mathlib.Core.Option.{some}
use lib.Dec.{ltb, eqb}
use lib.IntN.{ℤ, pos, negsuc}
use borrow.Author.Tests.{ltb-true, ltb-false, le-leb, lt-leb, ne_eqb}
use Rattle.specification.specs.Bytes.{Bytes, pick, digit, class_of, class_number, is_in}
use Rattle.specification.specs.Number.{all_digits, decimal, well_formed, natural, integer, digits, printℕ, printℤ}
use Rattle.specification.specs.Lists.{Each}
use Rattle.specification.proofs.Laws.Contradiction.{contradiction}
use Rattle.specification.proofs.Laws.Lists.{each_map, each-++}

-- ---- digits

-- the bytes of 0 to 9
abbrev pub IsDigit : ℕ → Type 0
IsDigit b = (48 ≤ b) × (b ≤ 57)

pub digit-class : (b : ℕ) → IsDigit b → class_of b ≡ digit
unfolding class_of
digit-class b h = rw (lt-leb 97 b (omega (arith, h)), le-leb 48 b h.0, le-leb b 57 h.1)

digits-all : (bs : Bytes) → Each IsDigit bs → all_digits bs ≡ true
unfolding Each all_digits is_in class_number
digits-all [] h = refl
digits-all (b ∷ bs) h = rw (digit-class b h.0) (digits-all bs h.1)

decimal-++ : (n : ℕ) (xs ys : Bytes) → decimal n (xs ++ ys) ≡ decimal (decimal n xs) ys
unfolding decimal
decimal-++ n [] ys = refl
decimal-++ n (x ∷ xs) ys = decimal-++ (n * 10 + (x - 48)) xs ys

-- ---- numbers in good form

-- the bytes are n in digits, without a leading zero
pub record Numeral (n : ℕ) (bs : Bytes) : Type 0 where
  pub all_digits : Each IsDigit bs
  pub formed : well_formed bs ≡ true
  pub value : decimal 0 bs ≡ n

one-digit : (n : ℕ) → n < 10 → Numeral n ((48 + n) ∷ [])
unfolding Each well_formed decimal
one-digit n h =
    let d : Each IsDigit ((48 + n) ∷ []) = ((omega arith, omega arith), tt) in
    record { all_digits = d; formed = digits-all ((48 + n) ∷ []) d; value = omega arith }

and_left : (a b : Bool) → (a && b) ≡ true → a ≡ true
and_left true b h = refl
and_left false b h = h

-- one more digit, after a number that is not 0
formed-more : (bs : Bytes) (d : ℕ) → Each IsDigit (bs ++ d ∷ []) → well_formed bs ≡ true → 0 < decimal 0 bs →
    well_formed (bs ++ d ∷ []) ≡ true
unfolding well_formed decimal
formed-more [] d h f p = absurd (omega arith)
formed-more (b ∷ []) d h f p = rw (ne_eqb b 48 (λ e. omega arith)) (digits-all (b ∷ d ∷ []) h)
formed-more (b ∷ c ∷ bs) d h f p = rw (and_left (not (eqb b 48)) (all_digits (b ∷ c ∷ bs)) f) (digits-all (b ∷ c ∷ (bs ++ d ∷ [])) h)

more-digits : (n : ℕ) (bs : Bytes) → 10 ≤ n → Numeral (n / 10) bs → Numeral n (bs ++ (48 + n % 10) ∷ [])
unfolding Each decimal
more-digits n bs l h =
    let m : n % 10 < 10 = mod-lt n (omega arith) in
    let e : 10 * (n / 10) + n % 10 ≡ n = div-add-mod n 10 in
    let d : Each IsDigit (bs ++ (48 + n % 10) ∷ []) =
    each-++ IsDigit bs ((48 + n % 10) ∷ []) h.all_digits ((omega arith, omega arith), tt) in
    record {
      all_digits = d;
      formed = formed-more bs (48 + n % 10) d h.formed (omega (arith, h.value));
      value = decimal-++ 0 bs ((48 + n % 10) ∷ []) ∙ rw h.value (omega arith);
    }

digits_step : (n : ℕ) (bs : Bytes) → (10 ≤ n → Numeral (n / 10) bs) → (b : Bool) → ltb n 10 ≡ b →
    Numeral n (pick b ((48 + n) ∷ []) (bs ++ (48 + n % 10) ∷ []))
digits_step n bs h true e = one-digit n (ltb-true n 10 e)
digits_step n bs h false e = let l : 10 ≤ n = ltb-false n 10 e in more-digits n bs l (h l)

digits-numeral : (k n : ℕ) → n ≤ k → Numeral n (digits k n)
unfolding digits
digits-numeral zero n h = one-digit n (omega arith)
digits-numeral (suc k) n h =
    let d : 10 * (n / 10) + n % 10 ≡ n = div-add-mod n 10 in
    digits_step n (digits k (n / 10)) (λ l. digits-numeral k (n / 10) (omega arith)) (ltb n 10) refl

pub printℕ-numeral : (n : ℕ) → Numeral n (printℕ n)
unfolding printℕ
printℕ-numeral n = digits-numeral n n (omega arith)

-- ---- read back

pub natural-printℕ : (n : ℕ) → natural (printℕ n) ≡ some n
unfolding natural
natural-printℕ n = let p = printℕ-numeral n in rw (p.formed, p.value)

integer-digits : (bs : Bytes) (n : ℕ) → Each IsDigit bs → natural bs ≡ some n → integer bs ≡ some (pos n)
unfolding Each integer is_in class_number natural well_formed
integer-digits [] n h e = contradiction cc
integer-digits (b ∷ bs) n h e = rw (digit-class b h.0, e)

pub integer-printℤ : (z : ℤ) → integer (printℤ z) ≡ some z
unfolding printℤ integer is_in class_number class_of
integer-printℤ (pos n) = integer-digits (printℕ n) n (printℕ-numeral n).all_digits (natural-printℕ n)
integer-printℤ (negsuc n) = rw (natural-printℕ (suc n))

pub printℕ-injective : (m n : ℕ) → printℕ m ≡ printℕ n → m ≡ n
printℕ-injective m n e = cc (natural-printℕ m, natural-printℕ n)

pub printℤ-injective : (y z : ℤ) → printℤ y ≡ printℤ z → y ≡ z
printℤ-injective y z e = cc (integer-printℤ y, integer-printℤ z)

-- ---- what does not stand in it

pub printℕ-nonempty : (n : ℕ) → ¬ (printℕ n ≡ [])
unfolding well_formed
printℕ-nonempty n e =
    let z : true ≡ false = sym (printℕ-numeral n).formed ∙ ap well_formed e in
    contradiction cc

-- the byte does not stand in these
abbrev pub Lacks : ℕ → Bytes → Type 0
Lacks c bs = Each (λ b. eqb b c ≡ false) bs

pub printℕ-lacks : (c : ℕ) → ¬ IsDigit c → (n : ℕ) → Lacks c (printℕ n)
printℕ-lacks c f n = each_map (λ b h. ne_eqb b c (λ e. f (subst IsDigit e h))) (printℕ n) (printℕ-numeral n).all_digits

pub printℤ-lacks : (c : ℕ) → ¬ IsDigit c → eqb 45 c ≡ false → (z : ℤ) → Lacks c (printℤ z)
unfolding printℤ Each
printℤ-lacks c f g (pos n) = printℕ-lacks c f n
printℤ-lacks c f g (negsuc n) = (g, printℕ-lacks c f (suc n))
