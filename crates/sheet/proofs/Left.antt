-- What is left to read, after the tokens that were read: the first that is due, and then the others. Assumes nothing.
use Prim.Native.Nat.{ℕ}
use mathlib.Core.Path.{◌≡◌, refl, sym, ◌∙◌, ap}
use mathlib.Core.Bool.{Bool, true, false}
use mathlib.Core.List.{List, [], ◌∷◌, ◌++◌, append-nil, append_assoc}
use Rattle.specification.specs.Bytes.{space}
use Rattle.specification.specs.Parser.{Reader, Read, refused, found, Parser, give, and_then, ◌>>=◌, past, next, mark}
use Rattle.specification.specs.Lines.{Declared}
use Rattle.specification.specs.Ast.{Formula}
use Rattle.specification.specs.Formula.{operand, formula}
use Rattle.specification.proofs.Laws.Contradiction.{contradiction}
use Rattle.tables.specs.Layout.{max_nesting}
use Rattle.sheet.specs.declared.Token.{Token}
use Rattle.sheet.specs.Codes.{formula_tokens}
use Rattle.sheet.specs.Dues.{Due, due_formula, parse, parse_all, left, left_here}

-- ---- readings, one after the other

module _ {A B C : Type 0} (f : A → Parser B) (g : B → Parser C) where
  pub then-assoc : (x : Read A) → and_then g (and_then f x) ≡ and_then (λ a r. and_then g (f a r)) x
  then-assoc (refused n p) = refl
  then-assoc (found a r) = refl

module _ {A B : Type 0} {f g : A → Parser B} where
  pub then_same : ((a : A) (r : Reader) → f a r ≡ g a r) → (x : Read A) → and_then f x ≡ and_then g x
  then_same h (refused n p) = refl
  then_same h (found a r) = h a r

module _ {A B C : Type 0} (f : A → Parser C) (h : A → Parser B) (g : B → Parser C) where
  -- what follows is in two parts
  pub then-split : ((a : A) (r : Reader) → f a r ≡ and_then g (h a r)) → (x : Read A) → and_then f x ≡ and_then g (and_then h x)
  then-split e (refused n p) = refl
  then-split e (found a r) = e a r

module _ {A B B' C : Type 0} (f : A → Parser B) (g : B → Parser C) (f' : A → Parser B') (g' : B' → Parser C) where
  -- what is read first is the same, and so is what follows
  pub then-both : ((a : A) (r : Reader) → and_then g (f a r) ≡ and_then g' (f' a r)) →
      (x : Read A) → and_then g (and_then f x) ≡ and_then g' (and_then f' x)
  then-both h (refused n p) = refl
  then-both h (found a r) = h a r

module _ {A : Type 0} where
  pub then-give : (x : Read A) → and_then give x ≡ x
  then-give (refused n p) = refl
  then-give (found a r) = refl

-- what was read, from its tokens
pub spelled-found : (x : Read Formula) {ts : List Token} {r : Reader} → and_then (λ F. give (formula_tokens F)) x ≡ found ts r →
    (F : Formula) × (x ≡ found F r) × (formula_tokens F ≡ ts)
spelled-found (refused n p) e = contradiction cc
spelled-found (found F r) e = (F, cc, cc)

pub spelled-refused : (x : Read Formula) {n p : ℕ} → and_then (λ F. give (formula_tokens F)) x ≡ refused n p → x ≡ refused n p
spelled-refused (refused n p) e = cc
spelled-refused (found F r) e = contradiction cc

-- tokens that were read before go in front
regroup : (ts us : List Token) (x : Read (List Token)) →
    and_then (λ xs. give (ts ++ xs)) (and_then (λ ys. give (us ++ ys)) x) ≡ and_then (λ ys. give (ts ++ us ++ ys)) x
regroup ts us (refused n p) = refl
regroup ts us (found ys r) = rw append_assoc

-- ---- the first that is due, and then the others

module _ (refusing : Bool) (D : Declared) where
  pub left-none : (ts : List Token) (r : Reader) → left refusing D [] ts r ≡ found ts r
  unfolding left parse_all
  left-none ts r = rw append-nil

  pub left-cons : (d : Due) (ds : List Due) (ts : List Token) (r : Reader) → left refusing D (d ∷ ds) ts r ≡ operand (left_here refusing D d ds ts) r
  unfolding left left_here parse_all
  left-cons d ds ts r =
      then-assoc (λ xs. parse_all refusing D ds >>= λ ys. give (xs ++ ys)) (λ ys. give (ts ++ ys)) (operand (parse refusing D d) r) ∙
      then_same (λ xs r'. regroup ts xs (parse_all refusing D ds r')) (operand (parse refusing D d) r) ∙
      then-assoc (λ u. parse refusing D d) (λ xs. left refusing D ds (ts ++ xs)) (mark space r)

  module _ (d : Due) (ds : List Due) (ts : List Token) (r : Reader) where
    pub left-space : next space r.rest ≡ true → left refusing D (d ∷ ds) ts r ≡ left_here refusing D d ds ts (past 1 r)
    unfolding mark
    left-space e = left-cons d ds ts r ∙ rw e

    pub left-no-space : next space r.rest ≡ false → left refusing D (d ∷ ds) ts r ≡ refused 5 r.place
    unfolding mark
    left-no-space e = left-cons d ds ts r ∙ rw e

  -- the formula, at its first byte
  pub left-formula : (r : Reader) →
      (formula refusing D max_nesting [] >>= λ F. give (formula_tokens F)) r ≡ left_here refusing D (due_formula max_nesting []) [] [] r
  unfolding left_here parse
  left-formula r = let x = parse refusing D (due_formula max_nesting []) r in sym (then_same left-none x ∙ then-give x)

  -- ---- two lists of what is due

  pub left-++ : (ds es : List Due) (ts : List Token) (r : Reader) → left refusing D (ds ++ es) ts r ≡ (left refusing D ds ts >>= left refusing D es) r
  unfolding left_here
  left-++ [] es ts r = rw left-none
  left-++ (d ∷ ds) es ts r =
      left-cons d (ds ++ es) ts r ∙
      then_same
      (λ u r'.
      then_same (λ xs r''. left-++ ds es (ts ++ xs) r'') (parse refusing D d r') ∙
      sym (then-assoc (λ xs. left refusing D ds (ts ++ xs)) (left refusing D es) (parse refusing D d r')))
      (mark space r) ∙
      sym (then-assoc (λ u. left_here refusing D d ds ts) (left refusing D es) (mark space r)) ∙
      ap (and_then (left refusing D es)) (sym (left-cons d ds ts r))

  pub left-front : (ds : List Due) (ts us : List Token) (r : Reader) →
      left refusing D ds (ts ++ us) r ≡ (left refusing D ds us >>= λ xs. give (ts ++ xs)) r
  unfolding left
  left-front ds ts us r = sym (regroup ts us (parse_all refusing D ds r))
