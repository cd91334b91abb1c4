-- The bytes of blocks determine the blocks: lines, read from the last to the first, give back the blocks that they are of. Assumes nothing.
use Prim.Native.Nat.{ℕ}
use mathlib.Core.Path.{◌≡◌, refl, sym, ◌∙◌, ap}
use mathlib.Core.List.{List, [], ◌∷◌, ◌++◌, append_assoc}
use lib.IntN.{ℤ, pos, negsuc}
use Rattle.specification.specs.Listing.{Head, answer_head, error_head, Named, Block, Label, answer_label, error_label, kind_label, token_label, cell_label, Line, head_lines, cell_lines, block_lines, lines_text, block_text, listing_text}
use Rattle.specification.proofs.Laws.Text.{text-injective}

-- ---- lines, read from the last to the first

-- the token, the kind and the cells whose head has still to come, and the blocks after them
record Partly : Type 0 where
  token : ℕ
  kind : ℕ
  cells : List Named
  blocks : List Block

abbrev holding : List Named → List Block → Partly
holding cs bs = record { token = 0; kind = 0; cells = cs; blocks = bs }

abbrev headed : Head → Partly → Partly
headed h p = holding [] (record { head = h; cells = p.cells } ∷ p.blocks)

abbrev nat_of : ℤ → ℕ
nat_of (pos n) = n
nat_of (negsuc n) = 0

-- one line more, before those that are read
abbrev onto : Label → ℤ → Partly → Partly
onto answer_label z p = headed (answer_head (nat_of z)) p
onto error_label z p = headed (error_head (nat_of z) p.kind p.token) p
onto kind_label z p = record { token = p.token; kind = nat_of z; cells = p.cells; blocks = p.blocks }
onto token_label z p = record { token = nat_of z; kind = p.kind; cells = p.cells; blocks = p.blocks }
onto (cell_label n) z p =
    record { token = p.token; kind = p.kind; cells = record { name = n; value = z } ∷ p.cells; blocks = p.blocks }

gather : List Line → Partly
gather [] = holding [] []
gather (l ∷ ls) = onto l.label l.value (gather ls)

gather-cells : (cs : List Named) (ls : List Line) (bs : List Block) → gather ls ≡ holding [] bs →
    gather (cell_lines cs ++ ls) ≡ holding cs bs
unfolding gather cell_lines
gather-cells [] ls bs e = e
gather-cells (c ∷ cs) ls bs e = ap (onto (cell_label c.name) c.value) (gather-cells cs ls bs e)

gather-head : (h : Head) (ls : List Line) (cs : List Named) (bs : List Block) → gather ls ≡ holding cs bs →
    gather (head_lines h ++ ls) ≡ holding [] (record { head = h; cells = cs } ∷ bs)
unfolding gather head_lines
gather-head (answer_head n) ls cs bs e = ap (headed (answer_head n)) e
gather-head (error_head n kind token) ls cs bs e = rw e

listing_lines : List Block → List Line
listing_lines [] = []
listing_lines (b ∷ bs) = block_lines b ++ listing_lines bs

gather-blocks : (bs : List Block) → gather (listing_lines bs) ≡ holding [] bs
unfolding gather listing_lines block_lines
gather-blocks [] = refl
gather-blocks (b ∷ bs) =
    rw append_assoc
    (gather-head b.head (cell_lines b.cells ++ listing_lines bs) b.cells bs
    (gather-cells b.cells (listing_lines bs) bs (gather-blocks bs)))

-- ---- the bytes

pub lines_text-++ : (ls ms : List Line) → lines_text (ls ++ ms) ≡ lines_text ls ++ lines_text ms
unfolding lines_text
lines_text-++ [] ms = refl
lines_text-++ (l ∷ ls) ms = simp (lines_text-++ ls ms, append_assoc)

listing-lines : (bs : List Block) → listing_text bs ≡ lines_text (listing_lines bs)
unfolding listing_text block_text listing_lines lines_text
listing-lines [] = refl
listing-lines (b ∷ bs) = ap (block_text b ++◌) (listing-lines bs) ∙ sym (lines_text-++ (block_lines b) (listing_lines bs))

pub listing-injective : (bs cs : List Block) → listing_text bs ≡ listing_text cs → bs ≡ cs
listing-injective bs cs e =
    let q : listing_lines bs ≡ listing_lines cs =
    text-injective (listing_lines bs) (listing_lines cs) (sym (listing-lines bs) ∙ e ∙ listing-lines cs) in
    ap (λ (p : Partly). p.blocks) (sym (gather-blocks bs) ∙ ap gather q ∙ gather-blocks cs)

pub listing_text-++ : (bs cs : List Block) → listing_text (bs ++ cs) ≡ listing_text bs ++ listing_text cs
unfolding listing_text
listing_text-++ [] cs = refl
listing_text-++ (b ∷ bs) cs =
    ap (block_text b ++◌) (listing_text-++ bs cs) ∙ sym (append_assoc (block_text b) (listing_text bs) (listing_text cs))
