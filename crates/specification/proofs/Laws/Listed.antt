-- What the third demand says where the sheet that is read and the blocks that stand in the bytes written are known: a sheet is read in one
-- way only, and bytes are those of one list of blocks only. Assumes nothing.
use mathlib.Core.Path.{◌≡◌, sym, ◌∙◌, subst}
use mathlib.Core.List.{List}
use Rattle.specification.specs.Bytes.{Bytes}
use Rattle.specification.specs.Parser.{Reader, found}
use Rattle.specification.specs.Sheet.{Sheet, read}
use Rattle.specification.specs.Listing.{Block, listing_text}
use Rattle.specification.specs.Demand3.{Agreement, Demand3}

pub demand3-agreement : {sheet written : Bytes} {s : Sheet} {r : Reader} {bs : List Block} →
    read sheet ≡ found s r → written ≡ listing_text bs → Demand3 sheet written → Agreement s bs
demand3-agreement {s = s} {r = r} {bs = bs} reads stands d =
    let l = d.listed in
    let what = l.what in
    let told : found what l.reader ≡ found s r = sym l.reads ∙ reads in
    let e : what ≡ s = cc in
    let f : bs ≡ l.blocks = l.only bs stands in
    subst (λ x. Agreement x bs) e (subst (Agreement what) (sym f) d.agreement)
