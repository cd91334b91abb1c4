-- A text that a writer puts in a loop: what is put of it, and what is still due. Assumes nothing.
use native.Mathlib.Omega.{arith}
use mathlib.Core.Path.{◌≡◌, refl, ◌∙◌, ap, sym}
use mathlib.Core.List.{[], ◌++◌, append-nil, append_assoc}
use lib.ListN.{length, length-append}
use Rattle.specification.specs.Bytes.{Bytes}
use Rattle.listing.specs.declared.writer.Writer.{Writer}
use Rattle.listing.specs.Put.{Room, Writes}
use Rattle.listing.proofs.Laws.Put.{writes-++, writes-[]}

-- of t, rest is due
pub record Due (u v : Writer) (t rest : Bytes) : Type 0 where
  pub done : Bytes
  pub writes : Writes u v done
  pub whole : t ≡ done ++ rest

pub due-all : (u : Writer) (t : Bytes) → Due u u t t
due-all u t = record { done = []; writes = writes-[] u; whole = refl }

-- the next bytes of it, and those after them
module _ {u v : Writer} {t rest : Bytes} (d : Due u v t rest) (xs ys : Bytes) (e : rest ≡ xs ++ ys) where
  pub due-next : {w : Writer} → Writes v w xs → Due u w t ys
  due-next p =
      record {
        done = d.done ++ xs;
        writes = writes-++ d.writes p;
        whole = d.whole ∙ ap (λ (z : Bytes). d.done ++ z) e ∙ sym (append_assoc d.done xs ys);
      }

  pub due-room : Room u.at t → Room v.at xs
  due-room r =
      omega (arith, d.writes.put.end, ap length d.whole, ap length e, length-append d.done rest, length-append xs ys)

pub due_none : {u v : Writer} {t rest : Bytes} → Due u v t rest → rest ≡ [] → Writes u v t
due_none d e = rw (d.whole, e, append-nil) d.writes
