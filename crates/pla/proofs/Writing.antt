-- A text that is written in pieces.
use Rattle.std.proofs.Common.{◌≡◌, ℕ, List, ◌++◌, length, take, drop, sym, ap, ◌∙◌, subst, ap₂, arith, length-append}
use Rattle.std.proofs.Math.Seq.{take-append_seam}
use Rattle.std.specs.Borrow.{MutBor}
use Rattle.pla.specs.declared.writer.Writer.{Writer}
use Rattle.pla.specs.Memory.{stored}
use Rattle.pla.specs.Writing.{Fits, Starts, Wrote}
use Rattle.pla.proofs.Stored.{stored_append, stored_front}

pub wrote_more : {w v u : Writer} {xs ys : List ℕ} → Wrote w xs v → Wrote v ys u → Wrote w (xs ++ ys) u
wrote_more {w} {v} {u} {xs} {ys} p q =
    record {
      same_reference = q.same_reference ∙ p.same_reference;
      size = q.size ∙ p.size;
      after = q.after ∙ ap₂ (λ t i. stored t i ys) p.after p.place ∙ stored_append w.memory.now w.at xs ys;
      place = omega (arith, length-append xs ys);
    }

-- there is room for ys from v on, and whoever writes them there has written zs from w on
pub record Left (w : Writer) (zs : List ℕ) (v : Writer) (ys : List ℕ) : Type 0 where
  pub room : Fits v ys
  pub rest : (u : Writer) → Wrote v ys u → Wrote w zs u

pub left_more : {w v u : Writer} {zs all : List ℕ} (xs ys : List ℕ) → Left w zs v all → all ≡ xs ++ ys → Wrote v xs u → Left w zs u ys
left_more {w} {v} {u} {zs} {all} xs ys l e p =
    record {
      room = omega (arith, l.room, ap length e, length-append xs ys, p.place, p.size);
      rest = λ t q. l.rest t (subst (λ bytes. Wrote v bytes t) (sym e) (wrote_more p q));
    }

pub left_fits : {w v : Writer} {zs all : List ℕ} (xs ys : List ℕ) → Left w zs v all → all ≡ xs ++ ys → Fits v xs
left_fits xs ys l e = omega (arith, l.room, ap length e, length-append xs ys)

pub written_all : {memory : MutBor (List ℕ)} {w v : Writer} {xs : List ℕ} → Starts memory w → Fits w xs → Wrote w xs v → v.memory.now ≡ xs ++ drop (length xs) memory.now
written_all {memory} {w} {v} {xs} start fits p =
    let front : v.memory.now ≡ stored memory.now 0 xs = p.after ∙ ap₂ (λ t i. stored t i xs) start.same start.front in
    front ∙ stored_front memory.now xs (omega (arith, start.front, ap length start.same))

pub written_front : {memory : MutBor (List ℕ)} {w v : Writer} {xs : List ℕ} → Starts memory w → Fits w xs → Wrote w xs v → take v.at v.memory.now ≡ xs
written_front {memory} {w} {v} {xs} start fits p =
    let end : v.at ≡ length xs = omega (arith, p.place, start.front) in
    ap₂ take end (written_all start fits p) ∙ take-append_seam xs (drop (length xs) memory.now)
