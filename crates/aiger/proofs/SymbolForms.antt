-- The texts that may stand where the symbol machine stands, and their first bytes. Assumes nothing.
use Rattle.std.proofs.Common.{◌≡◌, ℕ, zero, suc, ◌+◌, ◌<◌, ◌≤◌, true, List, [], ◌∷◌, ◌++◌, length, drop, Some, None, Option, slice_get, sym, refl, ap, ◌∙◌, subst, inl, inr, ◌⊎◌, arith}
use Rattle.std.proofs.lemmas.Bool.{true≢false}
use Rattle.faults.specs.declared.text.TextFault.{TextFault}
use Rattle.faults.specs.declared.text.TextFault.TheVariants.{Misfit}
use Rattle.text.specs.Numbers.{is_digit}
use Rattle.text.specs.Classes.{class_of}
use Rattle.aiger.specs.Symbols.{max_name, nameable}
use Rattle.aiger.specs.Grammar.{Symbol, letter_byte, NameBytes, SymbolForm}
use Rattle.aiger.specs.Malformed.{closing, Begins, Anything, Byte, Digits, NameRest, Loose}
use Rattle.aiger.specs.declared.states.Letter.{Letter}
use Rattle.aiger.specs.declared.states.Letter.TheVariants.{Input, Output}
use Rattle.aiger.specs.declared.states.State.{State}
use Rattle.aiger.specs.declared.states.State.TheVariants.{Start, Position, Gap, Name, Comment, Done}
use Rattle.aiger.proofs.Pieces.{Faulty, Undigited, not_digit, stuck_here, shift, Number, nought, cons_same, digits_first}

abbrev pub Going : State → List ℕ → Type 0
Going Start = Begins closing
Going (Position l) = Number (Byte 32 (NameRest 0))
Going (Gap l p) = Byte 32 (NameRest 0)
Going (Name l p k) = NameRest k
Going Comment = Byte 10 Anything
Going Done = Anything

-- the same, with any digits for a position
abbrev pub Loosely : State → List ℕ → Type 0
Loosely Start = Loose closing
Loosely (Position l) = Digits (Byte 32 (NameRest 0))
Loosely (Gap l p) = Byte 32 (NameRest 0)
Loosely (Name l p k) = NameRest k
Loosely Comment = Byte 10 Anything
Loosely Done = Anything

-- no more bytes of a name than it may have
abbrev pub Short : State → Type 0
Short Start = Unit {0}
Short (Position l) = Unit {0}
Short (Gap l p) = Unit {0}
Short (Name l p k) = k ≤ max_name
Short Comment = Unit {0}
Short Done = Unit {0}

pub name_some : (k : ℕ) → k ≤ max_name → Undigited (NameRest k)
name_some zero h = (97 ∷ 10 ∷ [], record { name = 97 ∷ []; rest = []; some = omega arith; few = omega arith; bytes = (refl, tt); text = refl }, not_digit 97 (10 ∷ []) refl)
name_some (suc k) h = (10 ∷ [], record { name = []; rest = []; some = omega arith; few = omega arith; bytes = tt; text = refl }, not_digit 10 [] refl)

pub going_some : (s : State) → Short s → (xs : List ℕ) × Going s xs
going_some Start h = ([], inl (inl refl))
going_some (Position l) h = let n = name_some 0 (omega arith) in (48 ∷ 32 ∷ n.0, (0, 48 ∷ [], 32 ∷ n.0, nought, refl, (n.0, refl, n.1)))
going_some (Gap l p) h = let n = name_some 0 (omega arith) in (32 ∷ n.0, (n.0, refl, n.1))
going_some (Name l p k) h = let n = name_some k h in (n.0, n.1)
going_some Comment h = (10 ∷ [], ([], refl, tt))
going_some Done h = ([], tt)

-- the name of a symbol line
pub name_of : (s : Symbol) (ts rest : List ℕ) → SymbolForm s ts rest → NameRest 0 (s.name ++ 10 ∷ rest)
name_of s ts rest form = record { name = s.name; rest = rest; some = omega (arith, form.some); few = omega (arith, form.few); bytes = form.bytes; text = refl }

-- what may stand first, if anything stands there

abbrev pub Allowed : State → Option ℕ → Type 0
Allowed Start None = Unit {0}
Allowed (Position l) None = ⊥
Allowed (Gap l p) None = ⊥
Allowed (Name l p k) None = ⊥
Allowed Comment None = ⊥
Allowed Done None = Unit {0}
Allowed Start (Some b) = (b ≡ 105) ⊎ ((b ≡ 111) ⊎ (b ≡ 99))
Allowed (Position l) (Some b) = is_digit b ≡ true
Allowed (Gap l p) (Some b) = b ≡ 32
Allowed (Name l p k) (Some b) = ((b ≡ 10) × (1 ≤ k)) ⊎ ((nameable (class_of b) ≡ true) × (k < max_name))
Allowed Comment (Some b) = b ≡ 10
Allowed Done (Some b) = Unit {0}

pub no_start : (b : ℕ) → (b ≡ 105 → ⊥) → (b ≡ 111 → ⊥) → (b ≡ 99 → ⊥) → Allowed Start (Some b) → ⊥
no_start b i o c (inl e) = i e
no_start b i o c (inr (inl e)) = o e
no_start b i o c (inr (inr e)) = c e

first_of_text : (s : State) (xs ys : List ℕ) → xs ≡ ys → Allowed s (slice_get ys 0) → Allowed s (slice_get xs 0)
first_of_text s xs ys e a = subst (λ (x : List ℕ). Allowed s (slice_get x 0)) (sym e) a

name_first : (l : Letter) (p k : ℕ) (xs : List ℕ) → NameRest k xs → Allowed (Name l p k) (slice_get xs 0)
name_first l p k xs r = first_of_text (Name l p k) xs (r.name ++ 10 ∷ r.rest) r.text (by_name r.name r.some r.few r.bytes)
  where
    by_name : (name : List ℕ) → 1 ≤ k + length name → k + length name ≤ max_name → NameBytes name → Allowed (Name l p k) (slice_get (name ++ 10 ∷ r.rest) 0)
    by_name [] some few bytes = inl (refl, omega arith)
    by_name (b ∷ name) some few (nb, bytes) = inr (nb, omega arith)

letter_first : (l : Letter) → Allowed Start (Some (letter_byte l))
letter_first Input = inl refl
letter_first Output = inr (inl refl)

pub allowed : (s : State) (xs : List ℕ) → Loosely s xs → Allowed s (slice_get xs 0)
allowed Start xs (inl (inl e)) = first_of_text Start xs [] e tt
allowed Start xs (inl (inr (more, e))) = first_of_text Start xs (99 ∷ 10 ∷ more) e (inr (inr refl))
allowed Start xs (inr (l, (rest, e, m))) = first_of_text Start xs (letter_byte l ∷ rest) e (letter_first l)
allowed (Position l) xs d = let f = digits_first (Byte 32 (NameRest 0)) xs d in subst (Allowed (Position l)) (sym f.1) f.2
allowed (Gap l p) xs (rest, e, m) = first_of_text (Gap l p) xs (32 ∷ rest) e refl
allowed (Name l p k) xs r = name_first l p k xs r
allowed Comment xs (rest, e, m) = first_of_text Comment xs (10 ∷ rest) e refl
allowed Done xs d = done (slice_get xs 0)
  where
    done : (o : Option ℕ) → Allowed Done o
    done None = tt
    done (Some b) = tt

-- the text of the file bs from a place on is malformed where the machine stands in a state
abbrev pub Lost : List ℕ → State → List ℕ → TextFault → Type 0
Lost bs s ts e = Faulty (Going s) (Loosely s) bs ts e

-- a byte, or the end of the file, that may not stand where the machine stands
pub lost_here : (bs : List ℕ) (s : State) (p : ℕ) → p ≤ length bs → Short s → (Allowed s (slice_get (drop p bs) 0) → ⊥) → Lost bs s (drop p bs) (Misfit p)
lost_here bs s p h short other = stuck_here (Going s) (Loosely s) bs p h (going_some s short) (λ xs l e. other (subst (Allowed s) e (allowed s xs l)))

-- a text that goes on behind a byte

letter_going : (l : Letter) (xs : List ℕ) → Going (Position l) xs → Begins closing (letter_byte l ∷ xs)
letter_going l xs (v, ds, ts, num, e, (rest, f, r)) =
    inr (
      record { letter = l; position = v; name = r.name },
      r.rest,
      record {
        ds = ds;
        position = num;
        some = omega (arith, r.some);
        few = omega (arith, r.few);
        bytes = r.bytes;
        text = ap (λ (x : List ℕ). letter_byte l ∷ x) (e ∙ ap (λ (x : List ℕ). ds ++ x) (f ∙ ap (λ (x : List ℕ). 32 ∷ x) r.text));
      },
    )

pub not_c : (l : Letter) → letter_byte l ≡ 99 → ⊥
not_c Input e = absurd (omega arith)
not_c Output e = absurd (omega arith)

letter_loosely : (l : Letter) (xs : List ℕ) → Loose closing (letter_byte l ∷ xs) → Loosely (Position l) xs
letter_loosely l xs (inl (inl e)) = cc
letter_loosely l xs (inl (inr (more, e))) = absurd (not_c l (cons_same (letter_byte l) 99 xs (10 ∷ more) e).0)
letter_loosely l xs (inr (k, (rest, e, m))) = subst (Loosely (Position l)) (sym (cons_same (letter_byte l) (letter_byte k) xs rest e).1) m

comment_going : (xs : List ℕ) → Going Comment xs → Begins closing (99 ∷ xs)
comment_going xs (rest, e, m) = inl (inr (rest, ap (λ (x : List ℕ). 99 ∷ x) e))

comment_loosely : (xs : List ℕ) → Loose closing (99 ∷ xs) → Loosely Comment xs
comment_loosely xs (inl (inl e)) = cc
comment_loosely xs (inl (inr (more, e))) = (more, (cons_same 99 99 xs (10 ∷ more) e).1, tt)
comment_loosely xs (inr (k, (rest, e, m))) = absurd (not_c k (sym (cons_same 99 (letter_byte k) xs rest e).0))

pub name_going : (k b : ℕ) (xs : List ℕ) → nameable (class_of b) ≡ true → NameRest (k + 1) xs → NameRest k (b ∷ xs)
name_going k b xs nb r =
    record { name = b ∷ r.name; rest = r.rest; some = omega arith; few = omega (arith, r.few); bytes = (nb, r.bytes); text = ap (λ (x : List ℕ). b ∷ x) r.text }

pub name_loosely : (k b : ℕ) (xs : List ℕ) → nameable (class_of b) ≡ true → NameRest k (b ∷ xs) → NameRest (k + 1) xs
name_loosely k b xs nb r = by_name r.name r.few r.bytes r.text
  where
    by_name : (name : List ℕ) → k + length name ≤ max_name → NameBytes name → b ∷ xs ≡ name ++ 10 ∷ r.rest → NameRest (k + 1) xs
    by_name [] few bytes e = absurd (true≢false (sym nb ∙ ap (λ (c : ℕ). nameable (class_of c)) (cons_same b 10 xs r.rest e).0))
    by_name (c ∷ name) few (nc, bytes) e =
        record { name = name; rest = r.rest; some = omega arith; few = omega arith; bytes = bytes; text = (cons_same b c xs (name ++ 10 ∷ r.rest) e).1 }

pub lost_letter : (bs : List ℕ) (l : Letter) (ts : List ℕ) (e : TextFault) → Lost bs (Position l) ts e → Lost bs Start (letter_byte l ∷ ts) e
lost_letter bs l ts e f =
    shift (Going Start) (Loosely Start) (Going (Position l)) (Loosely (Position l)) (letter_byte l ∷ []) ts (letter_going l) (λ xs m. inl (letter_loosely l xs m)) bs e f

pub lost_comment : (bs ts : List ℕ) (e : TextFault) → Lost bs Comment ts e → Lost bs Start (99 ∷ ts) e
lost_comment bs ts e f = shift (Going Start) (Loosely Start) (Going Comment) (Loosely Comment) (99 ∷ []) ts comment_going (λ xs m. inl (comment_loosely xs m)) bs e f

pub lost_name : (bs : List ℕ) (l : Letter) (p k b : ℕ) (ts : List ℕ) (e : TextFault) → nameable (class_of b) ≡ true → Lost bs (Name l p (k + 1)) ts e → Lost bs (Name l p k) (b ∷ ts) e
lost_name bs l p k b ts e nb f =
    shift (NameRest k) (NameRest k) (NameRest (k + 1)) (NameRest (k + 1)) (b ∷ []) ts (λ xs m. name_going k b xs nb m) (λ xs m. inl (name_loosely k b xs nb m)) bs e f
