-- Parts that stand one after the other are the bytes.
use Rattle.std.proofs.Common.{◌≡◌, ℕ, ◌+◌, ◌≤◌, List, [], ◌∷◌, ◌++◌, length, refl, sym, ap, subst, ◌∙◌, append_assoc, arith}
use Rattle.std.proofs.lemmas.List.{length-append}
use Rattle.pa_layout.specs.Fields.{IsAt}
use Rattle.pa_layout.proofs.Laws.{IsAt-append, IsAt-nil, IsAt-whole, IsAt-first, IsAt-second}

-- a part and its place
pub record Piece : Type 0 where
  pub at : ℕ
  pub part : List ℕ

abbrev pub piece : ℕ → List ℕ → Piece
piece at part = record { at = at; part = part }

abbrev pub AllAt : List ℕ → List Piece → Type 0
AllAt bytes [] = Unit {0}
AllAt bytes (p ∷ ps) = IsAt bytes p.at p.part × AllAt bytes ps

-- each begins where the one before it ends
abbrev pub Chained : ℕ → List Piece → ℕ → Type 0
Chained at [] end = at ≡ end
Chained at (p ∷ ps) end = (p.at ≡ at) × Chained (at + length p.part) ps end

abbrev pub joined : List Piece → List ℕ
joined [] = []
joined (p ∷ ps) = p.part ++ joined ps

pub length-joined : (at : ℕ) (ps : List Piece) (end : ℕ) → Chained at ps end → at + length (joined ps) ≡ end
length-joined at [] end c = omega arith
length-joined at (p ∷ ps) end c =
    let rest = length-joined (at + length p.part) ps end c.1 in
    omega (arith, length-append p.part (joined ps))

-- parts that stand up to a place inside stand as one
pub pieces-stand : (bytes : List ℕ) (at : ℕ) (ps : List Piece) (end : ℕ) → end ≤ length bytes → Chained at ps end → AllAt bytes ps → IsAt bytes at (joined ps)
pieces-stand bytes at [] end le c a = IsAt-nil bytes at (omega arith)
pieces-stand bytes at (p ∷ ps) end le c a =
    IsAt-append bytes at p.part (joined ps) (at + length p.part) refl (subst (λ (n : ℕ). IsAt bytes n p.part) c.0 a.0) (pieces-stand bytes (at + length p.part) ps end le c.1 a.1)

-- the bytes are the parts, one after the other
pub pieces-whole : (bytes : List ℕ) (ps : List Piece) → Chained 0 ps (length bytes) → AllAt bytes ps → bytes ≡ joined ps
pieces-whole bytes ps c a =
    let e = length-joined 0 ps (length bytes) c in
    IsAt-whole bytes (joined ps) (pieces-stand bytes 0 ps (length bytes) (omega arith) c a) (omega arith)

-- the parts of what is joined stand at their places
pub pieces-apart : (bytes : List ℕ) (at : ℕ) (ps : List Piece) (end : ℕ) → Chained at ps end → IsAt bytes at (joined ps) → AllAt bytes ps
pieces-apart bytes at [] end c h = tt
pieces-apart bytes at (p ∷ ps) end c h =
    (subst (λ (n : ℕ). IsAt bytes n p.part) (sym c.0) (IsAt-first bytes at p.part (joined ps) h), pieces-apart bytes (at + length p.part) ps end c.1 (IsAt-second bytes at p.part (joined ps) h))

-- ---- pieces after pieces

pub Chained-append : (at : ℕ) (ps : List Piece) (mid : ℕ) (qs : List Piece) (end : ℕ) → Chained at ps mid → Chained mid qs end → Chained at (ps ++ qs) end
Chained-append at [] mid qs end c d = subst (λ (n : ℕ). Chained n qs end) (sym c) d
Chained-append at (p ∷ ps) mid qs end c d = (c.0, Chained-append (at + length p.part) ps mid qs end c.1 d)

pub AllAt-append : (bytes : List ℕ) (ps qs : List Piece) → AllAt bytes ps → AllAt bytes qs → AllAt bytes (ps ++ qs)
AllAt-append bytes [] qs a b = b
AllAt-append bytes (p ∷ ps) qs a b = (a.0, AllAt-append bytes ps qs a.1 b)

pub AllAt-first : (bytes : List ℕ) (ps qs : List Piece) → AllAt bytes (ps ++ qs) → AllAt bytes ps
AllAt-first bytes [] qs a = tt
AllAt-first bytes (p ∷ ps) qs a = (a.0, AllAt-first bytes ps qs a.1)

pub AllAt-second : (bytes : List ℕ) (ps qs : List Piece) → AllAt bytes (ps ++ qs) → AllAt bytes qs
AllAt-second bytes [] qs a = a
AllAt-second bytes (p ∷ ps) qs a = AllAt-second bytes ps qs a.1

pub joined-append : (ps qs : List Piece) → joined (ps ++ qs) ≡ joined ps ++ joined qs
joined-append [] qs = refl
joined-append (p ∷ ps) qs = ap (λ (l : List ℕ). p.part ++ l) (joined-append ps qs) ∙ sym (append_assoc p.part (joined ps) (joined qs))
