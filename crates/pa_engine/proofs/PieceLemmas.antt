-- A text that is written in pieces.
use Rattle.std.proofs.Common.{◌≡◌, ℕ, ◌+◌, List, [], ◌++◌, length, drop, Option, append_assoc, append-nil, refl, sym, ◌∙◌, ap, ◌<◌, get_or, flat_map}
use Rattle.std.proofs.lemmas.List.{drop_more}
use Rattle.pa_io.specs.Outside.{Grew, GrewByProperPrefix}
use Rattle.pa_io.proofs.Growth.{Grew-none, Grew-append, GrewByProperPrefix-after, GrewByProperPrefix-front, Written}
use Rattle.pa_engine.specs.Pieces.{Passed}

-- nothing is written yet
pub Written-start : (a : Option (List ℕ)) (text : List ℕ) → Written a a text text
Written-start a text = record { done = []; parts = refl; grew = Grew-none a }

-- more of what is left came onto the page
pub Written-passed : (a b c : Option (List ℕ)) (text old new piece rest : List ℕ)
    → Written a b text (old ++ (piece ++ rest)) → Passed b c old new piece → Written a c text (new ++ rest)
Written-passed a b c text old new piece rest w p = record {
  done = w.done ++ p.done;
  parts = w.parts ∙ (ap (λ r. w.done ++ r) (sym (append_assoc old piece rest) ∙ (ap (λ r. r ++ rest) p.parts ∙ append_assoc p.done new rest)) ∙ sym (append_assoc w.done p.done (new ++ rest)));
  grew = Grew-append a b c w.done p.done w.grew p.grew;
}

-- the last piece is written
pub Written-all : (a b c : Option (List ℕ)) (text piece : List ℕ) → Written a b text piece → Grew b c piece → Grew a c text
Written-all a b c text piece w g = rw w.parts (Grew-append a b c w.done piece w.grew g)

-- a prefix of the next piece is written
pub Written-cut : (a b c : Option (List ℕ)) (text piece rest : List ℕ) → Written a b text (piece ++ rest) → GrewByProperPrefix b c piece → GrewByProperPrefix a c text
Written-cut a b c text piece rest w p =
    rw w.parts (GrewByProperPrefix-after a b c w.done (piece ++ rest) w.grew (GrewByProperPrefix-front b c piece rest p))

-- ---- how a text comes onto a page

pub Passed-none : (a : Option (List ℕ)) (page : List ℕ) → Passed a a page page []
Passed-none a page = record { done = []; parts = append-nil page; grew = Grew-none a }

pub Passed-added : (a : Option (List ℕ)) (page new text : List ℕ) → new ≡ page ++ text → Passed a a page new text
Passed-added a page new text e = record { done = []; parts = sym e; grew = Grew-none a }

pub Passed-flushed : (a b : Option (List ℕ)) (page new text : List ℕ) → Grew a b page → new ≡ text → Passed a b page new text
Passed-flushed a b page new text g e = record { done = page; parts = ap (λ r. page ++ r) (sym e); grew = g }

-- ---- the texts of a list of items

pub Written-item : {X : Type 0} (f : X → List ℕ) (items : List X) (i : ℕ) (d : X) (a b c : Option (List ℕ)) (text old new : List ℕ) → i < length items
    → Written a b text (old ++ flat_map f (drop i items)) → Passed b c old new (f (get_or items i d)) → Written a c text (new ++ flat_map f (drop (i + 1) items))
Written-item f items i d a b c text old new within w p =
    Written-passed a b c text old new (f (get_or items i d)) (flat_map f (drop (i + 1) items))
    (rw (drop_more items i d within) at w) p

-- ---- a whole text of two parts

pub cut_in_first : (whole x y : List ℕ) (a b : Option (List ℕ)) → whole ≡ x ++ y → GrewByProperPrefix a b x → GrewByProperPrefix a b whole
cut_in_first whole x y a b e p = rw e (GrewByProperPrefix-front a b x y p)

pub cut_in_second : (whole x y : List ℕ) (a b c : Option (List ℕ)) → whole ≡ x ++ y → Grew a b x → GrewByProperPrefix b c y → GrewByProperPrefix a c whole
cut_in_second whole x y a b c e g p = rw e (GrewByProperPrefix-after a b c x y g p)

pub both_written : (whole x y : List ℕ) (a b c : Option (List ℕ)) → whole ≡ x ++ y → Grew a b x → Grew b c y → Grew a c whole
both_written whole x y a b c e g h = rw e (Grew-append a b c x y g h)
