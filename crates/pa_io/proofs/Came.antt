-- What came out of a source over several reads.
use Rattle.std.proofs.Common.{◌≡◌, ℕ, ◌≤◌, List, [], ◌++◌, length, refl, ◌∙◌, ap, append-nil}
use Rattle.std.specs.Io.KnownBytes.{Consumes, IsAtEnd}
use Rattle.std.proofs.KnownBytes.{Consumes-trans, Consumes-whole}
use Rattle.pa_io.specs.Outside.{SourceSeen, Came, CameWhole, Grew}
use Rattle.pa_io.proofs.Growth.{Grew-append}

-- some bytes and then others
pub Came-more : (a b c : SourceSeen) (xs ys : List ℕ) → Came a b xs → Consumes b.left c.left ys → Grew b.given c.given ys
    → c.faults ≡ b.faults → Came a c (xs ++ ys)
Came-more a b c xs ys came left given faults = record {
  left = Consumes-trans _ _ _ xs ys came.left left;
  given = Grew-append _ _ _ xs ys came.given given;
  faults = faults ∙ came.faults;
}

-- the source is at its end where a read gives nothing
pub Came-ended : (limit : ℕ) (a b c : SourceSeen) (xs ys : List ℕ) → Came a b xs → Consumes b.left c.left ys → Grew b.given c.given ys
    → c.faults ≡ b.faults → ys ≡ [] → IsAtEnd b.left → length xs ≤ limit → CameWhole limit a c xs
Came-ended limit a b c xs ys came left given faults none end within =
    let same : xs ++ ys ≡ xs = ap (λ l. xs ++ l) none ∙ append-nil xs in
    record {
      came = rw same at (Came-more a b c xs ys came left given faults);
      whole = Consumes-whole a.left b.left xs (λ all. xs ≡ all) came.left end refl;
      within = within;
    }
