-- Headers of equal parts are equal.
use Rattle.std.proofs.Common.{◌≡◌, ℕ}
use Rattle.pa_macho.specs.declared.header.Role.{Role}
use Rattle.pa_macho.specs.declared.header.Header.{Header}

abbrev pub header_with : Role → (text stubs consts got cells fixups symbols strings : ℕ) → Header
header_with role text stubs consts got cells fixups symbols strings = record {
  role = role;
  text = text;
  stubs = stubs;
  consts = consts;
  got = got;
  cells = cells;
  fixups = fixups;
  symbols = symbols;
  strings = strings;
}

pub headers_are : (r r' : Role) (a1 a2 b1 b2 c1 c2 d1 d2 e1 e2 f1 f2 g1 g2 k1 k2 : ℕ) → r ≡ r' → a1 ≡ a2 → b1 ≡ b2 → c1 ≡ c2 → d1 ≡ d2 → e1 ≡ e2 → f1 ≡ f2 → g1 ≡ g2 → k1 ≡ k2
    → header_with r a1 b1 c1 d1 e1 f1 g1 k1 ≡ header_with r' a2 b2 c2 d2 e2 f2 g2 k2
headers_are r r' a1 a2 b1 b2 c1 c2 d1 d2 e1 e2 f1 f2 g1 g2 k1 k2 q a b c d e f g k = cc
