-- What is stored piece by piece is the line.
-- Assumes nothing.
use Prim.Native.Nat.{ℕ, suc, ◌+◌}
use mathlib.Core.List.{List, [], ◌∷◌, ◌++◌, append_assoc, append-nil, map}
use mathlib.Core.Path.{◌≡◌, refl, sym, ap, ◌∙◌}
use native.Mathlib.Nat.{add-zero}
use native.Mathlib.Omega.{arith}
use lib.ListN.{length, length-append}
use lib.Seq.{sets}
use Rattle.wire.proofs.Sets.{sets-joined}
use Rattle.format.specs.Display.{ascii, decimal, hex, plain_line, packed_line, names_line, arguments_line, unknown_line, heading, line, lines, page}
use Rattle.std.proofs.lemmas.List.{length-map, map-append}
use Rattle.std.specs.List.{filter_map}
use Rattle.std.specs.Prelude.{Option}
use Rattle.accepted.specs.Sections.{Found, sections}
use Rattle.display.specs.Summary.{records_line, summary_line, page_of, page_said}
use Rattle.display.specs.declared.summary.Summary.{Summary}

-- ---- a line with a number of records

module _ (place count : ℕ) (name text : List ℕ) where
  pub records-stored :
      (l : List ℕ) (at first next : ℕ) →
      first ≡ at + 6 →
      next ≡ first + length (decimal place ++ name) →
      sets (sets (sets l at (ascii "//   [")) first (decimal place ++ name)) next (decimal count ++ text) ≡ sets l at (records_line place name count text)
  unfolding ascii
  records-stored l at first next e f =
      let start : List ℕ = ascii "//   [" in
      sets-joined (decimal place ++ name) (decimal count ++ text) (sets l at start) first next f ∙
      sets-joined start ((decimal place ++ name) ++ (decimal count ++ text)) l at first e ∙
      ap (λ (t : List ℕ). sets l at (start ++ t)) (append_assoc (decimal place) name (decimal count ++ text))

  pub records-length :
      length (records_line place name count text) ≡ 6 + (length (decimal place) + (length name + (length (decimal count) + length text)))
  unfolding ascii
  records-length = simp length-append (omega arith)

-- a line that ends with its text
counted : (place count : ℕ) (name text : List ℕ) →
    records_line place (ascii "] " ++ name) count (text ++ ascii "\n") ≡ line place (name ++ (decimal count ++ text))
counted place count name text = simp append_assoc

module _ (place count : ℕ) where
  pub plain-line : records_line place (ascii "] SourceContents: ") count (ascii " uncompressed file(s)\n") ≡ line place (plain_line count)
  unfolding ascii
  plain-line = counted place count (ascii "SourceContents: ") (ascii " uncompressed file(s)")

  pub names-line : records_line place (ascii "] SourceNames: ") count (ascii " file(s)\n") ≡ line place (names_line count)
  unfolding ascii
  names-line = counted place count (ascii "SourceNames: ") (ascii " file(s)")

  pub arguments-line : records_line place (ascii "] Arguments: ") count (ascii " pair(s)\n") ≡ line place (arguments_line count)
  unfolding ascii
  arguments-line = counted place count (ascii "Arguments: ") (ascii " pair(s)")

  pub packed-line :
      (bytes : ℕ) →
      records_line place (ascii "] SourceContents: ") count (ascii " zlib file(s), ") ++ (decimal bytes ++ ascii " bytes\n") ≡ line place (packed_line count bytes)
  unfolding ascii
  packed-line bytes = simp append_assoc

-- ---- a line of an unknown kind

pub length-hex : (kind : ℕ) → length (hex 4 kind) ≡ 4
unfolding hex
length-hex kind = refl

pub unknown-stored :
    (place kind bytes : ℕ) (l : List ℕ) (at first next after last : ℕ) →
    first ≡ at + 6 →
    next ≡ first + length (decimal place ++ ascii "] Unknown(0x") →
    after ≡ next + 4 →
    last ≡ next + 7 →
    sets (sets (sets (sets (sets l at (ascii "//   [")) first (decimal place ++ ascii "] Unknown(0x")) next (hex 4 kind)) after (ascii "): ")) last (decimal bytes ++ ascii " bytes\n")
    ≡ sets l at (line place (unknown_line kind bytes))
unfolding ascii
unknown-stored place kind bytes l at first next after last e f g h =
    let head : List ℕ = decimal place ++ ascii "] Unknown(0x" in
    let tail : List ℕ = decimal bytes ++ ascii " bytes\n" in
    let l₁ : List ℕ = sets l at (ascii "//   [") in
    let l₂ : List ℕ = sets l₁ first head in
    let same : ascii "//   [" ++ (head ++ (hex 4 kind ++ (ascii "): " ++ tail))) ≡ line place (unknown_line kind bytes) = simp append_assoc in
    sets-joined (ascii "): ") tail (sets l₂ next (hex 4 kind)) after last (omega arith) ∙
    sets-joined (hex 4 kind) (ascii "): " ++ tail) l₂ next after (omega (arith, length-hex kind)) ∙
    sets-joined head (hex 4 kind ++ (ascii "): " ++ tail)) l₁ first next f ∙
    sets-joined (ascii "//   [") (head ++ (hex 4 kind ++ (ascii "): " ++ tail))) l at first e ∙
    ap (λ (t : List ℕ). sets l at t) same

pub unknown-length : (place kind bytes : ℕ) → length (line place (unknown_line kind bytes)) ≡ 29 + (length (decimal place) + length (decimal bytes)) + 3
unfolding ascii hex
unknown-length place kind bytes = simp length-append (omega arith)

pub ruleset joined = (sets-joined)

pub ruleset records_line_parts = (records-stored, records-length)

pub ruleset whole_lines = (plain-line, packed-line, names-line, arguments-line, sets-joined)

-- ---- a page

lines-append : (place : ℕ) (texts : List (List ℕ)) (text : List ℕ) → lines place (texts ++ text ∷ []) ≡ lines place texts ++ line (place + length texts) text
unfolding lines
lines-append place [] text = rw add-zero (append-nil (line place text))
lines-append place (first ∷ texts) text =
    let next : place + 1 + length texts ≡ place + suc (length texts) = omega arith in
    ap (λ (l : List ℕ). line place first ++ l) (rw next at (lines-append (place + 1) texts text)) ∙
    sym (append_assoc (line place first) (lines (place + 1) texts) (line (place + suc (length texts)) text))

-- no line yet
pub page-none : (count : ℕ) → page_of count [] ≡ heading count
unfolding lines
page-none count = append-nil (heading count)

-- after what is said comes the line of what is said next
pub page-next :
    (count place : ℕ) (said : List Summary) (summary : Summary) →
    place ≡ length said →
    page_of count (said ++ summary ∷ []) ≡ page_of count said ++ line place (summary_line summary)
page-next count place said summary e =
    let texts : List (List ℕ) = map summary_line said in
    let many : 0 + length texts ≡ place = omega (arith, e, length-map said summary_line) in
    let added = rw many at (lines-append 0 texts (summary_line summary)) in
    rw map-append
    (ap (λ (l : List ℕ). heading count ++ l) added ∙ sym (append_assoc (heading count) (lines 0 texts) (line place (summary_line summary))))

-- a heading that counts the lines after it
pub page-counted :
    (said : Found → Option Summary) (p : List ℕ) {count : ℕ} →
    count ≡ length (filter_map said (sections p)) →
    page_of count (filter_map said (sections p)) ≡ page_said said p
unfolding page page_said
page-counted said p e = rw (length-map (filter_map said (sections p)) summary_line, ← e) refl
