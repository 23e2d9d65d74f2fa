-- A span: a text or bytes that a row names, by its side, its start and its count of bytes.
use Rattle.std.specs.Prelude.{ℕ, zero, suc, ◌+◌, Bool, ◌&&◌, List, leb, length, take, drop}
use Rattle.layout.specs.declared.span.Span.{Span}

abbrev pub span : ℕ → ℕ → ℕ → Span
span side start count = record { side = side; start = start; count = count }

-- side 0 is the payload, any other the edit text
unfoldable pub side_of : ℕ → List ℕ → List ℕ → List ℕ
side_of zero payload edit = payload
side_of (suc n) payload edit = edit

-- count bytes from start on; fewer where the bytes end before
abbrev pub part : List ℕ → ℕ → ℕ → List ℕ
part bytes start count = take count (drop start bytes)

-- the bytes that a span names
abbrev pub span_bytes : List ℕ → List ℕ → Span → List ℕ
span_bytes payload edit s = part (side_of s.side payload edit) s.start s.count

-- whether a span's side is 0 or 1, and all its bytes are there
abbrev pub inside : List ℕ → List ℕ → Span → Bool
inside payload edit s = leb s.side 1 && leb (s.start + s.count) (length (side_of s.side payload edit))
