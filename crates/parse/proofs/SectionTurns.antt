-- The first pass over the sections, turn by turn: what has been passed, and what the section that the reader takes next adds to it.
-- Assumes nothing.
use Rattle.std.specs.Prelude.{Err, Ok}
use Prim.Native.Nat.{ℕ, suc, ◌+◌, ◌-◌, ◌*◌, ◌≤◌, ◌<◌}
use mathlib.Core.List.{List}
use mathlib.Core.Path.{◌≡◌, refl, ap, sym, ◌∙◌}
use native.Mathlib.Nat.{sub-zero, add-zero}
use native.Mathlib.Omega.{arith}
use lib.ListN.{length}
use Rattle.layout.specs.Checked.{Checked}
use Rattle.layout.specs.declared.refusal.Refusal.{Refusal}
use Rattle.layout.specs.declared.refusal.Refusal.TheVariants.{Leftover}
use Rattle.format.proofs.FrameLaws.{frame-good}
use Rattle.format.proofs.RowCount.{section-count}
use Rattle.format.proofs.SectionTests.{sections-end, sections-left, sections-unframed, sections-refused}
use Rattle.format.specs.Encoding.{limit}
use Rattle.format.specs.Parse.{frame, kind_at, parse_section, parse_sections}
use Rattle.section_reader.proofs.Taken.{Header, section-found}
use Rattle.section_reader.specs.Section.{place_after, taken}
use Rattle.table.specs.declared.row.Row.{Row}
use Rattle.section_reader.specs.declared.section.Section.{Section}
use Rattle.parse.specs.Outcome.{counted}
use Rattle.parse.proofs.Count.{add, add_none, add-add}
use Rattle.layout.proofs.Checked.{taking-ok, taking-err}
use Rattle.parse.proofs.SectionCount.{sections-more}

-- a section's rows are at most half of its bytes
pub half-of-size : (p : List ℕ) (s : Section) (more : ℕ) → 8 ≤ s.size → counted (parse_section s.kind p s.at s.size) ≡ Ok more → 2 * more ≤ s.size
half-of-size p s more least e =
    let (first, good-body, counts) = taking-ok length _ more e in
    omega (arith, section-count p s.at s.size first s.kind least good-body, counts)

-- the section that the reader takes is in the payload
module _ (p : List ℕ) (at : ℕ) (s : Section) (e : taken p at ≡ Ok s) where
  header : Header p at (frame p at) s
  header = section-found p at (frame p at) s e

  pub inside : (8 ≤ s.size) × (s.at + s.size ≤ length p)
  inside =
      let told = frame-good p at s.size header.sized in
      (told.least, omega (arith, told.within, header.placed))

module _ (p : List ℕ) (count : ℕ) where
  -- what is to be answered
  abbrev pub Right : Checked ℕ → Type 0
  Right d = d ≡ counted (parse_sections count p 8)

  -- so many sections are done and so many rows counted, up to a place. The rows, added to those of the sections that are left, are those of
  -- all; and they are at most half of the bytes passed, so that their number fits.
  pub record Passed (at rows done : ℕ) : Type 0 where
    pub within : at ≤ length p
    pub half : 8 + 2 * rows ≤ at
    pub rest : counted (parse_sections count p 8) ≡ add rows (counted (parse_sections (count - done) p at))

  pub begins : 8 ≤ length p → Passed 8 0 0
  begins h = record {
    within = h;
    half = omega arith;
    rest = sym (add_none _ ∙ ap (λ (n : ℕ). counted (parse_sections n p 8)) (sub-zero count));
  }

  module _ (at rows done : ℕ) (so : Passed at rows done) where
    pub rows-bounded : length p ≤ limit → rows ≤ limit
    rows-bounded h = omega (arith, h, so.within, so.half)

    -- in a turn one section more is left than after it
    module _ (less : done < count) where
      abbrev left : ℕ
      left = count - (done + 1)

      turn : counted (parse_sections count p 8) ≡ add rows (counted (parse_sections (suc left) p at))
      turn =
          let one : count - done ≡ suc left = omega (arith, less) in
          so.rest ∙ ap (λ (n : ℕ). add rows (counted (parse_sections n p at))) one

      -- a fault of a header, or of what a section holds, is that of the payload
      pub stops-at-header : (refusal : Refusal) → taken p at ≡ Err refusal → Right (Err refusal)
      stops-at-header refusal e =
          sym (turn ∙ ap (λ s. add rows (counted s)) (sections-unframed p at left (taking-err _ (frame p at) refusal e)))

      module _ (s : Section) (e : taken p at ≡ Ok s) where
        -- the section as the definition of reading has it
        abbrev body : Checked (List Row)
        body = parse_section (kind_at p at) p at s.size

        same : parse_section s.kind p s.at s.size ≡ body
        same = let h = header p at s e in rw (h.placed, h.of-kind) refl

        pub stops : (refusal : Refusal) → counted (parse_section s.kind p s.at s.size) ≡ Err refusal → Right (Err refusal)
        stops refusal f =
            let fault = taking-err length body refusal (ap counted (sym same) ∙ f) in
            sym (turn ∙ ap (λ s. add rows (counted s)) (sections-refused p at left s.size (header p at s e).sized fault))

        -- a section's rows are added
        pub goes_on : (more : ℕ) → counted (parse_section s.kind p s.at s.size) ≡ Ok more → Passed (place_after at (frame p at)) (rows + more) (done + 1)
        goes_on more f =
            let h = header p at s e in
            let told = frame-good p at s.size h.sized in
            let (first, good-body, counts) = taking-ok length body more (ap counted (sym same) ∙ f) in
            let bound = half-of-size p s more (inside p at s e).0 f in
            rw h.sized
            (record {
              within = told.within;
              half = omega (arith, so.half, bound);
              rest =
                  turn
                  ∙ ap (add rows) (sections-more p at left s.size first h.sized good-body)
                  ∙ add-add rows (length first) (counted (parse_sections left p (at + s.size)))
                  ∙ ap (λ (k : ℕ). add (rows + k) (counted (parse_sections left p (at + s.size)))) counts;
            })

        pub rows-fit : (more : ℕ) → counted (parse_section s.kind p s.at s.size) ≡ Ok more → length p ≤ limit → rows + more ≤ limit
        rows-fit more f h =
            let told = frame-good p at s.size (header p at s e).sized in
            omega (arith, h, told.within, so.half, half-of-size p s more (inside p at s e).0 f)

    -- when all are done, nothing may be left
    module _ (over : count ≤ done) where
      finished : counted (parse_sections count p 8) ≡ add rows (counted (parse_sections 0 p at))
      finished =
          let none : count - done ≡ 0 = omega (arith, over) in
          so.rest ∙ ap (λ (n : ℕ). add rows (counted (parse_sections n p at))) none

      pub leaves : at < length p → Right (Err Leftover)
      leaves h = sym (finished ∙ ap (λ s. add rows (counted s)) (sections-left _ _ (λ e. omega (arith, h, e))))

      pub reaches : length p ≤ at → Right (Ok rows)
      reaches h = sym (finished ∙ ap (λ s. add rows (counted s)) (sections-end _ _ (omega (arith, h, so.within))) ∙ ap Ok (add-zero rows))
