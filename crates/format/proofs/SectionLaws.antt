-- What a section of each kind, a run of sections and a payload say where they are good: where their parts end, and whose rows theirs are. And a
-- section is good where all of that holds.
-- Assumes nothing.
use Rattle.std.specs.Prelude.{Ok}
use Prim.Native.Nat.{ℕ, zero, suc, ◌+◌, ◌≤◌}
use mathlib.Core.List.{List, [], ◌∷◌, ◌++◌}
use mathlib.Core.Path.{◌≡◌, refl}
use native.Mathlib.Omega.{arith}
use borrow.Author.Tests.{leb-true, eqb-true, le-leb, eq-eqb}
use lib.Dec.{eqb, leb}
use lib.ListN.{length}
use Rattle.wire.specs.Number.{u16_at, u32_at}
use Rattle.layout.specs.Checked.{Checked, check, then}
use Rattle.layout.specs.declared.refusal.Refusal.TheVariants.{Short, Flag}
use Rattle.format.specs.Encoding.{limit}
use Rattle.layout.specs.Kinds.{checked_compression}
use Rattle.layout.specs.declared.compression.SourceCompression.TheVariants.{None}
use Rattle.table.specs.Rows.{plain_row, names_row, arguments_row}
use Rattle.table.specs.declared.row.Row.{Row}
use Rattle.format.specs.Parse.{framed, entries, pairs, name_row_at, content_row_at, parse_arguments, parse_names, parse_stored, parse_contents, parse_section, kind_at, parse_sections, parse}
use Rattle.format.proofs.FrameLaws.{Frame, frame-good, Framed, framed-good, framed-found}
use Rattle.layout.proofs.Checked.{check-good, then-good, check-passes, then-passes}

-- a section's rows: its own, and then those of what it holds
pub record Headed (head : Row) (held : Checked (List Row)) (rs : List Row) : Type 0 where
  pub rest : List Row
  pub found : held ≡ Ok rest
  pub all : rs ≡ head ∷ rest

headed : (head : Row) (held : Checked (List Row)) (rs : List Row) → then held (λ rows. Ok (head ∷ rows)) ≡ Ok rs → Headed head held rs
headed head held rs e =
    let a = then-good _ _ _ e in
    let found = a.2 in
    record {
      rest = a.0;
      found = a.1;
      all = cc;
    }

-- a section whose flags stand after its header, as those of names and of arguments do, with so many bytes of headers and of what it stores
module _ (p : List ℕ) (at size headers bytes : ℕ) (head : Row) (held : Checked (List Row)) where
  abbrev flagged : Checked (List Row)
  flagged =
      check (leb headers size) Short (λ _.
      check (eqb (u32_at p (at + 8)) 0) Flag (λ _.
      then (framed p at size headers bytes) (λ _.
      then held (λ rows.
      Ok (head ∷ rows)))))

  flagged-good : (rs : List Row) → flagged ≡ Ok rs → Framed p at size headers bytes × Headed head held rs × (u32_at p (at + 8) ≡ 0)
  flagged-good rs e =
      let long = check-good _ _ _ _ e in
      let no-flags = check-good _ _ _ _ long.1 in
      let (done, frame, found) = then-good _ _ _ no-flags.1 in
      (framed-good p at size headers bytes frame, headed head held rs found, eqb-true _ _ no-flags.0)

  flagged-found : {rest : List Row} → Framed p at size headers bytes → u32_at p (at + 8) ≡ 0 → held ≡ Ok rest → flagged ≡ Ok (head ∷ rest)
  flagged-found frame flags found =
      check-passes _ _ _ (le-leb headers size (omega (arith, frame.within)))
      (check-passes _ _ _ (eq-eqb (u32_at p (at + 8)) 0 flags)
      (then-passes _ _ (framed-found p at size headers bytes frame) (then-passes _ _ found refl)))

module _ (p : List ℕ) (at : ℕ) where
  -- ---- contents

  module _ (size : ℕ) (rs : List Row) where
    pub contents-good :
        parse_contents p at size ≡ Ok rs →
        Framed p at size 28 (u32_at p (at + 16))
        × (parse_stored (checked_compression (u16_at p (at + 14))) p at ≡ Ok rs)
        × (u16_at p (at + 12) ≡ 0)
        × (u16_at p (at + 14) ≤ 1)
    unfolding parse_contents
    contents-good e =
        let long = check-good _ _ _ _ e in
        let no-flags = check-good _ _ _ _ long.1 in
        let known = check-good _ _ _ _ no-flags.1 in
        let (done, frame, found) = then-good _ _ _ known.1 in
        (framed-good p at size 28 (u32_at p (at + 16)) frame, found, eqb-true _ _ no-flags.0, leb-true _ _ known.0)

    pub contents-found :
        Framed p at size 28 (u32_at p (at + 16)) →
        u16_at p (at + 12) ≡ 0 →
        u16_at p (at + 14) ≤ 1 →
        parse_stored (checked_compression (u16_at p (at + 14))) p at ≡ Ok rs →
        parse_contents p at size ≡ Ok rs
    unfolding parse_contents
    contents-found frame flags known found =
        check-passes _ _ _ (le-leb 28 size (omega (arith, frame.within)))
        (check-passes _ _ _ (eq-eqb (u16_at p (at + 12)) 0 flags)
        (check-passes _ _ _ (le-leb (u16_at p (at + 14)) 1 known) (then-passes _ _ (framed-found p at size 28 _ frame) found)))

  abbrev pub plain_entries : Checked (List Row)
  plain_entries = entries 12 content_row_at (u32_at p (at + 24)) p (at + 28) (at + 28 + u32_at p (at + 16))

  pub plain-equal : (rs : List Row) → parse_stored None p at ≡ Ok rs → u32_at p (at + 20) ≡ u32_at p (at + 16)
  unfolding parse_stored
  plain-equal rs e = eqb-true _ _ (check-good _ _ _ _ e).0

  pub plain-good : (rs : List Row) → parse_stored None p at ≡ Ok rs → Headed (plain_row (u32_at p (at + 8))) plain_entries rs
  unfolding parse_stored
  plain-good rs e = headed (plain_row (u32_at p (at + 8))) plain_entries rs (check-good _ _ _ _ e).1

  pub plain-found :
      {rest : List Row} →
      u32_at p (at + 20) ≡ u32_at p (at + 16) →
      plain_entries ≡ Ok rest →
      parse_stored None p at ≡ Ok (plain_row (u32_at p (at + 8)) ∷ rest)
  unfolding parse_stored
  plain-found equal found = check-passes _ _ _ (eq-eqb (u32_at p (at + 20)) (u32_at p (at + 16)) equal) (then-passes _ _ found refl)

  -- ---- names

  abbrev pub name_entries : Checked (List Row)
  name_entries = entries 16 (name_row_at p) (u32_at p (at + 12)) p (at + 18) (at + 18 + u16_at p (at + 16))

  module _ (size : ℕ) where
    pub names-good :
        (rs : List Row) →
        parse_names p at size ≡ Ok rs →
        Framed p at size 18 (u16_at p (at + 16)) × Headed (names_row) name_entries rs × (u32_at p (at + 8) ≡ 0)
    unfolding parse_names
    names-good = flagged-good p at size 18 (u16_at p (at + 16)) names_row name_entries

    pub names-found :
        {rest : List Row} →
        Framed p at size 18 (u16_at p (at + 16)) →
        u32_at p (at + 8) ≡ 0 →
        name_entries ≡ Ok rest →
        parse_names p at size ≡ Ok (names_row ∷ rest)
    unfolding parse_names
    names-found = flagged-found p at size 18 (u16_at p (at + 16)) names_row name_entries

  -- ---- arguments

  abbrev pub argument_pairs : Checked (List Row)
  argument_pairs = pairs (u32_at p (at + 16)) p (at + 20) (at + 20 + u32_at p (at + 12))

  module _ (size : ℕ) where
    pub arguments-good :
        (rs : List Row) →
        parse_arguments p at size ≡ Ok rs →
        Framed p at size 20 (u32_at p (at + 12)) × Headed (arguments_row) argument_pairs rs × (u32_at p (at + 8) ≡ 0)
    unfolding parse_arguments
    arguments-good = flagged-good p at size 20 (u32_at p (at + 12)) arguments_row argument_pairs

    pub arguments-found :
        {rest : List Row} →
        Framed p at size 20 (u32_at p (at + 12)) →
        u32_at p (at + 8) ≡ 0 →
        argument_pairs ≡ Ok rest →
        parse_arguments p at size ≡ Ok (arguments_row ∷ rest)
    unfolding parse_arguments
    arguments-found = flagged-found p at size 20 (u32_at p (at + 12)) arguments_row argument_pairs

-- ---- sections

-- the first of some sections, and those after it
pub record Section (p : List ℕ) (at count : ℕ) (rs : List Row) : Type 0 where
  pub frame : Frame p at (u32_at p at)
  pub header : 8 ≤ u32_at p at
  pub within : at + u32_at p at ≤ length p
  pub first : List Row
  pub first_good : parse_section (kind_at p at) p at (u32_at p at) ≡ Ok first
  pub rest : List Row
  pub rest-good : parse_sections count p (at + u32_at p at) ≡ Ok rest
  pub all : rs ≡ first ++ rest

pub sections-good : (p : List ℕ) (at count : ℕ) (rs : List Row) → parse_sections (suc count) p at ≡ Ok rs → Section p at count rs
unfolding parse_sections
sections-good p at count rs e =
    let framed = then-good _ _ _ e in
    let told = frame-good p at framed.0 framed.1 in
    let this = then-good _ _ _ (rw told.is at framed.2) in
    let others = then-good _ _ _ this.2 in
    let found = others.2 in
    record {
      frame = rw told.is at told;
      header = omega (arith, told.least, told.is);
      within = omega (arith, told.within, told.is);
      first = this.0;
      first_good = this.1;
      rest = others.0;
      rest-good = others.1;
      all = cc;
    }

-- after the last section nothing is left
pub sections-end : (p : List ℕ) (at : ℕ) (rs : List Row) → parse_sections zero p at ≡ Ok rs → (at ≡ length p) × (rs ≡ [])
unfolding parse_sections
sections-end p at rs e =
    let a = check-good _ _ _ _ e in
    let found = a.1 in
    (eqb-true at (length p) a.0, cc)

-- ---- a payload

pub parse-good :
    (p : List ℕ) (rs : List Row) →
    parse p ≡ Ok rs →
    (length p ≤ limit) × (parse_sections (u16_at p 6) p 8 ≡ Ok rs) × (8 ≤ length p) × (u32_at p 0 ≡ length p) × (u16_at p 4 ≡ 0)
unfolding parse
parse-good p rs e =
    let within = check-good _ _ _ _ e in
    let long = check-good _ _ _ _ within.1 in
    let whole = check-good _ _ _ _ long.1 in
    let sized = check-good _ _ _ _ whole.1 in
    let no-flags = check-good _ _ _ _ sized.1 in
    (leb-true (length p) limit within.0, no-flags.1, leb-true 8 (length p) long.0, eqb-true _ _ sized.0, eqb-true _ _ no-flags.0)
