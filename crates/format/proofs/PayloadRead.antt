-- The encoding of well-formed sections within the limits is accepted, and its rows are theirs.
-- Assumes nothing.
use Rattle.std.specs.Prelude.{Ok}
use Prim.Native.Nat.{ℕ, ◌+◌, ◌%◌, ◌≤◌}
use mathlib.Core.Bool.{true, and-eq-true_iff}
use mathlib.Core.List.{List, [], ◌∷◌, ◌++◌, flat_map}
use mathlib.Core.Path.{◌≡◌, refl, sym, ◌∙◌}
use native.Mathlib.Omega.{arith}
use borrow.Author.Tests.{le-leb, eq-eqb}
use lib.ListN.{length, length-append}
use Rattle.wire.specs.Number.{u16_at, u32_at}
use Rattle.wire.specs.Padding.{aligned}
use Rattle.layout.proofs.Checked.{check-passes, then-passes}
use Rattle.format.specs.Encoding.{u16, u32, limit, encode_section, encode, all_countable, within_limits}
use Rattle.format.specs.Parse.{parse_sections, parse}
use Rattle.format.specs.Sections.{Section}
use Rattle.format.specs.WellFormed.{All, WellFormed}
use Rattle.format.proofs.BodiesRead.{read-section}
use Rattle.format.proofs.Encoding.{limits-good, length-encode, encode-multiple, encode-least}
use Rattle.format.proofs.FrameLaws.{frame_found}
use Rattle.format.proofs.PlacedRows.{rows_from}
use Rattle.format.proofs.SectionBytes.{filled, length-section}
use Rattle.format.proofs.Stands.{Stands, stands-all, stands-first, stands-next, stands-number}

read-sections :
    (p : List ℕ) →
    length p ≤ limit →
    (ss : List Section) (at : ℕ) →
    All WellFormed ss →
    all_countable ss ≡ true →
    at + length (flat_map encode_section ss) ≡ length p →
    Stands p at (flat_map encode_section ss) →
    parse_sections (length ss) p at ≡ Ok (rows_from at ss)
unfolding parse_sections flat_map rows_from all_countable
read-sections p small [] at ok fit ends stand = check-passes _ _ _ (eq-eqb at (length p) (omega arith)) refl
read-sections p small (s ∷ ss) at (ok, oks) fit ends stand =
    let (this, others) = simp and-eq-true_iff at fit in
    let size : ℕ = aligned (filled s) in
    let spans : length (encode_section s) ≡ size = length-section s in
    let sum = length-append (encode_section s) (flat_map encode_section ss) in
    let (frame, found) = read-section p small at s ok this (omega arith) (stands-first p at (encode_section s) (flat_map encode_section ss) stand) in
    let rest = read-sections p small ss (at + size) oks others (omega arith) (stands-next p at (encode_section s) (flat_map encode_section ss) (at + size) (omega arith) stand) in
    then-passes _ _ (frame_found p at size frame) (then-passes _ _ found (then-passes _ _ rest (rw spans)))

-- the numbers of the main header, and the sections after it
pub main-header :
    (ss : List Section) →
    within_limits ss ≡ true →
    (let p : List ℕ = encode ss in
    (u32_at p 0 ≡ length p) × (u16_at p 4 ≡ 0) × (u16_at p 6 ≡ length ss) × Stands p 8 (flat_map encode_section ss))
main-header ss fit =
    let (few, all_fit, small) = limits-good ss fit in
    let p : List ℕ = encode ss in
    let size = length-encode ss in
    let bytes : List ℕ = flat_map encode_section ss in
    let whole : Stands p 0 (u32 (8 + length bytes) ++ (u16 0 ++ (u16 (length ss) ++ bytes))) = unfold encode in stands-all (encode ss) in
    let (long, h₁) = stands-number p 4 0 4 (8 + length bytes) _ (omega arith) (omega arith) whole in
    let (flags, h₂) = stands-number p 2 4 6 0 _ (omega arith) (omega arith) h₁ in
    let (many, h₃) = stands-number p 2 6 8 (length ss) _ (omega arith) (omega (arith, few)) h₂ in
    (long ∙ sym size, flags, many, h₃)

pub read-payload : (ss : List Section) → All WellFormed ss → within_limits ss ≡ true → parse (encode ss) ≡ Ok (rows_from 8 ss)
unfolding parse
read-payload ss ok fit =
    let (few, all_fit, small) = limits-good ss fit in
    let (long, flags, many, stand) = main-header ss fit in
    let p : List ℕ = encode ss in
    check-passes _ _ _ (le-leb (length p) limit small)
    (check-passes _ _ _ (le-leb 8 (length p) (encode-least ss))
    (check-passes _ _ _ (eq-eqb (length p % 4) 0 (encode-multiple ss))
    (check-passes _ _ _ (eq-eqb (u32_at p 0) (length p) long)
    (check-passes _ _ _ (eq-eqb (u16_at p 4) 0 flags)
    (rw many (read-sections p small ss 8 ok all_fit (sym (length-encode ss)) stand))))))
