-- Capped numbers: one within its limit is kept, one past it stays past it, and what a capped size is made from may be capped before.
-- Assumes nothing.
use Prim.Native.Nat.{ℕ, ◌+◌, ◌≤◌, ◌<◌}
use mathlib.Core.Bool.{Bool, true, false}
use mathlib.Core.Path.{◌≡◌, refl, ap, ◌∙◌}
use native.Mathlib.Omega.{arith}
use borrow.Author.Tests.{leb-true, leb-false, le-leb, lt-leb}
use lib.Dec.{leb}
use Rattle.wire.specs.Length.{wire_size}
use Rattle.wire.specs.Padding.{aligned}
use Rattle.wire.proofs.PaddingLaws.{le-aligned}
use Rattle.table.specs.declared.tag.Tag.{Tag}
use Rattle.table.specs.declared.tag.Tag.TheVariants.{PlainContents, PackedContents, Names, Arguments, Unknown, Content, Name, Pair}
use Rattle.format.specs.Encoding.{limit}
use Rattle.sizes.specs.Measure.{capped, opened, added}

pub capped_small : (most n : ℕ) → n ≤ most → capped most n ≡ n
unfolding capped
capped_small most n h = rw (le-leb n most h)

capped-large : (most n : ℕ) → most < n → capped most n ≡ most + 1
unfolding capped
capped-large most n h = rw (lt-leb n most h)

-- a capped number within the limit was within it
pub small-capped : (most n : ℕ) → capped most n ≤ most → n ≤ most
small-capped most n h = go (leb n most) refl
  where
    go : (b : Bool) → leb n most ≡ b → n ≤ most
    go true e = leb-true n most e
    go false e = absurd (omega (arith, capped-large most n (leb-false n most e)))

-- to cap twice is to cap once, also where the number grows in between
pub capped-twice : (most n : ℕ) (f : ℕ → ℕ) → ((k : ℕ) → k ≤ f k) → capped most (f (capped most n)) ≡ capped most (f n)
capped-twice most n f grows = go (leb n most) refl
  where
    go : (b : Bool) → leb n most ≡ b → capped most (f (capped most n)) ≡ capped most (f n)
    go true e = ap (λ (k : ℕ). capped most (f k)) (capped_small most n (leb-true n most e))
    go false e =
        let past : most < n = leb-false n most e in
        rw (capped-large most n past, capped-large most (f (most + 1)) (omega (arith, grows (most + 1))), capped-large most (f n) (omega (arith, grows n)))

-- ---- lengths that are capped before the size that they make

pub opened-capped : (t : Tag) (n : ℕ) → capped limit (opened t (capped limit n)) ≡ capped limit (opened t n)
unfolding opened
opened-capped PlainContents n = refl
opened-capped PackedContents n = capped-twice limit n (λ k. 28 + k) (λ k. omega arith)
opened-capped Names n = refl
opened-capped Arguments n = refl
opened-capped Unknown n = capped-twice limit n (λ k. 8 + k) (λ k. omega arith)
opened-capped Content n = refl
opened-capped Name n = refl
opened-capped Pair n = refl

pub added-capped :
    (t : Tag) (current a b : ℕ) → capped limit (current + added t (capped limit a) (capped limit b)) ≡ capped limit (current + added t a b)
unfolding added
added-capped PlainContents current a b = refl
added-capped PackedContents current a b = refl
added-capped Names current a b = refl
added-capped Arguments current a b = refl
added-capped Unknown current a b = refl
added-capped Content current a b = capped-twice limit a (λ k. current + aligned (12 + wire_size k)) (λ k. omega (arith, le-aligned (12 + wire_size k)))
added-capped Name current a b = capped-twice limit a (λ k. current + aligned (16 + wire_size k)) (λ k. omega (arith, le-aligned (16 + wire_size k)))
added-capped Pair current a b =
    capped-twice limit a (λ k. current + (wire_size k + wire_size (capped limit b))) (λ k. omega arith) ∙
    capped-twice limit b (λ k. current + (wire_size a + wire_size k)) (λ k. omega arith)

-- the lengths that a record was given, in place of the capped ones
pub ruleset capped_first = (opened-capped, added-capped)
