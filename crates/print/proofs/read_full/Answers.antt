-- `read_full` meets its contract: what a turn reads stands behind what was read before, in the buffer and in the input.
use Rattle.std.proofs.Common.{◌≡◌, ℕ, ◌+◌, ◌-◌, ◌≤◌, List, rules, ◌++◌, length, take, sym, ap, ap₂, ◌∙◌, subst, le_refl, drop_at, length-take-le}
use Rattle.std.proofs.lemmas.Slice.{take-put_mid_below}
use Rattle.std.specs.Io.KnownBytes.{Consumes}
use Rattle.std.proofs.KnownBytes.{Consumes-trans}
use borrow.Rule.Slice.PartMut.{put_mid, post_of}
use lib.Seq.{take-add, take-append-le}
use Rattle.print.proofs.read_full.Goals as goal

-- the first bytes of a list of which the part from a on was lent and now begins with ys
take-lent : (a k n : ℕ) (xs ys : List ℕ) → a ≤ length xs → n ≤ length ys → take (a + n) (put_mid a k xs ys) ≡ take a xs ++ take n ys
take-lent a k n xs ys within fits =
    let after = post_of a k xs in
    take-add a n (put_mid a k xs ys)
    ∙ ap₂ (λ (l m : List ℕ). l ++ take n m)
    (take-put_mid_below a k xs ys a (le_refl a) within)
    (drop_at (take a xs) (ys ++ after) a (length-take-le a xs within))
    ∙ ap (λ (l : List ℕ). take a xs ++ l) (take-append-le n ys after fits)

pub loop-count-preserved : goal.loop-count-preserved
loop-count-preserved g c =
    let at = c.loop-count in
    let n = c.in_ok-read.read in
    let joined = take-lent at.count (length at.buffer - at.count) n at.buffer c.read.new.buf at.invariant.bound c.in_ok-read.ensures.bound.0 in
    record {
      bound = search rules;
      bytes = subst (Consumes _ _) (sym joined) (Consumes-trans _ _ _ _ _ at.invariant.bytes c.in_ok-read.ensures.bytes.0);
    }
