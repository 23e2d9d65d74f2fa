-- Words: each is read as its tag, and what is read as a tag is its word.
-- Assumes nothing.
use Rattle.std.specs.Prelude.{Some}
use Prim.Native.Nat.{ℕ}
use mathlib.Core.Bool.{Bool, true, false, cond, not, ◌&&◌, and-eq-true_iff}
use mathlib.Core.List.{List, [], ◌∷◌}
use mathlib.Core.Path.{◌≡◌, refl, sym, ap₂}
use borrow.Author.Tests.{eqb-true, not-true}
use lib.Dec.{eqb}
use Rattle.std.proofs.lemmas.Option.{none-some}
use Rattle.table.specs.declared.tag.Tag.{Tag}
use Rattle.table.specs.declared.tag.Tag.TheVariants as tag
use Rattle.format.specs.Display.{ascii}
use Rattle.sheet.specs.Fields.{tab, newline, all}
use Rattle.sheet.specs.Lines.{word, same, tag_among, tags, tag_of_word}
use Rattle.sheet.proofs.Codec.{Within}

-- ---- from a tag to its word

pub word_read : (t : Tag) → tag_of_word (word t) ≡ Some t
unfolding ascii same tag_among
word_read tag.PlainContents = refl
word_read tag.PackedContents = refl
word_read tag.Names = refl
word_read tag.Arguments = refl
word_read tag.Unknown = refl
word_read tag.Content = refl
word_read tag.Name = refl
word_read tag.Pair = refl

-- a test that computes
is_within : List ℕ → Bool
is_within s = all (λ (b : ℕ). not (eqb b tab) && not (eqb b newline)) s

within : (s : List ℕ) → is_within s ≡ true → Within s
unfolding is_within all
within [] e = (tt, tt)
within (b ∷ s) e =
    let (this, rest) = (and-eq-true_iff (not (eqb b tab) && not (eqb b newline)) (is_within s)).0 e in
    let (t, n) = (and-eq-true_iff (not (eqb b tab)) (not (eqb b newline))).0 this in
    let (ts, ns) = within s rest in
    ((not-true (eqb b tab) t, ts), (not-true (eqb b newline) n, ns))

pub word-within : (t : Tag) → Within (word t)
unfolding ascii is_within all
word-within tag.PlainContents = within (word tag.PlainContents) refl
word-within tag.PackedContents = within (word tag.PackedContents) refl
word-within tag.Names = within (word tag.Names) refl
word-within tag.Arguments = within (word tag.Arguments) refl
word-within tag.Unknown = within (word tag.Unknown) refl
word-within tag.Content = within (word tag.Content) refl
word-within tag.Name = within (word tag.Name) refl
word-within tag.Pair = within (word tag.Pair) refl

-- ---- from a word to its tag

pub same-is : (s t : List ℕ) → same s t ≡ true → s ≡ t
unfolding same
same-is [] [] e = refl
same-is [] (b ∷ t) e = absurd cc
same-is (a ∷ s) [] e = absurd cc
same-is (a ∷ s) (b ∷ t) e =
    let (this, rest) = (and-eq-true_iff (eqb a b) (same s t)).0 e in
    ap₂ (λ (x : ℕ) (l : List ℕ). x ∷ l) (eqb-true a b this) (same-is s t rest)

among : (ts : List Tag) (w : List ℕ) (t : Tag) → tag_among ts w ≡ Some t → word t ≡ w
unfolding tag_among
among [] w t e = absurd (none-some t e)
among (u ∷ ts) w t e = go (same w (word u)) refl e (among ts w t)
  where
    go : (is : Bool) → same w (word u) ≡ is → cond is (Some u) (tag_among ts w) ≡ Some t → (tag_among ts w ≡ Some t → word t ≡ w) → word t ≡ w
    go true is e others = let own : u ≡ t = cc in rw own at (sym (same-is w (word u) is))
    go false is e others = others e

pub word-again : (w : List ℕ) (t : Tag) → tag_of_word w ≡ Some t → word t ≡ w
word-again w t e = among tags w t e
