-- What the field writers use: the letter of a byte that is escaped, a run of bytes that stand for themselves, and the pairs of digits of bytes.
-- Assumes nothing.
use Prim.Native.Nat.{ℕ, ◌+◌, ◌*◌, ◌≤◌, ◌<◌}
use mathlib.Core.Bool.{Bool, true, false, cond, ◌||◌}
use mathlib.Core.List.{List, [], ◌∷◌, ◌++◌, flat_map}
use mathlib.Core.Path.{◌≡◌, refl, sym, ap, ap₂, ◌∙◌}
use native.Mathlib.Numerals.{add-one}
use native.Mathlib.Omega.{arith}
use borrow.Author.Tests.{eqb-true}
use lib.Dec.{eqb}
use lib.ListN.{length, get_or, take, drop, drop_of_length-le, length-append, take-append-drop}
use lib.Seq.{sets, drop-cons, length-take-le}
use borrow.Rule.Slice.PartMut.{put_mid}
use Rattle.std.proofs.lemmas.List.{take_more}
use Rattle.layout.proofs.Lists.{flat_map-append}
use Rattle.wire.proofs.Sets.{sets-joined, sets-whole, sets-within}
use Rattle.sheet.proofs.SheetSize.{length-hex_pairs}
use Rattle.find.specs.Find.{until, is_any}
use Rattle.find.proofs.Rest.{from, from-is}
use Rattle.find.proofs.FindLaws.{until-found, until-more, until-least, until-step}
use Rattle.std.specs.Prelude.{Some, None}
use Rattle.sheet.specs.Fields.{tab, newline, backslash, hex_pair, hex_pairs, escaped, escape}
use Rattle.field_writer.specs.Letters.{letter_of}

-- ---- letters

-- a byte with a letter is written with it
pub some-letter : (b second : ℕ) → letter_of b ≡ Some second → escaped b ≡ backslash ∷ second ∷ []
some-letter b second h = go (eqb b tab) (eqb b newline) (eqb b backslash) refl refl refl h
  where
    written : (n c : ℕ) → b ≡ n → escaped n ≡ backslash ∷ c ∷ [] → Some c ≡ Some second → escaped b ≡ backslash ∷ second ∷ []
    written n c is e f = let same : c ≡ second = cc in rw (is, ← same) e

    go :
        (x y z : Bool) → eqb b tab ≡ x → eqb b newline ≡ y → eqb b backslash ≡ z →
        cond x (Some 116) (cond y (Some 110) (cond z (Some backslash) None)) ≡ Some second →
        escaped b ≡ backslash ∷ second ∷ []
    go true y z e f g h = written tab 116 (eqb-true b tab e) refl h
    go false true z e f g h = written newline 110 (eqb-true b newline f) refl h
    go false false true e f g h = written backslash backslash (eqb-true b backslash g) refl h
    go false false false e f g h = cc

-- the bytes that have one
abbrev pub sought : List ℕ
sought = backslash ∷ tab ∷ newline ∷ []

-- any other stands for itself
pub no-letter : (b : ℕ) → letter_of b ≡ None → is_any sought b ≡ false
no-letter b h = go (eqb b tab) (eqb b newline) (eqb b backslash) h
  where
    go :
        (x y z : Bool) →
        cond x (Some 116) (cond y (Some 110) (cond z (Some backslash) None)) ≡ None →
        (z || (x || (y || false))) ≡ false
    go true y z h = cc
    go false true z h = cc
    go false false true h = cc
    go false false false h = refl

-- ---- runs

-- a byte that is not escaped
itself : (b : ℕ) → is_any sought b ≡ false → escaped b ≡ b ∷ []
itself b h = go (eqb b backslash) (eqb b tab) (eqb b newline) h
  where
    go : (x y z : Bool) → (x || (y || (z || false))) ≡ false → cond x (backslash ∷ 92 ∷ []) (cond y (backslash ∷ 116 ∷ []) (cond z (backslash ∷ 110 ∷ []) (b ∷ []))) ≡ b ∷ []
    go true y z e = absurd cc
    go false true z e = absurd cc
    go false false true e = absurd cc
    go false false false e = refl

-- bytes up to one that is escaped stand for themselves
pub escape-run : (s : List ℕ) → (let n : ℕ = until (is_any sought) s in escape s ≡ take n s ++ escape (drop n s))
unfolding escape flat_map
escape-run [] = unfold until in refl
escape-run (b ∷ s) = go (is_any sought b) refl (escape-run s)
  where
    n : List ℕ → ℕ
    n t = until (is_any sought) t

    go :
        (is : Bool) →
        is_any sought b ≡ is →
        escape s ≡ take (n s) s ++ escape (drop (n s) s) →
        escape (b ∷ s) ≡ take (n (b ∷ s)) (b ∷ s) ++ escape (drop (n (b ∷ s)) (b ∷ s))
    go true e h = rw (until-found (is_any sought) b s e)
    go false e h =
        rw (until-more (is_any sought) b s e)
        (ap₂ (λ (x y : List ℕ). x ++ y) (itself b e) h)

-- ---- pairs of digits

-- those of one byte more
pub pairs-more : (bytes : List ℕ) (i : ℕ) → i < length bytes → hex_pairs (take (i + 1) bytes) ≡ hex_pairs (take i bytes) ++ hex_pair (get_or bytes i 0)
unfolding hex_pairs flat_map
pairs-more bytes i h = rw (take_more bytes i 0 h) (flat_map-append hex_pair (take i bytes) (get_or bytes i 0 ∷ []))

-- those of the first bytes, in a part of their length
pub pairs-fit :
    (bytes to output : List ℕ) (at w k : ℕ) →
    to ≡ hex_pairs (take w bytes) →
    w ≤ length bytes →
    k ≡ 2 * w →
    at + k ≤ length output →
    put_mid at k output to ≡ sets output at (hex_pairs (take w bytes))
pairs-fit bytes to output at w k e h same room =
    let long : length (hex_pairs (take w bytes)) ≡ 2 * w = omega (arith, length-hex_pairs (take w bytes), length-take-le w bytes h) in
    sets-whole to (hex_pairs (take w bytes)) output at k e (omega arith) room

-- and the pair that the output ends within, after which nothing is stored
pub pairs-cut :
    (bytes l output : List ℕ) (at w : ℕ) →
    w < length bytes →
    length output < at + 2 * w + 2 →
    l ≡ sets output at (hex_pairs (take w bytes)) →
    sets l (at + 2 * w) (hex_pair (get_or bytes w 0)) ≡ sets output at (hex_pairs bytes)
unfolding hex_pairs
pairs-cut bytes l output at w h end e =
    let first : List ℕ = hex_pairs (take w bytes) in
    let pair : List ℕ = hex_pair (get_or bytes w 0) in
    let others : List ℕ = hex_pairs (drop (w + 1) bytes) in
    let long : length first ≡ 2 * w = omega (arith, length-hex_pairs (take w bytes), length-take-le w bytes (omega arith)) in
    let whole : (first ++ pair) ++ others ≡ hex_pairs bytes =
    ap (λ (s : List ℕ). s ++ others) (sym (pairs-more bytes w h)) ∙ sym (flat_map-append hex_pair (take (w + 1) bytes) (drop (w + 1) bytes)) ∙ ap hex_pairs (take-append-drop (w + 1) bytes) in
    let room : length output ≤ at + length (first ++ pair) = omega (arith, length-append first pair, long) in
    rw (e, ← whole) (sets-joined first pair output at (at + 2 * w) (omega (arith, long)) ∙ sym (sets-within (first ++ pair) others output at room))

-- ---- from a place on

pub pairs_next : (s : List ℕ) (i : ℕ) → i < length s → hex_pairs (drop i s) ≡ hex_pair (get_or s i 0) ++ hex_pairs (drop (i + 1) s)
unfolding hex_pairs flat_map
pairs_next s i h = rw (add-one, drop-cons s i 0 h)

pub pairs_end_lem : (s : List ℕ) (i : ℕ) → length s ≤ i → hex_pairs (drop i s) ≡ []
unfolding hex_pairs flat_map
pairs_end_lem s i h = rw (drop_of_length-le s h)

-- ---- the rest of a text

pub escape-next : (s : List ℕ) → 1 ≤ length s → escape s ≡ escaped (get_or s 0 0) ++ escape (from 1 s)
unfolding escape flat_map
escape-next [] h = absurd (omega arith)
escape-next (b ∷ s) h = rw from-is

pub escape_end : (s : List ℕ) → length s < 1 → escape s ≡ []
unfolding escape flat_map
escape_end [] h = refl
escape_end (b ∷ s) h = absurd (omega arith)

-- the run that is found where the first byte stands for itself
abbrev pub run_of : List ℕ → ℕ
run_of s = until (is_any sought) s

-- it has a byte, and lies within the text
pub run-within : (s : List ℕ) → 1 ≤ length s → letter_of (get_or s 0 0) ≡ None → (1 ≤ run_of s) × (run_of s ≤ length s)
run-within s h none =
    let p : ℕ → Bool = is_any sought in
    let least = until-step p s 0 h (no-letter (get_or s 0 0) none) in
    (omega arith, until-least p s)

-- and its bytes stand for themselves
pub run-stands : (s : List ℕ) → escape s ≡ take (run_of s) s ++ escape (from (run_of s) s)
run-stands s = rw from-is (escape-run s)
