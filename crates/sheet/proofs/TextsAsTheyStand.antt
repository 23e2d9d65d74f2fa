-- Texts as they stand. Escapes and what they stand for are ASCII and no NUL, so a field whose backslashes begin escapes is UTF-8 just where the text
-- is that it resolves to, and has a NUL just where that has one.
-- Assumes nothing.
use Rattle.utf8.specs.declared.Utf8Error.{Utf8Error}
use Rattle.std.specs.Prelude.{Err, Result, Ok}
use Prim.Native.Nat.{ℕ, zero, suc, ◌+◌, ◌≤◌, ◌<◌}
use mathlib.Core.Bool.{Bool, true, false, ◌&&◌, ◌||◌, and-eq-true_iff}
use mathlib.Core.List.{List, [], ◌∷◌}
use mathlib.Core.Path.{◌≡◌, refl, sym, ap, ◌∙◌}
use native.Mathlib.Omega.{arith}
use borrow.Author.Tests.{leb-true, lt-leb}
use lib.Dec.{leb, eqb, leb-zero, leb-suc-suc, eqb-suc-zero}
use lib.ListN.{length, drop}
use Rattle.utf8.specs.Classes.{class_of, length_after}
use Rattle.utf8.specs.Rfc3629.{Range, alternatives, within, begins, first_length, char_length, octets_from, utf8_of, well_formed, ill_formed}
use Rattle.utf8.proofs.Alternatives.{length_at, class-length}
use Rattle.utf8.proofs.Laws.{well-formed, not-well-formed}
use Rattle.find.specs.Find.{until, is_any}
use Rattle.find.specs.Nul.{until_nul, has_nul}
use Rattle.find.proofs.FindLaws.{any-one, until-more}
use Rattle.layout.specs.TextCheck.{check_whole}
use Rattle.sheet.specs.Fields.{tab, newline, backslash, meant, is_escaped, unescape}
use Rattle.sheet.proofs.Escapes.{Escape, of_tab, of_newline, of_backslash, known-escape, Field, none, byte, pair, field, plain-means, escape-means}

-- ---- the rest of a character: ranges above ASCII

high : List Range → Bool
high [] = true
high (r ∷ rs) = leb 0x80 r.low && high rs

-- of each alternative the ranges after the first
all_high : List (List Range) → Bool
unfolding high
all_high [] = true
all_high (rs ∷ rest) = high (drop 1 rs) && all_high rest

low-not-within : (r : Range) (rs : List Range) (b : ℕ) → high (r ∷ rs) ≡ true → b < 0x80 → within r b ≡ false
unfolding high
low-not-within r rs b e h =
    let above = leb-true 0x80 r.low ((and-eq-true_iff (leb 0x80 r.low) (high rs)).0 e).0 in
    ap (λ (t : Bool). t && leb b r.high) (lt-leb r.low b (omega arith))

meant-low : {c m : ℕ} → Escape c m → m < 0x80
meant-low of_tab = omega arith
meant-low of_newline = omega arith
meant-low of_backslash = omega arith

begins-same : (rs : List Range) → high rs ≡ true → {f : List ℕ} → Field f → begins rs f ≡ begins rs (unescape f)
unfolding begins high
begins-same [] e h = refl
begins-same (r ∷ rs) e none = unfold unescape in refl
begins-same (r ∷ rs) e (byte b {f} q h) =
    ap (λ (t : Bool). within r b && t) (begins-same rs ((and-eq-true_iff (leb 0x80 r.low) (high rs)).0 e).1 h) ∙
    sym (ap (begins (r ∷ rs)) (plain-means b f q))
begins-same (r ∷ rs) e (pair c {f} q h) =
    let slash = low-not-within r rs backslash e (omega arith) in
    let stands = low-not-within r rs (meant c) e (meant-low (known-escape c q)) in
    ap (λ (t : Bool). t && begins rs (c ∷ f)) slash ∙
    sym (ap (begins (r ∷ rs)) (escape-means c f) ∙ ap (λ (t : Bool). t && begins rs (unescape f)) stands)

length-same : (n : ℕ) (alts : List (List Range)) → all_high alts ≡ true → {f : List ℕ} → Field f → length_at n alts f ≡ length_at n alts (unescape f)
unfolding length_at length_after all_high
length-same n [] e h = refl
length-same zero (rs ∷ rest) e h =
    ap (λ (t : Bool). elim t as (λ _. ℕ) [ true ↦ suc (length (drop 1 rs)) | false ↦ 0 ])
    (begins-same (drop 1 rs) ((and-eq-true_iff (high (drop 1 rs)) (all_high rest)).0 e).0 h)
length-same (suc n) (rs ∷ rest) e h = length-same n rest ((and-eq-true_iff (high (drop 1 rs)) (all_high rest)).0 e).1 h

-- the character that a byte begins is as long before a field as before its text
char-same : (b : ℕ) {f : List ℕ} → Field f → char_length (b ∷ f) ≡ char_length (b ∷ unescape f)
unfolding high all_high
char-same b {f} h =
    class-length b f ∙ length-same (class_of b) alternatives refl h ∙ sym (class-length b (unescape f))

-- so many bytes above ASCII at the start
data Rest : ℕ → List ℕ → Type 0 where
  done : {f : List ℕ} → Rest 0 f
  more : {n b : ℕ} {f : List ℕ} → 0x80 ≤ b → Rest n f → Rest (suc n) (b ∷ f)

begins-rest : (rs : List Range) → high rs ≡ true → (s : List ℕ) → begins rs s ≡ true → Rest (length rs) s
unfolding begins high
begins-rest [] e s h = done
begins-rest (r ∷ rs) e [] h = absurd cc
begins-rest (r ∷ rs) e (b ∷ s) h =
    let (this, after) = (and-eq-true_iff (leb 0x80 r.low) (high rs)).0 e in
    let (first, others) = (and-eq-true_iff (within r b) (begins rs s)).0 h in
    let low = leb-true r.low b ((and-eq-true_iff (leb r.low b) (leb b r.high)).0 first).0 in
    let above : 0x80 ≤ b = omega (arith, leb-true 0x80 r.low this) in
    more above (begins-rest rs after s others)

length_rest : (n : ℕ) (alts : List (List Range)) → all_high alts ≡ true → (s : List ℕ) (m : ℕ) → length_at n alts s ≡ suc m → Rest m s
unfolding length_at length_after all_high
length_rest n [] e s m h = absurd cc
length_rest zero (rs ∷ rest) e s m h = go (begins (drop 1 rs) s) refl h
  where
    go : (t : Bool) → begins (drop 1 rs) s ≡ t → elim t as (λ _. ℕ) [ true ↦ suc (length (drop 1 rs)) | false ↦ 0 ] ≡ suc m → Rest m s
    go true q k =
        let many : length (drop 1 rs) ≡ m = omega arith in
        rw many at (begins-rest (drop 1 rs) ((and-eq-true_iff (high (drop 1 rs)) (all_high rest)).0 e).0 s q)
    go false q k = absurd cc
length_rest (suc n) (rs ∷ rest) e s m h = length_rest n rest ((and-eq-true_iff (high (drop 1 rs)) (all_high rest)).0 e).1 s m h

char-rest : (b : ℕ) (s : List ℕ) (n : ℕ) → char_length (b ∷ s) ≡ suc n → Rest n s
unfolding high all_high
char-rest b s n e = length_rest (class_of b) alternatives refl s n (sym (class-length b s) ∙ e)

-- ---- UTF-8

is_well : Result (Unit {0}) Utf8Error → Bool
is_well (Ok a) = true
is_well (Err error) = false

well-is : (s : List ℕ) → well_formed s ≡ is_well (octets_from 0 0 s)
unfolding utf8_of is_well
well-is s = go (utf8_of s) refl
  where
    go : (u : Result (Unit {0}) Utf8Error) → utf8_of s ≡ u → well_formed s ≡ is_well (octets_from 0 0 s)
    go (Ok a) e = well-formed s e ∙ sym (ap is_well e)
    go (Err error) e = not-well-formed s error.valid_up_to e ∙ sym (ap is_well e)

-- what a character's length makes of the bytes after its first
abbrev next : ℕ → ℕ → List ℕ → Result (Unit {0}) Utf8Error
next n at s = elim n [ zero ↦ ill_formed at | suc k ↦ octets_from k (at + 1) s ]

-- from any places on: the text's bytes stand at others than the field's
octets-same : (skip i j : ℕ) {f : List ℕ} → Field f → Rest skip f → is_well (octets_from skip i f) ≡ is_well (octets_from skip j (unescape f))
unfolding octets_from is_well char_length first_length begins
octets-same skip i j none r = unfold unescape in refl
octets-same (suc skip) i j (byte b {f} q h) (more low r) =
    octets-same skip (i + 1) (j + 1) h r ∙ sym (ap (λ (s : List ℕ). is_well (octets_from (suc skip) j s)) (plain-means b f q))
octets-same zero i j (byte b {f} q h) r =
    go (char_length (b ∷ f)) refl (λ k rest. octets-same k (i + 1) (j + 1) h rest) ∙
    ap (λ (n : ℕ). is_well (next n j (unescape f))) (char-same b h) ∙
    sym (ap (λ (s : List ℕ). is_well (octets_from 0 j s)) (plain-means b f q))
  where
    go :
        (n : ℕ) →
        char_length (b ∷ f) ≡ n →
        ((k : ℕ) → Rest k f → is_well (octets_from k (i + 1) f) ≡ is_well (octets_from k (j + 1) (unescape f))) →
        is_well (next n i f) ≡ is_well (next n j (unescape f))
    go zero e same = refl
    go (suc k) e same = same k (char-rest b f k e)
octets-same (suc skip) i j (pair c q h) (more low r) = absurd (omega arith)
octets-same zero i j (pair c {f} q h) r =
    go (known-escape c q) (octets-same 0 (i + 1 + 1) (j + 1) h done) ∙ sym (ap (λ (s : List ℕ). is_well (octets_from 0 j s)) (escape-means c f))
  where
    go :
        {c m : ℕ} →
        Escape c m →
        is_well (octets_from 0 (i + 1 + 1) f) ≡ is_well (octets_from 0 (j + 1) (unescape f)) →
        is_well (octets_from 0 i (backslash ∷ c ∷ f)) ≡ is_well (octets_from 0 j (m ∷ unescape f))
    go of_tab same = same
    go of_newline same = same
    go of_backslash same = same

-- ---- NUL

nul-first : (b : ℕ) (s : List ℕ) → has_nul (b ∷ s) ≡ (eqb b 0 || has_nul s)
unfolding until_nul
nul-first zero s = unfold until in leb-suc-suc 0 (length s) ∙ leb-zero (length s)
nul-first (suc b) s =
    let other = eqb-suc-zero b in
    rw (other, until-more (is_any (0 ∷ [])) (suc b) s (any-one 0 (suc b) ∙ other)) (leb-suc-suc (suc (until_nul s)) (length s))

nul-same : {f : List ℕ} → Field f → has_nul (unescape f) ≡ has_nul f
nul-same none = unfold unescape in refl
nul-same (byte b {f} q h) = ap has_nul (plain-means b f q) ∙ nul-first b (unescape f) ∙ ap (λ (t : Bool). eqb b 0 || t) (nul-same h) ∙ sym (nul-first b f)
nul-same (pair c {f} q h) = ap has_nul (escape-means c f) ∙ go (known-escape c q) ∙ nul-same h ∙ sym (nul-first backslash (c ∷ f) ∙ other (known-escape c q))
  where
    go : {c m : ℕ} → Escape c m → has_nul (m ∷ unescape f) ≡ has_nul (unescape f)
    go of_tab = nul-first tab (unescape f)
    go of_newline = nul-first newline (unescape f)
    go of_backslash = nul-first backslash (unescape f)

    other : {c m : ℕ} → Escape c m → has_nul (c ∷ f) ≡ has_nul f
    other of_tab = nul-first 116 f
    other of_newline = nul-first 110 f
    other of_backslash = nul-first 92 f

-- ---- a text

module _ (f : List ℕ) (e : is_escaped f ≡ true) where
  pub well-formed-as-it-stands : well_formed (unescape f) ≡ well_formed f
  well-formed-as-it-stands = well-is (unescape f) ∙ sym (octets-same 0 0 0 (field f e) done) ∙ sym (well-is f)

  pub nul-as-it-stands : has_nul (unescape f) ≡ has_nul f
  nul-as-it-stands = nul-same (field f e)

  pub checked-as-it-stands : check_whole (unescape f) ≡ check_whole f
  checked-as-it-stands = rw (well-formed-as-it-stands, nul-as-it-stands)
