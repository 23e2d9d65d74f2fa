-- Texts: an escaped text has no tab and no newline, and its escapes resolve to the text; a field whose backslashes begin escapes is the escaped text of
-- what it resolves to.
-- Assumes nothing.
use Prim.Native.Nat.{ℕ}
use mathlib.Core.Bool.{Bool, true, false, cond, ◌&&◌, ◌||◌, and-eq-true_iff}
use mathlib.Core.List.{List, [], ◌∷◌, ◌++◌, flat_map}
use mathlib.Core.Path.{◌≡◌, refl, sym, ap, ap₂, subst, ◌∙◌}
use borrow.Author.Tests.{eqb-true}
use lib.Dec.{eqb}
use Rattle.sheet.specs.Fields.{tab, newline, backslash, escaped, escape, is_escape, meant, is_escaped, unescape}
use Rattle.sheet.proofs.Codec.{Within, Codec}

-- ---- a byte at a time

-- a byte that is no backslash stands for itself
pub plain-is : (b : ℕ) (s : List ℕ) → eqb b backslash ≡ false → is_escaped (b ∷ s) ≡ is_escaped s
unfolding is_escaped
plain-is b [] e = ap (λ (t : Bool). elim t as (λ _. Bool) [ true ↦ false | false ↦ true ]) e
plain-is b (c ∷ s) e = ap (λ (t : Bool). elim t as (λ _. Bool) [ true ↦ is_escape c && is_escaped s | false ↦ is_escaped (c ∷ s) ]) e

pub plain-means : (b : ℕ) (s : List ℕ) → eqb b backslash ≡ false → unescape (b ∷ s) ≡ b ∷ unescape s
unfolding unescape
plain-means b [] e = refl
plain-means b (c ∷ s) e = ap (λ (t : Bool). elim t as (λ _. List ℕ) [ true ↦ meant c ∷ unescape s | false ↦ b ∷ unescape (c ∷ s) ]) e

-- a backslash and what follows it stand for one byte
pub escape-is : (c : ℕ) (s : List ℕ) → is_escaped (backslash ∷ c ∷ s) ≡ (is_escape c && is_escaped s)
unfolding is_escaped
escape-is c s = refl

pub escape-means : (c : ℕ) (s : List ℕ) → unescape (backslash ∷ c ∷ s) ≡ meant c ∷ unescape s
unfolding unescape
escape-means c s = refl

-- ---- what is escaped

-- a byte as it is escaped: by itself, or by an escape
data Shown (b : ℕ) : List ℕ → Type 0 where
  itself : eqb b backslash ≡ false → eqb b tab ≡ false → eqb b newline ≡ false → Shown b (b ∷ [])
  by_escape : (c : ℕ) → is_escape c ≡ true → Within (c ∷ []) → meant c ≡ b → Shown b (backslash ∷ c ∷ [])

shown : (b : ℕ) → Shown b (escaped b)
shown b = go (eqb b backslash) (eqb b tab) (eqb b newline) refl refl refl
  where
    go :
        (x y z : Bool) →
        eqb b backslash ≡ x →
        eqb b tab ≡ y →
        eqb b newline ≡ z →
        Shown b (cond x (backslash ∷ 92 ∷ []) (cond y (backslash ∷ 116 ∷ []) (cond z (backslash ∷ 110 ∷ []) (b ∷ []))))
    go true y z e f g = by_escape 92 refl ((refl, tt), (refl, tt)) (sym (eqb-true b backslash e))
    go false true z e f g = by_escape 116 refl ((refl, tt), (refl, tt)) (sym (eqb-true b tab f))
    go false false true e f g = by_escape 110 refl ((refl, tt), (refl, tt)) (sym (eqb-true b newline g))
    go false false false e f g = itself e f g

module _ (b : ℕ) (s : List ℕ) where
  shown-is : {f : List ℕ} → Shown b f → is_escaped (f ++ s) ≡ is_escaped s
  shown-is (itself e f g) = plain-is b s e
  shown-is (by_escape c e w m) = escape-is c s ∙ ap (λ (t : Bool). t && is_escaped s) e

  shown-means : {f : List ℕ} → Shown b f → unescape (f ++ s) ≡ b ∷ unescape s
  shown-means (itself e f g) = plain-means b s e
  shown-means (by_escape c e w m) = escape-means c s ∙ ap (λ (x : ℕ). x ∷ unescape s) m

  shown-within : {f : List ℕ} → Shown b f → Within s → Within (f ++ s)
  shown-within (itself e f g) (t, n) = ((f, t), (g, n))
  shown-within (by_escape c e (u, m) q) (t, n) = ((refl, (u.0, t)), (refl, (m.0, n)))

escape-one : (text : List ℕ) → is_escaped (escape text) ≡ true
unfolding escape flat_map
escape-one [] = unfold is_escaped in refl
escape-one (b ∷ text) = shown-is b (flat_map escaped text) (shown b) ∙ escape-one text

pub escape-back : (text : List ℕ) → unescape (escape text) ≡ text
unfolding escape flat_map
escape-back [] = unfold unescape in refl
escape-back (b ∷ text) = shown-means b (flat_map escaped text) (shown b) ∙ ap (λ (l : List ℕ). b ∷ l) (escape-back text)

escape-within : (text : List ℕ) → Within (escape text)
unfolding escape flat_map
escape-within [] = (tt, tt)
escape-within (b ∷ text) = shown-within b (flat_map escaped text) (shown b) (escape-within text)

-- ---- what is read

-- an escape by its second byte, with what it stands for
pub data Escape : ℕ → ℕ → Type 0 where
  of_tab : Escape 116 tab
  of_newline : Escape 110 newline
  of_backslash : Escape 92 backslash

pub known-escape : (c : ℕ) → is_escape c ≡ true → Escape c (meant c)
known-escape c e = go (eqb c 92) (eqb c 116) (eqb c 110) refl refl refl e
  where
    go :
        (x y z : Bool) →
        eqb c 92 ≡ x →
        eqb c 116 ≡ y →
        eqb c 110 ≡ z →
        (x || y || z) ≡ true →
        Escape c (cond y tab (cond z newline backslash))
    go x true z e f g h = rw (eqb-true c 116 f) of_tab
    go x false true e f g h = rw (eqb-true c 110 g) of_newline
    go true false false e f g h = rw (eqb-true c 92 e) of_backslash
    go false false false e f g h = absurd cc

-- what stands for a byte is how the byte is escaped
meant-escaped : {c m : ℕ} → Escape c m → escaped m ≡ backslash ∷ c ∷ []
meant-escaped of_tab = refl
meant-escaped of_newline = refl
meant-escaped of_backslash = refl

itself-escaped : (b : ℕ) → eqb b backslash ≡ false → eqb b tab ≡ false → eqb b newline ≡ false → escaped b ≡ b ∷ []
itself-escaped b e f g = rw (e, f, g)

-- a field whose backslashes begin escapes, by what it begins with
pub data Field : List ℕ → Type 0 where
  none : Field []
  byte : (b : ℕ) {f : List ℕ} → eqb b backslash ≡ false → Field f → Field (b ∷ f)
  pair : (c : ℕ) {f : List ℕ} → is_escape c ≡ true → Field f → Field (backslash ∷ c ∷ f)

pub field : (f : List ℕ) → is_escaped f ≡ true → Field f
unfolding is_escaped
field [] e = none
field (b ∷ []) e = go (eqb b backslash) refl e
  where
    go : (is : Bool) → eqb b backslash ≡ is → elim is as (λ _. Bool) [ true ↦ false | false ↦ true ] ≡ true → Field (b ∷ [])
    go true q h = absurd cc
    go false q h = byte b q none
field (b ∷ c ∷ f) e = go (eqb b backslash) refl e (field (c ∷ f)) (field f)
  where
    go :
        (is : Bool) →
        eqb b backslash ≡ is →
        elim is as (λ _. Bool) [ true ↦ is_escape c && is_escaped f | false ↦ is_escaped (c ∷ f) ] ≡ true →
        (is_escaped (c ∷ f) ≡ true → Field (c ∷ f)) →
        (is_escaped f ≡ true → Field f) →
        Field (b ∷ c ∷ f)
    go true q h next after =
        let (this, rest) = (and-eq-true_iff (is_escape c) (is_escaped f)).0 h in
        subst (λ (x : ℕ). Field (x ∷ c ∷ f)) (sym (eqb-true b backslash q)) (pair c this (after rest))
    go false q h next after = byte b q (next h)

escape-field : {f : List ℕ} → Field f → Within f → escape (unescape f) ≡ f
unfolding escape flat_map
escape-field none w = unfold unescape in refl
escape-field (byte b {f} e h) ((t, w), (n, v)) =
    ap escape (plain-means b f e) ∙ ap₂ (λ (x y : List ℕ). x ++ y) (itself-escaped b e t n) (escape-field h (w, v))
escape-field (pair c {f} e h) ((t, (u, w)), (n, (m, v))) =
    ap escape (escape-means c f) ∙ ap₂ (λ (x y : List ℕ). x ++ y) (meant-escaped (known-escape c e)) (escape-field h (w, v))

pub text-codec : Codec (λ (text : List ℕ). Unit {0}) escape is_escaped unescape
text-codec = record {
  within = λ text h. escape-within text;
  one = λ text h. escape-one text;
  back = λ text h. escape-back text;
  good = λ f e. tt;
  again = λ f w e. escape-field (field f e) w;
}
