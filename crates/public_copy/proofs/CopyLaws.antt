-- The copy section by section: what it has for the next section, and for those after it.
-- Assumes nothing.
use Rattle.std.specs.Prelude.{cond, is_ok}
use Prim.Native.Nat.{ℕ, ◌+◌, ◌≤◌}
use mathlib.Core.Bool.{Bool, true, false}
use mathlib.Core.List.{List, [], ◌∷◌, flat_map, append-nil}
use mathlib.Core.Path.{◌≡◌, refl, ap, ◌∙◌}
use mir.Val.{bool_byte}
use Rattle.std.specs.List.{count_by}
use Rattle.std.proofs.lemmas.List.Sums.{sum_by-cons}
use native.Mathlib.Omega.{arith}
use lib.ListN.{length, length-append}
use Rattle.wire.specs.Number.{u16_at, u32_at}
use Rattle.wire.proofs.NumberLaws.{length-bytes_of}
use Rattle.layout.proofs.Checked.{is-good}
use Rattle.layout.specs.Kinds.{known}
use Rattle.layout.specs.declared.section_type.SourceInfoSectionType.{SourceInfoSectionType}
use Rattle.layout.specs.declared.section_type.SourceInfoSectionType.TheVariants.{SourceContents, SourceNames, Arguments, Unknown}
use Rattle.layout.specs.declared.compression.SourceCompression.{SourceCompression}
use Rattle.layout.specs.Spans.{part}
use Rattle.format.specs.CopyWalk.{contents_copy, names_copy, section_copy, copy_of, copy_at, copy}
use Rattle.format.specs.Encoding.{limit}
use Rattle.format.specs.Parse.{parse}
use Rattle.format.specs.Read.{accepted}
use Rattle.format.specs.Walk.{compression_at, places_from, places}
use Rattle.format.specs.WellFormed.{Bytes}
use Rattle.format.proofs.Measured.{copy-by-walk}
use Rattle.format.proofs.Secrecy.{copy-is-public}
use Rattle.format.proofs.SectionLaws.{parse-good}
use Rattle.accepted.proofs.Accepted.{made-walked}
use Rattle.accepted.specs.Sections.{Found, sections_from, sections}
use Rattle.public_copy.specs.Joined.{joined, copied}

-- a kind has a section where it is known
pub copy-known : (p : List ℕ) (kind : SourceInfoSectionType) (at : ℕ) → length (section_copy p kind at) ≡ cond (known kind) 1 0
unfolding section_copy
copy-known p SourceContents at = refl
copy-known p SourceNames at = refl
copy-known p Arguments at = refl
copy-known p (Unknown kind) at = refl

-- a section alone
pub joined-one : (section : List ℕ) → joined (section ∷ []) ≡ section
unfolding flat_map
joined-one section = append-nil section

-- what is left of a section, by what it holds
module _ (p : List ℕ) (kind : SourceInfoSectionType) (at : ℕ) where
  abbrev left : List ℕ
  left = joined (section_copy p kind at)

  pub contents-left : (c : SourceCompression) (count : ℕ) → kind ≡ SourceContents → compression_at p at ≡ c → count ≡ u32_at p (at + 24) → left ≡ contents_copy c count
  unfolding section_copy
  contents-left c count is stored many = rw (is, stored, many) (joined-one (contents_copy c (u32_at p (at + 24))))

  pub names-left : kind ≡ SourceNames → left ≡ names_copy p at
  unfolding section_copy
  names-left is = rw is (joined-one (names_copy p at))

  pub arguments-left : kind ≡ Arguments → left ≡ part p at (u32_at p at)
  unfolding section_copy
  arguments-left is = rw is (joined-one (part p at (u32_at p at)))

  pub unknown-left : (number : ℕ) → kind ≡ Unknown number → left ≡ []
  unfolding section_copy flat_map
  unknown-left number is = rw is refl

-- sections, and the main header before them
pub copy-long : (sections : List (List ℕ)) → length (copy_of sections) ≡ 8 + length (joined sections)
unfolding copy_of
copy-long sections = simp (length-append, length-bytes_of) (omega arith)

-- section by section it is the copy of the walk
pub copied-all : (p : List ℕ) (count at : ℕ) → flat_map copied (sections_from p count at) ≡ joined (flat_map (copy_at p) (places_from p count at))
copied-all p count at = made-walked p section_copy (λ (s : List ℕ). s) count at

-- it is within the limit, since it is not longer than the payload
pub copied-within : (p : List ℕ) → Bytes p → is_ok (parse p) ≡ true → 8 + length (flat_map copied (sections p)) ≤ limit
unfolding accepted copy places
copied-within p bytes good =
    let (rows, found) = is-good (parse p) good in
    let (c, made, accepted, facts, again, short) = copy-is-public p (bytes, good) in
    let same : copy p ≡ c = cc (copy-by-walk.finds p rows bytes found) in
    let long = copy-long (flat_map (copy_at p) (places_from p (u16_at p 6) 8)) in
    omega (arith, (parse-good p rows found).0, short, ap length same, long, ap length (copied-all p (u16_at p 6) 8))

-- ---- how many sections there are

abbrev pub known_count : List Found → ℕ
known_count ss = count_by (λ (s : Found). known s.kind) ss

-- the next of those that are left, counted by its kind
pub known-next :
    (s : Found) {left rest : List Found} (count all : ℕ) →
    left ≡ s ∷ rest →
    count + known_count left ≡ all →
    count + bool_byte (known s.kind) + known_count rest ≡ all
known-next s {left = left} {rest = rest} count all next e = go (known s.kind) refl
  where
    more : known_count left ≡ cond (known s.kind) 1 0 + known_count rest
    more = ap known_count next ∙ sum_by-cons (λ (x : Found). cond (known x.kind) 1 0) s rest

    go : (b : Bool) → known s.kind ≡ b → count + bool_byte b + known_count rest ≡ all
    go true is = let one = rw is at more in omega (arith, e, one)
    go false is = let none = rw is at more in omega (arith, e, none)
