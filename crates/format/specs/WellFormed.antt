-- What document 01 asks of sections that are to stand in a payload.
use Rattle.std.specs.Prelude.{ℕ, ◌%◌, ◌^◌, ◌≤◌, ◌<◌, true, false, List, [], ◌∷◌, ◌≡◌, length, get_or}
use Rattle.utf8.specs.Rfc3629.{well_formed}
use Rattle.find.specs.Nul.{has_nul}
use Rattle.format.specs.Sections.{Name, Pair, Section, plain, packed, names, arguments, unknown}

-- bytes are numbers below 256
abbrev pub Bytes : List ℕ → Type 0
Bytes s = (k : ℕ) → get_or s k 0 < 256

-- words are numbers below 2 to the 32, as a table of u32s holds them
abbrev pub Words : List ℕ → Type 0
Words t = (k : ℕ) → get_or t k 0 < 2 ^ 32

abbrev pub All : {A : Type 0} → (A → Type 0) → List A → Type 0
All P [] = Unit {0}
All P (a ∷ rest) = P a × All P rest

-- a text: UTF-8, with no NUL inside
pub record Text (s : List ℕ) : Type 0 where
  pub utf8 : well_formed s ≡ true
  pub closed : has_nul s ≡ false

-- a name, whose content size may be any number of its field
pub record NameOk (n : Name) : Type 0 where
  pub text : Text n.text
  pub size : n.content_size < 2 ^ 32

pub record PairOk (p : Pair) : Type 0 where
  pub name : Text p.name
  pub value : Text p.value

-- texts are texts, numbers fit their fields, and an unknown section has an unknown kind and a multiple of 4 bytes
abbrev pub WellFormed : Section → Type 0
WellFormed (plain header texts) = (header < 2 ^ 32) × All Text texts
WellFormed (packed header stream count uncompressed) = (header < 2 ^ 32) × Bytes stream × (count < 2 ^ 32) × (uncompressed < 2 ^ 32)
WellFormed (names ns) = All NameOk ns
WellFormed (arguments ps) = All PairOk ps
WellFormed (unknown kind bytes) = (3 ≤ kind) × (kind ≤ 65535) × Bytes bytes × (length bytes % 4 ≡ 0)
