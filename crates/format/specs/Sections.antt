-- What an SRCI payload says: its sections, as DxilContainer.h's DxilSourceInfo records have them. Texts are without their terminators.
use Rattle.std.specs.Prelude.{ℕ, List}

-- an entry of a names section
pub record Name : Type 0 where
  pub text : List ℕ
  -- the size of the content that bears the name, with its terminator
  pub content_size : ℕ

-- a compiler argument
pub record Pair : Type 0 where
  pub name : List ℕ
  pub value : List ℕ

pub data Section : Type 0 where
  -- contents stored as they are: the header field, which is kept verbatim, and the texts
  plain : ℕ → List (List ℕ) → Section
  -- contents stored as a zlib stream: the header field, the stream, the count and the uncompressed bytes that it is said to have
  packed : ℕ → List ℕ → ℕ → ℕ → Section
  names : List Name → Section
  arguments : List Pair → Section
  -- a section of another kind: the kind, and all bytes after the section header
  unknown : ℕ → List ℕ → Section
