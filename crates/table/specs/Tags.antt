-- The tags of rows by document 01's names: one type, and one function from a row's number to it.
use Rattle.std.specs.Prelude.{ℕ, Bool, true, false, eqb, get_or, Option, Some, None, option_and_then}
use mathlib.Core.List.{List, [], ◌∷◌, map}
use Rattle.table.specs.declared.tag.Tag.{Tag}
use Rattle.table.specs.declared.tag.Tag.TheVariants.{PlainContents, PackedContents, Names, Arguments, Unknown, Content, Name, Pair}

-- the tags in the order of their numbers, from 0
abbrev pub tags : List Tag
tags = PlainContents ∷ PackedContents ∷ Names ∷ Arguments ∷ Unknown ∷ Content ∷ Name ∷ Pair ∷ []

-- the tag that a number stands for; a number over 7 is no tag's
abbrev pub tag_of : ℕ → Option Tag
tag_of n = get_or (map Some tags) n None

abbrev pub tag_number : Tag → ℕ
tag_number PlainContents = 0
tag_number PackedContents = 1
tag_number Names = 2
tag_number Arguments = 3
tag_number Unknown = 4
tag_number Content = 5
tag_number Name = 6
tag_number Pair = 7

-- whether two are one tag, or neither is a tag
unfoldable pub same_tag : Option Tag → Option Tag → Bool
same_tag (Some a) (Some b) = eqb (tag_number a) (tag_number b)
same_tag (Some a) None = false
same_tag None (Some b) = false
same_tag None None = true

-- the tag of the entries that may follow a row of a tag; None where none may
abbrev pub entry_tag : Tag → Option Tag
entry_tag PlainContents = Some Content
entry_tag PackedContents = None
entry_tag Names = Some Name
entry_tag Arguments = Some Pair
entry_tag Unknown = None
entry_tag Content = Some Content
entry_tag Name = Some Name
entry_tag Pair = Some Pair

-- and of those that may follow what stands before: a row of a tag, or what has none
abbrev pub entry_after : Option Tag → Option Tag
entry_after previous = option_and_then entry_tag previous

-- an entry follows its section's row or a row of its own tag
abbrev pub follows : Tag → Option Tag → Bool
follows own previous = same_tag (entry_after previous) (Some own)

-- whether a row of a tag begins a section; any other is an entry of the section before it
abbrev pub begins_section : Tag → Bool
begins_section PlainContents = true
begins_section PackedContents = true
begins_section Names = true
begins_section Arguments = true
begins_section Unknown = true
begins_section Content = false
begins_section Name = false
begins_section Pair = false

-- and so of a row that may have no tag, which begins none
abbrev pub opens_section : Option Tag → Bool
opens_section None = false
opens_section (Some t) = begins_section t

-- how many bytes the headers of a section of a tag have; an entry has no section's
abbrev pub headers_size : Tag → ℕ
headers_size PlainContents = 28
headers_size PackedContents = 28
headers_size Names = 18
headers_size Arguments = 20
headers_size Unknown = 8
headers_size Content = 0
headers_size Name = 0
headers_size Pair = 0

-- of what has tags, those of one tag that stand at the start, each as f has it
abbrev pub leading_by : {X A : Type 0} → (X → Option Tag) → Option Tag → (X → A) → List X → List A
leading_by own tag f [] = []
leading_by own tag f (x ∷ xs) = elim (same_tag (own x) tag) [ true ↦ f x ∷ leading_by own tag f xs | false ↦ [] ]
