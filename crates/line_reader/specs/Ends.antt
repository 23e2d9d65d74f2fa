-- Where the parts of a line end; only the code goes this way.
use Rattle.std.specs.Prelude.{ℕ, zero, suc, ◌+◌, cond, List, [], ◌∷◌, ltb, length, drop}
use Rattle.find.specs.Find.{until, is_any}
use Rattle.sheet.specs.Fields.{tab}

-- the end of the part at a place: the next tab, or the line's end
abbrev pub part_end : List ℕ → ℕ → ℕ
part_end line at = at + until (is_any (tab ∷ [])) (drop at line)

-- the end of the part after one that ends at a place; that place where none follows
abbrev pub next_end : List ℕ → ℕ → ℕ
next_end line end = cond (ltb end (length line)) (part_end line (end + 1)) end

-- the end of the part that follows so many others from a place on
unfoldable pub end_from : List ℕ → ℕ → ℕ → ℕ
end_from line at zero = part_end line at
end_from line at (suc k) = next_end line (end_from line at k)
