-- What a slice pattern or an open range leaves of bytes: those from an index on.
-- Assumes nothing.
use Rattle.std.proofs.Common.{◌≡◌, ℕ, ◌-◌, List, length, take, drop, ap, ◌∙◌}
use Rattle.std.proofs.lemmas.List.{take_rest, length-drop}

abbrev pub from : ℕ → List ℕ → List ℕ
from n s = take (length s - n) (drop n s)

pub from-is : (n : ℕ) (s : List ℕ) → from n s ≡ drop n s
from-is n s = take_rest s n

pub length-from : (n : ℕ) (s : List ℕ) → length (from n s) ≡ length s - n
length-from n s = ap length (from-is n s) ∙ length-drop n s
