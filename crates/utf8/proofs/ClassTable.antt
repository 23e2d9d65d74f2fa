-- The rule of a table of classes, by one test over all of its entries.
-- Assumes nothing.
use mathlib.Core.List.{List}
use mathlib.Core.Bool.{Bool, ◌&&◌}
use Prim.Native.Nat.{ℕ}
use native.Mathlib.Omega.{arith}
use lib.Dec.{T, eqb, eqb→eq}
use lib.ListN.{length, get_or}
use Rattle.utf8.specs.Classes.{class_of, ClassTable}
use Rattle.utf8.proofs.Table.{and_left, and_right, every, at}

abbrev pub right : ℕ → ℕ → Bool
right b class = eqb class (class_of b)

-- there are 256 entries, and each is the class of its place
abbrev pub test : List ℕ → Bool
test table = eqb (length table) 256 && every right 0 table

pub class-table : (table : List ℕ) → T (test table) → ClassTable table
class-table table t =
    let size = eqb→eq (length table) 256 (and_left (eqb (length table) 256) (every right 0 table) t) in
    let rule = at right table (and_right (eqb (length table) 256) (every right 0 table) t) in
    record { entry = λ b h. eqb→eq (get_or table b 0) (class_of b) (rule b (omega arith)) }
