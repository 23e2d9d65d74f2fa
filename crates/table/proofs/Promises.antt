-- The promises of specs/Promises.antt, each proved under its name.
use Prim.Native.Nat.{zero, suc}
use mathlib.Core.Path.{refl}
use native.Mathlib.Omega.{arith}
use borrow.Author.Tests.{le-ltb}
use lib.Seq.{get_or-set_same}
use Rattle.table.specs.Promises.{NumberHasTag, TagHasNumber, TableKeepsRows, RowsKeepTable, StoredRowIsThere}
use Rattle.table.specs.Rows.{no_row, rows_of}
use Rattle.table.specs.declared.tag.Tag.TheVariants.{PlainContents, PackedContents, Names, Arguments, Unknown, Content, Name, Pair}
use Rattle.table.proofs.Rows.{length-rows_of, rows_of-table_of, table_of-rows_of, rows_of-store_row}

pub number-has-tag : NumberHasTag
number-has-tag PlainContents = refl
number-has-tag PackedContents = refl
number-has-tag Names = refl
number-has-tag Arguments = refl
number-has-tag Unknown = refl
number-has-tag Content = refl
number-has-tag Name = refl
number-has-tag Pair = refl

pub tag-has-number : TagHasNumber
tag-has-number zero = refl
tag-has-number (suc zero) = refl
tag-has-number (suc (suc zero)) = refl
tag-has-number (suc (suc (suc zero))) = refl
tag-has-number (suc (suc (suc (suc zero)))) = refl
tag-has-number (suc (suc (suc (suc (suc zero))))) = refl
tag-has-number (suc (suc (suc (suc (suc (suc zero)))))) = refl
tag-has-number (suc (suc (suc (suc (suc (suc (suc zero))))))) = refl
tag-has-number (suc (suc (suc (suc (suc (suc (suc (suc n)))))))) = rw (le-ltb (suc (suc (suc (suc (suc (suc (suc (suc n)))))))) 8 (omega arith)) refl

pub table-keeps-rows : TableKeepsRows
table-keeps-rows rs = rows_of-table_of rs

pub rows-keep-table : RowsKeepTable
rows-keep-table t h = table_of-rows_of t h

pub stored-row-is-there : StoredRowIsThere
stored-row-is-there t i r h =
    rw (rows_of-store_row t i r) (get_or-set_same (rows_of t) i r no_row (rw (length-rows_of t) h))
