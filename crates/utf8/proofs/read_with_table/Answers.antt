-- The rule of the table of classes is a test at each of its 256 entries, which antt computes.
use Rattle.utf8.specs.Classes.{place_in, class_of}
use Rattle.utf8.proofs.ClassTable.{class-table}
use Rattle.utf8.proofs.read_with_table.Goals as goal

pub invariant_of-read_octets : goal.invariant_of-read_octets
unfolding class_of place_in
invariant_of-read_octets c = record { of_each_byte = class-table _ tt }
